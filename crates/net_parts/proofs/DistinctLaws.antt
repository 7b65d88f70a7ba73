-- No two aliases, tables or formals alike: each element tested with those after it. Assumes nothing.
use Prim.Native.Nat.{ℕ, ◌<◌}
use mathlib.Core.Path.{◌≡◌, refl, sym, ap, ap₂, ◌∙◌, subst}
use mathlib.Core.Bool.{Bool, true, false, not, ◌&&◌, ◌||◌}
use mathlib.Core.List.{List, [], ◌∷◌, map}
use Rattle.std.specs.Prelude.{Option, None, Some}
use native.Mathlib.Omega.{arith}
use lib.Dec.{T, eqb}
use lib.ListN.{length, get_or, get_or-eq_default}
use Rattle.values.specs.declared.Operand.{Operand}
use Rattle.values.specs.Lists.{among, present}
use Rattle.std.specs.List.{list_all, list_any}
use Rattle.values.specs.Operands.{formal_of, formals}
use Rattle.values.proofs.ListLaws.{all-at, found-any}
use Rattle.values.proofs.Firsts.{length-firsts, firsts_at}
use Rattle.nets.specs.View.{no_alias, aliases_of}
use Rattle.values.proofs.PairLaws.{tails, tails-and, tails-all}
use Rattle.nets.specs.declared.Alias.{Alias}
use Rattle.nets.specs.Nets.{Table}
use Rattle.nets.specs.Tables.{is_at, rows_fit, distinct}
use Rattle.nets.specs.Sound.{table_ok, alias_ok, same_alias, aliases_differ, differ}
use Rattle.net_parts.specs.SoundParts.{formal_is, formal_new}

-- ── aliases ──

abbrev pub alias_new : Alias → List Alias → Bool
alias_new a others = not (list_any (same_alias a) others)

abbrev pub alias_test : Alias → List Alias → Bool
alias_test a others = alias_ok a && alias_new a others

aliases-differ : (l : List Alias) → tails alias_new l ≡ aliases_differ l
aliases-differ [] = refl
aliases-differ (a ∷ l) = ap (λ (t : Bool). alias_new a l && t) (aliases-differ l)

pub aliases_are : (l : List Alias) → tails alias_test l ≡ (list_all alias_ok l && aliases_differ l)
aliases_are l = tails-and (λ a others. alias_ok a) alias_new l ∙ ap₂ ◌&&◌ (tails-all alias_ok l) (aliases-differ l)

-- past the array stands an alias that is not in range
pub aliases-over : (l : List Alias) (m n : ℕ) → length l ≡ m → m < n → false ≡ (list_all alias_ok (aliases_of n l) && aliases_differ (aliases_of n l))
aliases-over l m n e h = go (list_all alias_ok (aliases_of n l)) (λ k. k)
  where
    padding : get_or (aliases_of n l) m no_alias ≡ no_alias
    padding = firsts_at (λ (a : Alias). a) no_alias n l m no_alias h ∙ get_or-eq_default l no_alias (omega arith)

    go : (t : Bool) → (T t → T (list_all alias_ok (aliases_of n l))) → false ≡ (t && aliases_differ (aliases_of n l))
    go false k = refl
    go true k =
        absurd (subst (λ (a : Alias). T (alias_ok a)) padding
        (all-at alias_ok (aliases_of n l) m no_alias (k tt) (omega (arith, length-firsts (λ (a : Alias). a) no_alias n l))))

-- ── tables ──

abbrev pub table_new : Table → List Table → Bool
table_new t others = not (list_any (is_at t.site t.name) others)

abbrev pub table_test : Table → List Table → Bool
table_test t others = (table_ok t && rows_fit t) && table_new t others

names-differ : (l : List Table) → tails table_new l ≡ distinct l
unfolding distinct
names-differ [] = refl
names-differ (t ∷ l) = ap₂ (λ (b c : Bool). not b && c) (sym (found-any (is_at t.site t.name) l)) (names-differ l)

pub tables_are : (l : List Table) → tails table_test l ≡ (list_all table_ok l && list_all rows_fit l && distinct l)
tables_are l =
    tails-and (λ t others. table_ok t && rows_fit t) table_new l
    ∙ ap₂ ◌&&◌
    (tails-and (λ t others. table_ok t) (λ t others. rows_fit t) l ∙ ap₂ ◌&&◌ (tails-all table_ok l) (tails-all rows_fit l))
    (names-differ l)

-- what is searched for in what is seen of the elements
pub any-map : {A B : Type 0} (p : B → Bool) (f : A → B) (l : List A) → list_any (λ a. p (f a)) l ≡ list_any p (map f l)
any-map p f [] = refl
any-map p f (a ∷ l) = ap (p (f a) ||◌) (any-map p f l)

-- ── operands ──

-- a formal that is none of those after it
abbrev pub operand_new : Operand → List Operand → Bool
operand_new o others = formal_new (formal_of o) (formals others)

pub formals-differ : (l : List Operand) → tails operand_new l ≡ differ (formals l)
formals-differ [] = refl
formals-differ (o ∷ l) = go (formal_of o) (formals-differ l)
  where
    go : (m : Option ℕ) → tails operand_new l ≡ differ (formals l)
        → (formal_new m (formals l) && tails operand_new l) ≡ differ (present (m ∷ map formal_of l))
    go None ih = ih
    go (Some i) ih = ap (λ (t : Bool). not (among i (formals l)) && t) ih

-- a formal among operands, and its variable among theirs
pub formal-among : (i : ℕ) (l : List Operand) → list_any (λ o. formal_is i (formal_of o)) l ≡ among i (formals l)
formal-among i [] = refl
formal-among i (o ∷ l) = go (formal_of o) (formal-among i l)
  where
    go : (m : Option ℕ) → list_any (λ o. formal_is i (formal_of o)) l ≡ among i (formals l)
        → (formal_is i m || list_any (λ o. formal_is i (formal_of o)) l) ≡ among i (present (m ∷ map formal_of l))
    go None ih = ih
    go (Some j) ih = ap (eqb i j ||◌) ih
