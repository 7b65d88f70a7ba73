-- Plans and rules: what a template's formals bind, and that sources, terms and wants give for a row what operands and templates give. Assumes nothing.
use Prim.Native.Nat.{ℕ, suc, ◌+◌, ◌≤◌, ◌<◌}
use mathlib.Core.Path.{◌≡◌, refl, ap, ap₂, sym, ◌∙◌, subst}
use mathlib.Core.Bool.{Bool, true, false, cond, ◌&&◌}
use mathlib.Core.List.{List, [], ◌∷◌, map}
use Rattle.std.specs.Prelude.{Option, None, Some}
use native.Mathlib.Omega.{arith}
use borrow.Author.Tests.{eqb-true, eqb-false, ltb-true, ltb-false, lt-ltb}
use lib.Dec.{eqb, ltb, leb-suc-suc, leb-suc-zero}
use lib.ListN.{length, drop, get_or, set, length-map, get_or-eq_default}
use lib.Seq.{drop-cons, get_or-set_same, get_or-set_other}
use Rattle.values.specs.declared.Value.{Value}
use Rattle.values.specs.Operands.{Got}
use Rattle.values.specs.declared.Operand.{Operand}
use Rattle.values.specs.declared.Operand.TheVariants.{Absent, ConstInt, ConstText, ConstLoc, Var, Plus, Formal}
use Rattle.values.specs.Lists.{firsts}
use Rattle.values.specs.Operands.{Vars, eval, add, formal_of, bind, bind_to}
use Rattle.values.proofs.BindLaws.{length_to, length-bind}
use Rattle.values.proofs.Firsts.{length-firsts, firsts_at, map-firsts}
use Rattle.rows.specs.declared.Row.{Row}
use Rattle.rows.specs.declared.Origin.{Origin}
use Rattle.rows.specs.declared.Origin.TheVariants.{Fixed, Column}
use Rattle.rows.specs.declared.Want.{Want}
use Rattle.rows.specs.Matching.{matches, matches1, row_vars}
use Rattle.rows.specs.View.{no_cell, values_of}
use Rattle.rows.specs.Plans.{is_formal_of, formal_place, origin_of, term_of, got_at, origin_got, term_got, want_of, meets, wants_met, no_wanted, want_at}

-- ── what formals bind ──

module _ {A : Type 0} where
  -- variable `i`: `h` gives what stands at a place of T, `d` what is read past an end, `x` what the variable held before T
  module _ (h : ℕ → A) (d x : A) (i : ℕ) where
    -- after one place more, `at` the last place of a formal of it so far
    bound-one : (at n : ℕ) (e : List A) (o : Option ℕ) → n < 4 → i < length e → get_or e i d ≡ cond (ltb at 4) (h at) x →
        get_or (bind_to o (h n) e) i d ≡ cond (ltb (cond (is_formal_of i o) n at) 4) (h (cond (is_formal_of i o) n at)) x
    bound-one at n e None low have so_far = so_far
    bound-one at n e (Some j) low have so_far = go (eqb i j) refl
      where
        go : (b : Bool) → eqb i j ≡ b → get_or (set e j (h n)) i d ≡ cond (ltb (cond b n at) 4) (h (cond b n at)) x
        go true q = rw (sym (eqb-true i j q), lt-ltb n 4 low) (get_or-set_same e i (h n) d have)
        go false q = get_or-set_other e j i (h n) d (eqb-false i j q) ∙ so_far

    -- after the places of T from `n` on
    pub bind-at : (t : List Operand) (g e : List A) (at n : ℕ) → n + length t ≡ length g → length g ≤ 4 → ((k : ℕ) → k < length g → get_or g k d ≡ h k) →
        i < length e → get_or e i d ≡ cond (ltb at 4) (h at) x →
        get_or (bind t (drop n g) e) i d ≡ cond (ltb (formal_place i at n t) 4) (h (formal_place i at n t)) x
    unfolding bind
    bind-at [] g e at n all short places have so_far = so_far
    bind-at (o ∷ t) g e at n all short places have so_far =
        ap (λ (l : List A). get_or (bind (o ∷ t) l e) i d) (drop-cons g n d (omega arith) ∙ ap (◌∷ drop (suc n) g) (places n (omega arith)))
        ∙ bind-at t g (bind_to (formal_of o) (h n) e) (cond (is_formal_of i (formal_of o)) n at) (suc n) (omega arith) short places
        (subst (λ (m : ℕ). i < m) (sym (length_to (formal_of o) (h n) e)) have)
        (bound-one at n e (formal_of o) (omega arith) have so_far)

-- where a variable's value comes from (`f` of its source) is what the variable holds after T's formals are bound: `g` at their places, over `k`
module _ {A : Type 0} (f : Origin → A) (e : Vars) (t : List Operand) (g k : List A) (d : A) (short : length t ≤ 4) (same : length t ≡ length g)
    (places : (j : ℕ) → j < length g → get_or g j d ≡ f (Column j)) (long : length k ≡ 16) (free : (j : ℕ) → f (Fixed (get_or e j None)) ≡ get_or k j d)
    (none-there : f (Fixed None) ≡ d) where
  pub origin_read : (i : ℕ) → f (origin_of e t i) ≡ get_or (bind t g k) i d
  unfolding origin_of
  origin_read i = go (ltb i 16) refl (ltb (formal_place i 4 0 t) 4) refl
    where
      bind_is : i < 16 → get_or (bind t g k) i d ≡ cond (ltb (formal_place i 4 0 t) 4) (f (Column (formal_place i 4 0 t))) (get_or k i d)
      bind_is low = bind-at (λ j. f (Column j)) d (get_or k i d) i t g k 4 0 (omega arith) (subst (λ (m : ℕ). m ≤ 4) same short) places (subst (λ (m : ℕ). i < m) (sym long) low) refl

      go : (b : Bool) → ltb i 16 ≡ b → (c : Bool) → ltb (formal_place i 4 0 t) 4 ≡ c →
          f (cond b (cond c (Column (formal_place i 4 0 t)) (Fixed (get_or e i None))) (Fixed None)) ≡ get_or (bind t g k) i d
      go true p true q = sym (rw q at (bind_is (ltb-true i 16 p)))
      go true p false q = free i ∙ sym (rw q at (bind_is (ltb-true i 16 p)))
      go false p c q =
          none-there
          ∙ sym (get_or-eq_default (bind t g k) d (subst (λ (m : ℕ). m ≤ i) (sym (length-bind t g k ∙ long)) (ltb-false i 16 p)))

-- ── sources and terms of a row ──

module _ (e : Vars) (t : List Operand) (n : ℕ) (long : length e ≡ 16) (short : n ≤ 4) (count : length t ≡ n) where
  short-t : length t ≤ 4
  short-t = subst (λ (m : ℕ). m ≤ 4) (sym count) short

  pub origin_got_lem : (row : Row) (i : ℕ) → origin_got (origin_of e t i) row.cells ≡ get_or (row_vars e t (values_of n row)) i None
  origin_got_lem row i =
      origin_read (λ s. origin_got s row.cells) e t (map Some (values_of n row)) e None short-t (count ∙ sym is_n_lem) places long (λ j. refl) refl i
    where
      is_n_lem : length (map Some (values_of n row)) ≡ n
      is_n_lem = length-map (values_of n row) Some ∙ length-firsts (λ (v : Value). v) no_cell n row.cells

      places : (j : ℕ) → j < length (map Some (values_of n row)) → get_or (map Some (values_of n row)) j None ≡ got_at row.cells j
      places j h =
          let low : j < n = subst (λ (m : ℕ). j < m) is_n_lem h in
          ap (λ (l : List Got). get_or l j None) (map-firsts Some (λ (v : Value). v) no_cell n row.cells)
          ∙ firsts_at (λ (c : Value). Some c) no_cell n row.cells j None low
          ∙ sym (ap (λ (b : Bool). cond b (Some (get_or row.cells j no_cell)) None) (lt-ltb j 4 (omega arith)))

  -- an operand's term gives what the operand gives with T's formals bound to the row
  pub term_got_lem : (row : Row) (o : Operand) → term_got (term_of e t o) row.cells ≡ eval (row_vars e t (values_of n row)) o
  term_got_lem row Absent = refl
  term_got_lem row (ConstInt i) = refl
  term_got_lem row (ConstText u) = refl
  term_got_lem row (ConstLoc l) = refl
  term_got_lem row (Var i) = origin_got_lem row i
  term_got_lem row (Plus i k) = ap (add k) (origin_got_lem row i)
  term_got_lem row (Formal i) = refl

-- ── wants ──

pub want_meets : (e : Vars) (o : Operand) (v : Value) → meets (want_of e o) v ≡ matches1 e o (Some v)
want_meets e Absent v = refl
want_meets e (ConstInt i) v = refl
want_meets e (ConstText u) v = refl
want_meets e (ConstLoc l) v = refl
want_meets e (Var i) v = refl
want_meets e (Plus i k) v = refl
want_meets e (Formal i) v = refl

-- wants of T's places, and of anything past them, are met exactly by the rows that T matches
module _ (e : Vars) where
  pub wants_met_lem : (ws : List Want) (cs : List Value) (t : List Operand) → length ws ≡ length cs → length t ≤ length ws →
      ((k : ℕ) → k < length ws → (get_or ws k no_wanted) ≡ want_at e t k) →
      wants_met ws cs ≡ matches e t (firsts (λ (v : Value). v) no_cell (length t) cs)
  unfolding matches
  wants_met_lem [] [] [] same short wants = refl
  wants_met_lem [] [] (f ∷ t) same short wants = absurd (omega arith)
  wants_met_lem [] (c ∷ cs) t same short wants = absurd (omega arith)
  wants_met_lem (w ∷ ws) [] t same short wants = absurd (omega arith)
  wants_met_lem (w ∷ ws) (c ∷ cs) [] same short wants =
      ap₂ ◌&&◌ (ap (λ x. meets x c) (wants 0 (omega arith))) (wants_met_lem ws cs [] (omega arith) (omega arith) (λ k h. rw leb-suc-zero (rw leb-suc-zero at (wants (suc k) (omega arith)))))
  wants_met_lem (w ∷ ws) (c ∷ cs) (f ∷ t) same short wants =
      ap₂ ◌&&◌ (ap (λ x. meets x c) (rw (lt-ltb 0 (suc (length t)) (omega arith)) at (wants 0 (omega arith))) ∙ want_meets e f c)
      (wants_met_lem ws cs t (omega arith) (omega arith) (λ k h. rw leb-suc-suc at (wants (suc k) (omega arith))))
