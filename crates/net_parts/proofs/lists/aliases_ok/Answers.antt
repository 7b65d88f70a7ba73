-- Those passed are right and marked; one that is marked decides.
use Rattle.std.proofs.Common.{◌≡◌, ℕ, ◌+◌, ◌-◌, ◌<◌, ◌≤◌, ◌∙◌, List, ◌∷◌, Bool, true, false, ◌&&◌, length, drop, get_or, set, replicate, sym, ap, subst, arith}
use Rattle.std.proofs.lemmas.List.{drop_all, drop_more}
use Rattle.std.specs.List.{list_all}
use Rattle.values.proofs.PairLaws.{tails}
use Rattle.nets.specs.declared.Alias.{Alias}
use Rattle.nets.specs.Sound.{alias_ok, aliases_differ}
use Rattle.nets.specs.View.{no_alias}
use Rattle.net_parts.specs.SoundParts.{alias_place}
use Rattle.net_parts.proofs.DistinctLaws.{alias_test, aliases_are}
use Rattle.net_parts.proofs.MarkLaws.{Passed, none_passed, one-passed, one-twice, tails-dropped}
use Rattle.net_parts.proofs.lists.aliases_ok.Goals as goal

module _ (l : List Alias) where
  start : Passed (replicate 64 false) (drop (length l) l)
  start = subst (Passed (replicate 64 false)) (sym (drop_all (length l) l (omega arith))) none_passed

  done : (i : ℕ) {seen : List Bool} → i ≤ 0 → Passed seen (drop i l) → true ≡ (list_all alias_ok l && aliases_differ l)
  done i h p = let z : i ≡ 0 = omega arith in sym (rw z at p.right) ∙ aliases_are l

  -- the alias before place `i`
  module _ (i : ℕ) (h : 0 < i) (k : i ≤ length l) where
    abbrev alias : Alias
    alias = get_or l (i - 1) no_alias

    before : drop (i - 1) l ≡ alias ∷ drop i l
    before =
        let q : i - 1 + 1 ≡ i = omega arith in
        drop_more l (i - 1) no_alias (omega arith) ∙ ap (λ (j : ℕ). alias ∷ drop j l) q

    fails : tails alias_test (alias ∷ drop i l) ≡ false → false ≡ (list_all alias_ok l && aliases_differ l)
    fails e = sym (tails-dropped alias_test l (i - 1) (ap (tails alias_test) before ∙ e)) ∙ aliases_are l

    module _ {t : Bool} (q : t ≡ alias_ok alias) {seen : List Bool} (p : Passed seen (drop i l)) (y : t ≡ true) {at : ℕ} (e : at ≡ alias_place alias) where
      twice : get_or seen at false ≡ true → false ≡ (list_all alias_ok l && aliases_differ l)
      twice z = fails (one-twice p alias (sym q ∙ y) (rw e at z))

      more : get_or seen at false ≡ false → Passed (set seen at true) (drop (i - 1) l)
      more z = rw (before, e) (one-passed p alias (sym q ∙ y) (rw e at z))

pub loop-i-init : goal.loop-i-init
loop-i-init c = start c.args.aliases.now

pub returns-then-seen-at : goal.returns-then-seen-at
returns-then-seen-at c = twice c.args.aliases.now c.loop-i.i c.loop-i-test.true c.loop-i.auto.i c.alias_ok.ensures c.loop-i.invariant c.if-not-alias_ok.false c.alias_place-at.ensures c.if-seen-at.true

pub loop-i-preserved : goal.loop-i-preserved
loop-i-preserved c = more c.args.aliases.now c.loop-i.i c.loop-i-test.true c.loop-i.auto.i c.alias_ok.ensures c.loop-i.invariant c.if-not-alias_ok.false c.alias_place-at.ensures c.if-seen-at.false

pub returns : goal.returns
returns c = done c.args.aliases.now c.loop-i.i c.loop-i-test.false c.loop-i.invariant
