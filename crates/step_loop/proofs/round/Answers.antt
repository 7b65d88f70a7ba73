-- `step_loop::round` meets its contract: four tests in their order decide the answer.
use Prim.Native.Nat.{ℕ, ◌<◌}
use mathlib.Core.Path.{◌≡◌, refl, sym, ap, ap₂, subst, ◌∙◌}
use mathlib.Core.Bool.{Bool, true, false, not, ◌&&◌}
use mathlib.Core.List.{List}
use Rattle.std.specs.Prelude.{None, Some, Ok, Err}
use native.Mathlib.Omega.{arith}
use borrow.Author.Tests.{eq-eqb, ne_eqb}
use lib.Dec.{T, eqb, ltb, ltb→lt}
use lib.ListN.{length}
use Rattle.values.specs.declared.Operand.{Operand}
use Rattle.values.specs.Lists.{among, filter}
use Rattle.std.specs.List.{list_all, list_any}
use Rattle.values.specs.Operands.{Vars}
use Rattle.values.proofs.Bools.{and_l, T_of}
use Rattle.values.proofs.Firsts.{length-firsts}
use Rattle.rows.specs.declared.Operands.{Operands}
use Rattle.rows.specs.declared.Relation as Code
use Rattle.rows.specs.Relations.{Relation}
use Rattle.rows.specs.View.{no_field, no_row, values_of, operands_of, relation_of}
use Rattle.nets.specs.declared.Frame.{Frame}
use Rattle.step_thread.specs.declared.Opened.{Opened}
use Rattle.nets.specs.declared.Refusal.TheVariants.{Misfit, NotReady, Full}
use Rattle.nets.specs.Scenes.{still_to_visit}
use Rattle.nets.specs.View.{entry_of, marked}
use Rattle.step_reads.specs.ReadContracts.{flag_at}
use Rattle.step_thread.specs.ThreadContracts.{RoundAnswer, no_bindings, visit_of, ready_at, OpenedIs, RoundIs}
use Rattle.step_loop.proofs.MarkLaws.{passing-any, passing-among}
use Rattle.step_loop.proofs.round.Goals as goal

-- ── the answer of a round ──

same-round : {o p : Opened} → ◌≡◌ {A = RoundAnswer} (Ok (Some o)) (Ok (Some p)) → o ≡ p
same-round q = cc

module _ {e : Vars} {t : List Operand} {r : Relation} {f : Frame} {row : ℕ} {room : Bool} where
  misfit : eqb (length t) (length r.columns) ≡ false → RoundIs e t r f row room (Err Misfit)
  misfit h = record { answer = rw h; opened = λ p q. cc }

  module _ (fit : eqb (length t) (length r.columns) ≡ true) where
    none-ready : list_any (ready_at e t r) (visit_of f r) ≡ false → RoundIs e t r f row room (Ok None)
    none-ready h = record { answer = rw (fit, h); opened = λ p q. cc }

    module _ (some-ready : list_any (ready_at e t r) (visit_of f r) ≡ true) where
      not-ready : (among row (visit_of f r) && ready_at e t r row) ≡ false → RoundIs e t r f row room (Err NotReady)
      not-ready h = record { answer = rw (fit, some-ready, h); opened = λ p q. cc }

      module _ (row-ready : (among row (visit_of f r) && ready_at e t r row) ≡ true) where
        no_room : room ≡ false → RoundIs e t r f row room (Err Full)
        no_room h = record { answer = rw (fit, some-ready, row-ready, h); opened = λ p q. cc }

        opens : room ≡ true → {v : List ℕ} → v ≡ visit_of f r → {o : Opened} → OpenedIs e t r v row o → RoundIs e t r f row room (Ok (Some o))
        opens h {v} seen {o} is =
            record {
              answer = rw (fit, some-ready, row-ready, h);
              opened = λ p q. subst (λ (u : Opened). OpenedIs e t r (visit_of f r) row u) (same-round q) (subst (λ (w : List ℕ). OpenedIs e t r w row o) seen is);
            }

-- ── the tests ──

-- T is as long as the columns
lengths : (t : Operands) (s : Code.Relation) → eqb (length (operands_of t)) (length (relation_of s).columns) ≡ eqb t.count s.columns
lengths t s =
    ap₂ eqb (length-firsts (λ (o : Operand). o) no_field t.count t.fields) (length-firsts (λ (k : ℕ). k) 0 s.columns s.kinds)

-- the rows still to visit
module _ (s : Code.Relation) (f : Frame) (visit : List Bool) (to-visit : marked 0 visit ≡ still_to_visit (entry_of no_bindings f) s.count) where
  seen : marked 0 visit ≡ visit_of f (relation_of s)
  seen = to-visit ∙ sym (ap (still_to_visit (entry_of no_bindings f)) (length-firsts (values_of s.columns) no_row s.count s.rows))

  -- those that match
  module _ (h : T (list_all (λ (i : ℕ). ltb i s.count) (visit_of f (relation_of s)))) (p : ℕ → Bool) (ready : List Bool)
      (flags : (i : ℕ) → flag_at ready i ≡ (ltb i s.count && flag_at visit i && p i)) where
    inside : T (list_all (λ (i : ℕ). ltb i s.count) (marked 0 visit))
    inside = subst (λ (l : List ℕ). T (list_all (λ (i : ℕ). ltb i s.count) l)) (sym seen) h

    any-is : list_any p (visit_of f (relation_of s)) ≡ list_any (λ (u : Bool). u) ready
    any-is = sym (ap (list_any p) seen) ∙ sym (passing-any (λ (i : ℕ). ltb i s.count) p visit ready flags inside)

    row_is : (row : ℕ) → (among row (visit_of f (relation_of s)) && p row) ≡ flag_at ready row
    row_is row =
        sym (ap (λ (l : List ℕ). among row l && p row) seen) ∙ sym (passing-among (λ (i : ℕ). ltb i s.count) p visit ready flags inside row)

    row_in_lem : (row : ℕ) → flag_at ready row ≡ true → row < s.count
    row_in_lem row e =
        ltb→lt row s.count
        (and_l (ltb row s.count) (flag_at visit row) (and_l (ltb row s.count && flag_at visit row) (p row) (T_of _ (sym (flags row) ∙ e))))

-- ── the answers ──

fits : (t : Operands) (s : Code.Relation) → t.count ≡ s.columns → eqb (length (operands_of t)) (length (relation_of s).columns) ≡ true
fits t s h = lengths t s ∙ eq-eqb _ _ h

pub returns-then-template-source : goal.returns-then-template-source
returns-then-template-source c =
    let a = c.args in
    misfit (lengths a.template a.source ∙ ne_eqb _ _ c.if-template-source.true)

pub returns-then-not-any_place : goal.returns-then-not-any_place
returns-then-not-any_place c =
    let a = c.args in
    let p = ready_at a.vars (operands_of a.template) (relation_of a.source) in
    let some_is = any-is a.source a.frame c.to_visit-visit.result c.to_visit-visit.ensures c.requires.2 p c.ready_places-ready.result c.ready_places-ready.ensures in
    none-ready (fits a.template a.source c.if-template-source.false) (some_is ∙ sym c.any_place.ensures ∙ c.if-not-any_place.true)

pub returns-then-not-flag_in : goal.returns-then-not-flag_in
returns-then-not-flag_in c =
    let a = c.args in
    let p = ready_at a.vars (operands_of a.template) (relation_of a.source) in
    let some_is = any-is a.source a.frame c.to_visit-visit.result c.to_visit-visit.ensures c.requires.2 p c.ready_places-ready.result c.ready_places-ready.ensures in
    let here-is = row_is a.source a.frame c.to_visit-visit.result c.to_visit-visit.ensures c.requires.2 p c.ready_places-ready.result c.ready_places-ready.ensures a.row in
    not-ready (fits a.template a.source c.if-template-source.false) (some_is ∙ sym c.any_place.ensures ∙ c.if-not-any_place.false)
    (here-is ∙ sym c.flag_in.ensures ∙ c.if-not-flag_in.true)

pub returns-then-not-room : goal.returns-then-not-room
returns-then-not-room c =
    let a = c.args in
    let p = ready_at a.vars (operands_of a.template) (relation_of a.source) in
    let some_is = any-is a.source a.frame c.to_visit-visit.result c.to_visit-visit.ensures c.requires.2 p c.ready_places-ready.result c.ready_places-ready.ensures in
    let here-is = row_is a.source a.frame c.to_visit-visit.result c.to_visit-visit.ensures c.requires.2 p c.ready_places-ready.result c.ready_places-ready.ensures a.row in
    no_room (fits a.template a.source c.if-template-source.false) (some_is ∙ sym c.any_place.ensures ∙ c.if-not-any_place.false)
    (here-is ∙ sym c.flag_in.ensures ∙ c.if-not-flag_in.false) (c.if-not-room.true)

pub opened-requires : goal.opened-requires
opened-requires c =
    let a = c.args in
    let p = ready_at a.vars (operands_of a.template) (relation_of a.source) in
    let here_in = row_in_lem a.source a.frame c.to_visit-visit.result c.to_visit-visit.ensures c.requires.2 p c.ready_places-ready.result c.ready_places-ready.ensures a.row in
    (c.requires.0, c.requires.1, c.if-template-source.false, here_in (sym c.flag_in.ensures ∙ c.if-not-flag_in.false))

pub returns : goal.returns
returns c =
    let a = c.args in
    let p = ready_at a.vars (operands_of a.template) (relation_of a.source) in
    let some_is = any-is a.source a.frame c.to_visit-visit.result c.to_visit-visit.ensures c.requires.2 p c.ready_places-ready.result c.ready_places-ready.ensures in
    let here-is = row_is a.source a.frame c.to_visit-visit.result c.to_visit-visit.ensures c.requires.2 p c.ready_places-ready.result c.ready_places-ready.ensures a.row in
    opens (fits a.template a.source c.if-template-source.false) (some_is ∙ sym c.any_place.ensures ∙ c.if-not-any_place.false)
    (here-is ∙ sym c.flag_in.ensures ∙ c.if-not-flag_in.false) (c.if-not-room.false)
    (seen a.source a.frame c.to_visit-visit.result c.to_visit-visit.ensures) c.opened.ensures
