-- `call_hold::entries::put_with_held` meets its contract: its own record, and behind it what it holds. Assumes nothing.
use Prim.Native.Nat.{ℕ, suc, ◌+◌, ◌-◌, ◌*◌}
use mathlib.Core.Path.{◌≡◌, refl, sym, ap, ◌∙◌}
use mathlib.Core.List.{List, ◌∷◌, ◌++◌, append-nil}
use native.Mathlib.Omega.{arith}
use lib.ListN.{length, drop, length-take, length-drop}
use borrow.Rule.Slice.PartMut.{put_mid}
use Rattle.nets.specs.declared.Frame.{Frame}
use Rattle.nets.specs.declared.Saved.{Saved}
use Rattle.nets.specs.View.{TableVariable}
use Rattle.nets.specs.View.{bindings_of}
use Rattle.value_bytes.specs.Bytes.{end_to_end}
use Rattle.value_bytes.proofs.Parts.{two_fill}
use Rattle.value_bytes.proofs.Stores.{part-size}
use Rattle.call_rules.specs.Moments.{bindings_records, entry_record}
use Rattle.call_rules.specs.Openings.{entry_alone}
use Rattle.call_hold.specs.Holdings.{records_given, pair_held, held_given}
use Rattle.call_hold.proofs.HoldLaws.{entry_length, none-given, some-given, pair_ok, held-count}
use Rattle.call_hold.proofs.entries.put_with_held.Goals as goal

module _ (f : Frame) (h : ℕ) (rs : List TableVariable) (s : Saved) (o : List ℕ) (l : length o ≡ suc (length (held_given h rs s)) * 104) where
  alone : h ≡ 0 → length o ≡ 104
  alone e = omega (arith, ap length (none-given h rs s e))

  alone-put : (x : List ℕ) → h ≡ 0 → x ≡ entry_record (entry_alone f) → x ≡ end_to_end (entry_record (entry_alone f) ∷ held_given h rs s)
  alone-put x e q = rw (none-given h rs s e, append-nil) q

  module _ (some : h ≡ 0 → ⊥) (p : List TableVariable) (e : p ≡ pair_held h rs s.other) (n : ℕ) (q : n ≡ records_given p) where
    whole : length o ≡ 104 + n * 104
    whole = omega (arith, held-count h rs s p some e)

    both-put : (x y : List ℕ) → x ≡ entry_record (entry_alone f) → y ≡ end_to_end (bindings_records (bindings_of s.vars p)) →
        put_mid 104 (104 + n * 104 - 104) (x ++ drop 104 o) y ≡ end_to_end (entry_record (entry_alone f) ∷ held_given h rs s)
    both-put x y hx hy =
        rw (part-size 104 (n * 104), some-given h rs s some, sym e)
        (two_fill o x y 104 (n * 104) (ap length hx ∙ entry_length (entry_alone f)) whole ∙ rw (hx, hy) refl)

pub copy_from_slice-requires : goal.copy_from_slice-requires
copy_from_slice-requires c =
    let a = c.args in
    alone a.f a.held a.relations a.saved a.out.now c.requires.2 c.if-held-eq0.true ∙ sym (ap length c.entry_record.ensures ∙ entry_length (entry_alone a.f))

pub returns-then-held-eq0 : goal.returns-then-held-eq0
returns-then-held-eq0 c =
    let a = c.args in
    alone-put a.f a.held a.relations a.saved a.out.now c.requires.2 _ c.if-held-eq0.true (c.copy_from_slice.ensures.after ∙ c.entry_record.ensures)

pub bindings_records-requires : goal.bindings_records-requires
bindings_records-requires c = search pair_ok

pub slice_bounds-put_bindings-end : goal.slice_bounds-put_bindings-end
slice_bounds-put_bindings-end c =
    let a = c.args in
    let w = whole a.f a.held a.relations a.saved a.out.now c.requires.2 c.if-held-eq0.false c.pair_held-pair.result c.pair_held-pair.ensures c.bindings_records.result c.bindings_records.ensures.0 in
    omega (arith, w)

pub put_bindings-requires : goal.put_bindings-requires
put_bindings-requires c =
    let a = c.args in
    let w = whole a.f a.held a.relations a.saved a.out.now c.requires.2 c.if-held-eq0.false c.pair_held-pair.result c.pair_held-pair.ensures c.bindings_records.result c.bindings_records.ensures.0 in
    (search pair_ok, simp (length-take, length-drop) (omega (arith, w)))

pub returns : goal.returns
returns c =
    let a = c.args in
    both-put a.f a.held a.relations a.saved a.out.now c.requires.2 c.if-held-eq0.false c.pair_held-pair.result c.pair_held-pair.ensures c.bindings_records.result c.bindings_records.ensures.0 _ _ (c.copy_from_slice-2.ensures.after ∙ c.entry_record-2.ensures) c.put_bindings.ensures
