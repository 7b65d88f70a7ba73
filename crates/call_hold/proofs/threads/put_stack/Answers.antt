-- `call_hold::threads::put_stack` meets its contract: what stands in the buffer, and the entries still to come, are the whole stack. Assumes nothing.
use Prim.Native.Nat.{ℕ, suc, ◌+◌, ◌-◌, ◌*◌, ◌<◌, ◌≤◌}
use mathlib.Core.Path.{◌≡◌, refl, sym, ap, ◌∙◌}
use mathlib.Core.List.{List, ◌++◌, append-nil, append_assoc}
use native.Mathlib.Omega.{arith}
use lib.ListN.{length, get_or, take, length-append, length-take, length-drop}
use lib.Seq.{take_all}
use borrow.Rule.Slice.PartMut.{put_mid}
use Rattle.nets.specs.declared.Saved.{Saved}
use Rattle.nets.specs.declared.Thread.{Thread}
use Rattle.nets.specs.View.{no_frame, no_saved}
use Rattle.value_bytes.specs.Bytes.{end_to_end}
use Rattle.value_bytes.proofs.Stores.{kept-length, ends-append}
use Rattle.call_hold.specs.Holdings.{RelationsShaped, held_given, HeldShaped, held_at, stack_given}
use Rattle.call_hold.proofs.HoldLaws.{entry-long, held-shaped, entry_given, entry_at, stack_down, stack_end}
use Rattle.call_hold.proofs.RecordLaws.{more-taken}
use Rattle.call_hold.proofs.threads.put_stack.Goals as goal

module _ (holds : List ℕ) (ss : List Saved) (t : Thread) where
  abbrev whole : List ℕ
  whole = end_to_end (stack_given holds ss t t.depth)

  -- one entry more, and what is left for those below it
  module _ (n at h r : ℕ) (out : List ℕ) (some : 0 < n) (eh : h ≡ held_at holds t (n - 1)) (er : r ≡ suc (length (held_given h t.relations (get_or ss (n - 1) no_saved)))) (l : at + length (stack_given holds ss t n) * 104 ≡ length out) where
    room : at + r * 104 + length (stack_given holds ss t (n - 1)) * 104 ≡ length out
    room =
        let q : r ≡ length (entry_at holds ss t (n - 1)) = er ∙ ap (λ (m : ℕ). suc (length (held_given m t.relations (get_or ss (n - 1) no_saved)))) eh in
        omega (arith, q, l, ap length (stack_down holds ss t n some), length-append (entry_at holds ss t (n - 1)) (stack_given holds ss t (n - 1)))

    more : (ys : List ℕ) → RelationsShaped t.relations → HeldShaped h (get_or ss (n - 1) no_saved) → whole ≡ take at out ++ end_to_end (stack_given holds ss t n) → ys ≡ end_to_end (entry_given (get_or t.stack (n - 1) no_frame) h t.relations (get_or ss (n - 1) no_saved)) →
        whole ≡ take (at + r * 104) (put_mid at (at + r * 104 - at) out ys) ++ end_to_end (stack_given holds ss t (n - 1))
    more ys k w e q =
        let f = get_or t.stack (n - 1) no_frame in
        let ly : length ys ≡ r * 104 = ap length q ∙ entry-long f h t.relations (get_or ss (n - 1) no_saved) k w ∙ ap (λ (m : ℕ). m * 104) (sym er) in
        let p : ys ≡ end_to_end (entry_at holds ss t (n - 1)) = q ∙ ap (λ (m : ℕ). end_to_end (entry_given (get_or t.stack (n - 1) no_frame) m t.relations (get_or ss (n - 1) no_saved))) eh in
        let below = end_to_end (stack_given holds ss t (n - 1)) in
        e
        ∙ ap (λ (x : List ℕ). take at out ++ x) (ap end_to_end (stack_down holds ss t n some) ∙ ends-append (entry_at holds ss t (n - 1)) (stack_given holds ss t (n - 1)))
        ∙ sym (append_assoc (take at out) (end_to_end (entry_at holds ss t (n - 1))) below)
        ∙ ap (λ (x : List ℕ). x ++ below) (ap (λ (x : List ℕ). take at out ++ x) (sym p) ∙ sym (more-taken out ys at (r * 104) ly (omega (arith, l))))

  ended : (n at : ℕ) (out : List ℕ) → n ≤ 0 → at + length (stack_given holds ss t n) * 104 ≡ length out → whole ≡ take at out ++ end_to_end (stack_given holds ss t n) → out ≡ whole
  ended n at out z l e =
      let q = stack_end holds ss t n z in
      let k : length out ≤ at = omega (arith, l, ap length q) in
      sym (e ∙ rw (q, append-nil) (take_all at out k))

pub loop-left-init : goal.loop-left-init
loop-left-init c = record { within = omega arith; full = c.requires.1; low = omega arith; rest = omega (arith, c.requires.1); filled = refl }

pub entry_records-requires : goal.entry_records-requires
entry_records-requires c = (c.requires.0.relations, held-shaped c.args.holds c.args.saved c.args.t (c.loop-left.left - 1) c.held_by-held.result c.requires.0 (omega arith) c.held_by-held.ensures)

pub slice_bounds-put_with_held-end : goal.slice_bounds-put_with_held-end
slice_bounds-put_with_held-end c =
    let l = c.loop-left in
    let r = room c.args.holds c.args.saved c.args.t l.left l.at c.held_by-held.result c.entry_records.result l.out (omega arith) c.held_by-held.ensures c.entry_records.ensures.0 l.invariant.rest in
    omega (arith, r)

pub put_with_held-requires : goal.put_with_held-requires
put_with_held-requires c =
    let l = c.loop-left in
    let r = room c.args.holds c.args.saved c.args.t l.left l.at c.held_by-held.result c.entry_records.result l.out (omega arith) c.held_by-held.ensures c.entry_records.ensures.0 l.invariant.rest in
    let w = held-shaped c.args.holds c.args.saved c.args.t (l.left - 1) c.held_by-held.result c.requires.0 (omega arith) c.held_by-held.ensures in
    (c.requires.0.relations, w, simp (length-take, length-drop) (omega (arith, r, c.entry_records.ensures.0)))

pub loop-left-preserved : goal.loop-left-preserved
loop-left-preserved c =
    let l = c.loop-left in
    let r = room c.args.holds c.args.saved c.args.t l.left l.at c.held_by-held.result c.entry_records.result l.out (omega arith) c.held_by-held.ensures c.entry_records.ensures.0 l.invariant.rest in
    let w = held-shaped c.args.holds c.args.saved c.args.t (l.left - 1) c.held_by-held.result c.requires.0 (omega arith) c.held_by-held.ensures in
    let ys = c.put_with_held.new.out in
    let kept : length (put_mid l.at (l.at + c.entry_records.result * 104 - l.at) l.out ys) ≡ length l.out = search kept-length in
    record {
      within = omega arith;
      full = kept ∙ l.invariant.full;
      low = omega (arith, l.invariant.within, l.invariant.low, c.loop-left-test.true, c.entry_records.ensures.1);
      rest = r ∙ sym kept;
      filled = more c.args.holds c.args.saved c.args.t l.left l.at c.held_by-held.result c.entry_records.result l.out c.loop-left-test.true c.held_by-held.ensures c.entry_records.ensures.0 l.invariant.rest ys c.requires.0.relations w l.invariant.filled c.put_with_held.ensures;
    }

pub returns : goal.returns
returns c = search ended
