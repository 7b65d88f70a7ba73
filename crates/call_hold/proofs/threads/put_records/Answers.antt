-- `call_hold::threads::put_records` meets its contract: three adjacent parts. Assumes nothing.
use Prim.Native.Nat.{ℕ, ◌+◌, ◌-◌, ◌*◌}
use mathlib.Core.Path.{◌≡◌, sym, ap, ◌∙◌}
use mathlib.Core.List.{List, ◌++◌}
use native.Mathlib.Omega.{arith}
use lib.ListN.{length, take, drop}
use borrow.Rule.Slice.PartMut.{put_mid}
use Rattle.nets.specs.declared.Saved.{Saved}
use Rattle.nets.specs.declared.Thread.{Thread}
use Rattle.nets.specs.View.{bindings_of}
use Rattle.value_bytes.specs.Bytes.{end_to_end}
use Rattle.value_bytes.proofs.Stores.{part-size}
use Rattle.call_rules.specs.Moments.{bindings_records, thread_head}
use Rattle.call_hold.specs.Holdings.{records_given, stack_given, thread_given, ThreadShaped}
use Rattle.value_bytes.proofs.Parts.{three_fill, part_left}
use Rattle.call_hold.proofs.HoldLaws.{thread_are, thread-count, bindings-long, thread-head}
use Rattle.call_hold.proofs.threads.put_records.Goals as goal

module _ (holds : List ℕ) (ss : List Saved) (t : Thread) (k : ThreadShaped holds ss t) (o : List ℕ) (l : length o ≡ length (thread_given holds ss t) * 104) (b : ℕ) (eb : b ≡ records_given t.relations) where
  abbrev n : ℕ
  n = length (stack_given holds ss t t.depth) * 104

  -- the parts fill the buffer
  filled : length o ≡ 104 + b * 104 + n
  filled = omega (arith, l, eb, thread-count holds ss t)

  rest : length o - (104 + b * 104) ≡ n
  rest = omega (arith, filled)

  long : (y : List ℕ) → y ≡ end_to_end (bindings_records (bindings_of t.vars t.relations)) → length y ≡ b * 104
  long y hy = ap length hy ∙ bindings-long t.vars t.relations k.relations ∙ ap (λ (m : ℕ). m * 104) (sym eb)

  put_all : (x y z : List ℕ) → x ≡ thread_head t.site.0 t.depth → y ≡ end_to_end (bindings_records (bindings_of t.vars t.relations)) → z ≡ end_to_end (stack_given holds ss t t.depth) →
      put_mid (104 + b * 104) (length o - (104 + b * 104)) (put_mid 104 (104 + b * 104 - 104) (x ++ drop 104 o) y) z ≡ end_to_end (thread_given holds ss t)
  put_all x y z hx hy hz =
      rw (part-size 104 (b * 104), rest)
      (three_fill o x y z 104 (b * 104) n (ap length hx ∙ thread-head t.site.0 t.depth) (long y hy) filled ∙ rw (hx, hy, hz) (sym (thread_are holds ss t)))

  last-part : (x y : List ℕ) → x ≡ thread_head t.site.0 t.depth → y ≡ end_to_end (bindings_records (bindings_of t.vars t.relations)) →
      length (take (length o - (104 + b * 104)) (drop (104 + b * 104) (put_mid 104 (104 + b * 104 - 104) (x ++ drop 104 o) y))) ≡ n
  last-part x y hx hy =
      rw (part-size 104 (b * 104), rest) (part_left o x y 104 (b * 104) n (ap length hx ∙ thread-head t.site.0 t.depth) (long y hy) filled)

pub slice_bounds-put_bindings-end : goal.slice_bounds-put_bindings-end
slice_bounds-put_bindings-end c =
    let w = filled c.args.holds c.args.saved c.args.t c.requires.0 c.args.out.now c.requires.1 c.bindings_records.result c.bindings_records.ensures.0 in
    omega (arith, w)

pub slice_bounds-put_stack-count : goal.slice_bounds-put_stack-count
slice_bounds-put_stack-count c =
    let w = filled c.args.holds c.args.saved c.args.t c.requires.0 c.args.out.now c.requires.1 c.bindings_records.result c.bindings_records.ensures.0 in
    omega (arith, w)

pub slice_bounds-put_stack-start : goal.slice_bounds-put_stack-start
slice_bounds-put_stack-start c =
    let w = filled c.args.holds c.args.saved c.args.t c.requires.0 c.args.out.now c.requires.1 c.bindings_records.result c.bindings_records.ensures.0 in
    omega (arith, w)

pub put_stack-requires : goal.put_stack-requires
put_stack-requires c =
    let a = c.args in
    (c.requires.0, last-part a.holds a.saved a.t c.requires.0 a.out.now c.requires.1 c.bindings_records.result c.bindings_records.ensures.0 _ _ (c.copy_from_slice.ensures.after ∙ c.thread_head.ensures) c.put_bindings.ensures)

pub returns : goal.returns
returns c =
    let a = c.args in
    put_all a.holds a.saved a.t c.requires.0 a.out.now c.requires.1 c.bindings_records.result c.bindings_records.ensures.0 _ _ _ (c.copy_from_slice.ensures.after ∙ c.thread_head.ensures) c.put_bindings.ensures c.put_stack.ensures
