-- Records made of adjacent parts, and parts written one after the other. Assumes nothing.
use Prim.Native.Nat.{ℕ, ◌+◌, ◌-◌, ◌≤◌}
use mathlib.Core.Path.{◌≡◌, refl, sym, ap, subst, ◌∙◌}
use mathlib.Core.List.{List, ◌++◌}
use native.Mathlib.Omega.{arith}
use lib.ListN.{length, take, drop, replicate, length-append, length-take, take-append-drop}
use lib.Seq.{take_at, drop_at, drop-drop}
use borrow.Rule.Slice.PartMut.{put_mid}
use Rattle.rows.specs.declared.Row.{Row}
use Rattle.rows.specs.View.{values_of}
use Rattle.rows.specs.Relations.{Columns}
use Rattle.nets.specs.declared.Frame.{Frame}
use Rattle.nets.specs.View.{node_in}
use Rattle.record_bytes.specs.Encoding.{tuple_bytes, column_bytes}
use Rattle.value_bytes.proofs.Stores.{part-size, part-written}
use Rattle.write_fields.proofs.WriteLaws.{tuple-length}
use Rattle.call_rules.specs.Layouts.{entry_kind, to_visit, visit_bytes}
use Rattle.call_rules.specs.Moments.{start_of, values_record, relation_head, entry_record}
use Rattle.call_rules.specs.Openings.{entry_alone}
use Rattle.call_thread.proofs.ThreadLaws.{node-alone}

-- ── parts of a record ──

pub entry-parts : (f : Frame) (k n : ℕ) (o v : List ℕ) → k ≡ entry_kind (entry_alone f) → n ≡ node_in f.entry → o ≡ start_of 69 k n ++ replicate 96 0 → v ≡ visit_bytes (to_visit (entry_alone f)) →
    put_mid 8 16 o v ≡ entry_record (entry_alone f)
unfolding entry_record
entry-parts f k n o v hk hn ho hv = rw (ho, hv, hk, hn, node-alone f) refl

pub relation-parts : (i b : ℕ) (cs : Columns) (o k : List ℕ) → o ≡ start_of 67 i b ++ replicate 96 0 → k ≡ column_bytes cs → put_mid 8 4 o k ≡ relation_head i b cs
unfolding relation_head
relation-parts i b cs o k ho hk = rw (ho, hk) refl

pub values-parts : (n : ℕ) (r : Row) (k i : ℕ) (o t : List ℕ) → o ≡ start_of k i 0 ++ replicate 96 0 → t ≡ tuple_bytes (values_of n r) → put_mid 56 32 o t ≡ values_record k i (values_of n r)
unfolding values_record
values-parts n r k i o t ho ht = rw (ho, ht) refl

module _ (n : ℕ) (r : Row) (h : n ≤ 4) where
  pub values_length : (k i : ℕ) → length (values_record k i (values_of n r)) ≡ 104
  unfolding values_record
  values_length k i = simp (length-append, tuple-length n r h)

-- ── a part written behind those before it ──

module _ (out ys : List ℕ) (at n : ℕ) (l : length ys ≡ n) (h : at ≤ length out) where
  put_is : put_mid at (at + n - at) out ys ≡ (take at out ++ ys) ++ drop (at + n) out
  put_is =
      rw (part-size at n)
      (subst (λ (xs : List ℕ). put_mid at n xs ys ≡ (take at out ++ ys) ++ drop (at + n) out) (take-append-drop at out) (part-written (take at out) out ys at n taken))
    where
      taken : length (take at out) ≡ at
      taken = simp length-take (omega arith)

  long : length (take at out ++ ys) ≡ at + n
  long = simp (length-append, length-take) (omega arith)

  pub more-taken : take (at + n) (put_mid at (at + n - at) out ys) ≡ take at out ++ ys
  more-taken = ap (take (at + n)) put_is ∙ take_at (take at out ++ ys) (drop (at + n) out) (at + n) long

  pub more_left : (o : List ℕ) → drop at out ≡ drop at o → drop (at + n) (put_mid at (at + n - at) out ys) ≡ drop (at + n) o
  more_left o e =
      ap (drop (at + n)) put_is
      ∙ drop_at (take at out ++ ys) (drop (at + n) out) (at + n) long
      ∙ sym (drop-drop n at out) ∙ ap (drop n) e ∙ drop-drop n at o
