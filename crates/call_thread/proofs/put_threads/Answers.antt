-- `call_thread::put_threads` meets its contract: the threads passed, then the bytes that stood there. Assumes nothing.
use Prim.Native.Nat.{ℕ, ◌+◌, ◌-◌, ◌*◌, ◌≤◌}
use mathlib.Core.Path.{◌≡◌, refl, ◌∙◌}
use mathlib.Core.List.{List, ◌++◌, map}
use native.Mathlib.Omega.{arith}
use lib.ListN.{length, drop}
use borrow.Rule.Slice.PartMut.{put_mid}
use Rattle.nets.specs.declared.Saved.{Saved}
use Rattle.nets.specs.declared.Thread.{Thread}
use Rattle.nets.specs.Nets as M
use Rattle.nets.specs.View.{threads_of}
use Rattle.value_bytes.specs.Bytes.{end_to_end}
use Rattle.value_bytes.proofs.Stores.{kept-length}
use Rattle.value_bytes.proofs.Parts.{along, along-more, along-all}
use Rattle.call_rules.specs.Layouts.{thread_bytes}
use Rattle.call_thread.proofs.ThreadLaws.{bytes_at, bytes-length, threads_are}
use Rattle.call_thread.proofs.put_threads.Goals as goal

one_more : (ts : List Thread) (i : ℕ) (o out ys : List ℕ) → out ≡ along (bytes_at ts) i ++ drop (i * 24) o → ys ≡ bytes_at ts i →
    put_mid (i * 24) (i * 24 + 24 - i * 24) out ys ≡ along (bytes_at ts) (i + 1) ++ drop ((i + 1) * 24) o
one_more ts i o out ys e q = along-more (bytes_at ts) 24 (bytes-length ts) i o out ys e q

ended : (ts : List Thread) (i : ℕ) (o out : List ℕ) → i ≤ length ts → length ts ≤ i → length o ≡ length ts * 24 → out ≡ along (bytes_at ts) i ++ drop (i * 24) o →
    (ds : List M.Node) (saved : List Saved) → out ≡ end_to_end (map thread_bytes (threads_of ds saved (length ts) ts))
ended ts i o out a b l e ds saved = along-all (bytes_at ts) 24 (length ts) i o out a b l e ∙ threads_are ds saved ts (length ts)

pub loop-i-init : goal.loop-i-init
unfolding along
loop-i-init c = record { within = omega arith; full = omega arith; filled = refl }

pub thread_bytes-requires : goal.thread_bytes-requires
thread_bytes-requires c = c.requires.1 c.loop-i.i (omega arith)

pub loop-i-preserved : goal.loop-i-preserved
loop-i-preserved c = record { within = omega arith; full = search kept-length; filled = one_more c.args.threads.now c.loop-i.i _ _ _ c.loop-i.invariant.filled (c.copy_from_slice.ensures.after ∙ c.thread_bytes.ensures) }

pub returns : goal.returns
returns c = search ended
