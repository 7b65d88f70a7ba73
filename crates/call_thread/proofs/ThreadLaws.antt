-- The bytes of threads, one after the other. Assumes nothing.
use Prim.Native.Nat.{ℕ, zero, suc, ◌+◌, ◌-◌, ◌*◌, ◌<◌, ◌≤◌}
use mathlib.Core.Path.{◌≡◌, refl, sym, ap, ap₂, ◌∙◌}
use mathlib.Core.Bool.{false}
use mathlib.Core.List.{List, [], ◌∷◌, ◌++◌, map, append-nil}
use native.Mathlib.Omega.{arith}
use lib.ListN.{length, drop, get_or, replicate, drop_of_length-le}
use borrow.Rule.Slice.PartMut.{put_mid}
use Rattle.values.specs.Lists.{bit, among, places}
use Rattle.nets.specs.declared.Entry.{Entry}
use Rattle.nets.specs.declared.Entry.TheVariants.{Run, Loop}
use Rattle.nets.specs.declared.Frame.{Frame}
use Rattle.nets.specs.declared.Saved.{Saved}
use Rattle.nets.specs.declared.Thread.{Thread}
use Rattle.nets.specs.Nets as M
use Rattle.nets.specs.Sound.{entry_node}
use Rattle.nets.specs.View.{no_frame, no_thread, marked, node_in, entry_of, thread_of, thread_at, threads_of}
use Rattle.nets.proofs.StackView.{length-stack, stack_cons, entry-node_in}
use Rattle.step_loop.proofs.MarkLaws.{marked-among}
use Rattle.value_bytes.specs.Bytes.{end_to_end}
use Rattle.value_bytes.proofs.Stores.{part-written}
use Rattle.value_bytes.proofs.Parts.{along, along-length}
use Rattle.call_rules.specs.Layouts.{entry_kind, to_visit, visit_bytes, head_bytes, thread_bytes}
use Rattle.call_rules.specs.Openings.{entry_alone, thread_alone}

-- ── an entry, whatever it holds ──

module _ (b : M.Bindings) (f : Frame) where
  pub alone-kind : entry_kind (entry_of b f) ≡ entry_kind (entry_alone f)
  alone-kind = go f.entry
    where
      go : (e : Entry) → entry_kind (entry_of b (record { entry = e; visit = f.visit })) ≡ entry_kind (entry_alone (record { entry = e; visit = f.visit }))
      go (Run i) = refl
      go (Loop i) = refl

  pub alone-visit : to_visit (entry_of b f) ≡ to_visit (entry_alone f)
  alone-visit = go f.entry
    where
      go : (e : Entry) → to_visit (entry_of b (record { entry = e; visit = f.visit })) ≡ to_visit (entry_alone (record { entry = e; visit = f.visit }))
      go (Run i) = refl
      go (Loop i) = refl

  pub alone-node : entry_node (entry_of b f) ≡ entry_node (entry_alone f)
  alone-node = entry-node_in b f ∙ sym (entry-node_in (record { vars = []; relations = [] }) f)

pub node-alone : (f : Frame) → node_in f.entry ≡ entry_node (entry_alone f)
node-alone f = sym (entry-node_in (record { vars = []; relations = [] }) f)

-- ── the rows still to visit ──

-- a node to run has none
pub run-flags : (f : Frame) (k : ℕ) → f.entry ≡ Run k → replicate 16 0 ≡ visit_bytes (to_visit (entry_alone f))
unfolding visit_bytes
run-flags f k e = rw e refl

-- those of a loop's frame
pub loop-flags : (f : Frame) (k : ℕ) (out : List ℕ) → f.entry ≡ Loop k → length out ≡ 16 → ((i : ℕ) → i < 16 → get_or out i 0 ≡ bit (get_or f.visit i false)) → out ≡ visit_bytes (to_visit (entry_alone f))
unfolding visit_bytes
loop-flags f k out e l h = rw e (go out 0 (λ i r b q. h i (omega (arith, l, b)) ∙ ap bit (sym (marked-among f.visit 0 i r q))) ∙ rw l refl)
  where
    g : ℕ → ℕ
    g i = bit (among i (marked 0 f.visit))

    go : (bs : List ℕ) (j : ℕ) → ((i r : ℕ) → i < length bs → r ≡ j + i → get_or bs i 0 ≡ g r) → bs ≡ map g (places j (length bs))
    go [] j q = refl
    go (b ∷ bs) j q = ap₂ ◌∷◌ (q 0 j (omega arith) (omega arith)) (go bs (suc j) (λ i r p e. q (suc i) r (omega arith) (omega (arith, e))))

-- ── one thread ──

pub head-is : (s d k n : ℕ) (f : Frame) (out : List ℕ) → out ≡ s ∷ d ∷ k ∷ n ∷ 0 ∷ 0 ∷ 0 ∷ 0 ∷ [] → k ≡ entry_kind (entry_alone f) → n ≡ node_in f.entry → out ≡ head_bytes s d (entry_alone f)
unfolding head_bytes
head-is s d k n f out h hk hn = rw (h, hk, hn, node-alone f)

head-length : (s d : ℕ) (e : M.Entry) → length (head_bytes s d e) ≡ 8
unfolding head_bytes
head-length s d e = refl

two-parts : (o h v : List ℕ) → length o ≡ 24 → length h ≡ 8 → put_mid 8 16 (h ++ drop 8 o) v ≡ h ++ v
two-parts o h v l lh = rw (part-written h o v 8 16 lh, drop_of_length-le o {i = 24} (omega arith), append-nil)

pub thread-parts : (t : Thread) (f : Frame) (o h v : List ℕ) → 1 ≤ t.depth → length o ≡ 24 → f ≡ get_or t.stack (t.depth - 1) no_frame → h ≡ head_bytes t.site.0 t.depth (entry_alone f) →
    v ≡ visit_bytes (to_visit (entry_alone f)) → put_mid 8 16 (h ++ drop 8 o) v ≡ thread_bytes (thread_alone t)
unfolding thread_bytes
thread-parts t f o h v some l e hh hv =
    two-parts o h v l (ap length hh ∙ head-length t.site.0 t.depth (entry_alone f))
    ∙ rw (hh, hv, e, length-stack _ t.depth t.stack, stack_cons _ t.depth t.stack (omega arith)) refl

-- ── all threads ──

-- those of the thread at a place
abbrev pub bytes_at : List Thread → ℕ → List ℕ
bytes_at ts i = thread_bytes (thread_alone (get_or ts i no_thread))

pub bytes-length : (ts : List Thread) (i : ℕ) → length (bytes_at ts i) ≡ 24
unfolding thread_bytes head_bytes visit_bytes
bytes-length ts i = refl

-- what entries hold is no matter
bytes_same : (bs : ℕ → M.Bindings) (t : Thread) → thread_bytes (thread_alone t) ≡ thread_bytes (thread_of bs t)
unfolding thread_bytes head_bytes
bytes_same bs t = go t.depth
  where
    go : (n : ℕ) →
        let u : Thread = record { site = t.site; vars = t.vars; relations = t.relations; stack = t.stack; depth = n } in
        thread_bytes (thread_alone u) ≡ thread_bytes (thread_of bs u)
    go zero = refl
    go (suc n) =
        let f = get_or t.stack n no_frame in
        rw (length-stack bs n t.stack, length-stack (λ (j : ℕ). record { vars = []; relations = [] }) n t.stack, alone-kind (bs n) f, alone-node (bs n) f, alone-visit (bs n) f) refl

module _ (ds : List M.Node) (saved : List Saved) (ts : List Thread) where
  bytes-from : (i n : ℕ) → map (bytes_at ts) (places i n) ≡ map thread_bytes (map (thread_at ds saved ts) (places i n))
  bytes-from i zero = refl
  bytes-from i (suc n) = ap₂ ◌∷◌ (bytes_same _ (get_or ts i no_thread)) (bytes-from (suc i) n)

  pub threads_are : (n : ℕ) → end_to_end (map (bytes_at ts) (places 0 n)) ≡ end_to_end (map thread_bytes (threads_of ds saved n ts))
  threads_are n = ap end_to_end (bytes-from 0 n)

  pub threads-long : (n : ℕ) → length (end_to_end (map thread_bytes (threads_of ds saved n ts))) ≡ n * 24
  unfolding along
  threads-long n = ap length (sym (threads_are n)) ∙ along-length (bytes_at ts) 24 (bytes-length ts) n
