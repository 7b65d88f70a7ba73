-- What writing answers and leaves: its numbers are 10 and 21, the buffer keeps its length, and what a sound net wrote is read back. Assumes nothing.
use Prim.Native.Nat.{ℕ, ◌≤◌}
use mathlib.Core.Path.{◌≡◌, refl, sym, ap, ◌∙◌}
use mathlib.Core.Bool.{Bool, true, false, cond}
use mathlib.Core.List.{List, [], ◌∷◌}
use native.Mathlib.Omega.{arith}
use lib.Dec.{T, leb, leb→le}
use lib.ListN.{length, take, drop, length-append, length-drop}
use lib.Seq.{take_at}
use Rattle.values.specs.Lists.{among}
use Rattle.nets.specs.Nets.{Net}
use Rattle.nets.specs.Sound.{sound}
use Rattle.nets.specs.View.{view}
use Rattle.nets.proofs.SoundLaws.{clauses, whole}
use Rattle.files.specs.Loading.{accepted, load_bytes, fault_of, net_loaded, picks_loaded}
use Rattle.files.specs.Writing.{written, Wrote, not_written, wrote, write, buffer_after, writing, written_answer}
use Rattle.files.specs.RoundTrip.{tables_only, EveryWriteIsRead}
use Rattle.files.proofs.RoundTrip.{written_read}

-- a refusal is 10 or 21
abbrev pub write_numbered : Wrote → Bool
write_numbered (not_written n) = among n (10 ∷ 21 ∷ [])
write_numbered (wrote bs) = true

-- the tables of a sound net, alone
tables-sound : (net : Net) → T (sound net) → T (sound (tables_only net.tables))
tables-sound net h =
    let c = clauses net h in
    whole (tables_only net.tables)
    (record { few_tables = c.few_tables; few_nodes = tt; few_threads = tt; tables = c.tables; fit = c.fit; names = c.names; aliases = tt; differ = tt; nodes = tt; threads = tt })

module _ (net : Net) (buffer : List ℕ) where
  abbrev bytes : List ℕ
  bytes = written net.tables

  pub write-numbered : T (write_numbered (write net buffer))
  unfolding write
  write-numbered = go (sound net) (leb (length bytes) (length buffer))
    where
      go : (a b : Bool) → T (write_numbered (cond a (cond b (wrote bytes) (not_written 21)) (not_written 10)))
      go true true = tt
      go true false = tt
      go false b = tt

  pub buffer-length : length (buffer_after buffer (write net buffer)) ≡ length buffer
  unfolding write
  buffer-length = go (sound net) (leb (length bytes) (length buffer)) (λ h. leb→le (length bytes) (length buffer) h)
    where
      go : (a b : Bool) → (T b → length bytes ≤ length buffer) → length (buffer_after buffer (cond a (cond b (wrote bytes) (not_written 21)) (not_written 10))) ≡ length buffer
      go true true h = rw (length-append bytes (drop (length bytes) buffer), length-drop (length bytes) buffer) (omega (arith, h tt))
      go true false h = refl
      go false b h = refl

  -- where bytes are written, the net is sound and they are its tables'
  wrote-is : (bs : List ℕ) → write net buffer ≡ wrote bs → T (sound net) × (bs ≡ bytes)
  unfolding write
  wrote-is bs e = go (sound net) (leb (length bytes) (length buffer)) e
    where
      go : (a b : Bool) → cond a (cond b (wrote bytes) (not_written 21)) (not_written 10) ≡ wrote bs → T a × (bs ≡ bytes)
      go true true e = (tt, cc)
      go true false e = let z : ◌≡◌ {A = ℕ} 0 1 = cc in absurd (omega arith)
      go false b e = let z : ◌≡◌ {A = ℕ} 0 1 = cc in absurd (omega arith)

  -- the bytes written load as the net's tables and nothing else
  pub write_read : (n : ℕ) → written_answer (write net buffer) ≡ writing n → load_bytes (take n (buffer_after buffer (write net buffer))) ≡ accepted (tables_only net.tables) []
  write_read n e = go (write net buffer) refl e
    where
      go : (w : Wrote) → write net buffer ≡ w → written_answer w ≡ writing n → load_bytes (take n (buffer_after buffer w)) ≡ accepted (tables_only net.tables) []
      go (not_written m) q e = cc
      go (wrote bs) q e =
          let l : length bs ≡ n = cc in
          let i = wrote-is bs q in
          ap load_bytes (take_at bs (drop (length bs) buffer) n l ∙ i.1) ∙ written_read net.tables (tables-sound net i.0)

-- of what the calls returned: the first bytes of the buffer, as many as `write` says, load as the tables that it wrote
pub engine_read-back : EveryWriteIsRead
engine_read-back net before after n h l k =
    let e : load_bytes (take n after) ≡ accepted (tables_only (view net).tables) [] = ap (λ bs. load_bytes (take n bs)) h.buffer ∙ write_read (view net) before n (sym h.answer) in
    record { fault = k.fault ∙ ap fault_of e; tables = k.net ∙ ap net_loaded e; picks = k.picks ∙ ap picks_loaded e }
