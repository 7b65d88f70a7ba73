-- Demand 3 for every file that loading accepts and every list of picks. Assumes nothing.
use Prim.Native.Nat.{ℕ, ◌+◌, ◌%◌}
use mathlib.Core.Path.{◌≡◌, refl, ap, ◌∙◌}
use mathlib.Core.Bool.{Bool, true, false, cond}
use mathlib.Core.List.{List}
use lib.Dec.{T, eqb, leb}
use lib.ListN.{length}
use Rattle.values.specs.declared.Site.{Site}
use Rattle.values.specs.Lists.{count}
use Rattle.values.specs.Values.{same_row}
use Rattle.rows.specs.Relations.{Row}
use Rattle.nets.specs.declared.Pick.{Pick}
use Rattle.nets.specs.Nets.{Net}
use Rattle.nets.specs.Sound.{sound}
use Rattle.nets.specs.Accounts.{after, post, times, standing}
use Rattle.nets.proofs.KeepSound.{run_sound}
use Rattle.nets.proofs.RunLaws.{demand3}
use Rattle.record_bytes.specs.Decoding.{whole_records, records_in}
use Rattle.files.specs.Loading.{LoadAnswer, rejected, accepted, load, load_bytes, is_accepted, net_loaded}
use Rattle.files.specs.FileTables.{loaded_count}
use Rattle.files.specs.Rounds.{rounds_ended}
use Rattle.files.specs.FileDemand3.{file_net, file_added, FileLoaded, EveryFile}
use Rattle.files.proofs.RecordLaws.{records-ok}
use Rattle.files.proofs.LoadLaws.{Accepted, load-accepted}

-- what loading accepts from bytes it accepts from their records
bytes-load : (file : List ℕ) (net : Net) (ps : List Pick) → load_bytes file ≡ accepted net ps → load (records_in file) ≡ accepted net ps
unfolding load_bytes
bytes-load file net ps e = go (eqb (length file % 104) 0) (leb (whole_records file) 256) e
  where
    go : (a b : Bool) → cond a (cond b (load (records_in file)) (rejected 2 256)) (rejected 1 (whole_records file)) ≡ accepted net ps → load (records_in file) ≡ accepted net ps
    go true true e = e
    go true false e = cc
    go false b e = cc

file-accepted : (file : List ℕ) → T (is_accepted (load_bytes file)) → Accepted (records_in file) (file_net file)
file-accepted file h = go (load_bytes file) refl h
  where
    go : (x : LoadAnswer) → load_bytes file ≡ x → T (is_accepted x) → Accepted (records_in file) (net_loaded x)
    go (rejected n i) e h = absurd h
    go (accepted net ps) e h = load-accepted (records_in file) (records-ok file) net ps (bytes-load file net ps e)

module _ (file : List ℕ) (h : T (is_accepted (load_bytes file))) where
  -- what loading accepts is sound, with the file's tables
  pub file-loaded : FileLoaded file
  file-loaded = let a = file-accepted file h in record { is_sound = a.is_sound; tables = a.tables }

  -- and its threads are in no round
  pub file-starts : rounds_ended (file_net file).nodes (file_net file).threads
  file-starts = (file-accepted file h).starts (file_net file).nodes

  -- and every net after it is sound: no pick is refused by 10
  pub file-sound : (ps : List Pick) → T (sound (after (file_net file) ps))
  file-sound ps = run_sound (file_net file) ps file-loaded.is_sound

  -- loaded counts are those of the file's row records
  loaded-count : (s : Site) (n : ℕ) (r : Row) → standing (file_net file) s n r ≡ loaded_count file s n r
  unfolding standing
  loaded-count s n r = ap (count (same_row r)) ((file-accepted file h).rows s n)

-- the file's own picks or any others
pub file-demand3 : EveryFile
file-demand3 file h ps =
    let d = demand3 (file_net file) (file-loaded file h).is_sound ps in
    record {
      is_sound = file-sound file h ps;
      fit = d.fit;
      names = d.names;
      balance = λ s n r. d.balance s n r ∙ ap (◌+ times (post s n r) (file_added file ps)) (loaded-count file h s n r);
      untouched = λ s n e. d.untouched s n e ∙ (file-loaded file h).tables s n;
      added_all = d.added_all;
      taken_all = d.taken_all;
      added_accounts = d.added_accounts;
      taken_accounts = d.taken_accounts;
      added_sum = d.added_sum;
      taken_sum = d.taken_sum;
    }
