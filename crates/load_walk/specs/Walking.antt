-- How `load` walks a file: group after group, each on from where the last one ended. Only the code speaks of it: the rule is `read_all`.
use Rattle.std.specs.Prelude.{ℕ, suc, ◌+◌, ◌*◌, ◌≤◌, ◌<◌, ◌≡◌, Bool, true, false, cond, List, [], ltb, get_or, length, take, drop, Option, None, Some}
use Rattle.rows.specs.View.{Shaped}
use Rattle.nets.specs.declared.Alias.{Alias}
use Rattle.nets.specs.declared.Pick.{Pick}
use Rattle.nets.specs.declared.Table as Code
use Rattle.nets.specs.declared.Thread as Held
use Rattle.nets.specs.Nets.{Bindings, Table, Node, Thread}
use Rattle.nets.specs.View.{no_table, thread_of}
use Rattle.nets.specs.Steps.{Check}
use Rattle.record_bytes.specs.Bytes.{at, part}
use Rattle.record_bytes.specs.Decoding.{Record, Decoded, good, bad, record_in, whole_records, records_in}
use Rattle.record_bytes.specs.RecordKinds.{group_at}
use Rattle.load_walk.specs.declared.Reach.{Reach}
use Rattle.load_walk.specs.declared.Read.{Read}
use Rattle.files.specs.declared.Fault.{Fault}
use Rattle.files.specs.Loading.{Progress, load_checks, advance, failing, Reading, stopped, finished, read_all, link_ok}

-- ── what was read, with one list in the place of another ──

abbrev pub put_aliases : List Alias → Progress → Progress
put_aliases ls l = record { net = record { aliases = ls; tables = l.net.tables; nodes = l.net.nodes; threads = l.net.threads }; picks = l.picks; group = l.group }

abbrev pub put_tables : List Table → Progress → Progress
put_tables ts l = record { net = record { aliases = l.net.aliases; tables = ts; nodes = l.net.nodes; threads = l.net.threads }; picks = l.picks; group = l.group }

abbrev pub put_nodes : List Node → Progress → Progress
put_nodes ns l = record { net = record { aliases = l.net.aliases; tables = l.net.tables; nodes = ns; threads = l.net.threads }; picks = l.picks; group = l.group }

abbrev pub put_threads : List Thread → Progress → Progress
put_threads hs l = record { net = record { aliases = l.net.aliases; tables = l.net.tables; nodes = l.net.nodes; threads = hs }; picks = l.picks; group = l.group }

abbrev pub put_picks : List Pick → Progress → Progress
put_picks ps l = record { net = l.net; picks = ps; group = l.group }

-- ── a file of whole records ──

-- check 1 passes, and check 2
pub record Whole (file : List ℕ) : Type 0 where
  pub exact : length file ≡ whole_records file * 104
  pub few : whole_records file ≤ 256

-- the record at a place: its own part of the file
abbrev pub record_at : List ℕ → ℕ → List ℕ
record_at file i = part (i * 104) (i * 104 + 104) file

-- ── how far reading came ──

-- what the records from place `i` on come to, after `l`
unfoldable pub rest : List ℕ → ℕ → Progress → Reading
rest file i l = read_all i l (drop i (records_in file))

-- what the records left come to, after `l`
abbrev pub read_from : List ℕ → Reach → Progress → Reading
read_from file r l = rest file r.place (record { net = l.net; picks = l.picks; group = r.group })

-- reading on from `from` with `p l` comes to the same as reading on from `to` with `q l`, for every `l`
pub record Leads (file : List ℕ) (from to : Reach) (p q : Progress → Progress) : Type 0 where
  pub leads : (l : Progress) → read_from file from (p l) ≡ read_from file to (q l)

-- reading on from `from` with `p l` stops at the fault, for every `l`
pub record Stops (file : List ℕ) (from : Reach) (f : Fault) (p : Progress → Progress) : Type 0 where
  pub stops : (l : Progress) → read_from file from (p l) ≡ stopped f.number f.place

-- the group of the next record; 0 for an unknown kind, and past the last record
unfoldable pub group_next : List ℕ → Reach → ℕ
group_next file r = cond (ltb (r.place * 104) (length file)) (group_at (at (record_at file r.place) 0)) 0

-- ── the fault of a record ──

abbrev pub fault_by : Option ℕ → ℕ → Option Fault
fault_by None i = None
fault_by (Some n) i = Some (record { number = n; place = i })

-- the first check that fails, with the place of the record
abbrev pub first_fault : ℕ → List Check → Option Fault
first_fault i ks = fault_by (failing ks) i

-- ── one record of the group `k`, after whatever was read before ──

abbrev pub with_group : ℕ → Progress → Progress
with_group g l = record { net = l.net; picks = l.picks; group = g }

-- the number of the check that refuses a record, and what was read after one that none refuses
abbrev pub refused_by : Progress → Decoded → Option ℕ
refused_by l (good r) = failing (load_checks l r)
refused_by l (bad n) = Some n

abbrev pub taken_by : Progress → Decoded → Progress
taken_by l (good r) = advance l r
taken_by l (bad n) = l

-- it is taken, and what was read goes on from `p l` to `q l`
pub record Takes (k : ℕ) (bs : List ℕ) (p q : Progress → Progress) : Type 0 where
  pub passes : (g : ℕ) (l : Progress) → g ≤ k → refused_by (with_group g (p l)) (record_in bs) ≡ None
  pub takes : (g : ℕ) (l : Progress) → taken_by (with_group g (p l)) (record_in bs) ≡ with_group k (q l)

-- it is refused, at its place `i`
pub record Refuses (k i : ℕ) (bs : List ℕ) (p : Progress → Progress) (f : Fault) : Type 0 where
  pub refuses : (g : ℕ) (l : Progress) → g ≤ k → fault_by (refused_by (with_group g (p l)) (record_in bs)) i ≡ Some f

-- ── the groups ──

-- groups before `k` are past: the next record is of `k` or a later one, or it can't go on
pub record Going (file : List ℕ) (k : ℕ) (r : Reach) : Type 0 where
  pub whole : Whole file
  pub place : r.place ≤ whole_records file
  pub group : r.group ≤ k
  pub passed : 1 ≤ group_next file r → r.group ≤ group_next file r → k ≤ group_next file r

-- the records of the group `k` lead to a reach, or stop
abbrev pub LeadsPast : List ℕ → ℕ → Reach → Reach → (Progress → Progress) → (Progress → Progress) → Type 0
LeadsPast file k from to p q = Leads file from to p q × Going file (suc k) to

-- what the records of the group `k` gave: those in use are in their place, and keep what those that passed their checks keep
pub record Gives {A : Type 0} (n : ℕ) (file : List ℕ) (k : ℕ) (from : Reach) (put : List A → Progress → Progress) (Kept : List A → Type 0) (read : Read A n) : Type 0 where
  pub leads : Leads file from read.reach (put []) (put (take read.count read.items))
  pub going : Going file (suc k) read.reach
  pub kept : Kept (take read.count read.items)
  pub long : length read.items ≡ n
  pub few : read.count ≤ n

-- ── a record that no group took ──

-- the check that refuses a record that no group took: 3 or 4, or 5 since its group is past
abbrev pub left_number : Decoded → ℕ
left_number (good r) = 5
left_number (bad n) = n

-- ── the elements of a list or of an array ──

abbrev pub Each : {A : Type 0} → (A → Type 0) → A → List A → Type 0
Each P none xs = (i : ℕ) → i < length xs → P (get_or xs i none)

-- no entry of a thread holds anything, so whatever is saved is no matter
abbrev pub Unheld : Held.Thread → Type 0
Unheld t = (ks js : ℕ → Bindings) → thread_of ks t ≡ thread_of js t

abbrev pub unheld_of : Held.Thread → Thread
unheld_of t = thread_of (λ j. record { vars = []; relations = [] }) t

-- ── tables within their arrays ──

abbrev pub AllShaped : ℕ → List Code.Table → Type 0
AllShaped n ts = (n ≤ 8) × ((i : ℕ) → i < n → Shaped (get_or ts i no_table).content)

-- ── the end ──

-- nothing is left to read
pub record Ends (file : List ℕ) (from : Reach) : Type 0 where
  pub ends : (l : Progress) → read_from file from l ≡ finished (record { net = l.net; picks = l.picks; group = from.group })

abbrev pub is_good : Decoded → Bool
is_good (good r) = true
is_good (bad n) = false

-- ── check 9 ──

-- of a record that by itself is fine
abbrev pub LinkIs : ℕ → ℕ → List ℕ → Bool → Type 0
LinkIs n j bs b = (x : Record) → record_in bs ≡ good x → b ≡ link_ok n j x
