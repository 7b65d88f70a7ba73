-- From what `load` has in hand to its contract. Assumes nothing.
use Prim.Native.Nat.{ℕ, suc, ◌≤◌, ◌<◌, ◌/◌, ◌%◌}
use mathlib.Core.Path.{◌≡◌, sym, subst, ap, ◌∙◌}
use mathlib.Core.Bool.{Bool, true, false}
use mathlib.Core.List.{List, [], ◌∷◌}
use Rattle.std.specs.Prelude.{Option, None, Some, is_some, Result, Ok, Err, is_err}
use Rattle.std.specs.Result.{result_err}
use native.Mathlib.Omega.{arith}
use lib.Dec.{T}
use lib.ListN.{length}
use borrow.Author.Tests.{eq-eqb, ne_eqb, le-leb, lt-leb}
use Rattle.std.specs.List.{list_all}
use Rattle.values.proofs.Firsts.{length-firsts}
use Rattle.nets.specs.declared.Net.{Net}
use Rattle.nets.specs.declared.Pick.{Pick}
use Rattle.nets.specs.View.{no_node, node_of, view}
use Rattle.record_bytes.specs.Decoding.{Decoded, good, bad, records_in}
use Rattle.files.specs.declared.Loaded.{Loaded}
use Rattle.load.specs.Lengths.{LengthPasses, LengthFails, Finishes}
use Rattle.files.specs.declared.Fault.{Fault}
use Rattle.files.specs.Empty.{blank_net}
use Rattle.files.specs.Engine.{first_picks, LoadIs}
use Rattle.files.specs.Loading.{Progress, nothing_read, load_checks, advance, failing, Reading, stopped, finished, proceed, read_all, first_bad_link, rejected, accepted, linked, finish, load, load_bytes, fault_of, net_loaded, picks_loaded}
use Rattle.load_walk.specs.Walking.{is_good}
use Rattle.files.proofs.EngineLaws.{blank_empty}

-- ── what a caller gets ──

pub refused-is : (file : List ℕ) (l : Loaded) (f : Fault) → load_bytes file ≡ rejected f.number f.place → l.verdict ≡ Err f → l.net ≡ blank_net → l.pickcount ≡ 0 → LoadIs file l
refused-is file l f e v h p =
    record {
      fault = ap result_err v ∙ sym (ap fault_of e);
      net = ap view h ∙ blank_empty ∙ sym (ap net_loaded e);
      picks = ap (λ (k : ℕ). first_picks k l.picks) p ∙ sym (ap picks_loaded e);
      empty = λ t. h;
    }

no-fault : {A : Type 0} (r : Result A Fault) → result_err r ≡ None → T (is_err r) → ⊥
no-fault (Ok a) e t = t
no-fault (Err f) e t = subst (λ (o : Option Fault). T (is_some o)) e tt

pub accepted-is : (file : List ℕ) (l : Loaded) → result_err l.verdict ≡ None → load_bytes file ≡ accepted (view l.net) (first_picks l.pickcount l.picks) → LoadIs file l
accepted-is file l v e = record { fault = v ∙ sym (ap fault_of e); net = sym (ap net_loaded e); picks = sym (ap picks_loaded e); empty = λ t. absurd (no-fault l.verdict v t) }

-- ── checks 1 and 2 ──

module _ (n : ℕ) where
  pub broken : (n % 104 ≡ 0 → ⊥) → LengthFails n (record { number = 1; place = n / 104 })
  unfolding load_bytes
  broken h = record { refused = λ file e. rw (e, ne_eqb (n % 104) 0 h) }

  pub too_many : n % 104 ≡ 0 → 256 < n / 104 → LengthFails n (record { number = 2; place = 256 })
  unfolding load_bytes
  too_many p h = record { refused = λ file e. rw (e, eq-eqb (n % 104) 0 p, lt-leb (n / 104) 256 h) }

  pub whole-records : n % 104 ≡ 0 → n / 104 ≤ 256 → LengthPasses n
  unfolding load_bytes
  whole-records p h =
      record {
        whole = λ file e. record { exact = omega (arith, e); few = omega (arith, e) };
        passed = λ file e. rw (e, eq-eqb (n % 104) 0 p, le-leb (n / 104) 256 h);
        short = omega arith;
      }

-- ── checks 3 to 8 ──

abbrev is_finished : Reading → Bool
is_finished (stopped n i) = false
is_finished (finished l) = true

not-finished : (n i : ℕ) (m : Progress) → stopped n i ≡ finished m → ⊥
not-finished n i m e = let z : false ≡ true = ap is_finished e in let y : ◌≡◌ {A = ℕ} 0 1 = cc in omega arith

all-good : (i : ℕ) (l : Progress) (xs : List Decoded) (m : Progress) → read_all i l xs ≡ finished m → T (list_all is_good xs)
unfolding read_all
all-good i l [] m e = tt
all-good i l (bad n ∷ xs) m e = absurd (not-finished n i m e)
all-good i l (good r ∷ xs) m e = go (failing (load_checks l r)) e (all-good (suc i) (advance l r) xs m)
  where
    go : (o : Option ℕ) → proceed o i (read_all (suc i) (advance l r) xs) ≡ finished m → (read_all (suc i) (advance l r) xs ≡ finished m → T (list_all is_good xs)) → T (list_all is_good xs)
    go None e ih = ih e
    go (Some n) e ih = absurd (not-finished n i m e)

-- ── the answer ──

module _ (file : List ℕ) (e : load_bytes file ≡ load (records_in file)) where
  pub stopped-file : (f : Fault) → read_all 0 nothing_read (records_in file) ≡ stopped f.number f.place → load_bytes file ≡ rejected f.number f.place
  unfolding load
  stopped-file f q = e ∙ ap (finish (records_in file)) q

  module _ (net : Net) (ps : List Pick) (q : Finishes (read_all 0 nothing_read (records_in file)) (view net) ps) where
    abbrev got : Progress
    got = record { net = view net; picks = ps; group = q.group }

    pub records-good : T (list_all is_good (records_in file))
    records-good = all-good 0 nothing_read (records_in file) got q.all

    nodes_in_lem : length (view net).nodes ≡ net.nodecount
    unfolding view
    nodes_in_lem = length-firsts node_of no_node net.nodecount net.nodes

    linked_as : (o : Option ℕ) → o ≡ first_bad_link net.nodecount 0 0 (records_in file) → load_bytes file ≡ linked o got
    unfolding load
    linked_as o b =
        e ∙ ap (finish (records_in file)) q.all
        ∙ ap (λ (n : ℕ). linked (first_bad_link n 0 0 (records_in file)) got) nodes_in_lem
        ∙ ap (λ (x : Option ℕ). linked x got) (sym b)

    pub bad-linked : (k : ℕ) → Some k ≡ first_bad_link net.nodecount 0 0 (records_in file) → load_bytes file ≡ rejected 9 k
    bad-linked k b = linked_as (Some k) b

    pub well_linked : None ≡ first_bad_link net.nodecount 0 0 (records_in file) → load_bytes file ≡ accepted (view net) ps
    well_linked b = linked_as None b
