-- What a call comes to, by its first two checks. Assumes nothing.
use Prim.Native.Nat.{ℕ, ◌-◌, ◌%◌, ◌^◌, ◌≤◌, ◌<◌}
use mathlib.Core.Path.{◌≡◌, refl, sym, ap, ◌∙◌}
use mathlib.Core.List.{List, ◌++◌}
use Rattle.std.specs.Prelude.{Option, None, Some, Result, Ok, Err}
use Rattle.std.specs.Result.{result_err}
use Rattle.std.proofs.lemmas.Result.{IfErr-at_err}
use native.Mathlib.Nat.{sub-zero}
use native.Mathlib.Omega.{arith}
use lib.Dec.{T, leb, leb→le}
use lib.ListN.{length, drop}
use borrow.Author.Tests.{eq-eqb, ne_eqb, le-leb, lt-leb}
use Rattle.values.proofs.Bools.{and_l}
use Rattle.nets.specs.declared.Pick.{Pick}
use Rattle.nets.specs.Nets.{Net}
use Rattle.nets.specs.Sound.{sound}
use Rattle.nets.specs.View.{view}
use Rattle.nets.specs.declared.Net as Code
use Rattle.files.specs.declared.Fault.{Fault}
use Rattle.files.specs.declared.Loaded.{Loaded}
use Rattle.files.specs.Loading.{LoadAnswer, rejected, accepted, load_bytes, fault_of, net_loaded}
use Rattle.files.specs.Engine.{LoadIs}
use Rattle.files.proofs.FileLaws.{file-loaded}
use Rattle.files.proofs.EngineLaws.{verdict-accepts}
use Rattle.files.proofs.FaultLaws.{answer_numbered, bytes-numbered}
use Rattle.call_rules.specs.declared.Refused.{Refused}
use Rattle.call_rules.specs.declared.Refused.TheVariants.{File, OddPicks}
use Rattle.value_bytes.specs.Bytes.{put_all}
use Rattle.step_bytes.specs.PickBytes.{picks_in}
use Rattle.call_rules.specs.Replies.{Called, refusing, needed, if_room_for, if_room}
use Rattle.call_rules.specs.Calls.{on_loaded, called, number_in, Gives}
use Rattle.call_rules.specs.Openings.{number_of, place_of, Told, opening_gives, OpenIs}

-- a reason with its number and place
abbrev told : Option Fault → Called
told None = refusing 0 0
told (Some f) = refusing f.number f.place

abbrev net_in : Result Code.Net Refused → Code.Net → Code.Net
net_in (Ok net) z = net
net_in (Err why) z = z

-- a file's fault has a number above 0
pub fault-numbered : (file : List ℕ) (f : Fault) → Some f ≡ fault_of (load_bytes file) → 0 < f.number
fault-numbered file f = go (load_bytes file) (bytes-numbered file)
  where
    go : (x : LoadAnswer) → T (answer_numbered x) → Some f ≡ fault_of x → 0 < f.number
    go (rejected n i) h e =
        let q : f.number ≡ n = ap number_in (ap told e) in
        omega (arith, q, leb→le 1 n (and_l (leb 1 n) (leb n 9) h))
    go (accepted net own) h e = let z : ◌≡◌ {A = ℕ} 0 1 = cc in absurd (omega arith)

-- an odd number of bytes is no list of picks
pub opens-odd : (file picks : List ℕ) → (length picks % 2 ≡ 0 → ⊥) → OpenIs file picks (Err OddPicks)
unfolding called
opens-odd file picks h = record {
  called = λ made. rw (ne_eqb (length picks % 2) 0 h) refl;
  is_sound = λ net e. let z : ◌≡◌ {A = ℕ} 0 1 = cc in absurd (omega arith);
  refused = omega arith;
}

-- a file's first fault
pub opens_fault : (file picks : List ℕ) (l : Loaded) (f : Fault) → length picks % 2 ≡ 0 → LoadIs file l → l.verdict ≡ Err f → OpenIs file picks (Err (File f))
unfolding called
opens_fault file picks l f h is v = record {
  called = λ made. rw (eq-eqb (length picks % 2) 0 h) (go (load_bytes file) made (ap result_err (sym v) ∙ is.fault));
  is_sound = λ net e. let z : ◌≡◌ {A = ℕ} 0 1 = cc in absurd (omega arith);
  refused = fault-numbered file f (ap result_err (sym v) ∙ is.fault);
}
  where
    go : (x : LoadAnswer) (made : Net → List Pick → Called) → Some f ≡ fault_of x → on_loaded (λ net own. made net (picks_in picks)) x ≡ refusing f.number f.place
    go (rejected n i) made e = sym (ap told e)
    go (accepted net own) made e = let z : ◌≡◌ {A = ℕ} 0 1 = cc in absurd (omega arith)

-- the net of a file that is accepted
pub opens_net : (file picks : List ℕ) (l : Loaded) → length picks % 2 ≡ 0 → LoadIs file l → l.verdict ≡ Ok tt → OpenIs file picks (Ok l.net)
unfolding called
opens_net file picks l h is v = record {
  called = λ made. rw (eq-eqb (length picks % 2) 0 h, is.net) (go (load_bytes file) made (ap result_err (sym v) ∙ is.fault));
  is_sound = λ net e. let q : l.net ≡ net = ap (λ (r : Result Code.Net Refused). net_in r l.net) e in rw (sym q, is.net) (file-loaded file (verdict-accepts file l is v)).is_sound;
  refused = tt;
}
  where
    go : (x : LoadAnswer) (made : Net → List Pick → Called) → None ≡ fault_of x → on_loaded (λ net own. made net (picks_in picks)) x ≡ made (net_loaded x) (picks_in picks)
    go (rejected n i) made e = let z : ◌≡◌ {A = ℕ} 0 1 = cc in absurd (omega arith)
    go (accepted net own) made e = refl

-- ── a call, by what it opened ──

module _ (made : Net → List Pick → Called) (file picks o : List ℕ) (r : Result Code.Net Refused) (is : OpenIs file picks r) where
  pub call_refused : (why : Refused) → r ≡ Err why → Told (called made file picks) o o (Err why)
  call_refused why e = record {
    gives = rw (is.called made, e) (record { number = refl; place = refl; buffer = refl });
    refused = (IfErr-at_err (λ (w : Refused). 0 < number_of w) e is.refused, refl);
  }

  pub call_given : (out : List ℕ) (n i : ℕ) (net : Code.Net) → r ≡ Ok net → Gives (made (view net) (picks_in picks)) o out n i → Gives (called made file picks) o out n i
  call_given out n i net e g = rw (is.called made, e) g

-- ── a buffer, by its room ──

-- a length within 64 bits is told as it is
pub needed-is : (n : ℕ) → n < 2 ^ 64 → n ≡ needed n
needed-is n h = rw (le-leb n (2 ^ 64 - 1) (omega arith)) refl

module _ (bs o : List ℕ) (n : ℕ) (l : length bs ≡ n) where
  pub gives-short : (p : ℕ) → length o < n → p ≡ needed n → Gives (if_room bs o) o o 21 p
  unfolding if_room_for
  gives-short p h q = rw (l, lt-leb n (length o) h) (record { number = refl; place = q; buffer = refl })

  pub gives-put : (ys : List ℕ) → n ≤ length o → ys ≡ bs → Gives (if_room bs o) o (ys ++ drop (n - 0) o) 0 n
  unfolding if_room_for
  gives-put ys h e = rw (l, le-leb n (length o) h, e, sub-zero) (record { number = refl; place = sym l; buffer = rw l refl })

  pub gives_all : (out : List ℕ) → n ≤ length o → out ≡ put_all bs o → Gives (if_room bs o) o out 0 n
  unfolding if_room_for put_all
  gives_all out h e = rw (e, l, le-leb n (length o) h) (record { number = refl; place = sym l; buffer = rw l refl })
