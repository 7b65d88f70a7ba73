-- **The call for a page**: whatever it puts reads as the table that all picks leave.
use Prim.Native.Nat.{ℕ, ◌%◌}
use mathlib.Core.Path.{◌≡◌, refl, sym, ap, ◌∙◌, subst}
use mathlib.Core.Bool.{Bool, true, false, cond}
use mathlib.Core.List.{List}
use native.Mathlib.Omega.{arith}
use lib.Dec.{T, eqb, leb, leb→le}
use lib.ListN.{length}
use borrow.Author.Tests.{eq-eqb}
use Rattle.values.specs.declared.Site.{Site}
use Rattle.values.proofs.Bools.{and_l}
use Rattle.nets.specs.declared.Pick.{Pick}
use Rattle.nets.specs.Nets.{Net}
use Rattle.nets.specs.Accounts as A
use Rattle.nets.specs.Sound.{sound}
use Rattle.files.specs.Loading.{LoadAnswer, rejected, accepted, load_bytes, is_accepted, net_loaded}
use Rattle.files.proofs.FileLaws.{file-sound}
use Rattle.files.proofs.FaultLaws.{answer_numbered, bytes-numbered}
use Rattle.step_bytes.specs.PickBytes.{picks_in}
use Rattle.page_rules.specs.Pages.{PageOutcome, no_page, a_page, page}
use Rattle.page_rules.specs.Readable.{ReadsAs}
use Rattle.page_lines.proofs.OutcomeLaws.{asked, buffer-reads, asked-long, table-page, has_number, numbered}
use Rattle.call_rules.specs.Replies.{refusing}
use Rattle.call_rules.specs.TablePages.{page_reply, paged}
use Rattle.call_rules.specs.Calls.{odd_picks_number, on_loaded, called, Gives}
use Rattle.call_rules.specs.PageReading.{ReadsAfter, PageAfterReads, PageAfterGiven}

module _ (file picks : List ℕ) (site : Site) (name : ℕ) (before after : List ℕ) (place : ℕ) where
  of_outcome : (net : Net) (own : List Pick) → load_bytes file ≡ accepted net own → (p : PageOutcome) → page (A.after net (picks_in picks)) site name before ≡ p → T (has_number p) → Gives (page_reply p) before after 0 place
      → ReadsAfter file picks site name after place
  of_outcome net own e (no_page n vs) q h g = absurd (omega (arith, leb→le 1 n h, g.number))
  of_outcome net own e (a_page bs) q h g =
      let a = asked (A.after net (picks_in picks)) site name before bs q in
      record {
        net = net;
        own = own;
        loaded = e;
        table = a.table;
        found = a.found;
        long = g.place ∙ asked-long (A.after net (picks_in picks)) site name bs a;
        reads = subst (λ (l : List ℕ). ReadsAs l a.table.content) (sym g.buffer) (buffer-reads (A.after net (picks_in picks)) site name before bs a);
      }

  of_loaded : (x : LoadAnswer) → load_bytes file ≡ x → T (answer_numbered x) → Gives (on_loaded (λ net own. paged site name net (picks_in picks) before) x) before after 0 place → ReadsAfter file picks site name after place
  unfolding paged
  of_loaded (rejected n i) e h g = absurd (omega (arith, leb→le 1 n (and_l (leb 1 n) (leb n 9) h), g.number))
  of_loaded (accepted net own) e h g = of_outcome net own e (page (A.after net (picks_in picks)) site name before) refl (numbered (A.after net (picks_in picks)) site name before) g

  of_picks : (b : Bool) → Gives (cond b (on_loaded (λ net own. paged site name net (picks_in picks) before) (load_bytes file)) (refusing odd_picks_number 0)) before after 0 place → ReadsAfter file picks site name after place
  of_picks true g = of_loaded (load_bytes file) refl (bytes-numbered file) g
  of_picks false g = absurd (omega (arith, g.number))

pub page-after-reads : PageAfterReads
unfolding called
page-after-reads file picks site name before after place g = of_picks file picks site name before after place (eqb (length picks % 2) 0) g

-- ── each table is given ──

net-sound : (file : List ℕ) (net : Net) (own ps : List Pick) → load_bytes file ≡ accepted net own → T (sound (A.after net ps))
net-sound file net own ps e =
    let ok : T (is_accepted (load_bytes file)) = rw e tt in
    subst (λ (n : Net). T (sound (A.after n ps))) (ap net_loaded e) (file-sound file ok ps)

pub page-after-given : PageAfterGiven
unfolding called paged
page-after-given file picks site name before after number place net own t g even e found room =
    g.number
    ∙ rw (eq-eqb (length picks % 2) 0 even, e, table-page (A.after net (picks_in picks)) site name t (net-sound file net own (picks_in picks) e) found before room) refl
