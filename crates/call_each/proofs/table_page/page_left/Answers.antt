-- `call_each::table_page::page_left` meets its contract: the run leaves a sound net, and its tables are those of the rule. Assumes nothing.
use Prim.Native.Nat.{ℕ, ◌<◌}
use mathlib.Core.Path.{◌≡◌, refl, sym, subst, ap, ◌∙◌}
use mathlib.Core.Bool.{true}
use mathlib.Core.List.{List, map}
use native.Mathlib.Omega.{arith}
use borrow.Author.Rules.{rules}
use Rattle.std.specs.List.{list_all}
use Rattle.values.proofs.Arrays.{long}
use Rattle.values.proofs.Firsts.{firsts_taken}
use lib.Dec.{T}
use Rattle.values.specs.declared.Site.{Site}
use Rattle.values.proofs.Bools.{is_true}
use Rattle.nets.specs.declared.Pick.{Pick}
use Rattle.nets.specs.declared.Net as Code
use Rattle.nets.specs.Nets.{Table, Net}
use Rattle.nets.specs.Tables.{table_at}
use Rattle.nets.specs.Sound.{table_ok, sound}
use Rattle.nets.specs.Accounts.{after}
use Rattle.nets.specs.View.{no_table, table_of, tables_of, view}
use Rattle.nets.proofs.ShapeLaws.{tables_of_lem, few-tables, tables-ok}
use Rattle.page_rules.specs.Pages.{PageOutcome, no_page, a_page, page_for, page, PageAnswer, page_refused, page_length, page_answer, buffer_after}
use Rattle.page_lines.proofs.OutcomeLaws.{by_sound}
use Rattle.std.specs.Prelude.{Result, Ok, Err}
use Rattle.std.specs.Result.{MatchResult, IfErr, IsErrAnd}
use Rattle.std.proofs.lemmas.Result.{err_from_is_err_and}
use lib.ListN.{length, get_or, take, length-take}
use Rattle.page.specs.declared.NotPaged.{NotPaged}
use Rattle.page.specs.declared.NotPaged.TheVariants.{Unsound, NoTable, Short}
use Rattle.call_each.specs.PageRefusals.{refused_page}
use Rattle.page.specs.PageCall.{answer_of}
use Rattle.call_rules.specs.declared.Refused.{Refused}
use Rattle.call_rules.specs.TablePages.{page_reply, paged}
use Rattle.call_rules.specs.Openings.{number_of, number_told, place_told, Told}
use Rattle.call_each.proofs.table_page.page_left.Goals as goal

-- what is told of a page's answer
abbrev reply_of : Result ℕ NotPaged → Result ℕ Refused
reply_of (Ok n) = Ok n
reply_of (Err why) = Err (refused_page why)

abbrev number_for : PageAnswer → ℕ
number_for (page_refused n vs) = n
number_for (page_length n) = 0

abbrev place_for : PageAnswer → ℕ
place_for (page_refused n vs) = get_or vs 0 0
place_for (page_length n) = n

number-is : (r : Result ℕ NotPaged) → number_told (reply_of r) ≡ number_for (answer_of r)
number-is (Ok n) = refl
number-is (Err Unsound) = refl
number-is (Err NoTable) = refl
number-is (Err (Short n)) = refl

place-is : (r : Result ℕ NotPaged) → place_told (reply_of r) ≡ place_for (answer_of r)
place-is (Ok n) = refl
place-is (Err Unsound) = refl
place-is (Err NoTable) = refl
place-is (Err (Short n)) = refl

-- why a page is refused has a number above 0
refuses : (o : List ℕ) (r : Result ℕ NotPaged) → IfErr (reply_of r) (λ why. (0 < number_of why) × (o ≡ o))
refuses o (Ok n) = tt
refuses o (Err Unsound) = (omega arith, refl)
refuses o (Err NoTable) = (omega arith, refl)
refuses o (Err (Short n)) = (omega arith, refl)

-- a page that is put is no refusal
no-refusal : (bs o : List ℕ) (r : Result ℕ NotPaged) → answer_of r ≡ page_answer (a_page bs) → IfErr (reply_of r) (λ why. (0 < number_of why) × (buffer_after o (a_page bs) ≡ o))
no-refusal bs o (Ok n) e = tt
no-refusal bs o (Err Unsound) e = let z : ◌≡◌ {A = ℕ} 0 1 = cc in absurd (omega arith)
no-refusal bs o (Err NoTable) e = let z : ◌≡◌ {A = ℕ} 0 1 = cc in absurd (omega arith)
no-refusal bs o (Err (Short n)) e = let z : ◌≡◌ {A = ℕ} 0 1 = cc in absurd (omega arith)

told-outcome : (p : PageOutcome) (o : List ℕ) (r : Result ℕ NotPaged) → answer_of r ≡ page_answer p → Told (page_reply p) o (buffer_after o p) (reply_of r)
told-outcome (no_page n vs) o r e = record { gives = record { number = number-is r ∙ ap number_for e; place = place-is r ∙ ap place_for e; buffer = refl }; refused = refuses o r }
told-outcome (a_page bs) o r e = record { gives = record { number = number-is r ∙ ap number_for e; place = place-is r ∙ ap place_for e; buffer = refl }; refused = no-refusal bs o r e }

module _ (m : Net) (ps : List Pick) (net : Code.Net) (left : view net ≡ after m ps) (ok : T (sound (view net))) (eight : length net.tables ≡ 8) (site : Site) (name : ℕ) (o : List ℕ) where
  taken : tables_of net.tablecount net.tables ≡ map table_of (take net.tablecount net.tables)
  taken = firsts_taken table_of no_table net.tablecount net.tables (let k = few-tables net ok in omega (arith, k, eight))

  abbrev outcome : PageOutcome
  outcome = page_for (table_at site name (map table_of (take net.tablecount net.tables))) o

  outcome-is : page (after m ps) site name o ≡ outcome
  outcome-is = ap (λ (n : Net). page n site name o) (sym left) ∙ by_sound (view net) site name o true (sym (is_true (sound (view net)) ok)) ∙ ap (λ (ts : List Table). page_for (table_at site name ts) o) (tables_of_lem net ∙ taken)

  given : (r : Result ℕ NotPaged) (out : List ℕ) (reply : Result ℕ Refused) → answer_of r ≡ page_answer outcome → out ≡ buffer_after o outcome → reply ≡ reply_of r → Told (paged site name m ps o) o out reply
  unfolding paged
  given r out reply a b q = rw (q, b, outcome-is) (told-outcome outcome o r a)

pub page_tables-requires : goal.page_tables-requires
page_tables-requires c =
    let n = c.run_picks-left.result in
    let ok = c.run_picks-left.ensures.1 in
    subst (λ (l : List Table). T (list_all table_ok l)) (taken _ _ n c.run_picks-left.ensures.0 ok (search (long, rules)) c.args.site c.args.name c.args.out.now) (tables-ok n ok)

pub slice_bounds-all_tables-end : goal.slice_bounds-all_tables-end
slice_bounds-all_tables-end c =
    let r = c.run_picks-left in
    let eight : length r.result.tables ≡ 8 = search (long, rules) in
    omega (arith, few-tables r.result r.ensures.1, eight)

pub slice_bounds-page_tables-end : goal.slice_bounds-page_tables-end
slice_bounds-page_tables-end c =
    let r = c.run_picks-left in
    let eight : length r.result.tables ≡ 8 = search (long, rules) in
    omega (arith, length-take r.result.tablecount r.result.tables, few-tables r.result r.ensures.1, eight)

-- what `map_err` gives of it
maps : (Q : NotPaged → Refused → Type 0) (r : Result ℕ NotPaged) (s : Result ℕ Refused) → ((why : NotPaged) (told : Refused) → Q why told → told ≡ refused_page why) → MatchResult r (λ n. s ≡ Ok n) (λ why. IsErrAnd s (Q why)) → s ≡ reply_of r
maps Q (Ok n) s f h = h
maps Q (Err why) s f h = let y = err_from_is_err_and s h in y.1 ∙ ap Err (f why y.0 y.2)

pub returns : goal.returns
returns c =
    let run = c.run_picks-left.ensures in
    let paged = c.page_tables.ensures in
    given _ _ _ run.0 run.1 (search (long, rules)) _ _ _ c.page_tables.result _ c.map_err.result paged.0 paged.1 (maps _ c.page_tables.result c.map_err.result (λ why told e. search) c.map_err.ensures.cases)
