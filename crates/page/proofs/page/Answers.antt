-- `page::page` meets its contract: an unsound net is refused, a sound one has tables in their ranges.
use Prim.Native.Nat.{ℕ, ◌≤◌}
use mathlib.Core.Path.{◌≡◌, sym, subst, ap, ◌∙◌}
use mathlib.Core.Bool.{Bool, true, false}
use mathlib.Core.List.{List, [], map}
use borrow.Author.Rules.{rules}
use native.Mathlib.Omega.{arith}
use lib.ListN.{length, take}
use Rattle.values.proofs.Firsts.{firsts_taken}
use lib.Dec.{T}
use Rattle.values.specs.declared.Site.{Site}
use Rattle.std.specs.List.{list_all}
use Rattle.values.proofs.Bools.{T_of}
use Rattle.nets.specs.declared.Net.{Net}
use Rattle.nets.specs.Nets as M
use Rattle.nets.specs.Tables.{table_at}
use Rattle.nets.specs.Sound.{table_ok, sound}
use Rattle.nets.specs.View.{no_table, table_of, tables_of, view}
use Rattle.nets.proofs.ShapeLaws.{tables_of_lem, few-tables, tables-ok}
use Rattle.page_rules.specs.Pages.{PageOutcome, page_refused, page_for, page, page_answer, buffer_after}
use Rattle.page_lines.proofs.OutcomeLaws.{by_sound}
use Rattle.std.specs.Prelude.{Result}
use Rattle.page.specs.declared.NotPaged.{NotPaged}
use Rattle.page.specs.PageCall.{answer_of}
use Rattle.page.proofs.page.Goals as goal

module _ (net : Net) (b : Bool) (e : b ≡ sound (view net)) where
  few : b ≡ true → net.tablecount ≤ 8
  few h = few-tables net (T_of (sound (view net)) (sym e ∙ h))

  module _ (eight : length net.tables ≡ 8) where
    taken : b ≡ true → tables_of net.tablecount net.tables ≡ map table_of (take net.tablecount net.tables)
    taken h = firsts_taken table_of no_table net.tablecount net.tables (let k = few h in omega (arith, k, eight))

    ranged : b ≡ true → T (list_all table_ok (map table_of (take net.tablecount net.tables)))
    ranged h = subst (λ (l : List M.Table). T (list_all table_ok l)) (taken h) (tables-ok net (T_of (sound (view net)) (sym e ∙ h)))

    module _ (s : Site) (n : ℕ) (o : List ℕ) where
      abbrev outcome : PageOutcome
      outcome = page_for (table_at s n (map table_of (take net.tablecount net.tables))) o

      is-outcome : b ≡ true → page (view net) s n o ≡ outcome
      is-outcome h = by_sound (view net) s n o true (sym h ∙ e) ∙ ap (λ (ts : List M.Table). page_for (table_at s n ts) o) (tables_of_lem net ∙ taken h)

      sound-answer : (r : Result ℕ NotPaged) → b ≡ true → answer_of r ≡ page_answer outcome → answer_of r ≡ page_answer (page (view net) s n o)
      sound-answer r h k = k ∙ sym (ap page_answer (is-outcome h))

      sound-buffer : (out : List ℕ) → b ≡ true → out ≡ buffer_after o outcome → out ≡ buffer_after o (page (view net) s n o)
      sound-buffer out h k = k ∙ sym (ap (buffer_after o) (is-outcome h))

      unsound-answer : b ≡ false → page_refused 10 [] ≡ page_answer (page (view net) s n o)
      unsound-answer h = sym (ap page_answer (by_sound (view net) s n o false (sym h ∙ e)))

      unsound-buffer : b ≡ false → o ≡ buffer_after o (page (view net) s n o)
      unsound-buffer h = sym (ap (buffer_after o) (by_sound (view net) s n o false (sym h ∙ e)))

pub page_tables-requires : goal.page_tables-requires
page_tables-requires c = ranged c.args.net c.sound_net.result c.sound_net.ensures (search rules) (search rules)

pub shared_ref_as_front-page_tables : goal.shared_ref_as_front-page_tables
shared_ref_as_front-page_tables c = let k : c.args.net.tablecount ≤ 8 = few c.args.net c.sound_net.result c.sound_net.ensures (search rules) in search (arith, rules)

pub returns-then-not-sound_net : goal.returns-then-not-sound_net
returns-then-not-sound_net c = record { answer = search unsound-answer; buffer = search unsound-buffer }

pub returns : goal.returns
returns c = record { answer = search sound-answer; buffer = search sound-buffer }
