-- The tables that are left decide, each with those after it.
use Rattle.std.proofs.Common.{◌≡◌, ◌&&◌, ◌∙◌, ℕ, ◌+◌, ◌-◌, List, Bool, map, length, take, drop, get_or, sym, ap, ap₂}
use Rattle.std.proofs.lemmas.List.{drop-map}
use Rattle.values.proofs.PairLaws.{tails-more, tails-fails}
use Rattle.nets.specs.declared.Table as Code
use Rattle.nets.specs.Tables.{rows_fit}
use Rattle.nets.specs.Sound.{table_ok}
use Rattle.nets.specs.View.{no_table, table_of}
use Rattle.net_parts.proofs.Counts.{one-seen, all-after}
use Rattle.net_parts.proofs.DistinctLaws.{table_new, table_test, tables_are}
use Rattle.net_parts.proofs.lists.tables_ok.Goals as goal

judged : (l : List Code.Table) (i : ℕ) {t u : Bool} → t ≡ (table_ok (table_of (get_or l i no_table)) && rows_fit (table_of (get_or l i no_table)))
    → u ≡ table_new (table_of (get_or l i no_table)) (map table_of (take (length l - (i + 1)) (drop (i + 1) l)))
    → (t && u) ≡ table_test (table_of (get_or l i no_table)) (drop (i + 1) (map table_of l))
judged l i p q =
    ap₂ ◌&&◌ p (q ∙ ap (table_new (table_of (get_or l i no_table))) (ap (map table_of) (all-after l (i + 1)) ∙ sym (drop-map table_of (i + 1) l)))

pub loop-i-init : goal.loop-i-init
loop-i-init c = tables_are (map table_of c.args.tables.now)

pub loop-i-preserved : goal.loop-i-preserved
loop-i-preserved c =
    let l = c.args.tables.now in
    let i = c.loop-i.i in
    tails-more table_test _ c.loop-i.invariant (one-seen table_of no_table l i c.loop-i-test.true) (judged l i c.table_ok.ensures c.table_new.ensures) c.if-not-table_ok-table_new.false

pub returns-then-not-table_ok-table_new : goal.returns-then-not-table_ok-table_new
returns-then-not-table_ok-table_new c =
    let l = c.args.tables.now in
    let i = c.loop-i.i in
    tails-fails table_test _ c.loop-i.invariant (one-seen table_of no_table l i c.loop-i-test.true) (judged l i c.table_ok.ensures c.table_new.ensures) c.if-not-table_ok-table_new.true
