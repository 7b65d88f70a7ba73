-- A step in its scene: its answer from the checks after 15, the rows that it leaves in its table, and, where it is no loop, where its thread goes on. Assumes nothing.
use mathlib.Core.Path.{◌≡◌, refl, ap, ◌∙◌}
use mathlib.Core.Bool.{true, false, not, and-true}
use Rattle.std.specs.Prelude.{Some, is_some}
use lib.Dec.{T, eqb}
use lib.ListN.{length, drop}
use Rattle.values.proofs.Bools.{and_r, is_true, T_of, not-T→false}
use Rattle.rows.specs.Relations.{Relation}
use Rattle.nets.specs.Nets.{Kind, code, needs_table, reads_relation, is_loop}
use Rattle.nets.specs.Tables.{table_at, content_of, rows_of}
use Rattle.nets.specs.Scenes.{Scene, below, parts, site, table, relation, source, opens}
use Rattle.nets.specs.Steps.{held, check12, check13, check14, check15, check19, check20, rows_by, with_rows_by, tables_by, added_by, taken_by, bindings_by, with_bindings, go_on, settle, threads_after, performed, first_refusal, checks}
use Rattle.nets.specs.Answers.{Said, refusing, doing, step_said, answer_of}
use Rattle.step_effect.specs.EffectContracts.{is_step, puts_rows}
use Rattle.step_meets.specs.MeetContracts.{later_checks, outcome_at}
use Rattle.nets.proofs.AnswerLaws.{judge_said}
use Rattle.nets.proofs.KindClasses.{◌▸◌, of_class}
use Rattle.nets.proofs.StepLaws.{given}
use Rattle.nets.proofs.TableLaws.{change-same}
use Rattle.step_effect.proofs.KindTies.{puts_needs}

-- ── the answer ──

-- by the checks from 16 on
abbrev pub later_said : Scene → Said
later_said c = first_refusal refusing (drop 6 (checks c)) (doing (added_by c.node.kind (parts c)) (taken_by c.node.kind (parts c)))

pub later-said : (c : Scene) → check12 c ≡ true → check13 c ≡ true → check14 c ≡ true → check15 c ≡ true → answer_of (outcome_at c) ≡ later_said c
unfolding first_refusal checks performed
later-said c twelve thirteen fourteen fifteen = judge_said (later_checks c) (performed c) ∙ rw (twelve, thirteen, fourteen, fifteen)

-- ── the source of rows ──

-- it is the table variable read
pub read-source : (c : Scene) → T (reads_relation c.node.kind) → (r : Relation) → relation c ≡ Some r → source c ≡ r
unfolding source
read-source c s r e = rw (is_true (reads_relation c.node.kind) s, e)

-- or it is the table
pub own-source : (c : Scene) → reads_relation c.node.kind ≡ false → source c ≡ content_of (table c)
unfolding source
own-source c h = rw h

-- ── the tables ──

-- a kind that changes the rows of a table that stays
pub puts_tables : (k : Kind) (c : Scene) → T (puts_rows k) → tables_by k c ≡ with_rows_by k c
unfolding tables_by
puts_tables k c = of_class (λ j. tables_by j c ≡ with_rows_by j c) puts_rows (refl ▸ refl ▸ refl ▸ refl ▸ tt) k

-- check 14 saw that table, and its rows are those that the rule makes
pub puts_rows_lem : (c : Scene) → T (puts_rows c.node.kind) → check14 c ≡ true → rows_of (table_at (site c) c.node.name (tables_by c.node.kind c)) ≡ rows_by c.node.kind (parts c) (rows_of (table c))
unfolding check14 table
puts_rows_lem c s h =
    ap (λ ts. rows_of (table_at (site c) c.node.name ts)) (puts_tables c.node.kind c s)
    ∙ change-same (site c) c.node.name (rows_by c.node.kind (parts c)) c.net.tables
    (given (needs_table c.node.kind) (is_some (table c)) (puts_needs c.node.kind s) (T_of _ h))

-- ── a step that is no loop ──

module _ (c : Scene) (step : T (is_step c.node.kind)) where
  not-opens : opens c ≡ false
  unfolding opens
  not-opens = rw (not-T→false (is_loop c.node.kind) (and_r (not (eqb (code c.node.kind) 0)) (not (is_loop c.node.kind)) step))

  -- its answer is that of its parts
  pub effect_answer : check12 c ≡ true → check13 c ≡ true → check14 c ≡ true → check15 c ≡ true → answer_of (outcome_at c) ≡ step_said (parts c) (held c) (length c.net.tables)
  unfolding step_said first_refusal checks check19 check20
  effect_answer twelve thirteen fourteen fifteen = later-said c twelve thirteen fourteen fifteen ∙ rw (not-opens, and-true)

  pub effect_threads :
      threads_after c ≡ settle c.at (go_on c.net.nodes c.node.next (with_bindings c.thread (bindings_by c.node.kind c)) (below c.thread.stack)) c.net.threads
  unfolding threads_after
  effect_threads = rw not-opens
