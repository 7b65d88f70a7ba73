-- The parts that the code holds of a scene: they are the parts of its step, and of its round. Assumes nothing.
use mathlib.Core.Path.{◌≡◌, ap, ap₂, sym, subst, ◌∙◌}
use mathlib.Core.Bool.{cond}
use Rattle.std.specs.Prelude.{None, Some}
use lib.Dec.{T, ltb}
use lib.ListN.{get_or}
use Rattle.rows.specs.declared.Relation as Code
use Rattle.rows.specs.Relations.{Relation}
use Rattle.rows.specs.View.{relation_of, operands_of}
use Rattle.step_meets.specs.Situations.{Situation}
use Rattle.nets.specs.Nets as M
use Rattle.nets.specs.Nets.{Kind, is_loop, is_parallel}
use Rattle.nets.specs.Scenes.{Scene, parts, vars, template, relation, source}
use Rattle.nets.specs.Steps.{room_for_round}
use Rattle.nets.specs.View.{kind_at}
use Rattle.step_thread.specs.ThreadContracts.{visit_of}
use Rattle.step_meets.specs.MeetContracts.{Meets, relation_read, parts_in}
use Rattle.step_meets.proofs.RoundTies.{round_here, round_with, loop_round}
use Rattle.nets.proofs.StackView.{length-stack}
use Rattle.step_thread.proofs.ThreadLaws.{visit-any}

module _ (s : Situation) (c : Scene) (m : Meets s c) where
  pub met-kind : c.node.kind ≡ kind_at s.node.kind
  met-kind = ap (λ (d : M.Node). d.kind) m.node

  pub met-vars : vars c ≡ s.thread.vars
  met-vars = ap (λ (t : M.Thread). t.bindings.vars) m.thread

  pub met-template : template c ≡ operands_of s.node.selector.template
  met-template = ap (λ (d : M.Node). d.selector.template) m.node

  pub met-relation : relation c ≡ relation_read s
  unfolding relation
  met-relation = ap₂ (λ (t : M.Thread) (d : M.Node). get_or t.bindings.relations d.read None) m.thread m.node

  -- with the source of rows `q`
  pub met-parts : (q : Code.Relation) → relation_of q ≡ source c → parts_in s q ≡ parts c
  met-parts q e = λ i. record { node = sym m.node i; content = m.content i; source = e i; vars = sym met-vars i }

  -- a loop's round, with the table variable read `r`
  pub met_round :
      T (is_loop (kind_at s.node.kind)) → (r : Relation) → relation_read s ≡ Some r →
      round_here c ≡ round_with s.thread.vars (operands_of s.node.selector.template) r (visit_of s.frame r) s.row (room_for_round c)
  met_round l r e =
      loop_round c (subst (λ (k : Kind). T (is_loop k)) (sym met-kind) l) r (met-relation ∙ e)
      ∙ rw (met-vars, met-template, m.entry, ← m.row, visit-any)

  pub met-room : room_for_round c ≡ cond (is_parallel (kind_at s.node.kind)) (ltb s.threads 8) (ltb s.thread.depth 8)
  unfolding room_for_round
  met-room = rw (met-kind, ← m.threads, m.thread, length-stack)
