-- What is decided at a loop, at a scene: over, a round in the thread, or a round in a new one. Assumes nothing.
use Rattle.std.specs.Prelude.{None, Some, Ok}
use Prim.Native.Nat.{ℕ, ◌+◌, ◌-◌, ◌<◌, ◌≤◌}
use mathlib.Core.Path.{◌≡◌, ap, ◌∙◌}
use mathlib.Core.Bool.{Bool, true, false, cond}
use mathlib.Core.List.{[], ◌∷◌}
use native.Mathlib.Omega.{arith}
use borrow.Author.Tests.{le-ltb}
use lib.Dec.{ltb}
use lib.ListN.{length}
use Rattle.rows.specs.declared.Relation as Code
use Rattle.nets.specs.declared.Done.{Done}
use Rattle.nets.specs.declared.Entry.TheVariants.{Loop}
use Rattle.nets.specs.Nets.{is_parallel, to_run, visiting, Bindings, Thread}
use Rattle.nets.specs.Scenes.{Scene, below}
use Rattle.nets.specs.Steps.{restored}
use Rattle.nets.specs.Answers.{Answer, said_of}
use Rattle.nets.specs.View.{kind_at, marked, node_in, entry_with, entry_of, thread_of}
use Rattle.step_thread.specs.declared.Opened.{Opened}
use Rattle.step_thread.specs.ThreadContracts.{RoundAnswer, is_run, Stacked}
use Rattle.step_meets.specs.declared.Decided.{Decided}
use Rattle.step_meets.specs.Situations.{Situation, moved, saved_after, Onward, starts_thread, vars_started}
use Rattle.step_meets.specs.MeetContracts.{Made, DecidedAt}
use Rattle.step_meets.proofs.DecideLaws.{change_as, done-at}
use Rattle.step_meets.proofs.MovedLaws.{moved-top, moved-over, goes_on_lem, saved-below, onward_framed, round_framed}
use Rattle.step_meets.proofs.LoopChangeLaws.{loop-relations, same-bindings, RoundAt, round_says, round_over, round_runs, round_forks}

module _ (s : Situation) (q : Code.Relation) (c : Scene) (o : RoundAnswer) (at : RoundAt s c o) (ok : Stacked s.thread) (eight : length s.thread.stack ≡ 8) (r : Decided) (done : r.done ≡ record { added = 0; taken = 0 }) where
  abbrev said_done : Done → Answer
  said_done d = Ok d

  answered : said_done r.done ≡ Ok (record { added = 0; taken = 0 })
  answered = ap said_done done

  -- the loop is over
  pub over-at : o ≡ Ok None → starts_thread r ≡ false → r.vars ≡ s.thread.vars → Onward s.thread.depth s.node.next r → DecidedAt s q c (Ok r)
  over-at e f v g =
      done-at c s q r (ap said_of answered ∙ round_says s c o at e)
      (λ x.
      change_as c s q r x answered f
      (round_over s c o at q r x e
      (goes_on_lem s.thread s.saved (saved_after s r) r x.above x.over x.body x.relations ok eight (saved-below s r) c.net.nodes s.node.next g ∙ same-bindings s q r x at.loop v c.net.nodes)))
      (onward_framed s r s.node.next ok.some f g)

  module _
      (p : Opened) (e : o ≡ Ok (Some p)) (first : r.saves ≡ is_run s.frame.entry) {i : ℕ} (number : i ≡ node_in s.frame.entry)
      (loops : r.frame.entry ≡ Loop i) (waits : (b : Bindings) → entry_of b r.frame ≡ visiting i (marked 0 p.visit) b) where
    abbrev saved : Bindings
    saved = saved_after s r (s.thread.depth - 1)

    waiting : entry_of saved r.frame ≡ visiting (node_in s.frame.entry) (marked 0 p.visit) saved
    waiting = waits saved ∙ ap (λ (j : ℕ). visiting j (marked 0 p.visit) saved) number

    -- no entry is removed
    stays : s.thread.depth ≤ r.depth → ltb r.depth s.thread.depth ≡ false
    stays h = le-ltb r.depth s.thread.depth h

    -- a round in the thread
    pub runs-at : is_parallel (kind_at s.node.kind) ≡ false → s.thread.depth < 8 → starts_thread r ≡ false → r.vars ≡ p.vars → r.depth ≡ s.thread.depth + 1 → DecidedAt s q c (Ok r)
    runs-at k deep f v d =
        done-at c s q r (ap said_of answered ∙ round_says s c o at e)
        (λ x.
        change_as c s q r x answered f
        (round_runs s c o at q r x p e first k
        (ap (λ (b : Bool). back_by b x) (stays (omega (arith, d)))
        ∙ moved-over s.thread s.saved (saved_after s r) r x.above x.over x.body x.relations ok eight (saved-below s r) deep d
        ∙ (λ j.
        record {
          site = s.thread.site;
          bindings = record { vars = v j; relations = loop-relations s q r x at.loop j };
          stack = entry_with (saved_after s r s.thread.depth) x.body.visit (x.runs j) ∷ waiting j ∷ below (thread_of s.saved s.thread).stack;
        }))))
        (round_framed s r (omega (arith, d)) (omega (arith, d)) loops number at.loop first)
      where
        back_by : Bool → Made s q r → Thread
        back_by b x =
            let u : Thread = thread_of (saved_after s r) (moved s.thread r x.above x.body x.relations) in
            cond b (restored c.net.nodes u u.stack) u

    -- a round in a new thread
    pub forks-at : is_parallel (kind_at s.node.kind) ≡ true → starts_thread r ≡ true → r.vars ≡ s.thread.vars → vars_started r ≡ p.vars → r.depth ≡ s.thread.depth → DecidedAt s q c (Ok r)
    forks-at k f v n d =
        done-at c s q r (ap said_of answered ∙ round_says s c o at e)
        (λ x.
        change_as c s q r x answered f
        (round_forks s c o at q r x p e first k (omega (arith, d, ok.some))
        (ap (λ (b : Bool). back_by b x) (stays (omega (arith, d)))
        ∙ moved-top s.thread s.saved (saved_after s r) r x.above x.over x.body x.relations ok eight (saved-below s r) d
        ∙ (λ j.
        record {
          site = s.thread.site;
          bindings = record { vars = v j; relations = loop-relations s q r x at.loop j };
          stack = waiting j ∷ below (thread_of s.saved s.thread).stack;
        }))
        (λ j. record { site = s.thread.site; bindings = record { vars = n j; relations = loop-relations s q r x at.loop j }; stack = to_run s.node.body ∷ [] })))
        (round_framed s r (omega (arith, d)) (omega (arith, d)) loops number at.loop first)
      where
        back_by : Bool → Made s q r → Thread
        back_by b x =
            let u : Thread = thread_of (saved_after s r) (moved s.thread r x.above x.body x.relations) in
            cond b (restored c.net.nodes u u.stack) u
