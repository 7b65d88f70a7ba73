-- A step keeps a net sound, and so does every list of picks. Assumes nothing.
use mathlib.Core.List.{List, [], ◌∷◌}
use lib.Dec.{T, leb→le, le→leb}
use lib.ListN.{length}
use Rattle.std.specs.List.{list_all}
use Rattle.nets.specs.declared.Pick.{Pick}
use Rattle.nets.specs.Nets.{Net, Outcome}
use Rattle.nets.specs.Tables.{rows_fit, distinct}
use Rattle.nets.specs.Sound.{sound}
use Rattle.nets.specs.Scenes.{Scene, scene_of}
use Rattle.nets.specs.Steps.{tables_by, threads_after, net_after, performed, checks, step}
use Rattle.nets.specs.Accounts.{net_left, next_net, after}
use Rattle.nets.proofs.StepLaws.{Pass, pass, judged, performs}
use Rattle.nets.proofs.SoundLaws.{Clauses, clauses, whole}
use Rattle.nets.proofs.SureLaws.{Sure, sure}
use Rattle.nets.proofs.RoundLaws.{Threads, threads-ok}
use Rattle.nets.proofs.KeepTables.{tables-ok, tables-few}

-- a performed step gives a sound net
performed-sound : (net : Net) (p : Pick) → Pass (scene_of net p) → T (list_all rows_fit (net_after (scene_of net p)).tables) → T (distinct (net_after (scene_of net p)).tables) → T (sound (net_after (scene_of net p)))
unfolding net_after scene_of
performed-sound net p h f d =
    whole (net_after c)
    (record {
      few_tables = le→leb (length (tables_by c.node.kind c)) 8 (tables-few c.node.kind c s (leb→le (length net.tables) 8 q.few_tables));
      few_nodes = q.few_nodes;
      few_threads = le→leb (length (threads_after c)) 8 t.few;
      tables = tables-ok c.node.kind c s q.aliases q.tables;
      fit = f;
      names = d;
      aliases = q.aliases;
      differ = q.differ;
      nodes = q.nodes;
      threads = t.fine;
    })
  where
    c : Scene
    c = scene_of net p

    q : Clauses net
    q = clauses net h.ten

    s : Sure c.node.kind c
    s = sure net p h

    t : Threads net.nodes (threads_after c)
    t = threads-ok s (record { fine = q.threads; few = leb→le (length net.threads) 8 q.few_threads })

-- the net that a step leaves is sound
pub step-sound : (net : Net) (p : Pick) → T (sound net) → T (sound (next_net net p))
unfolding next_net step performed
step-sound net p h =
    judged (λ (o : Outcome). T (sound (net_left net o))) (λ n vs. h) (checks (scene_of net p)) (performed (scene_of net p))
    (λ k.
    let q = pass (scene_of net p) k in
    let m = performs net p (clauses net h).fit (clauses net h).names q in
    performed-sound net p q m.fit m.names)

-- and so is the net after any list of picks
pub run_sound : (net : Net) (ps : List Pick) → T (sound net) → T (sound (after net ps))
unfolding after
run_sound net [] h = h
run_sound net (p ∷ ps) h = run_sound (next_net net p) ps (step-sound net p h)
