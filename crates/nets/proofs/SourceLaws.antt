-- In a sound net, the rows that a step reads fit the columns that it reads them by. Assumes nothing.
use Prim.Native.Nat.{ℕ}
use mathlib.Core.Path.{◌≡◌, refl}
use mathlib.Core.Bool.{Bool, true, false, cond}
use Rattle.std.specs.Prelude.{Option, None, Some}
use lib.Dec.{T}
use lib.ListN.{get_or}
use Rattle.values.specs.Lists.{or_else}
use Rattle.std.specs.List.{list_all}
use Rattle.values.proofs.Bools.{and_l, and_r}
use Rattle.values.proofs.ListLaws.{all_get_d, all_weaken, find-all}
use Rattle.rows.specs.Relations.{Relation, no_relation}
use Rattle.rows.specs.Fit.{relation_fits}
use Rattle.nets.specs.declared.Pick.{Pick}
use Rattle.nets.specs.Nets.{Table, Thread, Net, reads_relation}
use Rattle.nets.specs.Tables.{is_at, content_of, rows_fit, distinct}
use Rattle.nets.specs.Sound.{sound, relation_ok, thread_ok, no_thread}
use Rattle.nets.specs.Scenes.{Scene, scene_of, site, table, relation, source}

pub sound-fits : (net : Net) → T (sound net) → T (list_all rows_fit net.tables)
unfolding sound
sound-fits net h = search (and_l, and_r) depth 12

pub sound-distinct : (net : Net) → T (sound net) → T (distinct net.tables)
unfolding sound
sound-distinct net h = search (and_l, and_r) depth 12

pub sound-threads : (net : Net) → T (sound net) → T (list_all (thread_ok net.nodes) net.threads)
unfolding sound
sound-threads net h = search (and_l, and_r) depth 12

abbrev relations_ok : Thread → Bool
relations_ok t = list_all relation_ok t.bindings.relations

of_relation : (o : Option Relation) → T (relation_ok o) → T (relation_fits (or_else no_relation o))
of_relation None h = tt
of_relation (Some r) h = search (and_l, and_r)

of_table : (o : Option Table) → ((t : Table) → o ≡ Some t → T (rows_fit t)) → T (relation_fits (content_of o))
of_table None h = tt
of_table (Some t) h = h t refl

thread-relations : (net : Net) (i : ℕ) → T (sound net) → T (relations_ok (get_or net.threads i no_thread))
thread-relations net i h =
    all_get_d relations_ok net.threads i no_thread
    (all_weaken (thread_ok net.nodes) relations_ok net.threads (λ t k. search (and_l, and_r) depth 8) (sound-threads net h)) tt

pub source_fits : (net : Net) (p : Pick) → T (sound net) → T (relation_fits (source (scene_of net p)))
unfolding source scene_of relation table
source_fits net p h = go (reads_relation c.node.kind)
  where
    c : Scene
    c = scene_of net p

    go : (b : Bool) → T (relation_fits (cond b (or_else no_relation (relation c)) (content_of (table c))))
    go true =
        of_relation (relation c) (all_get_d relation_ok c.thread.bindings.relations c.node.read None (thread-relations net p.thread h) tt)
    go false = of_table (table c) (λ t e. find-all (is_at (site c) c.node.name) rows_fit net.tables t e (sound-fits net h))
