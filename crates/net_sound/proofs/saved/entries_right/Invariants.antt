use Rattle.std.proofs.Common.{◌≡◌, ◌<◌, ℕ, List, Bool, true, false, length, get_or, map}
use Rattle.std.specs.Prelude.{Option}
use Rattle.std.specs.List.{list_any}
use Rattle.rows.specs.Relations.{Relation}
use Rattle.nets.specs.declared.Frame.{Frame}
use Rattle.nets.specs.Nets.{Bindings, Node}
use Rattle.nets.specs.Steps.{holds}
use Rattle.nets.specs.View.{node_of, variable_of, stack_of, saved_at}
use Rattle.net_parts.specs.SoundParts.{all_saved_right}
use Rattle.net_sound.proofs.saved.entries_right.Given as goal

-- what is noted of the lowest `j` entries: which table variables they hold, and that what is saved for them is right
pub record Noted (ds : List Node) (rs : List (Option Relation)) (bs : ℕ → Bindings) (l : List Frame) (held : List Bool) (j : ℕ) : Type 0 where
  pub two : length held ≡ 2
  pub flags : (m : ℕ) → m < 2 → get_or held m false ≡ list_any (holds ds m) (stack_of bs j l)
  pub right : all_saved_right ds rs (stack_of bs j l) ≡ true

abbrev pub invariant-loop-j : goal.invariant-loop-j
invariant-loop-j l = Noted (map node_of l.nodes) (map variable_of l.t.relations) (saved_at (map node_of l.nodes) l.saved l.i l.t) l.t.stack l.held l.j
