use Rattle.std.proofs.Common.{◌≡◌, ◌≤◌, [], ◌-◌, length, take}
use Rattle.record_bytes.specs.Decoding.{whole_records}
use Rattle.load_walk.specs.Walking.{Leads, Going}
use Rattle.load_groups.proofs.walk.walk.Given as goal

abbrev pub invariant-loop-r : goal.invariant-loop-r
invariant-loop-r g l =
    let t = g.T.Item in
    (length l.items ≡ g.row.N) × (l.count ≤ g.row.N) × (l.count ≤ l.at.place) × t.Kept (take l.count l.items) × Leads l.file l.initial.at l.at (t.put []) (t.put (take l.count l.items)) × Going l.file t.GROUP l.at

abbrev pub decreases-loop-r : goal.decreases-loop-r
decreases-loop-r g l = whole_records l.file - l.at.place
