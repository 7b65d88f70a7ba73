use Prim.Native.Nat.{◌≤◌}
use mathlib.Core.Path.{◌≡◌}
use lib.ListN.{drop}
use Rattle.record_bytes.specs.Decoding.{whole_records, records_in}
use Rattle.files.specs.Loading.{first_bad_link}
use Rattle.load_links.proofs.bad_link.Given as goal

abbrev pub invariant-loop-i : goal.invariant-loop-i
invariant-loop-i l = (l.i ≤ whole_records l.file) × (l.j ≤ l.i) × (first_bad_link l.n 0 0 (records_in l.file) ≡ first_bad_link l.n l.i l.j (drop l.i (records_in l.file)))
