-- `step_reads::reads_ok` meets its contract: L and T', T, the predicate, t, and the table variable. Assumes nothing.
use Prim.Native.Nat.{ℕ, ◌≤◌}
use mathlib.Core.Path.{◌≡◌}
use native.Mathlib.Omega.{arith}
use borrow.Author.Rules.{rules}
use Rattle.values.proofs.Arrays.{long}
use Rattle.nets.specs.Steps.{is_bound}
use Rattle.nets.specs.View.{node_of}
use Rattle.step_reads.specs.ReadContracts.{flag_at}
use Rattle.step_reads.proofs.ReadingLaws.{operands_taken, reads_are}
use Rattle.step_reads.proofs.reads_ok.Goals as goal

few : {m n : ℕ} → n ≡ 4 → m ≤ 4 → m ≤ n
few e h = omega arith

pub returns : goal.returns
returns c =
    let n = c.args.node in
    reads_are (is_bound c.args.vars) (flag_at c.args.tables) (node_of n)
    (operands_taken n.selector.template (few (search (long, rules)) c.requires.0.count)) (operands_taken n.tuple (few (search (long, rules)) c.requires.1.count))
    c.all_known.ensures c.all_known-2.ensures c.all_known_or_formal.ensures c.all_known_or_formal-2.ensures c.reads_relation.ensures c.flag_in.ensures
