-- `call_hold::entries::entry_records` meets its contract: its own record, and those of the bindings where there are any. Assumes nothing.
use Prim.Native.Nat.{ℕ, suc, ◌+◌, ◌≤◌}
use mathlib.Core.Path.{◌≡◌, ap}
use mathlib.Core.List.{List}
use native.Mathlib.Omega.{arith}
use lib.ListN.{length}
use Rattle.nets.specs.declared.Saved.{Saved}
use Rattle.nets.specs.View.{TableVariable}
use Rattle.call_hold.specs.Holdings.{records_given, pair_held, held_given}
use Rattle.call_hold.proofs.HoldLaws.{pair_ok, none-given, held-count}
use borrow.Author.Rules.{rules}
use Rattle.call_hold.proofs.entries.entry_records.Goals as goal

module _ (h : ℕ) (rs : List TableVariable) (s : Saved) where
  nothing : h ≡ 0 → (1 ≡ suc (length (held_given h rs s))) × (1 ≤ 51)
  nothing e = (omega (arith, ap length (none-given h rs s e)), omega arith)

  something : (p : List TableVariable) (n : ℕ) → (h ≡ 0 → ⊥) → p ≡ pair_held h rs s.other → n ≡ records_given p → 1 + n ≡ suc (length (held_given h rs s))
  something p n d e q = omega (arith, held-count h rs s p d e)

pub returns-then-held-eq0 : goal.returns-then-held-eq0
returns-then-held-eq0 c = let a = c.args in nothing a.held a.relations a.saved c.if-held-eq0.true

pub bindings_records-requires : goal.bindings_records-requires
bindings_records-requires c = search pair_ok

pub returns : goal.returns
returns c = (search something, search rules)
