-- Templates of four operands are within their arrays, and relations like the table KLD have its columns.
use Prim.Native.Nat.{ℕ}
use mathlib.Core.Path.{◌≡◌, sym, ap, ◌∙◌, subst}
use mathlib.Core.List.{List}
use native.Mathlib.Omega.{arith}
use lib.Dec.{T, eqb}
use lib.ListN.{get_or}
use Rattle.rows.specs.declared.Relation.{Relation}
use Rattle.rows.specs.declared.Operands.{Operands}
use Rattle.rows.specs.Relations as M
use Rattle.rows.specs.View.{relation_of, Short}
use Rattle.row_change.specs.ChangeContracts.{Holds}
use Rattle.cases.specs.Kld.{Kld}

pub short : {o t : Operands} → o ≡ t → t.count ≡ 4 → Short o
short e n = record { count = omega (arith, ap (λ (x : Operands). x.count) e, n) }

-- a relation with the columns of one of this shape
pub like : {r o : Relation} {rs : List M.Row} → Kld r → Holds o (relation_of r).columns rs → Kld o
like k h = record { shaped = h.shaped; columns = h.columns ∙ k.columns }

pub sales_column : {o : Relation} → Kld o → T (eqb (get_or (relation_of o).columns 3 0) 1)
sales_column k = subst (λ (l : List ℕ). T (eqb (get_or l 3 0) 1)) (sym k.columns) tt
