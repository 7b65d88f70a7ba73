-- `page_lines::lines::page_size` meets its contract: a line for each row and one more.
use Prim.Native.Nat.{ℕ, ◌+◌, ◌*◌}
use mathlib.Core.Path.{◌≡◌, refl, sym, ap, ◌∙◌}
use lib.Dec.{T}
use lib.ListN.{length}
use Rattle.values.proofs.Firsts.{length-firsts}
use Rattle.rows.specs.declared.Relation.{Relation}
use Rattle.rows.specs.View.{no_row, values_of, relation_of}
use Rattle.nets.specs.Sound.{rows_ok}
use Rattle.page_rules.specs.Pages.{page_of}
use Rattle.page_lines.proofs.LineLaws.{page-length}
use Rattle.page_lines.proofs.lines.page_size.Goals as goal

long : (r : Relation) → T (rows_ok (relation_of r).rows) → (r.count + 1) * 53 ≡ length (page_of (relation_of r))
long r ok = sym (page-length (relation_of r) ok ∙ ap (λ (n : ℕ). (n + 1) * 53) (length-firsts (values_of r.columns) no_row r.count r.rows))

pub returns : goal.returns
returns c = (search long, refl)
