-- `netpage::put_tables` is safe: each table is in its ranges. Assumes nothing.
use mathlib.Core.Path.{◌≡◌, refl, sym, ap, subst}
use mathlib.Core.List.{List, [], ◌∷◌, map}
use native.Mathlib.Omega.{arith}
use lib.Dec.{T}
use lib.ListN.{length}
use Rattle.std.specs.List.{list_all}
use Rattle.nets.specs.declared.Table.{Table}
use Rattle.nets.specs.Nets as M
use Rattle.nets.specs.Sound.{table_ok}
use Rattle.nets.specs.View.{table_of, tables_of}
use Rattle.nets.proofs.ShapeLaws.{shaped-at, rows-ok-at}
use Rattle.netpage.proofs.put_tables.Goals as goal

all : (ts : List Table) → tables_of (length ts) ts ≡ map table_of ts
all [] = refl
all (t ∷ ts) = ap (table_of t ∷◌) (all ts)

ok : (ts : List Table) → T (list_all table_ok (map table_of ts)) → T (list_all table_ok (tables_of (length ts) ts))
ok ts h = subst (λ (l : List M.Table). T (list_all table_ok l)) (sym (all ts)) h

pub put_table_page-requires : goal.put_table_page-requires
put_table_page-requires g c =
    let ts = c.args.tables.now in
    let h = ok ts c.requires in
    (shaped-at ts (length ts) c.loop-t.t-index (omega arith) h, rows-ok-at ts (length ts) c.loop-t.t-index (omega arith) h)
