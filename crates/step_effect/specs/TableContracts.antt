-- The tables after a done step, as `carry_out` stores them. Only proofs speak of it: the rule is `tables_by`.
use Rattle.std.specs.Prelude.{ℕ, List, [], ◌∷◌, ◌++◌, get_or, set}
use Rattle.values.specs.declared.Site.{Site}
use Rattle.values.specs.Lists.{remove_at}
use Rattle.rows.specs.Relations.{Relation}
use Rattle.nets.specs.Nets as M
use Rattle.nets.specs.Nets.{Kind, acting, other, insert, insert_table, delete, update, create, drop}
use Rattle.nets.specs.View.{no_table, table_of}

-- the table with another content
abbrev pub with_content : Relation → M.Table → M.Table
with_content q t = record { site = t.site; name = t.name; content = q }

abbrev pub put_content : ℕ → Relation → List M.Table → List M.Table
put_content at q ts = set ts at (with_content q (get_or ts at (table_of no_table)))

-- the tables after a done step of a node at a site: its table stands at `at`, and `q` is that table's content afterwards
unfoldable pub tables_with : Kind → ℕ → List M.Table → Site → M.Node → Relation → List M.Table
tables_with (acting insert) at ts s d q = put_content at q ts
tables_with (acting insert_table) at ts s d q = put_content at q ts
tables_with (acting delete) at ts s d q = put_content at q ts
tables_with (acting update) at ts s d q = put_content at q ts
tables_with (acting create) at ts s d q = ts ++ (record { site = s; name = d.name; content = record { columns = d.columns; rows = [] } } ∷ [])
tables_with (acting drop) at ts s d q = remove_at at ts
tables_with (other o) at ts s d q = ts
