-- One record: 104 bytes, judged by checks 3 and 4 and read, with no regard to any other record.
use Rattle.std.specs.Prelude.{ℕ, ◌/◌, Bool, true, false, cond, ◌&&◌, List, [], map, eqb, leb, length}
use Rattle.values.specs.declared.Site.{Site}
use Rattle.values.specs.declared.Operand.TheVariants.{Absent}
use Rattle.values.specs.Values.{site_ok, is_text}
use Rattle.values.specs.Operands.{values_in, eval}
use Rattle.rows.specs.declared.Function.TheVariants.{Unused}
use Rattle.rows.specs.Relations.{Row, Columns}
use Rattle.nets.specs.declared.Alias.{Alias}
use Rattle.nets.specs.declared.Pick.{Pick}
use Rattle.nets.specs.Nets.{Kind, is_create, is_aggregate, Node}
use Rattle.nets.specs.Sound.{alias_ok, columns_ok, operands_ok, fields_ok_as}
use Rattle.nets.specs.View.{kind_at}
use Rattle.record_bytes.specs.Bytes.{at, part, parts, zeros, text_in, operand_form, operand_in, operands_form, operands_in, columns_form, columns_in, is_test, test_at, is_function, function_at}

-- what a record says: an alias; a table's site, name and columns; a row of a site and name; a node; a start's site and node; a pick
pub data Record : Type 0 where
  alias_record : Alias → Record
  table_record : Site → ℕ → Columns → Record
  row_record : Site → ℕ → Row → Record
  node_record : Node → Record
  start_record : Site → ℕ → Record
  pick_record : Pick → Record

-- a record, or the number of the check that refuses it
pub data Decoded : Type 0 where
  good : Record → Decoded
  bad : ℕ → Decoded

-- ── fields ──

abbrev pub site_at : ℕ → List ℕ → Site
site_at i r = record { 0 = at r i }

abbrev pub name_in : List ℕ → ℕ
name_in r = text_in (part 4 8 r)

abbrev pub alias_in : List ℕ → Alias
alias_in r = record { site = site_at 1 r; locality = record { 0 = at r 2 }; means = site_at 3 r }

-- a row's values, as a t with tags 1..3
abbrev pub row_in : List ℕ → Row
row_in bs = values_in (map (eval []) (operands_in bs))

abbrev pub pick_in : List ℕ → Pick
pick_in r = record { thread = at r 1; row = at r 2 }

-- a create has its columns where other nodes have bytes 8 to 11; an aggregate has T' first in t
unfoldable pub node_in : List ℕ → Node
node_in r =
    let k : Kind = kind_at (at r 0) in
    record {
      kind = k;
      next = at r 1;
      body = at r 2;
      name = name_in r;
      bound = cond (is_create k) 0 (at r 8);
      read = cond (is_create k) 0 (at r 9);
      function = cond (is_create k) Unused (function_at (at r 10));
      column = cond (is_create k) 0 (at r 11);
      columns = cond (is_create k) (columns_in (part 8 12 r)) [];
      locality = operand_in (part 16 24 r);
      selector = record { template = operands_in (part 24 56 r); test = test_at (at r 3); left = operand_in (part 88 96 r); right = operand_in (part 96 104 r) };
      tuple = cond (is_aggregate k) [] (operands_in (part 56 88 r));
      result = cond (is_aggregate k) (operand_in (part 56 64 r)) Absent;
    }

-- ── check 4: unused bytes are zero, and each field obeys its rule ──

unfoldable pub alias_form : List ℕ → Bool
alias_form r = alias_ok (alias_in r) && zeros (part 4 104 r)

unfoldable pub table_form : List ℕ → Bool
table_form r =
    site_ok (site_at 1 r)
    && zeros (part 2 4 r)
    && is_text (name_in r)
    && columns_form (part 8 12 r)
    && columns_ok (columns_in (part 8 12 r))
    && zeros (part 12 104 r)

unfoldable pub row_form : List ℕ → Bool
row_form r =
    site_ok (site_at 1 r)
    && zeros (part 2 4 r)
    && is_text (name_in r)
    && zeros (part 8 56 r)
    && operands_form (part 56 88 r)
    && operands_ok 3 (operands_in (part 56 88 r))
    && zeros (part 88 104 r)

-- what a node of kind `k` asks of its bytes beyond what the fields of `node_in` show: numbers of predicate and function, operands, and unused bytes
unfoldable pub node_bytes : Kind → List ℕ → Bool
node_bytes k r =
    is_test (at r 3)
    && cond (is_create k) (columns_form (part 8 12 r)) (is_function (at r 10))
    && eqb (text_in (part 12 16 r)) 0
    && operand_form (part 16 24 r)
    && operands_form (part 24 56 r)
    && cond (is_aggregate k) (operand_form (part 56 64 r) && zeros (part 64 88 r)) (operands_form (part 56 88 r))
    && operand_form (part 88 96 r)
    && operand_form (part 96 104 r)

-- its fields are judged as those of any node of a net
abbrev pub node_form : List ℕ → Bool
node_form r = node_bytes (node_in r).kind r && fields_ok_as (node_in r).kind (node_in r)

unfoldable pub start_form : List ℕ → Bool
start_form r = site_ok (site_at 1 r) && zeros (part 3 104 r)

unfoldable pub pick_form : List ℕ → Bool
pick_form r = zeros (part 3 104 r)

-- ── the record ──

abbrev pub in_form : Bool → Record → Decoded
in_form true x = good x
in_form false x = bad 4

abbrev pub is_node : ℕ → Bool
is_node b = leb 16 b && leb b 26

-- by the kind in byte 0; any other kind is unknown
unfoldable pub record_in : List ℕ → Decoded
record_in r =
    cond (eqb (at r 0) 1) (in_form (alias_form r) (alias_record (alias_in r)))
    (cond (eqb (at r 0) 2) (in_form (table_form r) (table_record (site_at 1 r) (name_in r) (columns_in (part 8 12 r))))
    (cond (eqb (at r 0) 3) (in_form (row_form r) (row_record (site_at 1 r) (name_in r) (row_in (part 56 88 r))))
    (cond (is_node (at r 0)) (in_form (node_form r) (node_record (node_in r)))
    (cond (eqb (at r 0) 32) (in_form (start_form r) (start_record (site_at 1 r) (at r 2)))
    (cond (eqb (at r 0) 33) (in_form (pick_form r) (pick_record (pick_in r)))
    (bad 3))))))

-- the whole records of a file
abbrev pub whole_records : List ℕ → ℕ
whole_records file = length file / 104

unfoldable pub records_in : List ℕ → List Decoded
records_in file = map record_in (parts 104 (whole_records file) file)
