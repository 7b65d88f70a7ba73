-- A record that checks 3 and 4 pass has fields that soundness asks for. Assumes nothing.
use Prim.Native.Nat.{ℕ}
use mathlib.Core.Bool.{Bool, true, false, cond, ◌&&◌}
use mathlib.Core.List.{List, [], map}
use lib.Dec.{T}
use Rattle.values.specs.declared.Operand.{Operand}
use Rattle.std.specs.List.{list_all}
use Rattle.values.specs.Values.{site_ok, in_range, is_text}
use Rattle.values.specs.Operands.{values_in, eval}
use Rattle.values.proofs.Bools.{and_l, and_r, and_in}
use Rattle.values.proofs.ListLaws.{all_map, all-map_of}
use Rattle.values.proofs.RangeLaws.{values-ok}
use Rattle.nets.specs.Sound.{variable_ok, alias_ok, columns_ok, operands_ok, fields_ok_as}
use Rattle.nets.proofs.BindingLaws.{constants-ok}
use Rattle.record_bytes.specs.Bytes.{part, parts, operands_in, columns_in}
use Rattle.record_bytes.specs.Decoding.{Record, alias_record, table_record, row_record, node_record, start_record, pick_record, Decoded, good, bad, site_at, name_in, alias_in, row_in, node_in, alias_form, table_form, row_form, node_bytes, node_form, start_form, in_form, record_in, whole_records, records_in}

abbrev pub record_ok : Record → Bool
record_ok (alias_record a) = alias_ok a
record_ok (table_record s n cs) = site_ok s && is_text n && columns_ok cs
record_ok (row_record s n r) = list_all in_range r
record_ok (node_record d) = fields_ok_as d.kind d
record_ok (start_record s i) = site_ok s
record_ok (pick_record p) = true

-- nothing is asked of a record that is refused
abbrev pub decoded_ok : Decoded → Bool
decoded_ok (good r) = record_ok r
decoded_ok (bad n) = true

-- a kind's records are fine where what passes check 4 is, and so are those of the kinds after it
kind_ok : (b c : Bool) (x : Record) (rest : Decoded) → (T c → T (record_ok x)) → T (decoded_ok rest) → T (decoded_ok (cond b (in_form c x) rest))
kind_ok true true x rest h k = h tt
kind_ok true false x rest h k = tt
kind_ok false c x rest h k = k

alias-ok : (r : List ℕ) → T (alias_form r) → T (alias_ok (alias_in r))
unfolding alias_form
alias-ok r h = search and_l

table-ok : (r : List ℕ) → T (table_form r) → T (record_ok (table_record (site_at 1 r) (name_in r) (columns_in (part 8 12 r))))
unfolding table_form
table-ok r h = search (and_l, and_r, and_in) depth 10

constants : (os : List Operand) → T (operands_ok 3 os) → T (list_all in_range (values_in (map (eval []) os)))
constants os h =
    values-ok variable_ok (map (eval []) os) (all-map_of (λ o. variable_ok (eval [] o)) variable_ok (eval []) os (λ o k. k) (constants-ok 3 os h))

row-ok : (r : List ℕ) → T (row_form r) → T (list_all in_range (row_in (part 56 88 r)))
unfolding row_form
row-ok r h = constants (operands_in (part 56 88 r)) (search (and_l, and_r) depth 10)

start-ok : (r : List ℕ) → T (start_form r) → T (site_ok (site_at 1 r))
unfolding start_form
start-ok r h = search and_l

node_ok : (r : List ℕ) → T (node_form r) → T (fields_ok_as (node_in r).kind (node_in r))
node_ok r h = and_r (node_bytes (node_in r).kind r) (fields_ok_as (node_in r).kind (node_in r)) h

record_ok_lem : (r : List ℕ) → T (decoded_ok (record_in r))
unfolding record_in
record_ok_lem r = search (kind_ok, alias-ok r, table-ok r, row-ok r, node_ok r, start-ok r) depth 8

pub records-ok : (file : List ℕ) → T (list_all decoded_ok (records_in file))
unfolding records_in
records-ok file = all_map decoded_ok record_in (parts 104 (whole_records file) file) record_ok_lem
