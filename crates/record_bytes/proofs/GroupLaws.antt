-- A record is inForm and read by the group of its kind byte. Assumes nothing.
use Prim.Native.Nat.{ℕ}
use mathlib.Core.Path.{◌≡◌, refl}
use mathlib.Core.Bool.{Bool, true, false, cond}
use mathlib.Core.List.{List, [], ◌∷◌}
use lib.Dec.{eqb}
use lib.ListN.{get_or}
use Rattle.record_bytes.specs.Bytes.{at, part, columns_in}
use Rattle.record_bytes.specs.Decoding.{alias_record, table_record, row_record, node_record, start_record, pick_record, Decoded, bad, site_at, name_in, alias_in, row_in, pick_in, node_in, alias_form, table_form, row_form, node_form, start_form, pick_form, in_form, is_node, record_in}
use Rattle.record_bytes.specs.RecordKinds.{group_at}

-- what the records of a group say; past the groups, and at 0, an unknown kind
abbrev pub by_group : ℕ → List ℕ → Decoded
by_group g r =
    get_or
    (bad 3
    ∷ in_form (alias_form r) (alias_record (alias_in r))
    ∷ in_form (table_form r) (table_record (site_at 1 r) (name_in r) (columns_in (part 8 12 r)))
    ∷ in_form (row_form r) (row_record (site_at 1 r) (name_in r) (row_in (part 56 88 r)))
    ∷ in_form (node_form r) (node_record (node_in r))
    ∷ in_form (start_form r) (start_record (site_at 1 r) (at r 2))
    ∷ in_form (pick_form r) (pick_record (pick_in r))
    ∷ [])
    g (bad 3)

pub by_group_lem : (r : List ℕ) → record_in r ≡ by_group (group_at (at r 0)) r
unfolding record_in
by_group_lem r = go (eqb (at r 0) 1) (eqb (at r 0) 2) (eqb (at r 0) 3) (is_node (at r 0)) (eqb (at r 0) 32) (eqb (at r 0) 33) _ _ _ _ _ _
  where
    go : (a b c d e f : Bool) (u v w x y z : Decoded) → cond a u (cond b v (cond c w (cond d x (cond e y (cond f z (bad 3))))))
        ≡ get_or (bad 3 ∷ u ∷ v ∷ w ∷ x ∷ y ∷ z ∷ []) (cond a 1 (cond b 2 (cond c 3 (cond d 4 (cond e 5 (cond f 6 0)))))) (bad 3)
    go true b c d e f u v w x y z = refl
    go false true c d e f u v w x y z = refl
    go false false true d e f u v w x y z = refl
    go false false false true e f u v w x y z = refl
    go false false false false true f u v w x y z = refl
    go false false false false false true u v w x y z = refl
    go false false false false false false u v w x y z = refl
