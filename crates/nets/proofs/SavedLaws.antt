-- The bindings that loop entries hold: agreement of table variables, and what comes back is sound. Assumes nothing.
use Prim.Native.Nat.{ℕ}
use mathlib.Core.Path.{◌≡◌, refl, subst}
use mathlib.Core.Bool.{Bool, true, false, not, cond, ◌&&◌, ◌||◌}
use mathlib.Core.List.{List, [], ◌∷◌}
use Rattle.std.specs.Prelude.{Option, None, Some}
use lib.Dec.{T, eqb, eqb→eq, eqb_refl}
use lib.ListN.{get_or}
use Rattle.values.specs.Lists.{agree}
use Rattle.std.specs.List.{list_all}
use Rattle.values.specs.Values.{same_row}
use Rattle.values.proofs.Bools.{and_l, and_r, and_in}
use Rattle.values.proofs.ListLaws.{all_weaken, all-and}
use Rattle.values.proofs.AgreeLaws.{agree_eq, agree_refl}
use Rattle.values.proofs.SameLaws.{row_eq, row_refl}
use Rattle.rows.specs.Relations.{Relation}
use Rattle.rows.specs.Fit.{same_columns}
use Rattle.nets.specs.Nets.{is_sequential, Node, Entry, to_run, visiting, Thread}
use Rattle.nets.specs.Sound.{no_node, bindings_ok, entry_ok, same_relation, agree_on, saved_agrees, all_saved_agree, entries_ok}
use Rattle.nets.specs.Steps.{with_bindings, restored}

-- ── table variables that agree are equal ──

pub relation_eq : (o p : Option Relation) → T (same_relation o p) → o ≡ p
relation_eq None None h = refl
relation_eq None (Some r) h = absurd h
relation_eq (Some q) None h = absurd h
relation_eq (Some q) (Some r) h =
    let a = agree_eq eqb eqb→eq q.columns r.columns (and_l (same_columns q.columns r.columns) (agree same_row q.rows r.rows) h) in
    let b = agree_eq same_row row_eq q.rows r.rows (and_r (same_columns q.columns r.columns) (agree same_row q.rows r.rows) h) in
    λ i. Some (record { columns = a i; rows = b i })

pub relation_refl : (o : Option Relation) → T (same_relation o o)
relation_refl None = tt
relation_refl (Some r) =
    and_in (same_columns r.columns r.columns) (agree same_row r.rows r.rows) (agree_refl eqb eqb_refl r.columns) (agree_refl same_row row_refl r.rows)

pub agree_same : (ds : List Node) (rs : List (Option Relation)) (s : List Entry) → T (list_all (agree_on ds rs rs) s)
agree_same ds rs [] = tt
agree_same ds rs (to_run i ∷ s) = agree_same ds rs s
agree_same ds rs (visiting i v b ∷ s) =
    and_in (agree_on ds rs rs (visiting i v b)) (list_all (agree_on ds rs rs) s) (relation_refl (get_or rs (get_or ds i no_node).read None)) (agree_same ds rs s)

-- ── where `rs` agrees with `qs`, it may give way to it ──

module _ (ds : List Node) (rs qs : List (Option Relation)) where
  agree_swap : (ps : List (Option Relation)) (x : Entry) → T (agree_on ds rs qs x && agree_on ds rs ps x) → T (agree_on ds qs ps x)
  agree_swap ps (to_run i) h = tt
  agree_swap ps (visiting i v b) h =
      let m = (get_or ds i no_node).read in
      let a = relation_eq (get_or rs m None) (get_or qs m None) (and_l (agree_on ds rs qs (visiting i v b)) (agree_on ds rs ps (visiting i v b)) h) in
      subst (λ (o : Option Relation). T (same_relation o (get_or ps m None))) a (and_r (agree_on ds rs qs (visiting i v b)) (agree_on ds rs ps (visiting i v b)) h)

  or_weaken : (a b c : Bool) → (T b → T c) → T (a || b) → T (a || c)
  or_weaken true b c f h = tt
  or_weaken false b c f h = f h

  entry_swap : (x : Entry) → T (agree_on ds rs qs x) → T (entry_ok ds rs x) → T (entry_ok ds qs x)
  entry_swap (to_run i) a h = h
  entry_swap (visiting i v b) a h = rw (← relation_eq (get_or rs (get_or ds i no_node).read None) (get_or qs (get_or ds i no_node).read None) a) h

  saved_swap : (s : List Entry) (x : Entry) → T (list_all (agree_on ds rs qs) s) → T (saved_agrees ds rs s x) → T (saved_agrees ds qs s x)
  saved_swap s (to_run i) a h = tt
  saved_swap s (visiting i v b) a h =
      or_weaken (not (is_sequential (get_or ds i no_node).kind)) (list_all (agree_on ds rs b.relations) s) (list_all (agree_on ds qs b.relations) s)
      (λ k. all_weaken (λ x. agree_on ds rs qs x && agree_on ds rs b.relations x) (agree_on ds qs b.relations) s (agree_swap b.relations) (all-and (agree_on ds rs qs) (agree_on ds rs b.relations) s a k)) h

  pub entries_swap : (s : List Entry) → T (list_all (agree_on ds rs qs) s) → T (entries_ok ds rs s) → T (entries_ok ds qs s)
  entries_swap [] a h = tt
  entries_swap (x ∷ s) a h =
      let rest : T (entries_ok ds rs s) = and_in (list_all (entry_ok ds rs) s) (all_saved_agree ds rs s) (search (and_l, and_r)) (search (and_l, and_r)) in
      let ih = entries_swap s (and_r (agree_on ds rs qs x) (list_all (agree_on ds rs qs) s) a) rest in
      let one : T (entry_ok ds qs x) = entry_swap x (and_l (agree_on ds rs qs x) (list_all (agree_on ds rs qs) s) a) (search (and_l, and_r)) in
      let two : T (saved_agrees ds qs (x ∷ s) x) = saved_swap (x ∷ s) x a (search (and_l, and_r)) in
      let three : T (list_all (entry_ok ds qs) s) = and_l (list_all (entry_ok ds qs) s) (all_saved_agree ds qs s) ih in
      let four : T (all_saved_agree ds qs s) = and_r (list_all (entry_ok ds qs) s) (all_saved_agree ds qs s) ih in
      and_in (entry_ok ds qs x && list_all (entry_ok ds qs) s) (saved_agrees ds qs (x ∷ s) x && all_saved_agree ds qs s)
      (and_in (entry_ok ds qs x) (list_all (entry_ok ds qs) s) one three) (and_in (saved_agrees ds qs (x ∷ s) x) (all_saved_agree ds qs s) two four)

-- ── stacks ──

pub push_run : (ds : List Node) (rs : List (Option Relation)) (i : ℕ) (l : List Entry) → T (entry_ok ds rs (to_run i)) → T (entries_ok ds rs l) → T (entries_ok ds rs (to_run i ∷ l))
push_run ds rs i l h k =
    and_in (entry_ok ds rs (to_run i) && list_all (entry_ok ds rs) l) (all_saved_agree ds rs l)
    (and_in (entry_ok ds rs (to_run i)) (list_all (entry_ok ds rs) l) h (and_l (list_all (entry_ok ds rs) l) (all_saved_agree ds rs l) k)) (and_r (list_all (entry_ok ds rs) l) (all_saved_agree ds rs l) k)

-- the bindings that come back are sound, and so is the stack with them
pub record Back (ds : List Node) (t : Thread) (s : List Entry) : Type 0 where
  pub bindings : T (bindings_ok t.bindings)
  pub entries : T (entries_ok ds t.bindings.relations s)

pub restored-ok : (ds : List Node) (t : Thread) (s : List Entry) → Back ds t s → Back ds (restored ds t s) s
restored-ok ds t [] h = h
restored-ok ds t (to_run i ∷ s) h = h
restored-ok ds t (visiting i v b ∷ s) h =
    go (is_sequential (get_or ds i no_node).kind) (search (and_l, and_r, h.entries)) (search (and_l, and_r, h.entries))
  where
    go : (q : Bool) → T (not q || bindings_ok b) → T (not q || list_all (agree_on ds t.bindings.relations b.relations) (visiting i v b ∷ s)) →
        Back ds (cond q (with_bindings t b) t) (visiting i v b ∷ s)
    go true p q = record { bindings = p; entries = entries_swap ds t.bindings.relations b.relations (visiting i v b ∷ s) q h.entries }
    go false p q = h

pub restored-site : (ds : List Node) (t : Thread) (s : List Entry) → (restored ds t s).site ≡ t.site
restored-site ds t [] = refl
restored-site ds t (to_run i ∷ s) = refl
restored-site ds t (visiting i v b ∷ s) = go (is_sequential (get_or ds i no_node).kind)
  where
    go : (q : Bool) → (cond q (with_bindings t b) t).site ≡ t.site
    go true = refl
    go false = refl
