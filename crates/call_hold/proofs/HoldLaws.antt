-- What a thread holds, as records: how many there are, and how long each is. Assumes nothing.
use Prim.Native.Nat.{ℕ, zero, suc, ◌+◌, ◌-◌, ◌*◌, ◌<◌, ◌≤◌}
use mathlib.Core.Path.{◌≡◌, refl, sym, ap, subst, ◌∙◌}
use mathlib.Core.Bool.{Bool, true, false, cond}
use mathlib.Core.List.{List, [], ◌∷◌, ◌++◌}
use Rattle.std.specs.Prelude.{None, Some}
use native.Mathlib.Omega.{arith}
use native.Mathlib.Numerals.{add-one}
use borrow.Author.Tests.{eq-eqb, ne_eqb}
use lib.Dec.{eqb}
use lib.ListN.{length, get_or, length-append, length-map, get_or-map}
use Rattle.values.specs.declared.Value.TheVariants.{Int, Text, Loc}
use Rattle.values.specs.Operands.{Got}
use Rattle.values.specs.Lists.{places}
use Rattle.values.specs.Operands.{Vars, values_in}
use Rattle.values.proofs.Firsts.{length-firsts}
use Rattle.rows.specs.View.{no_row, values_of}
use Rattle.nets.specs.declared.Frame.{Frame}
use Rattle.nets.specs.View.{TableVariable}
use Rattle.nets.specs.declared.Saved.{Saved}
use Rattle.nets.specs.declared.Thread.{Thread}
use Rattle.nets.specs.Nets as M
use Rattle.nets.specs.View.{no_frame, no_variable, no_saved, variable_of, bindings_of}
use Rattle.record_bytes.specs.Encoding.{tuple_bytes}
use Rattle.value_bytes.specs.Bytes.{end_to_end}
use Rattle.value_bytes.proofs.Stores.{ends-append}
use Rattle.call_rules.specs.Layouts.{visit_bytes}
use Rattle.call_rules.specs.Moments.{values_record, variable_record, variable_records, relation_head, relation_records, bindings_records, entry_record, thread_head}
use Rattle.call_rules.specs.Openings.{entry_alone}
use Rattle.call_hold.specs.Holdings.{VariableShaped, RelationsShaped, rows_given, records_given, pair_held, held_given, HeldShaped, held_at, stack_given, thread_given, ThreadShaped}
use Rattle.value_bytes.proofs.Parts.{Sized, sized-length, sized-append, sized-map, sized-firsts}
use Rattle.call_hold.proofs.RecordLaws.{values_length}

-- ── variables ──

pub variable-length : (vs : Vars) (i : ℕ) → length (variable_record vs i) ≡ 104
unfolding values_record tuple_bytes
variable-length vs i = go (get_or vs i None)
  where
    go : (g : Got) → length (values_record 66 i (values_in (g ∷ []))) ≡ 104
    go None = refl
    go (Some (Int n)) = refl
    go (Some (Text t)) = refl
    go (Some (Loc l)) = refl

variables_count : (vs : Vars) → length (variable_records vs) ≡ 16
unfolding variable_records
variables_count vs = refl

variables_sized : (vs : Vars) → Sized 104 (variable_records vs)
unfolding variable_records
variables_sized vs = sized-map 104 (variable_record vs) (variable-length vs) (places 0 16)

-- ── table variables ──

-- an unbound one has its own record alone, a bound one that and its rows
relation-count : (i : ℕ) (v : TableVariable) → length (relation_records i (variable_of v)) ≡ 1 + rows_given v
relation-count i (Some r) = rw (length-map, length-firsts (values_of r.columns) no_row r.count r.rows) (omega arith)
relation-count i None = refl

pub head-length : (i b : ℕ) (cs : List ℕ) → length (relation_head i b cs) ≡ 104
unfolding relation_head
head-length i b cs = refl

relation-sized : (i : ℕ) (v : TableVariable) → VariableShaped v → Sized 104 (relation_records i (variable_of v))
relation-sized i (Some r) k = (head-length i 1 _, sized-firsts 104 (values_record 68 i) (values_of r.columns) no_row (λ x. values_length r.columns x k.shaped.columns 68 i) r.count r.rows)
relation-sized i None k = (head-length i 0 _, tt)

-- ── bindings ──

module _ (vs : List Got) (rs : List TableVariable) where
  -- the records of bindings, by the code's own parts
  pub bindings_are : bindings_records (bindings_of vs rs) ≡ variable_records vs ++ (relation_records 0 (variable_of (get_or rs 0 no_variable)) ++ relation_records 1 (variable_of (get_or rs 1 no_variable)))
  bindings_are = rw (get_or-map variable_of rs 0 no_variable, get_or-map variable_of rs 1 no_variable)

  pub bindings-count : length (bindings_records (bindings_of vs rs)) ≡ records_given rs
  bindings-count =
      ap length bindings_are
      ∙ simp length-append (omega (arith, variables_count vs, relation-count 0 (get_or rs 0 no_variable), relation-count 1 (get_or rs 1 no_variable)))

  pub bindings-sized : RelationsShaped rs → Sized 104 (bindings_records (bindings_of vs rs))
  bindings-sized k =
      let a = relation_records 0 (variable_of (get_or rs 0 no_variable)) in
      let b = relation_records 1 (variable_of (get_or rs 1 no_variable)) in
      subst (Sized 104) (sym bindings_are)
      (sized-append 104 (variable_records vs) (a ++ b) (variables_sized vs) (sized-append 104 a b (relation-sized 0 (get_or rs 0 no_variable) k.first) (relation-sized 1 (get_or rs 1 no_variable) k.second)))

pub variables_long : (vs : List Got) → length (end_to_end (variable_records vs)) ≡ 1664
variables_long vs = sized-length 104 (variable_records vs) (variables_sized vs) ∙ ap (λ (n : ℕ). n * 104) (variables_count vs)

pub relation-long : (i : ℕ) (v : TableVariable) → VariableShaped v → length (end_to_end (relation_records i (variable_of v))) ≡ (1 + rows_given v) * 104
relation-long i v k = sized-length 104 (relation_records i (variable_of v)) (relation-sized i v k) ∙ ap (λ (n : ℕ). n * 104) (relation-count i v)

pub bindings-long : (vs : List Got) (rs : List TableVariable) → RelationsShaped rs → length (end_to_end (bindings_records (bindings_of vs rs))) ≡ records_given rs * 104
bindings-long vs rs k = sized-length 104 (bindings_records (bindings_of vs rs)) (bindings-sized vs rs k) ∙ ap (λ (n : ℕ). n * 104) (bindings-count vs rs)

-- ── what entries hold ──

-- the table variables that an entry holds are shaped as those that they are taken from
pub pair_shaped : (h : ℕ) (rs : List TableVariable) (v : TableVariable) → RelationsShaped rs → VariableShaped v → RelationsShaped (pair_held h rs v)
pair_shaped h rs v k w = go (eqb h 1)
  where
    go : (q : Bool) → RelationsShaped (cond q (get_or rs 0 no_variable ∷ v ∷ []) (v ∷ get_or rs 1 no_variable ∷ []))
    go true = record { first = k.first; second = w }
    go false = record { first = w; second = k.second }

module _ (h : ℕ) (rs : List TableVariable) (s : Saved) where
  pub none-given : h ≡ 0 → held_given h rs s ≡ []
  unfolding held_given
  none-given e = rw (eq-eqb h 0 e) refl

  pub some-given : (h ≡ 0 → ⊥) → held_given h rs s ≡ bindings_records (bindings_of s.vars (pair_held h rs s.other))
  unfolding held_given
  some-given n = rw (ne_eqb h 0 n) refl

  pub pair_ok : (p : List TableVariable) → (h ≡ 0 → ⊥) → p ≡ pair_held h rs s.other → RelationsShaped rs → HeldShaped h s → RelationsShaped p
  pair_ok p n e k w = subst RelationsShaped (sym e) (pair_shaped h rs s.other k (w.other (above h n)))
    where
      above : (m : ℕ) → (m ≡ 0 → ⊥) → 1 ≤ m
      above zero d = absurd (d refl)
      above (suc m) d = omega arith

  pub held-count : (p : List TableVariable) → (h ≡ 0 → ⊥) → p ≡ pair_held h rs s.other → length (held_given h rs s) ≡ records_given p
  held-count p n e = ap length (some-given n) ∙ bindings-count s.vars (pair_held h rs s.other) ∙ ap records_given (sym e)

held-sized : (h : ℕ) (rs : List TableVariable) (s : Saved) → RelationsShaped rs → HeldShaped h s → Sized 104 (held_given h rs s)
held-sized zero rs s k w = subst (Sized 104) (sym (none-given 0 rs s refl)) tt
held-sized (suc h) rs s k w =
    subst (Sized 104) (sym (some-given (suc h) rs s (λ e. omega arith)))
    (bindings-sized s.vars (pair_held (suc h) rs s.other) (pair_shaped (suc h) rs s.other k (w.other (omega arith))))

pub entry_length : (e : M.Entry) → length (entry_record e) ≡ 104
unfolding entry_record visit_bytes
entry_length e = refl

-- an entry and what it holds
abbrev pub entry_given : Frame → ℕ → List TableVariable → Saved → List (List ℕ)
entry_given f h rs s = entry_record (entry_alone f) ∷ held_given h rs s

entry-sized : (f : Frame) (h : ℕ) (rs : List TableVariable) (s : Saved) → RelationsShaped rs → HeldShaped h s → Sized 104 (entry_given f h rs s)
entry-sized f h rs s k w = (entry_length (entry_alone f), held-sized h rs s k w)

pub entry-long : (f : Frame) (h : ℕ) (rs : List TableVariable) (s : Saved) → RelationsShaped rs → HeldShaped h s → length (end_to_end (entry_given f h rs s)) ≡ length (entry_given f h rs s) * 104
entry-long f h rs s k w = sized-length 104 (entry_given f h rs s) (entry-sized f h rs s k w)

-- ── a stack ──

pub thread-head : (s d : ℕ) → length (thread_head s d) ≡ 104
unfolding thread_head
thread-head s d = refl

module _ (holds : List ℕ) (ss : List Saved) (t : Thread) where
  -- the entry at a place, and what it holds
  abbrev pub entry_at : ℕ → List (List ℕ)
  entry_at j = entry_given (get_or t.stack j no_frame) (held_at holds t j) t.relations (get_or ss j no_saved)

  pub stack_up : (n : ℕ) → stack_given holds ss t (n + 1) ≡ entry_at n ++ stack_given holds ss t n
  stack_up n = rw add-one refl

  pub stack_down : (n : ℕ) → 0 < n → stack_given holds ss t n ≡ entry_at (n - 1) ++ stack_given holds ss t (n - 1)
  stack_down zero h = absurd (omega arith)
  stack_down (suc n) h =
      let e : suc n - 1 ≡ n = omega arith in
      rw e refl

  pub stack_end : (n : ℕ) → n ≤ 0 → stack_given holds ss t n ≡ []
  stack_end zero h = refl
  stack_end (suc n) h = absurd (omega arith)

  pub held-shaped : (j h : ℕ) → ThreadShaped holds ss t → j < t.depth → h ≡ held_at holds t j → HeldShaped h (get_or ss j no_saved)
  held-shaped j h k q e = subst (λ (m : ℕ). HeldShaped m (get_or ss j no_saved)) (sym e) (k.held j q)

  stack-sized : ThreadShaped holds ss t → (n : ℕ) → n ≤ t.depth → Sized 104 (stack_given holds ss t n)
  stack-sized k zero h = tt
  stack-sized k (suc n) h =
      let w = k.held n (omega arith) in
      sized-append 104 (entry_at n) (stack_given holds ss t n) (entry-sized (get_or t.stack n no_frame) (held_at holds t n) t.relations (get_or ss n no_saved) k.relations w) (stack-sized k n (omega arith))

  -- ── a thread ──

  abbrev bindings : List (List ℕ)
  bindings = bindings_records (bindings_of t.vars t.relations)

  abbrev entries : List (List ℕ)
  entries = stack_given holds ss t t.depth

  pub thread_are : end_to_end (thread_given holds ss t) ≡ thread_head t.site.0 t.depth ++ (end_to_end bindings ++ end_to_end entries)
  thread_are = rw (ends-append bindings entries)

  pub thread-count : length (thread_given holds ss t) ≡ 1 + records_given t.relations + length entries
  thread-count = omega (arith, length-append bindings entries, bindings-count t.vars t.relations)

  pub thread-sized : ThreadShaped holds ss t → Sized 104 (thread_given holds ss t)
  thread-sized k =
      (thread-head t.site.0 t.depth, sized-append 104 bindings entries (bindings-sized t.vars t.relations k.relations) (stack-sized k t.depth (omega arith)))

  pub thread-long : ThreadShaped holds ss t → length (end_to_end (thread_given holds ss t)) ≡ length (thread_given holds ss t) * 104
  thread-long k = sized-length 104 (thread_given holds ss t) (thread-sized k)
