-- A thread in two parts: all but what its loop entries hold, and that; what an entry holds, judged by which table variables are held. Assumes nothing.
use Prim.Native.Nat.{ℕ, zero, suc, ◌+◌, ◌-◌, ◌<◌, ◌≤◌}
use mathlib.Core.Path.{◌≡◌, refl, sym, ap, ap₂, ◌∙◌, subst}
use mathlib.Core.Bool.{Bool, true, false, true≢false, not, ◌&&◌, ◌||◌, and-true}
use mathlib.Core.List.{List, [], ◌∷◌, map}
use Rattle.std.specs.Prelude.{Option, None}
use native.Mathlib.Omega.{arith}
use lib.Dec.{T, eqb, eqb→eq, leb, leb→le, ltb}
use lib.Seq.{take-suc}
use lib.ListN.{length, take, get_or, length-map, get_or-map, get_or-eq_default}
use Rattle.std.specs.List.{list_all, list_any}
use Rattle.values.specs.Values.{site_ok}
use Rattle.values.proofs.Bools.{and_l, and_r, and_comm, and_swap, is_true, T_of, same_test}
use Rattle.rows.specs.Relations.{Relation}
use Rattle.nets.specs.declared.Entry as Code
use Rattle.nets.specs.declared.Entry.TheVariants.{Run, Loop}
use Rattle.nets.specs.declared.Frame.{Frame}
use Rattle.nets.specs.declared.Saved.{Saved}
use Rattle.nets.specs.declared.Thread as C
use Rattle.std.proofs.lemmas.List.Folds.{list_all-append}
use Rattle.values.proofs.ListLaws.{all-at}
use Rattle.nets.specs.View.{TableVariable}
use Rattle.nets.specs.Nets.{is_loop, is_sequential, Bindings, Node, Entry, to_run, visiting, Thread}
use Rattle.nets.specs.Sound.{no_node, relation_ok, variable_ok, has_places, bindings_ok, entry_ok, same_relation, agree_on, saved_agrees, all_saved_agree, entries_ok, thread_ok}
use Rattle.nets.specs.Steps.{holds}
use Rattle.nets.specs.View.{no_frame, no_variable, marked, entry_with, entry_of, stack_of, variable_of, saved_of, thread_of}
use Rattle.nets.proofs.SavedLaws.{relation_refl}
use Rattle.net_parts.specs.SoundParts.{frame_ok, bare_entry_ok, bare_stack_ok, bare_thread_ok, saved_right, all_saved_right, saved_fits}
use Rattle.nets.proofs.StackView.{length-stack}

-- ── a thread in two parts ──

module _ (ds : List Node) (rs : List (Option Relation)) where
  both-clauses : (a n b g : Bool) → (a && (n || b) && (n || g)) ≡ (a && (n || (b && g)))
  both-clauses true true b g = refl
  both-clauses true false b g = refl
  both-clauses false n b g = refl

  entry-parts : (s : List Entry) (x : Entry) → (entry_ok ds rs x && saved_agrees ds rs (x ∷ s) x) ≡ (bare_entry_ok ds rs x && saved_right ds rs s x)
  entry-parts s (to_run i) = refl
  entry-parts s (visiting i v b) =
      both-clauses (bare_entry_ok ds rs (visiting i v b)) (not (is_sequential (get_or ds i no_node).kind)) (bindings_ok b) (list_all (agree_on ds rs b.relations) (visiting i v b ∷ s))

  entries-parts : (s : List Entry) → entries_ok ds rs s ≡ (list_all (bare_entry_ok ds rs) s && all_saved_right ds rs s)
  entries-parts [] = refl
  entries-parts (x ∷ s) =
      and_swap (entry_ok ds rs x) (list_all (entry_ok ds rs) s) (saved_agrees ds rs (x ∷ s) x) (all_saved_agree ds rs s)
      ∙ ap₂ ◌&&◌ (entry-parts s x) (entries-parts s)
      ∙ and_swap (bare_entry_ok ds rs x) (saved_right ds rs s x) (list_all (bare_entry_ok ds rs) s) (all_saved_right ds rs s)

pub thread-parts : (ds : List Node) (t : Thread) → (bare_thread_ok ds t && all_saved_right ds t.bindings.relations t.stack) ≡ thread_ok ds t
thread-parts ds t =
    let rs = t.bindings.relations in
    go (site_ok t.site && bindings_ok t.bindings) (leb 1 (length t.stack) && leb (length t.stack) 8) (list_all (bare_entry_ok ds rs) t.stack) (all_saved_right ds rs t.stack) (entries-parts ds rs t.stack)
  where
    go : (a b p q : Bool) {e : Bool} → e ≡ (p && q) → (a && (b && p) && q) ≡ (a && (b && e))
    go true true p q h = sym h
    go true false p q h = refl
    go false b p q h = refl

-- ── the lower entries of a stack ──

-- what holds of the entries without the top if it holds of all
module _ (P : List Entry → Bool) (rest : (x : Entry) (s : List Entry) → T (P (x ∷ s)) → T (P s)) (bs : ℕ → Bindings) (l : List Frame) where
  from-above : (d j : ℕ) → T (P (stack_of bs (d + j) l)) → T (P (stack_of bs j l))
  from-above zero j t = let e : 0 + j ≡ j = omega arith in rw e at t
  from-above (suc d) j t =
      let e : suc d + j ≡ suc (d + j) = omega arith in
      from-above d j (rest (entry_of (bs (d + j)) (get_or l (d + j) no_frame)) (stack_of bs (d + j) l) (rw e at t))

  lower : (n j : ℕ) → j ≤ n → T (P (stack_of bs n l)) → T (P (stack_of bs j l))
  lower n j h t = let e : (n - j) + j ≡ n = omega arith in from-above (n - j) j (rw e t)

module _ (ds : List Node) (rs : List (Option Relation)) (bs : ℕ → Bindings) (l : List Frame) (n j : ℕ) (h : j ≤ n) where
  pub bare-lower : T (list_all (bare_entry_ok ds rs) (stack_of bs n l)) → T (list_all (bare_entry_ok ds rs) (stack_of bs j l))
  bare-lower t = lower (list_all (bare_entry_ok ds rs)) (λ x s. and_r (bare_entry_ok ds rs x) (list_all (bare_entry_ok ds rs) s)) bs l n j h t

  -- where the lower ones are not right, all are not
  pub saved-lower : all_saved_right ds rs (stack_of bs j l) ≡ false → false ≡ all_saved_right ds rs (stack_of bs n l)
  saved-lower e =
      same_test false (all_saved_right ds rs (stack_of bs n l)) (λ t. absurd t)
      (λ t. subst T e (lower (all_saved_right ds rs) (λ x s. and_r (saved_right ds rs s x) (all_saved_right ds rs s)) bs l n j h t))

-- ── agreement, by which table variables are held ──

-- a loop entry's node reads one of the two
pub read_low : (ds : List Node) (rs : List (Option Relation)) → length rs ≡ 2 → (i : ℕ) (v : List ℕ) (b : Bindings) → T (bare_entry_ok ds rs (visiting i v b)) → (get_or ds i no_node).read < 2
read_low ds rs e i v b t = go (get_or ds i no_node).read (and_r (ltb i (length ds) && is_loop (get_or ds i no_node).kind) (has_places v (get_or rs (get_or ds i no_node).read None)) t)
  where
    go : (r : ℕ) → T (has_places v (get_or rs r None)) → r < 2
    go zero t = omega arith
    go (suc zero) t = omega arith
    go (suc (suc r)) t = absurd (subst (λ (o : Option Relation). T (has_places v o)) (get_or-eq_default rs None (omega arith)) t)

absorbed : (h s : Bool) {a : Bool} → (not h || s) ≡ a → s ≡ (s && a)
absorbed true true e = e
absorbed false true e = e
absorbed h false e = refl

-- `rs` and `qs` may differ in table variable `m` alone
module _ (ds : List Node) (rs qs : List (Option Relation)) (two : length rs ≡ 2) (m : ℕ) (same : (n : ℕ) → n < 2 → eqb m n ≡ false → get_or rs n None ≡ get_or qs n None) where
  agree-flagged : (s : List Entry) → T (list_all (bare_entry_ok ds rs) s) → (not (list_any (holds ds m) s) || same_relation (get_or rs m None) (get_or qs m None)) ≡ list_all (agree_on ds rs qs) s
  agree-flagged [] t = refl
  agree-flagged (to_run i ∷ s) t = agree-flagged s (and_r (ltb i (length ds)) (list_all (bare_entry_ok ds rs) s) t)
  agree-flagged (visiting i v b ∷ s) t = go (agree-flagged s (and_r (bare_entry_ok ds rs (visiting i v b)) (list_all (bare_entry_ok ds rs) s) t)) (eqb m read) refl
    where
      read : ℕ
      read = (get_or ds i no_node).read

      low : read < 2
      low = read_low ds rs two i v b (and_l (bare_entry_ok ds rs (visiting i v b)) (list_all (bare_entry_ok ds rs) s) t)

      go : (not (list_any (holds ds m) s) || same_relation (get_or rs m None) (get_or qs m None)) ≡ list_all (agree_on ds rs qs) s
          → (q : Bool) → eqb m read ≡ q → (not (q || list_any (holds ds m) s) || same_relation (get_or rs m None) (get_or qs m None)) ≡ (same_relation (get_or rs read None) (get_or qs read None) && list_all (agree_on ds rs qs) s)
      go below true e =
          absorbed (list_any (holds ds m) s) (same_relation (get_or rs m None) (get_or qs m None)) below
          ∙ ap (λ (n : ℕ). same_relation (get_or rs n None) (get_or qs n None) && list_all (agree_on ds rs qs) s) (eqb→eq m read (T_of (eqb m read) e))
      go below false e =
          below
          ∙ ap (◌&& list_all (agree_on ds rs qs) s) (sym (ap (same_relation (get_or rs read None)) (sym (same read low e)) ∙ is_true (same_relation (get_or rs read None) (get_or rs read None)) (relation_refl (get_or rs read None))))

-- ── one entry ──

-- the saved bindings `x` of a sequential loop's entry, over the thread's own table variables `ts`
module _ (ds : List Node) (ts : List TableVariable) (two : length ts ≡ 2) (own : (m : ℕ) → m < 2 → relation_ok (variable_of (get_or ts m no_variable)) ≡ true) (x : Saved) where
  abbrev rs : List (Option Relation)
  rs = map variable_of ts

  both-there : length rs ≡ 2
  both-there = length-map ts variable_of ∙ two

  -- they are the thread's own but for the one that the loop does not read
  one_differs : (r : ℕ) → r < 2 → (n : ℕ) → n < 2 → eqb (1 - r) n ≡ false → get_or rs n None ≡ get_or (saved_of r ts x).relations n None
  one_differs zero h zero k e = get_or-map variable_of ts 0 no_variable
  one_differs zero h (suc zero) k e = absurd (true≢false e)
  one_differs (suc zero) h zero k e = absurd (true≢false e)
  one_differs (suc zero) h (suc zero) k e = get_or-map variable_of ts 1 no_variable
  one_differs zero h (suc (suc n)) k e = absurd (omega arith)
  one_differs (suc zero) h (suc (suc n)) k e = absurd (omega arith)
  one_differs (suc (suc r)) h n k e = absurd (omega arith)

  first-own : (a o : Bool) {f g w : Bool} → w ≡ true → f ≡ g → (a && o && f) ≡ (a && true && (w && (o && true)) && g)
  first-own a o e k = rw (e, k, and-true a, and-true o)

  second-own : (a o : Bool) {f g w : Bool} → w ≡ true → f ≡ g → (a && o && f) ≡ (a && true && (o && (w && true)) && g)
  second-own a o e k = rw (e, k, and-true a, and-true o)

  abbrev vars_fine : Bool
  vars_fine = eqb (length x.vars) 16 && list_all variable_ok x.vars

  module _ (s : List Entry) (t : T (list_all (bare_entry_ok ds rs) s)) where
    flagged : (r : ℕ) (h : r < 2) → (not (list_any (holds ds (1 - r)) s) || same_relation (variable_of (get_or ts (1 - r) no_variable)) (get_or (saved_of r ts x).relations (1 - r) None)) ≡ list_all (agree_on ds rs (saved_of r ts x).relations) s
    flagged r h =
        ap (λ (o : Option Relation). not (list_any (holds ds (1 - r)) s) || same_relation o (get_or (saved_of r ts x).relations (1 - r) None)) (sym (get_or-map variable_of ts (1 - r) no_variable))
        ∙ agree-flagged ds rs (saved_of r ts x).relations both-there (1 - r) (one_differs r h) s t

    fits-is : (r : ℕ) → r < 2 → saved_fits (list_any (holds ds (1 - r)) s) (variable_of (get_or ts (1 - r) no_variable)) x ≡ (bindings_ok (saved_of r ts x) && list_all (agree_on ds rs (saved_of r ts x).relations) s)
    fits-is zero h = first-own vars_fine (relation_ok (variable_of x.other)) (own 0 (omega arith)) (flagged 0 h)
    fits-is (suc zero) h = second-own vars_fine (relation_ok (variable_of x.other)) (own 1 (omega arith)) (flagged 1 h)
    fits-is (suc (suc r)) h = absurd (omega arith)

  -- an entry of a loop that reads table variable `r`
  module _ (v : List Bool) (i : ℕ) (s : List Entry) where
    abbrev read : ℕ
    read = (get_or ds i no_node).read

    abbrev top : Entry
    top = visiting i (marked 0 v) (saved_of read ts x)

    pub sequential-judged : T (list_all (bare_entry_ok ds rs) (top ∷ s)) → is_sequential (get_or ds i no_node).kind ≡ true
        → {h r : Bool} → h ≡ list_any (holds ds (1 - read)) (top ∷ s) → r ≡ saved_fits h (variable_of (get_or ts (1 - read) no_variable)) x → r ≡ saved_right ds rs s top
    sequential-judged t once e z =
        z
        ∙ ap (λ (g : Bool). saved_fits g (variable_of (get_or ts (1 - read) no_variable)) x) e
        ∙ fits-is (top ∷ s) t read (read_low ds rs both-there i (marked 0 v) (saved_of read ts x) (and_l (bare_entry_ok ds rs top) (list_all (bare_entry_ok ds rs) s) t))
        ∙ sym (ap (λ (g : Bool). not g || (bindings_ok (saved_of read ts x) && list_all (agree_on ds rs (saved_of read ts x).relations) (top ∷ s))) once)

-- of a parallel loop what its entry holds is no matter
pub parallel-judged : (ds : List Node) (qs : List (Option Relation)) (s : List Entry) (i : ℕ) (v : List ℕ) (b : Bindings) → is_sequential (get_or ds i no_node).kind ≡ false → true ≡ saved_right ds qs s (visiting i v b)
parallel-judged ds qs s i v b e = rw e

-- ── frames ──

-- whatever an entry holds
bare-any : (ds : List Node) (qs : List (Option Relation)) (b c : Bindings) (v : List Bool) (e : Code.Entry) → bare_entry_ok ds qs (entry_with b v e) ≡ bare_entry_ok ds qs (entry_with c v e)
bare-any ds qs b c v (Run i) = refl
bare-any ds qs b c v (Loop i) = refl

-- the frames in use, and the entries from the top down
pub frames-are : (ds : List Node) (qs : List (Option Relation)) (bs : ℕ → Bindings) (n : ℕ) (l : List Frame) → n ≤ length l → list_all (frame_ok ds qs) (take n l) ≡ list_all (bare_entry_ok ds qs) (stack_of bs n l)
frames-are ds qs bs zero l h = refl
frames-are ds qs bs (suc n) l h =
    let f = get_or l n no_frame in
    ap (list_all (frame_ok ds qs)) (take-suc l n no_frame (omega arith))
    ∙ list_all-append (frame_ok ds qs) (take n l) (f ∷ [])
    ∙ and_comm (list_all (frame_ok ds qs) (take n l)) (frame_ok ds qs f && true)
    ∙ ap₂ ◌&&◌ (and-true (frame_ok ds qs f) ∙ bare-any ds qs (record { vars = []; relations = [] }) (bs n) f.visit f.entry) (frames-are ds qs bs n l (omega arith))

-- ── what a thread that was tested has ──

module _ (ds : List Node) (bs : ℕ → Bindings) (t : C.Thread) (h : bare_thread_ok ds (thread_of bs t) ≡ true) where
  abbrev own : List (Option Relation)
  own = map variable_of t.relations

  abbrev frames : List Entry
  frames = stack_of bs t.depth t.stack

  all-clauses : T (bare_thread_ok ds (thread_of bs t))
  all-clauses = T_of (bare_thread_ok ds (thread_of bs t)) h

  binds : T (bindings_ok (thread_of bs t).bindings)
  binds = and_r (site_ok t.site) (bindings_ok (thread_of bs t).bindings) (and_l (site_ok t.site && bindings_ok (thread_of bs t).bindings) (bare_stack_ok ds own frames) all-clauses)

  stands : T (bare_stack_ok ds own frames)
  stands = and_r (site_ok t.site && bindings_ok (thread_of bs t).bindings) (bare_stack_ok ds own frames) all-clauses

  pub depth-low : t.depth ≤ 8
  depth-low =
      let k = length frames in
      omega (arith, length-stack bs t.depth t.stack, leb→le k 8 (and_r (leb 1 k) (leb k 8) (and_l (leb 1 k && leb k 8) (list_all (bare_entry_ok ds own) frames) stands)))

  pub entries-bare : T (list_all (bare_entry_ok ds own) frames)
  entries-bare = let k = length frames in and_r (leb 1 k && leb k 8) (list_all (bare_entry_ok ds own) frames) stands

  two-own : length own ≡ 2
  two-own =
      let vs = eqb (length t.vars) 16 && list_all variable_ok t.vars in
      eqb→eq (length own) 2 (and_r vs (eqb (length own) 2) (and_l (vs && eqb (length own) 2) (list_all relation_ok own) binds))

  pub two-variables : length t.relations ≡ 2
  two-variables = sym (length-map t.relations variable_of) ∙ two-own

  pub own-right : (m : ℕ) → m < 2 → relation_ok (variable_of (get_or t.relations m no_variable)) ≡ true
  own-right m k =
      let vs = eqb (length t.vars) 16 && list_all variable_ok t.vars in
      sym (ap relation_ok (get_or-map variable_of t.relations m no_variable))
      ∙ is_true (relation_ok (get_or own m None)) (all-at relation_ok own m None (and_r (vs && eqb (length own) 2) (list_all relation_ok own) binds) (omega (arith, two-own)))
