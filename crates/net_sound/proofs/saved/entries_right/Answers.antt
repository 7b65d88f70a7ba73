-- The entries from the bottom up are right, and what they hold is noted.
use Rattle.std.proofs.Common.{◌≡◌, ◌≤◌, ◌<◌, ◌∙◌, ℕ, zero, suc, None, ◌+◌, ◌-◌, ◌*◌, List, [], ◌∷◌, Bool, true, false, ◌&&◌, ◌||◌, refl, length, map, get_or, set, sym, ap, ap₂, subst, eqb, ltb, add-one, rules, arith}
use Rattle.std.specs.Prelude.{Option}
use Rattle.std.specs.List.{list_all, list_any}
use Rattle.std.proofs.lemmas.List.{get_or-map}
use lib.Dec.{T, eqb→eq}
use lib.ListN.{length-set, length-map}
use lib.Seq.{get_or-set_same, get_or-set_other}
use borrow.Author.Tests.{ltb-true, eq-eqb}
use mathlib.Core.Bool.{true≢false}
use Rattle.values.proofs.Bools.{and_l, T_of, is_true}
use Rattle.rows.specs.Relations.{Relation}
use Rattle.nets.specs.declared.Entry as Entry'
use Rattle.nets.specs.declared.Entry.TheVariants.{Run, Loop}
use Rattle.nets.specs.declared.Frame.{Frame}
use Rattle.nets.specs.declared.Node as C
use Rattle.nets.specs.declared.Saved.{Saved}
use Rattle.nets.specs.declared.Thread.{Thread}
use Rattle.nets.specs.Nets.{Bindings, Node, Entry, is_loop, is_sequential, visiting}
use Rattle.nets.specs.Sound as S
use Rattle.nets.specs.Sound.{relation_ok, has_places}
use Rattle.nets.specs.Steps.{holds}
use Rattle.nets.specs.View.{no_node, no_frame, no_saved, no_variable, marked, node_of, variable_of, node_in, entry_with, entry_of, stack_of, saved_of, saved_at, thread_of}
use Rattle.net_parts.specs.SoundParts.{bare_entry_ok, bare_thread_ok, saved_right, all_saved_right, saved_fits}
use Rattle.net_parts.proofs.HeldLaws.{bare-lower, saved-lower, read_low, sequential-judged, parallel-judged, depth-low, entries-bare, two-variables, own-right}
use Rattle.net_sound.proofs.saved.entries_right.Invariants.{Noted}
use Rattle.net_sound.proofs.saved.entries_right.Goals as goal
use Rattle.net_sound.proofs.saved.entries_right.Goals.{in-Loop+else-is_sequential, else-is_sequential-via-then-is_sequential+else-not-saved_ok, else-is_sequential-via-else-is_sequential, in_default}

-- ── the entry at place `j` of the thread at place `i` ──

module _ (ns : List C.Node) (saved : List Saved) (i : ℕ) (t : Thread) (h : (b : ℕ → Bindings) → bare_thread_ok (map node_of ns) (thread_of b t) ≡ true) where
  abbrev ds : List Node
  ds = map node_of ns

  abbrev rs : List (Option Relation)
  rs = map variable_of t.relations

  abbrev bs : ℕ → Bindings
  bs = saved_at ds saved i t

  deep : t.depth ≤ 8
  deep = depth-low ds bs t (h bs)

  two : length t.relations ≡ 2
  two = two-variables ds bs t (h bs)

  none-noted : Noted ds rs bs t.stack (false ∷ false ∷ []) 0
  none-noted = record { two = refl; flags = none; right = refl }
    where
      none : (m : ℕ) → m < 2 → get_or (false ∷ false ∷ []) m false ≡ false
      none zero k = refl
      none (suc zero) k = refl
      none (suc (suc m)) k = absurd (omega arith)

  all-passed : (j : ℕ) {held : List Bool} → j ≤ t.depth → t.depth ≤ j → Noted ds rs bs t.stack held j → true ≡ all_saved_right ds rs (stack_of bs t.depth t.stack)
  all-passed j k l n =
      let e : j ≡ t.depth = omega arith in
      sym (rw e at n.right)

  module _ (j : ℕ) (k : j < t.depth) where
    abbrev f : Frame
    f = get_or t.stack j no_frame

    abbrev lower : List Entry
    lower = stack_of bs j t.stack

    abbrev kept : Saved
    kept = get_or saved (i * 8 + j) no_saved

    bare : T (list_all (bare_entry_ok ds rs) (entry_of (bs j) f ∷ lower))
    bare = bare-lower ds rs bs t.stack t.depth (suc j) (omega arith) (entries-bare ds bs t (h bs))

    -- an entry to run
    noted-run : (at : ℕ) {held : List Bool} → f.entry ≡ Run at → Noted ds rs bs t.stack held j → Noted ds rs bs t.stack held (j + 1)
    noted-run at e n = rw (add-one) (record { two = n.two; flags = λ m l. rw e (n.flags m l); right = rw e n.right })

    module _ (at : ℕ) (e : f.entry ≡ Loop at) where
      abbrev d : Node
      d = get_or ds at S.no_node

      abbrev code : C.Node
      code = get_or ns at no_node

      abbrev top : Entry
      top = visiting at (marked 0 f.visit) (saved_of d.read t.relations kept)

      top-is : entry_of (bs j) f ≡ top
      top-is = ap (λ (y : Entry'.Entry). entry_with (saved_of (get_or ds (node_in y) S.no_node).read t.relations kept) f.visit y) e

      top-bare : T (list_all (bare_entry_ok ds rs) (top ∷ lower))
      top-bare = subst (λ (x : Entry). T (list_all (bare_entry_ok ds rs) (x ∷ lower))) top-is bare

      one-bare : T (bare_entry_ok ds rs top)
      one-bare = and_l (bare_entry_ok ds rs top) (list_all (bare_entry_ok ds rs) lower) top-bare

      there : at < length ns
      there =
          let low : T (ltb at (length ds)) = and_l (ltb at (length ds)) (is_loop d.kind) (and_l (ltb at (length ds) && is_loop d.kind) (has_places (marked 0 f.visit) (get_or rs d.read None)) one-bare) in
          omega (arith, ltb-true at (length ds) (is_true (ltb at (length ds)) low), length-map ns node_of)

      node-is : d ≡ node_of code
      node-is = get_or-map node_of ns at no_node S.no_node there

      read-is : code.read ≡ d.read
      read-is = sym (ap (λ (x : Node). x.read) node-is)

      low : code.read < 2
      low = rw read-is (read_low ds rs (length-map t.relations variable_of ∙ two) at (marked 0 f.visit) (saved_of d.read t.relations kept) one-bare)

      other-right : relation_ok (variable_of (get_or t.relations (1 - code.read) no_variable)) ≡ true
      other-right = own-right ds bs t (h bs) (1 - code.read) (omega arith)

      -- it holds the table variable that its node reads
      flags-more : {held : List Bool} → Noted ds rs bs t.stack held j → (m : ℕ) → m < 2 → get_or (set held code.read true) m false ≡ list_any (holds ds m) (top ∷ lower)
      flags-more {held} n m l = rw (sym read-is) (go (eqb m code.read) refl)
        where
          go : (q : Bool) → eqb m code.read ≡ q → get_or (set held code.read true) m false ≡ (q || list_any (holds ds m) lower)
          go true u = rw (eqb→eq m code.read (T_of (eqb m code.read) u)) (get_or-set_same held code.read true false (omega (arith, n.two, low)))
          go false u = get_or-set_other held code.read m true false (λ p. true≢false (sym (eq-eqb m code.read p) ∙ u)) ∙ n.flags m l

      noted-loop : {held : List Bool} → Noted ds rs bs t.stack held j → true ≡ saved_right ds rs lower top → Noted ds rs bs t.stack (set held code.read true) (j + 1)
      noted-loop {held} n q =
          rw add-one
          (record {
            two = length-set held code.read true ∙ n.two;
            flags = λ m l. flags-more n m l ∙ sym (ap (λ (x : Entry). list_any (holds ds m) (x ∷ lower)) top-is);
            right = ap (λ (x : Entry). saved_right ds rs lower x && all_saved_right ds rs lower) top-is ∙ ap₂ ◌&&◌ (sym q) n.right;
          })

      -- a parallel loop's
      noted-parallel : {held : List Bool} {q : Bool} → Noted ds rs bs t.stack held j → q ≡ is_sequential (node_of code).kind → q ≡ false → Noted ds rs bs t.stack (set held code.read true) (j + 1)
      noted-parallel n p q = noted-loop n (parallel-judged ds rs lower at (marked 0 f.visit) (saved_of d.read t.relations kept) (ap (λ (x : Node). is_sequential x.kind) node-is ∙ sym p ∙ q))

      -- a sequential loop's, with the answer of the test of what is saved
      module _ {held : List Bool} (n : Noted ds rs bs t.stack held j) {q r : Bool} (p : q ≡ is_sequential (node_of code).kind) (u : q ≡ true)
          (z : r ≡ saved_fits (get_or (set held code.read true) (1 - code.read) false) (variable_of (get_or t.relations (1 - code.read) no_variable)) kept) where
        judged : r ≡ saved_right ds rs lower top
        judged =
            let g = get_or (set held code.read true) (1 - code.read) false in
            sequential-judged ds t.relations two (own-right ds bs t (h bs)) kept f.visit at lower top-bare (ap (λ (x : Node). is_sequential x.kind) node-is ∙ sym p ∙ u)
            (flags-more n (1 - code.read) (omega arith) ∙ ap (λ (x : ℕ). list_any (holds ds (1 - x)) (top ∷ lower)) read-is)
            (z ∙ ap (λ (x : ℕ). saved_fits g (variable_of (get_or t.relations (1 - x) no_variable)) kept) read-is)

        noted-sequential : r ≡ true → Noted ds rs bs t.stack (set held code.read true) (j + 1)
        noted-sequential y = noted-loop n (sym y ∙ judged)

        unfit : r ≡ false → false ≡ all_saved_right ds rs (stack_of bs t.depth t.stack)
        unfit y = saved-lower ds rs bs t.stack t.depth (suc j) (omega arith) (ap (λ (x : Entry). saved_right ds rs lower x && all_saved_right ds rs lower) top-is ∙ ap (λ (x : Bool). x && all_saved_right ds rs lower) (sym judged ∙ y))

-- ── the loop ──

pub offset_bounds-t-j : goal.offset_bounds-t-j
offset_bounds-t-j c =
    let d = deep c.args.nodes.now c.args.saved.now c.args.i c.args.t.now c.requires.right in
    search rules

pub bounds : goal.bounds
bounds c =
    let d = deep c.args.nodes.now c.args.saved.now c.args.i c.args.t.now c.requires.right in
    omega arith

pub bounds-nodes-at : goal.bounds-nodes-at
bounds-nodes-at c = there c.args.nodes.now c.args.saved.now c.args.i c.args.t.now c.requires.right c.loop-j.j c.loop-j-test.true c.in-Loop.at c.in-Loop.is

pub bounds-held-read : goal.bounds-held-read
bounds-held-read c = low c.args.nodes.now c.args.saved.now c.args.i c.args.t.now c.requires.right c.loop-j.j c.loop-j-test.true c.in-Loop.at c.in-Loop.is

pub overflow_sub-other : goal.overflow_sub-other
overflow_sub-other c =
    let l = low c.args.nodes.now c.args.saved.now c.args.i c.args.t.now c.requires.right c.loop-j.j c.loop-j-test.true c.in-Loop.at c.in-Loop.is in
    omega arith

pub saved_ok-requires : goal.saved_ok-requires
saved_ok-requires c = other-right c.args.nodes.now c.args.saved.now c.args.i c.args.t.now c.requires.right c.loop-j.j c.loop-j-test.true c.in-Loop.at c.in-Loop.is

pub returns-then-not-saved_ok : goal.returns-then-not-saved_ok
returns-then-not-saved_ok c =
    unfit c.args.nodes.now c.args.saved.now c.args.i c.args.t.now c.requires.right c.loop-j.j c.loop-j-test.true c.in-Loop.at c.in-Loop.is
    c.loop-j.invariant c.is_sequential.ensures c.if-is_sequential.true c.saved_ok.ensures c.if-not-saved_ok.true

pub loop-j-preserved : goal.loop-j-preserved
loop-j-preserved c =
    let a = c.args in
    let l = c.loop-j in
    let right = c.requires.right in
    elim c.match-t-j.branch [
      | in-Loop+else-is_sequential w ↦
          rw w.held-is
          (elim w.else-is_sequential.branch [
            | else-is_sequential-via-then-is_sequential+else-not-saved_ok w' ↦
                noted-sequential a.nodes.now a.saved.now a.i a.t.now right l.j c.loop-j-test.true w.in-Loop.at w.in-Loop.is l.invariant w.is_sequential.ensures w'.if-is_sequential.true w'.saved_ok.ensures w'.if-not-saved_ok.false
            | else-is_sequential-via-else-is_sequential w' ↦
                noted-parallel a.nodes.now a.saved.now a.i a.t.now right l.j c.loop-j-test.true w.in-Loop.at w.in-Loop.is l.invariant w.is_sequential.ensures w'.if-is_sequential.false
          ])
      | in_default w ↦ rw w.held-is (noted-run a.nodes.now a.saved.now a.i a.t.now right l.j c.loop-j-test.true w.in_default.field-0 w.in_default.is l.invariant)
    ]

pub returns : goal.returns
returns c = all-passed c.args.nodes.now c.args.saved.now c.args.i c.args.t.now c.requires.right c.loop-j.j c.loop-j.auto.j-end c.loop-j-test.false c.loop-j.invariant

pub loop-j-init : goal.loop-j-init
loop-j-init c = none-noted c.args.nodes.now c.args.saved.now c.args.i c.args.t.now c.requires.right
