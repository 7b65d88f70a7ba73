-- The clauses in the order of the code.
use Rattle.std.proofs.Common.{◌≡◌, ◌≤◌, ◌<◌, ◌∙◌, ℕ, List, Bool, true, false, not, ◌&&◌, refl, length, map, sym, ap, ap₂, eqb, leb, rules, arith}
use Rattle.std.specs.Prelude.{Option}
use Rattle.std.specs.List.{list_all, slice_range}
use Rattle.rows.specs.Relations.{Relation}
use mathlib.Core.Bool.{and-false}
use borrow.Author.Tests.{lt-leb}
use Rattle.values.specs.Values.{site_ok}
use Rattle.values.proofs.Arrays.{long}
use Rattle.nets.specs.Nets.{Bindings, Node}
use Rattle.nets.specs.declared.Frame.{Frame}
use Rattle.nets.specs.declared.Thread.{Thread}
use Rattle.nets.specs.Sound.{relation_ok, variable_ok, bindings_ok}
use Rattle.nets.specs.View.{variable_of, stack_of, thread_of}
use Rattle.nets.proofs.StackView.{length-stack}
use Rattle.net_parts.specs.SoundParts.{frame_ok, bare_entry_ok, bare_stack_ok, bare_thread_ok}
use Rattle.net_parts.proofs.Counts.{front, some-bounded}
use Rattle.net_parts.proofs.HeldLaws.{frames-are}
use Rattle.net_sound.proofs.threads.thread_ok.Goals as goal

tidied : (s v a b n q : Bool) → (s && v && (a && b) && n && q) ≡ (s && (v && a && b) && (n && q))
tidied false v a b n q = refl
tidied true false a b n q = refl
tidied true true false b n q = refl
tidied true true true false n q = refl
tidied true true true true n q = refl

module _ (ds : List Node) (bs : ℕ → Bindings) (t : Thread) where
  abbrev rs : List (Option Relation)
  rs = map variable_of t.relations

  too-deep : 8 < t.depth → false ≡ bare_thread_ok ds (thread_of bs t)
  too-deep h =
      let k = length (stack_of bs t.depth t.stack) in
      rw (lt-leb k 8 (omega (arith, length-stack bs t.depth t.stack)), and-false (leb 1 k), and-false (site_ok t.site && bindings_ok (thread_of bs t).bindings))

  stack-is : (u : List Frame) → t.depth ≤ 8 → t.depth ≤ length t.stack → u ≡ slice_range t.stack 0 t.depth → length u ≡ t.depth → {e q : Bool} → e ≡ eqb (length u) 0 → q ≡ list_all (frame_ok ds rs) u
      → (not e && q) ≡ bare_stack_ok ds rs (stack_of bs t.depth t.stack)
  stack-is u i h w m p q =
      let s = stack_of bs t.depth t.stack in
      let n : length u ≡ length s = m ∙ sym (length-stack bs t.depth t.stack) in
      ap₂ (λ (x y : Bool). not x && y) (p ∙ ap (λ (k : ℕ). eqb k 0) n) (q ∙ ap (list_all (frame_ok ds rs)) (w ∙ front t.depth t.stack) ∙ frames-are ds rs bs t.depth t.stack h)
      ∙ some-bounded 8 (length s) (omega (arith, length-stack bs t.depth t.stack)) (list_all (bare_entry_ok ds rs) s)

  thread-is : (n q : Bool) {s v r : Bool} → s ≡ site_ok t.site → v ≡ (eqb (length t.vars) 16 && list_all variable_ok t.vars) → r ≡ (eqb (length rs) 2 && list_all relation_ok rs)
      → (n && q) ≡ bare_stack_ok ds rs (stack_of bs t.depth t.stack) → (s && v && r && n && q) ≡ bare_thread_ok ds (thread_of bs t)
  thread-is n q a b d f =
      rw (a, b, d) (tidied (site_ok t.site) (eqb (length t.vars) 16 && list_all variable_ok t.vars) (eqb (length rs) 2) (list_all relation_ok rs) n q)
      ∙ ap (λ (x : Bool). site_ok t.site && bindings_ok (thread_of bs t).bindings && x) f

pub returns-in_default : goal.returns-in_default
returns-in_default c =
    let t = c.args.t.now in
    let eight : length t.stack ≡ 8 = search (long, rules) in
    let over : 8 < t.depth = search rules in
    λ bs. too-deep _ bs t over

pub returns : goal.returns
returns c =
    let t = c.args.t.now in
    let l = c.in-Some.ensures.lookup.0 in
    let eight : length t.stack ≡ 8 = search (long, rules) in
    λ bs. thread-is _ bs t _ _ c.site_ok.ensures c.vars_ok.ensures c.variables_right.ensures
    (stack-is _ bs t c.in-Some.stack.now (omega arith) l.1 l.2 (omega (arith, l.3)) c.is_empty.ensures c.stack_ok.ensures)
