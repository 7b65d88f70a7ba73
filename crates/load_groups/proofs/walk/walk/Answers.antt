-- `load_groups::walk::walk` meets its contract: a record of the group is taken, and leads on, or is refused, and stops.
use Rattle.std.specs.Prelude.{Err}
use Rattle.std.proofs.Common.{ℕ, ◌≡◌, ◌<◌, ◌+◌, List, [], ◌∷◌, ◌++◌, length, take, ap, sym, subst, ◌∙◌, arith, rules}
use Rattle.std.proofs.Math.ListN.{set, length-set, length-take}
use Rattle.std.proofs.lemmas.List.{take_more_set}
use Rattle.record_bytes.specs.Bytes.{at}
use Rattle.record_bytes.specs.RecordKinds.{group_at}
use Rattle.load_walk.specs.Walking.{Leads, Going}
use Rattle.load_walk.proofs.WalkLaws.{past, leads_trans, leads-stop, next-is, next_in, next_fits, next_less, went_on, step_on, step_off}
use Rattle.load_groups.proofs.walk.walk.Goals as goal

pub record_at-r-requires : goal.record_at-r-requires
record_at-r-requires g c =
    let l = c.loop-r in
    let k = g.T.Item.GROUP in
    let e : c.next_group.result ≡ k = c.loop-r-test.true ∙ c.GROUP.ensures in
    next_fits k c.requires.1 c.args.file.now l.at c.next_group.result c.next_group.ensures e l.invariant.5

pub read-requires : goal.read-requires
read-requires g c =
    let l = c.loop-r in
    let k = g.T.Item.GROUP in
    let e : c.next_group.result ≡ k = c.loop-r-test.true ∙ c.GROUP.ensures in
    let next = next_in k c.requires.1 c.args.file.now l.at c.next_group.result c.next_group.ensures e l.invariant.5 in
    (ap (λ (bs : List ℕ). group_at (at bs 0)) c.record_at-r.ensures ∙ (next-is k c.requires.1 c.args.file.now l.at c.next_group.result c.next_group.ensures e).1, l.invariant.3, omega (arith, length-take l.count l.items, next, l.invariant.2, l.invariant.5.whole.few))

pub returns-in_err-items : goal.returns-in_err-items
returns-in_err-items g c =
    let l = c.loop-r in
    let t = g.T.Item in
    let e : c.next_group.result ≡ t.GROUP = c.loop-r-test.true ∙ c.GROUP.ensures in
    let q : c.from_residual.result ≡ Err c.in_err-items.field-0.0 = search rules in
    rw q (leads-stop c.args.file.now c.args.from l.at _ (t.put []) (t.put (take l.count l.items)) l.invariant.4
    (step_off t.GROUP c.requires.1 c.args.file.now l.at c.next_group.result c.next_group.ensures e l.invariant.5 c.record_at-r.result.now c.record_at-r.ensures (t.put (take l.count l.items)) _ c.in_err-items.ensures))

pub loop-r-smaller : goal.loop-r-smaller
loop-r-smaller g c =
    let l = c.loop-r in
    let e : c.next_group.result ≡ g.T.Item.GROUP = c.loop-r-test.true ∙ c.GROUP.ensures in
    next_less g.T.Item.GROUP c.requires.1 c.args.file.now l.at c.next_group.result c.next_group.ensures e l.invariant.5

pub loop-r-preserved : goal.loop-r-preserved
loop-r-preserved g c =
    let l = c.loop-r in
    let t = g.T.Item in
    let file = c.args.file.now in
    let x = c.in_ok-items.field-0 in
    let e : c.next_group.result ≡ t.GROUP = c.loop-r-test.true ∙ c.GROUP.ensures in
    let room : l.count < length l.items = omega (arith, length-take l.count l.items, l.invariant.0, l.invariant.1, c.in_ok-items.ensures.2, c.requires.3) in
    let more : take (l.count + 1) (set l.items l.count x) ≡ take l.count l.items ++ (x ∷ []) = take_more_set l.items l.count x room in
    let on : Leads file l.at (past l.at t.GROUP) (t.put (take l.count l.items)) (t.put (take l.count l.items ++ (x ∷ []))) =
    step_on t.GROUP c.requires.1 file l.at c.next_group.result c.next_group.ensures e l.invariant.5 c.record_at-r.result.now c.record_at-r.ensures (t.put (take l.count l.items)) (t.put (take l.count l.items ++ (x ∷ []))) c.in_ok-items.ensures.0 in
    let all : Leads file c.args.from (past l.at t.GROUP) (t.put []) (t.put (take l.count l.items ++ (x ∷ []))) = leads_trans file c.args.from l.at (past l.at t.GROUP) (t.put []) (t.put (take l.count l.items)) (t.put (take l.count l.items ++ (x ∷ []))) l.invariant.4 on in
    let went : Going file t.GROUP (past l.at t.GROUP) = went_on t.GROUP c.requires.1 file l.at c.next_group.result c.next_group.ensures e l.invariant.5 in
    let same : t.GROUP ≡ c.GROUP-in-loop-r.result = sym c.GROUP-in-loop-r.ensures in (
      length-set l.items l.count x ∙ l.invariant.0,
      omega (arith, room, l.invariant.0),
      omega (arith, l.invariant.2),
      subst t.Kept (sym more) c.in_ok-items.ensures.1,
      subst (λ (k : ℕ). Leads file c.args.from (past l.at k) (t.put []) (t.put (take (l.count + 1) (set l.items l.count x)))) same
          (subst (λ (ys : List _). Leads file c.args.from (past l.at t.GROUP) (t.put []) (t.put ys)) (sym more) all),
      subst (λ (k : ℕ). Going file t.GROUP (past l.at k)) same went,
    )
