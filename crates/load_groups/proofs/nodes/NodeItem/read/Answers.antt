-- `load_groups::nodes::NodeItem::read` meets its contract: a node is refused by check 4 or 8.
use Prim.Native.Nat.{ℕ, ◌≤◌}
use mathlib.Core.Path.{◌≡◌, refl, sym, ap, subst, ◌∙◌}
use mathlib.Core.Bool.{true}
use mathlib.Core.List.{List, [], ◌∷◌, ◌++◌, append-nil}
use lib.Dec.{ltb}
use lib.ListN.{length}
use Rattle.std.specs.Prelude.{Ok, Err, None, IfSome}
use Rattle.std.specs.Result.{result_err}
use borrow.Author.Rules.{rules}
use borrow.Author.Tests.{le-leb}
use Rattle.nets.specs.declared.Node.{Node}
use Rattle.nets.specs.Nets as M
use Rattle.nets.specs.View.{node_of}
use Rattle.record_bytes.specs.Decoding.{Record, node_record, node_in, node_form}
use Rattle.files.specs.Loading.{Progress, load_checks, failing, put, advance}
use Rattle.load_walk.specs.Walking.{with_group, put_nodes}
use Rattle.load_walk.proofs.WalkLaws.{Group, list_checks}
use Rattle.load_groups.proofs.ItemLaws.{takes_seen, refuses_seen, room_left}
use Rattle.load_groups.proofs.nodes.NodeItem.read.Goals as goal

abbrev said : List ℕ → Record
said bs = node_record (node_in bs)

checks : (g c : ℕ) (xs : List M.Node) (bs : List ℕ) (l : Progress) → g ≤ 4 → length xs ≡ c → failing (load_checks (with_group g (put_nodes xs l)) (said bs)) ≡ failing (list_checks true (ltb c 128))
unfolding load_checks
checks g c xs bs l h e = rw (le-leb g 4 h, e)

added : (g : ℕ) (xs : List M.Node) (bs : List ℕ) (l : Progress) → advance (with_group g (put_nodes xs l)) (said bs) ≡ with_group 4 (put_nodes (xs ++ (node_in bs ∷ [])) l)
unfolding advance put
added g xs bs l = rw (append-nil l.picks)

abbrev group : Group M.Node
group =
    record {
      number = 4;
      put = put_nodes;
      form = node_form;
      new = λ xs bs. true;
      room = λ c. ltb c 128;
      said = said;
      element = λ bs. node_in bs;
      same = λ bs. refl;
      checks = checks;
      added = added;
    }

pub returns-in_err-first_fault : goal.returns-in_err-first_fault
returns-in_err-first_fault c =
    let q : c.from_residual.result ≡ Err c.in_err-first_fault.field-0.0 = search rules in
    let z : c.first_fault.result ≡ Err c.in_err-first_fault.field-0.0 = c.in_err-first_fault.was in
    rw q (refuses_seen group node_of c.args.place c.args.r.now c.requires.0 c.args.before.now c.is_some.result true _ (c.is_some.ensures ∙ c.node_read-node.ensures.0) refl refl _ c.first_fault.ensures _ (ap result_err (sym z)))

pub returns : goal.returns
returns c =
    let z : c.first_fault.result ≡ Ok tt = c.in_ok-first_fault.was in
    let f : None ≡ result_err c.first_fault.result = ap result_err (sym z) in
    let read = subst (λ o. IfSome o (λ (d : Node). node_of d ≡ node_in c.args.r.now)) c.unwrap.ensures c.node_read-node.ensures.1 in
    (takes_seen group node_of c.args.place c.args.r.now c.requires.0 c.args.before.now c.is_some.result true _ (c.is_some.ensures ∙ c.node_read-node.ensures.0) refl refl _ c.first_fault.ensures _ read f, tt, room_left c.args.place c.is_some.result true (length c.args.before.now) 128 (f ∙ c.first_fault.ensures))
