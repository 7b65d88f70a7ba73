-- `window_bytes::read::ints_in` meets its contract: up to place `i` each Int is that of its four bytes.
use Prim.Native.Nat.{ℕ, ◌*◌, ◌≤◌}
use native.Mathlib.Omega.{arith}
use mathlib.Core.Path.{◌≡◌, ap, ◌∙◌}
use lib.ListN.{take, drop}
use mir.Syntax.{w32}
use Rattle.values.proofs.Ints.{back}
use Rattle.value_bytes.proofs.Stores.{part-size}
use Rattle.record_bytes.specs.Bytes.{int_in}
use Rattle.window_bytes.proofs.ReadLaws.{fill_more, int_at_part, ints_by_parts}
use borrow.Author.Rules.{rules}
use Rattle.window_bytes.proofs.read.ints_in.Goals as goal

pub loop-i-preserved : goal.loop-i-preserved
loop-i-preserved c =
    let p = c.args.p.now in
    let l = c.loop-i in
    let e : c.int_in.result ≡ int_at_part p l.i = c.int_in.ensures ∙ ap int_in c.field.ensures ∙ ap (λ (n : ℕ). int_in (take n (drop (l.i * 4) p))) (part-size (l.i * 4) 4) in
    record { full = search rules; read = fill_more (int_at_part p) l.ints l.i _ (search rules) (back w32 c.int_in.result (search rules) ∙ e) (search rules) }

pub returns : goal.returns
returns c =
    let l = c.loop-i in
    let end : 16 ≤ l.i = search rules in
    λ n h. ints_by_parts n l.ints c.args.p.now (λ j q. l.invariant.read j (omega arith))
