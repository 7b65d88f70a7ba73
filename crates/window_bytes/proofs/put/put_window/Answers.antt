-- `window_bytes::put::put_window` meets its contract: four adjacent parts fill the state.
use Prim.Native.Nat.{◌≤◌}
use native.Mathlib.Omega.{arith}
use mathlib.Core.Path.{◌≡◌, sym, ap, ◌∙◌}
use lib.IntN.{pos}
use lib.ListN.{length}
use Rattle.window.proofs.IntLaws.{firsts-take}
use Rattle.window_bytes.proofs.PutLaws.{same_bytes, int_part, window-put}
use borrow.Author.Rules.{rules}
use Rattle.window_bytes.proofs.put.put_window.Goals as goal

pub returns : goal.returns
returns c =
    let w = c.args.window in
    let n : length w.ints ≡ 16 = search rules in
    let room : w.count ≤ length w.ints = omega arith in
    window-put c.args.out.now _ _ _ _ (search rules) w c.requires
    (c.copy_from_slice.ensures.after ∙ c.to_le_bytes.ensures ∙ same_bytes w.width)
    (c.copy_from_slice-2.ensures.after ∙ c.to_le_bytes-2.ensures ∙ same_bytes w.column)
    (c.copy_from_slice-3.ensures.after ∙ c.to_le_bytes-3.ensures ∙ same_bytes w.count)
    (c.copy_from_slice-4.ensures.after ∙ c.ints_bytes.ensures ∙ ap int_part (sym (firsts-take (pos 0) w.count w.ints room)))
