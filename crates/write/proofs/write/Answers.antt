-- `write::write` meets its contract: an unsound net is refused, a sound one has tables in their ranges.
use Prim.Native.Nat.{ℕ}
use mathlib.Core.Path.{◌≡◌, sym, ◌∙◌}
use mathlib.Core.Bool.{Bool, true, false}
use mathlib.Core.List.{List, map}
use lib.Dec.{T}
use lib.ListN.{length, take}
use borrow.Author.Rules.{rules}
use Rattle.values.proofs.Bools.{T_of}
use Rattle.nets.specs.declared.Net.{Net}
use Rattle.nets.specs.Nets as M
use Rattle.nets.specs.Sound.{sound}
use Rattle.nets.specs.View.{table_of, view}
use Rattle.nets.proofs.ShapeLaws.{few-tables}
use Rattle.write.proofs.WholeLaws.{tables-taken, tables-few, tables-ranged}
use Rattle.std.specs.Prelude.{Result}
use Rattle.files.specs.declared.NotWritten.{NotWritten}
use Rattle.files.specs.Writing.{not_written, refusing, write, written, written_answer, buffer_after}
use Rattle.files.specs.Engine.{said_written}
use Rattle.write.specs.WriteCall.{if_room}
use Rattle.write.proofs.write.Goals as goal

write-sound : (m : M.Net) (o : List ℕ) → sound m ≡ true → write m o ≡ if_room (written m.tables) o
unfolding write if_room
write-sound m o e = rw e

write-unsound : (m : M.Net) (o : List ℕ) → sound m ≡ false → write m o ≡ not_written 10
unfolding write
write-unsound m o e = rw e

module _ (net : Net) (b : Bool) (e : b ≡ sound (view net)) where
  ok : b ≡ true → T (sound (view net))
  ok h = T_of (sound (view net)) (sym e ∙ h)

  module _ (len : length net.tables ≡ 8) where
    sound-answer : (o : List ℕ) (r : Result ℕ NotWritten) → b ≡ true → said_written r ≡ written_answer (if_room (written (map table_of (take net.tablecount net.tables))) o) → said_written r ≡ written_answer (write (view net) o)
    sound-answer o r h k = rw (write-sound (view net) o (sym e ∙ h), tables-taken net len (ok h)) k

    sound-buffer : (o out : List ℕ) → b ≡ true → out ≡ buffer_after o (if_room (written (map table_of (take net.tablecount net.tables))) o) → out ≡ buffer_after o (write (view net) o)
    sound-buffer o out h k = rw (write-sound (view net) o (sym e ∙ h), tables-taken net len (ok h)) k

  unsound-answer : (o : List ℕ) → b ≡ false → refusing 10 ≡ written_answer (write (view net) o)
  unsound-answer o h = rw (write-unsound (view net) o (sym e ∙ h))

  unsound-buffer : (o : List ℕ) → b ≡ false → o ≡ buffer_after o (write (view net) o)
  unsound-buffer o h = rw (write-unsound (view net) o (sym e ∙ h))

pub write_tables-requires : goal.write_tables-requires
write_tables-requires c =
    let n = c.args.net in
    let l : length n.tables ≡ 8 = search rules in
    let o = ok n c.sound_net.result c.sound_net.ensures c.if-not-sound_net.false in
    (tables-few n l o, tables-ranged n l o)

pub returns-then-not-sound_net : goal.returns-then-not-sound_net
returns-then-not-sound_net c = record { answer = search unsound-answer; buffer = search unsound-buffer }

pub returns : goal.returns
returns c =
    let n = c.args.net in
    let l : length n.tables ≡ 8 = search rules in
    record { answer = sound-answer n c.sound_net.result c.sound_net.ensures l c.args.out.now _ c.if-not-sound_net.false c.write_tables.ensures.0; buffer = sound-buffer n c.sound_net.result c.sound_net.ensures l c.args.out.now _ c.if-not-sound_net.false c.write_tables.ensures.1 }

pub shared_ref_as_front-write_tables : goal.shared_ref_as_front-write_tables
shared_ref_as_front-write_tables c = few-tables c.args.net (ok c.args.net c.sound_net.result c.sound_net.ensures c.if-not-sound_net.false)
