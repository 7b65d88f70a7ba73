-- A value that is given if a test is true. Assumes nothing.
use mathlib.Core.Path.{◌≡◌}
use mathlib.Core.Bool.{Bool, true, false}
use Rattle.std.specs.Prelude.{Option, IfSome, is_some}
use Rattle.std.specs.Bool.{then_some}

pub if_given : {A : Type 0} (o : Option A) (b form : Bool) (x : A) (P : A → Type 0) → o ≡ then_some b x → b ≡ form → P x → (is_some o ≡ form) × IfSome o P
if_given o true form x P e q h = rw e (q, h)
if_given o false form x P e q h = rw e (q, tt)
