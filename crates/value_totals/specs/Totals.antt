-- A sum in two 64-bit halves.
use Rattle.std.specs.Prelude.{ℕ, ◌+◌, ◌*◌, ◌^◌}
use Rattle.value_totals.specs.declared.Total.{Total}

abbrev pub total_of : Total → ℕ
total_of t = t.high * 2 ^ 64 + t.low
