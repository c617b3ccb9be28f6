use Rattle.std.specs.Prelude.{ℕ, Bool, eqb, not}

-- A constant parameter that is true or false: in a proof it is a number.

abbrev pub truth : ℕ → Bool
truth n = not (eqb n 0)
