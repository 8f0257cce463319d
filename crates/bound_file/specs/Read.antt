-- What declared bounds in the code are as plain data.
use Rattle.std.specs.Prelude.{◌<ℤ◌, ℕ, ℤ, pos, unsigned_abs, List, map}
use Rattle.std.specs.List.{All}
use Rattle.bound_file.specs.Lines.{Coefficient, Line, IsProper}
use Rattle.bound_file.specs.declared.declaration.DeclLine.{DeclLine}

abbrev pub coefficient_of : ℕ × ℤ × ℤ → Coefficient
coefficient_of c = record { position = c.0; numerator = unsigned_abs c.1; denominator = unsigned_abs c.2 }

abbrev pub coefficients_of : List (ℕ × ℤ × ℤ) → List Coefficient
coefficients_of cs = map coefficient_of cs

abbrev pub line_of : DeclLine → Line
line_of line = record { fun = line.fun.0; meter = line.meter; bound = coefficients_of line.bound.items }

abbrev pub lines_of : List DeclLine → List Line
lines_of lines = map line_of lines

-- no numerator and no denominator is negative or zero
abbrev pub ArePositive : List (ℕ × ℤ × ℤ) → Type 0
ArePositive cs = All (λ c. (pos 0 <ℤ c.1) × (pos 0 <ℤ c.2)) cs

abbrev pub IsSigned : DeclLine → Type 0
IsSigned line = ArePositive line.bound.items

pub record IsSound (line : DeclLine) : Type 0 where
  pub proper : IsProper (line_of line)
  pub positive : IsSigned line
