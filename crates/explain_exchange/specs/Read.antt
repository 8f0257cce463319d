-- What the code has of two parameters, as plain data.
use Rattle.std.specs.Prelude.{◌≡◌, ℕ, cond, nat_eq, nat_lt, ◌&&◌}
use Rattle.raml_syntax.specs.Tree.{Parameter}
use Rattle.explain_exchange.specs.Exchange as e
use Rattle.explain_exchange.specs.declared.two_params.TwoParams.{TwoParams}

abbrev pub two_of : TwoParams → e.TwoParameters
two_of two = record { function = two.function.now; first = two.first; second = two.second }

-- both parameters have one name and one type
abbrev pub HasSameType : Parameter → Parameter → Type 0
HasSameType p q = (p.name ≡ q.name) × (p.type ≡ q.type)

-- the place that what is at a place had before the elements at two places were exchanged, of so many
abbrev pub place_before : ℕ → ℕ → ℕ → ℕ → ℕ
place_before i j n k = cond (nat_lt i j && nat_lt j n) (cond (nat_eq k i) j (cond (nat_eq k j) i k)) k
