-- What proves a sum least, or refutes a system, and that it does so over every number.
use Rattle.std.specs.Prelude.{◌≡◌, ℤ, pos, ◌<ℤ◌, List}
use Rattle.linear_rows.specs.Systems.{LinearSystem, Solves, Refutes, IsDual, ProvesLeast, IsLeast}
use Rattle.linear_rows.specs.Vectors.{scale}

-- no x over a positive t solves a system that some y refutes
abbrev pub RefutedHasNoSolution : Type 0
RefutedHasNoSolution = (s : LinearSystem) (y x : List ℤ) (t : ℤ) → Refutes s y → pos 0 <ℤ t → Solves s x t → ⊥

-- a solution is least where a dual solution over the same number has the same sum
abbrev pub ProvedIsLeast : Type 0
ProvedIsLeast = (s : LinearSystem) (x y : List ℤ) (t : ℤ) → ProvesLeast s x y t → IsLeast s x t

-- place by place, x over t is z over r
abbrev pub InProportion : ℤ → ℤ → List ℤ → List ℤ → Type 0
InProportion t r x z = scale r x ≡ scale t z

-- what vectors are over t, those in proportion are over r
pub record ProportionsAgree : Type 0 where
  pub solves : (s : LinearSystem) (x z : List ℤ) (t r : ℤ) → pos 0 <ℤ t → pos 0 <ℤ r → InProportion t r x z
      → Solves s x t → Solves s z r
  pub dual : (s : LinearSystem) (y w : List ℤ) (t r : ℤ) → pos 0 <ℤ t → pos 0 <ℤ r → InProportion t r y w
      → IsDual s y t → IsDual s w r
  pub least : (s : LinearSystem) (x z : List ℤ) (t r : ℤ) → pos 0 <ℤ t → pos 0 <ℤ r → InProportion t r x z
      → IsLeast s x t → IsLeast s z r
  pub proves : (s : LinearSystem) (x y z w : List ℤ) (t r : ℤ) → pos 0 <ℤ r → InProportion t r x z → InProportion t r y w
      → ProvesLeast s x y t → ProvesLeast s z w r
  pub refutes : (s : LinearSystem) (y w : List ℤ) (t r : ℤ) → pos 0 <ℤ t → pos 0 <ℤ r → InProportion t r y w
      → Refutes s y → Refutes s w
