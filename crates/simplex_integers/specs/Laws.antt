-- Fractions of which none is negative, and which are numbers over one number, in whole numbers.
use Rattle.std.specs.Prelude.{ℕ, ◌<◌, ℤ, pos, ◌<ℤ◌, List}
use Rattle.raml_num.specs.Sums.{NoneNegative}
use Rattle.frac128.specs.declared.Frac.{Frac}
use Rattle.simplex.specs.Reading.{AreOver}
use Rattle.simplex_integers.specs.Wholes.{most, AreLeastWholes, ScaleLeaves}
use Rattle.simplex_integers.specs.Denominators.{denominators, IsLcmOf, all_over, DenominatorLeaves, NumberLeaves}

-- the fractions are the natural numbers ns over d
pub record AreNatural (d : ℤ) (ns : List ℤ) (fs : List Frac) : Type 0 where
  pub positive : pos 0 <ℤ d
  pub natural : NoneNegative ns
  pub are : AreOver d ns fs

-- The least denominator that serves is the least common multiple.
abbrev pub LeastDenominators : Type 0
LeastDenominators =
    (d : ℤ) (ns : List ℤ) (fs : List Frac) → AreNatural d ns fs → (l : ℕ) →
    IsLcmOf (denominators fs) l → AreLeastWholes d ns l (all_over l fs)

-- Where the code refuses an entry, the entry leaves.
pub record RefusedEntriesLeave : Type 0 where
  pub denominator : (d : ℤ) (ns : List ℤ) (fs : List Frac) → AreNatural d ns fs →
      (entry : ℕ) → DenominatorLeaves (denominators fs) entry → ScaleLeaves d ns entry
  pub number : (d : ℤ) (ns : List ℤ) (fs : List Frac) → AreNatural d ns fs → (l : ℕ) → IsLcmOf (denominators fs) l → l < most →
      (entry : ℕ) → NumberLeaves l fs entry → ScaleLeaves d ns entry
