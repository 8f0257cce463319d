-- The systems are as they were worked out, and append's cells lie under their bound.
use Rattle.std.proofs.Common.{refl, subst, arith}
use Rattle.std.specs.Prelude.{zero, suc, pos, [], ◌∷◌}
use Rattle.annot_types.specs.Certificate.{annotation}
use Rattle.annot_types.specs.Example.{program, append, one_left, length_left, no_ticks, cells}
use Rattle.annot_types.specs.Holds.{Holds}
use Rattle.annot_types.proofs.Appended.{append_held}
use Rattle.bound_contract.specs.Under.{LiesUnder}
use Rattle.bound_contract.specs.Example.{Examples}

-- the block of the certificate that is held
holds : Holds (program append) 1 (one_left ∷ length_left ∷ no_ticks ∷ []) 1 (cells ((2, pos 1) ∷ [])) 1
holds =
    let at = append_held.blocks 3 (cells ((2, pos 1) ∷ [])) refl in
    subst (Holds (program append) 1 (one_left ∷ length_left ∷ no_ticks ∷ []) 1 (cells ((2, pos 1) ∷ []))) at.holds.one at.holds.holds

under : LiesUnder (record { position = 2; numerator = 1; denominator = 1 } ∷ []) 3 1 (annotation ((2, pos 1) ∷ []))
under zero low = omega arith
under (suc zero) low = omega arith
under (suc (suc zero)) low = omega arith
under (suc (suc (suc k))) low = absurd (omega (arith, low))

pub examples_hold : Examples
examples_hold = record {
  kept = record { holds = holds; under = record { fun = append; there = refl; sig = record { args = (2, pos 1) ∷ []; result = [] }; signed = refl; under = under } };
  numbers = refl;
  rows = refl;
  thirds = refl;
  refuting = refl;
  positive = refl;
}
