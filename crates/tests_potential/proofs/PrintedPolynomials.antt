-- The texts of small indices and polynomials.
use Rattle.std.proofs.Common.{zero, suc, [], ◌∷◌, refl, arith}
use Rattle.std.specs.Fmt.{digits}
use Rattle.std.specs.List.Sorted.{IsSortedByKey}
use Rattle.std.proofs.lemmas.List.Sorted.{IsPermutation-append_comm, IsPermutation-refl}
use Rattle.base_poly.specs.Plain.{End}
use Rattle.base_poly.specs.Indices.{tuple_order}
use Rattle.base_poly.specs.Poly.{Term}
use Rattle.tests_potential.specs.Printed.{two, PrintedPolynomials}

abbrev constant : Term
constant = (End ∷ [], 4)

abbrev square : Term
square = (two ∷ [], 1)

in_order : IsSortedByKey (λ (t : Term). t.0) tuple_order (constant ∷ square ∷ [])
in_order zero d low high = refl
in_order (suc k) d low high = absurd (omega (arith, high))

none_in_order : IsSortedByKey (λ (t : Term). t.0) tuple_order []
none_in_order k d low high = absurd (omega (arith, high))

pub polynomials_are_printed : PrintedPolynomials
unfolding digits
polynomials_are_printed = record {
  pair = refl;
  nested = refl;
  no_entry = refl;
  quotient = refl;
  whole = refl;
  constant = refl;
  components = refl;
  sum = refl;
  zero = refl;
  ordered = record { ordered = constant ∷ square ∷ []; same = IsPermutation-append_comm (square ∷ []) (constant ∷ []); sorted = in_order; is = refl };
  all_zero = record { ordered = []; same = IsPermutation-refl []; sorted = none_in_order; is = refl };
}
