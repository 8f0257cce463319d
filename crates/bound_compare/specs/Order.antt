-- The order of exponents is total, and exponents that it does not tell apart are equal.
use Rattle.std.specs.Prelude.{◌≡◌, ℕ, Bool, List, refl, sum}
use Rattle.std.proofs.Common.{sym, ◌∙◌, ap}
use Rattle.std.specs.declared.cmp.Ordering.{Ordering}
use Rattle.std.specs.declared.cmp.Ordering.TheVariants.{Less, Equal, Greater}
use Rattle.std.specs.Ordering.{ordering_then, is_eq, eq_by_cmp, nat_cmp}
use Rattle.std.specs.Cmp.{IsTotalOrder}
use Rattle.std.specs.Cmp.Lexicographic.{slice_cmp}
use Rattle.std.specs.Str.{bytes_eq}
use Rattle.std.proofs.lemmas.Cmp.{on_total, then_total, nat_cmp_total, nat_list_cmp_total, tied_itself}
use Rattle.std.proofs.lemmas.Map.Text.{is_eq-slice_cmp}
use Rattle.std.proofs.lemmas.Slice.Eq.{bytes_eq-Decides}
use Rattle.bound_compare.specs.Powers.{exponent_order}

pub exponents_total : IsTotalOrder exponent_order
exponents_total = then_total (on_total sum nat_cmp_total) nat_list_cmp_total

-- equal exponents are those that their order does not tell apart
pub tied_exponents : (es fs : List ℕ) → bytes_eq es fs ≡ eq_by_cmp exponent_order es fs
tied_exponents es fs = sym (is_eq-slice_cmp es fs) ∙ at (slice_cmp nat_cmp es fs) refl
  where
    with_sums : Ordering → Bool
    with_sums o = is_eq (ordering_then (nat_cmp (sum es) (sum fs)) o)

    not_less : (o : Ordering) → is_eq Less ≡ is_eq (ordering_then o Less)
    not_less Less = refl
    not_less Equal = refl
    not_less Greater = refl

    not_greater : (o : Ordering) → is_eq Greater ≡ is_eq (ordering_then o Greater)
    not_greater Less = refl
    not_greater Equal = refl
    not_greater Greater = refl

    at : (o : Ordering) → slice_cmp nat_cmp es fs ≡ o → is_eq o ≡ with_sums o
    at Less e = not_less (nat_cmp (sum es) (sum fs))
    at Greater e = not_greater (nat_cmp (sum es) (sum fs))
    at Equal e =
        let same = (bytes_eq-Decides es fs).0 (sym (is_eq-slice_cmp es fs) ∙ ap is_eq e) in
        sym (ap (λ o. is_eq (ordering_then o Equal)) (ap (λ gs. nat_cmp (sum es) (sum gs)) (sym same) ∙ tied_itself nat_cmp_total (sum es)))
