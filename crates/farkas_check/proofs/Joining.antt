-- Totals of lists that are put together.
use Rattle.std.proofs.Common.{◌≡◌, sym, ap, ◌∙◌, subst, FitsSigned, List, [], ◌∷◌, ◌++◌, ℤ, pos, neg_ℤ, ◌+ℤ◌, ◌-ℤ◌, ◌*ℤ◌, arith, Option, Some, None}
use Rattle.std.proofs.lemmas.Int.{ints}
use Rattle.std.specs.Int.{w128}
use Rattle.raml_num.proofs.Differences.{diffs, diff-pos, is_diff, diff_same}
use Rattle.farkas_check.specs.declared.totals.Totals.{Totals}
use Rattle.farkas_check.specs.Totals.{gain, loss, sum_of, gains, losses}
use Rattle.farkas_check.specs.Sides.{IsTotals, MovedBy}
use Rattle.farkas_check.proofs.Splitting.{gains_low, losses_high}

sum_of-append : (f : ℤ → ℤ) (xs ys : List ℤ) → sum_of f (xs ++ ys) ≡ sum_of f xs +ℤ sum_of f ys
sum_of-append f [] ys = omega (arith, ints)
sum_of-append f (x ∷ xs) ys = let h : sum_of f (xs ++ ys) ≡ sum_of f xs +ℤ sum_of f ys = sum_of-append f xs ys in omega (arith, ints)

-- more terms go on from the totals of the first ones
pub moved_on : (zs ws : List ℤ) (s : Totals) (o : Option Totals) → IsTotals zs (Some s) → MovedBy s ws o → IsTotals (zs ++ ws) o
moved_on zs ws s None is m = λ fit.
    let g : gains (zs ++ ws) ≡ s.positive +ℤ gains ws = sum_of-append gain zs ws ∙ ap (λ (v : ℤ). v +ℤ gains ws) (sym is.0) in
    let l : losses (zs ++ ws) ≡ s.negative +ℤ losses ws = sum_of-append loss zs ws ∙ ap (λ (v : ℤ). v +ℤ losses ws) (sym is.1) in
    m (subst (FitsSigned w128) g fit.positive) (subst (FitsSigned w128) l fit.negative)
moved_on zs ws s (Some t) is m =
    (m.0 ∙ ap (λ (v : ℤ). v +ℤ gains ws) is.0 ∙ sym (sum_of-append gain zs ws), m.1 ∙ ap (λ (v : ℤ). v +ℤ losses ws) is.1 ∙ sym (sum_of-append loss zs ws))

-- where the totals of the first terms leave, those of all do
pub left_before : (zs ws : List ℤ) → IsTotals zs None → IsTotals (zs ++ ws) None
left_before zs ws none fit =
    let f : FitsSigned w128 (gains (zs ++ ws)) = fit.positive in
    let h : FitsSigned w128 (losses (zs ++ ws)) = fit.negative in
    let g = sum_of-append gain zs ws in
    let l = sum_of-append loss zs ws in
    none (record { positive = omega (arith, ints, gains_low zs, gains_low ws); negative = omega (arith, ints, losses_high zs, losses_high ws) })

-- other terms with the same totals
pub same_totals : (zs ws : List ℤ) (o : Option Totals) → gains zs ≡ gains ws → losses zs ≡ losses ws → IsTotals zs o → IsTotals ws o
same_totals zs ws None g l none = λ fit. none (record { positive = subst (FitsSigned w128) (sym g) fit.positive; negative = subst (FitsSigned w128) (sym l) fit.negative })
same_totals zs ws (Some t) g l is = (is.0 ∙ g, is.1 ∙ l)

pub negated : (t r : ℤ) → (pos 0 -ℤ t) *ℤ r ≡ neg_ℤ (t *ℤ r)
negated t r = rw (is_diff t, is_diff r) (simp (diffs, diff-pos) (diff_same _ _ _ _ (omega arith)))

-- less a product, and then some terms more
pub first_leaves : (t r : ℤ) (ws : List ℤ) (z : Totals) → IsTotals [] (Some z) → MovedBy z (((pos 0 -ℤ t) *ℤ r) ∷ []) None → IsTotals (neg_ℤ (t *ℤ r) ∷ ws) None
first_leaves t r ws z is m = rw (← negated t r) (left_before (((pos 0 -ℤ t) *ℤ r) ∷ []) ws (moved_on [] (((pos 0 -ℤ t) *ℤ r) ∷ []) z None is m))

pub first_goes : (t r : ℤ) (ws : List ℤ) (z s : Totals) (o : Option Totals) → IsTotals [] (Some z) → MovedBy z (((pos 0 -ℤ t) *ℤ r) ∷ []) (Some s) → MovedBy s ws o → IsTotals (neg_ℤ (t *ℤ r) ∷ ws) o
first_goes t r ws z s o is m n = rw (← negated t r) (moved_on (((pos 0 -ℤ t) *ℤ r) ∷ []) ws s o (moved_on [] (((pos 0 -ℤ t) *ℤ r) ∷ []) z (Some s) is m) n)
