-- What is declared at a tuple.
use Rattle.std.proofs.Common.{◌≡◌, Bool, true, false, cond, List, [], ◌∷◌, Option, Some, None, IfSome, option_map, Bor, All, sym, subst}
use Rattle.std.proofs.lemmas.List.Elements.{All-head, All-tail}
use Rattle.raml_syntax.specs.Tree.{Type'}
use Rattle.base_poly.specs.Plain.{Plain, alike}
use Rattle.explain_verdicts.specs.Exceeding.{declared_at}
use Rattle.explain_verdicts.specs.Written.{IsFraction}
use Rattle.explain_verdicts.specs.declared.fraction.Fraction.{Fraction}

declared_is : (As : List Type') (t : List Plain) (fs : List Fraction) → All (IsFraction As) fs → IfSome (declared_at t fs) (IsFraction As)
declared_is As t [] h = tt
declared_is As t (f ∷ fs) h = by (alike f.tuple t) (declared_is As t fs (All-tail (IsFraction As) f fs h))
  where
    by : (b : Bool) → IfSome (declared_at t fs) (IsFraction As) → IfSome (cond b (Some f) (declared_at t fs)) (IsFraction As)
    by true later = All-head (IsFraction As) f fs h
    by false later = later

lent_is : (P : Fraction → Type 0) (lent : Option (Bor Fraction)) → IfSome (option_map (λ (f : Bor Fraction). f.now) lent) P → IfSome lent (λ f. P f.now)
lent_is P None h = tt
lent_is P (Some f) h = h

-- what is found of it is a fraction
pub found_is : (As : List Type') (t : List Plain) (fs : List Fraction) (lent : Option (Bor Fraction)) → option_map (λ (f : Bor Fraction). f.now) lent ≡ declared_at t fs → All (IsFraction As) fs →
    IfSome lent (λ f. IsFraction As f.now)
found_is As t fs lent is h = lent_is (IsFraction As) lent (subst (λ o. IfSome o (IsFraction As)) (sym is) (declared_is As t fs h))

pub weaker : (P Q : Fraction → Type 0) (lent : Option (Bor Fraction)) → ((f : Fraction) → P f → Q f) → IfSome lent (λ f. P f.now) → IfSome lent (λ f. Q f.now)
weaker P Q None f h = tt
weaker P Q (Some x) f h = f x.now h
