-- Texts on which programs agree, one after another.
use Rattle.std.proofs.Common.{◌≡◌, ◌≤◌, ◌<◌, ◌-◌, inl, inr, Bool, true, false, ℕ, List, [], ◌∷◌, length, take, drop, Option, Result, Ok, Err, ap, subst, ◌∙◌, arith}
use Rattle.std.proofs.Math.Seq.{take-length}
use Rattle.std.specs.Prelude.{slice_index_or, MatchBool, IfOk, map}
use Rattle.raml_syntax.specs.Tree.{Text, Prog}
use Rattle.explain_runs.specs.declared.outcome.Limits.{Limits}
use Rattle.explain_runs.specs.declared.outcome.Measured.{Measured}
use Rattle.explain_runs.specs.Measure.{IsMeasure}
use Rattle.explain_runs.specs.Agree.{AreSameRuns, AgreeOn, DifferOn, AgreeOnAll, DifferOnSome}

-- the first before the rest of a slice
cut_first : {X : Type 0} (xs : List X) (x : X) → 1 ≤ length xs → x ≡ slice_index_or xs 0 x → x ∷ take (length xs - 1) (drop 1 xs) ≡ xs
cut_first [] x h e = absurd (omega (arith, h))
cut_first (y ∷ ys) x h e = (λ n. e n ∷ (ap (λ k. take k ys) less ∙ take-length ys) n)
  where
    less : length (y ∷ ys) - 1 ≡ length ys
    less = omega arith

module _ (P Q : Prog) (f : ℕ) (limits : Limits) where
  -- on one text, by the two runs
  pub decided : (data' : Text) (b : Bool) (one other : Option Measured) → IsMeasure P f data' limits one → IsMeasure Q f data' limits other → MatchBool b (AreSameRuns one other) (AreSameRuns one other → ⊥) →
      MatchBool b (AgreeOn P Q f limits data') (DifferOn P Q f limits data')
  decided data' true one other first second same = record { one = one; other = other; first = first; second = second; same = same }
  decided data' false one other first second differ = record { one = one; other = other; first = first; second = second; differ = differ }

  module _ {X : Type 0} (text : X → Text) where
    pub none_differ : (xs : List X) → length xs < 1 → AgreeOnAll P Q f limits (map text xs)
    none_differ [] h = tt
    none_differ (x ∷ xs) h = absurd (omega (arith, h))

    pub first_differs : (xs : List X) (x : X) → 1 ≤ length xs → x ≡ slice_index_or xs 0 x → DifferOn P Q f limits (text x) → DifferOnSome P Q f limits (map text xs)
    first_differs xs x some first differ = subst (λ ys. DifferOnSome P Q f limits (map text ys)) (cut_first xs x some first) (inl differ)

    pub rest_decides : {E : Type 0} (r : Result Bool E) (xs : List X) (x : X) → 1 ≤ length xs → x ≡ slice_index_or xs 0 x → AgreeOn P Q f limits (text x) →
        IfOk r (λ b. MatchBool b (AgreeOnAll P Q f limits (map text (take (length xs - 1) (drop 1 xs)))) (DifferOnSome P Q f limits (map text (take (length xs - 1) (drop 1 xs))))) →
        IfOk r (λ b. MatchBool b (AgreeOnAll P Q f limits (map text xs)) (DifferOnSome P Q f limits (map text xs)))
    rest_decides (Ok true) xs x some first agree rest = subst (λ ys. AgreeOnAll P Q f limits (map text ys)) (cut_first xs x some first) (agree, rest)
    rest_decides (Ok false) xs x some first agree rest = subst (λ ys. DifferOnSome P Q f limits (map text ys)) (cut_first xs x some first) (inr rest)
    rest_decides (Err e) xs x some first agree rest = tt
