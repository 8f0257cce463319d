-- Where the bound that was found exceeds what is declared.
use Rattle.std.specs.Prelude.{◌≡◌, ℕ, ◌*◌, nat_lt, Bool, cond, Option, Some, None, List, [], ◌∷◌, ◌++◌, filter, reverse, codes}
use Rattle.raml_syntax.specs.Tree.{Text, Type'}
use Rattle.base_poly.specs.Plain.{Plain, alike}
use Rattle.base_poly.specs.Poly.{Term}
use Rattle.explain_algebra.specs.Algebra.{joined}
use Rattle.explain_verdicts.specs.Reads.{Bound, Reads}
use Rattle.explain_verdicts.specs.declared.fraction.Fraction.{Fraction}

-- what is declared at a tuple
abbrev pub declared_at : List Plain → List Fraction → Option Fraction
declared_at t [] = None
declared_at t (f ∷ fs) = cond (alike f.tuple t) (Some f) (declared_at t fs)

-- the number over the denominator is greater; where nothing is declared, greater than 0
abbrev pub exceeds : ℕ → ℕ → Option Fraction → Bool
exceeds den n None = nat_lt 0 n
exceeds den n (Some f) = nat_lt (f.numerator * den) (n * f.denominator)

-- the terms of the bound that exceed what is declared, the last tuple first
abbrev pub exceeding : List Fraction → Bound → List Term
exceeding fs b = filter (λ t. exceeds b.den t.1 (declared_at t.0 fs)) (reverse b.terms)

-- a term of a bound, as one of its own
abbrev pub alone : ℕ → Term → Bound
alone den t = record { den = den; terms = t ∷ [] }

-- what is declared at a tuple, in algebra
abbrev pub ReadsAt : List Type' → List Text → Option Fraction → Text → Type 0
ReadsAt As params None text = text ≡ codes "0"
ReadsAt As params (Some f) text = (meaning : Text) × Reads As params (alone f.denominator (f.tuple, f.numerator)) text meaning

-- a bound with what is declared beside it: `24·n (declared 10·n)`
pub record TellsExcess (As : List Type') (params : List Text) (found : Bound) (declared : Option Fraction) (text : Text) : Type 0 where
  pub sum : Text
  pub meaning : Text
  pub beside : Text
  pub reads : Reads As params found sum meaning
  pub reads_declared : ReadsAt As params declared beside
  pub is : text ≡ sum ++ (codes " (declared " ++ (beside ++ codes ")"))

-- each of the terms with what is declared at its tuple
abbrev pub AreExcesses : List Type' → List Text → List Fraction → ℕ → List Term → List Text → Type 0
AreExcesses As params fs den [] [] = Unit {0}
AreExcesses As params fs den (t ∷ ts) (text ∷ texts) =
    TellsExcess As params (alone den t) (declared_at t.0 fs) text × AreExcesses As params fs den ts texts
AreExcesses As params fs den ts texts = ⊥

-- what is told behind a bound that is not kept: the terms that exceed what is declared
abbrev pub TellsExceeding : List Type' → List Text → List Fraction → Bound → Text → Type 0
TellsExceeding As params fs b text =
    (texts : List Text) × AreExcesses As params fs b.den (exceeding fs b) texts
    × (text ≡ codes "; exceeding: " ++ joined (codes ", ") texts)
