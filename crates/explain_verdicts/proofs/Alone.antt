-- A term as a polynomial of its own.
use Rattle.std.proofs.Common.{◌≡◌, ◌≤◌, ◌<◌, ◌^◌, ◌<ℤ◌, ◌≤ℤ◌, ℤ, pos, List, [], ◌∷◌, All, sym, subst, map, arith}
use Rattle.std.specs.Global.{Vec}
use Rattle.std.specs.List.{IsDistinct}
use Rattle.std.proofs.lemmas.List.Elements.{All-nil, All-cons}
use Rattle.raml_syntax.specs.Tree.{Type'}
use Rattle.base_poly.specs.Plain.{Plain, degrees, alike}
use Rattle.base_poly.specs.Indices.{AreIndices}
use Rattle.base_poly.specs.Poly.{AreTerms}
use Rattle.explain_verdicts.specs.Written.{IsFound}

one : {A : Type 0} (P : A → Type 0) (x : A) → P x → All P (x ∷ [])
one P x h = All-cons P x [] h (All-nil P)

one_distinct : (t : List Plain) → IsDistinct alike (t ∷ [])
unfolding IsDistinct
one_distinct t = (tt, tt)

pub alone_found : (As : List Type') (t : List Plain) (n z : ℤ) (terms : Vec (List Plain × ℤ)) → pos 0 <ℤ z → pos 0 ≤ℤ n → degrees t ≤ 4 → AreIndices t As → terms.items ≡ (t, n) ∷ [] →
    IsFound As (record { den = z; terms = terms })
alone_found As t n z terms positive natural low indices are = record {
  polynomial = record {
    positive = positive;
    terms = subst AreTerms (sym are) (record {
      natural = one (λ t. pos 0 ≤ℤ t.1) (t, n) natural;
      low = one (λ t. degrees t.0 < 2 ^ 32) (t, n) (omega (arith, low));
      distinct = one_distinct t;
    });
  };
  indices = subst (All (λ t. AreIndices t.0 As)) (sym are) (one (λ t. AreIndices t.0 As) (t, n) indices);
  low = subst (All (λ t. degrees t.0 ≤ 4)) (sym are) (one (λ t. degrees t.0 ≤ 4) (t, n) low);
}
