-- Rows that are added one by one.
use Rattle.std.proofs.Common.{◌≡◌, ◌≢◌, refl, ap, sym, ◌∙◌, subst, arith}
use Rattle.std.specs.Prelude.{ℕ, ◌+◌, ◌*◌, ◌<◌, ◌≤◌, nat_eq, Bool, true, false, ℤ, pos, ◌+ℤ◌, ◌<ℤ◌, ◌≤ℤ◌, unsigned_abs, List, [], ◌∷◌, ◌++◌}
use Rattle.std.proofs.lemmas.Bool.Decides.{nat_tests}
use Rattle.std.proofs.lemmas.Int.{ints}
use Rattle.std.proofs.lemmas.List.{append_assoc}
use Rattle.std.proofs.lemmas.List.FromFn.{map-range_with_len_more}
use Rattle.linear_rows.specs.Terms.{Terms, SparseRow, coefficient, IsSparse, AddsAt}
use Rattle.linear_rows.specs.Systems.{LinearSystem}
use Rattle.simplex_integers.specs.Wholes.{most}
use Rattle.bound_file.specs.Lines.{Coefficient, numerator_at, denominator_at}
use Rattle.bound_contract.specs.Places.{RightLeaves}
use Rattle.bound_file.specs.Read.{coefficients_of}
use Rattle.bound_contract.specs.Read.{AllPositive, numerator_in, denominator_in}
use Rattle.bound_contract.specs.System.{at_most, line_rows, with_rows}

abbrev pub one : ℕ → ℤ → Terms
one u z = (u, z) ∷ []

-- terms of which one unknown alone has a number are one term
one_alone : (ts : Terms) → IsSparse ts → (u : ℕ) (z : ℤ) → z ≢ pos 0 → coefficient u ts ≡ z → ((v : ℕ) → v ≢ u → coefficient v ts ≡ pos 0) → ts ≡ one u z
one_alone [] s u z n this others = absurd (n (sym this))
one_alone ((v, c) ∷ []) s u z n this others = by (nat_eq v u) refl where
  by : (b : Bool) → nat_eq v u ≡ b → one v c ≡ one u z
  by true q =
      let same : v ≡ u = grind (arith, nat_tests, q) in
      let number : c ≡ z = grind (arith, nat_tests, same, this) in
      λ i. one (same i) (number i)
  by false q = absurd (s.none_zero 0 (omega arith) (let none = others v (λ e. grind (arith, nat_tests, e, q)) in grind (arith, nat_tests, none)))
one_alone ((v, c) ∷ (w, e) ∷ rest) s u z n this others = by (nat_eq v u) refl where
  up : v < w
  up = s.ascending 0 1 (omega arith) (omega arith)

  by : (b : Bool) → nat_eq v u ≡ b → ◌≡◌ {A = Terms} ((v, c) ∷ (w, e) ∷ rest) (one u z)
  by true q =
      let same : v ≡ u = grind (arith, nat_tests, q) in
      absurd (s.none_zero 1 (omega arith) (let none = others w (λ h. omega (arith, h, same, up)) in grind (arith, nat_tests, none, up)))
  by false q = absurd (s.none_zero 0 (omega arith) (let none = others v (λ h. grind (arith, nat_tests, h, q)) in grind (arith, nat_tests, none)))

-- Rows for the first positions of a bound were added.
pub record Added (old now : LinearSystem) (bound : List Coefficient) (first scale position : ℕ) : Type 0 where
  pub is : now ≡ with_rows old (line_rows bound first position scale)
  pub fit : (k : ℕ) → k < position → numerator_at bound k * scale < most

append_none : {X : Type 0} (xs : List X) → xs ≡ xs ++ []
append_none [] = refl
append_none (x ∷ xs) = ap (λ l. x ∷ l) (append_none xs)

pub none_added : (s : LinearSystem) (bound : List Coefficient) (first scale : ℕ) → Added s s bound first scale 0
none_added s bound first scale = record {
  is = ap (λ (rows : List SparseRow). record { unknowns = s.unknowns; rows = rows; weights = s.weights }) (append_none s.rows);
  fit = λ k l. absurd (omega (arith, l));
}

pub one_added : (old now new : LinearSystem) (bound : List Coefficient) (first scale position : ℕ) (row : SparseRow) → Added old now bound first scale position →
    row ≡ at_most (first + position) (numerator_at bound position) (denominator_at bound position) scale → numerator_at bound position * scale < most →
    new.rows ≡ now.rows ++ row ∷ [] → new.unknowns ≡ now.unknowns → new.weights ≡ now.weights → Added old new bound first scale (position + 1)
one_added old now new bound first scale position row h is fits rows unknowns weights = record {
  is = λ i. record {
    unknowns = (unknowns ∙ ap (λ (s : LinearSystem). s.unknowns) h.is) i;
    rows = (rows ∙ ap (λ (s : LinearSystem). s.rows ++ row ∷ []) h.is ∙ append_assoc old.rows (line_rows bound first position scale) (row ∷ [])
        ∙ ap (λ (l : List SparseRow). old.rows ++ l) (ap (λ (r : SparseRow). line_rows bound first position scale ++ r ∷ []) is
        ∙ sym (map-range_with_len_more (λ k. at_most (first + k) (numerator_at bound k) (denominator_at bound k) scale) 0 position position (omega arith)))) i;
    weights = (weights ∙ ap (λ (s : LinearSystem). s.weights) h.is) i;
  };
  fit = λ k l. by k (nat_eq k position) refl l;
} where
  by : (k : ℕ) (b : Bool) → nat_eq k position ≡ b → k < position + 1 → numerator_at bound k * scale < most
  by k true q l = subst (λ k. numerator_at bound k * scale < most) (let same : position ≡ k = grind (arith, nat_tests, q) in same) fits
  by k false q l = h.fit k (grind (arith, nat_tests, q, l))

pub leaves_here : (old now : LinearSystem) (bound : List Coefficient) (first scale position count : ℕ) → Added old now bound first scale position → position < count →
    most ≤ numerator_at bound position * scale → RightLeaves bound count scale position
leaves_here old now bound first scale position count h inside leaves = record { inside = inside; leaves = leaves; before = h.fit }

pub row_is : (u : ℕ) (z : ℤ) (old new : SparseRow) → IsSparse new.terms → old.terms ≡ [] → AddsAt u z old.terms new.terms → z ≢ pos 0 → new.right ≡ old.right →
    new ≡ record { terms = one u z; right = old.right }
row_is u z old new s none adds n e =
    let first = subst (λ ts. AddsAt u z ts new.terms) none adds in
    let number : pos 0 +ℤ z ≡ z = omega (arith, ints) in
    λ i. record { terms = one_alone new.terms s u z n (first.this ∙ number) (λ v h. first.others v h) i; right = e i }

-- what the code reads is what is declared
pub numerator_is : (bound : List (ℕ × ℤ × ℤ)) → AllPositive bound → (k : ℕ) → numerator_in k bound ≡ pos (numerator_at (coefficients_of bound) k)
numerator_is [] h k = refl
numerator_is (c ∷ cs) h k = let rest = numerator_is cs h.2 k in let this : c.1 ≡ pos (unsigned_abs c.1) = grind (arith, ints, h.0) in grind (arith, nat_tests, rest, this)

pub denominator_is : (bound : List (ℕ × ℤ × ℤ)) → AllPositive bound → (k : ℕ) → denominator_in k bound ≡ pos (denominator_at (coefficients_of bound) k)
denominator_is [] h k = refl
denominator_is (c ∷ cs) h k = let rest = denominator_is cs h.2 k in let this : c.2 ≡ pos (unsigned_abs c.2) = grind (arith, ints, h.1) in grind (arith, nat_tests, rest, this)

pub denominator_positive : (bound : List (ℕ × ℤ × ℤ)) → AllPositive bound → (k : ℕ) → pos 0 <ℤ denominator_in k bound
denominator_positive [] h k = omega (arith, ints)
denominator_positive (c ∷ cs) h k = let rest = denominator_positive cs h.2 k in let this = h.1 in grind (arith, nat_tests, rest, this)

pub numerator_natural : (bound : List (ℕ × ℤ × ℤ)) → AllPositive bound → (k : ℕ) → pos 0 ≤ℤ numerator_in k bound
numerator_natural bound h k = let e = numerator_is bound h k in omega (arith, ints, e)
