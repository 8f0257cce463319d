-- Whole parts and sums of terms.
use Rattle.std.proofs.Common.{◌≡◌, ◌≤◌, ◌<◌, ℕ, ℤ, ◌+◌, ◌*◌, ◌/◌, ◌^◌, List, ◌∷◌, length, drop, get_or, Option, None, Some, sym, subst, ap, ◌∙◌, arith}
use Rattle.std.specs.Prelude.{unsigned_abs}
use Rattle.std.proofs.lemmas.Nat.{le-div, div-mul-add}
use Rattle.std.proofs.lemmas.List.{drop_more}
use Rattle.base_poly.specs.Plain.{Plain}
use Rattle.base_poly.specs.Poly.{magnitudes}
use Rattle.explain_sizes.specs.Sizes.{Sizes}
use Rattle.explain_sizes.specs.Counts.{tuple_counts, worth_at}
use Rattle.explain_sizes.specs.Shares.{IsProper, Holds}
use Rattle.explain_sizes.specs.declared.share_type.Share.{Share}

pub some_told : (den n : ℕ) (r : Option Share) (s : Share) → r ≡ Some s → IsProper den r → Holds den n r → (n / den ≤ 2 ^ 127) × (s.whole ≡ n / den)
some_told den n r s e p h =
    let proper = subst (IsProper den) e p in
    let holds = (subst (Holds den n) e h).some in
    let whole : s.whole ≡ n / den = sym (div-mul-add s.whole den s.rest proper) ∙ ap (λ m. m / den) holds.0 in
    (subst (λ w. w ≤ 2 ^ 127) whole holds.1, whole)

pub none_told : (den n : ℕ) (r : Option Share) → r ≡ None → 0 < den → Holds den n r → n / den ≤ 2 ^ 127 → ⊥
none_told den n r e some h small =
    let large = le-div (2 ^ 127 + 1) n den some (subst (Holds den n) e h).none in
    omega (arith, large, small)

pub term_counted : (ts : List (List Plain × ℤ)) (k : ℕ) (t : List Plain × ℤ) (ss : List Sizes) (m u c n : ℕ) → k < length ts → t ≡ get_or ts k t → u ≡ unsigned_abs t.1 → c ≡ tuple_counts t.0 ss →
    m + worth_at (magnitudes (drop k ts)) ss ≡ n → m + 1 * u * c + worth_at (magnitudes (drop (k + 1) ts)) ss ≡ n
term_counted ts k t ss m u c n below is hu hc h =
    regroup (worth_at (magnitudes (drop (k + 1) ts)) ss)
    ∙ ap (λ x. m + (x + worth_at (magnitudes (drop (k + 1) ts)) ss)) (λ i. hu i * hc i)
    ∙ ap (λ l. m + worth_at (magnitudes l) ss) (sym (drop_more ts k t below ∙ ap (λ x. x ∷ drop (k + 1) ts) (sym is))) ∙ h
  where
    regroup : (w : ℕ) → m + 1 * u * c + w ≡ m + (u * c + w)
    regroup w = grind arith
