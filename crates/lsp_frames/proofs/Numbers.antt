-- Numbers that are cut at a greatest one.
use Rattle.std.proofs.Common.{◌≡◌, ap, sym, ◌∙◌, ℕ, ◌+◌, ◌*◌, ◌-◌, ◌<◌, ◌≤◌, ◌⊎◌, inl, inr, min, List, [], ◌∷◌, length, drop, get_or, arith}
use Rattle.std.proofs.lemmas.List.{drop_more}
use Rattle.std.proofs.Math.Nat.{min-eq_left, min-eq_right}
use Rattle.std.proofs.lemmas.Bool.{cases_lt}
use Rattle.lsp_frames.specs.Fields.{number_after}

grows : (n : ℕ) (digits : List ℕ) → n ≤ number_after n digits
grows n [] = omega arith
grows n (d ∷ ds) = let later = grows (n * 10 + (d - 48)) ds in omega (arith, later)

-- a number that is cut before the digits behind it are read
pub cut_early : (n most : ℕ) (digits : List ℕ) → min (number_after (min n most) digits) most ≡ min (number_after n digits) most
cut_early n most digits = go (cases_lt n most)
  where
    go : (n < most) ⊎ (most ≤ n) → min (number_after (min n most) digits) most ≡ min (number_after n digits) most
    go (inl small) = ap (λ m. min (number_after m digits) most) (min-eq_left (omega arith))
    go (inr large) =
        let few = grows (min n most) digits in
        let many = grows n digits in
        let cut : min n most ≡ most = min-eq_right large in
        let one : min (number_after (min n most) digits) most ≡ most = min-eq_right (omega (arith, few, cut)) in
        let two : min (number_after n digits) most ≡ most = min-eq_right (omega (arith, many, large)) in
        one ∙ sym two

pub number_step : (digits : List ℕ) (i number next most whole : ℕ) → i < length digits → next ≡ min (number * 10 + (get_or digits i 0 - 48)) most →
    min (number_after number (drop i digits)) most ≡ whole → min (number_after next (drop (i + 1) digits)) most ≡ whole
number_step digits i number next most whole within e so_far =
    ap (λ m. min (number_after m (drop (i + 1) digits)) most) e
    ∙ cut_early (number * 10 + (get_or digits i 0 - 48)) most (drop (i + 1) digits)
    ∙ ap (λ (l : List ℕ). min (number_after number l) most) (sym (drop_more digits i 0 within))
    ∙ so_far
