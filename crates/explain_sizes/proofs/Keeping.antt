-- At which numbers a bound is kept.
use Rattle.std.proofs.Common.{◌≡◌, ◌≤◌, ◌<◌, ◌+◌, ◌⊎◌, ℕ, Bool, true, false, nat_le, ⊎_elim, List, refl, sym, ◌∙◌, arith}
use Rattle.std.specs.Prelude.{◌↔◌}
use Rattle.std.proofs.Math.Nat.{le_trans}
use Rattle.std.proofs.lemmas.Bool.Decides.{nat_tests}
use Rattle.std.proofs.lemmas.Int.{ints}
use Rattle.base_poly.specs.Poly.{den_of, IsPoly}
use Rattle.base_poly.specs.declared.tuple.Poly.{Poly}
use Rattle.explain_sizes.specs.Open.{OpenSizes, all_filled, is_kept}
use Rattle.explain_sizes.proofs.Rising.{all_rise, rising}

is_low : (m b : ℕ) → nat_le m b ≡ true → m ≤ b
is_low m b h = grind (arith, nat_tests, h)

low_is : (m b : ℕ) → m ≤ b → nat_le m b ≡ true
low_is m b h = grind (arith, nat_tests, h)

not_both : (b : Bool) → b ≡ true → b ≡ false → ⊥
not_both b h k = different (sym h ∙ k)
  where
    different : true ≡ false → ⊥
    different e = cc

either : (n g : ℕ) → (n ≤ g) ⊎ (g + 1 ≤ n)
either n g = grind arith

module _ (p : Poly) (some : 0 < den_of p) (os : List OpenSizes) (most : ℕ) where
  pub kept_below : (m n : ℕ) → m ≤ n → is_kept p os most n ≡ true → is_kept p os most m ≡ true
  kept_below m n h k = low_is _ most (le_trans (rising.whole p (all_filled m os) (all_filled n os) some (all_rise m n h os)) (is_low _ most k))

  pub left_above : (m n : ℕ) → m ≤ n → is_kept p os most m ≡ false → is_kept p os most n ≡ false
  left_above m n h k = at (is_kept p os most n) (λ e. not_both _ (kept_below m n h e) k)
    where
      at : (b : Bool) → (b ≡ true → ⊥) → b ≡ false
      at true g = absurd (g refl)
      at false g = refl

  pub kept_up_to : (g : ℕ) → is_kept p os most g ≡ true → is_kept p os most (g + 1) ≡ false → (n : ℕ) → (is_kept p os most n ≡ true) ↔ (n ≤ g)
  kept_up_to g kept left n = (λ e. at e, λ h. kept_below n g h kept)
    where
      at : is_kept p os most n ≡ true → n ≤ g
      at e = ⊎_elim (λ h. h) (λ h. absurd (not_both _ e (left_above (g + 1) n h left))) (either n g)

pub some_den : (p : Poly) → IsPoly p → 0 < den_of p
some_den p h = grind (arith, ints, h.positive)
