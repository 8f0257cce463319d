-- Truths.
use Rattle.std.proofs.Common.{◌≡◌, ℕ, Bool, true, false, ◌||◌, nat_eq, refl}
use Rattle.std.proofs.lemmas.Bool.{eq-eqb}

pub same : (x : ℕ) → nat_eq x x ≡ true
same x = eq-eqb x x refl

pub clash : (b : Bool) → b ≡ true → b ≡ false → ⊥
clash true h k = absurd (cc)
clash false h k = absurd (cc)

pub or_none : (b : Bool) → b ≡ (b || false)
or_none true = refl
or_none false = refl

pub or_or : (a b c : Bool) → ((a || b) || c) ≡ (a || (b || c))
or_or true b c = refl
or_or false b c = refl

-- a truth, or not
