-- Numbers over a denominator, kept as whole part and rest.
use Rattle.std.specs.Prelude.{◌≡◌, ◌≤◌, ◌<◌, ℕ, ◌+◌, ◌*◌, ◌^◌, Option, IfSome, IfNone}
use Rattle.explain_sizes.specs.declared.share_type.Share.{Share}

-- the rest is less than the denominator
abbrev pub IsProper : ℕ → Option Share → Type 0
IsProper den share = IfSome share (λ s. s.rest < den)

-- The share is the number's whole part and rest, and none exactly where that whole part is more than 2^127.
pub record Holds (den n : ℕ) (share : Option Share) : Type 0 where
  pub some : IfSome share (λ s. (s.whole * den + s.rest ≡ n) × (s.whole ≤ 2 ^ 127))
  pub none : IfNone share ((2 ^ 127 + 1) * den ≤ n)
