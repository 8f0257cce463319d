-- A row less a fraction of its own times a lead.
use Rattle.std.proofs.Common.{◌≡◌, ℕ, pos, Result, Ok, Err, OnOk, inl, inr}
use Rattle.frac128.specs.declared.Frac.{Frac}
use Rattle.simplex_rows.specs.Entries.{Entries, at, IsLess, LessLeaves}
use Rattle.simplex_rows.specs.Sweeping.{IsSwept, SweepLeaves}
use Rattle.simplex_rows.specs.declared.fault.RowFault.{RowFault}
use Rattle.simplex_rows.proofs.Differing.{less_none}

-- the factor by its parts
pub swept_by : (s : ℕ) (lead old new : Entries) (f : Frac) → f.num ≡ (at s old).num → f.den ≡ (at s old).den → ((c : ℕ) → IsLess (at c old) f (at c lead) (at c new)) → IsSwept s lead old new
swept_by s lead old new f e g h = record { each = λ c. factor_same (at c old) f (at c lead) (at c new) (at s old) e g (h c) }
  where
    factor_same : (x f q r k : Frac) → f.num ≡ k.num → f.den ≡ k.den → IsLess x f q r → IsLess x k q r
    factor_same x f q r k e g l = record { product = l.product; is_product = rw (← e, ← g) l.is_product; fits = l.fits; is_difference = l.is_difference }

pub swept_where_made : (s : ℕ) (lead old new : Entries) (f : Frac) (r : Result (Unit {0}) RowFault) → f.num ≡ (at s old).num → f.den ≡ (at s old).den → OnOk r ((c : ℕ) → IsLess (at c old) f (at c lead) (at c new)) → OnOk r (IsSwept s lead old new)
swept_where_made s lead old new f (Ok u) e g h = swept_by s lead old new f e g h
swept_where_made s lead old new f (Err x) e g h = tt

pub left_by : (s c : ℕ) (lead old : Entries) (f : Frac) → f.num ≡ (at s old).num → f.den ≡ (at s old).den → LessLeaves (at c old) f (at c lead) → SweepLeaves s c lead old
left_by s c lead old f e g l = record { leaves = factor_left (at c old) f (at c lead) (at s old) e g l }
  where
    factor_left : (x f q k : Frac) → f.num ≡ k.num → f.den ≡ k.den → LessLeaves x f q → LessLeaves x k q
    factor_left x f q k e g (inl n) = inl (λ p i. n p (rw (e, g) i))
    factor_left x f q k e g (inr (p, i, n)) = inr (p, rw (← e, ← g) i, n)

-- a row without a number at the column stays
pub stays : (s : ℕ) (lead old : Entries) → (at s old).num ≡ pos 0 → IsSwept s lead old old
stays s lead old e = record { each = λ c. less_none (at c old) (at s old) (at c lead) e }
