-- What is said of rows holds of rows of the same fractions.
use Rattle.std.proofs.Common.{refl, ℕ, inl, inr, Result, Ok, Err, OnOk}
use Rattle.frac128.specs.declared.Frac.{Frac}
use Rattle.simplex_rows.specs.Entries.{Entries, at, IsLess, LessLeaves}
use Rattle.simplex_rows.specs.Sweeping.{SameParts, SameFractions, IsSwept, SweepLeaves}

less_as : (x y f g q p s r : Frac) → SameParts x y → SameParts f g → SameParts q p → SameParts s r → IsLess y g p s → IsLess x f q r
less_as x y f g q p s r a b c d l = record {
  product = l.product;
  is_product = rw (b.0, b.1, c.0, c.1) l.is_product;
  fits = λ m k. rw (a.0, a.1) (l.fits m (rw a.1 at k));
  is_difference = rw (a.0, a.1, ← d.0, ← d.1) l.is_difference;
}

left_as : (x y f g q p : Frac) → SameParts x y → SameParts f g → SameParts q p → LessLeaves y g p → LessLeaves x f q
left_as x y f g q p a b c (inl n) = inl (λ z i. n z (rw (b.0, b.1, c.0, c.1) at i))
left_as x y f g q p a b c (inr (z, i, n)) = inr (z, rw (b.0, b.1, c.0, c.1) i, λ m k d. n m (rw a.1 at k) (rw (a.0, a.1) at d))

pub swept_as : (s : ℕ) (lead led old row made new : Entries) → SameFractions lead led → SameFractions old row → SameFractions made new → IsSwept s led row made → IsSwept s lead old new
swept_as s lead led old row made new l o n w = record { each = λ c. less_as (at c old) (at c row) (at s old) (at s row) (at c lead) (at c led) (at c made) (at c new) (o c) (o s) (l c) (n c) (w.each c) }

pub leaves_as : (s c : ℕ) (lead led old row : Entries) → SameFractions lead led → SameFractions old row → SweepLeaves s c led row → SweepLeaves s c lead old
leaves_as s c lead led old row l o w = record { leaves = left_as (at c old) (at c row) (at s old) (at s row) (at c lead) (at c led) (o c) (o s) (l c) w.leaves }

pub same_entries : (es : Entries) → SameFractions es es
same_entries es c = (refl, refl)

-- where it went well
pub on_ok : {A B E : Type 0} (r : Result (Unit {0}) E) → (A → B) → OnOk r A → OnOk r B
on_ok (Ok u) f a = f a
on_ok (Err e) f a = tt
