-- Where nothing that is raised leaves, the raised scale fits.
use Rattle.std.proofs.Common.{◌≡◌, refl, sym, subst, arith, inl, inr}
use Rattle.std.specs.Prelude.{ℕ, zero, suc, ◌*◌, ◌<◌, ◌≤◌, ◌⊎◌, unsigned_abs, List, [], ◌∷◌, slice_get, Some}
use Rattle.std.proofs.lemmas.Option.{same_Some, none-some}
use Rattle.cost_free.specs.declared.task.Meter.{Meter}
use Rattle.cost_free.specs.Task as k
use Rattle.annot_types.specs.Certificate.{Block}
use Rattle.annot_types.specs.Held.{before, scale_of, scale_for}
use Rattle.rules_spec.specs.Faults.{too_great}
use Rattle.simplex_integers.specs.Wholes.{most}
use Rattle.infer_spec.specs.Places.{IsOfMeter}
use Rattle.other_blocks.specs.Raised.{raised_for}
use Rattle.other_blocks.specs.Leaving.{NoneSolved}
use Rattle.other_blocks.specs.Laws.{RisesFit}
use Rattle.other_blocks.proofs.Multiplied.{of_meter_or}
use Rattle.other_blocks.proofs.Raised.{scale_raised}

-- the first block of the meter that is solved
pub record IsFirstSolved (meter : Meter) (bs : List Block) : Type 0 where
  pub place : ℕ
  pub block : Block
  pub there : slice_get bs place ≡ Some block
  pub is : IsOfMeter meter block
  pub none_earlier : (i : ℕ) (other : Block) → i < place → slice_get bs i ≡ Some other → IsOfMeter meter other → ⊥

pub first_solved : (meter : Meter) (bs : List Block) → IsFirstSolved meter bs ⊎ NoneSolved meter bs
first_solved meter [] = inr (λ i block there h. none-some block there)
first_solved meter (b ∷ bs) = by (of_meter_or meter b) (first_solved meter bs) where
  by : (IsOfMeter meter b ⊎ (IsOfMeter meter b → ⊥)) → (IsFirstSolved meter bs ⊎ NoneSolved meter bs) → IsFirstSolved meter (b ∷ bs) ⊎ NoneSolved meter (b ∷ bs)
  by (inl h) rest = inl (record { place = 0; block = b; there = refl; is = h; none_earlier = λ i other low there of. omega (arith, low) })
  by (inr n) (inl f) = inl (record { place = suc f.place; block = f.block; there = f.there; is = f.is; none_earlier = earlier }) where
    earlier : (i : ℕ) (other : Block) → i < suc f.place → slice_get (b ∷ bs) i ≡ Some other → IsOfMeter meter other → ⊥
    earlier zero other low there of = n (subst (IsOfMeter meter) (sym (same_Some b other there)) of)
    earlier (suc i) other low there of = f.none_earlier i other (omega (arith, low)) there of
  by (inr n) (inr none) = inr all where
    all : NoneSolved meter (b ∷ bs)
    all zero other there of = n (subst (IsOfMeter meter) (sym (same_Some b other there)) of)
    all (suc i) other there of = none i other there of

least_or : (m n : ℕ) → (m ≤ n) ⊎ (n < m)
least_or m n = grind arith

pub rises_fit : RisesFit
rises_fit P c t block meter is place rises alone =
    subst (λ kind. scale_for (raised_for t c kind) kind < too_great) (sym is)
    (let same = scale_raised t c meter in let turn : scale_for c (k.With meter) * t ≡ t * unsigned_abs (scale_of c meter) = grind arith in omega (arith, low, same, turn))
  where
    by : ((most ≤ t * unsigned_abs (scale_of c meter)) ⊎ (t * unsigned_abs (scale_of c meter) < most)) → (IsFirstSolved meter (before c place) ⊎ NoneSolved meter (before c place)) →
        t * unsigned_abs (scale_of c meter) < most
    by (inr low) first = low
    by (inl high) (inl f) = absurd (rises f.place (record {
      block = f.block;
      there = f.there;
      of_meter = f.is;
      leaves = λ h. (let low = h.scale in omega (arith, low, high));
      before = λ i other l there of. absurd (f.none_earlier i other l there of);
    }))
    by (inl high) (inr none) = alone none

    low : t * unsigned_abs (scale_of c meter) < most
    low = by (least_or most (t * unsigned_abs (scale_of c meter))) (first_solved meter (before c place))
