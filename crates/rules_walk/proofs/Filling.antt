-- A walk reads nothing of which signatures calls may take.
use Rattle.std.proofs.Common.{◌≡◌, ◌∙◌, refl, ℕ, ◌-◌, List, [], ◌∷◌, ◌++◌, length, Option, None, Some}
use Rattle.cost_free.specs.declared.task.Meter.TheVariants.{Ticks}
use Rattle.annot_types.specs.Rules.{Mode, With, Own, Past}
use Rattle.rules_spec.specs.Plan as p
use Rattle.rules_spec.specs.Numbers as n
use Rattle.rules_spec.specs.Walk.{charge, results_of, copies_of, multiples_of, later, only, behind, and_then, numbered, at, at_zero, nothing, moved, against, joined, begun, taken, free_sides, paid, once, used, refunded, sums, missing, call_pairs, each, walk, walks}
use Rattle.rules_walk.specs.Filled.{Uses, with_uses, filled, all_filled}

module _ {E : Type 0} (A : n.Numbers E) (G : n.Known E) (uses : Uses) where
  used_alike : (d : ℕ) (c : p.Called) (ms : List (ℕ × E)) (out : n.Sides E) → used A G (with_uses uses d c) ms out ≡ used A G c ms out
  used_alike d c [] out = refl
  used_alike d c (m ∷ ms) out = let s = G.free m.0 c.function in used_alike d c ms (taken A G c s.budget (free_sides A G s m.1) out)

  paid_alike : (d : ℕ) (c : p.Called) (s : Option n.Signature) → paid A G (with_uses uses d c) s ≡ paid A G c s
  paid_alike d c None = refl
  paid_alike d c (Some s) = refl

  once_alike : (d : ℕ) (c : p.Called) (mode : Mode) (own : Option ℕ) → once A G mode (with_uses uses d c) own ≡ once A G mode c own
  once_alike d c Past own = refl
  once_alike d c Own None = refl
  once_alike d c Own (Some k) = refl
  once_alike d c (With meter) (Some k) = refl
  once_alike d c (With meter) None = paid_alike d c (G.cost meter c.function)

  sums_alike : (d : ℕ) (c : p.Called) (mode : Mode) (ms : List (ℕ × E)) → sums A G mode (with_uses uses d c) ms ≡ sums A G mode c ms
  sums_alike d c mode ms = (λ j. refunded A G mode (used_alike d c ms (once A G mode (with_uses uses d c) c.own) j)) ∙ (λ j. refunded A G mode (used A G c ms (once_alike d c mode c.own j)))

  missing_alike : (d : ℕ) (c : p.Called) (mode : Mode) (own : Option ℕ) → missing A G mode (with_uses uses d c) own ≡ missing A G mode c own
  missing_alike d c Past own = refl
  missing_alike d c Own own = refl
  missing_alike d c (With meter) (Some k) = refl
  missing_alike d c (With meter) None = refl

  mutual
    pub alike : (d : ℕ) (e : p.Plan) → walk A G (filled uses d e) ≡ walk A G e
    alike d (p.Ends k cells steps) = refl
    alike d (p.Pays k ticks e) = λ j mode path q r hs. begun A G k mode path q (λ i q. let m = charge G.scale mode Ticks ticks in
        behind (numbered path i ((at A q 0, A.number m) ∷ [])) (alike d e j mode (path ++ 0 ∷ []) (at_zero (A.less m) q) r hs))
    alike d (p.Moves k step e) = λ j mode path q r hs. begun A G k mode path q (λ i q. alike d e j mode (path ++ 0 ∷ []) (moved A step q) r hs)
    alike d (p.Forks k step a other b) = λ j mode path q r hs. begun A G k mode path q (λ i q. and_then
        (alike d a j mode (path ++ 0 ∷ []) (moved A step q) r hs)
        (λ left. alike d b j mode (path ++ 1 ∷ []) (moved A other q) r left))
    alike d (p.Shares k size step e) = λ j mode path q r hs. begun A G k mode path q (λ i q.
        behind (numbered path i (against A q (moved A step (copies_of hs)))) (alike d e j mode (path ++ 0 ∷ []) (copies_of hs) r (later hs)))
    alike d (p.Calls k c) = λ j mode path q r hs. begun A G k mode path q (λ i q.
        only (numbered path i (missing_alike d c mode c.own j ++ call_pairs A G q r (sums_alike d c mode (multiples_of hs) j))) (later hs))
    alike d (p.Lets k parts firsts size e) = λ j mode path q r hs. begun A G k mode path q (λ i q. and_then
        (each A G (all_alike d firsts j) 0 parts (results_of hs) q mode path (later hs))
        (λ left. alike d e j mode (path ++ length parts ∷ []) (joined A (nothing A size) 0 parts (results_of hs)) r left))

    all_alike : (d : ℕ) (es : p.Plans) → walks A G (all_filled uses d es) ≡ walks A G es
    all_alike d p.NoPlans = refl
    all_alike d (p.More e es) = λ j. alike d e j ∷ all_alike (d - 1) es j
