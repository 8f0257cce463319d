-- What is raised of a meter is of 128 bits in the tables, too.
use Rattle.std.proofs.Common.{rules, ◌≡◌, refl, sym, subst, arith}
use Rattle.std.specs.Prelude.{ℕ, suc, ◌*◌, ◌^◌, ◌<◌, ◌==◌, if◌then◌else◌, nat_eq, ℤ, pos, ◌*ℤ◌, unsigned_abs, Bool, true, false, cond, FitsSigned, List, [], ◌∷◌, slice_get, Option, None, Some}
use Rattle.std.specs.List.{All}
use Rattle.std.specs.Int.{w128}
use Rattle.std.proofs.lemmas.Int.{unsigned_abs-mul}
use Rattle.std.proofs.lemmas.List.Elements.{All-head, All-tail}
use Rattle.cost_free.specs.declared.task.Meter.{Meter}
use Rattle.cost_free.specs.Task as k
use Rattle.cost_free.specs.Blocked.{is_for_meter}
use Rattle.annot_types.specs.Program.{Program, members}
use Rattle.annot_types.specs.Certificate as c
use Rattle.annot_types.specs.Certificate.{Entries, number_at, annotation, Sig, Body, Solved, IsSolved, Block, sigs_of}
use Rattle.annot_types.specs.Signature.{sig_among, sig_in, or_else, cost_sig}
use Rattle.rules_walk.specs.Raised.{NothingLeaves, NonePasses}
use Rattle.infer_spec.specs.Places.{EntriesFit, SigFits, BodyFits, IsOfMeter}
use Rattle.infer_spec.proofs.Lines.{of_meter}

product_fits : (t : ℕ) (z : ℤ) → FitsSigned w128 (pos t *ℤ z) → unsigned_abs z * t < 2 ^ 128
product_fits t z h =
    let low = below (pos t *ℤ z) h in
    let is : unsigned_abs (pos t *ℤ z) ≡ t * unsigned_abs z = unsigned_abs-mul (pos t) z in
    let turned : unsigned_abs z * t ≡ t * unsigned_abs z = grind arith in
    omega (arith, low, is, turned)
  where
    below : (z : ℤ) → FitsSigned w128 z → unsigned_abs z < 2 ^ 128
    below z h = search rules

nothing : (t : ℕ) → 0 * t < 2 ^ 128
nothing t = grind arith

entries_stay : (t k : ℕ) (es : Entries) → EntriesFit t es → annotation es k * t < 2 ^ 128
entries_stay t k [] h = nothing t
entries_stay t k (e ∷ es) h = by (e.0 == k) (All-head (λ (x : ℕ × ℤ). FitsSigned w128 (pos t *ℤ x.1)) e es h) (entries_stay t k es (All-tail (λ (x : ℕ × ℤ). FitsSigned w128 (pos t *ℤ x.1)) e es h))
  where
    by : (b : Bool) → FitsSigned w128 (pos t *ℤ e.1) → annotation es k * t < 2 ^ 128 → unsigned_abs (if b then e.1 else number_at k es) * t < 2 ^ 128
    by true here rest = product_fits t e.1 here
    by false here rest = rest

sig_stays : (t : ℕ) (s : Sig) → SigFits t s → NothingLeaves t s
sig_stays t s h = record { args = λ k. entries_stay t k s.args h.0; result = λ k. entries_stay t k s.result h.1 }

some_is : {X : Type 0} (x y : X) → Some x ≡ Some y → x ≡ y
some_is x y e = cc

among_stays : (t : ℕ) (fs : List ℕ) (ss : List Sig) (f : ℕ) (s : Sig) → All (SigFits t) ss → sig_among fs ss f ≡ Some s → NothingLeaves t s
among_stays t [] ss f s h e = absurd (cc)
among_stays t (g ∷ fs) [] f s h e = absurd (cc)
among_stays t (g ∷ fs) (x ∷ ss) f s h e = by (nat_eq f g) (among_stays t fs ss f s (All-tail (SigFits t) x ss h)) e
  where
    by : (b : Bool) → (sig_among fs ss f ≡ Some s → NothingLeaves t s) → cond b (Some x) (sig_among fs ss f) ≡ Some s → NothingLeaves t s
    by true rest e = subst (NothingLeaves t) (some_is x s e) (sig_stays t x (All-head (SigFits t) x ss h))
    by false rest e = rest e

no_sigs : (fs : List ℕ) (f : ℕ) (s : Sig) → sig_among fs [] f ≡ Some s → ⊥
no_sigs [] f s e = cc
no_sigs (g ∷ fs) f s e = cc

pub none_passes : (P : Program) (meter : Meter) (t : ℕ) (bs : List Block) →
    ((place : ℕ) (block : Block) → slice_get bs place ≡ Some block → IsOfMeter meter block → BodyFits t block.body) → NonePasses P meter t bs
none_passes P meter t [] h f s e = absurd (cc)
none_passes P meter t (b ∷ bs) h f s e =
    by (is_for_meter meter b.task.kind) refl (none_passes P meter t bs (λ place. h (suc place)) f s) e
  where
    here : (body : Body) → is_for_meter meter b.task.kind ≡ true → b.body ≡ body → sig_among (members P b.task.group) (sigs_of body) f ≡ Some s → NothingLeaves t s
    here (Solved sigs hints) on is e =
        let fits = h 0 b refl (record { kind = of_meter meter b.task.kind on; solved = subst IsSolved (sym is) tt }) in
        among_stays t (members P b.task.group) sigs f s (subst (BodyFits t) is fits).0 e
    here (c.Refuted farkas) on is e = absurd (no_sigs (members P b.task.group) f s e)
    here (c.Calls fun) on is e = absurd (no_sigs (members P b.task.group) f s e)

    found : (o : Option Sig) → (o ≡ Some s → NothingLeaves t s) → (cost_sig P meter bs f ≡ Some s → NothingLeaves t s) → or_else o (cost_sig P meter bs f) ≡ Some s → NothingLeaves t s
    found None one rest e = rest e
    found (Some x) one rest e = one e

    by : (b' : Bool) → is_for_meter meter b.task.kind ≡ b' → (cost_sig P meter bs f ≡ Some s → NothingLeaves t s) →
        or_else (cond b' (sig_in P b f) None) (cost_sig P meter bs f) ≡ Some s → NothingLeaves t s
    by true on rest e = found (sig_in P b f) (here b.body on refl) rest e
    by false on rest e = rest e
