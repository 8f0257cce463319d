-- Blocks whose numbers are of 128 bits, also where they are raised.
use Rattle.std.proofs.Common.{◌≡◌, ℕ, zero, suc, ℤ, pos, ◌*ℤ◌, FitsSigned, Bool, true, false, List, [], ◌∷◌, ◌++◌, map, slice_get, Some, refl, sym, subst}
use Rattle.std.specs.List.{All}
use Rattle.std.specs.Int.{w128}
use Rattle.std.proofs.lemmas.List.Elements.{All-nil, All-cons, All-head, All-tail, All-push, All-map, All-weaker}
use Rattle.cost_free.specs.declared.task.Meter.{Meter}
use Rattle.cost_free.specs.Blocked.{is_for_meter}
use Rattle.annot_types.specs.Certificate as c
use Rattle.annot_types.specs.Certificate.{Entries, Sig, Body, Solved, Block}
use Rattle.annot_types.specs.Holds.{times, times_sig, times_hint, times_body, raised}
use Rattle.annot_types.proofs.Raised.{on, off}
use Rattle.annot_types.proofs.Lists.{some_is}
use Rattle.infer_spec.specs.Places.{EntriesFit, HintFits, SigFits, BodyFits, IsOfMeter}
use Rattle.infer_spec.proofs.Lines.{of_meter}
use Rattle.bound_infer.specs.Raised.{AllFit, EachFits}
use Rattle.bound_infer.proofs.Ones.{one_times}

all_stay : {X : Type 0} (P Q : X → Type 0) (f : X → X) → ((x : X) → P x → Q (f x)) → (xs : List X) → All P xs → All Q (map f xs)
all_stay P Q f h xs ps = All-map Q f xs (All-weaker P (λ x. Q (f x)) h xs ps)

entries_stay : (t : ℕ) (es : Entries) → EntriesFit t es → EntriesFit 1 (times t es)
entries_stay t es h = all_stay (λ (e : ℕ × ℤ). FitsSigned w128 (pos t *ℤ e.1)) (λ (e : ℕ × ℤ). FitsSigned w128 (pos 1 *ℤ e.1)) (λ (e : ℕ × ℤ). (e.0, pos t *ℤ e.1))
    (λ e fits. subst (FitsSigned w128) (sym (one_times (pos t *ℤ e.1))) fits) es h

sig_stays : (t : ℕ) (s : Sig) → SigFits t s → SigFits 1 (times_sig t s)
sig_stays t s h = (entries_stay t s.args h.0, entries_stay t s.result h.1)

hint_stays : (t : ℕ) (h : c.Hint) → HintFits t h → HintFits 1 (times_hint t h)
hint_stays t (c.Let rs) h = all_stay (EntriesFit t) (EntriesFit 1) (times t) (entries_stay t) rs h
hint_stays t (c.Share p) h = entries_stay t p h
hint_stays t (c.Call ms) h = entries_stay t ms h

body_stays : (t : ℕ) (b : Body) → BodyFits t b → BodyFits 1 (times_body t b)
body_stays t (Solved sigs hints) h = (
  all_stay (SigFits t) (SigFits 1) (times_sig t) (sig_stays t) sigs h.0,
  all_stay (All (HintFits t)) (All (HintFits 1)) (map (times_hint t)) (all_stay (HintFits t) (HintFits 1) (times_hint t) (hint_stays t)) hints h.1,
)
body_stays t (c.Refuted farkas) h = tt
body_stays t (c.Calls fun) h = tt

-- what a solved block of the meter is, is nothing for others
raised_fits : (m : Meter) (t : ℕ) (b : Block) → is_for_meter m b.task.kind ≡ true → (IsOfMeter m b → BodyFits t b.body) → BodyFits t b.body
raised_fits m t b e h = by b.body (λ solved. h (record { kind = of_meter m b.task.kind e; solved = solved }))
  where
    by : (body : Body) → (c.IsSolved body → BodyFits t body) → BodyFits t body
    by (Solved sigs hints) h = h tt
    by (c.Refuted farkas) h = tt
    by (c.Calls fun) h = tt

abbrev Fits : Block → Type 0
Fits b = BodyFits 1 b.body

pub none_fits : EachFits []
none_fits = All-nil Fits

pub one_more_fits : (bs : List Block) (b : Block) → EachFits bs → BodyFits 1 b.body → EachFits (bs ++ b ∷ [])
one_more_fits bs b h fits = All-push Fits bs b h fits

pub fits_at : (bs : List Block) (place : ℕ) (b : Block) → EachFits bs → slice_get bs place ≡ Some b → BodyFits 1 b.body
fits_at [] place b h e = absurd (cc)
fits_at (x ∷ bs) zero b h e = subst Fits (some_is x b e) (All-head Fits x bs h)
fits_at (x ∷ bs) (suc place) b h e = fits_at bs place b (All-tail Fits x bs h) e

pub each_raised : (m : Meter) (t : ℕ) (bs : List Block) → AllFit m t bs → EachFits bs → EachFits (map (raised m t) bs)
each_raised m t [] f h = none_fits
each_raised m t (b ∷ bs) f h = All-cons Fits (raised m t b) (map (raised m t) bs) (by (is_for_meter m b.task.kind) refl)
    (each_raised m t bs (λ place. f (suc place)) (All-tail Fits b bs h))
  where
    by : (is : Bool) → is_for_meter m b.task.kind ≡ is → Fits (raised m t b)
    by true e = subst Fits (sym (on m t b e)) (body_stays t b.body (raised_fits m t b e (f 0 b refl)))
    by false e = subst Fits (sym (off m t b e)) (All-head Fits b bs h)
