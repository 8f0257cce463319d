-- What plans at a place ask for, and hints of another number than is asked for.
use Rattle.std.proofs.Common.{◌≡◌, ◌↔◌, IsTrue, refl, ap, ℕ, zero, suc, ◌-◌, ◌∙◌, ◌<◌, ◌≤◌, false, true, List, [], ◌∷◌, length, slice_index_or, arith}
use Rattle.annot_types.specs.Certificate as c
use Rattle.annot_types.specs.Certificate.{Entries}
use Rattle.rules_spec.specs.Asked.{Ask, asked, all_asked}
use Rattle.rules_spec.specs.Shape.{EachWithin, FitAsks}
use Rattle.rules_walk.specs.Read.{plan_of, plans_of}
use Rattle.rules_walk.specs.Filled.{Uses, filled, all_filled}
use Rattle.std.specs.Global.{Global}
use Rattle.std.specs.declared.rc.Rc.{Rc}
use Rattle.rules_walk.specs.declared.plan.Plan.{Plan as Tree}

-- a plan that is shared
abbrev Code : Type 0
Code = Rc Tree Global

module _ (uses : Uses) where
  pub asked_at : (es : List Code) (d k : ℕ) (e : Code) → k < length es →
      slice_index_or (all_asked (all_filled uses d (plans_of es))) k [] ≡ asked (filled uses (d - k) (plan_of (slice_index_or es k e).value))
  asked_at [] d k e h = absurd (omega (arith, h))
  asked_at (x ∷ es) d zero e h = ap (λ b. asked (filled uses b (plan_of x.value))) (omega arith)
  asked_at (x ∷ es) d (suc k) e h = asked_at es (d - 1) k e (omega (arith, h))
      ∙ ap (λ b. asked (filled uses b (plan_of (slice_index_or es k e).value))) (omega arith)

  pub asked_past : (es : List Code) (d k : ℕ) → length es ≤ k → slice_index_or (all_asked (all_filled uses d (plans_of es))) k [] ≡ []
  asked_past [] d k h = refl
  asked_past (x ∷ es) d zero h = absurd (omega (arith, h))
  asked_past (x ∷ es) d (suc k) h = asked_past es (d - 1) k (omega (arith, h))

each_length : (ns : List ℕ) (ess : List Entries) → EachWithin ns ess → length ns ≡ length ess
each_length [] [] h = refl
each_length [] (es ∷ ess) h = absurd h
each_length (n ∷ ns) [] h = absurd h
each_length (n ∷ ns) (es ∷ ess) h = ap suc (each_length ns ess h.1)

fit_length : (asks : List Ask) (hs : List c.Hint) → FitAsks asks hs → length asks ≡ length hs
fit_length [] [] h = refl
fit_length [] (x ∷ hs) h = absurd h
fit_length (ask ∷ asks) [] h = absurd h
fit_length (ask ∷ asks) (x ∷ hs) h = ap suc (fit_length asks hs h.1)

no : {P : Type 0} → (P → ⊥) → IsTrue false ↔ P
no f = (λ h. let n : false ≡ true = h in absurd (cc), λ p. absurd (f p))

pub fewer_within : (ns : List ℕ) (ess : List Entries) → length ns < length ess → IsTrue false ↔ EachWithin ns ess
fewer_within ns ess h = no (λ p. omega (arith, h, each_length ns ess p))

pub more_within : (ns : List ℕ) (ess : List Entries) → length ess < length ns → IsTrue false ↔ EachWithin ns ess
more_within ns ess h = no (λ p. omega (arith, h, each_length ns ess p))

pub fewer_fit : (asks : List Ask) (hs : List c.Hint) → length asks < length hs → IsTrue false ↔ FitAsks asks hs
fewer_fit asks hs h = no (λ p. omega (arith, h, fit_length asks hs p))

pub more_fit : (asks : List Ask) (hs : List c.Hint) → length hs < length asks → IsTrue false ↔ FitAsks asks hs
more_fit asks hs h = no (λ p. omega (arith, h, fit_length asks hs p))
