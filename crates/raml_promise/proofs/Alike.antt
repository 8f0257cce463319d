-- Answers that end alike, step by step.
use Rattle.std.proofs.Common.{◌≡◌, refl, sym, subst}
use Rattle.refusal_text.specs.declared.task.Analysed.{Analysed}
use Rattle.refusal_text.specs.declared.task.Analysed.TheVariants as analysed
use Rattle.raml_syntax.specs.Tree.{Text}
use Rattle.refusals.specs.Ending.{Ending, Done, Overflows, OnTask, OfOther}
use Rattle.refusals.specs.Line.{Names}
use Rattle.raml_promise.specs.Steps.{Answer, Report, Refusal, ending_in, Step, refused, goes_on, RefusedOf, Prints}
use Rattle.raml_promise.specs.Outside.{Sound, Complete}
use Rattle.raml_promise.specs.Promise.{Alike}

pub alike_refl : (e : Ending) → Alike e e
alike_refl (Overflows (OnTask task place)) = (refl, refl)
alike_refl (OfOther e) = alike_refl e
alike_refl _ = refl

pub alike_same : (e f : Ending) → e ≡ f → Alike e f
alike_same e f same = subst (Alike e) same (alike_refl e)

-- two reports, or two refusals, that end alike
abbrev pub Same : Answer → Answer → Type 0
Same (Report e text) (Report f other) = Alike e f
Same (Refusal names e) (Refusal others f) = Alike e f
Same a b = ⊥

pub same_ends : (a b : Answer) → Same a b → Alike (ending_in a) (ending_in b)
same_ends (Report e text) (Report f other) h = h
same_ends (Refusal names e) (Refusal others f) h = h
same_ends (Report e text) (Refusal others f) h = absurd h
same_ends (Refusal names e) (Report f other) h = absurd h

pub same_refusals : (a b : Answer) (names others : Names) (e f : Ending) → a ≡ Refusal names e → b ≡ Refusal others f → Alike e f → Same a b
same_refusals a b names others e f is are h = subst (λ x. Same x b) (sym is) (subst (Same (Refusal names e)) (sym are) h)

pub same_reports : (a b : Answer) (text other : Text) (e f : Ending) → a ≡ Report e text → b ≡ Report f other → Alike e f → Same a b
same_reports a b text other e f is are h = subst (λ x. Same x b) (sym is) (subst (Same (Report e text)) (sym are) h)

-- Two steps whose refusals end alike, that come to one thing and exclude each other's refusals.
pub record Fit {X : Type 0} (R S : Ending → Type 0) (C D : X → Type 0) : Type 0 where
  pub refusals : (e f : Ending) → R e → S f → Alike e f
  pub not_left : (e : Ending) (x : X) → R e → D x → ⊥
  pub not_right : (x : X) (e : Ending) → C x → S e → ⊥
  pub one : (x y : X) → C x → D y → x ≡ y

pub steps_same : {X : Type 0} (names others : Names) (R S : Ending → Type 0) (C D : X → Type 0) (Q T : X → Answer → Type 0) → Fit R S C D →
    ((x : X) → C x → D x → (a b : Answer) → Q x a → T x b → Same a b) → (a b : Answer) → Step names R C Q a → Step others S D T b → Same a b
steps_same names others R S C D Q T fit rest a b (refused e r is) (refused f s are) = same_refusals a b names others e f is are (fit.refusals e f r s)
steps_same names others R S C D Q T fit rest a b (refused e r is) (goes_on y d t) = absurd (fit.not_left e y r d)
steps_same names others R S C D Q T fit rest a b (goes_on x c q) (refused f s are) = absurd (fit.not_right x f c s)
steps_same names others R S C D Q T fit rest a b (goes_on x c q) (goes_on y d t) =
    let same = fit.one x y c d in
    rest x c (subst D (sym same) d) a b q (subst (λ z. T z b) (sym same) t)

-- what is refused of one program or the other
pub either_refused : (whose : Analysed) (R S : Ending → Type 0) → ((e f : Ending) → R e → S f → Alike e f) → (e f : Ending) → RefusedOf whose R e → RefusedOf whose S f → Alike e f
either_refused analysed.Program R S same e f r s = same e f r s
either_refused analysed.Other R S same (OfOther e) (OfOther f) r s = same e f r s
either_refused analysed.Other R S same (OfOther e) f r s = absurd s
either_refused analysed.Other R S same e f r s = absurd r

pub neither_refused : (whose : Analysed) (R : Ending → Type 0) → ((e : Ending) → R e → ⊥) → (e : Ending) → RefusedOf whose R e → ⊥
neither_refused analysed.Program R none e r = none e r
neither_refused analysed.Other R none (OfOther e) r = none e r
neither_refused analysed.Other R none e r = absurd r

-- two reports that end with Done
pub prints_same : (Is Also : Text → Type 0) (a b : Answer) → Prints Complete Is a → Prints Sound Also b → Same a b
prints_same Is Also (Report Done t) (Report Done u) h k = refl
prints_same Is Also (Report Done t) b h k = absurd k
prints_same Is Also a b h k = absurd h
