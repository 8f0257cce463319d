-- The bounds of a certificate are written as powers, or the first that leaves is refused.
use Rattle.std.proofs.Common.{◌≡◌, refl}
use Rattle.raml_syntax.specs.Tree.{Prog}
use Rattle.annot_types.specs.Program.{Program}
use Rattle.annot_types.specs.Certificate.{Certificate}
use Rattle.analysis_report.specs.Powers.{ArePowersFitting, ArePowerLines}
use Rattle.analysis_report.proofs.Places.{fitting_leaves_none, one_leaves_first}
use Rattle.refusals.specs.Ending.{Ending, Overflows, InPowers}
use Rattle.raml_promise.specs.Outside.{Sound, Complete}
use Rattle.raml_promise.specs.Steps.{Answer, Prints, names_of}
use Rattle.raml_promise.specs.Analysis.{PowersRefuse}
use Rattle.raml_promise.specs.Promise.{PrintsPowers}
use Rattle.raml_promise.proofs.Alike.{alike_same, Same, steps_same, prints_same}

module _ (P : Prog) (N : Program) (c : Certificate) where
  refusals_same : (e f : Ending) → PowersRefuse P N c e → PowersRefuse P N c f → e ≡ f
  refusals_same (Overflows (InPowers f m)) (Overflows (InPowers g k)) h l = let same = one_leaves_first P N c f g m k h l in λ i. Overflows (InPowers (same.0 i) (same.1 i))
  refusals_same (Overflows (InPowers f m)) e h l = absurd l
  refusals_same e f h l = absurd h

  refused_or_fit : (e : Ending) → PowersRefuse P N c e → ArePowersFitting P N c → ⊥
  refused_or_fit (Overflows (InPowers f m)) h fit = fitting_leaves_none P N c f m h fit
  refused_or_fit e h fit = absurd h

  one : (x y : Unit {0}) → x ≡ y
  one x y = refl

  pub powers_same : (a b : Answer) → PrintsPowers Complete P N c a → PrintsPowers Sound P N c b → Same a b
  powers_same =
      steps_same (names_of P N) (names_of P N) (PowersRefuse P N c) (PowersRefuse P N c) (λ (done : Unit {0}). ArePowersFitting P N c) (λ (done : Unit {0}). ArePowersFitting P N c)
      (λ done. Prints Complete (ArePowerLines P N c)) (λ done. Prints Sound (ArePowerLines P N c))
      (record {
        refusals = λ e f r s. alike_same e f (refusals_same e f r s);
        not_left = λ e done r fit. refused_or_fit e r fit;
        not_right = λ done e fit r. refused_or_fit e r fit;
        one = λ x y h k. one x y;
      })
      (λ done h k. prints_same (ArePowerLines P N c) (ArePowerLines P N c))
