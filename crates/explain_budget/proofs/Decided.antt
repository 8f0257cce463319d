-- Lines one after the other, and what is decided of them.
use Rattle.std.proofs.Common.{◌≡◌, ◌<◌, ◌≤◌, ◌++◌, ℕ, suc, length, List, [], ◌∷◌, take, sym, subst}
use Rattle.std.proofs.lemmas.List.{take_all}
use Rattle.raml_syntax.specs.Tree.{Prog}
use Rattle.share_normal.specs.Program.{source_in}
use Rattle.annot_types.specs.Program.{Program}
use Rattle.annot_types.specs.Certificate.{Certificate}
use Rattle.rules_plan.specs.Read.{program_in}
use Rattle.cert_check.specs.Checked.{Checking}
use Rattle.bound_file.specs.Lines.{Line}
use Rattle.contract_report.proofs.Telling.{take_next, there_is}
use Rattle.explain_verdicts.specs.declared.judged.Judged.{Judged}
use Rattle.explain_budget.specs.Judging.{IsJudged, AreJudged}
use Rattle.explain_budget.specs.Steps.{JudgedBelow, JudgedAt}

module _ (P : Prog) (N : Program) (c : Certificate) where
  with_line : (lines : List Line) (all : List Judged) (line : Line) (judged : Judged) → AreJudged P N c lines all → IsJudged P N c line judged → AreJudged P N c (lines ++ line ∷ []) (all ++ judged ∷ [])
  with_line [] [] line judged are is = (is, tt)
  with_line [] (x ∷ all) line judged are is = absurd are
  with_line (l ∷ lines) [] line judged are is = absurd are
  with_line (l ∷ lines) (x ∷ all) line judged are is = (are.0, with_line lines all line judged are.1 is)

module _ (K : Checking) (lines : List Line) where
  pub judged_next : (n : ℕ) (all now : List Judged) (judged : Judged) → n < length lines → now ≡ all ++ judged ∷ [] → JudgedBelow K lines n all → JudgedAt K lines n judged → JudgedBelow K lines (suc n) now
  judged_next n all now judged low pushed below is =
      let at = there_is lines n low in
      subst (JudgedBelow K lines (suc n)) (sym pushed)
      (subst (λ ls. AreJudged (source_in K.program) (program_in K.program) K.certificate ls (all ++ judged ∷ [])) (sym (take_next lines n at.0 at.1))
      (with_line (source_in K.program) (program_in K.program) K.certificate (take n lines) all at.0 judged below (is at.0 at.1)))

  pub all_judged : (n : ℕ) (all : List Judged) → length lines ≤ n → JudgedBelow K lines n all → AreJudged (source_in K.program) (program_in K.program) K.certificate lines all
  all_judged n all past below = subst (λ ls. AreJudged (source_in K.program) (program_in K.program) K.certificate ls all) (take_all n lines past) below
