-- What is told of parameters, of their types and names however they are had.
use Rattle.std.proofs.Common.{◌≡◌, ◌++◌, ◌∙◌, ℕ, List, Option, ap, subst, codes}
use Rattle.std.proofs.lemmas.List.{append_assoc}
use Rattle.raml_syntax.specs.Tree.{Text, Type', Prog}
use Rattle.explain_verdicts.specs.Line.{TellsVerdict}
use Rattle.explain_verdicts.specs.Reads.{Bound}
use Rattle.explain_verdicts.specs.declared.fraction.Fraction.{Fraction}
use Rattle.explain_verdicts.specs.declared.judged.Verdict.{Verdict}

pub same_tells : (P : Prog) (As Bs : List Type') (params names : List Text) (d : ℕ) (fs gs : List Fraction) (verdict : Verdict) (found : Option Bound) (text : Text) → As ≡ Bs → params ≡ names → fs ≡ gs →
    TellsVerdict P As params d fs verdict found text → TellsVerdict P Bs names d gs verdict found text
same_tells P As Bs params names d fs gs verdict found text types same fractions h =
    subst (λ As. TellsVerdict P As names d gs verdict found text) types
    (subst (λ params. TellsVerdict P As params d gs verdict found text) same
    (subst (λ fs. TellsVerdict P As params d fs verdict found text) fractions h))

pub behind_names : (name meter head text behind : Text) → head ≡ name ++ (codes " " ++ meter) → text ≡ head ++ behind → text ≡ name ++ (codes " " ++ (meter ++ behind))
behind_names name meter head text behind first then = then ∙ ap (λ head. head ++ behind) first ∙ append_assoc name (codes " " ++ meter) behind
