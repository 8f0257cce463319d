-- What is shown of a line.
use Rattle.std.proofs.Common.{◌≡◌, ◌≤◌, ℕ, Bool, true, false, cond, Option, None, Some, Result, IfOk, length, refl, subst, arith}
use Rattle.raml_syntax.specs.Tree.{Text, Prog}
use Rattle.lsp_language.specs.declared.insight.Hover.{Hover}
use Rattle.lsp_language.specs.declared.span.Span.{Span}
use Rattle.explain_check.specs.Checks.{IsProgramOf, most_bytes}
use Rattle.explain_regions.specs.Counter.{IsLexed}
use Rattle.explain_counts.specs.Parts.{part_of}
use Rattle.explain_counts.specs.Lines.{NamedLine, first_begun}
use Rattle.explain_counts.specs.Hovers.{IsLineHover, IsShown, line_there, stands_on}

-- a line is found, or none
pub shown : (most : ℕ) (source : Text) (part : Span) (found : NamedLine) (there : Option NamedLine) (hover : Hover) → Some found ≡ there →
    IsLineHover most source part found hover → IsShown most source part there (Some hover)
shown most source part found there hover is told = subst (λ (there : Option NamedLine). IsShown most source part there (Some hover)) is told

pub not_shown : (most : ℕ) (source : Text) (part : Span) (there : Option NamedLine) → None ≡ there → IsShown most source part there None
not_shown most source part there is = subst (λ (there : Option NamedLine). IsShown most source part there None) is refl

-- the byte stands on the part, or beside it
pub stands : {E : Type 0} (most : ℕ) (source : Text) (place : ℕ) (P : Prog) (part : Span) (r : Result (Option Hover) E) → part ≡ part_of source place →
    true ≡ stands_on part place → IfOk r (IsShown most source part (first_begun source part P)) →
    IfOk r (IsShown most source (part_of source place) (line_there source place P))
stands most source place P part r is on shown =
    let same = subst (λ (part : Span). IfOk r (IsShown most source part (first_begun source part P))) is shown in
    let there : true ≡ stands_on (part_of source place) place = subst (λ (part : Span). true ≡ stands_on part place) is on in
    subst (λ (b : Bool). IfOk r (IsShown most source (part_of source place) (cond b (first_begun source (part_of source place) P) None))) there same

pub stands_beside : (most : ℕ) (source : Text) (place : ℕ) (P : Prog) (part : Span) → part ≡ part_of source place → false ≡ stands_on part place →
    IsShown most source (part_of source place) (line_there source place P) None
stands_beside most source place P part is off =
    let there : false ≡ stands_on (part_of source place) place = subst (λ (part : Span). false ≡ stands_on part place) is off in
    subst (λ (b : Bool). IsShown most source (part_of source place) (cond b (first_begun source (part_of source place) P) None) None) there refl

-- a source that spells a program has tokens
pub lexed : (source : Text) (P : Prog) → length source ≤ most_bytes → IsProgramOf source P → IsLexed source
lexed source P short program = record { short = omega (arith, short); tokens = program.spelled.tokens; has = program.spelled.has }
