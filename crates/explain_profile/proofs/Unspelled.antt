-- Texts that spell a program, or none.
use Rattle.std.proofs.Common.{◌≤◌, ℕ, Option, Some, None, IfSome, Result, Ok, Err, IfOk, inr}
use Rattle.raml_syntax.specs.Tree.{Text}
use Rattle.raml_syntax.specs.declared.program.Program.{Program}
use Rattle.explain_check.specs.Checks.{SourceGives, most_bytes}
use Rattle.explain_profile.specs.Read.{SpellsIt}

pub gives : (name text part : Text) (found : Option Program) → SourceGives name text found part → SpellsIt text found
gives name text part (Some program) is = is.0
gives name text part None is = inr (is.0, is.2)

pub kept_short : {A E : Type 0} (n : ℕ) (found : Result (Option A) E) → n ≤ most_bytes → IfOk found (λ program. IfSome program (λ _. n ≤ most_bytes))
kept_short n (Ok (Some program)) short = short
kept_short n (Ok None) short = tt
kept_short n (Err e) short = tt
