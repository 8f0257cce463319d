-- First faults as refusals.
use Rattle.std.proofs.Common.{◌≡◌, inl, inr, ℕ, Some}
use Rattle.raml_syntax.specs.Tree.{Text}
use Rattle.explain_faults.specs.declared.fault.SourceFault.{SourceFault}
use Rattle.explain_faults.specs.declared.fault.SourceFault.TheVariants as s
use Rattle.explain_faults.specs.Laws.{FirstIsRefused}

pub first_is_refused : FirstIsRefused
first_is_refused source (s.Spelling fault) at first is = inl (fault, first, is)
first_is_refused source (s.Typing fault) at first is = inr (first.program, fault, first.first, first.spelled, first.is, first.found, is)
