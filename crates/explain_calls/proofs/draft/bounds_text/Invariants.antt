use Rattle.std.proofs.Common.{◌≡◌, string_bytes}
use Rattle.share_normal.specs.Program.{source_in}
use Rattle.rules_plan.specs.Read.{program_in}
use Rattle.explain_calls.specs.Draft.{first_bounds_text}
use Rattle.explain_calls.proofs.draft.bounds_text.Given as goal

abbrev pub invariant-loop-place : goal.invariant-loop-place
invariant-loop-place l = string_bytes l.text ≡ first_bounds_text (source_in l.program) (program_in l.program) l.verified.certificate l.place
