use Rattle.std.proofs.Common.{◌≡◌, ◌++◌, string_bytes}
use Rattle.refusals.specs.Refusals.{names_in}
use Rattle.explain_calls.specs.Told.{notes}
use Rattle.explain_calls.proofs.analysed.push_notes.Given as goal

abbrev pub invariant-loop-refused : goal.invariant-loop-refused
invariant-loop-refused l = string_bytes l.report ≡ string_bytes l.fn.report ++ notes (names_in l.program) l.yielded
