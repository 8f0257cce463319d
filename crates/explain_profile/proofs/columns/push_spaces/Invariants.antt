use Rattle.std.proofs.Common.{◌≡◌, ◌++◌, string_bytes}
use Rattle.explain_profile.specs.Rows.{spaces}
use Rattle.explain_profile.proofs.columns.push_spaces.Given as goal

abbrev pub invariant-loop : goal.invariant-loop
invariant-loop l = string_bytes l.text ≡ string_bytes l.fn.text ++ spaces l.counter
