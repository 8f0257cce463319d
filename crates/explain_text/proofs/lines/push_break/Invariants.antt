use Rattle.std.proofs.Common.{◌≡◌, ◌++◌, ◌-◌, replicate, string_bytes}
use Rattle.explain_text.specs.Wrapped.{break_of}
use Rattle.explain_text.proofs.lines.push_break.Given as goal

abbrev pub invariant-loop : goal.invariant-loop
invariant-loop l = string_bytes l.text ++ replicate (l.indent - l.counter) 32 ≡ string_bytes l.fn.text ++ break_of l.indent
