use Rattle.std.proofs.Common.{◌≡◌, length}
use Rattle.explain_degrees.proofs.Found.{AreNone}
use Rattle.explain_degrees.proofs.least.nothing_found.Given as goal

abbrev pub invariant-loop : goal.invariant-loop
invariant-loop l = (length l.functions.items ≡ l.counter) × AreNone l.functions.items
