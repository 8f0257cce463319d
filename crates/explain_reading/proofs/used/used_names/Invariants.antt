use Rattle.std.proofs.Common.{◌≡◌, ◌++◌, drop}
use Rattle.explain_reading.specs.Reading.{used_from, used_names}
use Rattle.explain_reading.proofs.used.used_names.Given as goal

abbrev pub invariant-loop-name : goal.invariant-loop-name
invariant-loop-name l = record {
  place : l.place ≡ l.name-index;
  names : l.used.items ++ used_from l.place l.terms (drop l.name-index l.names) ≡ used_names l.terms l.names;
}
