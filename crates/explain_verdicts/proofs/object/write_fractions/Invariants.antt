use Rattle.std.proofs.Common.{◌≡◌, ◌++◌, drop, map}
use Rattle.json.specs.Tree.{json_tokens, items_tokens}
use Rattle.json.specs.Value.{items_of}
use Rattle.explain_verdicts.specs.Json.{fraction_json, fractions_json}
use Rattle.explain_verdicts.proofs.object.write_fractions.Given as goal

abbrev pub invariant-loop-fraction : goal.invariant-loop-fraction
invariant-loop-fraction l = record {
  before : l.writer.before ≡ l.fn.writer.before;
  written : l.writer.tokens ++ items_tokens (items_of (map fraction_json (drop l.fraction-index l.fractions)))
      ≡ l.fn.writer.tokens ++ json_tokens (fractions_json l.fractions);
}
