use Rattle.std.proofs.Common.{◌≡◌, ◌++◌, drop, map}
use Rattle.base_poly.specs.Poly.{magnitudes}
use Rattle.json.specs.Tree.{json_tokens, items_tokens}
use Rattle.json.specs.Value.{items_of}
use Rattle.explain_json.specs.Terms.{term_json, terms_json}
use Rattle.explain_json.proofs.terms.write_poly.Given as goal

abbrev pub invariant-loop-tuple : goal.invariant-loop-tuple
invariant-loop-tuple l = record {
  before : l.writer.before ≡ l.fn.writer.before;
  written : l.writer.tokens ++ items_tokens (items_of (map (term_json l.den) (magnitudes (drop l.tuple-index l.tuple-items))))
      ≡ l.fn.writer.tokens ++ json_tokens (terms_json l.den (magnitudes l.tuple-items));
}
