use Rattle.std.proofs.Common.{◌≡◌, ◌++◌, drop, codes, string_bytes}
use Rattle.explain_algebra.specs.Algebra.{equations, legend_text, texts}
use Rattle.explain_algebra.specs.Steps.{marked}
use Rattle.explain_algebra.proofs.legend.push_legend.Given as goal

abbrev pub invariant-loop-param : goal.invariant-loop-param
invariant-loop-param l = record {
  place : l.place ≡ l.param-index;
  text : string_bytes l.text ++ marked l.is_first (codes ", ") (equations l.names l.place (texts (drop l.param-index l.params))) ≡ string_bytes l.fn.text ++ legend_text l.names (texts l.params);
}
