use Rattle.std.proofs.Common.{◌∙◌, arith}
use Rattle.std.proofs.lemmas.Map.Text.{hash_map_updates_str}
use Rattle.raml_syntax.proofs.FromLast.{place_added}
use Rattle.raml_syntax.proofs.function_names.FunctionNames.new.Goals as goal

pub loop-place-preserved : goal.loop-place-preserved
loop-place-preserved c = (
  omega (arith, c.loop-place.invariant.0),
  λ f. hash_map_updates_str c.text.result.now c.loop-place.places c.insert.new.self _ c.in_ok-insert.ensures.updates f
      ∙ place_added f c.text.result.now c.args.program.now.funs.items c.loop-place.place c.index.result.now _ c.loop-place-test.true c.loop-place.invariant.0 c.index.ensures c.text.ensures (c.loop-place.invariant.1 f),
)
