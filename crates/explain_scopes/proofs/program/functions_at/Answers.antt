use Rattle.std.proofs.Common.{inl, inr, map, drop, arith}
use Rattle.raml_syntax.specs.Read.{function_of}
use Rattle.explain_scopes.specs.Scopes.{named_at}
use Rattle.explain_scopes.specs.Read.{bounds_of, places_of}
use Rattle.explain_scopes.proofs.Ends.{no_more, functions_done}
use Rattle.explain_scopes.proofs.program.functions_at.Goals.{then-loop-place-test+else-place-funs, else-loop-place-test}
use Rattle.explain_scopes.proofs.program.functions_at.Goals as goal

pub returns : goal.returns
returns c =
    let places = c.args.places.now in
    let funs = c.args.funs.now in
    let place = c.loop-place.place in
    let found = bounds_of c.loop-place.functions.items in
    let whole = named_at (places_of places) (map function_of funs) in
    elim c.loop-place-test.branch [
      | then-loop-place-test+else-place-funs w ↦
          functions_done found whole (drop place places) (drop place funs) (inr (no_more funs place (omega (arith, w.if-place-funs)))) c.loop-place.invariant
      | else-loop-place-test w ↦
          functions_done found whole (drop place places) (drop place funs) (inl (no_more places place (omega (arith, w.loop-place-test)))) c.loop-place.invariant
    ]
