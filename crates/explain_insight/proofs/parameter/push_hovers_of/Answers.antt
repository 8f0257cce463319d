use Rattle.std.proofs.Common.{rules, ◌<◌, All, length, sym, subst, inr}
use Rattle.std.proofs.lemmas.List.Elements.{All-push}
use Rattle.raml_syntax.specs.Read.{function_of, parameter_of}
use Rattle.explain_insight.specs.Read.{IsHoverIn}
use Rattle.explain_insight.proofs.Places.{at_place}
use Rattle.explain_insight.proofs.parameter.push_hovers_of.Goals as goal

pub loop-index-preserved : goal.loop-index-preserved
loop-index-preserved c =
    let Is = IsHoverIn c.args.analysed.now in
    let funs = c.args.analysed.now.program.now.funs.items in
    let fun = c.index-fun.result.now in
    let param = c.index.result.now in
    let hover = c.in_ok-parameter_hover.field-0 in
    let below : c.loop-index.index < length fun.params.items = search rules in
    let one : Is hover = inr record {
      place = c.args.place;
      function = function_of fun;
      index = c.loop-index.index;
      parameter = parameter_of param;
      of_program = at_place function_of funs c.args.place fun c.index-fun.ensures c.requires.place;
      of_function = at_place parameter_of fun.params.items c.loop-index.index param c.index.ensures below;
      is = c.in_ok-parameter_hover.ensures;
    } in
    subst (All Is) (sym c.in_ok-push.ensures.items) (All-push Is c.loop-index.hovers.items hover c.loop-index.invariant one)
