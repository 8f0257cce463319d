use Rattle.std.proofs.Common.{inl}
use Rattle.std.proofs.lemmas.List.{map-id}
use Rattle.raml_syntax.specs.Read.{function_of}
use Rattle.explain_insight.proofs.Places.{at_place}
use Rattle.explain_insight.proofs.called.hover_at.Goals as goal

pub function_text-requires : goal.function_text-requires
function_text-requires c =
    let funs = c.args.analysed.now.program.now.funs.items in
    let all = c.args.analysed.now.findings.now in
    let fun = c.in-Some.fun.now in
    let found = c.in-Some-get.found.now in
    let look = rw c.deref.ensures.value at c.in-Some.ensures.lookup in
    let there = c.in-Some-get.ensures.lookup in
    let at_found = at_place (λ found. found) all c.args.place found there.1 there.3.0 in
    c.requires.told c.args.place (function_of fun) found (at_place function_of funs c.args.place fun look.1 look.3.0) (rw (map-id all) at at_found)

pub returns : goal.returns
returns c =
    let funs = c.args.analysed.now.program.now.funs.items in
    let all = c.args.analysed.now.findings.now in
    let fun = c.in-Some.fun.now in
    let found = c.in-Some-get.found.now in
    let look = rw c.deref.ensures.value at c.in-Some.ensures.lookup in
    let there = c.in-Some-get.ensures.lookup in
    let at_found = at_place (λ found. found) all c.args.place found there.1 there.3.0 in
    inl record {
      place = c.args.place;
      function = function_of fun;
      found = found;
      named = c.requires.named;
      of_program = at_place function_of funs c.args.place fun look.1 look.3.0;
      of_findings = rw (map-id all) at at_found;
      text = c.in_ok-function_text.ensures;
    }
