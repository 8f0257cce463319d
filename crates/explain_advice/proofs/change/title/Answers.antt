use Rattle.std.proofs.Common.{rules, string_bytes}
use Rattle.std.proofs.lemmas.List.{map-id}
use Rattle.raml_syntax.specs.Read.{function_of}
use Rattle.explain_insight.proofs.Places.{at_place}
use Rattle.explain_advice.proofs.change.title.Goals as goal

pub brief_bounds-requires : goal.brief_bounds-requires
brief_bounds-requires c =
    let f = c.args.fun.0 in
    let funs = c.program-program.result.now.funs.items in
    let all = c.args.change.trial.now.found.functions.items in
    let fun = c.in-Some.function.now in
    let found = c.in-Some-get.found.now in
    let look = rw c.deref.ensures.value at c.in-Some.ensures.lookup in
    let there = rw c.deref-2.ensures.value at c.in-Some-get.ensures.lookup in
    let at_found = at_place (λ found. found) all f found there.1 there.3.0 in
    c.requires f (function_of fun) found (rw c.program-program.ensures.program at (at_place function_of funs f fun look.1 look.3.0))
    (rw (map-id all) at at_found)

pub returns : goal.returns
returns c =
    let f = c.args.fun.0 in
    let funs = c.program-program.result.now.funs.items in
    let all = c.args.change.trial.now.found.functions.items in
    let fun = c.in-Some.function.now in
    let found = c.in-Some-get.found.now in
    let look = rw c.deref.ensures.value at c.in-Some.ensures.lookup in
    let there = rw c.deref-2.ensures.value at c.in-Some-get.ensures.lookup in
    let at_found = at_place (λ found. found) all f found there.1 there.3.0 in
    record {
      function = function_of fun;
      is_there = rw c.program-program.ensures.program at (at_place function_of funs f fun look.1 look.3.0);
      findings = found;
      are_found = rw (map-id all) at at_found;
      bounds = string_bytes c.in_ok-bounds.bounds;
      tells = c.in_ok-bounds.ensures;
      is = search rules;
    }
