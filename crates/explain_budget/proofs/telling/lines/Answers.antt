use Rattle.std.proofs.Common.{◌∷◌, ◌+◌, ◌∙◌, [], drop, sym, ap, subst, arith, string_bytes}
use Rattle.std.proofs.lemmas.List.{drop_all, map-append}
use Rattle.raml_syntax.specs.Read.{function_of, program_of}
use Rattle.bound_file.specs.Read.{line_of}
use Rattle.explain_at.specs.Read.{texts}
use Rattle.explain_budget.specs.Telling.{IsTold}
use Rattle.explain_budget.proofs.Lined.{ToldSoFar, one_told, all_told, as_many, from_place, from_there}
use Rattle.explain_budget.proofs.telling.lines.Goals as goal

pub loop-place-preserved : goal.loop-place-preserved
loop-place-preserved c =
    let P = program_of c.args.program.now in
    let D = c.args.declared.now in
    let all = c.args.judged.now in
    let i = c.loop-place.place in
    let line = line_of c.line_at.result.0.now in
    let told : IsTold P D.degree line c.index-judged-place.result (string_bytes c.in_ok-verdict_line.field-0) = record { fun = function_of c.line_at.result.1.now; there = c.line_at.ensures.fun; is = rw c.degree-degree.ensures at c.in_ok-verdict_line.ensures } in
    subst (ToldSoFar P D.degree D.lines all (drop (i + 1) D.lines) (drop (i + 1) all)) (sym (ap texts c.in_ok-push.ensures.items ∙ map-append string_bytes c.loop-place.lines.items (c.in_ok-verdict_line.field-0 ∷ [])))
    (one_told P D.degree D.lines (drop i D.lines) (drop (i + 1) D.lines) all (drop i all) (drop (i + 1) all) line c.index-judged-place.result (texts c.loop-place.lines.items)
    (string_bytes c.in_ok-verdict_line.field-0) (from_there D.lines i line c.line_at.ensures.line) (from_place all i c.index-judged-place.result c.index-judged-place.is c.loop-place-test.true) told c.loop-place.invariant)

pub returns : goal.returns
returns c =
    let P = program_of c.args.program.now in
    let D = c.args.declared.now in
    let all = c.args.judged.now in
    let i = c.loop-place.place in
    let many = as_many P D.degree D.lines all c.requires.lines in
    all_told P D.degree D.lines (drop i D.lines) all (drop i all) (texts c.loop-place.lines.items) (drop_all i D.lines (omega (arith, many, c.loop-place-test.false))) (drop_all i all (omega (arith, c.loop-place-test.false))) c.loop-place.invariant
