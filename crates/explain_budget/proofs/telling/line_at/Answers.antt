use Rattle.std.proofs.Common.{◌≡◌, ◌<◌, length, Some, slice_get, sym, ap, subst, ◌∙◌, arith}
use Rattle.std.proofs.lemmas.List.{length-map}
use Rattle.std.proofs.lemmas.List.Elements.{All-get_or}
use Rattle.raml_syntax.specs.Read.{function_of, program_of}
use Rattle.bound_file.specs.Read.{line_of, IsSound}
use Rattle.explain_budget.proofs.Lined.{as_many, at_mapped, fun_there, placed_at, found_at}
use Rattle.explain_budget.proofs.telling.line_at.Goals as goal

pub bounds-lines-place : goal.bounds-lines-place
bounds-lines-place c =
    let D = c.args.declared.now in
    let long = sym (length-map c.lines.result.now line_of) ∙ ap length c.lines.ensures.lines in
    let many = as_many (program_of c.args.program.now) D.degree D.lines c.args.judged.now c.requires.can.lines in
    omega (arith, long, many, c.requires.below)

pub index-requires : goal.index-requires
index-requires c =
    let P = program_of c.args.program.now in
    let D = c.args.declared.now in
    let line = c.index-lines-place.result in
    let long = sym (length-map c.lines.result.now line_of) ∙ ap length c.lines.ensures.lines in
    let many = as_many P D.degree D.lines c.args.judged.now c.requires.can.lines in
    let at = at_mapped line_of c.lines.result.now c.args.place line c.index-lines-place.is (omega (arith, long, many, c.requires.below)) in
    let there = subst (λ ls. slice_get ls c.args.place ≡ Some (line_of line)) c.lines.ensures.lines at in
    let below = fun_there P D.degree D.lines c.args.judged.now c.args.place (line_of line) c.requires.can.lines there c.requires.below in
    omega (arith, below, length-map c.args.program.now.funs.items function_of)

pub returns : goal.returns
returns c =
    let P = program_of c.args.program.now in
    let D = c.args.declared.now in
    let line = c.index-lines-place.result in
    let long = sym (length-map c.lines.result.now line_of) ∙ ap length c.lines.ensures.lines in
    let many = as_many P D.degree D.lines c.args.judged.now c.requires.can.lines in
    let low : c.args.place < length c.lines.result.now = omega (arith, long, many, c.requires.below) in
    let at = at_mapped line_of c.lines.result.now c.args.place line c.index-lines-place.is low in
    let there = subst (λ ls. slice_get ls c.args.place ≡ Some (line_of line)) c.lines.ensures.lines at in
    let below = fun_there P D.degree D.lines c.args.judged.now c.args.place (line_of line) c.requires.can.lines there c.requires.below in
    let named = at_mapped function_of c.args.program.now.funs.items line.fun.0 c.index.result.now c.index.ensures (omega (arith, below, length-map c.args.program.now.funs.items function_of)) in
    record {
      line = there;
      sound = subst IsSound (sym c.index-lines-place.is) (All-get_or IsSound c.lines.result.now c.args.place line low c.lines.ensures.sound);
      fun = named;
      placed = placed_at P D.degree D.lines c.args.judged.now c.args.place (line_of line) c.requires.can.lines there c.requires.below (function_of c.index.result.now) named;
      found = found_at P D.degree D.lines c.args.judged.now c.args.place (line_of line) c.requires.can.lines there c.requires.below (function_of c.index.result.now) named;
    }
