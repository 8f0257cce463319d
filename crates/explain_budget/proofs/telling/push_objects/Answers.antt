use Rattle.std.proofs.Common.{◌≡◌, ℕ, List, ◌++◌, ◌∷◌, [], ◌∙◌, ◌+◌, drop, ap, subst, arith, refl, string_bytes}
use Rattle.std.proofs.lemmas.List.{append_assoc, drop_all}
use Rattle.json.specs.Print.{print}
use Rattle.json.specs.Token.{Token}
use Rattle.json.specs.Tree.{json_tokens}
use Rattle.raml_syntax.specs.Read.{function_of, program_of}
use Rattle.bound_file.specs.Read.{line_of}
use Rattle.explain_verdicts.specs.Json.{verdict_json}
use Rattle.explain_verdicts.specs.Read.{found_of}
use Rattle.explain_budget.specs.Telling.{IsObject}
use Rattle.explain_budget.proofs.Lined.{one_written, all_written, as_many, from_place, from_there}
use Rattle.explain_budget.proofs.telling.push_objects.Goals as goal

pub loop-place-preserved : goal.loop-place-preserved
loop-place-preserved c =
    let P = program_of c.args.program.now in
    let D = c.args.declared.now in
    let all = c.args.judged.now in
    let i = c.loop-place.place in
    let line = line_of c.line_at.result.0.now in
    let one = c.index-judged-place.result in
    let g = function_of c.line_at.result.1.now in
    let before = c.loop-place.invariant in
    let at : ℕ → List Token = λ d. json_tokens (verdict_json P g d line one.verdict (found_of one)) in
    let tokens = at D.degree in
    let text = print tokens ++ 10 ∷ [] in
    let degreed = subst (λ d. c.write_verdict.new.writer.tokens ≡ c.new-writer.result.tokens ++ at d) c.degree-degree.ensures c.in_ok-write_verdict.ensures.written in
    let written : c.write_verdict.new.writer.tokens ≡ tokens = degreed ∙ ap (λ before. before ++ tokens) c.new-writer.ensures.tokens in
    let told : IsObject P D.degree line one text = record { fun = g; there = c.line_at.ensures.fun; is = refl } in (
      before.0 ++ text,
      one_written P D.degree D.lines (drop i D.lines) (drop (i + 1) D.lines) all (drop i all) (drop (i + 1) all) line one before.0 text
          (from_there D.lines i line c.line_at.ensures.line) (from_place all i one c.index-judged-place.is c.loop-place-test.true) told before.1,
      c.in_ok-push_line.ensures ∙ ap (λ tokens. string_bytes c.loop-place.text ++ (print tokens ++ 10 ∷ [])) written ∙ ap (λ old. old ++ text) before.2
          ∙ append_assoc (string_bytes c.args.text.now) before.0 text,
    )

pub returns : goal.returns
returns c =
    let P = program_of c.args.program.now in
    let D = c.args.declared.now in
    let all = c.args.judged.now in
    let i = c.loop-place.place in
    let many = as_many P D.degree D.lines all c.requires.lines in
    let before = c.loop-place.invariant in (
      before.0,
      all_written P D.degree D.lines (drop i D.lines) all (drop i all) before.0 (drop_all i D.lines (omega (arith, many, c.loop-place-test.false))) (drop_all i all (omega (arith, c.loop-place-test.false))) before.1,
      before.2,
    )
