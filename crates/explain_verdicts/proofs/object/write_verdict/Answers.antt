use Rattle.std.proofs.Common.{◌∙◌, ◌++◌, ◌∷◌, [], All, ◌<◌, sym, subst, ap}
use Rattle.std.proofs.lemmas.Result.{on_ok_weaker}
use Rattle.raml_syntax.specs.Types.{types_of}
use Rattle.raml_syntax.specs.Read.{program_of, function_of}
use Rattle.bound_file.specs.Read.{line_of}
use Rattle.json.specs.Token.{begin_object, end_object}
use Rattle.explain_verdicts.specs.Fractions.{fractions_of}
use Rattle.explain_verdicts.specs.Read.{found_of}
use Rattle.explain_verdicts.specs.Tokens.{head_tokens, bounds_tokens, calls_tokens}
use Rattle.explain_verdicts.specs.declared.fraction.Fraction.{Fraction}
use Rattle.explain_verdicts.proofs.Appended.{five}
use Rattle.explain_verdicts.proofs.Reading.{denominators}
use Rattle.explain_verdicts.proofs.Tokens.{object_tokens}
use Rattle.explain_verdicts.proofs.object.write_verdict.Goals as goal

pub write_bounds-requires-clause-denominators : goal.write_bounds-requires-clause-denominators
write_bounds-requires-clause-denominators c =
    subst (All (λ (f : Fraction). 0 < f.denominator)) (sym c.deref.ensures.value)
    (denominators (types_of (function_of c.args.fun.now)) c.in_ok-fractions.fractions.items c.in_ok-fractions.ensures.are)

pub returns-clause-written : goal.returns-clause-written
returns-clause-written c =
    let P = program_of c.args.program.now in
    let g = function_of c.args.fun.now in
    let line = line_of c.args.line.now in
    let d = c.args.degree in
    let verdict = c.args.judged.now.verdict in
    let found = found_of c.args.judged.now in
    let fs = fractions_of (types_of g) d line.bound in
    let start = c.args.writer.now.tokens in
    let head = rw c.text.ensures at c.in_ok-write_head.ensures.written in
    let bounds = c.in_ok-write_bounds.ensures.written ∙ ap (λ fs. c.write_head.new.writer.tokens ++ bounds_tokens fs found) (c.deref.ensures.value ∙ c.in_ok-fractions.ensures.is) in
    on_ok_weaker c.end_object.result
    (λ last. five start c.begin_object.new.self.tokens c.write_head.new.writer.tokens c.write_bounds.new.writer.tokens c.write_calls.new.writer.tokens c.end_object.new.self.tokens
    (begin_object ∷ []) (head_tokens g.name line.meter d verdict) (bounds_tokens fs found) (calls_tokens P verdict) (end_object ∷ [])
    c.in_ok-begin_object.ensures.ok head bounds c.in_ok-write_calls.ensures.written last ∙ ap (λ ts. start ++ ts) (object_tokens P g d line verdict found))
    c.end_object.ensures.ok
