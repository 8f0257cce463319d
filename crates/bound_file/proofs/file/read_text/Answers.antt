use Rattle.std.proofs.Common.{rules, arith, sym, subst, [], Ok, Err}
use Rattle.raml_syntax.specs.Read.{program_of}
use Rattle.bound_file.specs.Read.{lines_of}
use Rattle.bound_file.specs.Answers.{lines_in}
use Rattle.bound_file.specs.Lined.{Reads, read_lines}
use Rattle.bound_file.proofs.Cuts.{first_shortens}
use Rattle.bound_file.proofs.Answered.{read_on, read_fault, not_empty}
use Rattle.bound_file.proofs.file.read_text.Goals as goal

pub add_line-requires-clause-short : goal.add_line-requires-clause-short
add_line-requires-clause-short c =
    let some = not_empty c.loop-rest.rest.now c.loop-rest-test.ensures in
    let shorter = first_shortens c.loop-rest.rest.now c.first_line.result.0.now c.first_line.result.1.now some c.first_line.ensures.cut in
    omega (arith, shorter.0, c.loop-rest.invariant.few, c.requires.short)

pub loop-rest-smaller : goal.loop-rest-smaller
loop-rest-smaller c =
    let some = not_empty c.loop-rest.rest.now c.loop-rest-test.ensures in
    (first_shortens c.loop-rest.rest.now c.first_line.result.0.now c.first_line.result.1.now some c.first_line.ensures.cut).1

pub loop-rest-preserved : goal.loop-rest-preserved
loop-rest-preserved c =
    let some = not_empty c.loop-rest.rest.now c.loop-rest-test.ensures in
    let shorter = first_shortens c.loop-rest.rest.now c.first_line.result.0.now c.first_line.result.1.now some c.first_line.ensures.cut in
    record {
      read = read_on (program_of c.args.program.now) c.args.degree _ (lines_of c.loop-rest.lines.items) (lines_of c.add_line.new.lines.items) c.loop-rest.number c.loop-rest.rest.now c.first_line.result.0.now c.first_line.result.1.now some c.first_line.ensures.cut c.in-Ok.ensures.leaves c.loop-rest.invariant.read;
      signed = c.add_line.ensures.signed;
      text = search rules;
      few = omega (arith, shorter.1, c.loop-rest.invariant.few);
    }

pub returns-in-Err-clause-reads : goal.returns-in-Err-clause-reads
returns-in-Err-clause-reads c =
    let some = not_empty c.loop-rest.rest.now c.loop-rest-test.ensures in
    let all = read_lines (program_of c.args.program.now) c.args.degree (Ok []) 0 (lines_in c.args.text.now) in
    subst (λ x. Reads (Err x) all) (sym c.at_line.ensures)
    (read_fault (program_of c.args.program.now) c.args.degree all (lines_of c.loop-rest.lines.items) (lines_of c.add_line.new.lines.items) c.loop-rest.number c.loop-rest.rest.now c.first_line.result.0.now c.first_line.result.1.now c.in-Err.error some c.first_line.ensures.cut c.in-Err.ensures.leaves c.loop-rest.invariant.read)
