use Rattle.std.proofs.Common.{◌∙◌, sym, ap, subst, Err}
use Rattle.raml_syntax.specs.Read.{program_of}
use Rattle.bound_file.specs.Read.{lines_of}
use Rattle.bound_file.specs.Answers.{Spells, AreWithin}
use Rattle.bound_file.specs.Lined.{Reads}
use Rattle.bound_file.proofs.Told.{whole, one_answer}
use Rattle.bound_file.proofs.Answered.{spells, within, proper, refused, sound}
use Rattle.bound_file.proofs.file.read.Goals as goal

pub new-requires : goal.new-requires
new-requires c =
    let P = program_of c.args.program.now in
    let e = ap (whole P c.args.degree) (sym c.in-Ok.ensures.cases.0) ∙ c.in-Ok-read_text.ensures.reads in
    sound c.in-Ok-read_text.lines.items (proper P c.args.degree c.args.bytes.now c.in-Ok.ensures.cases.1 (lines_of c.in-Ok-read_text.lines.items) e) c.in-Ok-read_text.ensures.signed

pub returns-in-Ok-read_text-clause-spelled : goal.returns-in-Ok-read_text-clause-spelled
returns-in-Ok-read_text-clause-spelled c =
    let P = program_of c.args.program.now in
    let e = ap (whole P c.args.degree) (sym c.in-Ok.ensures.cases.0) ∙ c.in-Ok-read_text.ensures.reads in
    subst (Spells P c.args.degree c.args.bytes.now) (λ i. record { degree = sym c.new.ensures.degree i; lines = sym c.new.ensures.lines i })
    (spells P c.args.degree c.args.bytes.now c.in-Ok.ensures.cases.1 (lines_of c.in-Ok-read_text.lines.items) e)

pub returns-in-Ok-read_text-clause-within : goal.returns-in-Ok-read_text-clause-within
returns-in-Ok-read_text-clause-within c =
    let P = program_of c.args.program.now in
    let e = ap (whole P c.args.degree) (sym c.in-Ok.ensures.cases.0) ∙ c.in-Ok-read_text.ensures.reads in
    subst (AreWithin P) (λ i. record { degree = sym c.new.ensures.degree i; lines = sym c.new.ensures.lines i })
    (within P c.args.degree c.args.bytes.now c.in-Ok.ensures.cases.1 (lines_of c.in-Ok-read_text.lines.items) e)

pub returns-in-Ok-read_text-clause-one_answer : goal.returns-in-Ok-read_text-clause-one_answer
returns-in-Ok-read_text-clause-one_answer c = one_answer (program_of c.args.program.now) c.args.degree c.args.bytes.now

pub returns-in-Err-read_text-clause-fault : goal.returns-in-Err-read_text-clause-fault
returns-in-Err-read_text-clause-fault c =
    let P = program_of c.args.program.now in
    refused P c.args.degree c.args.bytes.now c.in-Ok.ensures.cases.1 c.in-Err-read_text.error
    (subst (λ t. Reads (Err c.in-Err-read_text.error) (whole P c.args.degree t)) c.in-Ok.ensures.cases.0 c.in-Err-read_text.ensures.reads)

pub returns-in-Err-read_text-clause-one_answer : goal.returns-in-Err-read_text-clause-one_answer
returns-in-Err-read_text-clause-one_answer c = one_answer (program_of c.args.program.now) c.args.degree c.args.bytes.now

pub returns-in-Err-clause-one_answer : goal.returns-in-Err-clause-one_answer
returns-in-Err-clause-one_answer c = one_answer (program_of c.args.program.now) c.args.degree c.args.bytes.now
