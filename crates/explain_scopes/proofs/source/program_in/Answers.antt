use Rattle.std.proofs.Common.{◌≡◌, ◌∙◌, sym}
use Rattle.raml_parse.specs.declared.fault.ParseFault.TheVariants.{NotUtf8, Lex, Syntax, TooDeep, TooMany, NoMemory}
use Rattle.explain_scopes.proofs.Stepping.{no_program}
use Rattle.explain_scopes.proofs.source.program_in.Goals as goal

pub returns-in-Err-NotUtf8 : goal.returns-in-Err-NotUtf8
returns-in-Err-NotUtf8 c =
    let one = c.parse.ensures.one_answer in
    no_program c.args.source.now c.in-Err-NotUtf8.field-0 one c.in-Err-NotUtf8.ensures.fault
    (λ none. let other : NotUtf8 c.in-Err-NotUtf8.field-0-0 ≡ NoMemory = sym c.in-Err-NotUtf8.field-0-is ∙ none in absurd (cc))

pub returns-in-Err-Lex : goal.returns-in-Err-Lex
returns-in-Err-Lex c =
    let one = c.parse.ensures.one_answer in
    no_program c.args.source.now c.in-Err-Lex.field-0 one c.in-Err-Lex.ensures.fault
    (λ none. let other : Lex c.in-Err-Lex.field-0-0 ≡ NoMemory = sym c.in-Err-Lex.field-0-is ∙ none in absurd (cc))

pub returns-in-Err-Syntax : goal.returns-in-Err-Syntax
returns-in-Err-Syntax c =
    let one = c.parse.ensures.one_answer in
    no_program c.args.source.now c.in-Err-Syntax.field-0 one c.in-Err-Syntax.ensures.fault
    (λ none. let other : Syntax c.in-Err-Syntax.field-0-0 ≡ NoMemory = sym c.in-Err-Syntax.field-0-is ∙ none in absurd (cc))

pub returns-in-Err-TooDeep : goal.returns-in-Err-TooDeep
returns-in-Err-TooDeep c =
    let one = c.parse.ensures.one_answer in
    no_program c.args.source.now c.in-Err-TooDeep.field-0 one c.in-Err-TooDeep.ensures.fault
    (λ none. let other : TooDeep c.in-Err-TooDeep.field-0-0 ≡ NoMemory = sym c.in-Err-TooDeep.field-0-is ∙ none in absurd (cc))

pub returns-in-Err-TooMany : goal.returns-in-Err-TooMany
returns-in-Err-TooMany c =
    let one = c.parse.ensures.one_answer in
    no_program c.args.source.now c.in-Err-TooMany.field-0 one c.in-Err-TooMany.ensures.fault
    (λ none. let other : TooMany c.in-Err-TooMany.field-0-0 ≡ NoMemory = sym c.in-Err-TooMany.field-0-is ∙ none in absurd (cc))
