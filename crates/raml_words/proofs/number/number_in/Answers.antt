use Rattle.std.proofs.Common.{◌∙◌, sym, ap}
use Rattle.raml_words.specs.Sorting.{is_number}
use Rattle.raml_words.proofs.Numbers.{number_read}
use Rattle.raml_words.proofs.number.number_in.Goals as goal

pub returns-in-Err-clause-number : goal.returns-in-Err-clause-number
returns-in-Err-clause-number c =
    let e = number_read c.args.word.now c.parse.result (ap is_number (sym c.as_bytes.ensures.value) ∙ sym c.is_number.ensures ∙ c.if-not-is_number.false) c.parse.ensures.value.0 in
    absurd (cc (e, c.in-Err.is))
