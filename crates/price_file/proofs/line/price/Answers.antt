use Rattle.std.proofs.Common.{◌∙◌, sym, ap}
use Rattle.price_file.specs.Reading.{is_short}
use Rattle.price_file.proofs.Entries.{number_read}
use Rattle.price_file.proofs.line.price.Goals as goal

pub returns-in-Err-clause-price : goal.returns-in-Err-clause-price
returns-in-Err-clause-price c =
    let e = number_read c.args.digits.now c.parse.result (ap is_short (sym c.as_bytes.ensures.value) ∙ sym c.is_short.ensures ∙ c.if-not-is_short.false) c.parse.ensures.value.0 in
    absurd (cc (e, c.in-Err.is))
