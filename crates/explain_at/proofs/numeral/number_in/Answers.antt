use Rattle.std.proofs.Common.{◌∙◌, sym, ap}
use Rattle.explain_at.specs.Words.{is_short}
use Rattle.explain_at.proofs.Numbers.{number_read}
use Rattle.explain_at.proofs.numeral.number_in.Goals as goal

pub returns-in-Err : goal.returns-in-Err
returns-in-Err c =
    let e = number_read c.args.word.now c.parse.result (ap is_short (sym c.as_bytes.ensures.value) ∙ sym c.is_short.ensures ∙ c.if-not-is_short.false) c.parse.ensures.value.0 in
    absurd (cc (e, c.in-Err.is))
