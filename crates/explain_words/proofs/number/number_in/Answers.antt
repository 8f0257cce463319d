use Rattle.std.proofs.Common.{sym}
use Rattle.explain_words.proofs.Numbers.{unread}
use Rattle.explain_words.proofs.number.number_in.Goals as goal

pub returns-in-Err-clause-number : goal.returns-in-Err-clause-number
returns-in-Err-clause-number c =
    sym (unread c.args.digits c.args.least c.args.most c.args.word.now c.parse.result _ c.ranges.most.fits c.parse.ensures.value.0 c.in-Err.is)
