use Rattle.raml_lex.proofs.Cuts.{cut_start, cut_gap, cut_token}
use Rattle.raml_lex.proofs.OneAnswer.{one_answer}
use Rattle.raml_lex.proofs.Spans.{spans_at}
use Rattle.std.proofs.Common.{arith}
use Rattle.raml_lex.proofs.lex.tokens.Goals as goal

pub loop-at-init : goal.loop-at-init
loop-at-init c = cut_start c.as_bytes-bytes.result.now c.new-tokens.result.items c.new-tokens.ensures.items

pub loop-at-preserved-in-Gap : goal.loop-at-preserved-in-Gap
loop-at-preserved-in-Gap c = cut_gap c.as_bytes-bytes.result.now c.loop-at.at c.in-Gap.len c.loop-at.tokens.items c.loop-at.invariant (rw c.in-Gap.is at c.in_ok-len.ensures)

pub loop-at-preserved : goal.loop-at-preserved
loop-at-preserved c = cut_token c.as_bytes-bytes.result.now c.loop-at.at c.in-Word.len c.in-Word.kind c.loop-at.tokens.items c.push.new.self.items c.loop-at.invariant (rw c.in-Word.is at c.in_ok-len.ensures) c.in_ok-push-in-Word.ensures.items

pub returns-in_err-len-clause-one_answer : goal.returns-in_err-len-clause-one_answer
returns-in_err-len-clause-one_answer c = one_answer c.args.text.now

pub returns-in_err-push-in-Word-clause-one_answer : goal.returns-in_err-push-in-Word-clause-one_answer
returns-in_err-push-in-Word-clause-one_answer c = one_answer c.args.text.now

pub returns-clause-one_answer : goal.returns-clause-one_answer
returns-clause-one_answer c = one_answer c.args.text.now

pub returns-clause-words : goal.returns-clause-words
returns-clause-words c = (spans_at c.args.text.now c.as_bytes-bytes.result.now c.loop-at.at c.loop-at.tokens.items c.as_bytes-bytes.ensures.value c.utf8.text c.loop-at.invariant).words

pub returns-clause-order : goal.returns-clause-order
returns-clause-order c = (spans_at c.args.text.now c.as_bytes-bytes.result.now c.loop-at.at c.loop-at.tokens.items c.as_bytes-bytes.ensures.value c.utf8.text c.loop-at.invariant).order

pub returns-clause-few : goal.returns-clause-few
returns-clause-few c =
    let few = (spans_at c.args.text.now c.as_bytes-bytes.result.now c.loop-at.at c.loop-at.tokens.items c.as_bytes-bytes.ensures.value c.utf8.text c.loop-at.invariant).few in
    let within = c.loop-at.invariant.within in
    omega (arith, few, within, c.as_bytes-bytes.ensures.len, c.loop-at.tokens.ok)
