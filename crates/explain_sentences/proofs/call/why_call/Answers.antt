use Rattle.explain_sentences.proofs.call.why_call.Goals as goal

pub returns : goal.returns
returns c = rw (c.name_at-callee.ensures, c.manner-manner.ensures) at c.format.ensures.ok
