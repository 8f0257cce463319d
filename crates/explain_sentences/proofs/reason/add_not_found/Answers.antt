use Rattle.explain_sentences.proofs.reason.add_not_found.Goals as goal

pub returns : goal.returns
returns c = rw c.begin_of.ensures at c.add_text.ensures
