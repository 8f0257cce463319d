use Rattle.tests_front.proofs.LexedTexts.{texts_have_tokens}
use Rattle.tests_front.proofs.laws.short_texts_have_tokens.Goals as goal

pub returns : goal.returns
returns c = texts_have_tokens
