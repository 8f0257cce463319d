use Rattle.raml_lex.proofs.Words.{word_stands_at}
use Rattle.raml_lex.proofs.piece.word.Goals as goal

pub returns : goal.returns
returns c = word_stands_at c.args.text.now c.name_len-len.result c.word_kind.result c.requires c.name_len-len.ensures c.word_kind.ensures
