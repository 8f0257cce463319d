use Rattle.std.proofs.Common.{refl}
use Rattle.raml_lex.proofs.Symbols.{no_symbol, symbol_stands}
use Rattle.raml_lex.proofs.piece.symbol.Goals as goal

pub returns-in-Some : goal.returns-in-Some
returns-in-Some c = symbol_stands c.args.text.now c.in-Some.len c.requires.no_name c.requires.no_number c.requires.no_comment c.in-Some.ensures

pub returns-in-None : goal.returns-in-None
returns-in-None c = (refl, no_symbol c.args.text.now c.requires.some c.requires.no_space c.requires.no_name c.requires.no_number c.requires.no_comment c.in-None.ensures)
