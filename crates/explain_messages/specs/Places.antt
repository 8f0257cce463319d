-- The place of a fault: the number of bytes before it in the source. Want of memory has none.
use Rattle.std.specs.Prelude.{ℕ, Option, Some, None}
use Rattle.raml_lex.specs.declared.token.LexFault.TheVariants as l
use Rattle.raml_parse.specs.declared.fault.ParseFault.{ParseFault}
use Rattle.raml_parse.specs.declared.fault.ParseFault.TheVariants as p
use Rattle.simple_types.specs.declared.fault.TypeFault.{TypeFault}
use Rattle.simple_types.specs.declared.fault.TypeFault.TheVariants as t

-- of a source that spells no program
abbrev pub syntax_place : ParseFault → Option ℕ
syntax_place (p.NotUtf8 at) = Some at.0
syntax_place (p.Lex (l.BadChar at)) = Some at.0
syntax_place (p.Lex (l.NumberTooWide at)) = Some at.0
syntax_place (p.Lex (l.OpenComment at)) = Some at.0
syntax_place (p.Lex l.NoMemory) = None
syntax_place (p.Syntax at) = Some at.0
syntax_place (p.TooDeep at) = Some at.0
syntax_place (p.TooMany at) = Some at.0
syntax_place p.NoMemory = None

-- of a program that is not typed
abbrev pub type_place : TypeFault → Option ℕ
type_place (t.Unknown at) = Some at.0
type_place (t.Twice at) = Some at.0
type_place (t.Wanted at want got) = Some at.0
type_place (t.NeedsType at) = Some at.0
type_place (t.Arity at want got) = Some at.0
type_place t.NoMemory = None
