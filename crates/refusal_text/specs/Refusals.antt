-- The lines of a source and of data that are refused.
use Rattle.std.specs.Prelude.{ℕ, [], ◌++◌, Option, Some, None, codes, decimal}
use Rattle.raml_syntax.specs.Tree.{Text}
use Rattle.raml_lex.specs.declared.token.LexFault.TheVariants as l
use Rattle.raml_parse.specs.declared.fault.ParseFault.{ParseFault}
use Rattle.raml_parse.specs.declared.fault.ParseFault.TheVariants as p
use Rattle.simple_types.specs.Fault.{Fault, Unknown, Twice, Wanted, NeedsType, Arity}
use Rattle.simple_types.specs.Read.{fault_of}
use Rattle.simple_types.specs.Text.{kind_text}
use Rattle.value_text.specs.declared.fault.DataFault.{DataFault}
use Rattle.value_text.specs.declared.fault.DataFault.TheVariants as d
use Rattle.refusal_text.specs.declared.source.SourceFault.{SourceFault}
use Rattle.refusal_text.specs.declared.source.SourceFault.TheVariants.{Parse, «Type»}

-- what is wrong, and at which byte
abbrev pub placed : Text → ℕ → Text
placed name at = name ++ codes " at " ++ decimal at

-- the first fault of a text; want of memory is none
abbrev pub parse_text : ParseFault → Text
parse_text (p.NotUtf8 at) = placed (codes "not utf-8") at.0
parse_text (p.Lex (l.BadChar at)) = placed (codes "bad character") at.0
parse_text (p.Lex (l.NumberTooWide at)) = placed (codes "number too wide") at.0
parse_text (p.Lex (l.OpenComment at)) = placed (codes "open comment") at.0
parse_text (p.Lex l.NoMemory) = []
parse_text (p.Syntax at) = placed (codes "syntax") at.0
parse_text (p.TooDeep at) = placed (codes "too deep") at.0
parse_text (p.TooMany at) = placed (codes "too many") at.0
parse_text p.NoMemory = []

-- the first fault of the types of a program; want of memory is none
abbrev pub fault_text : Option Fault → Text
fault_text (Some (Unknown at)) = placed (codes "unknown") at
fault_text (Some (Twice at)) = placed (codes "twice") at
fault_text (Some (Wanted at want got)) = placed (codes "wanted " ++ kind_text want ++ codes ", got " ++ kind_text got) at
fault_text (Some (NeedsType at)) = placed (codes "needs a type") at
fault_text (Some (Arity at want got)) = placed (codes "arity") at ++ codes ": wanted " ++ decimal want ++ codes ", got " ++ decimal got
fault_text None = []

abbrev pub source_text : SourceFault → Text
source_text (Parse fault) = parse_text fault
source_text («Type» fault) = fault_text (fault_of fault)

abbrev pub source_line : SourceFault → Text
source_line fault = codes "raml: source: " ++ source_text fault ++ codes "\n"

-- of the source of a program to compare with
abbrev pub other_source_line : SourceFault → Text
other_source_line fault = codes "raml: other source: " ++ source_text fault ++ codes "\n"

-- the first fault of data; want of memory is none
abbrev pub data_text : DataFault → Text
data_text (d.NotUtf8 at) = placed (codes "not utf-8") at.0
data_text (d.Shape at) = placed (codes "shape") at.0
data_text (d.TooDeep at) = placed (codes "too deep") at.0
data_text d.TooManyCells = codes "too many cells"
data_text d.NoMemory = []

abbrev pub data_line : DataFault → Text
data_line fault = codes "raml: data: " ++ data_text fault ++ codes "\n"
