-- The first fault of a source.
use Rattle.std.specs.Prelude.{◌≡◌, ℕ, Option, Some, None, IsSome, Err, codes}
use Rattle.raml_syntax.specs.Tree.{Text, Prog}
use Rattle.raml_syntax.specs.Read.{program_of}
use Rattle.raml_lex.specs.declared.token.LexFault.TheVariants as l
use Rattle.raml_parse.specs.Spelling.{Spells, FirstFault}
use Rattle.raml_parse.specs.declared.fault.ParseFault.{ParseFault}
use Rattle.raml_parse.specs.declared.fault.ParseFault.TheVariants as p
use Rattle.simple_types.specs.Read.{fault_of}
use Rattle.simple_types.specs.Fault.{Fault}
use Rattle.simple_types.specs.Walk.{walk_program}
use Rattle.simple_types.specs.declared.fault.TypeFault.{TypeFault}
use Rattle.simple_types.specs.declared.fault.TypeFault.TheVariants as t
use Rattle.explain_messages.specs.Places.{syntax_place, type_place}
use Rattle.explain_check.specs.Checks.{IsProgramOf}
use Rattle.explain_faults.specs.declared.fault.SourceFault.{SourceFault}
use Rattle.explain_faults.specs.declared.fault.SourceFault.TheVariants as s
use Rattle.explain_faults.specs.declared.found.Found.{Found}
use Rattle.explain_faults.specs.declared.found.Found.TheVariants as f

-- the first fault of the types of the program that the source spells
pub record IsUntyped (source : Text) (fault : TypeFault) : Type 0 where
  pub program : Prog
  pub first : Fault
  pub spelled : Spells source program
  pub is : fault_of fault ≡ Some first
  pub found : walk_program program ≡ Err first

-- the first fault of the source: of its bytes, or of the types of the program that they spell
abbrev pub IsFirst : Text → SourceFault → Type 0
IsFirst source (s.Spelling fault) = FirstFault source fault
IsFirst source (s.Typing fault) = IsUntyped source fault

-- the byte at which it stands; want of memory has none
abbrev pub place : SourceFault → Option ℕ
place (s.Spelling fault) = syntax_place fault
place (s.Typing fault) = type_place fault

-- it is want of memory, or the first fault
abbrev pub IsFirstUnless : Text → SourceFault → Type 0
IsFirstUnless source fault = IsSome (place fault) → IsFirst source fault

-- the typed program that the source spells, or its first fault
abbrev pub FoundIn : Text → Found → Type 0
FoundIn source (f.Program program) = IsProgramOf source (program_of program)
FoundIn source (f.Fault fault) = IsFirst source fault

-- the passes over a source that find faults, in their order: of characters, of tokens, of forms and of types
abbrev pub spelling_pass : ParseFault → ℕ
spelling_pass (p.NotUtf8 at) = 0
spelling_pass (p.Lex fault) = 1
spelling_pass (p.Syntax at) = 2
spelling_pass (p.TooDeep at) = 2
spelling_pass (p.TooMany at) = 2
spelling_pass p.NoMemory = 2

abbrev pub pass : SourceFault → ℕ
pass (s.Spelling fault) = spelling_pass fault
pass (s.Typing fault) = 3

-- ---- the words of `raml` for kinds of faults

abbrev pub spelling_code : ParseFault → Text
spelling_code (p.NotUtf8 at) = codes "not utf-8"
spelling_code (p.Lex (l.BadChar at)) = codes "bad character"
spelling_code (p.Lex (l.NumberTooWide at)) = codes "number too wide"
spelling_code (p.Lex (l.OpenComment at)) = codes "open comment"
spelling_code (p.Lex l.NoMemory) = codes "no memory"
spelling_code (p.Syntax at) = codes "syntax"
spelling_code (p.TooDeep at) = codes "too deep"
spelling_code (p.TooMany at) = codes "too many"
spelling_code p.NoMemory = codes "no memory"

abbrev pub typing_code : TypeFault → Text
typing_code (t.Unknown at) = codes "unknown"
typing_code (t.Twice at) = codes "twice"
typing_code (t.Wanted at want got) = codes "type"
typing_code (t.NeedsType at) = codes "needs a type"
typing_code (t.Arity at want got) = codes "arity"
typing_code t.NoMemory = codes "no memory"

abbrev pub code_of : SourceFault → Text
code_of (s.Spelling fault) = spelling_code fault
code_of (s.Typing fault) = typing_code fault
