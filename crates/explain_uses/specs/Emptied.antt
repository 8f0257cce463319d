-- Uses that are emptied: an empty value, which needs no potential, stands in place of the variable.
use Rattle.std.specs.Prelude.{◌++◌, codes, length}
use Rattle.raml_syntax.specs.Tree.{Text, Type', Integer, Boolean, PairOf, ListOf, TreeOf, OptionOf}
use Rattle.simple_types.specs.Text.{type_text}
use Rattle.explain_edits.specs.Edits.{Edit}
use Rattle.explain_uses.specs.Uses.{LaterUse}

-- the text of an empty value of a type
abbrev pub empty : Type' → Text
empty Integer = codes "0"
empty Boolean = codes "false"
empty (PairOf A B) = (((codes "(" ++ empty A) ++ codes ", ") ++ empty B) ++ codes ")"
empty (ListOf A) = codes "nil"
empty (TreeOf A) = codes "leaf"
empty (OptionOf A) = codes "none"

-- with its type, since nothing else may tell it there
abbrev pub typed_empty : Type' → Text
typed_empty A = (((codes "(" ++ empty A) ++ codes " : ") ++ type_text A) ++ codes ")"

abbrev pub edit : LaterUse → Edit
edit u = record { at = u.at; length = length u.variable; text = typed_empty u.type }
