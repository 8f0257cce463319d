-- The texts of types, with the fewest parentheses, and of what a type is or is to be.
use Rattle.std.specs.Prelude.{Bool, true, false, cond, [], ◌++◌, codes}
use Rattle.raml_syntax.specs.Tree.{Text, Type', Integer, Boolean, PairOf, ListOf, TreeOf, OptionOf}
use Rattle.simple_types.specs.Fault.{Kind, Is, SomeList, SomeTree, SomeOption, SomePair}

-- what stands before and after a pair, where it is an operand
abbrev pub opening : Bool → Text
opening operand = cond operand (codes "(") []

abbrev pub closing : Bool → Text
closing operand = cond operand (codes ")") []

-- A type stands as an operand on the left of `*` and before `list`, `tree` and `option`.
abbrev pub text_as : Bool → Type' → Text
text_as operand Integer = codes "int"
text_as operand Boolean = codes "bool"
text_as operand (PairOf A B) = (((opening operand ++ text_as true A) ++ codes " * ") ++ text_as false B) ++ closing operand
text_as operand (ListOf A) = text_as true A ++ codes " list"
text_as operand (TreeOf A) = text_as true A ++ codes " tree"
text_as operand (OptionOf A) = text_as true A ++ codes " option"

abbrev pub type_text : Type' → Text
type_text = text_as false

abbrev pub kind_text : Kind → Text
kind_text (Is T) = type_text T
kind_text SomeList = codes "some list"
kind_text SomeTree = codes "some tree"
kind_text SomeOption = codes "some option"
kind_text SomePair = codes "some pair"
