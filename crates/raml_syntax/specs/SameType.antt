-- Whether types are the same.
use Rattle.std.specs.Prelude.{Bool, true, false, ◌&&◌}
use Rattle.raml_syntax.specs.Tree.{Type', Integer, Boolean, PairOf, ListOf, TreeOf, OptionOf}

abbrev pub same_type : Type' → Type' → Bool
same_type Integer Integer = true
same_type Boolean Boolean = true
same_type (PairOf A B) (PairOf C D) = same_type A C && same_type B D
same_type (ListOf A) (ListOf B) = same_type A B
same_type (TreeOf A) (TreeOf B) = same_type A B
same_type (OptionOf A) (OptionOf B) = same_type A B
same_type _ _ = false
