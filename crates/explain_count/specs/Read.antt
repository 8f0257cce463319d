-- What the code's copies are as plain data.
use Rattle.std.specs.Global.{Box}
use Rattle.raml_syntax.specs.Tree as t
use Rattle.raml_syntax.specs.Read.{term_of}
use Rattle.raml_syntax.specs.declared.tree.Expr.{Expr}

-- the expression in a box
abbrev pub term_in : Box Expr → t.Term
term_in e = term_of e.value
