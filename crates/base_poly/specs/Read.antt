-- What the code's indices and tuples are as plain data.
use Rattle.std.specs.Prelude.{List, map, None, Some}
use Rattle.raml_syntax.specs.declared.ty.Ty.{Ty}
use Rattle.raml_syntax.specs.Tree.{Type'}
use Rattle.raml_syntax.specs.Read.{ty_of}
use Rattle.base_poly.specs.Plain as p
use Rattle.base_poly.specs.declared.index.Index.{Index}
use Rattle.base_poly.specs.declared.index.Index.TheOpen as o
use Rattle.base_poly.specs.declared.index.Index.TheFolds.{fold-Index}

abbrev pub index_step : o.Index-F p.Plain → p.Plain
index_step o.Unit = p.Unit'
index_step (o.Pair a b) = p.Pair a.value b.value
index_step (o.List is) = p.many is.items
index_step (o.Opt None) = p.NoEntry
index_step (o.Opt (Some a)) = p.OneEntry a.value

abbrev pub index_of : Index → p.Plain
index_of = fold-Index p.Plain index_step

-- the indices, one by one
abbrev pub plains_of : List Index → List p.Plain
plains_of is = map index_of is

-- a list of types as a context
abbrev pub context_of : List Ty → List Type'
context_of As = map ty_of As
