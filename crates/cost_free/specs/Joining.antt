-- What the code's joined targets are as plain data.
use Rattle.std.specs.Prelude.{List, map}
use Rattle.raml_syntax.specs.Read.{ty_of}
use Rattle.base_poly.specs.Read.{index_of}
use Rattle.cost_free.specs.Target as p
use Rattle.cost_free.specs.declared.joined.Joined.{Joined}

abbrev pub joined_of : Joined → p.Joined
joined_of j = p.joined (ty_of j.ty.now) j.places.items (index_of j.list)

abbrev pub all_joined : List Joined → List p.Joined
all_joined js = map joined_of js
