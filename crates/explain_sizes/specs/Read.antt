-- What the code's sizes are as plain data.
use Rattle.std.specs.Prelude.{List, map}
use Rattle.explain_sizes.specs.Sizes.{Sizes, NoSize, Parts, Content, Elements}
use Rattle.explain_sizes.specs.Open as p
use Rattle.explain_sizes.specs.declared.size.Size.{Size}
use Rattle.explain_sizes.specs.declared.size.Size.TheOpen as o
use Rattle.explain_sizes.specs.declared.size.Size.TheFolds.{fold-Size}
use Rattle.explain_sizes.specs.declared.open_size.OpenSize.{OpenSize}
use Rattle.explain_sizes.specs.declared.open_size.OpenSize.TheOpen as q
use Rattle.explain_sizes.specs.declared.open_size.OpenSize.TheFolds.{fold-OpenSize}

abbrev pub size_step : o.Size-F Sizes → Sizes
size_step o.Unit = NoSize
size_step (o.Pair a b) = Parts a.value b.value
size_step (o.List n a) = Elements n a.value
size_step (o.Opt a) = Content a.value

abbrev pub sizes_of : Size → Sizes
sizes_of = fold-Size Sizes size_step

-- the sizes, one by one
abbrev pub all_sizes : List Size → List Sizes
all_sizes ss = map sizes_of ss

abbrev pub open_step : q.OpenSize-F p.OpenSizes → p.OpenSizes
open_step q.Unit = p.NoSize
open_step (q.Pair a b) = p.Parts a.value b.value
open_step (q.List n a) = p.Elements n a.value
open_step (q.Opt a) = p.Content a.value

abbrev pub open_of : OpenSize → p.OpenSizes
open_of = fold-OpenSize p.OpenSizes open_step

abbrev pub all_open : List OpenSize → List p.OpenSizes
all_open os = map open_of os
