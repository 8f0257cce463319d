-- What the code has of names, places and insertions as plain data.
use Rattle.std.specs.Prelude.{string_bytes}
use Rattle.raml_syntax.specs.Read.{ty_of}
use Rattle.explain_supply.specs.Names as n
use Rattle.explain_supply.specs.Insertions as i
use Rattle.explain_supply.specs.declared.names.Names.{Names}
use Rattle.explain_supply.specs.declared.place.Place.{Place}
use Rattle.explain_supply.specs.declared.place.Place.TheVariants as p
use Rattle.explain_supply.specs.declared.insertion.Insertion.{Insertion}
use Rattle.explain_supply.specs.declared.insertion.Insertion.TheVariants as d

abbrev pub names_of : Names → n.Names
names_of names = record { rounds = string_bytes names.rounds; round = string_bytes names.round }

abbrev pub place_of : Place → i.Place
place_of p.Outside = i.Outside
place_of (p.Named f) = i.Named f.now
place_of (p.Header f) = i.Header f.now
place_of (p.Body f) = i.Body f.now
place_of (p.Behind f g) = i.Behind f.now g.now

abbrev pub insertion_of : Insertion → i.Insertion
insertion_of d.Parameter = i.Parameter
insertion_of (d.Match ty) = i.Match (ty_of ty.now)
insertion_of d.Rest = i.Rest
insertion_of d.Empty = i.Empty
