-- What walks take from the blocks before a place.
use Rattle.annot_types.specs.Program.{Program}
use Rattle.annot_types.specs.Certificate.{Certificate}
use Rattle.annot_types.specs.Held.{before}
use Rattle.rules_walk.specs.Remembers.{Remembers}
use Rattle.bound_contract.specs.declared.front.Front.{Front}

-- the tables are those of the first blocks of the certificate
abbrev pub IsFront : Program → Certificate → Front → Type 0
IsFront P c front = Remembers P c.degree (before c front.place) front.earlier
