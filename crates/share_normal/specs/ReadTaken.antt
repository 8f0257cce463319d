-- What the code's uses and parts are as plain data.
use Rattle.normal_spec.specs.Two as two
use Rattle.share_normal.specs.declared.taken.Taken.{Taken}
use Rattle.share_normal.specs.declared.taken.AllTaken.{AllTaken}
use Rattle.share_normal.specs.declared.taken.Parted.{Parted}

abbrev pub taken_of : Taken → two.Taken
taken_of t = record { name = t.name; stay = t.stay.items; shares = t.shares.items }

abbrev pub all_taken_of : AllTaken → two.AllTaken
all_taken_of t = record { names = t.names.items; shares = t.shares.items }

abbrev pub parted_of : Parted → two.Parted
parted_of t = record { first = t.first.items; second = t.second.items; shares = t.shares.items }
