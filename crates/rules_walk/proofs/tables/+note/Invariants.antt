use Rattle.std.proofs.Common.{◌-◌, length}
use Rattle.rules_walk.proofs.tables.+note.Given as goal

abbrev pub decreases-note_all : goal.decreases-note_all
decreases-note_all l = length l.signed.now - l.place
