use Rattle.std.proofs.Common.{◌≡◌, drop}
use Rattle.price_file.specs.Reading.{named, named_among}
use Rattle.price_file.proofs.construct.Construct.named.Given as goal

abbrev pub invariant-loop-construct : goal.invariant-loop-construct
invariant-loop-construct l = named l.word ≡ named_among l.word (drop l.construct-index l.construct-items)
