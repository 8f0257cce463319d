use Rattle.std.proofs.Common.{length}
use Rattle.raml_words.proofs.options.+once.Given as goal

abbrev pub decreases-once : goal.decreases-once
decreases-once l = length l.values.now
