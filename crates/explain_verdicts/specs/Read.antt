-- What is decided of declared bounds, as plain data.
use Rattle.std.specs.Prelude.{Option, option_map}
use Rattle.explain_verdicts.specs.Reads.{Bound, bound_of}
use Rattle.explain_verdicts.specs.declared.judged.Judged.{Judged}

-- the bound that was found
abbrev pub found_of : Judged → Option Bound
found_of judged = option_map bound_of judged.found
