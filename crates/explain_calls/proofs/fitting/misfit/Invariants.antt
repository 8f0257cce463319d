use Rattle.std.proofs.Common.{◌≡◌, false, map, take}
use Rattle.raml_syntax.specs.Read.{function_of}
use Rattle.explain_bounds.specs.Told.{told}
use Rattle.explain_words.specs.Spelled.{lent}
use Rattle.explain_calls.specs.Sizes.{fits_some}
use Rattle.explain_calls.proofs.fitting.misfit.Given as goal

abbrev pub invariant-loop-fun : goal.invariant-loop-fun
invariant-loop-fun l = fits_some (lent l.name) (told l.asked) (map function_of (take l.fun-index l.fun-items)) ≡ false
