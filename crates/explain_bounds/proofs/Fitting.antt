-- What is asked, with sizes or with their fault.
use Rattle.std.proofs.Common.{◌≡◌, List, Result, Ok, ap, ◌∙◌}
use Rattle.explain_sizes.specs.Sizes.{Sizes}
use Rattle.explain_sizes.specs.Open.{OpenSizes}
use Rattle.explain_at.specs.Words.{Given}
use Rattle.explain_at.specs.Asked.{Fault}
use Rattle.explain_at.specs.Read.{AreFilled}
use Rattle.explain_bounds.specs.Told.{At, told_at}

pub filled_at : (gs : List Given) (r : Result (List OpenSizes) Fault) (ss : List Sizes) → AreFilled r ss → told_at gs r ≡ Ok (At gs ss)
filled_at gs r ss h = ap (told_at gs) h.1 ∙ ap (λ ss. Ok (At gs ss)) (h.2 0)
