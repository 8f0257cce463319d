use Rattle.std.proofs.Common.{◌↔◌, drop, map}
use Rattle.annot_types.specs.Held.{AllHintsRise}
use Rattle.annot_types.specs.Read.{hints_of}
use Rattle.cert_check.specs.Asking.{all_asks_of}
use Rattle.cert_check.specs.Finds.{AllFit}
use Rattle.cert_check.proofs.shape.hints_fit.Given as goal

abbrev pub invariant-loop-asked : goal.invariant-loop-asked
invariant-loop-asked l =
    (AllFit (all_asks_of (drop l.asked-index l.asks)) (map hints_of l.hints) × AllHintsRise (map hints_of l.hints))
    ↔ (AllFit (all_asks_of l.asks) (map hints_of l.fn.hints) × AllHintsRise (map hints_of l.fn.hints))
