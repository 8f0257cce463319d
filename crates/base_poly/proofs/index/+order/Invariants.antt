use Rattle.std.proofs.Common.{◌≡◌, drop}
use Rattle.base_poly.specs.Plain.{many, order}
use Rattle.base_poly.specs.Read.{plains_of}
use Rattle.base_poly.proofs.index.+order.Given as goal

abbrev pub invariant-order_of_all-loop-entry : goal.invariant-order_of_all-loop-entry
invariant-order_of_all-loop-entry l =
    order (many (plains_of (drop l.entry-index l.entries))) (many (plains_of l.rest)) ≡ order (many (plains_of l.entries)) (many (plains_of l.others))
