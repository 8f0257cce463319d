-- A node costs its price at the least.
use Rattle.std.proofs.Common.{◌≡◌, ◌≤◌, ◌+◌, ℕ, Some, subst, arith}
use Rattle.raml_syntax.specs.Tree as t
use Rattle.price_file.specs.Construct.{Construct, Prices}
use Rattle.price_file.specs.Laws.{NodesArePaid}

at_least : (prices : Prices) (c d : Construct) (n : ℕ) → Some c ≡ Some d → prices d ≤ prices c + n
at_least prices c d n e =
    let same : c ≡ d = cc in
    subst (λ (x : Construct). prices x ≤ prices c + n) same (omega arith)

pub nodes_paid : NodesArePaid
nodes_paid prices call env (t.Typed p a A) d h = absurd (cc)
nodes_paid prices call env e d h = at_least prices _ d _ h
