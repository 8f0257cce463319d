use Rattle.std.proofs.Common.{ap, ◌∙◌}
use Rattle.base_poly.specs.Count.{counts_of}
use Rattle.base_poly.proofs.Counted.{inserted}
use Rattle.base_poly.proofs.products.count_one.Goals as goal

pub returns : goal.returns
returns c = ap counts_of c.in_ok-insert.ensures.entries ∙ inserted _ _ _ c.count_at-before.ensures
