use Rattle.std.proofs.Common.{ap, ◌∙◌}
use Rattle.base_poly.specs.Read.{index_of}
use Rattle.base_poly.proofs.Many.{copied_some}
use Rattle.base_poly.proofs.index.+copy.Goals as goal

pub Index::copy-returns-in_ok-new-in-Some : goal.Index::copy-returns-in_ok-new-in-Some
Index::copy-returns-in_ok-new-in-Some t c =
    copied_some _ _ c.in-Some.entry _ c.in-Opt.is c.in-Some.is (ap index_of c.in_ok-new-in-Some.ensures.ok ∙ c.in_ok-copy-in-Some.ensures ∙ ap index_of c.deref-in-Some.ensures)
