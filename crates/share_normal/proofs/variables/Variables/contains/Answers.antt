use Rattle.std.proofs.Common.{◌∙◌, ap}
use Rattle.normal_spec.specs.Free.{among}
use Rattle.share_normal.proofs.Members.{searched_among}
use Rattle.share_normal.proofs.variables.Variables.contains.Goals as goal

pub returns : goal.returns
returns c =
    let found = rw c.deref.ensures.value at c.binary_search.ensures.position in
    c.is_ok.ensures.value ∙ searched_among _ _ _ c.self.invariant found ∙ ap (among _) c.self.view_is
