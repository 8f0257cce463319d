use Rattle.std.proofs.Common.{rules, ap, ◌∙◌, [], ◌∷◌}
use Rattle.explain_edits.specs.Edits.{with_edits}
use Rattle.explain_faults.specs.Faults.{IsFirst}
use Rattle.explain_faults.specs.Repairs.{edit_in}
use Rattle.explain_faults.proofs.Mending.{mended_later}
use Rattle.explain_faults.proofs.repair.mends.Goals as goal

pub returns : goal.returns
returns c comes =
    let source = c.args.source.now in
    let made = c.in_ok-text.ensures ∙ ap (λ e. with_edits source (e ∷ [])) c.in_ok-replacement.ensures in
    let first : IsFirst c.in_ok-text.text.items c.in-Fault.next = search rules in
    mended_later source c.in_ok-text.text.items c.args.fault.now c.in-Fault.next (edit_in c.args.edit.now) made first (c.comes_later.ensures comes)
