use Rattle.std.proofs.Common.{◌∙◌, refl, sym, length}
use Rattle.std.proofs.lemmas.List.Edits.{insert_end}
use Rattle.constraint_gen.specs.Sums.{IsGapFor}
use Rattle.constraint_gen.proofs.Sums.{put_in_gap}
use Rattle.constraint_gen.proofs.sum.append_term.Goals as goal

pub returns-clause-put : goal.returns-clause-put
returns-clause-put c =
    let ts = c.args.terms.now.items in
    let gap : IsGapFor ts c.args.unknown (length ts) = rw c.as_slice.ensures at (c.if-not-ends_before.ensures refl) in
    c.in_ok-push.ensures.ok ∙ sym (insert_end ts (c.args.unknown, c.args.times)) ∙ sym (put_in_gap ts c.args.unknown c.args.times (length ts) gap)
