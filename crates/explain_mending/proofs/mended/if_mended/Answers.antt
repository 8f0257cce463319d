use Rattle.std.proofs.Common.{◌≡◌, sym, ◌∙◌, length, arith}
use Rattle.call_groups.specs.Read.{ids_of}
use Rattle.explain_lines.specs.Read.{lines_of}
use Rattle.explain_mending.specs.Mended.{findings_in}
use Rattle.explain_mending.proofs.Mending.{is_mended}
use Rattle.explain_mending.proofs.mended.if_mended.Goals as goal

pub returns-in_ok-reduced : goal.returns-in_ok-reduced
returns-in_ok-reduced g c =
    let first = c.args.trial in
    let made = c.in_ok-reduced.field-0 in
    let count : length (findings_in first) ≡ length c.args.old.now = omega (arith, c.len.ensures, c.if-len-old.false) in
    let mends = rw c.deref.ensures.value at (sym c.mends_group.ensures ∙ c.if-mends_group.true) in
    is_mended (g.A.Attempt.tried c.args.attempt.now) c.args.old.now (ids_of c.args.group.now) c.args.all.now made.changes.items first made.trial (lines_of made.lines.items)
    c.groups_stay_mended.ensures count c.requires.tried mends c.in_ok-reduced.ensures
