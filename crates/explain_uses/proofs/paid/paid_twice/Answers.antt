use Rattle.std.proofs.Common.{List, subst}
use Rattle.raml_syntax.specs.Read.{program_of}
use Rattle.call_groups.specs.Read.{ids_of}
use Rattle.explain_lines.specs.Read.{lines_of}
use Rattle.explain_mending.specs.Mended.{IsMended}
use Rattle.explain_uses.specs.Paid.{IsTried}
use Rattle.explain_uses.specs.declared.later.LaterUse.{LaterUse}
use Rattle.explain_uses.proofs.paid.paid_twice.Goals as goal

pub returns-in-Some : goal.returns-in-Some
returns-in-Some c =
    let original = c.args.original in
    let found = c.in-Some.field-0 in
    let mended = rw c.in-Some.is at c.in_ok-uses.ensures in
    record {
      all = c.in_ok-all.all.items;
      among = c.in_ok-all.ensures.among;
      reached = c.in_ok-all.ensures.reached;
      mended = subst (λ (all : List LaterUse). IsMended (IsTried original.source.now (program_of original.program.now) original.most)
          original.found.now (ids_of c.args.group.now) all found.changes.items found.trial (lines_of found.lines.items)) c.deref.ensures.value mended;
    }
