use Rattle.std.proofs.Common.{subst}
use Rattle.raml_syntax.specs.Read.{program_of}
use Rattle.raml_syntax.specs.declared.program.Program.{Program}
use Rattle.call_groups.specs.Read.{ids_of}
use Rattle.explain_uses.specs.Paid.{IsPaidTwice}
use Rattle.explain_mending.proofs.Adding.{from_some}
use Rattle.explain_reasons.specs.Asked.{source_in, program_in, found_in}
use Rattle.explain_reasons.specs.Reasons.{UsesArePaid}
use Rattle.explain_reasons.proofs.trying.by_uses.Goals as goal

pub returns : goal.returns
returns c =
    let asked = c.args.asked in
    let group = ids_of c.args.group.now in
    from_some c.paid_twice.result _ (UsesArePaid (source_in asked) (program_in asked) (found_in asked) asked.original.most group)
    (λ paid h. record {
      uses = asked.uses.now;
      are = c.requires.are_uses;
      is_paid = subst (λ (P : Program). IsPaidTwice (source_in asked) (program_of P) (found_in asked) asked.original.most asked.uses.now group paid) c.requires.program h;
    }) c.paid_twice.ensures
