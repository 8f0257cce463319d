use Rattle.std.proofs.Common.{subst}
use Rattle.raml_syntax.specs.Read.{program_of}
use Rattle.raml_syntax.specs.declared.program.Program.{Program}
use Rattle.call_groups.specs.Read.{ids_of}
use Rattle.explain_supply.specs.Supply.{IsSupplied}
use Rattle.explain_mending.proofs.Adding.{from_some}
use Rattle.explain_reasons.specs.Asked.{source_in, program_in}
use Rattle.explain_reasons.proofs.trying.supplied.Goals as goal

pub returns : goal.returns
returns c =
    let asked = c.args.asked in
    let group = ids_of c.args.group.now in
    from_some c.supply.result _ (IsSupplied (source_in asked) (program_in asked) asked.original.most group)
    (λ supplied h. subst (λ (P : Program). IsSupplied (source_in asked) (program_of P) asked.original.most group supplied) c.requires.program h) c.supply.ensures
