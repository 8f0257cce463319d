use Rattle.std.proofs.Common.{subst}
use Rattle.raml_syntax.specs.Read.{program_of}
use Rattle.raml_syntax.specs.declared.program.Program.{Program}
use Rattle.call_groups.specs.Read.{ids_of}
use Rattle.explain_exchange.specs.Exchanged.{IsExchanged}
use Rattle.explain_mending.proofs.Adding.{from_some}
use Rattle.explain_reasons.specs.Asked.{program_in, found_in}
use Rattle.explain_reasons.proofs.trying.by_exchanging.Goals as goal

pub returns : goal.returns
returns c =
    let asked = c.args.asked in
    let group = ids_of c.args.group.now in
    from_some c.exchange.result _ (IsExchanged (program_in asked) (found_in asked) asked.original.most group)
    (λ made h. subst (λ (P : Program). IsExchanged (program_of P) (found_in asked) asked.original.most group made) c.requires.program h) c.exchange.ensures
