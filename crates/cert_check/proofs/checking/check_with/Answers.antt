use Rattle.std.proofs.Common.{◌≡◌, true, Some, rules, inl}
use Rattle.annot_types.specs.Read.{certificate_of}
use Rattle.rules_plan.specs.Read.{program_in}
use Rattle.cert_check.specs.Fault.{Shape}
use Rattle.cert_check.specs.Finds.{FirstFault}
use Rattle.cert_check.specs.Read.{fault_of, OfFault}
use Rattle.cert_check.proofs.Exactly.{is_faultless, fault_refuses}
use Rattle.cert_check.proofs.Proper.{kept_is_proper}
use Rattle.cert_check.proofs.checking.check_with.Goals as goal

pub keep-requires : goal.keep-requires
keep-requires c =
    let kept = c.args.program.now in
    let fits : c.head_fits.result ≡ true = search rules in
    is_faultless (program_in kept) (certificate_of c.args.certificate) (inl (c.head_fits.ensures.0 fits, c.in-Ok.ensures))
    (kept_is_proper kept c.source-source.ensures.typed c.source-source.ensures.numbers c.functions-functions.ensures.norm c.groups-groups.ensures.grouping)

pub returns-then-not-head_fits-clause-invalid : goal.returns-then-not-head_fits-clause-invalid
returns-then-not-head_fits-clause-invalid c =
    let kept = c.args.program.now in
    let first : FirstFault (program_in kept) (certificate_of c.args.certificate) (Some (Shape 0)) = search rules in
    fault_refuses (program_in kept)
    (kept_is_proper kept c.source-source.ensures.typed c.source-source.ensures.numbers c.functions-functions.ensures.norm c.groups-groups.ensures.grouping)
    (certificate_of c.args.certificate) (Some (Shape 0)) first

pub returns-in-Err-clause-invalid : goal.returns-in-Err-clause-invalid
returns-in-Err-clause-invalid c =
    let kept = c.args.program.now in
    let first : OfFault (fault_of c.in-Err.fault) (FirstFault (program_in kept) (certificate_of c.args.certificate)) = search rules in
    fault_refuses (program_in kept)
    (kept_is_proper kept c.source-source.ensures.typed c.source-source.ensures.numbers c.functions-functions.ensures.norm c.groups-groups.ensures.grouping)
    (certificate_of c.args.certificate) (fault_of c.in-Err.fault) first
