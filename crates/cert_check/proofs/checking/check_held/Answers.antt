use Rattle.annot_types.specs.Read.{certificate_of}
use Rattle.rules_plan.specs.Read.{program_in}
use Rattle.cert_check.proofs.Staying.{none_leaves}
use Rattle.cert_check.proofs.checking.check_held.Goals as goal

pub keep-requires : goal.keep-requires
keep-requires c =
    let P = program_in c.args.program.now in
    let held = certificate_of c.args.certificate in
    let stays = c.stays_small.ensures c.if-stays_small.true P c.requires.plans in
    record {
      held = c.requires.held;
      small = c.requires.small;
      totals = none_leaves c.totals_stay_small.ensures P held stays.scales stays.blocks stays.plans;
    }

pub returns-then-stays_small-clause-fits : goal.returns-then-stays_small-clause-fits
returns-then-stays_small-clause-fits c =
    let P = program_in c.args.program.now in
    let held = certificate_of c.args.certificate in
    let stays = c.stays_small.ensures c.if-stays_small.true P c.requires.plans in
    let exactly = c.faultless_exactly.ensures P c.requires.proper held in
    exactly.1 (record {
      held = c.requires.held;
      small = c.requires.small;
      totals = none_leaves c.totals_stay_small.ensures P held stays.scales stays.blocks stays.plans;
    })
