use Rattle.index_shift.specs.Read.{counts_of, middles_of}
use Rattle.index_shift.proofs.Tabled.{lifted_between}
use Rattle.index_shift.proofs.local.between.Goals as goal

pub returns-clause-map : goal.returns-clause-map
returns-clause-map c = λ c' As Fs Ts Bs d h.
    lifted_between c' As Fs Ts Bs d c.args.d _ _ _ _ (middles_of c.args.middles.now) (counts_of c.in_ok-counts-2.counts) _ h c.in_ok-counts-2.ensures.tables c.in_ok-lift.ensures
