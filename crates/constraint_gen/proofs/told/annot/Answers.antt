use Rattle.std.proofs.Common.{◌≡◌, true, false, sym, subst}
use Rattle.annot_types.specs.Certificate.{Rise}
use Rattle.rules_spec.specs.Asked.{given}
use Rattle.rules_spec.proofs.Told.{entries_rise}
use Rattle.constraint_gen.specs.Numbers.{numbers}
use Rattle.constraint_gen.proofs.told.annot.Goals as goal

pub unreachable-requires : goal.unreachable-requires
unreachable-requires c =
    let rise = subst Rise (sym c.in_ok-found.ensures.told) (entries_rise 0 (given (numbers c.args.solution.now) c.args.next.now c.args.size)) in
    let no : false ≡ true = c.in-None.ensures.exactly.1 rise in
    absurd (cc)
