use Rattle.std.proofs.Common.{◌≡◌, rules, arith, FitsSigned, ◌*ℤ◌, length, take, drop, ◌++◌}
use Rattle.std.proofs.lemmas.Int.{to_z-of_z}
use Rattle.std.specs.Int.{w64}
use Rattle.simplex_rows.specs.Placed.{AreDivided}
use Rattle.simplex_rows.proofs.ManyCombining.{written_back_whole, reduced_short, reduced_same}
use Rattle.simplex_rows.proofs.many.ManyRow.reduce.Goals as goal

pub over-self-inside-requires-clause-multiple : goal.over-self-inside-requires-clause-multiple
over-self-inside-requires-clause-multiple c =
    let k : FitsSigned w64 c.common_divisor-common.result = search rules in
    rw (to_z-of_z w64 _ k) c.common_divisor-common.ensures.first

divided : (c : goal.After-self-2-1) → AreDivided c.common_divisor-common.result c.self.inside.numbers.items c.divide.new.numbers
divided c =
    let k : FitsSigned w64 c.common_divisor-common.result = search rules in
    rw (to_z-of_z w64 _ k, c.deref_mut.ensures.value) at c.divide.ensures

den : (c : goal.After-self-2-1) → c.over-self-inside.result *ℤ c.common_divisor-common.result ≡ c.self.inside.den
den c =
    let k : FitsSigned w64 c.common_divisor-common.result = search rules in
    let d : FitsSigned w64 c.self.inside.den = search rules in
    rw (to_z-of_z w64 _ k, to_z-of_z w64 _ d) at c.over-self-inside.ensures

back : (c : goal.After-self-2-1) → take c.self.inside.numbers.len (c.divide.new.numbers ++ drop (length c.divide.new.numbers) c.self.inside.numbers.items) ≡ c.divide.new.numbers
back c = written_back_whole c.self.inside.numbers.len c.self.inside.numbers.items c.divide.new.numbers (omega arith) (let d = divided c in d.count)

pub invariant_of-self : goal.invariant_of-self
invariant_of-self c =
    let n : FitsSigned w64 c.over-self-inside.result = search rules in
    let d = divided c in
    let m = d.count in
    let i = c.self.invariant in
    rw (to_z-of_z w64 _ n, back c) (
      reduced_short c.common_divisor-common.result c.self.inside.numbers.items c.divide.new.numbers c.self.inside.den c.over-self-inside.result c.self.inside.bound c.common_divisor-common.ensures.positive d (den c) i.0,
      omega arith,
    )

pub returns : goal.returns
returns c =
    let n : FitsSigned w64 c.over-self-inside.result = search rules in
    rw (← c.self.view_is, to_z-of_z w64 _ n, back c) (record {
      same =
          reduced_same c.common_divisor-common.result c.self.inside.numbers.items c.divide.new.numbers c.self.inside.den c.over-self-inside.result c.self.inside.bound c.common_divisor-common.ensures.positive (divided c) (den c) c.self.invariant.0 c.self.inside.bound;
    })
