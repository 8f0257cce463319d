use Rattle.std.proofs.Common.{w64, FitsSigned, map}
use Rattle.std.proofs.lemmas.Int.{to_z-of_z}
use Rattle.simplex_rows.specs.Multiples.{AreMultiples}
use Rattle.simplex_rows.proofs.Wholes.{short_den_kept}
use Rattle.simplex_rows.proofs.FewDividing.{divided_vector, reduced_short, reduced_same, same_columns}
use Rattle.simplex_rows.proofs.few.FewRow.reduce.Goals as goal

pub over-self-inside-requires-clause-multiple : goal.over-self-inside-requires-clause-multiple
over-self-inside-requires-clause-multiple c = rw (to_z-of_z w64 c.common_divisor-common.result (record { sfits = c.common_divisor-common.type_inv })) c.common_divisor-common.ensures.first

pub invariant_of-self : goal.invariant_of-self
invariant_of-self c =
    let fits : FitsSigned w64 c.common_divisor-common.result = record { sfits = c.common_divisor-common.type_inv } in
    let den = rw (to_z-of_z w64 _ fits, short_den_kept _ c.self.invariant) at c.over-self-inside.ensures in
    let each : AreMultiples c.common_divisor-common.result (map (λ e. e.1) c.self.inside.entries.items) = rw c.deref.ensures.value at c.common_divisor-common.ensures.each in
    let all = divided_vector c.common_divisor-common.result c.self.inside.entries.len c.self.inside.entries.items _ c.divide_each.new.numbers c.deref_mut.ensures.value c.deref_mut.ensures.len (rw (to_z-of_z w64 _ fits) at c.divide_each.ensures) in
    rw (all, to_z-of_z w64 c.over-self-inside.result (record { sfits = c.over-self-inside.type_inv })) (reduced_short _ c.self.invariant c.common_divisor-common.result c.over-self-inside.result c.common_divisor-common.ensures.positive den each)

pub returns-clause-same : goal.returns-clause-same
returns-clause-same c =
    let fits : FitsSigned w64 c.common_divisor-common.result = record { sfits = c.common_divisor-common.type_inv } in
    let den = rw (to_z-of_z w64 _ fits, short_den_kept _ c.self.invariant) at c.over-self-inside.ensures in
    let each : AreMultiples c.common_divisor-common.result (map (λ e. e.1) c.self.inside.entries.items) = rw c.deref.ensures.value at c.common_divisor-common.ensures.each in
    let all = divided_vector c.common_divisor-common.result c.self.inside.entries.len c.self.inside.entries.items _ c.divide_each.new.numbers c.deref_mut.ensures.value c.deref_mut.ensures.len (rw (to_z-of_z w64 _ fits) at c.divide_each.ensures) in
    rw (← c.self.view_is, all, to_z-of_z w64 c.over-self-inside.result (record { sfits = c.over-self-inside.type_inv })) (reduced_same _ c.self.invariant c.common_divisor-common.result c.over-self-inside.result c.common_divisor-common.ensures.positive den each)

pub returns-clause-columns : goal.returns-clause-columns
returns-clause-columns c =
    let fits : FitsSigned w64 c.common_divisor-common.result = record { sfits = c.common_divisor-common.type_inv } in
    let all = divided_vector c.common_divisor-common.result c.self.inside.entries.len c.self.inside.entries.items _ c.divide_each.new.numbers c.deref_mut.ensures.value c.deref_mut.ensures.len (rw (to_z-of_z w64 _ fits) at c.divide_each.ensures) in
    rw (← c.self.view_is, all) (same_columns c.common_divisor-common.result c.self.inside.entries.items)
