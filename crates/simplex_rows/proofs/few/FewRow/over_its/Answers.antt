use Rattle.std.proofs.Common.{◌≡◌, sym, subst, pos, ◌<ℤ◌}
use Rattle.frac128.specs.Values.{numerator, IsQuotient}
use Rattle.simplex_rows.specs.Entries.{at}
use Rattle.simplex_rows.specs.ShortRows.{ShortRow, whole_at, fractions_of}
use Rattle.simplex_rows.proofs.Wholes.{number_kept}
use Rattle.simplex_rows.proofs.FewDividing.{over_short}
use Rattle.simplex_rows.proofs.ShortTells.{number_positive}
use Rattle.simplex_rows.proofs.ShortSweeps.{is_over_its}
use Rattle.simplex_rows.proofs.few.FewRow.over_its.Goals as goal

pub invariant_of-row : goal.invariant_of-row
invariant_of-row c =
    let row : ShortRow = record { numbers = c.row.inside.entries.items; den = c.row.inside.den; bound = c.row.inside.bound } in
    let above : pos 0 <ℤ numerator (at c.args.column (fractions_of row)) = subst (λ (r : ShortRow). pos 0 <ℤ numerator (at c.args.column (fractions_of r))) (sym c.row.view_is) c.requires in
    let positive : pos 0 <ℤ whole_at c.args.column c.row.inside.entries.items = number_positive row c.row.invariant c.args.column above in
    let number : c.number_at.result ≡ whole_at c.args.column c.row.inside.entries.items = rw (← c.row.view_is) at c.number_at.ensures.value in
    rw (number, number_kept _ c.args.column c.row.invariant) (over_short _ c.args.column c.row.invariant positive)

pub returns : goal.returns
returns c k =
    let row : ShortRow = record { numbers = c.row.inside.entries.items; den = c.row.inside.den; bound = c.row.inside.bound } in
    let above : pos 0 <ℤ numerator (at c.args.column (fractions_of row)) = subst (λ (r : ShortRow). pos 0 <ℤ numerator (at c.args.column (fractions_of r))) (sym c.row.view_is) c.requires in
    let positive : pos 0 <ℤ whole_at c.args.column c.row.inside.entries.items = number_positive row c.row.invariant c.args.column above in
    let number : c.number_at.result ≡ whole_at c.args.column c.row.inside.entries.items = rw (← c.row.view_is) at c.number_at.ensures.value in
    let same = rw (number, number_kept row c.args.column c.row.invariant) at c.tighten.ensures.same in
    subst (λ (r : ShortRow). IsQuotient (at k (fractions_of r)) (at c.args.column (fractions_of r)) (at k (fractions_of c.tighten.new.self))) c.row.view_is
    (is_over_its c.args.column row c.tighten.new.self c.row.invariant c.tighten.ensures.short positive (record { each = same.each }) k)
