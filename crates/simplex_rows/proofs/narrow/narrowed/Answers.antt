use Rattle.std.proofs.Common.{rules, arith, FitsSigned, w64}
use Rattle.std.proofs.lemmas.Int.{ints, to_z-of_z}
use Rattle.simplex_rows.proofs.Narrowing.{narrowed_short, narrowed_same}
use Rattle.simplex_rows.proofs.narrow.narrowed.Goals as goal

pub from_parts-requires : goal.from_parts-requires
from_parts-requires c =
    let fits : FitsSigned w64 c.in-Some.den = search rules in
    let kept = to_z-of_z w64 c.in-Some.den fits in
    let divide = rw c.entries-entries.ensures.all at c.in-Some.ensures.divide in
    let made = rw (kept, c.entries-entries.ensures.all, c.in-Some-2.is) at c.in_ok-numbers.ensures.value in
    let bound : FitsSigned w64 c.greatest-bound.result = record { sfits = c.greatest-bound.type_inv } in
    rw (kept, to_z-of_z w64 c.greatest-bound.result bound)
    (narrowed_short c.args.row.now c.in-Some-2.numbers.items c.in-Some.den c.greatest-bound.result c.entries-entries.ensures.sparse c.in-Some.ensures.positive divide made
    (rw kept at c.greatest-bound.ensures.first) (rw c.deref.ensures.value at c.greatest-bound.ensures.each) (let f = bound.sfits in omega (arith, ints)))

pub returns : goal.returns
returns c =
    let fits : FitsSigned w64 c.in-Some.den = search rules in
    let kept = to_z-of_z w64 c.in-Some.den fits in
    let divide = rw c.entries-entries.ensures.all at c.in-Some.ensures.divide in
    let made = rw (kept, c.entries-entries.ensures.all, c.in-Some-2.is) at c.in_ok-numbers.ensures.value in
    narrowed_same c.args.row.now c.from_parts.result c.from_parts.ensures.short (rw (c.from_parts.ensures.parts, kept) divide) (rw (c.from_parts.ensures.parts, kept) made)
