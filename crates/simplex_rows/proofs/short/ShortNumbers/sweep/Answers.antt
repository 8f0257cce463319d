use Rattle.std.proofs.Common.{sym, ap, ◌∙◌, refl, rules, to_z}
use Rattle.std.proofs.lemmas.Int.{to_z-of_z}
use Rattle.std.specs.Int.{w64}
use Rattle.simplex_rows.specs.Forms.{row_of}
use Rattle.simplex_rows.specs.ShortRows.{fractions_of}
use Rattle.simplex_rows.proofs.ShortSweeps.{swept_from, same_row, is_swept, same_fractions}
use Rattle.simplex_rows.proofs.ShortReads.{none_there}
use Rattle.simplex_rows.proofs.Sweeping.{stays}
use Rattle.simplex_rows.proofs.short.ShortNumbers.sweep.Goals as goal

pub returns-in-Some-clause-swept : goal.returns-in-Some-clause-swept
returns-in-Some-clause-swept c e =
    is_swept c.args.column c.args.lead.now (row_of c.args.self.now) (row_of c.combine_and_spread.new.self) c.factors.ensures.lead c.number_at-number.ensures.short c.in_ok-combine_and_spread.ensures.short
    (swept_from c.args.column c.args.lead.now (row_of c.args.self.now) (row_of c.args.self.now) (row_of c.combine_and_spread.new.self) c.in-Some.factors.own c.in-Some.factors.times c.factors.ensures.short (same_row (row_of c.args.self.now))
    (rw (to_z-of_z w64 c.number_at-number.result (search rules), c.number_at-number.ensures.value) at c.in-Some.ensures.shares) c.in_ok-combine_and_spread.ensures.combined c.in_ok-combine_and_spread.ensures.den)

pub returns-in_ok-combine_and_spread-in-Some-factors-clause-swept : goal.returns-in_ok-combine_and_spread-in-Some-factors-clause-swept
returns-in_ok-combine_and_spread-in-Some-factors-clause-swept c e =
    is_swept c.args.column c.args.lead.now (row_of c.args.self.now) (row_of c.combine_and_spread-in-Some-factors.new.self) c.factors.ensures.lead c.number_at-number.ensures.short c.in_ok-combine_and_spread-in-Some-factors.ensures.short
    (swept_from c.args.column c.args.lead.now (row_of c.args.self.now) (row_of c.tighten.new.self) (row_of c.combine_and_spread-in-Some-factors.new.self) c.in-Some-factors.factors.own c.in-Some-factors.factors.times c.factors-2.ensures.short c.tighten.ensures
    (rw (to_z-of_z w64 c.number_at.result (search rules), c.number_at.ensures.value) at c.in-Some-factors.ensures.shares) c.in_ok-combine_and_spread-in-Some-factors.ensures.combined c.in_ok-combine_and_spread-in-Some-factors.ensures.den)

pub returns-in-None-clause-kept : goal.returns-in-None-clause-kept
returns-in-None-clause-kept c e = same_fractions (row_of c.args.self.now) (row_of c.tighten.new.self) c.factors.ensures.short c.factors-2.ensures.short c.tighten.ensures

pub returns-then-number-eq0-clause-swept : goal.returns-then-number-eq0-clause-swept
returns-then-number-eq0-clause-swept c e =
    let row = row_of c.args.self.now in
    let is = c.number_at-number.ensures.short in
    let none = none_there c.args.column 0 row.den row.numbers is.ascends (sym c.number_at-number.ensures.value ∙ sym (to_z-of_z w64 c.number_at-number.result (search rules)) ∙ ap (to_z w64) c.if-number-eq0.true) in
    stays c.args.column (fractions_of c.args.lead.now) (fractions_of row) (rw none refl)
