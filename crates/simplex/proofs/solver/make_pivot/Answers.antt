use Rattle.std.proofs.Common.{◌≡◌, refl, ap, subst, ◌∙◌, arith, ℕ, List, length, map, Err}
use Rattle.simplex_spec.specs.Tableaux.{right}
use Rattle.simplex_rows.specs.Entries.{Entries, columns_of}
use Rattle.simplex.specs.declared.fault.Fault.{Fault}
use Rattle.simplex.specs.Standing.{entries_at}
use Rattle.simplex.specs.Solving.{Pivoting}
use Rattle.simplex.specs.Covering.{block_of, blocks_of, Grow}
use Rattle.simplex.specs.Reading.{IsWritten}
use Rattle.simplex.proofs.Opens.{of_error}
use Rattle.simplex.proofs.Rows.{row_is}
use Rattle.simplex.proofs.Gains.{written_after}
use Rattle.simplex.proofs.Covers.{covered, positive_not_none}
use Rattle.simplex.proofs.Marks.{column_inside}
use Rattle.simplex.proofs.Steps.{columns_compared}
use Rattle.simplex.proofs.Solves.{written_back}
use Rattle.simplex.proofs.solver.make_pivot.Goals as goal

pub returns-in_err-pivot-clause-leaves : goal.returns-in_err-pivot-clause-leaves
returns-in_err-pivot-clause-leaves c i k e =
    let same : c.in_err-pivot.field-0.0 ≡ Fault.Leaves i k = of_error _ _ _ c.from_residual-in_err-pivot.ensures.1 e in
    let l = rw (c.rows.ensures.all, c.unknowns.ensures, c.deref.ensures.value, columns_compared c.args.system.now) at c.in_ok-row.ensures.row in
    record { leaves = Pivoting c.in_ok-row.row l (rw c.deref_mut.ensures.value at c.in_err-pivot.ensures.leaves i k (ap Err same)); pivots_stay = refl {A = List (ℕ × ℕ)} }

pub follow-requires-clause-column : goal.follow-requires-clause-column
follow-requires-clause-column c =
    let places = c.requires.ready.cover.places in
    let low = column_inside (right c.args.system.now) (blocks_of (length c.args.table.now.rows.items)) c.args.column c.requires.column in
    rw (c.deref_mut-3.ensures.value, c.len-height.ensures, c.args.table.now.rows.ok.0) (omega (arith, places, low))

pub overflow_cast-row : goal.overflow_cast-row
overflow_cast-row c =
    let l = rw c.deref.ensures.value at c.in_ok-row.ensures.row in
    let inside = l.bounding.inside in
    let height = c.requires.height in
    let fits = c.requires.fits in
    omega arith

pub returns-clause-ready : goal.returns-clause-ready
returns-clause-ready c =
    let l = rw c.deref.ensures.value at c.in_ok-row.ensures.row in
    let made = rw c.deref_mut.ensures.value at c.in_ok-pivot.ensures.pivoted in
    let back = written_back c.args.table.now.rows.len c.args.table.now.rows.items c.pivot.new.rows c.args.table.now.rows.ok.0 made.rows_swept.count in
    let follows = rw (c.deref_mut-3.ensures.value, c.deref-5.ensures.value, c.deref-6.ensures.value, c.in_ok-columns.ensures.columns, c.len-height.ensures, c.args.table.now.rows.ok.0) at c.follow.ensures in
    let marks_back = written_back c.args.scratch.now.marks.len c.args.scratch.now.marks.items c.follow.new.marks c.args.scratch.now.marks.ok.0 (follows.one.places ∙ follows.grow.places) in
    let inside = l.bounding.inside in
    let count = made.rows_swept.count in
    let lead : c.index.result.now ≡ entries_at c.pivot.new.rows c.in_ok-row.row = row_is c.pivot.new.rows c.in_ok-row.row c.index.result.now (omega arith) (rw back at c.index.ensures) in
    let written = rw (c.deref_mut-2.ensures.value, c.deref-4.ensures.value, c.in_ok-columns.ensures.columns) at c.write.ensures in
    let gains_back = written_back c.args.scratch.now.gains.len c.args.scratch.now.gains.items c.write.new.all c.args.scratch.now.gains.ok.0 written.count in
    record {
      cover = rw (back, marks_back) (covered (right c.args.system.now) c.in_ok-row.row c.args.column c.args.table.now.rows.items c.args.table.now.gains c.pivot.new.rows c.pivot.new.gains c.args.scratch.now.touching.items
          c.args.scratch.now.marks.items follows.grown c.follow.new.marks inside (positive_not_none l.bounding.positive) c.requires.ready.cover c.requires.found.touching made
          (subst (λ (es : Entries). Grow (blocks_of (length c.args.table.now.rows.items)) (columns_of es) (map block_of c.args.scratch.now.touching.items) c.args.scratch.now.marks.items follows.grown) lead follows.grow) follows.one);
      seen = rw gains_back (written_after (right c.args.system.now) c.args.column made.lead c.args.table.now.gains c.pivot.new.gains c.args.scratch.now.gains.items c.write.new.all c.requires.ready.seen made.gains_swept
          (subst (λ (es : Entries). IsWritten c.pivot.new.gains (columns_of es) c.args.scratch.now.gains.items c.write.new.all) (lead ∙ made.rows_swept.here) written));
    }
