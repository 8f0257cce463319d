use Rattle.std.proofs.Common.{rules, ◌≡◌, ◌∙◌, min, ◌<◌, ◌≤◌, ℕ, arith, length, get_or}
use Rattle.simplex.specs.Standing.{entries_at}
use Rattle.simplex.proofs.Rows.{among_at, row_is}
use Rattle.simplex.proofs.Narrowing.{none_more, none_whole}
use Rattle.simplex.proofs.exiting.next_column.Goals.{in-Some, in_default}
use Rattle.simplex.proofs.exiting.next_column.Goals as goal

pub bounds-rows-row : goal.bounds-rows-row
bounds-rows-row c = c.requires.inside (get_or c.args.among.now c.loop-row.row-index 0) (among_at c.args.among.now c.loop-row.row-index 0 (omega arith))

pub offset_bounds-rows-row : goal.offset_bounds-rows-row
offset_bounds-rows-row c =
    let inside : get_or c.args.among.now c.loop-row.row-index 0 < length c.args.rows.now = c.requires.inside (get_or c.args.among.now c.loop-row.row-index 0) (among_at c.args.among.now c.loop-row.row-index 0 (omega arith)) in
    search rules

pub loop-row-preserved : goal.loop-row-preserved
loop-row-preserved c =
    let i : ℕ = get_or c.args.among.now c.loop-row.row-index 0 in
    let inside : i < length c.args.rows.now = c.requires.inside i (among_at c.args.among.now c.loop-row.row-index 0 (omega arith)) in
    let row : c.index-rows-row.result ≡ entries_at c.args.rows.now i = row_is c.args.rows.now i c.index-rows-row.result inside c.index-rows-row.is in
    elim c.match-next_column.branch [
      | in-Some w ↦
          let e : c.match-next_column.least ≡ min c.loop-row.least w.in-Some.column = w.least-is ∙ w.min-least.ensures in
          let next = w.in-Some.ensures in
          let low : c.args.from ≤ w.in-Some.column = next.0 in
          let before : c.args.from ≤ c.loop-row.least = c.loop-row.invariant.0 in
          let most : c.loop-row.least ≤ c.args.right = c.loop-row.invariant.1 in
          let within : c.match-next_column.least ≤ w.in-Some.column = grind arith in
          (grind arith, grind arith, none_more c.loop-row.row-index c.args.from c.loop-row.least c.match-next_column.least c.args.rows.now c.args.among.now c.index-rows-row.result (omega arith) row c.loop-row.invariant.2 (grind arith) (λ q f m. next.2 q f (omega arith)))
      | in_default w ↦
          let before : c.args.from ≤ c.loop-row.least = c.loop-row.invariant.0 in
          let most : c.loop-row.least ≤ c.args.right = c.loop-row.invariant.1 in
          let e : c.match-next_column.least ≡ c.loop-row.least = w.least-is in
          (omega arith, omega arith, none_more c.loop-row.row-index c.args.from c.loop-row.least c.match-next_column.least c.args.rows.now c.args.among.now c.index-rows-row.result (omega arith) row c.loop-row.invariant.2 (omega arith) (λ q f m. w.in_default.ensures q f))
    ]

pub returns-clause-none : goal.returns-clause-none
returns-clause-none c =
    let past : length c.args.among.now ≤ c.loop-row.row-index = omega arith in
    (none_whole c.loop-row.row-index c.args.from c.loop-row.least c.args.rows.now c.args.among.now past c.loop-row.invariant.2).none
