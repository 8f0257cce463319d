use Rattle.std.proofs.Common.{ℕ, ◌≡◌, ◌<◌, ◌+◌, ◌∙◌, Err, ap, arith, slice_index_or}
use Rattle.base_poly.specs.Base.{total}
use Rattle.index_shift.specs.Read.{items_of}
use Rattle.index_shift.specs.Tables.{fits, sums, lows}
use Rattle.index_shift.proofs.Faults.{of_fault}
use Rattle.index_shift.proofs.Steps.{listed_step, map_made, lows_more}
use Rattle.index_shift.proofs.tables.running.Goals as goal

pub loop-h-preserved : goal.loop-h-preserved
loop-h-preserved c =
    let below : c.loop-h.h < 1 + c.args.d = omega (arith, c.loop-h-test.true, c.from-h-end.ensures) in
    record {
      table = listed_step (λ h. sums (fits (λ r. slice_index_or c.args.numbers.now r 0) h) (lows (λ r. slice_index_or c.args.numbers.now r 0) c.args.degrees.now h) c.args.degrees.now)
          _ _ _ c.loop-h.h (1 + c.args.d) _ below
          (c.in_ok-found.ensures.row ∙ ap (λ s. sums (fits (λ r. slice_index_or c.args.numbers.now r 0) c.loop-h.h) s c.args.degrees.now) c.loop-h.invariant.low)
          (map_made items_of _ _ _ c.in_ok-push.ensures.items) c.loop-h.invariant.table;
      low = c.in_ok-found.ensures.all
          ∙ ap (λ s. s + total (fits (λ r. slice_index_or c.args.numbers.now r 0) c.loop-h.h) c.args.degrees.now) c.loop-h.invariant.low
          ∙ lows_more (λ r. slice_index_or c.args.numbers.now r 0) c.args.degrees.now c.loop-h.h;
      few = c.in_ok-found.ensures.few;
      end = omega (arith, below);
    }

pub returns-in_err-found-clause-many : goal.returns-in_err-found-clause-many
returns-in_err-found-clause-many c = λ e.
    let h = c.loop-h.h in
    let same = of_fault _ _ c.from_residual-in_err-found.ensures.1 e in
    let past = c.in_err-found.ensures.many (ap Err same) in
    let low = c.loop-h.invariant.low in
    let next = lows_more (λ r. slice_index_or c.args.numbers.now r 0) c.args.degrees.now h in
    let turned = ap (lows (λ r. slice_index_or c.args.numbers.now r 0) c.args.degrees.now) (turn h) in
    (h, omega (arith, c.loop-h-test.true, c.from-h-end.ensures), omega (arith, past, low, next, turned))
  where
    turn : (h : ℕ) → h + 1 ≡ 1 + h
    turn h = omega arith
