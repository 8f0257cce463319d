use Rattle.std.proofs.Common.{ℕ, ◌≡◌, ◌<◌, ◌+◌, ◌∙◌, arith, slice_index_or}
use Rattle.base_poly.specs.Base.{total}
use Rattle.index_shift.specs.Read.{items_of}
use Rattle.index_shift.specs.Tables.{fits, sums}
use Rattle.index_shift.proofs.Steps.{listed_step, map_made}
use Rattle.index_shift.proofs.tables.rows.Goals as goal

pub loop-g-preserved : goal.loop-g-preserved
loop-g-preserved c =
    let below : c.loop-g.g < 1 + c.args.d = omega (arith, c.loop-g-test.true, c.from-g-end.ensures) in
    record {
      table = listed_step (λ g. sums (fits (λ r. slice_index_or c.args.numbers.now r 0) g) 0 c.args.degrees.now) _ _ _ c.loop-g.g (1 + c.args.d) _ below c.in_ok-found.ensures.row
          (map_made items_of _ _ _ c.in_ok-push.ensures.items) c.loop-g.invariant.table;
      totals = listed_step (λ g. total (fits (λ r. slice_index_or c.args.numbers.now r 0) g) c.args.degrees.now) _ _ _ c.loop-g.g (1 + c.args.d) _ below
          (c.in_ok-found.ensures.all ∙ none _) c.in_ok-push-2.ensures.ok c.loop-g.invariant.totals;
    }
  where
    none : (n : ℕ) → 0 + n ≡ n
    none n = omega arith
