use Rattle.std.proofs.Common.{◌≡◌, suc, ◌-◌, ◌<◌, ap, ◌∙◌, arith, drop, length, map, slice_set, slice_index_or}
use Rattle.std.specs.Prelude.{unsigned_abs, pos}
use Rattle.rules_spec.specs.Capped.{capped_amount}
use Rattle.rules_spec.specs.Shape.{amounts_at}
use Rattle.cert_check.proofs.Listing.{none_at, entry_at}
use Rattle.cert_check.proofs.amounts.amounts.Goals as goal

pub loop-left-init : goal.loop-left-init
loop-left-init c = record { within = omega arith; numbers = c.in_ok-made.ensures ∙ none_at c.args.size c.entries-entries.result.now }

pub loop-left-preserved : goal.loop-left-preserved
loop-left-preserved c =
    let es = c.entries-entries.result.now in
    let k = c.loop-left.left - 1 in
    let low : k < length es = omega (arith, c.loop-left.invariant.within, c.loop-left-test.true) in
    let next : c.loop-left.left ≡ suc k = omega (arith, c.loop-left-test.true) in
    let e = slice_index_or es k (0, pos 0) in
    record {
      within = omega (arith, low);
      numbers =
          c.put.ensures
          ∙ ap (λ ms. slice_set ms e.0 (capped_amount (record { plus = unsigned_abs e.1; minus = 0 })))
          (c.loop-left.invariant.numbers ∙ ap (λ j. map capped_amount (amounts_at c.args.size (drop j es))) next)
          ∙ entry_at c.args.size k es (0, pos 0) low;
    }
