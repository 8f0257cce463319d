use Rattle.std.proofs.Common.{◌≡◌, suc, ◌-◌, ◌<◌, ap, ◌∙◌, arith, drop, length, slice_set, slice_index_or}
use Rattle.std.specs.Prelude.{unsigned_abs, pos}
use Rattle.annot_types.specs.Certificate.{annotation}
use Rattle.rules_spec.specs.Found.{listed}
use Rattle.rules_walk.proofs.Counting.{entries_left, entry_left}
use Rattle.rules_walk.proofs.signatures.numbers.Goals as goal

pub loop-left-init : goal.loop-left-init
loop-left-init c = record { within = omega arith; numbers = c.in_ok-numbers.ensures ∙ entries_left c.args.size c.entries-entries.result.now }

pub loop-left-preserved : goal.loop-left-preserved
loop-left-preserved c =
    let es = c.entries-entries.result.now in
    let k = c.loop-left.left - 1 in
    let low : k < length es = omega (arith, c.loop-left.invariant.within, c.loop-left-test.true) in
    let next : c.loop-left.left ≡ suc k = omega (arith, c.loop-left-test.true) in
    let e = slice_index_or es k (0, pos 0) in
    record {
      within = omega (arith, low);
      numbers =
          c.put.ensures
          ∙ ap (λ ns. slice_set ns e.0 (unsigned_abs e.1)) (c.loop-left.invariant.numbers ∙ ap (λ j. listed c.args.size (annotation (drop j es))) next)
          ∙ entry_left c.args.size k es (0, pos 0) low;
    }
