use Rattle.std.proofs.Common.{◌≡◌, ◌≤◌, ◌+◌, ◌-◌, ◌^◌, ◌∙◌, length, ap, sym, set, arith}
use Rattle.std.specs.List.{refill}
use Rattle.std.proofs.lemmas.List.{length-set}
use Rattle.rules_spec.specs.Capped.{cap}
use Rattle.constraint_gen.specs.Sums.{number_at, IsAt, IsGapFor}
use Rattle.constraint_gen.proofs.Sums.{put_there, put_in_gap, sum_insert, refill_same}
use Rattle.constraint_gen.proofs.sum.add_term.Goals as goal

pub returns-in-Ok-clause-put : goal.returns-in-Ok-clause-put
returns-in-Ok-clause-put c =
    let ts = c.args.terms.now.items in
    let place = c.in-Ok.place in
    let found : IsAt ts c.args.unknown place = rw c.as_slice.ensures at c.in-Ok.ensures.found in
    let value = c.as_mut_slice-terms.ensures.value in
    let read = ap (λ xs. number_at xs place) value in
    let sum : c.saturating_add-number.result ≡ cap (number_at ts place + c.args.times) = omega (arith, c.saturating_add-number.ensures, read) in
    let put = set ts place (c.args.unknown, c.saturating_add-number.result) in
    ap (λ xs. refill (length ts) ts (set xs place (c.args.unknown, c.saturating_add-number.result))) value
    ∙ refill_same (length ts) ts put (length-set ts place _)
    ∙ ap (λ n. set ts place (c.args.unknown, n)) sum ∙ sym (put_there ts c.args.unknown c.args.times place c.requires.sum found)

pub returns-in_ok-insert-in-Err-clause-sum : goal.returns-in_ok-insert-in-Err-clause-sum
returns-in_ok-insert-in-Err-clause-sum c =
    let gap : IsGapFor c.args.terms.now.items c.args.unknown c.in-Err.place = rw c.as_slice.ensures at c.in-Err.ensures.absent in
    let low : c.args.times ≤ 2 ^ 128 - 1 = omega (arith, c.ranges.times) in
    rw c.in_ok-insert-in-Err.ensures.ok (sum_insert c.args.terms.now.items c.requires.sum c.args.unknown c.in-Err.place gap c.args.times low)

pub returns-in_ok-insert-in-Err-clause-put : goal.returns-in_ok-insert-in-Err-clause-put
returns-in_ok-insert-in-Err-clause-put c =
    let gap : IsGapFor c.args.terms.now.items c.args.unknown c.in-Err.place = rw c.as_slice.ensures at c.in-Err.ensures.absent in
    c.in_ok-insert-in-Err.ensures.ok ∙ sym (put_in_gap c.args.terms.now.items c.args.unknown c.args.times c.in-Err.place gap)
