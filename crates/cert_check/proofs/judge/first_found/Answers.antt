use Rattle.std.proofs.Common.{◌≡◌, ◌+◌, ap, sym, ◌∙◌, rules, None, slice_index_or}
use Rattle.std.specs.Option.{option_map}
use Rattle.rules_spec.specs.Capped.{capped}
use Rattle.rules_spec.specs.Walk.{at}
use Rattle.rules_spec.specs.Faults.{fault_at}
use Rattle.cert_check.specs.Judged.{located}
use Rattle.cert_check.proofs.Comparing.{next_fault}
use Rattle.cert_check.proofs.judge.first_found.Goals as goal

pub loop-place-preserved : goal.loop-place-preserved
loop-place-preserved c =
    let path = c.args.path.now in
    let k = c.loop-place.place in
    let n = c.args.index + k in
    let none : c.compare_at.result ≡ None = search rules in
    let passed : fault_at (record { path = path; index = n; left = at capped c.args.left.now k; right = slice_index_or c.args.right.now k c.index-right-place.result }) ≡ None =
    ap (λ r. fault_at (record { path = path; index = n; left = at capped c.args.left.now k; right = r })) (sym c.index-right-place.is)
    ∙ sym (c.compare_at.ensures path n) ∙ ap (option_map (located path n)) none in
    next_fault path c.args.index k c.args.left.now c.args.right.now c.index-right-place.result c.loop-place-test.true passed ∙ c.loop-place.invariant
