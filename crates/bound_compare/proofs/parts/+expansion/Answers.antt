use Rattle.std.proofs.Common.{◌≡◌, ◌-◌, ◌∷◌, take, drop, length, flat_map, All, sym, ap, ◌∙◌}
use Rattle.std.proofs.lemmas.Result.{IfOk-weaker}
use Rattle.base_poly.specs.Read.{index_of, plains_of}
use Rattle.bound_compare.specs.Steps.{led, IsFew}
use Rattle.bound_compare.proofs.Counts.{few_led, whole}
use Rattle.bound_compare.proofs.parts.+expansion.Goals as goal

pub returns-in_ok-powers-in-len1-up-clause-few : goal.returns-in_ok-powers-in-len1-up-clause-few
returns-in_ok-powers-in-len1-up-clause-few t c =
    let indices = c.args.indices.now in
    let rest = take (length indices - 1) (drop 1 indices) in
    let d = c.index-item.result in
    IfOk-weaker c.led_by_each.result (λ found. found.items ≡ flat_map (led c.deref.result.now) c.factors.result.now) (λ found. All IsFew found.items)
    (λ found e. few_led c.entry_count.result (index_of d) (plains_of rest) (plains_of indices) c.factors.result.now c.deref.result.now found.items
    (ap plains_of (whole indices d c.in-len1-up.len_at_least ∙ ap (λ i. i ∷ rest) (sym c.index-item.is)))
    c.requires
    c.entry_count.ensures.count c.factors.ensures.factors (c.deref.ensures.value ∙ c.in_ok-powers-in-len1-up.ensures.powers) e)
    c.led_by_each.ensures
