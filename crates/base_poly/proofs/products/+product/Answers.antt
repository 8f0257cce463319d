use Rattle.std.proofs.Common.{◌≡◌, ◌++◌, ◌-◌, ◌∷◌, map, flat_map, take, drop, length, IfOk, sym, ap, ◌∙◌, subst, arith}
use Rattle.std.proofs.lemmas.Grind.{common_steps}
use Rattle.base_poly.specs.Plain.{Then, many}
use Rattle.base_poly.specs.Product.{product}
use Rattle.base_poly.specs.Read.{index_of, plains_of}
use Rattle.base_poly.proofs.Many.{pair_alone, list_alone, option_alone, gathered, slice_parts, none_left}
use Rattle.base_poly.proofs.products.+product.Goals as goal

pub product-returns-in-Unit-right : goal.product-returns-in-Unit-right
product-returns-in-Unit-right t c = ap plains_of c.new.ensures.items ∙ pair_alone _ _ (_, _, c.in-Pair.is) c.in-Unit-right.is

pub product-returns-in-Unit-right-2 : goal.product-returns-in-Unit-right-2
product-returns-in-Unit-right-2 t c = ap plains_of c.new-in-Unit-right-2.ensures.items ∙ list_alone _ _ (_, c.in-List.is) c.in-Unit-right-2.is

pub product-returns-in-Unit-right-3 : goal.product-returns-in-Unit-right-3
product-returns-in-Unit-right-3 t c = ap plains_of c.new-in-Unit-right-3.ensures.items ∙ option_alone _ _ (_, c.in-Opt-None.is) c.in-Unit-right-3.is

pub product-returns-in-Unit-right-4 : goal.product-returns-in-Unit-right-4
product-returns-in-Unit-right-4 t c = ap plains_of c.new-in-Unit-right-4.ensures.items ∙ option_alone _ _ (_, c.in-Opt-Some.is) c.in-Unit-right-4.is

pub lists_product-returns-in_ok-vec-in-empty : goal.lists_product-returns-in_ok-vec-in-empty
lists_product-returns-in_ok-vec-in-empty t c =
    let none = none_left c.args.left.now c.args.right.now c.in-empty.len_below in grind (arith, common_steps, none)

pub led_product-returns-in_ok-mine-in-len1-up : goal.led_product-returns-in_ok-mine-in-len1-up
led_product-returns-in_ok-mine-in-len1-up t c =
    let i = index_of c.args.first.now in
    let r = many (plains_of c.args.rest.now) in
    let j = index_of c.other-item.result in
    let others = take (length c.args.right.now - 1) (drop 1 c.args.right.now) in
    let whole = slice_parts c.args.right.now c.other-item.result c.in-len1-up.len_at_least c.other-item.is in
    let mine = ap (map many) c.deref.ensures.value ∙ c.in_ok-mine-in-len1-up.ensures ∙ ap (λ w. product r (many (plains_of w))) (sym whole) in
    let step = subst (λ w. IfOk c.mixed_product.result (λ found. map many found.items ≡ map (λ k. Then i k) w
    ++ (map (λ k. Then j k) (product (Then i r) (many (plains_of others))) ++ flat_map (λ h. map (λ k. Then h k) (product r (many (plains_of others)))) (product i j)))) mine c.mixed_product.ensures in
    subst (λ w. IfOk c.mixed_product.result (λ found. map many found.items ≡ product (Then i r) (many (plains_of w)))) whole step

pub mixed_product-returns : goal.mixed_product-returns
mixed_product-returns t c =
    let i = index_of c.args.first.now in
    let j = index_of c.args.other.now in
    let second = c.in_ok-append_with_head-2.ensures.all ∙ ap (λ ts. c.append_with_head.new.found.items ++ map (λ r. j ∷ r) ts) c.deref.ensures.value in
    let third = c.in_ok-append_with_heads.ensures ∙ (λ n. c.append_with_head-2.new.found.items ++ flat_map (λ h. map (λ r. h ∷ r) (c.deref-3.ensures.value n)) (plains_of (c.deref-2.ensures.value n))) in
    gathered i j _ _ _ _ c.args.mine.now c.in_ok-theirs.theirs.items c.in_ok-tails.tails.items (plains_of c.in_ok-heads.heads.items) c.new-found.ensures.items c.in_ok-append_with_head.ensures.all second third
    ∙ (λ n. map (λ k. Then i k) (map many c.args.mine.now)
    ++ (map (λ k. Then j k) (c.in_ok-theirs.ensures n) ++ flat_map (λ h. map (λ k. Then h k) (c.in_ok-tails.ensures n)) (c.in_ok-heads.ensures n)))
