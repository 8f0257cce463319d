use Rattle.std.proofs.Common.{◌≡◌, ◌<◌, ◌+◌, ◌-◌, ◌∙◌, ℕ, length, IfSome, subst, ap, arith}
use Rattle.std.specs.List.{range_with_len}
use Rattle.base_poly.specs.Base.{total}
use Rattle.base_poly.specs.Indices.{tuples_up_to}
use Rattle.raml_syntax.specs.Read.{ty_of}
use Rattle.base_poly.specs.Read.{context_of}
use Rattle.base_poly.proofs.Behind.{total_step, scalars_counted, lengths_counted, first_and_rest}
use Rattle.base_poly.proofs.how_many.+plain_count.Goals as goal

pub plain_count-returns-in-len1-up : goal.plain_count-returns-in-len1-up
plain_count-returns-in-len1-up t c =
    subst (λ m. IfSome c.behind_first.result (λ n. n ≡ m)) (ap length (first_and_rest c.args.types.now c.first-item.result c.args.d c.in-len1-up.len_at_least c.first-item.is)) c.behind_first.ensures

pub behind_first-returns-then-has_one_index : goal.behind_first-returns-then-has_one_index
behind_first-returns-then-has_one_index t c =
    subst (λ m. IfSome c.plain_count.result (λ n. n ≡ m))
    (scalars_counted (ty_of c.args.first.now) (context_of c.args.rest.now) c.args.d (c.has_one_index.ensures c.if-has_one_index.true)) c.plain_count.ensures

pub behind_first-returns-then-has_lengths : goal.behind_first-returns-then-has_lengths
behind_first-returns-then-has_lengths t c =
    subst (λ m. IfSome c.behind_lengths.result (λ n. n ≡ m))
    (lengths_counted (ty_of c.args.first.now) (context_of c.args.rest.now) c.args.d (c.has_lengths.ensures c.if-has_lengths.true)) c.behind_lengths.ensures

pub behind_lengths-loop-g-preserved : goal.behind_lengths-loop-g-preserved
behind_lengths-loop-g-preserved t c =
    let f : ℕ → ℕ = λ g. length (tuples_up_to (context_of c.args.rest.now) (c.args.d - g)) in
    let below : c.loop-g.g < 1 + c.args.d = omega (arith, c.loop-g-test.true, c.from-g-end.ensures) in
    ap (λ s. s + total f (range_with_len (c.loop-g.g + 1) (1 + c.args.d - (c.loop-g.g + 1))))
    (c.in-Some.ensures ∙ ap (λ d. c.loop-g.sum + length (tuples_up_to (context_of c.args.rest.now) (d - c.loop-g.g))) c.from.ensures)
    ∙ total_step f c.loop-g.sum c.loop-g.g (1 + c.args.d) _ below c.loop-g.invariant
