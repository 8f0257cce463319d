use Rattle.std.proofs.Common.{◌≡◌, ◌*◌, All, length, ap, ◌∙◌, subst, sym, arith}
use Rattle.std.proofs.lemmas.List.{length-map}
use Rattle.raml_syntax.specs.Value.{Value}
use Rattle.base_poly.specs.Base.{base}
use Rattle.base_poly.specs.Count.{counts_of, tallied, counted_worth, IsTerm}
use Rattle.base_poly.specs.Product.{product}
use Rattle.base_poly.specs.Read.{index_of, plains_of}
use Rattle.std.proofs.lemmas.Result.{IfOk-weaker}
use Rattle.base_poly.proofs.Counted.{product_counted, product_weighed, product_short}
use Rattle.base_poly.proofs.products.multiply.Goals as goal

pub tally-requires : goal.tally-requires
tally-requires c =
    let short = product_short (index_of c.args.left.now) (index_of c.args.right.now) c.requires.low.0 c.requires.low.1 in
    let same = ap length (ap plains_of c.deref.ensures.value ∙ c.in_ok-terms.ensures) in
    let all = length-map c.deref.result.now index_of in
    omega (arith, short, same, all)

pub returns-clause-worth : goal.returns-clause-worth
returns-clause-worth c =
    let A = c.requires.one_type in
    IfOk-weaker c.tally.result (λ found. counts_of found.entries ≡ tallied (plains_of c.deref.result.now)) (λ found. (v : Value) → base (index_of c.args.left.now) v * base (index_of c.args.right.now) v ≡ counted_worth v (counts_of found.entries))
    (λ found h v. product_weighed _ _ A.0 A.1 A.2 v ∙ ap (λ ps. counted_worth v (tallied ps)) (sym (ap plains_of c.deref.ensures.value ∙ c.in_ok-terms.ensures)) ∙ ap (counted_worth v) (sym h)) c.tally.ensures

pub returns-clause-terms : goal.returns-clause-terms
returns-clause-terms c =
    let A = c.requires.one_type in
    IfOk-weaker c.tally.result (λ found. counts_of found.entries ≡ tallied (plains_of c.deref.result.now)) (λ found. All (IsTerm (index_of c.args.left.now) (index_of c.args.right.now)) (counts_of found.entries))
    (λ found h. subst (All (IsTerm (index_of c.args.left.now) (index_of c.args.right.now))) (ap tallied (sym (ap plains_of c.deref.ensures.value ∙ c.in_ok-terms.ensures)) ∙ sym h) (product_counted _ _ A.0 A.1 A.2)) c.tally.ensures

pub returns-clause-tallied : goal.returns-clause-tallied
returns-clause-tallied c =
    IfOk-weaker c.tally.result (λ found. counts_of found.entries ≡ tallied (plains_of c.deref.result.now)) (λ found. counts_of found.entries ≡ tallied (product (index_of c.args.left.now) (index_of c.args.right.now)))
    (λ found h. h ∙ ap tallied (ap plains_of c.deref.ensures.value ∙ c.in_ok-terms.ensures)) c.tally.ensures
