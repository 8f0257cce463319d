use Rattle.std.proofs.Common.{◌≡◌, ◌<◌, ◌^◌, ◌==◌, not, filter, string_bytes, All, SFits, rules, sym, ap, ◌∙◌, subst}
use Rattle.std.specs.Prelude.{unsigned_abs}
use Rattle.std.specs.Int.{w128}
use Rattle.std.proofs.lemmas.Int.{to_z-of_z}
use Rattle.std.specs.List.Sorted.{IsPermutation}
use Rattle.std.proofs.lemmas.Result.{IfOk-weaker}
use Rattle.base_poly.specs.Plain.{degrees}
use Rattle.base_poly.specs.Poly.{Term, den_of, magnitudes, terms_of}
use Rattle.poly_text.specs.Text.{sum_text, IsTextOf}
use Rattle.poly_text.proofs.Ordered.{sorted_terms, small_terms}
use Rattle.poly_text.proofs.text.print.Goals as goal

pub sum-requires-clause-low : goal.sum-requires-clause-low
sum-requires-clause-low c =
    let found = c.in_ok-terms.ensures ∙ ap (λ ts. filter (λ (t : Term). not (t.1 == 0)) (magnitudes ts)) c.deref.ensures.value in
    let same = subst (λ ts. IsPermutation ts c.sort.new.self.items) found c.in_ok-sort.ensures.permutation in
    subst (All (λ (t : Term). degrees t.0 < 2 ^ 32)) (sym c.deref-2.ensures.value) (small_terms c.args.poly.now.terms.items c.sort.new.self.items same c.requires.terms.low)

pub returns : goal.returns
returns c =
    let ordered = c.sort.new.self.items in
    let found = c.in_ok-terms.ensures ∙ ap (λ ts. filter (λ (t : Term). not (t.1 == 0)) (magnitudes ts)) c.deref.ensures.value in
    let same = subst (λ ts. IsPermutation ts ordered) found c.in_ok-sort.ensures.permutation in
    let small = small_terms c.args.poly.now.terms.items ordered same c.requires.terms.low in
    let fits : SFits w128 c.args.poly.now.den = search rules in
    let den = c.unsigned_abs.ensures.value ∙ ap unsigned_abs (to_z-of_z w128 c.args.poly.now.den fits) in
    IfOk-weaker c.sum.result (λ text. string_bytes text ≡ sum_text c.unsigned_abs.result c.deref-2.result.now)
    (λ text. IsTextOf (den_of c.args.poly.now) (terms_of c.args.poly.now) (string_bytes text))
    (λ text h. record {
      ordered = ordered;
      same = same;
      sorted = sorted_terms ordered small c.in_ok-sort.ensures.sorted;
      is = h ∙ (λ n. sum_text (den n) (c.deref-2.ensures.value n));
    }) c.sum.ensures
