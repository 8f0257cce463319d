use Rattle.std.proofs.Common.{◌≡◌, ◌≤◌, ◌==◌, not, filter, reverse, string_bytes, All, SFits, rules, sym, ap, ◌∙◌, subst}
use Rattle.std.specs.Prelude.{unsigned_abs}
use Rattle.std.specs.Int.{w128}
use Rattle.std.proofs.lemmas.Int.{to_z-of_z}
use Rattle.std.specs.List.Sorted.{IsPermutation}
use Rattle.std.proofs.lemmas.Result.{IfOk-weaker}
use Rattle.base_poly.specs.Plain.{degrees}
use Rattle.base_poly.specs.Poly.{Term, den_of, magnitudes, terms_of}
use Rattle.poly_text.proofs.Ordered.{sorted_terms, small_terms}
use Rattle.explain_nested.specs.Text.{texts, sum_text, IsNestedText}
use Rattle.explain_nested.proofs.Ordering.{low_terms}
use Rattle.explain_nested.proofs.sums.nested_sum.Goals as goal

pub sum-requires-clause-low : goal.sum-requires-clause-low
sum-requires-clause-low c =
    let found = c.in_ok-terms.ensures ∙ ap (λ ts. filter (λ (t : Term). not (t.1 == 0)) (magnitudes ts)) c.deref.ensures.value in
    let same = subst (λ ts. IsPermutation ts c.sort.new.self.items) found c.in_ok-sort.ensures.permutation in
    subst (All (λ (t : Term). degrees t.0 ≤ 4)) (sym c.deref-2.ensures.value) (low_terms c.args.poly.now.terms.items c.sort.new.self.items same c.requires.low)

pub returns : goal.returns
returns c =
    let ordered = c.sort.new.self.items in
    let found = c.in_ok-terms.ensures ∙ ap (λ ts. filter (λ (t : Term). not (t.1 == 0)) (magnitudes ts)) c.deref.ensures.value in
    let same = subst (λ ts. IsPermutation ts ordered) found c.in_ok-sort.ensures.permutation in
    let small = small_terms c.args.poly.now.terms.items ordered same c.requires.poly.terms.low in
    let fits : SFits w128 c.args.poly.now.den = search rules in
    let den = c.unsigned_abs.ensures.value ∙ ap unsigned_abs (to_z-of_z w128 c.args.poly.now.den fits) in
    IfOk-weaker c.sum.result (λ text. string_bytes text ≡ sum_text c.unsigned_abs.result (texts c.args.names.now) (reverse c.deref-2.result.now))
    (λ text. IsNestedText (den_of c.args.poly.now) (texts c.args.names.now) (terms_of c.args.poly.now) (string_bytes text))
    (λ text h. record {
      ordered = ordered;
      same = same;
      sorted = sorted_terms ordered small c.in_ok-sort.ensures.sorted;
      is = h ∙ (λ n. sum_text (den n) (texts c.args.names.now) (reverse (c.deref-2.ensures.value n)));
    }) c.sum.ensures
