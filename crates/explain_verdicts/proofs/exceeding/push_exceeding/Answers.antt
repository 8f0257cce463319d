use Rattle.std.proofs.Common.{◌≡◌, ◌<◌, ◌-◌, ◌++◌, ◌∙◌, [], length, codes, take, reverse, string_bytes, sym, ap, subst, refl, rules, SFits, arith}
use Rattle.std.specs.Prelude.{unsigned_abs}
use Rattle.std.specs.Int.{w128}
use Rattle.std.proofs.lemmas.Int.{to_z-of_z}
use Rattle.std.proofs.lemmas.List.{append_assoc}
use Rattle.base_poly.specs.Plain.{Plain}
use Rattle.base_poly.specs.Indices.{AreIndices}
use Rattle.base_poly.specs.Poly.{den_of, terms_of}
use Rattle.base_poly.specs.Read.{context_of}
use Rattle.explain_algebra.specs.Algebra.{joined, texts}
use Rattle.explain_verdicts.specs.Exceeding.{alone, declared_at, exceeds, TellsExcess}
use Rattle.explain_verdicts.specs.Reads.{bound_of}
use Rattle.explain_verdicts.specs.Written.{IsFraction}
use Rattle.explain_verdicts.proofs.Beside.{found_is, weaker}
use Rattle.explain_verdicts.proofs.Excesses.{next_left, passed, told, all_told}
use Rattle.explain_verdicts.proofs.exceeding.push_exceeding.Goals as goal

pub exceeds-requires-clause-declared : goal.exceeds-requires-clause-declared
exceeds-requires-clause-declared c =
    let As = context_of c.args.params.types.now in
    weaker (IsFraction As) (λ f. 0 < f.denominator) c.declared_at-declared.result (λ f h. h.denominator)
    (found_is As c.index.result.now.0 c.args.fractions.now c.declared_at-declared.result c.declared_at-declared.ensures c.requires.fractions)

pub push_excess-requires-clause-found : goal.push_excess-requires-clause-found
push_excess-requires-clause-found c =
    let As = context_of c.args.params.types.now in
    let i = c.loop-place.place - 1 in
    let low : i < length c.args.found.now.terms.items = search rules in
    c.in_ok-term.ensures.found As (subst (λ t. AreIndices t.0 As) (sym c.index.ensures) (c.requires.found.indices i c.index.result.now low))

pub push_excess-requires-clause-declared : goal.push_excess-requires-clause-declared
push_excess-requires-clause-declared c =
    found_is (context_of c.args.params.types.now) c.index.result.now.0 c.args.fractions.now c.declared_at-declared.result c.declared_at-declared.ensures c.requires.fractions

pub loop-place-preserved : goal.loop-place-preserved
loop-place-preserved c =
    let items = c.args.found.now.terms.items in
    let fs = c.args.fractions.now in
    let x = c.index.result.now in
    let n = unsigned_abs x.1 in
    let den = den_of c.args.found.now in
    let number : SFits w128 x.1 = search rules in
    let over : SFits w128 c.args.found.now.den = search rules in
    let d = to_z-of_z w128 c.args.found.now.den over in
    let m = to_z-of_z w128 x.1 number in
    let low : c.loop-place.place - 1 < length items = search rules in
    passed (context_of c.args.params.types.now) (texts c.args.params.names.now) fs den _ _ _ (x.0, n) c.loop-place.is_first _ _
    (next_left items c.loop-place.place x (omega (arith, c.loop-place-test.true)) low c.index.ensures)
    (sym (λ i. exceeds (unsigned_abs (d i)) (unsigned_abs (m i)) (c.declared_at-declared.ensures i)) ∙ sym c.exceeds.ensures ∙ c.if-exceeds.false) c.loop-place.invariant

pub loop-place-preserved-then-exceeds : goal.loop-place-preserved-then-exceeds
loop-place-preserved-then-exceeds c =
    let As = context_of c.args.params.types.now in
    let params = texts c.args.params.names.now in
    let items = c.args.found.now.terms.items in
    let fs = c.args.fractions.now in
    let x = c.index.result.now in
    let n = unsigned_abs x.1 in
    let den = den_of c.args.found.now in
    let number : SFits w128 x.1 = search rules in
    let over : SFits w128 c.args.found.now.den = search rules in
    let d = to_z-of_z w128 c.args.found.now.den over in
    let m = to_z-of_z w128 x.1 number in
    let low : c.loop-place.place - 1 < length items = search rules in
    let shown = c.in_ok-push_excess.ensures in
    told As params fs den _ _ _ (x.0, n) c.loop-place.is_first _ _ (string_bytes c.push_lead.new.text) shown.0 _
    (next_left items c.loop-place.place x (omega (arith, c.loop-place-test.true)) low c.index.ensures)
    (sym (λ i. exceeds (unsigned_abs (d i)) (unsigned_abs (m i)) (c.declared_at-declared.ensures i)) ∙ sym c.exceeds.ensures ∙ c.if-exceeds.true) c.in_ok-push_lead.ensures
    (subst (λ b. TellsExcess As params b (declared_at x.0 fs) shown.0) (c.in_ok-term.ensures.is ∙ (λ i. alone (unsigned_abs (d i)) (x.0, unsigned_abs (m i))))
    (subst (λ o. TellsExcess As params (bound_of c.in_ok-term.term) o shown.0) c.declared_at-declared.ensures shown.1))
    shown.2 c.loop-place.invariant

pub returns : goal.returns
returns c =
    let none : c.loop-place.place ≡ 0 = omega (arith, c.loop-place-test.false) in
    let all = all_told (context_of c.args.params.types.now) (texts c.args.params.names.now) c.args.fractions.now (den_of c.args.found.now) _ _ c.loop-place.is_first _ _
    (ap (λ n. reverse (take n (terms_of c.args.found.now))) none) c.loop-place.invariant in
    (codes "; exceeding: " ++ joined (codes ", ") all.texts, (all.texts, all.are, refl), all.is ∙ append_assoc (string_bytes c.args.text.now) (codes "; exceeding: ") (joined (codes ", ") all.texts))
