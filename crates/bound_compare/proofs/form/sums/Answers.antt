use Rattle.std.proofs.Common.{◌≡◌, ◌≤◌, sym, ap, ◌∙◌, subst}
use Rattle.std.specs.Prelude.{unsigned_abs}
use Rattle.std.specs.List.Sorted.{IsPermutation}
use Rattle.std.proofs.lemmas.List.Elements.{All-map}
use Rattle.std.proofs.lemmas.Result.{on_ok_weaker}
use Rattle.base_poly.specs.Plain.{degrees}
use Rattle.base_poly.specs.Poly.{magnitudes}
use Rattle.bound_compare.specs.Powers.{ArePowers}
use Rattle.bound_compare.specs.Steps.{joined, numbers, AreSmall, HasLarge}
use Rattle.bound_compare.proofs.Made.{sorted_rises, made, fits, leaves, twice_ok}
use Rattle.bound_compare.proofs.form.sums.Goals as goal

pub returns-clause-powers : goal.returns-clause-powers
returns-clause-powers c =
    let ts = magnitudes c.args.terms.now in
    let ps = c.sort.new.self.items in
    let low = All-map (λ t. degrees t.0 ≤ 4) (λ t. (t.0, unsigned_abs t.1)) c.args.terms.now c.requires.low in
    let same = subst (λ xs. IsPermutation xs ps) c.in_ok-parts.ensures c.in_ok-sort.ensures.permutation in
    let sums = c.deref-2.ensures.value ∙ c.in_ok-sums.ensures ∙ ap (joined (0, 0)) c.deref.ensures.value in
    twice_ok c.numbers.result (λ found. found.items ≡ numbers c.deref-2.result.now) (λ found. ArePowers ts found.items) (AreSmall c.deref-2.result.now)
    c.numbers.ensures.numbers c.numbers.ensures.small
    (λ found e small. subst (ArePowers ts) (sym (e ∙ ap numbers sums)) (made 0 ts ps low same (sorted_rises ps c.in_ok-sort.ensures.sorted) (subst AreSmall sums small)))

pub returns-clause-fits : goal.returns-clause-fits
returns-clause-fits c =
    let ts = magnitudes c.args.terms.now in
    let ps = c.sort.new.self.items in
    let low = All-map (λ t. degrees t.0 ≤ 4) (λ t. (t.0, unsigned_abs t.1)) c.args.terms.now c.requires.low in
    let same = subst (λ xs. IsPermutation xs ps) c.in_ok-parts.ensures c.in_ok-sort.ensures.permutation in
    let sums = c.deref-2.ensures.value ∙ c.in_ok-sums.ensures ∙ ap (joined (0, 0)) c.deref.ensures.value in
    on_ok_weaker c.numbers.result (λ small den l. fits den ts ps low same (sorted_rises ps c.in_ok-sort.ensures.sorted) (subst AreSmall sums small) l) c.numbers.ensures.small

pub returns-clause-leaves : goal.returns-clause-leaves
returns-clause-leaves c = λ e den.
    let ts = magnitudes c.args.terms.now in
    let ps = c.sort.new.self.items in
    let low = All-map (λ t. degrees t.0 ≤ 4) (λ t. (t.0, unsigned_abs t.1)) c.args.terms.now c.requires.low in
    let same = subst (λ xs. IsPermutation xs ps) c.in_ok-parts.ensures c.in_ok-sort.ensures.permutation in
    let sums = c.deref-2.ensures.value ∙ c.in_ok-sums.ensures ∙ ap (joined (0, 0)) c.deref.ensures.value in
    leaves den ts ps low same (sorted_rises ps c.in_ok-sort.ensures.sorted) (subst HasLarge sums (c.numbers.ensures.leaves e))
