use Rattle.std.proofs.Common.{◌∙◌, sym, subst, ℕ, ℤ, [], ◌∷◌, length, get_or, neg_ℤ, ◌*ℤ◌, pos, List}
use Rattle.std.proofs.lemmas.Int.{to_z-of_z}
use Rattle.std.specs.Int.{w128}
use Rattle.farkas_check.specs.Sides.{AreTotals}
use Rattle.farkas_check.proofs.Walking.{written_back}
use Rattle.farkas_check.proofs.columns.dual_totals.Goals as goal

pub returns-clause-totals : goal.returns-clause-totals
returns-clause-totals c =
    let n : ℕ = c.args.system.now.unknowns in
    let w : List ℤ = c.args.system.now.weights in
    let first : ℤ → ℕ → List ℤ = (λ t u. neg_ℤ (t *ℤ get_or w u (pos 0)) ∷ []) in
    let told = rw c.weights.ensures.all at c.in_ok-totals.ensures in
    let over = subst (λ (t : ℤ). AreTotals (length w) (first t) c.in_ok-totals.totals.items) (to_z-of_z w128 c.args.scale c.ranges.scale) told in
    let old : AreTotals n (first c.args.scale) c.in_ok-totals.totals.items = subst (λ (m : ℕ). AreTotals m (first c.args.scale) c.in_ok-totals.totals.items) c.weights.ensures.sound.one_each over in
    let added = rw (c.deref_mut.ensures.value, c.rows.ensures.all) at c.add_rows.ensures in
    let new = added n (first c.args.scale) old in
    rw (written_back c.in_ok-totals.totals.len c.in_ok-totals.totals.items c.add_rows.new.totals c.in_ok-totals.totals.ok.0 (new.count ∙ sym old.count)) new
