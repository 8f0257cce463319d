use Rattle.std.proofs.Common.{rules, refl, sym, FitsSigned, ◌∙◌}
use Rattle.std.proofs.lemmas.Int.{to_z-of_z}
use Rattle.std.specs.Int.{w128}
use mathlib.Core.Bool.{false≢true}
use Rattle.farkas_check.specs.Faults.{demand_of}
use Rattle.farkas_check.proofs.Judging.{told, meets, meets_back}
use Rattle.farkas_check.proofs.fault.of_check.Goals as goal

pub returns-then-is_met : goal.returns-then-is_met
returns-then-is_met c terms is =
    let t = rw c.in-Some.is at is in
    let f : FitsSigned w128 c.in-Some.totals.positive = search rules in
    let g : FitsSigned w128 c.in-Some.totals.negative = search rules in
    let h : FitsSigned w128 c.sum.result = search rules in
    let k = told terms c.in-Some.totals.positive c.in-Some.totals.negative c.sum.result f g t.0 t.1 c.sum.ensures in
    let m = simp (to_z-of_z w128 _ h) at c.is_met.ensures in
    record { fit = k.fit; meets = meets (demand_of c.args.asked) terms c.sum.result k (m.0 c.if-is_met.true) }

pub returns-else-is_met : goal.returns-else-is_met
returns-else-is_met c terms is =
    let t = rw c.in-Some.is at is in
    let f : FitsSigned w128 c.in-Some.totals.positive = search rules in
    let g : FitsSigned w128 c.in-Some.totals.negative = search rules in
    let h : FitsSigned w128 c.sum.result = search rules in
    let k = told terms c.in-Some.totals.positive c.in-Some.totals.negative c.sum.result f g t.0 t.1 c.sum.ensures in
    let m = simp (to_z-of_z w128 _ h) at c.is_met.ensures in
    (refl, k.fit, λ z. false≢true (sym c.if-is_met.false ∙ m.1 (meets_back (demand_of c.args.asked) terms c.sum.result k z)))
