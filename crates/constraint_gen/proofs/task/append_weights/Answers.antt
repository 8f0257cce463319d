use Rattle.std.proofs.Common.{◌≡◌, ◌≤◌, ◌+◌, ◌-◌, ◌^◌, ◌++◌, ℕ, suc, pos, FitsSigned, map, sym, ap, ◌∙◌, append_assoc, append-nil, arith, rules}
use Rattle.std.specs.Prelude.{replicate}
use Rattle.std.specs.Int.{w128}
use Rattle.std.proofs.lemmas.Int.{to_z-of_z}
use Rattle.base_poly.specs.Read.{context_of}
use Rattle.constraint_gen.specs.Weights.{weight_of}
use Rattle.index_shift.proofs.Exactly.{exactly}
use Rattle.index_shift.specs.Tables.{how_many}
use Rattle.constraint_gen.proofs.Weighing.{weights_from, exact_weights, one_degree_more, all_weights}
use Rattle.constraint_gen.proofs.task.append_weights.Goals as goal

pub loop-degree-init : goal.loop-degree-init
loop-degree-init c =
    let As = context_of c.args.types.now in
    let b = c.args.budget in
    ap (λ l. c.args.weights.now.items ++ l) ((λ i. weights_from As (whole b i) 0) ∙ all_weights As b)
  where
    whole : (b : ℕ) → (1 + b) - 0 ≡ 1 + b
    whole b = omega arith

pub loop-degree-preserved : goal.loop-degree-preserved
loop-degree-preserved c =
    let As = context_of c.args.types.now in
    let b = c.args.budget in
    let g = c.loop-degree.degree in
    let low : g ≤ b = search rules in
    let old = c.loop-degree.weights.items in
    let fits : FitsSigned w128 c.weight.result = search rules in
    let items = simp (to_z-of_z w128 _ fits) at c.in_ok-append_times.ensures in
    let more : c.append_times.new.weights.items ≡ old ++ map weight_of (exactly As g) = items
    ∙ ap (λ l. old ++ l) ((λ i. replicate ((c.how_many-count.ensures ∙ ap (how_many g) c.requires.all) i) ((c.weight.ensures ∙ ap (λ n. pos (10 ^ n)) c.from.ensures) i)) ∙ exact_weights As g b low) in
    let n = (1 + b) - (g + 1) in
    let left : (1 + b) - g ≡ suc n = omega (arith, low) in
    let next : 1 + g ≡ g + 1 = omega arith in
    ap (λ l. l ++ weights_from As n (g + 1)) more ∙ append_assoc old (map weight_of (exactly As g)) (weights_from As n (g + 1))
    ∙ ap (λ l. old ++ l) ((λ i. map weight_of (exactly As g) ++ weights_from As n (sym next i)) ∙ sym (one_degree_more As n g) ∙ (λ i. weights_from As (sym left i) g))
    ∙ c.loop-degree.invariant

pub returns : goal.returns
returns c =
    let As = context_of c.args.types.now in
    let b = c.args.budget in
    let g = c.loop-degree.degree in
    let none : (1 + b) - g ≡ 0 = search rules in
    sym (append-nil c.loop-degree.weights.items) ∙ ap (λ l. c.loop-degree.weights.items ++ l) (λ i. weights_from As (sym none i) g) ∙ c.loop-degree.invariant
