use Rattle.std.proofs.Common.{◌<◌, ◌^◌, rules, arith}
use Rattle.std.proofs.lemmas.Bool.{eqb-true, eq-eqb}
use Rattle.call_groups.proofs.Sets.{subset_from_words, words_from_subset}
use Rattle.call_groups.proofs.function_set.FunctionSet.is_subset.Goals as goal

pub returns-then-rest-eq0 : goal.returns-then-rest-eq0
returns-then-rest-eq0 c =
    let low : c.difference-rest.result.low < 2 ^ 128 = search rules in
    let high : c.difference-rest.result.high < 2 ^ 128 = search rules in (
      λ t. subset_from_words c.args.self.now c.args.other.now c.difference-rest.result c.difference-rest.ensures c.if-rest-eq0.true (eqb-true c.difference-rest.result.high 0 t),
      λ s. eq-eqb c.difference-rest.result.high 0 (words_from_subset c.args.self.now c.args.other.now c.difference-rest.result low high c.difference-rest.ensures s).1,
    )

pub returns-else-rest-eq0 : goal.returns-else-rest-eq0
returns-else-rest-eq0 c =
    let low : c.difference-rest.result.low < 2 ^ 128 = search rules in
    let high : c.difference-rest.result.high < 2 ^ 128 = search rules in (
      λ t. let zero_low = eqb-true c.difference-rest.result.low 0 t in absurd (omega arith),
      λ s. eq-eqb c.difference-rest.result.low 0 (words_from_subset c.args.self.now c.args.other.now c.difference-rest.result low high c.difference-rest.ensures s).0,
    )
