use Rattle.std.proofs.Common.{◌≤◌, sym, ◌∙◌, subst}
use Rattle.std.proofs.lemmas.List.{length-map}
use Rattle.base_poly.specs.Plain.{many, deg}
use Rattle.base_poly.specs.Read.{index_of, plains_of}
use Rattle.bound_compare.proofs.Counts.{count_many, count_low}
use Rattle.bound_compare.proofs.parts.number_of.Goals as goal

pub returns : goal.returns
returns c =
    let xs = c.args.entries.now in
    let same = sym (count_many (plains_of xs) ∙ length-map xs index_of) in
    record { count = same; low = subst (λ n. n ≤ deg (many (plains_of xs))) (sym same) (count_low (many (plains_of xs))) }
