use Rattle.std.proofs.Common.{ap, ◌∙◌, length, map}
use Rattle.std.specs.List.{range_with_len}
use Rattle.annot_types.specs.Certificate.{number_at}
use Rattle.bound_infer.proofs.refuting.check_vector.Goals as goal

pub check_numbers-requires-clause-numbers : goal.check_numbers-requires-clause-numbers
check_numbers-requires-clause-numbers c =
    let count = ap length c.rows.ensures.all in
    c.deref.ensures.value ∙ c.in-Ok.ensures ∙ ap (λ n. map (λ row. number_at row c.args.farkas.now) (range_with_len 0 n)) count
