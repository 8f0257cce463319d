use Rattle.std.proofs.Common.{◌≡◌, [], ◌∷◌, length, ap, ◌∙◌, rules}
use Rattle.std.specs.List.{range_with_len}
use Rattle.raml_syntax.specs.Read.{ty_of}
use Rattle.tuple_ranks.proofs.Loops.{same_numbers}
use Rattle.tuple_ranks.proofs.slots.renumbering.Goals as goal

pub returns-in_ok-up_to-clause-all : goal.returns-in_ok-up_to-clause-all
returns-in_ok-up_to-clause-all c =
    let same : ty_of c.args.from.now ≡ ty_of c.args.to.now = search rules in
    let long : c.len.result ≡ length c.in_ok-sizes.sizes.items = search rules in
    same_numbers (ty_of c.args.from.now) (ty_of c.args.to.now) c.args.d c.in_ok-sizes.sizes.items _ same (ap (λ l. l ∷ []) c.in_ok-sizes.ensures.all) (c.in_ok-up_to.ensures ∙ ap (range_with_len 0) long)
