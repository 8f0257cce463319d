use Rattle.std.proofs.Common.{◌∷◌, [], ap, sym, ◌∙◌, map, slice_set, slice_index_or, None, Some, option_map}
use Rattle.std.proofs.lemmas.List.{map-append}
use Rattle.rules_walk.specs.Read.{signature_of}
use Rattle.rules_walk.specs.Signed.{signed_of, all_signed, standing, filled}
use Rattle.rules_walk.proofs.Counting.{filled_more}
use Rattle.rules_walk.proofs.tables.fill_all.Goals as goal

pub loop-one-preserved : goal.loop-one-preserved
loop-one-preserved c =
    let s = signed_of c.in-Some.one in
    let table = map (option_map signature_of) c.args.table.now.items in
    c.fill.ensures
    ∙ ap (λ t. slice_set t s.0 (Some (standing (slice_index_or t s.0 None) s.1))) c.loop-one.invariant
    ∙ sym (filled_more (all_signed c.loop-one.yielded) s table)
    ∙ ap (λ l. filled l table) (sym (map-append signed_of c.loop-one.yielded (c.in-Some.one ∷ [])))
