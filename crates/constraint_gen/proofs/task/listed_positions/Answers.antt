use Rattle.std.proofs.Common.{◌≡◌, ◌∙◌, [], ap, length, slice_index_or}
use Rattle.std.specs.Prelude.{filter}
use Rattle.std.specs.List.{list_any, range_with_len}
use Rattle.std.specs.Option.{unwrap_or}
use Rattle.raml_syntax.specs.Read.{ty_of}
use Rattle.base_poly.specs.Plain.{alike}
use Rattle.base_poly.specs.Read.{context_of}
use Rattle.base_poly.specs.Indices.{index_list}
use Rattle.cost_free.specs.Target.{targets}
use Rattle.constraint_gen.proofs.Functions.{positions_first, got_or}
use Rattle.constraint_gen.proofs.task.listed_positions.Goals as goal

pub returns-in_ok-found-in-len1-up : goal.returns-in_ok-found-in-len1-up
returns-in_ok-found-in-len1-up c =
    let found : c.in_ok-found-in-len1-up.found.items ≡ filter (λ k. list_any (alike (slice_index_or (index_list (context_of c.args.types.now) c.args.budget) k [])) c.tuples_of.result.now) (range_with_len 0 (length (index_list (context_of c.args.types.now) c.args.budget))) = c.in_ok-found-in-len1-up.ensures in
    let tuples : c.tuples_of.result.now ≡ slice_index_or (targets (ty_of c.ty-item.result) c.args.d) c.args.number [] =
    c.tuples_of.ensures ∙ ap (λ t. unwrap_or t []) c.in_ok-target-in-len1-up.ensures ∙ got_or (targets (ty_of c.ty-item.result) c.args.d) c.args.number in
    found ∙ ap (λ ts. filter (λ k. list_any (alike (slice_index_or (index_list (context_of c.args.types.now) c.args.budget) k [])) ts) (range_with_len 0 (length (index_list (context_of c.args.types.now) c.args.budget)))) tuples
    ∙ positions_first c.args.types.now c.ty-item.result c.args.d c.args.budget c.args.number c.in-len1-up.len_at_least c.ty-item.is
