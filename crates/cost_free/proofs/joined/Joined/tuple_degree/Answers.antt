use Rattle.std.proofs.Common.{◌≡◌, ◌∙◌, ap, length, arith}
use Rattle.raml_syntax.specs.Read.{ty_of}
use Rattle.base_poly.specs.Plain.{deg, capped}
use Rattle.base_poly.specs.Read.{index_of}
use Rattle.cost_free.specs.Target.{filled, last_piece}
use Rattle.cost_free.specs.Read.{pieces_of}
use Rattle.cost_free.proofs.First.{joined_degree}
use Rattle.cost_free.proofs.joined.Joined.tuple_degree.Goals as goal

pub returns : goal.returns
returns c =
    let j = c.args.self.now in
    let count : c.len.result ≡ length j.places.items = omega (arith, c.len.ensures, j.places.ok.0) in
    joined_degree (ty_of j.ty.now) j.places.items (index_of j.list) _ c.len.result _ j.some count
    (c.in_ok-pieces.ensures ∙ ap (last_piece c.len.result) c.entries.ensures)
    (c.capped_degree.ensures
    ∙ ap (λ i. capped (deg i)) c.in_ok-first.ensures.index
    ∙ (λ k. capped (deg (filled (ty_of j.ty.now) 0 (c.deref.ensures.value k) (pieces_of (c.deref-2.ensures.value k))))))
