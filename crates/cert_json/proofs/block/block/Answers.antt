use Rattle.std.proofs.Common.{◌≡◌, IfOk, ap, subst, ◌∙◌}
use Rattle.std.specs.Prelude.{option_map, option_and_then}
use Rattle.serde_json.specs.View.{view}
use Rattle.cert_json.specs.Read.{block_of}
use Rattle.cert_json.specs.Reading.{number_of}
use Rattle.cert_json.specs.ReadPieces.{pieces_of}
use Rattle.cert_json.specs.Pieces.{block_from, block_pieces}
use Rattle.cert_json.proofs.Keyed.{pieces_read}
use Rattle.cert_json.proofs.block.block.Goals as goal

pub returns-in-Some : goal.returns-in-Some
returns-in-Some c =
    let d = view c.args.value.now in
    let found = subst (λ o. option_map pieces_of o ≡ block_pieces c.args.work d) c.in-Some.is c.in_ok-pieces.ensures in
    subst (λ read. IfOk c.whole.result (λ o. option_map block_of o ≡ read)) (ap (option_and_then (block_from number_of)) found ∙ pieces_read number_of c.args.work d) c.whole.ensures
