use Rattle.std.proofs.Common.{◌≡◌, ◌++◌, drop}
use Rattle.raml_syntax.specs.Read.{program_of}
use Rattle.call_groups.specs.Read.{ids_of}
use Rattle.parse_table.specs.Read.{pieces}
use Rattle.explain_edits.specs.Read.{edits_of}
use Rattle.explain_supply.specs.Insertions.{edits, edits_from}
use Rattle.explain_supply.specs.Read.{names_of, place_of}
use Rattle.explain_supply.proofs.insertions.insertions.Given as goal

abbrev pub invariant-loop-token : goal.invariant-loop-token
invariant-loop-token l =
    edits_of l.edits.items ++ edits_from (program_of l.group.program.now) (ids_of l.group.funs.now) (names_of l.names) (place_of l.place)
    (pieces (drop l.token-index l.tokens))
    ≡ edits (program_of l.group.program.now) (ids_of l.group.funs.now) (names_of l.names) (pieces l.tokens)
