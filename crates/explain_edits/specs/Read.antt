-- What the code's edits are as plain data.
use Rattle.std.specs.Prelude.{List, map, string_bytes}
use Rattle.explain_edits.specs.Edits as e
use Rattle.explain_edits.specs.declared.edit.Edit.{Edit}

abbrev pub edit_of : Edit → e.Edit
edit_of edit = record { at = edit.at; length = edit.length; text = string_bytes edit.text }

abbrev pub edits_of : List Edit → List e.Edit
edits_of = map edit_of
