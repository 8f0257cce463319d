use Rattle.std.proofs.Common.{◌≡◌, ◌++◌, cond, drop, string_bytes}
use Rattle.base_poly.specs.Plain.{many}
use Rattle.base_poly.specs.Read.{plains_of}
use Rattle.poly_text.specs.Text.{entries_text, more_entries}
use Rattle.explain_json.proofs.tuple.+index.Given as goal

abbrev pub invariant-push_entries-loop-entry : goal.invariant-push_entries-loop-entry
invariant-push_entries-loop-entry l =
    string_bytes l.text ++ cond l.first (entries_text (many (plains_of (drop l.entry-index l.entries)))) (more_entries (many (plains_of (drop l.entry-index l.entries))))
    ≡ string_bytes l.fn.text ++ entries_text (many (plains_of l.entries))
