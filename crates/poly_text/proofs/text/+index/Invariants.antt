use Rattle.std.proofs.Common.{◌≡◌, ◌++◌, cond, drop, string_bytes}
use Rattle.base_poly.specs.Plain.{many}
use Rattle.base_poly.specs.Read.{plains_of}
use Rattle.poly_text.specs.Text.{entries_text, more_entries}
use Rattle.poly_text.proofs.text.+index.Given as goal

abbrev pub invariant-write_entries-loop-entry : goal.invariant-write_entries-loop-entry
invariant-write_entries-loop-entry l =
    string_bytes l.out ++ cond l.first (entries_text (many (plains_of (drop l.entry-index l.entries)))) (more_entries (many (plains_of (drop l.entry-index l.entries))))
    ≡ string_bytes l.fn.out ++ entries_text (many (plains_of l.entries))
