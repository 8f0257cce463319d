use Rattle.std.proofs.Common.{◌≡◌, cond, drop}
use Rattle.base_poly.specs.Plain.{many}
use Rattle.base_poly.specs.Read.{plains_of}
use Rattle.poly_text.specs.Text.{entries_text, more_entries}
use Rattle.bound_file.specs.Strip.{lent_bytes, stripped}
use Rattle.bound_file.proofs.matching.+strip.Given as goal

abbrev pub invariant-strip_entries-loop-entry : goal.invariant-strip_entries-loop-entry
invariant-strip_entries-loop-entry l =
    stripped (lent_bytes l.rest) (cond l.first (entries_text (many (plains_of (drop l.entry-index l.entries)))) (more_entries (many (plains_of (drop l.entry-index l.entries)))))
    ≡ stripped (lent_bytes l.text) (entries_text (many (plains_of l.entries)))
