use Rattle.std.proofs.Common.{◌≡◌, [], ◌∷◌, ◌+◌, cond, drop, subst, sym, ap, ◌∙◌}
use Rattle.base_poly.specs.Plain.{many}
use Rattle.base_poly.specs.Read.{index_of, plains_of}
use Rattle.base_poly.proofs.Many.{as_pair}
use Rattle.poly_text.specs.Text.{index_text, entries_text, more_entries}
use Rattle.bound_file.specs.Strip.{lent_bytes, stripped}
use Rattle.bound_file.proofs.Stripped.{three_stripped, list_stripped, pair_stripped, entry_stripped, entries_at}
use Rattle.bound_file.proofs.matching.+strip.Goals as goal

pub strip_list-returns : goal.strip_list-returns
strip_list-returns t c =
    list_stripped (lent_bytes c.args.text) (lent_bytes c.strip.result) (lent_bytes c.strip_entries-rest.result) (lent_bytes c.strip-2.result) (plains_of c.args.entries.now) c.strip.ensures c.strip_entries-rest.ensures c.strip-2.ensures

pub strip_option-returns : goal.strip_option-returns
strip_option-returns t c =
    three_stripped (lent_bytes c.args.text) (lent_bytes c.strip.result) (lent_bytes c.strip_index-rest.result) (lent_bytes c.strip-2.result) (91 ∷ []) (index_text (index_of c.args.entry.now)) (93 ∷ []) c.strip.ensures c.strip_index-rest.ensures c.strip-2.ensures

pub strip_entries-loop-entry-preserved : goal.strip_entries-loop-entry-preserved
strip_entries-loop-entry-preserved t c =
    let entries = c.args.entries.now in
    let i = c.loop-entry.entry-index in
    let whole = stripped (lent_bytes c.args.text) (entries_text (many (plains_of entries))) in
    let drops = entries_at entries i c.entry-item.result c.loop-entry-test.true c.entry-item.is in
    entry_stripped c.loop-entry.first (lent_bytes c.loop-entry.rest) (lent_bytes c.strip_comma.result) (lent_bytes c.strip_index-rest.result) whole (index_of c.entry-item.result) (plains_of (drop (i + 1) entries))
    (subst (λ is. stripped (lent_bytes c.loop-entry.rest) (cond c.loop-entry.first (entries_text (many is)) (more_entries (many is))) ≡ whole) drops c.loop-entry.invariant)
    c.strip_comma.ensures c.strip_index-rest.ensures

pub strip_index-returns-in-Pair : goal.strip_index-returns-in-Pair
strip_index-returns-in-Pair t c =
    pair_stripped (lent_bytes c.args.text) (lent_bytes c.strip-in-Pair.result) (lent_bytes c.strip_index-rest.result) (lent_bytes c.strip-in-Pair-2.result) (lent_bytes c.strip_index-rest-in-Pair.result) (lent_bytes c.strip-in-Pair-3.result)
    (index_of c.in-Pair.first.value) (index_of c.in-Pair.second.value)
    c.strip-in-Pair.ensures
    (c.strip_index-rest.ensures ∙ ap (λ v. stripped (lent_bytes c.strip-in-Pair.result) (index_text (index_of v))) c.deref.ensures)
    c.strip-in-Pair-2.ensures
    (c.strip_index-rest-in-Pair.ensures ∙ ap (λ v. stripped (lent_bytes c.strip-in-Pair-2.result) (index_text (index_of v))) c.deref-in-Pair.ensures)
    c.strip-in-Pair-3.ensures
    ∙ ap (λ v. stripped (lent_bytes c.args.text) (index_text v)) (sym (as_pair c.args.index.now c.in-Pair.first c.in-Pair.second c.in-Pair.is))
