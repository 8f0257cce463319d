use Rattle.std.proofs.Common.{ap, Some}
use Rattle.bound_file.specs.Strip.{lent_bytes}
use Rattle.bound_file.proofs.Stripped.{text_told}
use Rattle.bound_file.proofs.matching.is_text_of.Goals as goal

pub returns : goal.returns
returns c =
    text_told c.args.text.now c.args.tuple.now _ c.degree.result c.is_at_end.result (Some c.as_bytes.result.now) (lent_bytes c.strip.result) (lent_bytes c.strip_entries-rest.result) (lent_bytes c.strip-2.result)
    c.degree.ensures c.if-degree-eq0.false c.parts.ensures (ap Some c.as_bytes.ensures.value) c.strip.ensures c.strip_entries-rest.ensures c.strip-2.ensures c.is_at_end.ensures
