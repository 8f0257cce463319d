use Rattle.std.proofs.Common.{◌≡◌, Some, sym, ap, ◌∙◌, subst}
use Rattle.std.specs.Prelude.{option_map, option_and_then}
use Rattle.serde_json.specs.View.{view}
use Rattle.cert_json.specs.Reading.{number_of, entries_of, in_order}
use Rattle.cert_json.proofs.Inverses.{entries_inverse}
use Rattle.cert_json.proofs.Numbers.{annot_by_order, strict}
use Rattle.cert_json.proofs.reading.annot.Goals as goal

pub returns-in-Some : goal.returns-in-Some
returns-in-Some c =
    let es = c.in-Some.entries.items in
    let read : entries_of number_of (view c.args.value.now) ≡ Some es = sym (subst (λ o. option_map (λ v. v.items) o ≡ entries_of number_of (view c.args.value.now)) c.in-Some.is c.in_ok-entries.ensures) in
    let fit = (entries_inverse strict).sound (view c.args.value.now) es read in
    annot_by_order c.new.result es fit.1.each c.new.ensures.exactly c.new.ensures.all ∙ sym (ap (option_and_then in_order) read)
