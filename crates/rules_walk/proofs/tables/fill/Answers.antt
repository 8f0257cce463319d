use Rattle.std.proofs.Common.{◌≡◌, ap, sym, None, Some, option_map, rules, ◌<◌, length}
use Rattle.rules_walk.specs.Read.{signature_of}
use Rattle.rules_walk.specs.Signed.{standing}
use Rattle.rules_walk.proofs.Counting.{changed_at, none_of}
use Rattle.rules_walk.proofs.tables.fill.Goals as goal

pub returns-then-is_none : goal.returns-then-is_none
returns-then-is_none c =
    let s = signature_of c.args.signed.signature in
    let none : c.index.result.now ≡ None = none_of c.index.result.now c.is_none.result c.is_none.ensures c.if-is_none.true in
    let low : c.args.signed.function < length c.args.table.now.items = search rules in
    changed_at (option_map signature_of) (λ o. Some (standing o s)) c.args.table.now.items c.args.signed.function c.index.result.now
    (Some c.args.signed.signature) None low c.index.ensures (sym (ap (λ o. Some (standing (option_map signature_of o) s)) none))
