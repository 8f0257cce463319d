use Rattle.std.proofs.Common.{◌≡◌, ◌<◌, ◌++◌, ◌∷◌, [], true, length, rules, arith}
use Rattle.std.proofs.lemmas.Bool.Decides.{nat_tests}
use Rattle.annot_types.specs.System.{is_kept}
use Rattle.rules_spec.specs.Solving.{row_of}
use Rattle.rules_spec.specs.CappedRows.{within}
use Rattle.constraint_gen.specs.Heard.{Heard, pair}
use Rattle.constraint_gen.proofs.Collected.{heard_is}
use Rattle.constraint_gen.proofs.collector.Collector.take.Goals as goal

pub returns-in_ok-push : goal.returns-in_ok-push
returns-in_ok-push c =
    let h : Heard = record { unknowns = c.self.inside.unknowns; rows = c.self.inside.rows.items } in
    let sides = pair c.args.left.now c.args.right.now in
    let room : length h.rows < 2001 = grind (arith, nat_tests, c.if-len-le2000.true, c.len.ensures) in
    let keep : is_kept (row_of h.unknowns sides) ≡ true = search rules in
    let items : c.push.new.self.items ≡ h.rows ++ within (row_of h.unknowns sides) ∷ [] = search rules in
    rw (← c.self.view_is) (heard_is h c.args.left.now c.args.right.now c.push.new.self.items room keep items)
