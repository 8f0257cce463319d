use Rattle.std.proofs.Common.{◌≤◌, ◌≡◌, ◌-◌, length, Some, sym, ap, ◌∙◌, arith}
use Rattle.std.proofs.lemmas.Bool.Decides.{nat_tests}
use Rattle.cost_free.proofs.Listed.{listed, joined_there, none_there}
use Rattle.cost_free.proofs.target.TargetList.get.Goals as goal

pub returns-in_ok-tuples-in-Some : goal.returns-in_ok-tuples-in-Some
returns-in_ok-tuples-in-Some c =
    let units = c.self.inside.units in
    let look = c.in-Some.ensures.lookup in
    let low : length units.items ≤ c.args.number = omega (arith, c.if-number-len.false, c.len.ensures, units.ok.0) in
    let place : c.args.number - c.len-2.result ≡ c.args.number - length units.items = omega (arith, c.len-2.ensures, units.ok.0) in
    let all = sym c.self.view_is ∙ ap (listed units.items) (sym c.deref.ensures.value) in
    ap Some c.in_ok-tuples-in-Some.ensures ∙ joined_there units.items c.deref.result.now _ c.in-Some.joined.now c.args.number _ all low place look.3.0 look.1

pub returns-in-None : goal.returns-in-None
returns-in-None c =
    let units = c.self.inside.units in
    let low : length units.items ≤ c.args.number = omega (arith, c.if-number-len.false, c.len.ensures, units.ok.0) in
    let place : c.args.number - c.len-2.result ≡ c.args.number - length units.items = omega (arith, c.len-2.ensures, units.ok.0) in
    let past : length c.deref.result.now ≤ c.args.number - c.len-2.result = grind (arith, nat_tests, c.in-None.ensures.lookup.0) in
    none_there units.items c.deref.result.now _ c.args.number _ (sym c.self.view_is ∙ ap (listed units.items) (sym c.deref.ensures.value)) low place past
