use Rattle.std.proofs.Common.{rules, ◌≡◌, [], ◌∷◌}
use Rattle.explain_faults.specs.Repairs.{IsRepair}
use Rattle.explain_faults.proofs.Single.{all_one}
use Rattle.explain_faults.proofs.insight.offered.Goals as goal

pub returns-in_ok-push-in-Some : goal.returns-in_ok-push-in-Some
returns-in_ok-push-in-Some c =
    let mends : IsRepair c.args.source.now c.args.fault.now c.in-Some.action = search rules in
    let one : c.push.new.self.items ≡ c.in-Some.action ∷ [] = search rules in
    all_one (IsRepair c.args.source.now c.args.fault.now) c.in-Some.action mends c.push.new.self.items one
