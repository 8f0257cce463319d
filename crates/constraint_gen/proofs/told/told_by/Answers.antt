use Rattle.std.proofs.Common.{◌≡◌, ◌∙◌, ap, map, pos, sym, subst, unsigned_abs, arith}
use Rattle.linear_rows.specs.Systems.{Solves}
use Rattle.annot_types.specs.Certificate.{Block}
use Rattle.annot_types.specs.Holds.{Holds}
use Rattle.annot_types.specs.Least.{solving}
use Rattle.annot_types.specs.System.{system}
use Rattle.rules_spec.specs.Tasks.{sides_count}
use Rattle.rules_spec.specs.Told as t
use Rattle.rules_spec.specs.Told.{sigs_told, hints_told}
use Rattle.rules_walk.specs.Asks.{asks_of}
use Rattle.rules_plan.specs.Read.{body_of}
use Rattle.constraint_gen.specs.Given.{all_counts, all_answers}
use Rattle.constraint_gen.specs.Numbers.{numbers}
use Rattle.constraint_gen.proofs.Giving.{counts_are, answers_are}
use Rattle.constraint_gen.proofs.Telling.{natural_back}
use Rattle.constraint_gen.proofs.told.told_by.Goals as goal

pub all_hints-requires-clause-room : goal.all_hints-requires-clause-room
all_hints-requires-clause-room c =
    let bs = map body_of c.args.plans.now in
    let asked = ap (map (λ a. asks_of a.items)) c.deref.ensures.value ∙ c.in_ok-asks.ensures in
    let counts = ap all_counts asked ∙ counts_are bs in
    omega (arith, c.in_ok-signatures.ensures.next, counts, c.requires.one_each)

pub returns-clause-hints : goal.returns-clause-hints
returns-clause-hints c =
    let bs = map body_of c.args.plans.now in
    let asked = ap (map (λ a. asks_of a.items)) c.deref.ensures.value ∙ c.in_ok-asks.ensures in
    let next : c.sigs.new.next ≡ sides_count bs = omega (arith, c.in_ok-signatures.ensures.next) in
    c.in_ok-all.ensures.told ∙ ap (map (map t.hint)) ((λ i. all_answers (numbers c.args.solution.now) (next i) (asked i)) ∙ answers_are (numbers c.args.solution.now) (sides_count bs) bs)

pub returns-clause-holds : goal.returns-clause-holds
returns-clause-holds c = λ P d blocks task scale bodies is numbered t positive solves.
    let x = map unsigned_abs c.args.solution.now in
    let sigs = c.in_ok-signatures.ensures.told ∙ ap (λ bs. sigs_told bs x) bodies in
    let hints = returns-clause-hints c ∙ ap (λ bs. hints_told bs x) bodies in
    subst (λ (block : Block). Holds P d blocks scale block t) (sym (λ i. solving task (sigs i) (hints i)))
    (c.solutions_hold.ensures P d blocks task scale t x is numbered positive
    (subst (λ ns. Solves (system P d blocks task scale) ns (pos t)) (sym (natural_back c.args.solution.now solves.natural)) solves))
