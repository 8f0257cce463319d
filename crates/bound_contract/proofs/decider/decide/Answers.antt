use Rattle.std.proofs.Common.{subst}
use Rattle.std.specs.Prelude.{IfOk, IfErr, ℤ, List, Option, ℕ}
use Rattle.simplex_checked.specs.Choosing.{AnswersBy}
use Rattle.cert_check.specs.Checked.{Checking}
use Rattle.bound_contract.specs.Asked.{OfLine, Decides, ComesFirst}
use Rattle.bound_contract.specs.Read.{decided_of, place_of, OfPlace}
use Rattle.bound_contract.proofs.decider.decide.Goals as goal

pub returns-clause-decided : goal.returns-clause-decided
returns-clause-decided g c =
    subst (λ (x : Checking). IfOk c.decide.result (λ decision. OfLine c.args.declared.now c.args.line (λ l. Decides x l (decided_of decision)))) c.new.ensures c.decide.ensures.decided

pub returns-clause-first : goal.returns-clause-first
returns-clause-first g c =
    subst (λ (x : Checking). IfErr c.decide.result (λ fault. (pick : List ℤ → ℤ → Option ℕ) → AnswersBy g.F.Fn c.args.chooser.now pick →
    OfPlace (place_of fault) (λ place. OfLine c.args.declared.now c.args.line (λ l. ComesFirst x l pick place)))) c.new.ensures c.decide.ensures.first
