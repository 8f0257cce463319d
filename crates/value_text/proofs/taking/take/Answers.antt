use Rattle.std.proofs.Common.{length}
use Rattle.value_text.specs.Held.{held}
use Rattle.value_text.specs.Tokens.{token_of}
use Rattle.value_text.specs.State.{AllBelow}
use Rattle.value_text.proofs.Returned.{value_if_goal, on_ok_at}
use Rattle.value_text.proofs.taking.take.Goals as goal

pub returns-in-Value-clause-taken : goal.returns-in-Value-clause-taken
returns-in-Value-clause-taken c =
    value_if_goal c.args.goal c.in-Value.ty c.in-Value.level (token_of c.args.token) c.args.goals.now.items c.take_value.new.goals.items c.args.words.now.items c.take_value.new.words.items c.take_value.result (held c.args.heap.now.cells) c.in-Value.is c.requires.sane c.requires.fits.1 c.take_value.ensures.verdict c.take_value.ensures.goals c.take_value.ensures.values

pub returns-in-Value-clause-below : goal.returns-in-Value-clause-below
returns-in-Value-clause-below c = on_ok_at (λ n. AllBelow n c.args.words.now.items) (λ n. AllBelow n c.take_value.new.words.items) c.take_value.result (length c.args.heap.now.cells) c.requires.words c.take_value.ensures.below

pub returns-in-First-clause-below : goal.returns-in-First-clause-below
returns-in-First-clause-below c = on_ok_at (λ n. AllBelow n c.args.words.now.items) (λ n. AllBelow n c.take_first.new.words.items) c.take_first.result (length c.args.heap.now.cells) c.requires.words c.take_first.ensures.below
