use Rattle.std.proofs.Common.{map}
use Rattle.raml_syntax.specs.Read.{function_of, program_of}
use Rattle.price_file.specs.Read.{prices_of}
use Rattle.price_file.proofs.CostSame.{costs_prices}
use Rattle.price_file.proofs.Checked.{typed_made, small_made, made_is, limits_answered, nodes_answered}
use Rattle.price_file.proofs.program.apply.Goals as goal

pub returns-in_err-funs-clause-costs : goal.returns-in_err-funs-clause-costs
returns-in_err-funs-clause-costs c = costs_prices (prices_of c.args.prices.now) (program_of c.args.typed.now)

pub check_typed-requires-clause-typed : goal.check_typed-requires-clause-typed
check_typed-requires-clause-typed c =
    typed_made (prices_of c.args.prices.now) (program_of c.args.typed.now) (map function_of c.in_ok-funs.funs.items)
    (made_is (prices_of c.args.prices.now) c.args.typed.now c.program.result.now c.deref.result.now c.in_ok-funs.funs.items c.program.ensures.program c.deref.ensures.value c.in_ok-funs.ensures)
    c.program.ensures.typed

pub check_typed-requires-clause-small : goal.check_typed-requires-clause-small
check_typed-requires-clause-small c =
    small_made (prices_of c.args.prices.now) (program_of c.args.typed.now) (map function_of c.in_ok-funs.funs.items)
    (made_is (prices_of c.args.prices.now) c.args.typed.now c.program.result.now c.deref.result.now c.in_ok-funs.funs.items c.program.ensures.program c.deref.ensures.value c.in_ok-funs.ensures)
    c.program.ensures.small

pub returns-clause-costs : goal.returns-clause-costs
returns-clause-costs c = costs_prices (prices_of c.args.prices.now) (program_of c.args.typed.now)

pub returns-clause-limits : goal.returns-clause-limits
returns-clause-limits c =
    limits_answered (prices_of c.args.prices.now) (program_of c.args.typed.now) (map function_of c.in_ok-funs.funs.items) c.check_typed.result c.args.prices.now.small
    (made_is (prices_of c.args.prices.now) c.args.typed.now c.program.result.now c.deref.result.now c.in_ok-funs.funs.items c.program.ensures.program c.deref.ensures.value c.in_ok-funs.ensures)
    c.check_typed.ensures

pub returns-clause-nodes : goal.returns-clause-nodes
returns-clause-nodes c =
    nodes_answered (prices_of c.args.prices.now) (program_of c.args.typed.now) (map function_of c.in_ok-funs.funs.items) c.check_typed.result
    (made_is (prices_of c.args.prices.now) c.args.typed.now c.program.result.now c.deref.result.now c.in_ok-funs.funs.items c.program.ensures.program c.deref.ensures.value c.in_ok-funs.ensures)
    c.check_typed.ensures
