use Rattle.raml_syntax.specs.Read.{program_of}
use Rattle.price_file.specs.Read.{prices_of}
use Rattle.raml_promise.specs.Outside.{Sound, store_of}
use Rattle.raml_promise.specs.Promise.{PricesLines}
use Rattle.raml_parts.proofs.Stepping.{prices_go, prices_refusal}
use Rattle.raml_top.proofs.prices.priced_lines.Goals as goal

pub returns-in-Ok-clause-gives : goal.returns-in-Ok-clause-gives
returns-in-Ok-clause-gives g c before earlier =
    prices_go (store_of (g.S.Store.holds c.args.store.now) before (g.S.Store.faults c.read_prices.new.store)) c.args.file.now (PricesLines Sound c.args.degree (program_of c.args.typed.now))
    (prices_of c.in-Ok.prices) (c.in-Ok.ensures.ok before) c.lines_under.result c.lines_under.ensures

pub returns-in-Err-clause-gives : goal.returns-in-Err-clause-gives
returns-in-Err-clause-gives g c before earlier =
    prices_refusal (store_of (g.S.Store.holds c.args.store.now) before (g.S.Store.faults c.read_prices.new.store)) c.args.file.now (PricesLines Sound c.args.degree (program_of c.args.typed.now))
    c.in-Err.refusal (c.in-Err.ensures.err before earlier)
