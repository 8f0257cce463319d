use Rattle.std.proofs.Common.{◌≡◌, ◌<◌, ◌^◌, length, sym, subst, arith}
use Rattle.price_file.specs.Spelling.{Table, Spells, FirstFault, prices_in}
use Rattle.price_file.specs.Read.{prices_of}
use Rattle.refusal_text.specs.declared.plain.Which.TheVariants as w
use Rattle.refusals.specs.Line.{no_names}
use Rattle.raml_promise.specs.Outside.{store_of}
use Rattle.raml_promise.specs.Prices.{PricesRefuse}
use Rattle.raml_parts.specs.Parts.{FileRefuses, PriceFileRefuses}
use Rattle.raml_parts.proofs.Stepping.{refuses_map, by_file, by_bytes}
use Rattle.raml_parts.proofs.Refusing.{prices_refuse}
use Rattle.raml_top.proofs.prices.read_prices.Goals as goal

pub read-requires : goal.read-requires
read-requires g c =
    let short = (c.in-Ok.ensures.ok (g.S.Store.faults c.args.store.now)).short in
    let few : length c.in-Ok.bytes.items < 2 ^ 31 = omega (arith, short) in
    subst (λ bytes. length bytes < 2 ^ 31) (sym c.deref.ensures.value) few

pub returns-in-Ok-read-clause-ok : goal.returns-in-Ok-read-clause-ok
returns-in-Ok-read-clause-ok g c before =
    let told = subst (λ bytes. (table : Table) × Spells bytes table × (prices_of c.in-Ok-read.prices ≡ prices_in table)) c.deref.ensures.value c.in-Ok-read.ensures.table in
    record { bytes = c.in-Ok.bytes.items; within = c.in-Ok.ensures.ok before; table = told.0; spelled = told.1; are = told.2 }

pub returns-in-Ok-clause-err : goal.returns-in-Ok-clause-err
returns-in-Ok-clause-err g c before earlier =
    let store = store_of (g.S.Store.holds c.args.store.now) before (g.S.Store.faults c.read_file.new.store) in
    let bytes = c.in-Ok.bytes.items in
    refuses_map no_names (PricesRefuse bytes) (PriceFileRefuses store c.args.file.now) (by_bytes store w.Prices c.args.file.now PricesRefuse Spells bytes (c.in-Ok.ensures.ok before)) c.price_refusal.result
    (prices_refuse bytes c.in-Err-read.fault (subst (λ b. FirstFault b c.in-Err-read.fault) c.deref.ensures.value c.in-Err-read.ensures.fault) c.price_refusal.result c.price_refusal.ensures)

pub returns-clause-err : goal.returns-clause-err
returns-clause-err g c before earlier =
    let store = store_of (g.S.Store.holds c.args.store.now) before (g.S.Store.faults c.read_file.new.store) in
    refuses_map no_names (FileRefuses store w.Prices c.args.file.now) (PriceFileRefuses store c.args.file.now) (by_file store w.Prices c.args.file.now PricesRefuse Spells) c.in-Err.refusal (c.in-Err.ensures.err before earlier)
