-- What the code's prices and its answers are as plain data.
use Rattle.std.specs.Prelude.{◌≡◌, ℕ, Option, Result, Ok, Err}
use Rattle.std.specs.Global.{Box}
use Rattle.raml_syntax.specs.Tree.{Term, Terms, Function}
use Rattle.raml_syntax.specs.Read.{term_of}
use Rattle.raml_syntax.specs.declared.tree.Expr.{Expr}
use Rattle.price_file.specs.Construct.{Construct, Prices}
use Rattle.price_file.specs.Listed.{Listed, listed_at, or_free}
use Rattle.price_file.specs.Applied.{behind_ticks, applied, applied_all, applied_function}
use Rattle.price_file.specs.declared.prices.Prices as p
use Rattle.price_file.specs.declared.node.Maker.{Maker}
use Rattle.price_file.specs.declared.fault.PriceFault.{PriceFault}

abbrev pub listed_in : p.Prices → Construct → Option ℕ
listed_in prices construct = listed_at prices.listed construct

-- the price of each construct
abbrev pub prices_of : p.Prices → Prices
prices_of prices construct = or_free (listed_in prices construct)

-- these prices are what was read, or this fault is
abbrev pub Reads : Result p.Prices PriceFault → Result Listed PriceFault → Type 0
Reads (Ok prices) read = read ≡ Ok prices.listed
Reads (Err fault) read = read ≡ Err fault

-- the same, where the prices are left in place
abbrev pub Leaves : Result (Unit {0}) PriceFault → p.Prices → Result Listed PriceFault → Type 0
Leaves (Ok done) prices read = read ≡ Ok prices.listed
Leaves (Err fault) prices read = read ≡ Err fault

-- the expression in a box
abbrev pub term_in : Box Expr → Term
term_in e = term_of e.value

-- a node of the construct behind its price, and expressions in which all nodes are, by what nodes are made with
abbrev pub behind_price : Maker → Construct → ℕ → Term → Term
behind_price maker construct = behind_ticks (prices_of maker.prices.now construct)

abbrev pub applied_by : Maker → Term → Term
applied_by maker = applied (prices_of maker.prices.now)

abbrev pub all_applied_by : Maker → Terms → Terms
all_applied_by maker = applied_all (prices_of maker.prices.now)

-- the function with another body
abbrev pub with_body : Function → Term → Function
with_body g body = record { at = g.at; name = g.name; params = g.params; result = g.result; body = body }

abbrev pub function_applied_by : Maker → Function → Function
function_applied_by maker = applied_function (prices_of maker.prices.now)
