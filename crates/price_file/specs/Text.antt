-- The lines that tell the faults of a table of prices.
use Rattle.std.specs.Prelude.{◌++◌, codes, decimal}
use Rattle.raml_syntax.specs.Tree.{Text}
use Rattle.price_file.specs.declared.fault.PriceFault.{PriceFault}
use Rattle.price_file.specs.declared.fault.PriceFault.TheVariants.{NotUtf8, Shape, Twice}

abbrev pub fault_text : PriceFault → Text
fault_text (NotUtf8 at) = codes "not utf-8 at " ++ decimal at.0
fault_text (Shape line) = (codes "line " ++ decimal line) ++ codes ": shape"
fault_text (Twice line) = (codes "line " ++ decimal line) ++ codes ": twice"

-- the line of a table that is refused
abbrev pub price_line : PriceFault → Text
price_line fault = codes "raml: prices: " ++ fault_text fault ++ codes "\n"
