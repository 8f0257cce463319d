-- The fault that is reported where reading stops.
use Rattle.std.specs.Prelude.{◌≡◌, ℕ}
use Rattle.parse_spec.specs.declared.Kind.{Kind}
use Rattle.parse_spec.specs.declared.Kind.TheVariants as d
use Rattle.parse_table.specs.Read.{pieces}
use Rattle.parse_table.specs.declared.stop.Stop.{Stop}
use Rattle.parse_table.specs.declared.stop.Stop.TheVariants as f
use Rattle.raml_parse.specs.Spelling.{place_in}
use Rattle.raml_parse.specs.declared.fault.ParseFault.{ParseFault}
use Rattle.raml_parse.specs.declared.fault.ParseFault.TheVariants as p

-- the fault is of this kind, at this place
abbrev pub IsAt : Kind → ℕ → ParseFault → Type 0
IsAt d.Syntax place (p.Syntax at) = at.0 ≡ place
IsAt d.TooDeep place (p.TooDeep at) = at.0 ≡ place
IsAt d.TooMany place (p.TooMany at) = at.0 ≡ place
IsAt k place fault = ⊥

-- the fault of a text of this length
abbrev pub Reports : ℕ → Stop → ParseFault → Type 0
Reports end (f.Fault k u) fault = IsAt k (place_in end (pieces u.now)) fault
Reports end f.NoMemory fault = fault ≡ p.NoMemory
