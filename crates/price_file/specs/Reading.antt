-- How a text of prices is read, line by line.
use Rattle.std.specs.Prelude.{ℕ, suc, Bool, nat_le, ◌&&◌, List, [], ◌∷◌, length, cond, Option, Some, None, is_some}
use Rattle.std.specs.Prelude.{Result, Ok, Err}
use Rattle.std.specs.Str.{bytes_eq, all_ascii_digits}
use Rattle.std.specs.Str.Parse.{digits_value}
use Rattle.raml_syntax.specs.Tree.{Text}
use Rattle.raml_syntax.specs.Cut.{cut_at}
use Rattle.price_file.specs.Construct.{Construct, name_of, constructs}
use Rattle.price_file.specs.Listed.{Listed, listed_at, listing}
use Rattle.price_file.specs.declared.fault.PriceFault.{PriceFault}
use Rattle.price_file.specs.declared.fault.PriceFault.TheVariants.{Shape, Twice}

-- the first of the constructs with this name
abbrev pub named_among : Text → List Construct → Option Construct
named_among word [] = None
named_among word (construct ∷ rest) = cond (bytes_eq (name_of construct) word) (Some construct) (named_among word rest)

abbrev pub named : Text → Option Construct
named word = named_among word constructs

-- one to seven digits
abbrev pub is_short : Text → Bool
is_short digits = (nat_le 1 (length digits) && nat_le (length digits) 7) && all_ascii_digits digits

-- the number, where it is a price
abbrev pub price_read : Text → Option ℕ
price_read digits = cond (is_short digits) (cond (nat_le (digits_value 10 digits) 1000000) (Some (digits_value 10 digits)) None) None

abbrev pub entry_with : Option Construct → Option ℕ → Option (Construct × ℕ)
entry_with (Some construct) (Some price) = Some (construct, price)
entry_with _ _ = None

abbrev pub entry_from : Option (Text × Text) → Option (Construct × ℕ)
entry_from None = None
entry_from (Some parts) = entry_with (named parts.0) (price_read parts.1)

-- the text begins with this line and its line feed, and this is behind it; or it is the line, and nothing is behind it
abbrev pub first_of : Text → Option (Text × Text) → Text × Text
first_of text None = (text, [])
first_of text (Some parts) = parts

-- the construct and the price that a line sets
abbrev pub entry_of : Text → Option (Construct × ℕ)
entry_of line = entry_from (cut_at 32 line)

-- the list with the entry of the line of this number, or its fault
abbrev pub with_entry : Listed → ℕ → Option (Construct × ℕ) → Result Listed PriceFault
with_entry list number None = Err (Shape number)
with_entry list number (Some entry) = cond (is_some (listed_at list entry.0)) (Err (Twice number)) (Ok (listing list entry.0 entry.1))

-- after a fault nothing is read
abbrev pub and_then : Result Listed PriceFault → (Listed → Result Listed PriceFault) → Result Listed PriceFault
and_then (Err fault) next = Err fault
and_then (Ok list) next = next list

-- what these lines, behind so many others, make of what was read before
abbrev pub read_lines : Result Listed PriceFault → ℕ → List Text → Result Listed PriceFault
read_lines before number [] = before
read_lines before number (line ∷ lines) =
    read_lines (and_then before (λ list. with_entry list (suc number) (entry_of line))) (suc number) lines
