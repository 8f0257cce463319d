-- Sizes such as `1,2,4,8`.
use Rattle.std.specs.Prelude.{ℕ, ◌+◌, ◌*◌, ◌-◌, Bool, true, false, ◌&&◌, nat_eq, nat_le, nat_lt, cond, List, [], ◌∷◌, ◌++◌}
use Rattle.std.specs.Prelude.{Option, Some, None, option_map, option_and_then, unwrap_or}
use Rattle.std.specs.Global.{Vec}
use Rattle.raml_syntax.specs.Tree.{Text}

-- the number with one digit more: at most 100000
abbrev pub longer : Option ℕ → ℕ → Option ℕ
longer begun digit =
    cond (nat_le 48 digit && nat_le digit 57)
    (cond (nat_lt 100000 (unwrap_or begun 0 * 10 + (digit - 48))) None (Some (unwrap_or begun 0 * 10 + (digit - 48)))) None

-- with one more that is great enough
abbrev pub with_size : List ℕ → ℕ → Option ℕ → Option (List ℕ)
with_size before least None = None
with_size before least (Some n) = cond (nat_lt n least) None (Some (before ++ n ∷ []))

-- The numbers that a text goes on to spell behind others: with commas between, each at least `least` and greater than the one before. The
-- first of them has begun with `begun`.
abbrev pub sizes_on : List ℕ → ℕ → Option ℕ → Text → Option (List ℕ)
sizes_on before least begun [] = with_size before least begun
sizes_on before least begun (c ∷ text) =
    cond (nat_eq c 44) (option_and_then (λ sizes. sizes_on sizes (unwrap_or begun 0 + 1) None text) (with_size before least begun))
    (option_and_then (λ n. sizes_on before least (Some n) text) (longer begun c))

abbrev pub sizes_in : Text → Option (List ℕ)
sizes_in = sizes_on [] 0 None

-- sizes that are found, or not
abbrev pub after : Bool → List ℕ → Option (List ℕ)
after true sizes = Some sizes
after false sizes = None

abbrev pub all_in : Option (Vec ℕ) → Option (List ℕ)
all_in = option_map (λ (sizes : Vec ℕ). sizes.items)
