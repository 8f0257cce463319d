-- Lists whose elements have one index: one index of each length.
use Rattle.std.specs.Prelude.{ℕ, ◌+◌, ◌-◌, nat_lt, cond, Bool, true, false, [], ◌∷◌, map}
use Rattle.std.specs.List.{range_with_len}
use Rattle.raml_syntax.specs.Tree.{Type', Integer, Boolean, ListOf}
use Rattle.index_shift.specs.Lift.{Middle}
use Rattle.index_shift.specs.Local.{Alone}
use Rattle.index_shift.specs.declared.lift.Target.{Target}

abbrev pub has_one : Type' → Bool
has_one Integer = true
has_one Boolean = true
has_one _ = false

abbrev pub has_lengths : Type' → Bool
has_lengths (ListOf A) = has_one A
has_lengths _ = false

-- the index of a length, alone and behind one of an element
abbrev pub length_target : ℕ → Target
length_target n = record { place = n; degree = n; times = 1 }

-- to what it is carried where the list is taken apart, and where it leaves
abbrev pub opened_at : ℕ → Middle
opened_at n = record { degree = n; targets = cond (nat_lt 0 n) (length_target (n - 1) ∷ length_target n ∷ []) (length_target 0 ∷ []) }

abbrev pub left_at : ℕ → Middle
left_at n = record { degree = n; targets = cond (nat_lt 0 n) [] (length_target 0 ∷ []) }

abbrev pub lists_opened : ℕ → Alone
lists_opened d =
    record {
      degree = d;
      old = range_with_len 0 (d + 1);
      new = range_with_len 0
          (d + 1);
      middles = map opened_at (range_with_len 0 (d + 1));
    }

abbrev pub lists_left : ℕ → Alone
lists_left d = record { degree = d; old = range_with_len 0 (d + 1); new = 0 ∷ []; middles = map left_at (range_with_len 0 (d + 1)) }
