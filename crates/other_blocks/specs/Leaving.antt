-- Which blocks leave 127 bits where their numbers are multiplied.
use Rattle.std.specs.Prelude.{◌≡◌, ℕ, suc, ℤ, ◌*ℤ◌, unsigned_abs, Bool, true, false, cond, not, ◌&&◌, List, [], ◌∷◌, slice_get, Option}
use Rattle.std.specs.Prelude.{None, Some, option_map}
use Rattle.std.specs.List.{list_all}
use Rattle.cost_free.specs.declared.task.Meter.{Meter}
use Rattle.cost_free.specs.Blocked.{is_for_meter}
use Rattle.annot_types.specs.Certificate as c
use Rattle.annot_types.specs.Certificate.{Entries, Sig, Hint, Body, Solved, Block, Certificate}
use Rattle.annot_types.specs.Held.{before, scale_of}
use Rattle.rules_spec.specs.CappedRows.{fits}
use Rattle.infer_spec.specs.States.{State}
use Rattle.infer_spec.specs.Places.{IsOfMeter}

-- the blocks of a certificate before a place, at its scales
abbrev pub state_before : Certificate → ℕ → State
state_before c place = record { blocks = before c place; scales = λ meter. unsigned_abs (scale_of c meter) }

-- no block is solved with cost of the meter
abbrev pub NoneSolved : Meter → List Block → Type 0
NoneSolved meter bs = (k : ℕ) (block : Block) → slice_get bs k ≡ Some block → IsOfMeter meter block → ⊥

-- Whether numbers times t are of 128 bits

abbrev pub entries_fit : ℤ → Entries → Bool
entries_fit t es = list_all (λ (e : ℕ × ℤ). fits (t *ℤ e.1)) es

abbrev pub sig_fits : ℤ → Sig → Bool
sig_fits t s = entries_fit t s.args && entries_fit t s.result

abbrev pub hint_fits : ℤ → Hint → Bool
hint_fits t (c.Let rs) = list_all (entries_fit t) rs
hint_fits t (c.Share p) = entries_fit t p
hint_fits t (c.Call multiples) = entries_fit t multiples

abbrev pub body_fits : ℤ → Body → Bool
body_fits t (Solved sigs hints) = list_all (sig_fits t) sigs && list_all (list_all (hint_fits t)) hints
body_fits t body = true

abbrev pub is_solved : Body → Bool
is_solved (Solved sigs hints) = true
is_solved body = false

-- a solved block with cost of the meter leaves, where the scale does or a number of it
abbrev pub is_leaving : Meter → ℤ → Bool → Block → Bool
is_leaving meter t scale_fits block =
    (is_for_meter meter block.task.kind && is_solved block.body) && not (scale_fits && body_fits t block.body)

-- the place of the first that leaves
abbrev pub first_leaving : Meter → ℤ → Bool → List Block → Option ℕ
first_leaving meter t scale_fits [] = None
first_leaving meter t scale_fits (b ∷ bs) =
    cond (is_leaving meter t scale_fits b) (Some 0) (option_map suc (first_leaving meter t scale_fits bs))
