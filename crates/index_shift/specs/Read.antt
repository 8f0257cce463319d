-- What the code's ways to carry, its tables and its faults are as plain data.
use Rattle.std.specs.Prelude.{ℕ, ◌≤◌, List, [], ◌∷◌, map, slice_index_or}
use Rattle.smallvec.specs.SmallVec.{SmallVec}
use Rattle.raml_syntax.specs.Tree.{Type'}
use Rattle.raml_syntax.specs.Read.{ty_of}
use Rattle.base_poly.specs.Plain.{Plain, deg}
use Rattle.base_poly.specs.Indices.{IsIndex}
use Rattle.base_poly.specs.declared.fault.IndexFault.{IndexFault}
use Rattle.base_poly.specs.declared.fault.IndexFault.TheVariants as i
use Rattle.index_shift.specs.Maps as m
use Rattle.index_shift.specs.Lift as l
use Rattle.index_shift.specs.declared.carry.Carry.{Carry}
use Rattle.index_shift.specs.declared.carry.Carry.TheVariants.{Open, Leave, Join}
use Rattle.index_shift.specs.declared.lift.Middle.{Middle}
use Rattle.index_shift.specs.declared.lift.Counts.{Counts}
use Rattle.index_shift.specs.declared.fault.MapFault.{MapFault}
use Rattle.index_shift.specs.declared.fault.MapFault.TheVariants.{TooMany, NoMemory}

abbrev pub fault_of : IndexFault → MapFault
fault_of i.TooMany = TooMany
fault_of i.NoMemory = NoMemory

abbrev pub carry_of : Carry → m.Carry
carry_of (Open ty) = m.opens (ty_of ty.now)
carry_of Leave = m.leaves
carry_of Join = m.joins

-- a tuple that can be carried so
abbrev pub CanCarry : Carry → List Plain → Type 0
CanCarry (Open ty) (i ∷ []) = Unit {0}
CanCarry Leave (i ∷ []) = deg i ≤ 4
CanCarry Join (i ∷ j ∷ []) = ((A : Type') × IsIndex i A × IsIndex j A) × ((deg i ≤ 4) × (deg j ≤ 4))
CanCarry _ _ = ⊥

abbrev pub items_of : SmallVec ℕ → List ℕ
items_of v = v.items

-- the number in the row and the column, 0 past the end
abbrev pub table_at : List (SmallVec ℕ) → ℕ → ℕ → ℕ
table_at t h k = slice_index_or (slice_index_or (map items_of t) h []) k 0

abbrev pub counts_of : Counts → l.Counts
counts_of c =
    record {
      before = c.before.now;
      after = λ r. slice_index_or c.after.items r 0;
      first = table_at c.first.items;
      second = table_at c.second.items;
    }

abbrev pub middle_of : Middle → l.Middle
middle_of m = record { degree = m.degree; targets = m.targets.items }

abbrev pub middles_of : List Middle → List l.Middle
middles_of ms = map middle_of ms
