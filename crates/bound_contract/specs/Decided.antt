-- What is decided of a declared bound.
use Rattle.std.specs.Prelude.{◌≡◌, ◌<◌, ◌*◌, ◌↔◌, ℕ, suc, ℤ, cond, List, [], ◌∷◌, length, slice_get, Option, None, Some, option_map, true}
use Rattle.raml_syntax.specs.Tree.{Prog}
use Rattle.call_groups.specs.Groups.{AreInOrder}
use Rattle.linear_rows.specs.Systems.{Refutes}
use Rattle.farkas_check.specs.Checks.{EachPasses, refuting}
use Rattle.share_normal.specs.Program as s
use Rattle.annot_types.specs.Program.{Program, blocker_of}
use Rattle.annot_types.specs.Certificate as a
use Rattle.annot_types.specs.Certificate.{Block, Certificate, has_work}
use Rattle.annot_types.specs.Held.{is_for_function, done_before, scale_for, Held}
use Rattle.rules_plan.specs.Read.{program_in}
use Rattle.other_blocks.specs.Over.{Over}
use Rattle.other_blocks.specs.Other.{IsTried}
use Rattle.bound_file.specs.Lines.{Line}
use Rattle.bound_contract.specs.Kept.{system_there, KeepsThere, NoneKeepsThere}

-- kept, by a block; not kept, by a vector; or not tried, since the function is called
pub data Decided : Type 0 where
  Kept : Over → Decided
  NotKept : List ℤ → Decided
  Calls : ℕ → Decided

-- the place of the first of these blocks that is of the line's meter, for the group of its function
abbrev pub own_place : Program → Line → List Block → Option ℕ
own_place P line [] = None
own_place P line (b ∷ bs) = cond (is_for_function P line.meter line.fun b) (Some 0) (option_map suc (own_place P line bs))

-- The certificate's block for the line's meter and the group of its function stands at this place.
pub record IsOwn (P : Program) (c : Certificate) (line : Line) (place : ℕ) (own : Block) : Type 0 where
  pub first : own_place P line c.blocks ≡ Some place
  pub there : slice_get c.blocks place ≡ Some own

module _ (program : s.Kept) (c : Certificate) (line : Line) (place : ℕ) (own : Block) where
  -- The certificate's block was tried. The block is of its task, stands over the certificate's scale times t, holds in
  -- its place, and lies under the line.
  pub record IsKept (o : Over) : Type 0 where
    pub tried : IsTried own.body
    pub program_is : o.program ≡ program
    pub degree : o.degree ≡ c.degree
    pub task_is : o.block.task ≡ own.task
    pub t : ℕ
    pub scale : o.scale ≡ scale_for c own.task.kind * t
    pub keeps : KeepsThere (program_in program) c place own.task line o.block t

  -- The certificate's block was tried. Nothing holds in its place under the line, and the vector passed the check that
  -- it refutes the line's system.
  pub record IsNotKept (y : List ℤ) : Type 0 where
    pub tried : IsTried own.body
    pub none : NoneKeepsThere (program_in program) c place own.task line
    pub refutes : Refutes (system_there (program_in program) c place own.task line) y
    pub passes : EachPasses (refuting (system_there (program_in program) c place own.task line) y)

  abbrev pub IsDecided : Decided → Type 0
  IsDecided (Kept o) = IsKept o
  IsDecided (NotKept y) = IsNotKept y
  IsDecided (Calls f) = own.body ≡ a.Calls f

  -- Only one of the three is so.
  pub record OneIsDecided : Type 0 where
    pub not_both : (o : Over) (y : List ℤ) → IsKept o → IsNotKept y → ⊥
    pub kept_tried : (o : Over) (f : ℕ) → IsKept o → own.body ≡ a.Calls f → ⊥
    pub not_kept_tried : (y : List ℤ) (f : ℕ) → IsNotKept y → own.body ≡ a.Calls f → ⊥

abbrev pub DecidedOnce : Type 0
DecidedOnce = (program : s.Kept) (c : Certificate) (line : Line) (place : ℕ) (own : Block) → OneIsDecided program c line place own

-- A block waits exactly where the schedule says so.
abbrev pub CallsExactly : Type 0
CallsExactly =
    (P : Program) (c : Certificate) → Held P c → (place : ℕ) (own : Block) → slice_get c.blocks place ≡ Some own → (f : ℕ) →
    (own.body ≡ a.Calls f) ↔ (blocker_of P own.task (done_before c place) ≡ Some f)

-- Of a certificate that is held and counts work there is one such block for each function of the program and each meter.
abbrev pub OwnsAreThere : Type 0
OwnsAreThere =
    (S : Prog) (P : Program) → AreInOrder S [] P.groups → (c : Certificate) → Held P c →
    has_work c ≡ true → (line : Line) → line.fun < length S →
    (place : ℕ) × (own : Block) × IsOwn P c line place own

abbrev pub OneOwn : Type 0
OneOwn =
    (P : Program) (c : Certificate) (line : Line) (place other : ℕ) (own one : Block) →
    IsOwn P c line place own → IsOwn P c line other one →
    (place ≡ other) × (own ≡ one)
