-- Certificates as plain data.
use Rattle.std.specs.Prelude.{◌≤◌, ◌<◌, ◌<ℤ◌, ◌==◌, if◌then◌else◌, ℕ, suc, ℤ, pos, unsigned_abs, Bool, List, [], ◌∷◌, length, Option}
use Rattle.std.specs.Option.{is_some}
use Rattle.raml_syntax.specs.Tree.{Type'}
use Rattle.base_poly.specs.Indices.{index_list}
use Rattle.index_shift.specs.Potential.{Annotation}
use Rattle.cost_free.specs.Task.{Task, Outcome}
use Rattle.cost_free.specs.declared.task.Done.{Done}
use Rattle.cost_free.specs.declared.task.Done.TheVariants as d

-- The numbers of an annotation by their positions. Each other position has the number 0.
abbrev pub Entries : Type 0
Entries = List (ℕ × ℤ)

-- the number of the first entry at the position
abbrev pub number_at : ℕ → Entries → ℤ
number_at k [] = pos 0
number_at k (e ∷ es) = if e.0 == k then e.1 else number_at k es

-- what the entries are as an annotation; numbers that are not positive stand in no certificate
abbrev pub annotation : Entries → Annotation
annotation es k = unsigned_abs (number_at k es)

-- The positions ascend from this one on, and the numbers are positive.
abbrev pub RiseFrom : ℕ → Entries → Type 0
RiseFrom least [] = Unit {0}
RiseFrom least (e ∷ es) = (least ≤ e.0) × (pos 0 <ℤ e.1) × RiseFrom (suc e.0) es

abbrev pub Rise : Entries → Type 0
Rise es = RiseFrom 0 es

-- They are an annotation of the context at budget d: each has a position there.
abbrev pub Annotates : List Type' → ℕ → Entries → Type 0
Annotates As d [] = Unit {0}
Annotates As d (e ∷ es) = (e.0 < length (index_list As d)) × Annotates As d es

-- of a function: an annotation of its arguments and one of its result
pub record Sig : Type 0 where
  pub args : Entries
  pub result : Entries

-- What a rule leaves open. Let has, for each tuple of the other variables, an annotation of what is bound; Share has the annotation of the
-- context with both copies; Call has numbers of blocks, and how often the signature of each is taken.
pub data Hint : Type 0 where
  Let : List Entries → Hint
  Share : Entries → Hint
  Call : List (ℕ × ℤ) → Hint

-- Solved has a signature and a list of hints for each function of the group; Refuted a vector, by the numbers of its
-- rows; Calls the function that has no bound.
pub data Body : Type 0 where
  Solved : List Sig → List (List Hint) → Body
  Refuted : Entries → Body
  Calls : ℕ → Body

pub record Block : Type 0 where
  pub task : Task
  pub body : Body

-- A certificate of version 1 has no scale of work, and one of version 2 has.
pub record Certificate : Type 0 where
  pub degree : ℕ
  pub ticks_scale : ℤ
  pub cells_scale : ℤ
  pub work_scale : Option ℤ
  pub blocks : List Block

abbrev pub has_work : Certificate → Bool
has_work c = is_some c.work_scale

abbrev pub IsSolved : Body → Type 0
IsSolved (Solved sigs hints) = Unit {0}
IsSolved body = ⊥

-- what a solved block has; none where it is not solved
abbrev pub sigs_of : Body → List Sig
sigs_of (Solved sigs hints) = sigs
sigs_of _ = []

abbrev pub hints_of : Body → List (List Hint)
hints_of (Solved sigs hints) = hints
hints_of _ = []

abbrev pub done_as : Body → Done
done_as (Solved sigs hints) = d.Solved
done_as (Refuted farkas) = d.Refuted
done_as (Calls fun) = d.Calls

-- a block as an outcome of the schedule
abbrev pub outcome : Block → Outcome
outcome block = (block.task, done_as block.body)
