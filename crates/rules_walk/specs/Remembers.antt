-- What is kept of the blocks before a task.
use Rattle.std.specs.Prelude.{◌≡◌, ℕ, List, [], length, map, slice_index_or, Option, None, option_map}
use Rattle.cost_free.specs.declared.task.Meter.{Meter}
use Rattle.cost_free.specs.declared.task.Meter.TheVariants.{Ticks, Cells, Work}
use Rattle.annot_types.specs.Program.{Program}
use Rattle.annot_types.specs.Certificate.{Block}
use Rattle.annot_types.specs.Rules.{Setting}
use Rattle.rules_spec.specs.Numbers.{Signature}
use Rattle.rules_spec.specs.Planned.{usable_from}
use Rattle.rules_spec.specs.Found.{free_from, cost_from}
use Rattle.rules_spec.specs.Capped.{cap}
use Rattle.rules_walk.specs.declared.known.Signature.{Signature as Given}
use Rattle.rules_walk.specs.declared.known.Signed.{Signed}
use Rattle.rules_walk.specs.Read.{signature_of, signed}
use Rattle.rules_walk.specs.Filled.{uses_of}
use Rattle.rules_walk.specs.declared.plan.Usage.{Usage}

-- For each block the signatures that it has without cost, for each function the blocks that have one, by ascending
-- number, and for each meter and each function the signature that pays.
pub record Tables : Type 0 where
  pub free : List (List Signed)
  pub usable : List (List Usage)
  pub ticks : List (Option Given)
  pub cells : List (Option Given)
  pub work : List (Option Given)

abbrev pub costs : Tables → Meter → List (Option Given)
costs t Ticks = t.ticks
costs t Cells = t.cells
costs t Work = t.work

abbrev pub free_at : Tables → ℕ → ℕ → Signature
free_at t k f = signed f (slice_index_or t.free k [])

abbrev pub cost_at : Tables → Meter → ℕ → Option Signature
cost_at t meter f = slice_index_or (map (option_map signature_of) (costs t meter)) f None

-- over these blocks, with no group of its own; signatures that pay stand at degree d
abbrev pub over : Program → ℕ → List Block → Setting
over P d earlier = record { program = P; earlier = earlier; group = []; sigs = []; budget = d; scale = 1 }

-- They tell which blocks' signatures a call may take, of each function at each budget.
abbrev pub TellsUses : Program → List Block → Tables → Type 0
TellsUses P earlier t = (f budget : ℕ) → uses_of t.usable budget f ≡ usable_from 0 P budget f earlier

-- The tables tell of the blocks what the rules find there, in an analysis of degree d. They have a place for each function.
pub record Remembers (P : Program) (d : ℕ) (earlier : List Block) (t : Tables) : Type 0 where
  pub count : length t.free ≡ length earlier
  pub functions : length t.usable ≡ length P.funs
  pub paying : (meter : Meter) → length (costs t meter) ≡ length P.funs
  pub free : (k f : ℕ) → free_at t k f ≡ free_from (over P d earlier) k f
  pub usable : TellsUses P earlier t
  pub cost : (meter : Meter) (f : ℕ) → cost_at t meter f ≡ cost_from (over P d earlier) meter f

-- a signature whose numbers stand at the greatest one of 128 bits where they would leave it
abbrev pub capped_signature : Signature → Signature
capped_signature s = record { budget = s.budget; args = map cap s.args; result = map cap s.result }

-- The tables tell of the blocks what walks hear. Of a number that leaves 128 bits, this is the greatest one of 128 bits.
pub record Knows (P : Program) (d : ℕ) (earlier : List Block) (t : Tables) : Type 0 where
  pub free : (k f : ℕ) → free_at t k f ≡ free_from (over P d earlier) k f
  pub cost : (meter : Meter) (f : ℕ) →
      option_map capped_signature (cost_at t meter f) ≡ option_map capped_signature (cost_from (over P d earlier) meter f)
