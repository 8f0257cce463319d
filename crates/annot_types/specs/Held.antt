-- Certificates that are held, and the lines that they claim.
use Rattle.std.specs.Prelude.{◌≡◌, ◌≤◌, ◌<ℤ◌, ℕ, ℤ, pos, unsigned_abs, List, [], ◌∷◌, map, flat_map, filter, take, length, slice_get}
use Rattle.std.specs.Prelude.{slice_index_or, Option, None, Some, Bool, ◌&&◌}
use Rattle.std.specs.Option.{unwrap_or}
use Rattle.std.specs.List.{range_with_len}
use Rattle.raml_syntax.specs.Tree.{Type'}
use Rattle.base_poly.specs.Indices.{index_list}
use Rattle.base_poly.specs.Poly.{Term}
use Rattle.normal_spec.specs.Norm.{NormFun}
use Rattle.normal_spec.specs.Context.{types}
use Rattle.cost_free.specs.Task as k
use Rattle.cost_free.specs.declared.task.Meter.{Meter}
use Rattle.cost_free.specs.declared.task.Meter.TheVariants.{Ticks, Cells, Work}
use Rattle.cost_free.specs.Task.{Kind, Free, Task, Outcome}
use Rattle.cost_free.specs.Schedule.{meters}
use Rattle.cost_free.specs.Blocked.{is_for_meter, is_among}
use Rattle.annot_types.specs.Program.{Program, members, next_task, blocker_of}
use Rattle.annot_types.specs.Certificate as c
use Rattle.annot_types.specs.Certificate.{Entries, Rise, Sig, Hint, Body, Solved, Refuted, Calls, Block, Certificate, has_work, outcome}
use Rattle.annot_types.specs.Signature.{sig_in}
use Rattle.annot_types.specs.Holds.{Holds}

-- The scale of a meter, 1 where there is none of work.
abbrev pub scale_of : Certificate → Meter → ℤ
scale_of c Ticks = c.ticks_scale
scale_of c Cells = c.cells_scale
scale_of c Work = unwrap_or c.work_scale (pos 1)

-- the scale at which a block stands; a cost-free block pays no prices, and its scale is read nowhere
abbrev pub scale_for : Certificate → Kind → ℕ
scale_for c (Free budget fun target) = 1
scale_for c (k.With meter) = unsigned_abs (scale_of c meter)

-- the blocks before the one at a place, and these as outcomes
abbrev pub before : Certificate → ℕ → List Block
before c place = take place c.blocks

abbrev pub done_before : Certificate → ℕ → List Outcome
done_before c place = map outcome (before c place)

-- The shape of a block's parts: positions, numbers of blocks and numbers of rows ascend, and all other numbers are positive.
abbrev pub AllRise : List Entries → Type 0
AllRise [] = Unit {0}
AllRise (es ∷ rest) = Rise es × AllRise rest

abbrev pub SigsRise : List Sig → Type 0
SigsRise [] = Unit {0}
SigsRise (s ∷ ss) = Rise s.args × Rise s.result × SigsRise ss

abbrev pub HintRises : Hint → Type 0
HintRises (c.Let rs) = AllRise rs
HintRises (c.Share p) = Rise p
HintRises (c.Call multiples) = Rise multiples

abbrev pub HintsRise : List Hint → Type 0
HintsRise [] = Unit {0}
HintsRise (h ∷ hs) = HintRises h × HintsRise hs

abbrev pub AllHintsRise : List (List Hint) → Type 0
AllHintsRise [] = Unit {0}
AllHintsRise (hs ∷ rest) = HintsRise hs × AllHintsRise rest

abbrev pub IsShaped : Body → Type 0
IsShaped (Solved sigs hints) = SigsRise sigs × AllHintsRise hints
IsShaped (Refuted farkas) = Rise farkas
IsShaped (Calls fun) = Unit {0}

-- A task that waits for a function is not tried, and its block names the function; any other task is tried.
abbrev pub NamesBlocker : Option ℕ → Body → Type 0
NamesBlocker (Some f) body = body ≡ Calls f
NamesBlocker None (Calls fun) = ⊥
NamesBlocker None body = Unit {0}

-- A block with cost holds with 1, and a cost-free one with some t.
abbrev pub IsOne : Kind → ℕ → Type 0
IsOne (Free budget fun target) t = Unit {0}
IsOne (k.With meter) t = t ≡ 1

pub record HoldsInPlace (P : Program) (c : Certificate) (place : ℕ) (block : Block) : Type 0 where
  pub t : ℕ
  pub one : IsOne block.task.kind t
  pub holds : Holds P c.degree (before c place) (scale_for c block.task.kind) block t

-- what is said of a block where it is solved
abbrev pub IfSolved : Body → Type 0 → Type 0
IfSolved (Solved sigs hints) claim = claim
IfSolved body claim = Unit {0}

-- The block is that of the schedule, it is not tried exactly where it waits, it is of the right shape, and where it is
-- solved it holds over the blocks before it.
pub record IsInPlace (P : Program) (c : Certificate) (place : ℕ) (block : Block) : Type 0 where
  pub task : next_task P c.degree (has_work c) (done_before c place) ≡ Some block.task
  pub waits : NamesBlocker (blocker_of P block.task (done_before c place)) block.body
  pub shape : IsShaped block.body
  pub holds : IfSolved block.body (HoldsInPlace P c place block)

-- The degree is from 1 to 4, the scales that are there are positive, and the blocks are those of the schedule, each in its place.
pub record Held (P : Program) (c : Certificate) : Type 0 where
  pub least_degree : 1 ≤ c.degree
  pub most_degree : c.degree ≤ 4
  pub scales : (meter : Meter) → pos 0 <ℤ scale_of c meter
  pub blocks : (place : ℕ) (block : Block) → slice_get c.blocks place ≡ Some block → IsInPlace P c place block
  pub ended : next_task P c.degree (has_work c) (map outcome c.blocks) ≡ None

-- What is told of a function and a meter: a polynomial, by its denominator and terms; that there is no bound; or that
-- there is none since a function that is called has none.
pub data Claim : Type 0 where
  Bound : ℕ → List Term → Claim
  NoBound : Claim
  CallsUnbounded : ℕ → Claim

pub record Line : Type 0 where
  pub fun : ℕ
  pub meter : Meter
  pub claim : Claim

-- the terms of an annotation of a context at degree d
abbrev pub terms_of : List Type' → ℕ → Entries → List Term
terms_of As d es = map (λ e. (slice_index_or (index_list As d) e.0 [], unsigned_abs e.1)) es

abbrev pub bound_of : ℕ → ℕ → Option NormFun → Option Sig → List Claim
bound_of scale d (Some g) (Some s) = Bound scale (terms_of (types g.params) d s.args) ∷ []
bound_of scale d _ _ = []

-- what a block with cost tells of a function of its group
abbrev pub claim_of : Program → Certificate → Meter → Block → ℕ → Body → List Claim
claim_of P c meter block f (Solved sigs hints) = bound_of (unsigned_abs (scale_of c meter)) c.degree (slice_get P.funs f) (sig_in P block f)
claim_of P c meter block f (Refuted farkas) = NoBound ∷ []
claim_of P c meter block f (Calls g) = CallsUnbounded g ∷ []

-- the block of the meter is that of the function's group
abbrev pub is_for_function : Program → Meter → ℕ → Block → Bool
is_for_function P meter f block = is_for_meter meter block.task.kind && is_among f (members P block.task.group)

abbrev pub line : ℕ → Meter → Claim → Line
line f meter claim = record { fun = f; meter = meter; claim = claim }

-- The lines of a function and a meter: one, in a certificate that is held.
abbrev pub lines_for : Program → Certificate → ℕ → Meter → List Line
lines_for P c f meter = map (line f meter) (flat_map (λ b. claim_of P c meter b f b.body) (filter (is_for_function P meter f) c.blocks))

-- For each function in the order of the source, and each meter, its argument annotation over the meter's scale where
-- the block of its group is solved, no bound where it is refuted, and the function that is called and has none where it
-- waits.
abbrev pub lines : Program → Certificate → List Line
lines P c = flat_map (λ f. flat_map (lines_for P c f) (meters (has_work c))) (range_with_len 0 (length P.funs))
