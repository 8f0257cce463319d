-- When a block holds over the blocks before it.
use Rattle.std.specs.Prelude.{◌≡◌, ◌≤◌, ◌<◌, ℕ, ◌*◌, pos, ◌*ℤ◌, List, [], ◌∷◌, map, cond, slice_get, position, Option, Some, None}
use Rattle.raml_syntax.specs.Tree.{Type'}
use Rattle.base_poly.specs.Plain.{Plain, alike}
use Rattle.base_poly.specs.Indices.{index_list}
use Rattle.index_shift.specs.Potential.{Annotation}
use Rattle.normal_spec.specs.Norm.{NormFun}
use Rattle.normal_spec.specs.Context.{types}
use Rattle.cost_free.specs.Target.{Target, targets}
use Rattle.cost_free.specs.Task as k
use Rattle.cost_free.specs.declared.task.Meter.{Meter}
use Rattle.cost_free.specs.Task.{Kind, Free, Task}
use Rattle.cost_free.specs.Blocked.{is_for_meter}
use Rattle.annot_types.specs.Program.{Program, members}
use Rattle.annot_types.specs.Certificate as c
use Rattle.annot_types.specs.Certificate.{Entries, annotation, Annotates, Sig, Hint, Body, Solved, IsSolved, Block, sigs_of, hints_of}
use Rattle.annot_types.specs.Signature.{sig_in}
use Rattle.annot_types.specs.Rules.{Mode, With, Own, Setting, Ann}

-- all numbers times t
abbrev pub times : ℕ → Entries → Entries
times t es = map (λ e. (e.0, pos t *ℤ e.1)) es

abbrev pub times_sig : ℕ → Sig → Sig
times_sig t s = record { args = times t s.args; result = times t s.result }

abbrev pub times_hint : ℕ → Hint → Hint
times_hint t (c.Let rs) = c.Let (map (times t) rs)
times_hint t (c.Share p) = c.Share (times t p)
times_hint t (c.Call multiples) = c.Call (times t multiples)

abbrev pub times_body : ℕ → Body → Body
times_body t (Solved sigs hints) = Solved (map (times_sig t) sigs) (map (map (times_hint t)) hints)
times_body t body = body

abbrev pub times_block : ℕ → Block → Block
times_block t block = record { task = block.task; body = times_body t block.body }

-- a block of the meter with its numbers times t, and any other as it is
abbrev pub raised : Meter → ℕ → Block → Block
raised meter t block = cond (is_for_meter meter block.task.kind) (times_block t block) block

-- a cost-free block is walked in mode Own, and one with cost with its meter
abbrev pub mode_of : Kind → Mode
mode_of (Free budget fun target) = Own
mode_of (k.With meter) = With meter

-- its own budget, or the degree d
abbrev pub budget_of : ℕ → Kind → ℕ
budget_of d (Free budget fun target) = budget
budget_of d (k.With meter) = d

-- For a block with cost that holds with t, the earlier blocks of its meter are multiplied by t, and so is the scale of the prices.
abbrev pub blocks_before : Kind → ℕ → List Block → List Block
blocks_before (Free budget fun target) t earlier = earlier
blocks_before (k.With meter) t earlier = map (raised meter t) earlier

abbrev pub setting : Program → ℕ → List Block → ℕ → Block → ℕ → Setting
setting P d earlier scale block t = record {
  program = P;
  earlier = blocks_before block.task.kind t earlier;
  group = members P block.task.group;
  sigs = sigs_of block.body;
  budget = budget_of d block.task.kind;
  scale = scale * t;
}

-- A function's body fits the rules with its signature, at the block's budget, and all its hints are used.
pub record FunctionHolds (S : Setting) (mode : Mode) (f : ℕ) (s : Sig) (hints : List Hint) : Type 0 where
  pub fun : NormFun
  pub there : slice_get S.program.funs f ≡ Some fun
  pub args : Annotates (types fun.params) S.budget s.args
  pub result : Annotates (fun.result ∷ []) S.budget s.result
  pub fits : Ann S mode S.budget fun.params (annotation s.args) fun.body fun.result (annotation s.result) hints []

-- each function of a group does, with the signature and the hints at its place
abbrev pub FunctionsHold : Setting → Mode → List ℕ → List Sig → List (List Hint) → Type 0
FunctionsHold S mode [] [] [] = Unit {0}
FunctionsHold S mode (f ∷ fs) (s ∷ ss) (hs ∷ hss) = FunctionHolds S mode f s hs × FunctionsHold S mode fs ss hss
FunctionsHold S mode _ _ _ = ⊥

-- the number that an annotation has at a tuple: that of its position, and 0 where it has none
abbrev pub number_of : Annotation → Option ℕ → ℕ
number_of q None = 0
number_of q (Some position) = q position

abbrev pub number_at_tuple : List Type' → ℕ → Annotation → List Plain → ℕ
number_at_tuple As d q t = number_of q (position (alike t) (index_list As d))

-- at each tuple of the target the annotation of the result has at least t
abbrev pub CoversTarget : Type' → ℕ → Annotation → ℕ → Target → Type 0
CoversTarget A budget r t [] = Unit {0}
CoversTarget A budget r t (tuple ∷ tuples) = (t ≤ number_at_tuple (A ∷ []) budget r tuple) × CoversTarget A budget r t tuples

-- A cost-free block reaches t times its target: that is at most the annotation of the function's result.
pub record Reaches (P : Program) (d budget f number : ℕ) (block : Block) (t : ℕ) : Type 0 where
  pub fun : NormFun
  pub there : slice_get P.funs f ≡ Some fun
  pub target : Target
  pub numbered : slice_get (targets fun.result d) number ≡ Some target
  pub sig : Sig
  pub signed : sig_in P block f ≡ Some sig
  pub covers : CoversTarget fun.result budget (annotation sig.result) t target

abbrev pub ReachesTarget : Program → ℕ → Block → ℕ → Kind → Type 0
ReachesTarget P d block t (Free budget f number) = Reaches P d budget f number block t
ReachesTarget P d block t (k.With meter) = Unit {0}

-- Over the earlier blocks, of which those of its meter stand at this scale, and with a positive t: a block with cost
-- stands at the scale times t, and a cost-free block reaches t times its target.
pub record Holds (P : Program) (d : ℕ) (earlier : List Block) (scale : ℕ) (block : Block) (t : ℕ) : Type 0 where
  pub positive : 0 < t
  pub solved : IsSolved block.body
  pub functions : FunctionsHold (setting P d earlier scale block t) (mode_of block.task.kind) (members P block.task.group)
      (sigs_of block.body) (hints_of block.body)
  pub reaches : ReachesTarget P d block t block.task.kind
