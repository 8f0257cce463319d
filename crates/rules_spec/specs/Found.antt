-- The signatures of a setting, as a walk knows them.
use Rattle.std.specs.Prelude.{◌≡◌, ℕ, zero, suc, List, [], ◌∷◌, length, slice_get, Option, None, Some}
use Rattle.index_shift.specs.Potential.{Annotation}
use Rattle.normal_spec.specs.Norm.{NormFun}
use Rattle.normal_spec.specs.Context.{types}
use Rattle.cost_free.specs.declared.task.Meter.{Meter}
use Rattle.annot_types.specs.Certificate.{annotation, Sig, Block}
use Rattle.annot_types.specs.Signature.{sig_in, free_budget, cost_sig}
use Rattle.annot_types.specs.Rules.{Setting}
use Rattle.annot_types.specs.Rows.{size as size_of}
use Rattle.rules_spec.specs.Numbers.{Sides, Signature}
use Rattle.rules_spec.specs.Kinds.{Amount}
use Rattle.rules_spec.specs.Stand.{Reads}

-- the first n numbers of an annotation
abbrev pub listed : ℕ → Annotation → List ℕ
listed zero q = []
listed (suc n) q = q 0 ∷ listed n (λ k. q (suc k))

-- numbers from which nothing was taken
abbrev pub amounts_of : List ℕ → List Amount
amounts_of [] = []
amounts_of (n ∷ ns) = record { plus = n; minus = 0 } ∷ amounts_of ns

-- the numbers of a function's signature at a budget; none where there is no such function, or no signature
abbrev pub signature : Option NormFun → ℕ → Option Sig → Signature
signature (Some g) budget (Some s) = record {
  budget = budget;
  args = listed (size_of (types g.params) budget) (annotation s.args);
  result = listed (size_of (g.result ∷ []) budget) (annotation s.result);
}
signature _ budget _ = record { budget = budget; args = []; result = [] }

abbrev pub sides : Signature → Sides Amount
sides s = record { args = amounts_of s.args; result = amounts_of s.result }

-- the signatures of the group
abbrev pub group_from : Setting → List ℕ → List Sig → List (Sides Amount)
group_from S (f ∷ fs) (s ∷ ss) = sides (signature (slice_get S.program.funs f) S.budget (Some s)) ∷ group_from S fs ss
group_from S _ _ = []

-- those of a signature without cost; none where there is no signature, or no budget without cost
abbrev pub free_signature : Option NormFun → Option ℕ → Option Sig → Signature
free_signature g (Some budget) (Some s) = signature g budget (Some s)
free_signature g (Some budget) None = record { budget = 0; args = []; result = [] }
free_signature g None s = record { budget = 0; args = []; result = [] }

-- the signature that the cost-free block at a place has for a function
abbrev pub free_in : Setting → Option Block → ℕ → Signature
free_in S None f = record { budget = 0; args = []; result = [] }
free_in S (Some block) f = free_signature (slice_get S.program.funs f) (free_budget block.task.kind) (sig_in S.program block f)

abbrev pub free_from : Setting → ℕ → ℕ → Signature
free_from S k f = free_in S (slice_get S.earlier k) f

-- the signature with cost that is found for a function
abbrev pub at_budget : Setting → Option NormFun → Option Sig → Option Signature
at_budget S g None = None
at_budget S g (Some s) = Some (signature g S.budget (Some s))

abbrev pub cost_from : Setting → Meter → ℕ → Option Signature
cost_from S meter f = at_budget S (slice_get S.program.funs f) (cost_sig S.program meter S.earlier f)

-- They are what the rules find, where each function of the group has a signature.
abbrev pub ReadsThere : Type 0
ReadsThere = (S : Setting) → length S.sigs ≡ length S.group → Reads S (group_from S S.group S.sigs) (free_from S) (cost_from S)
