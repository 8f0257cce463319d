-- What the parts of a certificate are beside their form: numbers fit their fields, positions of annotations ascend, lists are not
-- too long. `P` holds of the numbers of the analysis.
use Rattle.std.specs.Prelude.{◌≡◌, ℕ, ◌^◌, ◌<◌, ◌≤◌, Bool, true, List, [], ◌∷◌, length, ℤ, pos, negsuc, Option, Some, None}
use Rattle.cost_free.specs.declared.task.Meter.{Meter}
use Rattle.cost_free.specs.declared.task.Meter.TheVariants.{Ticks, Cells, Work}
use Rattle.cost_free.specs.Task.{Kind, Free, With}
use Rattle.cert_json.specs.Parts.{Entries, Sig, Hint, Let, Share, Call, Body, Solved, Refuted, Calls, Block, Head}
use Rattle.cert_json.specs.Reading.{ascend_from}

abbrev pub Each : {A : Type 0} → (A → Type 0) → List A → Type 0
Each P [] = Unit {0}
Each P (x ∷ xs) = P x × Each P xs

pub record FitsList {A : Type 0} (F : A → Type 0) (xs : List A) : Type 0 where
  pub short : length xs < 2 ^ 31
  pub each : Each F xs

pub record FitsEntry {N : Type 0} (P : N → Type 0) (e : ℕ × N) : Type 0 where
  pub position : e.0 < 2 ^ 32
  pub number : P e.1

pub record FitsAnnot {N : Type 0} (P : N → Type 0) (es : Entries N) : Type 0 where
  pub entries : FitsList (FitsEntry P) es
  pub ascend : ascend_from 0 es ≡ true

pub record FitsSig {N : Type 0} (P : N → Type 0) (s : Sig N) : Type 0 where
  pub args : FitsAnnot P s.args
  pub result : FitsAnnot P s.result

abbrev pub FitsHint : {N : Type 0} → (N → Type 0) → Hint N → Type 0
FitsHint P (Let annots) = FitsList (FitsAnnot P) annots
FitsHint P (Share annot) = FitsAnnot P annot
FitsHint P (Call uses) = FitsList (FitsEntry P) uses

abbrev pub FitsBody : {N : Type 0} → (N → Type 0) → Body N → Type 0
FitsBody P (Solved sigs hints) = FitsList (FitsSig P) sigs × FitsList (FitsList (FitsHint P)) hints
FitsBody P (Refuted farkas) = FitsList (FitsEntry P) farkas
FitsBody P (Calls fun) = fun < 2 ^ 32

-- with `work` the meter of work is one too
abbrev pub FitsMeter : Bool → Meter → Type 0
FitsMeter work Ticks = Unit {0}
FitsMeter work Cells = Unit {0}
FitsMeter work Work = work ≡ true

abbrev pub FitsKind : Bool → Kind → Type 0
FitsKind work (Free budget fun target) = (budget < 256) × (fun < 2 ^ 32) × (target < 2 ^ 32)
FitsKind work (With meter) = FitsMeter work meter

pub record FitsBlock {N : Type 0} (P : N → Type 0) (work : Bool) (b : Block N) : Type 0 where
  pub group : b.task.group < 2 ^ 32
  pub kind : FitsKind work b.task.kind
  pub body : FitsBody P b.body

abbrev pub FitsOption : {N : Type 0} → (N → Type 0) → Option N → Type 0
FitsOption P None = Unit {0}
FitsOption P (Some n) = P n

pub record FitsHead {N : Type 0} (P : N → Type 0) (h : Head N) : Type 0 where
  pub positive : 1 ≤ h.degree
  pub small : h.degree < 5
  pub ticks : P h.ticks
  pub cells : P h.cells
  pub work : FitsOption P h.work

-- from 1 to 2^127 - 1
abbrev pub InRange : ℤ → Type 0
InRange (pos n) = (1 ≤ n) × (n < 2 ^ 127)
InRange (negsuc n) = ⊥
