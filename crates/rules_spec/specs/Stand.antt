-- Entries over amounts, as the annotations of the rules.
use Rattle.std.specs.Prelude.{◌≡◌, ℕ, ◌+◌, ◌<◌, unsigned_abs, List, [], ◌∷◌, length, slice_get, slice_index_or, Contains, Option, None}
use Rattle.std.specs.Prelude.{Some}
use Rattle.index_shift.specs.Potential.{Annotation}
use Rattle.index_shift.specs.declared.entry.Entry.{Entry}
use Rattle.normal_spec.specs.Norm.{NormFun}
use Rattle.normal_spec.specs.Context.{types}
use Rattle.cost_free.specs.declared.task.Meter.{Meter}
use Rattle.annot_types.specs.Certificate as c
use Rattle.annot_types.specs.Certificate.{Entries, annotation, Sig, Block}
use Rattle.annot_types.specs.Signature.{sig_in, free_budget, cost_sig}
use Rattle.annot_types.specs.Rules.{Setting, own_sig}
use Rattle.annot_types.specs.Rows.{size as size_of}
use Rattle.rules_spec.specs.Numbers.{Sides, Signature, Known, Hint, Results, Copies, Multiples, Walked}
use Rattle.rules_spec.specs.Kinds.{Amount, amounts, AllMeet}
use Rattle.rules_spec.specs.Walk.{at}
use Rattle.rules_spec.specs.Asked.{Ask, ResultsOf, CopiesOf, MultiplesOf}
use Rattle.rules_spec.specs.Planned.{place_in}

-- There are n entries, and each has what the annotation has more than what was taken from it.
pub record Stands (n : ℕ) (entries : List Amount) (q : Annotation) : Type 0 where
  pub len : length entries ≡ n
  pub is : (k : ℕ) → k < n → (at (amounts 1) entries k).plus ≡ q k + (at (amounts 1) entries k).minus

-- all positions are below n
abbrev pub Within : ℕ → Entries → Type 0
Within n [] = Unit {0}
Within n (e ∷ es) = (e.0 < n) × Within n es

-- these are the n entries of an annotation with such positions
abbrev pub StandFor : ℕ → List Amount → Entries → Type 0
StandFor n entries es = Within n es × Stands n entries (annotation es)

abbrev pub StandForEach : List ℕ → List (List Amount) → List Entries → Type 0
StandForEach [] [] [] = Unit {0}
StandForEach (n ∷ ns) (q ∷ qs) (es ∷ ess) = StandFor n q es × StandForEach ns qs ess
StandForEach _ _ _ = ⊥

-- each block is one of these, with its number as an amount
abbrev pub AreMultiplesOf : List ℕ → List (ℕ × Amount) → Entries → Type 0
AreMultiplesOf blocks [] [] = Unit {0}
AreMultiplesOf blocks (x ∷ xs) (m ∷ ms) =
    Contains blocks m.0 × (x ≡ (m.0, record { plus = unsigned_abs m.1; minus = 0 })) × AreMultiplesOf blocks xs ms
AreMultiplesOf blocks _ _ = ⊥

-- a hint of a certificate that is asked for, and as what it is walked
abbrev pub Answers : Ask → c.Hint → Hint Amount → Type 0
Answers (ResultsOf sizes) (c.Let results) (Results qs) = StandForEach sizes qs results
Answers (CopiesOf size) (c.Share copies) (Copies q) = StandFor size q copies
Answers (MultiplesOf blocks) (c.Call multiples) (Multiples xs) = AreMultiplesOf blocks xs multiples
Answers _ _ _ = ⊥

-- The first hints are all that is asked for, and these are left.
abbrev pub Answered : List Ask → List c.Hint → List (Hint Amount) → List c.Hint → List (Hint Amount) → Type 0
Answered [] hs xs out left = (hs ≡ out) × (xs ≡ left)
Answered (ask ∷ asks) (h ∷ hs) (x ∷ xs) out left = Answers ask h x × Answered asks hs xs out left
Answered (ask ∷ asks) _ _ out left = ⊥

-- all conditions of the walk are met exactly where this holds
pub record Tells (w : Walked Amount) (P : Type 0) : Type 0 where
  pub to : P → AllMeet w.found
  pub from : AllMeet w.found → P

-- entries from positions below n to positions below m
abbrev pub Ranged : ℕ → ℕ → List Entry → Type 0
Ranged n m [] = Unit {0}
Ranged n m (e ∷ es) = (e.from < n) × (e.to < m) × Ranged n m es

-- these are the n numbers of the annotation
pub record Numbered (n : ℕ) (ns : List ℕ) (q : Annotation) : Type 0 where
  pub len : length ns ≡ n
  pub is : (k : ℕ) → k < n → slice_index_or ns k 0 ≡ q k

-- the signature of a function at a budget, as entries and as numbers
pub record SidesStand (g : NormFun) (budget : ℕ) (s : Sides Amount) (sig : Sig) : Type 0 where
  pub args : Stands (size_of (types g.params) budget) s.args (annotation sig.args)
  pub result : Stands (size_of (g.result ∷ []) budget) s.result (annotation sig.result)

pub record SidesNumbered (g : NormFun) (budget : ℕ) (s : Signature) (sig : Sig) : Type 0 where
  pub budget_is : s.budget ≡ budget
  pub args : Numbered (size_of (types g.params) budget) s.args (annotation sig.args)
  pub result : Numbered (size_of (g.result ∷ []) budget) s.result (annotation sig.result)

-- what a walk in a setting knows, with these signatures
abbrev pub known_in : Setting → List (Sides Amount) → (ℕ → ℕ → Signature) → (Meter → ℕ → Option Signature) → Known Amount
known_in S group free cost = record { scale = S.scale; budget = S.budget; group = group; free = free; cost = cost }

-- The signatures of the group stand for those of the setting, and the walk finds those of earlier blocks as the rules do.
pub record Reads (S : Setting) (group : List (Sides Amount)) (free : ℕ → ℕ → Signature) (cost : Meter → ℕ → Option Signature) : Type 0 where
  pub own : (f k : ℕ) (g : NormFun) → slice_get S.program.funs f ≡ Some g → place_in S.group f ≡ Some k →
      (s : Sig) × (own_sig S f ≡ Some s) × SidesStand g S.budget (slice_index_or group k (record { args = []; result = [] })) s
  pub own_none : (f : ℕ) → place_in S.group f ≡ None → own_sig S f ≡ None
  pub cost_some : (meter : Meter) (f : ℕ) (g : NormFun) (numbers : Signature) →
      slice_get S.program.funs f ≡ Some g → cost meter f ≡ Some numbers →
      (s : Sig) × (cost_sig S.program meter S.earlier f ≡ Some s) × SidesNumbered g S.budget numbers s
  pub cost_none : (meter : Meter) (f : ℕ) → cost meter f ≡ None → cost_sig S.program meter S.earlier f ≡ None
  pub free_is : (k f budget : ℕ) (g : NormFun) (block : Block) (s : Sig) →
      slice_get S.program.funs f ≡ Some g → slice_get S.earlier k ≡ Some block →
      free_budget block.task.kind ≡ Some budget → sig_in S.program block f ≡ Some s → SidesNumbered g budget (free k f) s
