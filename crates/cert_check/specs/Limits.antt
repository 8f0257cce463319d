-- Certificates of small numbers.
use Rattle.std.specs.Prelude.{◌≡◌, ◌≤◌, ◌⊎◌, ℕ, ◌+◌, ◌*◌, ◌^◌, unsigned_abs, List, [], ◌∷◌, length, map}
use Rattle.annot_types.specs.Certificate.{Entries, Sig, Hint, Let, Share, Call, Body, Solved, Block, Certificate}
use Rattle.annot_types.specs.Held.{scale_of, IfSolved}
use Rattle.annot_types.specs.Holds.{budget_of}
use Rattle.annot_types.specs.Program.{Program}
use Rattle.cost_free.specs.declared.task.Meter.TheVariants.{Ticks, Cells, Work}
use Rattle.rules_spec.specs.Small.{GrowthsWithin}
use Rattle.rules_plan.specs.Read.{group_bodies, function_of}
use Rattle.rules_plan.specs.declared.body.GroupPlans.{GroupPlans}

-- what small numbers are at most
abbrev pub most : ℕ
most = 2 ^ 16

abbrev pub EntriesSmall : Entries → Type 0
EntriesSmall [] = Unit {0}
EntriesSmall (e ∷ es) = (unsigned_abs e.1 ≤ most) × EntriesSmall es

abbrev pub AnnotsSmall : List Entries → Type 0
AnnotsSmall [] = Unit {0}
AnnotsSmall (q ∷ qs) = EntriesSmall q × AnnotsSmall qs

abbrev pub SigSmall : Sig → Type 0
SigSmall s = EntriesSmall s.args × EntriesSmall s.result

abbrev pub SigsSmall : List Sig → Type 0
SigsSmall [] = Unit {0}
SigsSmall (s ∷ ss) = SigSmall s × SigsSmall ss

abbrev pub HintSmall : Hint → Type 0
HintSmall (Let results) = AnnotsSmall results
HintSmall (Share copies) = EntriesSmall copies
HintSmall (Call multiples) = EntriesSmall multiples × (length multiples ≤ most)

abbrev pub HintsSmall : List Hint → Type 0
HintsSmall [] = Unit {0}
HintsSmall (h ∷ hs) = HintSmall h × HintsSmall hs

abbrev pub AllHintsSmall : List (List Hint) → Type 0
AllHintsSmall [] = Unit {0}
AllHintsSmall (hs ∷ hss) = HintsSmall hs × AllHintsSmall hss

abbrev pub BodySmall : Body → Type 0
BodySmall (Solved sigs hints) = SigsSmall sigs × AllHintsSmall hints
BodySmall body = Unit {0}

abbrev pub BlocksSmall : List Block → Type 0
BlocksSmall [] = Unit {0}
BlocksSmall (b ∷ bs) = BodySmall b.body × BlocksSmall bs

-- the scales of the meters, each at most that
pub record ScalesSmall (c : Certificate) : Type 0 where
  pub ticks : unsigned_abs (scale_of c Ticks) ≤ most
  pub cells : unsigned_abs (scale_of c Cells) ≤ most
  pub work : unsigned_abs (scale_of c Work) ≤ most

-- what multiples of signatures make of small numbers
abbrev pub factor : ℕ
factor = 1 + most * most

-- what plans make of small numbers stays in the range, where it is at most this many times these
abbrev pub greatest : ℕ
greatest = 2 ^ 110

-- what these plans make of small numbers does
abbrev pub MakeLittle : GroupPlans → Type 0
MakeLittle plans = GrowthsWithin factor greatest (map function_of plans.functions.items)

-- plans of the group at the budget are among these
abbrev pub IsAmong : ℕ → ℕ → List GroupPlans → Type 0
IsAmong group budget [] = ⊥
IsAmong group budget (plans ∷ rest) = ((plans.group ≡ group) × (plans.budget ≡ budget)) ⊎ IsAmong group budget rest

-- The plans of a block's group stay within it, where the block is solved.
abbrev pub PlansStay : Program → ℕ → Block → Type 0
PlansStay P d block = IfSolved block.body (GrowthsWithin factor greatest (group_bodies P block.task.group [] (budget_of d block.task.kind)))

abbrev pub AllStay : Program → ℕ → List Block → Type 0
AllStay P d [] = Unit {0}
AllStay P d (b ∷ bs) = PlansStay P d b × AllStay P d bs

-- Its scales and numbers are small, and what its plans make of them stays in the range.
pub record StaysSmall (P : Program) (c : Certificate) : Type 0 where
  pub scales : ScalesSmall c
  pub blocks : BlocksSmall c.blocks
  pub plans : AllStay P c.degree c.blocks
