-- To which forms the paths of a walk lead, and for which expressions these stand.
use Rattle.std.specs.Prelude.{ℕ, zero, suc, nat_eq, Bool, true, false, List, [], ◌∷◌, length, slice_get}
use Rattle.std.specs.Prelude.{Option, Some, None, option_map, option_and_then}
use Rattle.raml_syntax.specs.Tree as t
use Rattle.raml_syntax.specs.Tree.{Function, Prog}
use Rattle.normal_spec.specs.Norm as n
use Rattle.normal_spec.specs.Norm.{Norm}
use Rattle.normal_spec.specs.Two.{norm_fun}
use Rattle.rules_spec.specs.Plan as p
use Rattle.rules_spec.specs.Plan.{Plan, Plans, NoPlans, More, Part}
use Rattle.explain_origins.specs.Origins.{Origins, Goes, Forks, source, origins}
use Rattle.explain_origins.specs.declared.turn.Turn.{Turn}
use Rattle.explain_origins.specs.declared.turn.Turn.TheVariants.{Only, First, Second}

-- a turn with the plan to which it leads
abbrev pub only : Plan → ℕ → Option (Turn × Plan)
only e zero = Some (Only, e)
only e (suc j) = None

abbrev pub fork : Plan → Plan → ℕ → Option (Turn × Plan)
fork a b zero = Some (First, a)
fork a b (suc zero) = Some (Second, b)
fork a b (suc (suc j)) = None

-- the plan of a bound form at a place: of Lets, at the budget that a tuple of this degree leaves
abbrev pub plan_at : Plans → ℕ → Option Plan
plan_at NoPlans k = None
plan_at (More e es) zero = Some e
plan_at (More e es) (suc k) = plan_at es k

-- the degree of the tuple of this number
abbrev pub degree_at : List Part → ℕ → Option ℕ
degree_at parts j = option_map (λ (part : Part). part.degree) (slice_get parts j)

-- Of a Let: a number that has a tuple leads to the bound form, at the budget that the tuple leaves, and the count of tuples to the rest.
abbrev pub let_turn : Option ℕ → Bool → Plans → Plan → Option (Turn × Plan)
let_turn (Some degree) is_count firsts rest = option_map (λ e. (First, e)) (plan_at firsts degree)
let_turn None true firsts rest = Some (Second, rest)
let_turn None false firsts rest = None

-- where a number of a path leads
abbrev pub below : Plan → ℕ → Option (Turn × Plan)
below (p.Ends n cells steps) j = None
below (p.Pays n ticks e) j = only e j
below (p.Moves n step e) j = only e j
below (p.Forks n step a other b) j = fork a b j
below (p.Shares n size step e) j = only e j
below (p.Calls n c) j = None
below (p.Lets n parts firsts size e) j = let_turn (degree_at parts j) (nat_eq j (length parts)) firsts e

-- the form to which a turn leads
abbrev pub in_two : Norm → Norm → Turn → Option Norm
in_two a b Only = None
in_two a b First = Some a
in_two a b Second = Some b

abbrev pub in_one : Norm → Turn → Option Norm
in_one a Only = Some a
in_one a _ = None

abbrev pub form_at : Norm → Turn → Option Norm
form_at (n.Let k x A a b) = in_two a b
form_at (n.Split k x p q a) = in_one a
form_at (n.If k x a b) = in_two a b
form_at (n.CaseList k x a h l b) = in_two a b
form_at (n.CaseTree k x a h l r b) = in_two a b
form_at (n.CaseOption k x a w b) = in_two a b
form_at (n.Tick k i a) = in_one a
form_at (n.Share k x p q a) = in_one a
form_at (n.Drop k x a) = in_one a
form_at _ = λ turn. None

-- the origins to which a turn leads
abbrev pub in_turn : Turn → Origins → Option Origins
in_turn Only (Goes e o) = Some o
in_turn First (Forks e o rest) = Some o
in_turn Second (Forks e o rest) = Some rest
in_turn _ _ = None

-- A form that is shared or dropped before has the origins of the form behind.
abbrev pub origins_at : Norm → Turn → Origins → Option Origins
origins_at (n.Share k x p q a) turn o = Some o
origins_at (n.Drop k x a) turn o = Some o
origins_at _ turn o = in_turn turn o

infixl 10 ◌>>=◌
abbrev pub ◌>>=◌ : {A B : Type 0} → Option A → (A → Option B) → Option B
o >>= f = option_and_then f o

-- The expression for which the form stands to which a path leads, from a form with its plan and its origins.
abbrev pub origin_at : Plan → Norm → Origins → List ℕ → Option t.Term
origin_at plan e o [] = Some (source o)
origin_at plan e o (j ∷ path) = do
  turn ← below plan j
  form ← form_at e turn.0
  behind ← origins_at e turn.0 o
  origin_at turn.1 form behind path

-- the same in the body of a function
abbrev pub origin_of : Prog → Plan → List ℕ → Function → Option t.Term
origin_of P plan path g = origin_at plan (norm_fun P g).body (origins g.body) path

abbrev pub origin_in : Prog → ℕ → Plan → List ℕ → Option t.Term
origin_in P f plan path = slice_get P f >>= origin_of P plan path
