-- What walks find is found at forms that have origins.
use Rattle.std.specs.Prelude.{◌≡◌, ℕ, List, [], ◌++◌, Some}
use Rattle.std.specs.List.{AllByRecursion}
use Rattle.raml_syntax.specs.Tree.{Term, Function, Prog}
use Rattle.normal_spec.specs.Norm.{Norm}
use Rattle.normal_spec.specs.Two.{norm_fun}
use Rattle.annot_types.specs.Rules.{Mode}
use Rattle.annot_types.specs.Program.{Program}
use Rattle.annot_types.specs.Certificate.{Block}
use Rattle.rules_spec.specs.Plan.{Plan}
use Rattle.rules_spec.specs.Planned.{plan}
use Rattle.rules_spec.specs.Numbers.{Numbers, Known, Hint, Condition}
use Rattle.rules_spec.specs.Walk.{walk}
use Rattle.rules_spec.specs.Kinds.{amounts, forms}
use Rattle.explain_origins.specs.Origins.{Origins, origins}
use Rattle.explain_origins.specs.Paths.{origin_at}

-- the path goes on behind these numbers, to a form that stands for an expression
pub record LeadsOn (e : Norm) (o : Origins) (plan : Plan) (front path : List ℕ) : Type 0 where
  pub rest : List ℕ
  pub is : path ≡ front ++ rest
  pub source : Term
  pub stands : origin_at plan e o rest ≡ Some source

-- All that a walk through a function's body finds, over whatever blocks, is found at forms that stand for expressions; the plan by which
-- these are told is over no blocks.
abbrev pub BodyLeads : {E : Type 0} → Numbers E → Type 0
BodyLeads {E} A =
    (P : Prog) (g : Function) (N : Program) (group : List ℕ) (earlier : List Block) (top budget : ℕ) (known : Known E) (mode : Mode)
    (front : List ℕ) (q r : List E) (hs : List (Hint E)) →
    let h = norm_fun P g in
    let walked = walk A known (plan N group earlier top h.body h.params h.result budget) mode front q r hs in
    let seen = plan N group [] top h.body h.params h.result budget in
    AllByRecursion (λ (c : Condition E). LeadsOn h.body (origins g.body) seen front c.path) walked.found

abbrev pub WalksLeadToOrigins : Type 0
WalksLeadToOrigins = BodyLeads (amounts 1) × BodyLeads forms
