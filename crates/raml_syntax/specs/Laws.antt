-- Laws of evaluation.
use Rattle.std.specs.Prelude.{◌≡◌, ◌≤◌, ℕ, suc, List, map, Some, None, slice_get}
use Rattle.std.specs.List.{All}
use Rattle.raml_syntax.specs.Tree as t
use Rattle.raml_syntax.specs.Tree.{Text, Type', Function, Prog}
use Rattle.raml_syntax.specs.Value.{Value, Has, HaveTypes}
use Rattle.raml_syntax.specs.Eval.{Run, Env, look, find, calls_at, eval, run_of}
use Rattle.raml_syntax.specs.Place.{place_of}
use Rattle.raml_syntax.specs.Types.{Context, type_at, types_of, Differ, Way, HasType, Typed}
use Rattle.raml_syntax.specs.Node.{AllNodes, NumberFits}
use Rattle.raml_syntax.specs.Default.{IsBound, NoDefault, CallMeetsNone}

-- the second run costs no less, and it is the first where that one has a value
pub record Grows {A : Type 0} (r s : Run A) : Type 0 where
  pub ticks : r.ticks ≤ s.ticks
  pub cells : r.cells ≤ s.cells
  pub work : r.work ≤ s.work
  pub same : (v : A) → r.out ≡ Some v → s ≡ r

-- a greater limit costs no less, and a value stays with its costs
pub record GrowsWithLimit (P : Prog) : Type 0 where
  pub expressions : (m n : ℕ) → m ≤ n → (env : Env) (e : t.Term) → Grows (eval P m env e) (eval P n env e)
  pub runs : (m n : ℕ) → m ≤ n → (g : Function) (args : List Value) → Grows (run_of P g args m) (run_of P g args n)

-- a value of the run has the type, and the run meets no default
pub record Keeps (T : Type') (r : Run Value) (MeetsNone : Type 0) : Type 0 where
  pub value : (v : Value) → r.out ≡ Some v → Has v T
  pub no_default : MeetsNone

-- each variable of the context is there with a value of its type
pub record Holds (G : Context) (env : Env) : Type 0 where
  pub at : (x : Text) (A : Type') → type_at x G ≡ Some A → Has (look x env) A × IsBound x env

-- In a typed program whose numbers fit: a typed expression of typed values gives a value of its type or is cut, and so
-- does the run of a function on arguments of its parameters' types, which is what a call does at one limit more;
-- neither meets a default
pub record TypesAreKept (P : Prog) : Type 0 where
  pub expressions : (n : ℕ) (way : Way) (G : Context) (env : Env) (e : t.Term) (T : Type') →
      AllNodes NumberFits e →
      HasType P way G e T →
      Holds G env →
      Keeps T (eval P n env e) (NoDefault (calls_at P n) (CallMeetsNone P n) e env)
  pub runs : (n : ℕ) (f : Text) (g : Function) (args : List Value) →
      find f P ≡ Some g →
      HaveTypes args (types_of g) →
      Keeps g.result (run_of P g args n) (CallMeetsNone P (suc n) f args)

-- at the place of a name stands the function that is found for the name, and none is found where it has no place; where
-- the names differ, each function stands at the place of its name
pub record PlacesAreOfNames (P : Prog) : Type 0 where
  pub placed : (f : Text) (k : ℕ) → place_of f P ≡ Some k → (g : Function) × (slice_get P k ≡ Some g) × (g.name ≡ f) × (find f P ≡ Some g)
  pub absent : (f : Text) → place_of f P ≡ None → find f P ≡ None
  pub own : Differ (map (λ (g : Function). g.name) P) → (k : ℕ) (g : Function) → slice_get P k ≡ Some g → place_of g.name P ≡ Some k

abbrev pub CostsGrowWithLimit : Type 0
CostsGrowWithLimit = (P : Prog) → GrowsWithLimit P

abbrev pub TypedRunsKeepTypes : Type 0
TypedRunsKeepTypes = (P : Prog) → Typed P → All (λ (g : Function). AllNodes NumberFits g.body) P → TypesAreKept P

abbrev pub FunctionsHavePlaces : Type 0
FunctionsHavePlaces = (P : Prog) → PlacesAreOfNames P
