-- Laws of prices.
use Rattle.std.specs.Prelude.{◌≡◌, ◌≤◌, ◌*◌, ℕ, List, Some}
use Rattle.std.specs.Option.{option_map}
use Rattle.raml_syntax.specs.Tree as t
use Rattle.raml_syntax.specs.Tree.{Text, Function, Prog}
use Rattle.raml_syntax.specs.Value.{Value}
use Rattle.raml_syntax.specs.Eval.{Run, Env, Calls, find, eval, run_of}
use Rattle.raml_syntax.specs.Types.{Typed}
use Rattle.raml_syntax.specs.Node.{WithinLimits, program_nodes}
use Rattle.price_file.specs.Construct.{Construct, Prices, construct_of}
use Rattle.price_file.specs.Priced as priced
use Rattle.price_file.specs.Applied.{applied, applied_function, applied_program}
use Rattle.price_file.specs.Listed.{AreSmall}

-- both runs come to the same, with the same ticks and cells
pub record CostSame {A : Type 0} (r s : Run A) : Type 0 where
  pub out : r.out ≡ s.out
  pub ticks : r.ticks ≡ s.ticks
  pub cells : r.cells ≡ s.cells

-- what the program in which prices are written out costs is what the program costs under the prices, at every limit, also where it is
-- cut; and its functions are those of the program
pub record CostsPrices (prices : Prices) (P : Prog) : Type 0 where
  pub expressions : (n : ℕ) (env : Env) (e : t.Term) →
      CostSame (eval (applied_program prices P) n env (applied prices e)) (priced.eval prices P n env e)
  pub runs : (n : ℕ) (g : Function) (args : List Value) →
      CostSame (run_of (applied_program prices P) (applied_function prices g) args n) (priced.run_of prices P g args n)
  pub functions : (f : Text) → find f (applied_program prices P) ≡ option_map (applied_function prices) (find f P)

abbrev pub AppliedCostsPrices : Type 0
AppliedCostsPrices = (prices : Prices) (P : Prog) → CostsPrices prices P

-- a node costs its price at the least, also where it is cut
abbrev pub NodesArePaid : Type 0
NodesArePaid = (prices : Prices) (call : Calls) (env : Env) (e : t.Term) (construct : Construct) →
    construct_of e ≡ Some construct →
    prices construct ≤ (priced.walk prices call e env).ticks

-- what the program in which prices are written out keeps of the program, and how large it is at most
pub record KeepsProgram (prices : Prices) (P : Prog) : Type 0 where
  pub typed : Typed P → Typed (applied_program prices P)
  pub limits : AreSmall prices → WithinLimits P → WithinLimits (applied_program prices P)
  pub nodes : program_nodes (applied_program prices P) ≤ 2 * program_nodes P

abbrev pub AppliedKeepsPrograms : Type 0
AppliedKeepsPrograms = (prices : Prices) (P : Prog) → KeepsProgram prices P
