-- Laws of the count program.
use Rattle.std.specs.Prelude.{◌≡◌, ◌≤◌, ◌+◌, ℕ, List, length, Some, slice_get}
use Rattle.raml_syntax.specs.Tree as t
use Rattle.raml_syntax.specs.Tree.{Text, Type', Function, Prog}
use Rattle.raml_syntax.specs.Value.{Value}
use Rattle.raml_syntax.specs.Eval.{Run, calls_at, run_of}
use Rattle.raml_syntax.specs.Types.{Context, Way, HasType, Typed}
use Rattle.raml_syntax.specs.Node.{AllNodes, WithinLimits, program_nodes}
use Rattle.explain_rounds.specs.Calls.{is_in}
use Rattle.explain_count.specs.Count.{without_ticks, counting, count_program}
use Rattle.explain_count.specs.Rounds.{rounds_at, rounds_of}

-- both runs come to the same, with the same cells
pub record ComesToSame {A : Type 0} (r s : Run A) : Type 0 where
  pub out : r.out ≡ s.out
  pub cells : r.cells ≡ s.cells

abbrev pub IsNoTick : t.Term → Type 0
IsNoTick (t.Tick p k a) = ⊥
IsNoTick _ = Unit {0}

-- At every limit and on all arguments, also where a run is cut: the function at a place comes in the count program to what it comes to
-- in the program, and costs exactly what it does where rounds are counted. There nothing but rounds costs ticks.
pub record CountsRounds (group : List ℕ) (P : Prog) : Type 0 where
  pub values : (k : ℕ) (g : Function) (args : List Value) (n : ℕ) →
      slice_get P k ≡ Some g →
      ComesToSame (run_of (count_program group P) (counting (is_in k group) g) args n) (run_of P g args n)
  pub calls : (n : ℕ) (f : Text) (args : List Value) → calls_at (count_program group P) n f args ≡ rounds_at P group n f args
  pub runs : (k : ℕ) (g : Function) (args : List Value) (n : ℕ) →
      slice_get P k ≡ Some g →
      run_of (count_program group P) (counting (is_in k group) g) args n ≡ rounds_of P group (is_in k group) g args n
  pub no_ticks : (e : t.Term) → AllNodes IsNoTick (without_ticks e)

abbrev pub CountProgramsCountRounds : Type 0
CountProgramsCountRounds = (group : List ℕ) (P : Prog) → CountsRounds group P

-- what the count program keeps of the program, and how large it is at most
pub record KeepsProgram (group : List ℕ) (P : Prog) : Type 0 where
  pub types : (e : t.Term) (way : Way) (G : Context) (T : Type') →
      HasType P way G e T →
      HasType (count_program group P) way G (without_ticks e) T
  pub typed : Typed P → Typed (count_program group P)
  pub limits : WithinLimits P → WithinLimits (count_program group P)
  pub nodes : program_nodes (count_program group P) ≤ program_nodes P + length P

abbrev pub CountProgramsKeepPrograms : Type 0
CountProgramsKeepPrograms = (group : List ℕ) (P : Prog) → KeepsProgram group P
