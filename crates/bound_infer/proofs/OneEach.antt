-- A solution that is read has a natural number for each unknown of its task.
use Rattle.std.proofs.Common.{◌≡◌, refl, ◌∙◌, arith}
use Rattle.std.specs.Prelude.{ℕ, ◌≤◌, pos, List, length, map}
use Rattle.raml_num.specs.Sums.{NoneNegative}
use Rattle.linear_rows.specs.Systems.{Solves}
use Rattle.cost_free.specs.Task.{Task}
use Rattle.rules_spec.specs.Systems.{IsTask}
use Rattle.rules_spec.specs.Told.{bodies_of}
use Rattle.simplex_integers.specs.Reading.{ReadsSolution}
use Rattle.constraint_gen.specs.Given.{unknowns_of}
use Rattle.constraint_gen.proofs.Whole.{counted_in}
use Rattle.infer_spec.specs.States.{State, scale_at}
use Rattle.infer_spec.specs.Generator.{Analysis, system_at}
use Rattle.infer_spec.specs.Places.{rule_of}
use Rattle.infer_spec.specs.Clear.{RowsAreFine}
use Rattle.infer_spec.proofs.Found.{read_least}
use Rattle.infer_systems_laws.proofs.Below.{stays_below}

module _ (A : Analysis) (st : State) (task : Task) (fine : RowsAreFine A st task) (t : ℕ) (x : List ℕ) (reads : ReadsSolution (rule_of A) (system_at A st task) t x) where
  solves : Solves (system_at A st task) (map pos x) (pos t)
  solves = let least = read_least (system_at A st task) fine.system (rule_of A) t x reads in least.solves

  pub one_each : IsTask A.program A.degree st.blocks task (scale_at st.scales task.kind) → length (map pos x) ≡ unknowns_of (bodies_of A.program A.degree st.blocks task)
  one_each is = solves.one_each ∙ counted_in A.program A.degree st.blocks task (scale_at st.scales task.kind) refl is

  pub few : length (map pos x) ≤ 2000
  few =
      let below = stays_below A.generator task (system_at A st task) fine.limit in
      let low = below.unknowns in
      let count = solves.one_each in
      omega (arith, low, count)

  pub natural : NoneNegative (map pos x)
  natural = solves.natural
