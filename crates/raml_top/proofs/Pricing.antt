-- Programs under prices, and those in which the prices are written out.
use Rattle.std.proofs.Common.{◌≡◌, ◌≤◌, ◌*◌, ℕ, length, List, Some, sym, ap, subst, ◌∙◌, refl, arith, Bool, true, false}
use Rattle.std.specs.Prelude.{slice_get}
use Rattle.std.specs.List.{All, Contains}
use Rattle.std.specs.Option.{option_map}
use Rattle.std.proofs.lemmas.Option.{slice_get-map, slice_get_within}
use Rattle.raml_syntax.specs.Tree.{Text, Function, Prog}
use Rattle.raml_syntax.specs.Value.{Value, HaveTypes}
use Rattle.raml_syntax.specs.Types.{Typed, types_of}
use Rattle.raml_syntax.specs.Node.{AllNodes, NumberFits}
use Rattle.poly_point.specs.Point.{worth}
use Rattle.stack_compile.specs.Machine.{Halted}
use Rattle.stack_compile.specs.Laws.{at, MachineIsLinked}
use Rattle.cost_free.specs.declared.task.Meter.TheVariants.{Ticks}
use Rattle.cost_free.specs.Schedule.{meters}
use Rattle.annot_types.specs.Program.{Program}
use Rattle.annot_types.specs.Certificate.{Certificate, has_work}
use Rattle.annot_types.specs.Held.{Claim, Bound, NoBound, CallsUnbounded, line, lines_for}
use Rattle.analysis_report.specs.Lines.{Claims, AreMeterLines}
use Rattle.analysis_report.proofs.MeterLines.{meter_lines_are_lines}
use Rattle.raml_promise.specs.Analysis.{IsProved}
use Rattle.rules_soundness_laws.specs.Laws.{IsTrue}
use Rattle.price_file.specs.Construct.{Prices}
use Rattle.price_file.specs.Applied.{applied_function, applied_program}
use Rattle.price_file.proofs.CostSame.{costs_prices}
use Rattle.raml_promise.specs.Prices.{IsTrueUnder, ArePricedLines, GivesUnder}
use Rattle.raml_promise.specs.Call.{Placed}
use Rattle.raml_parts.specs.Parts.{IsCallOf}
use Rattle.raml_parts.specs.declared.call.Call.{Call}

-- ticks are counted by each certificate
pub ticks_counted : (work : Bool) → Contains (meters work) Ticks
ticks_counted true = (0, omega arith, refl)
ticks_counted false = (0, omega arith, refl)

module _ (prices : Prices) (P : Prog) where
  -- each function stands at its place with its prices written out
  pub applied_there : (k : ℕ) (g : Function) → slice_get P k ≡ Some g → slice_get (applied_program prices P) k ≡ Some (applied_function prices g)
  applied_there k g there = slice_get-map (applied_function prices) P k ∙ ap (option_map (applied_function prices)) there

  -- what is true of ticks of the program in which they are written out is true of the program's ticks under them
  pub true_under : (f : ℕ) (claim : Claim) → IsTrue (applied_program prices P) f Ticks claim → IsTrueUnder prices P f claim
  true_under f NoBound h = tt
  true_under f (CallsUnbounded callee) h = tt
  true_under f (Bound den terms) h = λ g there args limit typed.
      subst (λ ticks. den * ticks ≤ worth terms args) (((costs_prices prices P).runs limit g args).ticks)
      ((h (applied_function prices g) (applied_there f g there)).runs args limit typed)

  -- where the machine halts, evaluation under the prices has its value, ticks and cells
  pub spent : MachineIsLinked → Typed (applied_program prices P) → All (λ (g : Function). AllNodes NumberFits g.body) (applied_program prices P) →
      (f : Placed) (args : List Value) → slice_get P f.0 ≡ Some f.1 → HaveTypes args (types_of f.1) →
      (v : Value) (m : ℕ) → (at (applied_program prices P) f.0 args m).at ≡ Halted v → GivesUnder prices P f.1 args v (at (applied_program prices P) f.0 args m)
  spent law typed numbers f args there types v m halted =
      let linked = law (applied_program prices P) typed numbers f.0 (applied_function prices f.1) args (applied_there f.0 f.1 there) types in
      let gives = linked.halts_only m v halted in
      let same = (costs_prices prices P).runs gives.limit f.1 args in
      record { limit = gives.limit; value = sym same.out ∙ gives.value; ticks = gives.ticks ∙ same.ticks; cells = gives.cells ∙ same.cells }

  -- a call of a function is one of it with its prices written out
  pub applied_call : (made : Prog) → made ≡ applied_program prices P → (call : Call) (f : Placed) (args : List Value) → IsCallOf P f call args →
      IsCallOf made (f.0, applied_function prices f.1) call args
  applied_call made same call f args is = record {
    place = is.place;
    arguments = record {
      there = subst (λ Q. slice_get Q f.0 ≡ Some (applied_function prices f.1)) (sym same) (applied_there f.0 f.1 is.arguments.there);
      stand = is.arguments.stand;
      types = is.arguments.types;
      few_cells = is.arguments.few_cells;
      small = is.arguments.small;
    };
  }

  -- the lines of ticks of that program, over what is proved of its certificate
  pub lines_under : (Q : Prog) (N : Program) (c : Certificate) → Q ≡ applied_program prices P → length N.funs ≡ length Q → IsProved Q N c → (text : Text) → AreMeterLines Q N c Ticks text →
      ArePricedLines prices P N c text
  lines_under Q N c same count proved text lines = record {
    lines = subst (λ R. AreMeterLines R N c Ticks text) same lines;
    hold = λ f claim claims. true_under f claim (subst (λ R. IsTrue R f Ticks claim) same (told f claim claims));
  }
    where
      told : (f : ℕ) (claim : Claim) → Claims N c f Ticks claim → IsTrue Q f Ticks claim
      told f NoBound claims = tt
      told f (CallsUnbounded callee) claims = tt
      told f (Bound den terms) claims = λ fun there.
          let l = line f Ticks (Bound den terms) in
          let within = slice_get_within Q f fun there in
          let among : Contains (lines_for N c f Ticks) l = subst (λ ls. Contains ls l) (sym claims) (0, omega arith, refl) in
          proved.lines.bounds l (meter_lines_are_lines N c f Ticks l (omega (arith, within, count)) (ticks_counted (has_work c)) among) fun there
