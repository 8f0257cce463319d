-- What a machine ends with is what is measured of the run.
use Rattle.std.proofs.Common.{arith, ◌≡◌, ◌≤◌, ◌<◌, ◌*◌, ℕ, suc, List, Some, sym, ap, subst, ◌∙◌}
use Rattle.std.specs.Prelude.{slice_get}
use Rattle.std.specs.List.{All}
use Rattle.raml_syntax.specs.Tree.{Function, Prog}
use Rattle.raml_syntax.specs.Value.{Value}
use Rattle.raml_syntax.specs.Types.{Typed}
use Rattle.raml_syntax.specs.Node.{AllNodes, NumberFits}
use Rattle.raml_syntax.proofs.Keep.{typed_runs_keep}
use Rattle.stack_compile.specs.Code.{bodies_of}
use Rattle.stack_compile.specs.Machine.{State}
use Rattle.stack_compile.specs.Laws.{at, IsGoing, Gives}
use Rattle.value_text.specs.declared.word.Word.{Word}
use Rattle.value_text.specs.declared.word.Cell.{Cell}
use Rattle.value_text.specs.Printing.{StandsForSome, printed}
use Rattle.metered_vm.specs.Moving.{TakesCell}
use Rattle.metered_vm.specs.Seen.{Seen, HaveArguments, program_in, fun_in, args_in, cells_in, state_in, Kept, Begins, GoesOn}
use Rattle.metered_vm.specs.Ending.{Ended, HasHalted, HasStopped, IsFull, next_of}
use Rattle.metered_vm.specs.declared.end.End.{End}
use Rattle.metered_vm.specs.declared.end.End.TheVariants as e
use Rattle.simple_types.proofs.Placing.{found}
use Rattle.explain_runs.specs.Measure as m
use Rattle.explain_runs.specs.Measure.{HasArguments, EndsAs, IsMeasured}
use Rattle.explain_runs.specs.Told.{HasWord, Tells, TellsValue}
use Rattle.explain_runs.specs.declared.outcome.Limits.{Limits}
use Rattle.explain_runs.specs.declared.outcome.Measured.{Measured}
use Rattle.explain_runs.specs.declared.outcome.Outcome.{Outcome}
use Rattle.explain_runs.specs.declared.outcome.Outcome.TheVariants as o

-- the machine's premise
pub have_arguments : (P : Prog) (f : ℕ) (cells : List Cell) (words : List Word) (g : Function) (args : List Value) → HasArguments P f cells words g args → HaveArguments P f cells words
have_arguments P f cells words g args h = record { function = g; there = h.there; values = args; stand = h.stand; types = h.types }

module _ (P : Prog) (f : ℕ) (g : Function) (cells : List Cell) (words : List Word) (args : List Value) (r : HasArguments P f cells words g args) (limits : Limits) (old new : Seen)
    (begins : Begins P f cells words limits.cells old) (goes : GoesOn limits.steps old new) (kept : Kept new) where
  program_is : program_in new ≡ P
  program_is = goes.program ∙ begins.program

  typed : Typed P
  typed = subst Typed program_is kept.typed

  numbers : All (λ (g : Function). AllNodes NumberFits g.body) P
  numbers = subst (λ Q. All (λ (g : Function). AllNodes NumberFits g.body) Q) program_is kept.numbers

  fun_is : fun_in new ≡ f
  fun_is = goes.fun ∙ begins.fun

  args_are : args_in new ≡ args
  args_are = goes.arguments ∙ begins.arguments args r.stand

  there : slice_get (program_in new) (fun_in new) ≡ Some g
  there = (λ i. slice_get (program_is i) (fun_is i)) ∙ r.there

  state_is : state_in new ≡ at P f args (state_in new).made
  state_is = kept.state ∙ (λ i. at (program_is i) (fun_is i) (args_are i) (state_in new).made)

  gives : (v : Value) → Gives (program_in new) g (args_in new) v (state_in new) → Gives P g args v (at P f args (state_in new).made)
  gives v h = subst (Gives P g args v) state_is (subst (λ vs. Gives P g vs v (state_in new)) args_are (subst (λ Q. Gives Q g (args_in new) v (state_in new)) program_is h))

  few_cells : (state_in new).cells ≤ limits.cells
  few_cells = subst (λ n. (state_in new).cells ≤ n) (goes.most ∙ begins.most) kept.cells

  -- the word with which it halts stands for a value of the function's result type
  pub has_word : (end : End) → Ended limits.steps end new → HasWord (cells_in new) g.result end
  has_word (e.Halted w) h =
      let known = gives h.value (h.gives g there) in
      let keeps = (typed_runs_keep P typed numbers).runs known.limit g.name g args (found P typed f g r.there) r.types in
      record { value = h.value; stands = h.stands; has = keeps.value h.value known.value }
  has_word e.Stopped h = tt
  has_word e.HeapFull h = tt

  halted : (w : Word) (Is : List ℕ → Type 0) → (h : HasHalted w new) → Is (printed h.value g.result) → m.HasHalted P f g args (state_in new).made Is
  halted w Is h told = record {
    value = h.value;
    halted = ap (λ (t : State). t.at) (sym state_is) ∙ h.halted;
    evaluated = gives h.value (h.gives g there);
    told = told;
  }

  stopped : HasStopped limits.steps new → m.WasStopped P f args limits (state_in new).made
  stopped h = record { going = subst (λ (t : State). IsGoing t.at) state_is h.going; all = h.made }

  full : IsFull limits.steps new → m.IsFull P f args limits (state_in new).made
  full h = record {
    going = subst (λ (t : State). IsGoing t.at) state_is h.going;
    fewer = h.made;
    all = ap (λ (t : State). t.cells) (sym state_is) ∙ h.cells ∙ goes.most ∙ begins.most;
    takes = subst (λ (t : State). TakesCell (next_of (bodies_of P) t.at)) state_is (subst (λ Q. TakesCell (next_of (bodies_of Q) (state_in new).at)) program_is h.takes);
  }

  ends_as : (end : End) (outcome : Outcome) → Ended limits.steps end new → Tells (cells_in new) g.result end outcome → EndsAs P f g args limits (state_in new).made outcome
  ends_as (e.Halted w) (o.Halted text) h told = halted w _ h (told h.value h.stands)
  ends_as (e.Halted w) o.TooLong h told = halted w _ h (told h.value h.stands)
  ends_as (e.Halted w) o.Stopped h told = absurd told
  ends_as (e.Halted w) o.HeapFull h told = absurd told
  ends_as e.Stopped outcome h told = subst (EndsAs P f g args limits (state_in new).made) (sym told) (stopped h)
  ends_as e.HeapFull outcome h told = subst (EndsAs P f g args limits (state_in new).made) (sym told) (full h)

  pub is_measured : (end : End) (x : Measured) → Ended limits.steps end new → Tells (cells_in new) g.result end x.outcome → x.ticks ≡ (state_in new).ticks → x.cells ≡ (state_in new).cells →
      x.instructions ≡ (state_in new).made → IsMeasured P f g args limits x
  is_measured end x ended told ticks taken made =
      let s = state_in new in record {
        few_steps = subst (λ n. n ≤ limits.steps) (sym made) goes.few;
        few_cells = subst (λ n. n ≤ limits.cells) (sym taken) few_cells;
        made = ap (λ k. (at P f args k).made) made ∙ ap (λ (t : State). t.made) (sym state_is) ∙ sym made;
        ticks = ticks ∙ ap (λ (t : State). t.ticks) state_is ∙ ap (λ k. (at P f args k).ticks) (sym made);
        cells = taken ∙ ap (λ (t : State). t.cells) state_is ∙ ap (λ k. (at P f args k).cells) (sym made);
        ends = subst (λ k. EndsAs P f g args limits k x.outcome) (sym made) (ends_as end x.outcome ended told);
      }
