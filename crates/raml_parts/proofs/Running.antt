-- What a machine ends with is what is reported of the run.
use Rattle.std.proofs.Common.{arith, ◌≡◌, ◌≤◌, ◌<◌, ◌*◌, ℕ, suc, List, Some, Result, Ok, Err, sym, ap, subst, ◌∙◌}
use Rattle.std.specs.Prelude.{slice_get, IfOk}
use Rattle.std.specs.List.{All}
use Rattle.raml_syntax.specs.Tree.{Type', Function, Prog}
use Rattle.raml_syntax.specs.Value.{Value}
use Rattle.raml_syntax.specs.Eval.{run_of}
use Rattle.raml_syntax.specs.Types.{Typed}
use Rattle.raml_syntax.specs.Node.{AllNodes, NumberFits}
use Rattle.raml_syntax.proofs.Keep.{typed_runs_keep}
use Rattle.stack_compile.specs.Code.{bodies_of}
use Rattle.stack_compile.specs.Machine.{State}
use Rattle.stack_compile.specs.Laws.{at, IsGoing, Gives}
use Rattle.value_text.specs.declared.word.Word.{Word}
use Rattle.value_text.specs.declared.word.Cell.{Cell}
use Rattle.value_text.specs.Stands.{StandsFor}
use Rattle.value_text.specs.Printing.{StandsForSome}
use Rattle.metered_vm.specs.Moving.{TakesCell}
use Rattle.metered_vm.specs.Seen.{Seen, program_in, fun_in, args_in, cells_in, state_in, Kept, Begins, GoesOn}
use Rattle.metered_vm.specs.Ending.{HasHalted, HasStopped, IsFull, next_of}
use Rattle.analysis_report.specs.Limits.{NeverAsks}
use Rattle.report_text.specs.Report.{value_lines, stopped_lines, full_lines}
use Rattle.refusals.specs.Ending as e
use Rattle.refusals.specs.declared.answer.Report.{Report}
use Rattle.refusals.specs.declared.status.Status.TheVariants.{Done, Stopped, HeapFull}
use Rattle.raml_promise.specs.Outside.{Sound}
use Rattle.raml_promise.specs.Call.{Placed, Limits, Finishes, Stops, Fills, NoWorkWithin}
use Rattle.simple_types.proofs.Placing.{found}
use Rattle.raml_parts.specs.Parts.{HasArguments, RanOn}

module _ (P : Prog) (f : Placed) (cells : List Cell) (words : List Word) (args : List Value) (r : HasArguments P f cells words args) (limits : Limits) (old new : Seen)
    (begins : Begins P f.0 cells words limits.cells old) (goes : GoesOn limits.steps old new) (kept : Kept new) where
  program_is : program_in new ≡ P
  program_is = goes.program ∙ begins.program

  typed : Typed P
  typed = subst Typed program_is kept.typed

  numbers : All (λ (g : Function). AllNodes NumberFits g.body) P
  numbers = subst (λ Q. All (λ (g : Function). AllNodes NumberFits g.body) Q) program_is kept.numbers

  fun_is : fun_in new ≡ f.0
  fun_is = goes.fun ∙ begins.fun

  args_are : args_in new ≡ args
  args_are = goes.arguments ∙ begins.arguments args r.stand

  there : slice_get (program_in new) (fun_in new) ≡ Some f.1
  there = (λ i. slice_get (program_is i) (fun_is i)) ∙ r.there

  state_is : state_in new ≡ at P f.0 args (state_in new).made
  state_is = kept.state ∙ (λ i. at (program_is i) (fun_is i) (args_are i) (state_in new).made)

  gives : (v : Value) → Gives (program_in new) f.1 (args_in new) v (state_in new) → Gives P f.1 args v (at P f.0 args (state_in new).made)
  gives v h = subst (Gives P f.1 args v) state_is (subst (λ vs. Gives P f.1 vs v (state_in new)) args_are (subst (λ Q. Gives Q f.1 (args_in new) v (state_in new)) program_is h))

  few_cells : (state_in new).cells ≤ limits.cells
  few_cells = subst (λ n. (state_in new).cells ≤ n) (goes.most ∙ begins.most) kept.cells

  -- the word with which it halts stands for a value of the function's result type
  pub halted_word : (w : Word) → HasHalted w new → StandsForSome (cells_in new) w f.1.result
  halted_word w h =
      let g = gives h.value (h.gives f.1 there) in
      let keeps = (typed_runs_keep P typed numbers).runs g.limit f.1.name f.1 args (found P typed f.0 f.1 r.there) r.types in
      record { value = h.value; stands = h.stands; has = keeps.value h.value g.value }

  finishes : (w : Word) (text : List ℕ) → HasHalted w new → ((v : Value) → StandsFor (cells_in new) w v → text ≡ value_lines v f.1.result (state_in new)) → Finishes Sound P f args limits text
  finishes w text h printed =
      let s = state_in new in
      record {
        value = h.value;
        made = s.made;
        within = goes.few;
        halted = ap (λ (t : State). t.at) (sym state_is) ∙ h.halted;
        counted = ap (λ (t : State). t.made) (sym state_is);
        few_cells = subst (λ (t : State). t.cells ≤ limits.cells) state_is few_cells;
        evaluated = gives h.value (h.gives f.1 there);
        printed = printed h.value h.stands ∙ ap (value_lines h.value f.1.result) state_is;
      }

  -- where it goes on after all steps, no bound of work is a quarter of them
  no_work : state_in new ≡ at P f.0 args limits.steps → IsGoing (state_in new).at → NoWorkWithin P f args limits.steps
  no_work same going den terms bounds few =
      let less = bounds.machine args limits.steps r.types (subst (λ (t : State). IsGoing t.at) same going) in
      absurd (omega (arith, less, few))

  stops : (text : List ℕ) → HasStopped limits.steps new → text ≡ stopped_lines (state_in new) → Stops Sound P f args limits text
  stops text h printed =
      let same : state_in new ≡ at P f.0 args limits.steps = state_is ∙ ap (at P f.0 args) h.made in
      record {
        going = subst (λ (t : State). IsGoing t.at) same h.going;
        counted = ap (λ (t : State). t.made) (sym same) ∙ h.made;
        few_cells = subst (λ (t : State). t.cells ≤ limits.cells) same few_cells;
        worked = subst (λ vs. limits.steps < 4 * (run_of P f.1 vs (suc limits.steps)).work) args_are (subst (λ Q. limits.steps < 4 * (run_of Q f.1 (args_in new) (suc limits.steps)).work) program_is (h.work f.1 there));
        unbounded = no_work same h.going;
        printed = printed ∙ ap stopped_lines same;
      }

  fills : NeverAsks → (text : List ℕ) → IsFull limits.steps new → text ≡ full_lines (state_in new) → Fills Sound P f args limits text
  fills never text h printed =
      let s = state_in new in
      let going = subst (λ (t : State). IsGoing t.at) state_is h.going in
      let all = ap (λ (t : State). t.cells) (sym state_is) ∙ h.cells ∙ goes.most ∙ begins.most in
      let takes = subst (λ (t : State). TakesCell (next_of (bodies_of P) t.at)) state_is (subst (λ Q. TakesCell (next_of (bodies_of Q) s.at)) program_is h.takes) in
      record {
        made = s.made;
        fewer = h.made;
        going = going;
        all = all;
        takes = takes;
        counted = ap (λ (t : State). t.made) (sym state_is);
        unbounded = λ den terms positive bounds few.
            never P f.0 f.1 den terms positive bounds args r.types limits.cells few s.made (record { going = going; all = all; takes = takes });
        printed = printed ∙ ap full_lines state_is;
      }

-- The report of a machine that began with the arguments and has gone on.
module _ (P : Prog) (place : ℕ) (cells : List Cell) (words : List Word) (limits : Limits) (old new : Seen)
    (begins : Begins P place cells words limits.cells old) (goes : GoesOn limits.steps old new) (kept : Kept new) where
  begun : (f : Placed) → f.0 ≡ place → Begins P f.0 cells words limits.cells old
  begun f same = subst (λ g. Begins P g cells words limits.cells old) (sym same) begins

  pub halted_ran : {E : Type 0} (report : Result Report E) (w : Word) (A : Type') → HasHalted w new →
      ((f : Placed) → f.0 ≡ place → slice_get P f.0 ≡ Some f.1 → A ≡ f.1.result) → IfOk report (λ r. r.status ≡ Done) →
      IfOk report (λ r. (v : Value) → StandsFor (cells_in new) w v → r.text.items ≡ value_lines v A (state_in new)) →
      IfOk report (λ r. RanOn P place cells words limits r.status r.text.items)
  halted_ran (Ok report) w A h type status text = λ f args same r.
      let printed = subst (λ B. (v : Value) → StandsFor (cells_in new) w v → report.text.items ≡ value_lines v B (state_in new)) (type f same r.there) text in
      (e.Done, ap e.ending_of status, finishes P f cells words args r limits old new (begun f same) goes kept w report.text.items h printed)
  halted_ran (Err x) w A h type status text = tt

  pub stopped_ran : {E : Type 0} (report : Result Report E) → HasStopped limits.steps new → IfOk report (λ r. r.status ≡ Stopped) →
      IfOk report (λ r. r.text.items ≡ stopped_lines (state_in new)) → IfOk report (λ r. RanOn P place cells words limits r.status r.text.items)
  stopped_ran (Ok report) h status text = λ f args same r.
      (e.Stopped, ap e.ending_of status, stops P f cells words args r limits old new (begun f same) goes kept report.text.items h text)
  stopped_ran (Err x) h status text = tt

  pub full_ran : {E : Type 0} (report : Result Report E) → NeverAsks → IsFull limits.steps new → IfOk report (λ r. r.status ≡ HeapFull) →
      IfOk report (λ r. r.text.items ≡ full_lines (state_in new)) → IfOk report (λ r. RanOn P place cells words limits r.status r.text.items)
  full_ran (Ok report) never h status text = λ f args same r.
      (e.HeapFull, ap e.ending_of status, fills P f cells words args r limits old new (begun f same) goes kept never report.text.items h text)
  full_ran (Err x) never h status text = tt
