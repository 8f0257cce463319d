-- The bounds of a call.
use Rattle.std.proofs.Common.{◌≡◌, ℕ, List, Option, Result, Err, refl, sym, ap, subst, inl}
use Rattle.raml_syntax.specs.Value.{Value}
use Rattle.raml_syntax.specs.Read.{program_of}
use Rattle.raml_syntax.specs.declared.program.Program.{Program as TheProgram}
use Rattle.value_text.specs.declared.word.Word.{Word}
use Rattle.value_text.specs.Stands.{StandForAll}
use Rattle.share_normal.specs.Program.{Kept, source_in}
use Rattle.rules_plan.specs.Read.{program_in}
use Rattle.annot_types.specs.Certificate.{Certificate}
use Rattle.analysis_report.specs.Floors.{IsFloor, Leaves}
use Rattle.analysis_report.specs.Told.{floors_of, FloorsAre, FloorsRefused, AllHold}
use Rattle.analysis_report.specs.declared.bounds.FloorFault.{FloorFault}
use Rattle.analysis_report.specs.declared.bounds.FloorFault.TheVariants as floor
use Rattle.analysis_report.specs.declared.bounds.Floors.{Floors}
use Rattle.refusals.specs.Ending.{Overflows, AtPoint}
use Rattle.refusals.specs.Line.{no_names}
use Rattle.refusals.specs.declared.answer.Report.{Report}
use Rattle.refusals.specs.declared.answer.Refusal.{Refusal}
use Rattle.refusals.specs.declared.status.Status.TheVariants as s
use Rattle.refusals.specs.declared.status.OverflowAt.TheVariants as o
use Rattle.raml_promise.specs.Outside.{Sound}
use Rattle.raml_promise.specs.Call.{Placed, PointRefuses, AreFloors, OfFloors}
use Rattle.raml_promise.specs.Promise.{RunsBounded}
use Rattle.raml_parts.specs.Parts.{Gives, IsCallOf, FloorRefusal}
use Rattle.raml_parts.specs.declared.call.Call.{Call}
use Rattle.raml_parts.proofs.Stepping.{step_refused, step_goes}
use Rattle.raml_parts.proofs.Refusing.{told_refuses}

module _ (typed : TheProgram) (kept : Kept) (cert : Certificate) (source : kept.source ≡ typed) (call : Call) (f : Placed) (vs : List Value) (is : IsCallOf (program_of typed) f call vs)
    (steps : ℕ) (cells : Option ℕ) (words : List Word) (same : words ≡ call.args.words.items) where
  stand : StandForAll call.args.heap.cells words vs
  stand = subst (λ ws. StandForAll call.args.heap.cells ws vs) (sym same) is.arguments.stand

  pub floors_give : (floors : Floors) → ((us : List Value) → StandForAll call.args.heap.cells words us → FloorsAre (program_in kept) cert call.place.0 us (floors_of floors)) →
      ((us : List Value) → StandForAll call.args.heap.cells words us → AllHold (source_in kept) call.place.0 us (floors_of floors)) →
      (r : Result Report Refusal) → Gives (RunsBounded Sound (program_of typed) f vs steps cells (floors_of floors)) r →
      Gives (OfFloors Sound (program_of typed) (program_in kept) cert f vs (λ floors. RunsBounded Sound (program_of typed) f vs steps cells floors)) r
  floors_give floors ok hold r gives =
      let P = program_of typed in
      let all = subst (λ k. AllHold P k vs (floors_of floors)) (sym is.place) (subst (λ Q. AllHold Q call.place.0 vs (floors_of floors)) (ap program_of source) (hold vs stand)) in
      step_goes no_names (PointRefuses (program_in kept) cert f vs) (AreFloors Sound P (program_in kept) cert f vs) (λ floors. RunsBounded Sound P f vs steps cells floors) (floors_of floors)
      (record {
        are = λ meter. subst (λ k. IsFloor (program_in kept) cert k vs meter (floors_of floors meter)) (sym is.place) (ok vs stand meter);
        hold = all f.1 is.arguments.there is.arguments.types;
      })
      r gives

  pub floors_refused : (fault : FloorFault) → ((us : List Value) → StandForAll call.args.heap.cells words us → FloorsRefused (program_in kept) cert call.place.0 us fault) →
      (refusal : Refusal) → FloorRefusal fault refusal →
      Gives (OfFloors Sound (program_of typed) (program_in kept) cert f vs (λ floors. RunsBounded Sound (program_of typed) f vs steps cells floors)) (Err refusal)
  floors_refused (floor.Leaves meter) err refusal told =
      let P = program_of typed in
      step_refused no_names (PointRefuses (program_in kept) cert f vs) (AreFloors Sound P (program_in kept) cert f vs) (λ floors. RunsBounded Sound P f vs steps cells floors) refusal
      (told_refuses no_names (s.Overflow (o.Point meter)) (Overflows (AtPoint meter)) (PointRefuses (program_in kept) cert f vs) refl
      (subst (λ k. Leaves (program_in kept) cert k vs meter) (sym is.place) (err vs stand)) refusal told)
  floors_refused floor.NoMemory err refusal told = inl told
