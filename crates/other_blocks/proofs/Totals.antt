-- A block that holds is refused for a total alone.
use Rattle.std.proofs.Common.{◌≡◌, refl, ap, sym, ◌∙◌, subst, inl, inr}
use Rattle.std.specs.Prelude.{ℕ, ◌<◌, ◌≤◌, List, map, length, Option, None, Some}
use Rattle.std.specs.Option.{option_map}
use Rattle.std.proofs.lemmas.List.{length-map, length-take-le}
use Rattle.std.proofs.lemmas.Option.{none-some}
use Rattle.cost_free.specs.declared.task.Meter.{Meter}
use Rattle.cost_free.specs.Task as k
use Rattle.cost_free.specs.Task.{Task}
use Rattle.annot_types.specs.Program.{Program, members}
use Rattle.annot_types.specs.Certificate.{Sig, Hint, Solved, Block, Certificate}
use Rattle.annot_types.specs.Rules.{With}
use Rattle.annot_types.specs.Holds.{raised, FunctionsHold}
use Rattle.annot_types.specs.Held.{before, scale_for, SigsRise, AllHintsRise}
use Rattle.rules_soundness_laws.specs.Laws.{HoldsAt}
use Rattle.rules_spec.specs.Faults as f
use Rattle.rules_spec.specs.Faults.{first_fault}
use Rattle.cert_check.specs.Fault.{Fault, Leaves, Unless}
use Rattle.cert_check.specs.Finds.{at_block, job, job_conditions, job_fault, AreWithin}
use Rattle.cert_check.specs.Laws.{IsProper}
use Rattle.cert_check.proofs.Fitted.{block_meets}
use Rattle.cert_check.proofs.Alone.{LeavesAt, all_met_leave}
use Rattle.other_blocks.specs.Raised.{raised_for}
use Rattle.other_blocks.specs.Other.{place, OwnIsTried, ScaleFits, OtherFinds, RaisedFinds, ThereFinds}
use Rattle.other_blocks.specs.Laws.{IsTotal, HoldsLeavesAlone}
use Rattle.other_blocks.proofs.Raised.{same_setting}

kept : (good : Type 0) (fault found : Option Fault) (A : Type 0) → good → Unless good fault found A → A
kept good fault found A g (inl h) = h.1
kept good fault found A g (inr h) = absurd (h.0 g)

some_same : (x y : Fault) → Some x ≡ Some y → x ≡ y
some_same x y e = cc

module _ (P : Program) (proper : IsProper P) (c : Certificate) (t : ℕ) (positive : 0 < t) (group : ℕ) (meter : Meter) (sigs : List Sig) (hints : List (List Hint)) where
  abbrev task : Task
  task = record { group = group; kind = k.With meter }

  abbrev block : Block
  block = record { task = task; body = Solved sigs hints }

  abbrev over : Certificate
  over = raised_for t c (k.With meter)

  abbrev at : ℕ
  at = place P c t block

  abbrev first : List Block
  first = map (raised meter t) (before c at)

  total_of : length first ≡ at → (fault : Fault) (o : Option f.Fault) → first_fault (job_conditions (job P over first task) sigs hints) ≡ o → LeavesAt o →
      Some fault ≡ option_map (at_block (length first)) o → IsTotal P c t block sigs hints fault
  total_of count fault None e l is = absurd (none-some fault (sym is))
  total_of count fault (Some (f.Leaves path index)) e l is = record {
    path = path;
    index = index;
    is = some_same fault _ is ∙ ap (λ n. Leaves n path index) count;
    first = e;
  }
  total_of count fault (Some (f.Fails path index)) e l is = absurd l

  leaves_alone : OwnIsTried P c t block → at ≤ length c.blocks → SigsRise sigs → AllHintsRise hints → HoldsAt P c at block t → AreWithin P c task → ScaleFits P c t block →
      (fault : Fault) → OtherFinds P c t block (Some fault) → IsTotal P c t block sigs hints fault
  leaves_alone tried low sigs_rise hints_rise holds within fits fault x =
      let functions = subst (λ S. FunctionsHold S (With meter) (members P group) sigs hints) (sym (same_setting P c (before c at) meter t group (Solved sigs hints))) holds.functions in
      let try = block_meets P proper c.degree first (scale_for over (k.With meter)) task sigs hints functions hints_rise in
      let count : length first ≡ at = length-map (before c at) (raised meter t) ∙ length-take-le at c.blocks low in
      by (kept _ _ _ _ tried x) (λ found y.
      let shape = kept _ _ _ _ within y in
      let reach = kept _ _ _ _ (record { sigs_fit = try.sigs_fit; sigs_rise = sigs_rise; hints_fit = try.hints_fit; hints_rise = hints_rise }) shape in
      let rules = kept _ _ _ _ tt reach in
      total_of count found (job_fault (job P over first task) sigs hints) refl (all_met_leave (job_conditions (job P over first task) sigs hints) try.all_meet) rules)
    where
      by : RaisedFinds P c t block (Some fault) → ((found : Fault) → ThereFinds P c t block (Some found) → IsTotal P c t block sigs hints found) → IsTotal P c t block sigs hints fault
      by (inl h) there = absurd (none-some fault (sym (kept _ _ _ _ fits h.1)))
      by (inr h) there = subst (IsTotal P c t block sigs hints) (some_same h.0 fault (sym h.2)) (there h.0 h.1)

pub holds_leaves_alone : HoldsLeavesAlone
holds_leaves_alone P proper c t positive group meter sigs hints = leaves_alone P proper c t positive group meter sigs hints
