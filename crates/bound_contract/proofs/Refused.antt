-- A solution that is read of a line's system is refused for a total alone.
use Rattle.std.proofs.Common.{◌≡◌, ap, sym, ◌∙◌, subst, arith}
use Rattle.std.specs.Prelude.{ℕ, ◌<◌, ◌≤◌, List, length, slice_get, Option, None, Some}
use Rattle.std.specs.Option.{unwrap_or}
use Rattle.std.proofs.lemmas.Option.{same_Some, slice_get_within}
use Rattle.cost_free.specs.declared.task.Meter.{Meter}
use Rattle.cost_free.specs.Task as k
use Rattle.cost_free.specs.Task.{Task, Kind, Free}
use Rattle.annot_types.specs.Program.{Program, blocker_of}
use Rattle.annot_types.specs.Certificate.{Sig, Hint, Body, Solved, Refuted, Calls, Block, Certificate}
use Rattle.annot_types.specs.Held.{before, done_before, SigsRise, AllHintsRise, NamesBlocker}
use Rattle.rules_soundness_laws.specs.Laws.{HoldsAt}
use Rattle.infer_systems_laws.specs.Tried.{TriedHaveTasks}
use Rattle.infer_systems_laws.specs.Laws.{OrderedAreProper}
use Rattle.rules_spec.specs.Told.{bodies_of, sigs_told, hints_told}
use Rattle.rules_systems_laws.specs.Laws.{told}
use Rattle.rules_systems_laws.proofs.Shapes.{told_rise}
use Rattle.cert_check.specs.Fault.{Fault}
use Rattle.cert_check.specs.Finds.{AreWithin}
use Rattle.cert_check.specs.Laws.{IsProper}
use Rattle.other_blocks.specs.Laws.{IsTotal}
use Rattle.other_blocks.specs.Other.{IsTried, place, OwnIsTried, ScaleFits, OtherFinds}
use Rattle.simplex_integers.specs.Reading.{ReadsSolution}
use Rattle.simplex_spec.specs.Courses.{rule_by}
use Rattle.bound_contract.specs.Kept.{IsTaskOf, system_there, KeepsThere}
use Rattle.bound_contract.specs.Laws.{ReadLeavesAlone}
use Rattle.other_blocks.proofs.Totals.{holds_leaves_alone}
use Rattle.bound_contract.proofs.Readings.{readings_decide}

pub not_waiting : (o : Option ℕ) (body : Body) → o ≡ None → NamesBlocker o body → IsTried body
not_waiting None (Solved sigs hints) e h = tt
not_waiting None (Refuted farkas) e h = tt
not_waiting None (Calls fun) e h = absurd h
not_waiting (Some f) body e h = absurd (cc)

-- by cases on the task's kind
by_kind : (P : Program) → IsProper P → (c : Certificate) (t : ℕ) → 0 < t → (group : ℕ) (kind : Kind) (meter : Meter) → kind ≡ k.With meter → (sigs : List Sig) (hints : List (List Hint)) →
    let block : Block = record { task = record { group = group; kind = kind }; body = Solved sigs hints } in
    OwnIsTried P c t block → place P c t block ≤ length c.blocks → SigsRise sigs → AllHintsRise hints → HoldsAt P c (place P c t block) block t →
    AreWithin P c block.task → ScaleFits P c t block →
    (fault : Fault) → OtherFinds P c t block (Some fault) → IsTotal P c t block sigs hints fault
by_kind P proper c t positive group (Free budget f number) meter e sigs hints = absurd (cc)
by_kind P proper c t positive group (k.With other) meter e sigs hints = holds_leaves_alone P proper c t positive group other sigs hints

pub read_leaves_alone : TriedHaveTasks → OrderedAreProper → ReadLeavesAlone
read_leaves_alone tasks proper P ordered c held line task of at own first there is tried within pick t x read fits =
    let block : Block = told P c.degree (before c at) task x in
    let here : place P c t block ≡ at = ap (λ o. unwrap_or o 0) first in
    let reading = readings_decide tasks P ordered c held at own there (subst (λ (u : Task). blocker_of P u (done_before c at) ≡ None) (sym is) tried) line (subst (IsTaskOf P line) (sym is) of) pick in
    let keeps = subst (λ (u : Task). ReadsSolution (rule_by pick) (system_there P c at u line) t x → KeepsThere P c at u line (told P c.degree (before c at) u x) t) is (reading.kept t x) read in
    let rise = told_rise P c.degree (before c at) task x in
    let low = slice_get_within c.blocks at own there in
    by_kind P (proper P ordered) c t keeps.holds.positive task.group task.kind line.meter of.kind (sigs_told (bodies_of P c.degree (before c at) task) x) (hints_told (bodies_of P c.degree (before c at) task) x)
    (λ other other_there. subst (λ (b : Block). IsTried b.body)
    (same_Some own other (sym there ∙ ap (slice_get c.blocks) (sym here) ∙ other_there))
    (not_waiting (blocker_of P own.task (done_before c at)) own.body (subst (λ (u : Task). blocker_of P u (done_before c at) ≡ None) (sym is) tried) (held.blocks at own there).waits))
    (omega (arith, low, here)) rise.0 rise.1
    (subst (λ n. HoldsAt P c n block t) (sym here) keeps.holds) within fits
