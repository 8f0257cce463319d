-- What is drawn by the analysis that tells most.
use Rattle.std.proofs.Common.{◌≡◌, ◌≢◌, ◌≤◌, ◌<◌, ◌++◌, ◌∙◌, ℕ, zero, suc, max, List, length, [], ◌∷◌, map, Option, Some, None, Result, Ok, Err, IfOk, String, Global, string_bytes, refl, sym, ap, subst, arith}
use Rattle.std.specs.List.{All}
use Rattle.std.proofs.lemmas.List.{append_assoc, append-nil}
use Rattle.std.proofs.lemmas.List.Elements.{All-nil, All-cons, All-head, All-tail}
use Rattle.std.specs.Prelude.{slice_get, slice_index_or}
use Rattle.raml_syntax.specs.Tree.{Text, Prog}
use Rattle.raml_syntax.specs.Read.{program_of}
use Rattle.raml_syntax.specs.declared.program.Program.{Program as Source}
use Rattle.call_groups.specs.Groups.{IsGrouping}
use Rattle.annot_types.specs.Program.{Program}
use Rattle.share_normal.specs.Program.{Kept, source_in}
use Rattle.rules_plan.specs.Read.{program_in}
use Rattle.rules_soundness_laws.specs.Laws.{normal_of}
use Rattle.cost_free.specs.declared.task.Meter.{Meter}
use Rattle.refusals.specs.Refusals.{names_in}
use Rattle.explain_degrees.specs.Degrees.{AreLeast, IsFinding, IsRefused, analysis_at, finding_of}
use Rattle.explain_degrees.specs.declared.finding.Finding.{Finding}
use Rattle.explain_degrees.specs.declared.finding.Finding.TheVariants as finding
use Rattle.explain_degrees.specs.declared.finding.Findings.{Findings}
use Rattle.explain_degrees.specs.declared.least.LeastBounds.{LeastBounds}
use Rattle.explain_calls.specs.Told.{notes}
use Rattle.explain_calls.proofs.Analysing.{analysed, noted}
use Rattle.annot_types.specs.Certificate.{Certificate}
use Rattle.bound_infer.specs.Inferred.{InferCause}
use Rattle.bound_infer.specs.declared.refusal.InferFault.{InferFault}
use Rattle.bound_infer.specs.declared.refusal.InferFault.TheVariants.{NoMemory}
use Rattle.explain_calls.specs.declared.end.End.TheVariants as e
use Rattle.explain_chart.specs.Chart.{Draws}
use Rattle.explain_chart.specs.Read.{mark_in, marks_in}
use Rattle.explain_chart.specs.declared.mark.Mark.{Mark}
use Rattle.explain_marks.specs.Marks.{Origin, IsMarkOf}
use Rattle.explain_plot.specs.Table.{table}
use Rattle.explain_plot.specs.Calls.{Cut, Drawn, EndsAt, IsDrawn, cut_text, degree_of}
use Rattle.explain_plot.specs.Read.{text_in}
use Rattle.explain_plot.specs.declared.call.Told.{Told}
use Rattle.explain_plot.proofs.Calling.{Tells}

-- what is read at a place stands there
pub got : {X : Type 0} (xs : List X) (i : ℕ) (x : X) → x ≡ slice_index_or xs i x → i < length xs → slice_get xs i ≡ Some x
got [] i x is below = absurd (omega (arith, below))
got (y ∷ ys) zero x is below = ap Some (sym is)
got (y ∷ ys) (suc i) x is below = got ys i x is (omega (arith, below))

-- the degree that is analysed again is in range
pub least_degree : (x : Finding) → 1 ≤ degree_of x
least_degree (finding.Bound d poly) = grind arith
least_degree (finding.NoBound d) = grind arith
least_degree (finding.Calls d callee) = grind arith
least_degree finding.Refused = omega arith

most_of : (d most : ℕ) → d ≤ most → most ≤ 4 → max 1 d ≤ 4
most_of d most few four = grind (arith, few, four)

pub most_degree : (P : Prog) (N : Program) (most f : ℕ) (meter : Meter) (x : Finding) → IsFinding P N most f meter x → most ≤ 4 → degree_of x ≤ 4
most_degree P N most f meter (finding.Bound d poly) is four = most_of d most is.0 four
most_degree P N most f meter (finding.NoBound d) is four = most_of d most is.0 four
most_degree P N most f meter (finding.Calls d callee) is four = most_of d most is.0 four
most_degree P N most f meter finding.Refused is four = omega arith

module _ (kept : Kept) (typed : Source) (source : kept.source ≡ typed) (grouping : IsGrouping (program_of typed) kept.groups)
    (normal : program_in kept ≡ normal_of (program_of typed) kept.groups.list) (most : ℕ) (found : LeastBounds)
    (least : AreLeast (source_in kept) (program_in kept) most found) where
  -- what was found of a function stands at its place
  pub findings_there : (f : ℕ) (findings : Findings) → f < length (program_of typed) → findings ≡ slice_index_or found.functions.items f findings →
      slice_get found.functions.items f ≡ Some findings
  findings_there f findings below is =
      let count = least.count in
      let same = ap (λ (s : Source). length (program_of s)) source in
      got found.functions.items f findings is (omega (arith, below, count, same))

  pub degree_within : (f : ℕ) (meter : Meter) (findings : Findings) → slice_get found.functions.items f ≡ Some findings → most ≤ 4 → degree_of (finding_of findings meter) ≤ 4
  degree_within f meter findings there four =
      most_degree (source_in kept) (program_in kept) most f meter (finding_of findings meter) (least.functions f findings meter there) four

  pub of_degree : {E : Type 0} (f : ℕ) (meter : Meter) (origin : Origin) (findings : Findings) (d : ℕ) (old_text new_text old read new : Text) (result : Result Told E) →
      slice_get found.functions.items f ≡ Some findings → d ≡ degree_of (finding_of findings meter) → read ≡ old ++ notes (names_in kept) found.refused.items →
      IfOk result (λ told. (shown : Text) × (part : Text) × EndsAt told.end (program_of typed) (program_in kept) f d meter origin (text_in told.picture) shown part
      × (new_text ≡ old_text ++ shown) × (new ≡ read ++ part)) →
      Tells (IsDrawn (program_of typed) f most meter origin) old_text new_text old new result
  of_degree f meter origin findings d old_text new_text old read new (Ok told) there best before ends =
      let names = notes (names_in kept) found.refused.items in
      let at = subst (λ d. EndsAt told.end (program_of typed) (program_in kept) f d meter origin (text_in told.picture) ends.0 ends.1) best ends.2 in
      let all = subst (λ (N : Program). EndsAt told.end (program_of typed) N f (degree_of (finding_of findings meter)) meter origin (text_in told.picture) ends.0 ends.1) normal at in (
        ends.0,
        names ++ ends.1,
        record {
          analysed = analysed kept typed source grouping normal most found least;
          findings = findings;
          there = there;
          part = ends.1;
          ends = all;
          report = ap (λ t. t ++ ends.1) (noted kept typed source grouping normal most found least);
        },
        ends.3,
        ends.4 ∙ ap (λ t. t ++ ends.1) before ∙ append_assoc old names ends.1,
      )
  of_degree f meter origin findings d old_text new_text old read new (Err e) there best before ends = tt

-- ---- runs that are drawn

all_mapped : {X Y : Type 0} (f : X → Y) (Q : Y → Type 0) (xs : List X) → All (λ x. Q (f x)) xs → All Q (map f xs)
all_mapped f Q [] all = All-nil Q
all_mapped f Q (x ∷ xs) all = All-cons Q (f x) (map f xs) (All-head (λ x. Q (f x)) x xs all) (all_mapped f Q xs (All-tail (λ x. Q (f x)) x xs all))

pub pictured : {E : Type 0} (r : Result (String Global) E) (P : Prog) (N : Program) (c : Certificate) (f : ℕ) (meter : Meter) (origin : Origin) (xs : List Mark) (cut : Option Cut) (old_text new_text old new : Text) →
    All (λ m. IsMarkOf P N c f meter origin (mark_in m)) xs → new_text ≡ old_text ++ table (marks_in xs) → new ≡ old ++ cut_text cut →
    IfOk r (λ svg. Draws (marks_in xs) (string_bytes svg)) →
    IfOk r (λ svg. (shown : Text) × (part : Text) × Drawn P N c f meter origin (string_bytes svg) shown part × (new_text ≡ old_text ++ shown) × (new ≡ old ++ part))
pictured (Ok svg) P N c f meter origin xs cut old_text new_text old new runs told behind draws = (
  table (marks_in xs),
  cut_text cut,
  record {
    marks = marks_in xs;
    runs = all_mapped mark_in (IsMarkOf P N c f meter origin) xs runs;
    draws = draws;
    told = refl;
    cut = cut;
    cut_told = refl;
  },
  told,
  behind,
)
pictured (Err e) P N c f meter origin xs cut old_text new_text old new runs told behind draws = tt

-- ---- analyses that are refused

pub refused_at : {E : Type 0} (r : Result Told E) (fault : InferFault) (P : Prog) (N : Program) (f d : ℕ) (meter : Meter) (origin : Origin) (old_text new_text old new : Text) → InferCause (analysis_at N d) fault →
    new_text ≡ old_text → new ≡ old →
    IfOk r (λ told. told.end ≡ e.NotAnalysed) → IfOk r (λ told. told.picture ≡ None) → IfOk r (λ told. fault ≢ NoMemory) →
    IfOk r (λ told. (shown : Text) × (part : Text) × EndsAt told.end P N f d meter origin (text_in told.picture) shown part × (new_text ≡ old_text ++ shown) × (new ≡ old ++ part))
refused_at (Ok told) fault P N f d meter origin old_text new_text old new cause same_text same ends none refused =
    let is : IsRefused N d = (fault, record { refused = refused; cause = cause }) in
    let at : EndsAt e.NotAnalysed P N f d meter origin (text_in told.picture) [] [] = (is, ap text_in none, refl, refl) in
    ([], [], subst (λ end. EndsAt end P N f d meter origin (text_in told.picture) [] []) (sym ends) at, same_text ∙ sym (append-nil old_text), same ∙ sym (append-nil old))
refused_at (Err e) fault P N f d meter origin old_text new_text old new cause same_text same ends none refused = tt
