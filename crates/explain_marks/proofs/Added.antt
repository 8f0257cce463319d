-- Runs that are added.
use Rattle.std.proofs.Common.{◌≡◌, ◌≤◌, ◌<◌, ℕ, List, ◌∷◌, ◌++◌, [], length, Result, Ok, Err, OnOk, inl, inr}
use Rattle.std.specs.Prelude.{slice_index_or}
use Rattle.std.specs.List.{All, insert}
use Rattle.std.proofs.lemmas.List.Elements.{All-cons, All-push, All-same}
use Rattle.std.proofs.lemmas.List.Sorted.{All-permutation, IsPermutation-insert}
use Rattle.raml_syntax.specs.Tree.{Prog}
use Rattle.annot_types.specs.Program.{Program}
use Rattle.annot_types.specs.Certificate.{Certificate}
use Rattle.cost_free.specs.declared.task.Meter.{Meter}
use Rattle.explain_chart.specs.Chart.{Mark}
use Rattle.explain_chart.specs.Read.{mark_in}
use Rattle.explain_chart.specs.declared.mark.Mark.{Mark as Mark'}
use Rattle.explain_marks.specs.Marks.{IsAdded, IsFileMark, IsGivenMark}
use Rattle.explain_marks.specs.declared.marks.Given.{Given}
use Rattle.explain_marks.specs.declared.marks.Marks.{Marks}

-- the runs so far are so, and few instructions are left
pub record AreSoFar (Is : Mark → Type 0) (found : Marks) : Type 0 where
  pub steps : found.steps ≤ 2000000
  pub marks : All (λ (m : Mark'). Is (mark_in m)) found.marks.items

-- what all runs are, they are with one more that is so
pub all_added : (Is All' : Mark → Type 0) (old new : List Mark') → ((m : Mark) → Is m → All' m) → IsAdded Is old new →
    All (λ m. All' (mark_in m)) old → All (λ m. All' (mark_in m)) new
all_added Is All' old new turn (inl same) all = All-same (λ m. All' (mark_in m)) new old same all
all_added Is All' old new turn (inr added) all =
    let m = added.1 in
    let more = All-cons (λ m. All' (mark_in m)) m old (turn (mark_in m) added.2) all in
    All-same (λ m. All' (mark_in m)) new (insert old added.0 m) added.3
    (All-permutation (λ m. All' (mark_in m)) (m ∷ old) (insert old added.0 m) (IsPermutation-insert old added.0 m) more)

-- one that is put somewhere
pub one_added : {T E : Type 0} (r : Result T E) (Is : Mark → Type 0) (old new : List Mark') (m : Mark') → Is (mark_in m) →
    OnOk r ((place : ℕ) × (new ≡ insert old place m)) → OnOk r (IsAdded Is old new)
one_added (Ok x) Is old new m is put = inr (put.0, m, is, put.1)
one_added (Err e) Is old new m is put = tt

-- one that stands last
pub one_pushed : (Is : Mark → Type 0) (old new : List Mark') (m : Mark') → Is (mark_in m) → new ≡ old ++ m ∷ [] → All (λ m. Is (mark_in m)) old → All (λ m. Is (mark_in m)) new
one_pushed Is old new m is same all = All-same (λ m. Is (mark_in m)) new (old ++ m ∷ []) same (All-push (λ m. Is (mark_in m)) old m all is)

-- the run on one of the files
pub of_files : (P : Prog) (N : Program) (c : Certificate) (f : ℕ) (meter : Meter) (place : ℕ) (files : List Given) (k : ℕ) (file : Given) → k < length files → slice_index_or files k file ≡ file →
    (m : Mark) → IsFileMark P N c f meter place file m → IsGivenMark P N c f meter place files m
of_files P N c f meter place files k file below at m is = (file, (k, below, at), is)
