-- Declared bounds have one verdict each, or the first that exceeds is refused.
use Rattle.std.proofs.Common.{◌≡◌, ℕ, List, Result, Ok, Err, refl, ap}
use Rattle.raml_syntax.specs.Tree.{Text, Prog}
use Rattle.annot_types.specs.Program.{Program}
use Rattle.annot_types.specs.Certificate.{Certificate}
use Rattle.simplex_checked.specs.Rules.{least_pick}
use Rattle.bound_file.specs.Lines.{Line, Declaration}
use Rattle.bound_file.specs.Answers.{Spells}
use Rattle.bound_file.specs.declared.fault.DeclFault.{DeclFault}
use Rattle.bound_file.specs.Laws.{FilesHaveOneAnswer}
use Rattle.contract_report.specs.Verdicts.{AreVerdictLines}
use Rattle.contract_report.specs.Refused.{Rows, Number, FirstExceeds, AllLinesClear}
use Rattle.contract_report.proofs.Once.{one_exceeds_first, clear_exceeds_none}
use Rattle.refusal_text.specs.declared.plain.Which.TheVariants as w
use Rattle.refusals.specs.Ending.{Ending, BadBounds, LineTooLarge, Overflows, OnLine}
use Rattle.refusals.specs.Line.{no_names}
use Rattle.raml_promise.specs.Outside.{Sound, Complete, Store}
use Rattle.raml_promise.specs.Steps.{Answer, Step, Prints, names_of}
use Rattle.raml_promise.specs.DeclaredBounds.{BoundsRefuse, OfBounds, LinesRefuse, PrintsVerdicts}
use Rattle.raml_promise.proofs.Alike.{alike_same, Same, steps_same, prints_same}
use Rattle.raml_promise.proofs.OneSource.{file_same}

-- ---- files of bounds

module _ (files : FilesHaveOneAnswer) (P : Prog) (degree : ℕ) (bytes : List ℕ) where
  one_file : (D E : Declaration) → Spells P degree bytes D → Spells P degree bytes E → D ≡ E
  one_file D E h k = let e : ◌≡◌ {A = Result Declaration DeclFault} (Ok D) (Ok E) = files.one P degree bytes (Ok D) (Ok E) h k in cc

  bounds_refusals : (e f : Ending) → BoundsRefuse P degree bytes e → BoundsRefuse P degree bytes f → e ≡ f
  bounds_refusals (BadBounds x) (BadBounds y) h k = let e : ◌≡◌ {A = Result Declaration DeclFault} (Err x) (Err y) = files.one P degree bytes (Err x) (Err y) h k in cc
  bounds_refusals (BadBounds x) f h k = absurd k
  bounds_refusals e f h k = absurd h

  refused_or_spelled : (e : Ending) (D : Declaration) → BoundsRefuse P degree bytes e → Spells P degree bytes D → ⊥
  refused_or_spelled (BadBounds x) D h k = let e : ◌≡◌ {A = Result Declaration DeclFault} (Err x) (Ok D) = files.one P degree bytes (Err x) (Ok D) h k in absurd (cc)
  refused_or_spelled e D h k = absurd h

  declared_same : (Q T : Declaration → Answer → Type 0) → ((D : Declaration) (a b : Answer) → Q D a → T D b → Same a b) → (a b : Answer) →
      Step no_names (BoundsRefuse P degree bytes) (Spells P degree bytes) Q a → Step no_names (BoundsRefuse P degree bytes) (Spells P degree bytes) T b → Same a b
  declared_same Q T rest =
      steps_same no_names no_names (BoundsRefuse P degree bytes) (BoundsRefuse P degree bytes) (Spells P degree bytes) (Spells P degree bytes) Q T
      (record {
        refusals = λ e f r s. alike_same e f (bounds_refusals e f r s);
        not_left = refused_or_spelled;
        not_right = λ D e h s. refused_or_spelled e D s h;
        one = one_file;
      })
      (λ D h k. rest D)

pub bounds_same : FilesHaveOneAnswer → (store : Store) (file : Text) (P : Prog) (degree : ℕ) (Q T : Declaration → Answer → Type 0) → ((D : Declaration) (a b : Answer) → Q D a → T D b → Same a b) →
    (a b : Answer) → OfBounds Complete store file P degree Q a → OfBounds Sound store file P degree T b → Same a b
bounds_same files store file P degree Q T rest = file_same store w.Bounds file _ _ (λ bytes. declared_same files P degree bytes Q T rest)

-- ---- verdicts

module _ (P : Prog) (N : Program) (lines : List Line) (c : Certificate) where
  -- two numbers and what is exceeded are one
  large_same : (n m : ℕ) → FirstExceeds N c least_pick lines n Rows → FirstExceeds N c least_pick lines m Rows → LineTooLarge n ≡ LineTooLarge m
  large_same n m h k = ap LineTooLarge (one_exceeds_first N c least_pick lines n m Rows Rows h k).0

  wide_same : (n m : ℕ) → FirstExceeds N c least_pick lines n Number → FirstExceeds N c least_pick lines m Number → Overflows (OnLine n) ≡ Overflows (OnLine m)
  wide_same n m h k = ap (λ i. Overflows (OnLine i)) (one_exceeds_first N c least_pick lines n m Number Number h k).0

  not_both : (n m : ℕ) → FirstExceeds N c least_pick lines n Rows → FirstExceeds N c least_pick lines m Number → ⊥
  not_both n m h k = let e = (one_exceeds_first N c least_pick lines n m Rows Number h k).1 in absurd (cc)

  refusals_same : (e f : Ending) → LinesRefuse N c lines e → LinesRefuse N c lines f → e ≡ f
  refusals_same (LineTooLarge n) (LineTooLarge m) h k = large_same n m h k
  refusals_same (LineTooLarge n) (Overflows (OnLine m)) h k = absurd (not_both n m h k)
  refusals_same (Overflows (OnLine n)) (LineTooLarge m) h k = absurd (not_both m n k h)
  refusals_same (Overflows (OnLine n)) (Overflows (OnLine m)) h k = wide_same n m h k
  refusals_same (LineTooLarge n) f h k = absurd k
  refusals_same (Overflows (OnLine n)) f h k = absurd k
  refusals_same e f h k = absurd h

  refused_or_clear : (e : Ending) → LinesRefuse N c lines e → AllLinesClear N c least_pick lines → ⊥
  refused_or_clear (LineTooLarge n) h clear = clear_exceeds_none N c least_pick lines n Rows h clear
  refused_or_clear (Overflows (OnLine n)) h clear = clear_exceeds_none N c least_pick lines n Number h clear
  refused_or_clear e h clear = absurd h

  one : (x y : Unit {0}) → x ≡ y
  one x y = refl

  pub verdicts_same : (a b : Answer) → PrintsVerdicts Complete P N lines c a → PrintsVerdicts Sound P N lines c b → Same a b
  verdicts_same =
      steps_same (names_of P N) (names_of P N) (LinesRefuse N c lines) (LinesRefuse N c lines)
      (λ (done : Unit {0}). AllLinesClear N c least_pick lines) (λ (done : Unit {0}). AllLinesClear N c least_pick lines)
      (λ done. Prints Complete (AreVerdictLines P N c lines)) (λ done. Prints Sound (AreVerdictLines P N c lines))
      (record {
        refusals = λ e f r s. alike_same e f (refusals_same e f r s);
        not_left = λ e done r clear. refused_or_clear e r clear;
        not_right = λ done e clear r. refused_or_clear e r clear;
        one = λ x y h k. one x y;
      })
      (λ done h k. prints_same (AreVerdictLines P N c lines) (AreVerdictLines P N c lines))
