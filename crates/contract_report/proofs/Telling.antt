-- Verdicts one after the other, and the first line that has none.
use Rattle.std.proofs.Common.{◌≡◌, ◌<◌, ◌≤◌, ◌⊎◌, ◌++◌, ℕ, ℤ, zero, suc, length, List, [], ◌∷◌, Option, Some, None, get_or, take, append_assoc, refl, sym, ap, subst, ◌∙◌, inl, inr, ⊎_elim, arith}
use Rattle.std.specs.Prelude.{slice_get, Result, Ok, Err, IfErr}
use Rattle.std.specs.Result.{IsErrAnd}
use Rattle.std.proofs.Math.Seq.{take-suc}
use Rattle.std.proofs.lemmas.List.{append-nil, take_all}
use Rattle.std.proofs.lemmas.Bool.Decides.{nat_tests}
use Rattle.std.proofs.lemmas.Option.{slice_get_within, get_or_from_slice_get, none-some, same_Some}
use Rattle.raml_syntax.specs.Tree.{Text, Prog}
use Rattle.share_normal.specs.Program.{source_in}
use Rattle.annot_types.specs.Program.{Program}
use Rattle.annot_types.specs.Certificate.{Certificate}
use Rattle.rules_plan.specs.Read.{program_in}
use Rattle.cert_check.specs.Checked.{Checking}
use Rattle.bound_file.specs.Lines.{Line}
use Rattle.bound_file.specs.Read.{line_of, lines_of}
use Rattle.bound_file.specs.declared.declaration.DeclLine.{DeclLine}
use Rattle.bound_contract.specs.Decided as d
use Rattle.bound_contract.specs.Decided.{Decided}
use Rattle.bound_contract.specs.Asked.{BoundsWhereKept, ComesFirst, NoneComes}
use Rattle.bound_contract.specs.Asked as asked
use Rattle.bound_contract.specs.Places.{Place}
use Rattle.bound_contract.specs.Places as p
use Rattle.bound_contract.specs.Read.{place_of, leaves_at, OfPlace}
use Rattle.bound_contract.specs.declared.fault.DecideFault.{DecideFault}
use Rattle.bound_contract.specs.declared.fault.DecideFault.TheVariants as decide
use Rattle.bound_contract.specs.declared.fault.DeclAt.{DeclAt}
use Rattle.bound_contract.specs.declared.fault.DeclAt.TheVariants as at
use Rattle.contract_report.specs.Verdicts.{Verdict, Decides, VerdictHolds, verdict_line, AreVerdictLines}
use Rattle.contract_report.specs.Refused.{Excess, Rows, Number, excess_at, IsLineClear, LineExceeds, FirstExceeds}
use Rattle.contract_report.specs.Told.{VerdictsRefused}
use Rattle.contract_report.specs.declared.fault.VerdictsFault.{VerdictsFault}
use Rattle.contract_report.specs.Steps.{verdict_of, fault_at, CanBeAsked, ToldBelow, ClearBelow, HasVerdictLine}

-- ---- texts

module _ (P : Prog) (N : Program) (c : Certificate) where
  -- the line of one more bound stands behind
  with_line : (lines : List Line) (line : Line) (verdict : Verdict) (text : Text) → AreVerdictLines P N c lines text → Decides N c line verdict → VerdictHolds P c.degree line verdict →
      AreVerdictLines P N c (lines ++ (line ∷ [])) (text ++ verdict_line P line verdict)
  with_line [] line verdict text is decides holds =
      (verdict, [], decides, holds, ap (λ (t : Text). t ++ verdict_line P line verdict) is ∙ sym (append-nil (verdict_line P line verdict)), refl)
  with_line (l ∷ ls) line verdict text h decides holds = (
    h.0,
    h.1 ++ verdict_line P line verdict,
    h.2,
    h.3,
    ap (λ (t : Text). t ++ verdict_line P line verdict) h.4 ∙ append_assoc (verdict_line P l h.0) h.1 (verdict_line P line verdict),
    with_line ls line verdict h.1 h.5 decides holds,
  )

pub take_next : (lines : List Line) (n : ℕ) (line : Line) → slice_get lines n ≡ Some line → take (suc n) lines ≡ take n lines ++ (line ∷ [])
take_next lines n line there =
    take-suc lines n line (slice_get_within lines n line there) ∙ ap (λ (l : Line). take n lines ++ (l ∷ [])) (get_or_from_slice_get lines n line line there)

module _ (K : Checking) (lines : List Line) where
  pub told_next : (n : ℕ) (before after : Text) → ToldBelow K lines n before → HasVerdictLine K lines n before after → ToldBelow K lines (suc n) after
  told_next n before after told h =
      let P = source_in K.program in
      let N = program_in K.program in
      subst (λ t. ToldBelow K lines (suc n) t) (sym h.is)
      (subst (λ ls. AreVerdictLines P N K.certificate ls (before ++ verdict_line P h.line h.verdict)) (sym (take_next lines n h.line h.there))
      (with_line P N K.certificate (take n lines) h.line h.verdict before told h.decides h.holds))

  -- ---- places

  module _ (pick : List ℤ → ℤ → Option ℕ) where
    pub clear_next : (n : ℕ) (line : Line) → slice_get lines n ≡ Some line → ClearBelow K lines pick n → IsLineClear (program_in K.program) K.certificate pick line →
        ClearBelow K lines pick (suc n)
    clear_next n line there below here k other less is = ⊎_elim
        (λ (before : k < n). below k other before is)
        (λ (same : k ≡ n). subst (IsLineClear (program_in K.program) K.certificate pick) (one same) here)
        (less_or_same k n less)
      where
        one : k ≡ n → line ≡ other
        one same = let moved : slice_get lines n ≡ Some other = subst (λ i. slice_get lines i ≡ Some other) same is in cc

        less_or_same : (a b : ℕ) → a < suc b → (a < b) ⊎ (a ≡ b)
        less_or_same a b l = grind (arith, nat_tests)

    module _ (n : ℕ) (line : Line) (there : slice_get lines n ≡ Some line) (below : ClearBelow K lines pick n) (may : CanBeAsked K line) where
      exceeds : (place : Place) (e : Excess) → excess_at place ≡ e → ComesFirst K line pick place → FirstExceeds (program_in K.program) K.certificate pick lines (suc n) e
      exceeds place e is comes =
          let h = comes may.place may.own may.is in
          record {
            index = n;
            is = refl;
            line = line;
            there = there;
            exceeds = record { place = may.place; own = may.own; is = may.is; tried = h.0; at = place; first = h.1; excess_is = is };
            before = below;
          }

      number_at : (place : DeclAt) → excess_at (leaves_at place) ≡ Number
      number_at (at.Row row) = refl
      number_at (at.Right position) = refl
      number_at (at.Solve pivots row col) = refl
      number_at (at.Scale entry) = refl
      number_at (at.Rescale block) = refl
      number_at (at.Check path index) = refl
      number_at (at.Refute column) = refl

      pub refused : (fault : DecideFault) → OfPlace (place_of fault) (ComesFirst K line pick) → VerdictsRefused (program_in K.program) K.certificate pick lines (fault_at n fault)
      refused decide.TooLarge comes = exceeds p.TooLarge Rows refl comes
      refused (decide.Leaves place) comes = exceeds (leaves_at place) Number (number_at place) comes
      refused decide.NoMemory comes = tt

-- ---- what is decided

module _ (K : Checking) (line : Line) where
  pub decides : (decided : Decided) → CanBeAsked K line → asked.Decides K line decided → Decides (program_in K.program) K.certificate line (verdict_of decided)
  decides (d.Kept other) may h =
      let kept = h may.place may.own may.is in
      record { place = may.place; own = may.own; is = may.is; decided = record { tried = kept.tried; block = other.block; task_is = kept.task_is; t = kept.t; keeps = kept.keeps } }
  decides (d.NotKept vector) may h =
      let not = h may.place may.own may.is in
      record { place = may.place; own = may.own; is = may.is; decided = record { tried = not.tried; none = not.none; vector = vector; refutes = not.refutes; passes = not.passes } }
  decides (d.Calls fun) may h = record { place = may.place; own = may.own; is = may.is; decided = h may.place may.own may.is }

  pub holds : (decided : Decided) → BoundsWhereKept K line K.certificate.degree decided → VerdictHolds (source_in K.program) K.certificate.degree line (verdict_of decided)
  holds (d.Kept other) h = h
  holds (d.NotKept vector) h = tt
  holds (d.Calls fun) h = tt

-- ---- lines

pub there_is : (lines : List Line) (n : ℕ) → n < length lines → (line : Line) × (slice_get lines n ≡ Some line)
there_is [] n low = absurd (omega (arith, low))
there_is (line ∷ lines) zero low = (line, refl)
there_is (line ∷ lines) (suc n) low = there_is lines n (omega (arith, low))

pub told_all : (K : Checking) (lines : List Line) (n : ℕ) (text : Text) → length lines ≤ n → ToldBelow K lines n text → AreVerdictLines (source_in K.program) (program_in K.program) K.certificate lines text
told_all K lines n text all told = subst (λ ls. AreVerdictLines (source_in K.program) (program_in K.program) K.certificate ls text) (take_all n lines all) told

-- the line that the code has at a place
pub line_there : (lines : List DeclLine) (n : ℕ) (x : DeclLine) → x ≡ get_or lines n x → (line : Line) → slice_get (lines_of lines) n ≡ Some line → line_of x ≡ line
line_there [] n x is line there = absurd (none-some line there)
line_there (l ∷ lines) zero x is line there = ap line_of is ∙ same_Some (line_of l) line there
line_there (l ∷ lines) (suc n) x is line there = line_there lines n x is line there

pub of_place : (place : Option Place) (P Q : Place → Type 0) → ((p : Place) → P p → Q p) → OfPlace place P → OfPlace place Q
of_place None P Q f h = tt
of_place (Some p) P Q f h = f p h

-- what ends a function by a fault
pub fault_on : {T : Type 0} (r : Result T VerdictsFault) (e : VerdictsFault) (Q : VerdictsFault → Type 0) → IsErrAnd r (λ x. x ≡ e) → Q e → IfErr r Q
fault_on (Ok t) e Q h q = absurd h
fault_on (Err x) e Q h q = subst Q (sym h) q
