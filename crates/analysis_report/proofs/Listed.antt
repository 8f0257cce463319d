-- Lines of one function after the other.
use Rattle.std.proofs.Common.{◌≡◌, ◌<◌, ◌+◌, ◌-◌, ℕ, suc, length, List, [], ◌∷◌, ◌++◌, append_assoc, refl, sym, ap, subst, ◌∙◌, arith, ⊎_elim, ◌⊎◌}
use Rattle.std.proofs.lemmas.Bool.Decides.{nat_tests}
use Rattle.std.specs.Prelude.{flat_map}
use Rattle.std.specs.List.{Contains, range_with_len}
use Rattle.raml_syntax.specs.Tree.{Text, Prog}
use Rattle.cost_free.specs.declared.task.Meter.{Meter}
use Rattle.cost_free.specs.Schedule.{meters}
use Rattle.annot_types.specs.Program.{Program}
use Rattle.annot_types.specs.Certificate.{Certificate, has_work}
use Rattle.annot_types.specs.Held.{Claim, Line, lines_for}
use Rattle.report_text.specs.Claims.{line_text, lines_text}
use Rattle.analysis_report.specs.Lines.{lines_of, lines_between, Claims, AllClaim, AreMeterLines}
use Rattle.analysis_report.proofs.InOrder.{flat_map_next, last_or_before}

pub lines_append : (P : Prog) (ls more : List Line) → lines_text P (ls ++ more) ≡ lines_text P ls ++ lines_text P more
lines_append P [] more = refl
lines_append P (l ∷ ls) more = ap (λ t. line_text P l ++ t) (lines_append P ls more) ∙ sym (append_assoc (line_text P l) (lines_text P ls) (lines_text P more))

module _ (P : Prog) (N : Program) (c : Certificate) where
  one_more : (f n : ℕ) → lines_between P N c f (suc n) ≡ lines_text P (lines_of N c f) ++ lines_between P N c (f + 1) n
  one_more f n = lines_append P (lines_of N c f) (flat_map (lines_of N c) (range_with_len (f + 1) n))

  -- with the lines of one more function
  pub next_listed : (text new whole : Text) (f n : ℕ) → f < n → new ≡ text ++ lines_text P (lines_of N c f) →
      text ++ lines_between P N c f (n - f) ≡ whole → new ++ lines_between P N c (f + 1) (n - (f + 1)) ≡ whole
  next_listed text new whole f n below is all =
      let left : n - f ≡ suc (n - (f + 1)) = omega (arith, below) in
      let step = ap (λ k. lines_between P N c f k) left ∙ one_more f (n - (f + 1)) in
      ap (λ t. t ++ lines_between P N c (f + 1) (n - (f + 1))) is
      ∙ append_assoc text (lines_text P (lines_of N c f)) (lines_between P N c (f + 1) (n - (f + 1)))
      ∙ ap (λ t. text ++ t) (sym step) ∙ all

  pub next_claims : (n : ℕ) → AllClaim N c n → ((meter : Meter) → Contains (meters (has_work c)) meter → (claim : Claim) × Claims N c n meter claim) →
      AllClaim N c (n + 1)
  next_claims n before here f meter below there = ⊎_elim (λ less. before f meter less there) (λ same. subst (λ g. (claim : Claim) × Claims N c g meter claim) (sym same) (here meter there)) cases
    where
      cases : (f < n) ⊎ (f ≡ n)
      cases = grind (arith, nat_tests)

  pub ended : (text whole : Text) (n k : ℕ) → k ≡ n → text ++ lines_between P N c k (n - k) ≡ whole → text ≡ whole
  ended text whole n k end all =
      let none : n - k ≡ 0 = omega (arith, end) in
      sym (append_nil text) ∙ ap (λ m. text ++ lines_between P N c k m) (sym none) ∙ all
    where
      append_nil : (t : Text) → t ++ [] ≡ t
      append_nil [] = refl
      append_nil (x ∷ t) = ap (λ u. x ∷ u) (append_nil t)

  -- the text is the lines of a meter of the first n functions
  pub record AreFirstLines (meter : Meter) (n : ℕ) (text : Text) : Type 0 where
    pub is : text ≡ lines_text P (flat_map (λ f. lines_for N c f meter) (range_with_len 0 n))
    pub each : (f : ℕ) → f < n → (claim : Claim) × Claims N c f meter claim

  pub none_listed : (meter : Meter) (text : Text) → text ≡ [] → AreFirstLines meter 0 text
  none_listed meter text none = record { is = none; each = λ f below. absurd (omega (arith, below)) }

  pub one_listed : (meter : Meter) (n : ℕ) (old new : Text) → AreFirstLines meter n old → new ≡ old ++ lines_text P (lines_for N c n meter) →
      (claim : Claim) × Claims N c n meter claim → AreFirstLines meter (n + 1) new
  one_listed meter n old new before longer here = record { is = is; each = each }
    where
      of : ℕ → List Line
      of = λ f. lines_for N c f meter

      is : new ≡ lines_text P (flat_map of (range_with_len 0 (n + 1)))
      is =
          longer
          ∙ ap (λ t. t ++ lines_text P (of n)) before.is
          ∙ sym (lines_append P (flat_map of (range_with_len 0 n)) (of n))
          ∙ ap (lines_text P) (sym (flat_map_next of n))

      each : (f : ℕ) → f < n + 1 → (claim : Claim) × Claims N c f meter claim
      each f below = ⊎_elim (λ less. before.each f less) (λ same. subst (λ g. (claim : Claim) × Claims N c g meter claim) (sym same) here) (last_or_before f n below)

  pub all_listed : (meter : Meter) (n : ℕ) (text : Text) → n ≡ length P → AreFirstLines meter n text → AreMeterLines P N c meter text
  all_listed meter n text all first = record {
    is = first.is ∙ ap (λ m. lines_text P (flat_map (λ f. lines_for N c f meter) (range_with_len 0 m))) all;
    each = λ f below. first.each f (omega (arith, below, all));
  }
