-- How an answer and what is cut stand to the limit, by each function that answers as the rule does.
use Rattle.std.proofs.Common.{◌≡◌, sym, subst, ◌∙◌, ℕ, ℤ, List, length, Option, ◌↔◌}
use Rattle.linear_rows.specs.Systems.{LinearSystem, IsSystem}
use Rattle.frac128.specs.declared.Frac.{Frac}
use Rattle.simplex_spec.specs.Courses.{Rule, AnswersOnce, rule_by}
use Rattle.simplex.specs.Solving.{IsBest, IsRefuted, CutsBy, UpTo}
use Rattle.simplex_checked.specs.Limits.{EndsAfter, AtEnd, AtRise}
use Rattle.simplex_checked.proofs.ByPick.{IsMore, best_by, refuted_by}
use Rattle.simplex_checked.proofs.Cutting.{uncut_is_short, ends_uncut}

once_by : (pick : List ℤ → ℤ → Option ℕ) (rule : Rule) → IsMore pick rule → AnswersOnce rule
once_by pick rule more ns d o p positive a b = sym (more ns d o positive a) ∙ more ns d p positive b

once : (pick : List ℤ → ℤ → Option ℕ) → AnswersOnce (rule_by pick)
once pick ns d o p positive a b = sym a ∙ b

module _ (rule : Rule) (s : LinearSystem) (most : Option ℕ) (says : Type 0) (cut : AnswersOnce rule → (says ↔ CutsBy rule s most)) where
  -- so many pivots, no more than the limit
  abbrev pub EndsWithin : ℕ → Type 0
  EndsWithin n = (pick : List ℤ → ℤ → Option ℕ) → IsMore pick rule → EndsAfter (rule_by pick) s n × UpTo most n

  module _ (not : says → ⊥) where
    uncut : (pick : List ℤ → ℤ → Option ℕ) → IsMore pick rule → CutsBy rule s most → ⊥
    uncut pick more b = not ((cut (once_by pick rule more)).1 b)

    pub best_within : (ps : List (ℕ × ℕ)) (x y : List Frac) (n : ℕ) → IsBest rule s ps x y → n ≡ length ps → EndsWithin n
    best_within ps x y n h e pick more =
        let b = best_by pick rule more s ps x y h in
        (AtEnd ps b.t b.ends b.follows e, subst (UpTo most) (sym e) (uncut_is_short rule s ps h.t h.ends.course h.follows most (uncut pick more)))

    pub refuted_within : (ps : List (ℕ × ℕ)) (y : List Frac) (n : ℕ) → IsRefuted rule s ps y → n ≡ length ps → EndsWithin n
    refuted_within ps y n h e pick more =
        let b = refuted_by pick rule more s ps y h in
        (AtRise ps b.t b.column b.rises b.follows b.answers e, subst (UpTo most) (sym e) (uncut_is_short rule s ps h.t h.rises.course h.follows most (uncut pick more)))

-- what is not cut is not, and what is is
pub not_cut : (s : LinearSystem) → IsSystem s → (most : Option ℕ) (pick : List ℤ → ℤ → Option ℕ) (n : ℕ) → EndsAfter (rule_by pick) s n × UpTo most n → ⊥ ↔ CutsBy (rule_by pick) s most
not_cut s system most pick n h = (λ no. absurd no, λ b. ends_uncut (rule_by pick) (once pick) s system most b n h.0 h.1)

pub is_cut : (s : LinearSystem) (most : Option ℕ) (pick : List ℤ → ℤ → Option ℕ) → CutsBy (rule_by pick) s most → Unit {0} ↔ CutsBy (rule_by pick) s most
is_cut s most pick b = (λ u. b, λ b. tt)
