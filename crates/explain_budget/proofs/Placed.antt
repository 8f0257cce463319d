-- Lines that a file declares can be told.
use Rattle.std.proofs.Common.{◌≡◌, ◌≤◌, ◌⊎◌, inl, inr, ℕ, length, List, [], ◌∷◌, Some, IfSome, Option, None, refl, sym, subst, ◌∙◌, arith}
use Rattle.std.specs.Prelude.{slice_get, Contains}
use Rattle.std.specs.List.{All}
use Rattle.std.proofs.lemmas.List.Elements.{All-head, All-tail, All-get_or}
use Rattle.std.proofs.lemmas.Option.{same_Some, slice_get_within, get_or_from_slice_get}
use Rattle.raml_syntax.specs.Tree.{Text, Type', Function, Prog}
use Rattle.raml_syntax.specs.Types.{types_of}
use Rattle.base_poly.specs.Indices.{index_list}
use Rattle.base_poly.specs.declared.tuple.Poly.{Poly}
use Rattle.annot_types.specs.Program.{Program}
use Rattle.annot_types.specs.Certificate.{Certificate}
use Rattle.bound_file.specs.Lines.{Coefficient, Line, Declaration, AreBelow}
use Rattle.bound_file.specs.Spelling.{Term}
use Rattle.bound_file.specs.Declares.{StandsAt, IsBound, Declares}
use Rattle.bound_file.specs.Answers.{AreWithin, DeclareEach, Spells, lines_in}
use Rattle.explain_verdicts.specs.Fractions.{ArePlaced}
use Rattle.explain_verdicts.specs.Written.{IsFound}
use Rattle.explain_verdicts.specs.declared.judged.Judged.{Judged}
use Rattle.explain_budget.specs.Judging.{IsFoundOf, IsJudged, AreJudged}
use Rattle.explain_budget.specs.Written.{LineCanBeTold, LinesCanBeTold, CanBeTold}

no_term : (t : Term) → Contains [] t → ⊥
no_term t there = omega (arith, there.1)

-- no term, no coefficient
none_declared : (As : List Type') (d : ℕ) (cs : List Coefficient) → IsBound As d [] cs → cs ≡ []
none_declared As d [] bound = refl
none_declared As d (c ∷ cs) bound = let from = (bound.exactly c).0 (0, omega arith, refl) in absurd (no_term from.0 from.1)

placed : (As : List Type') (d : ℕ) (ts : List Term) (cs : List Coefficient) → IsBound As d ts cs → AreBelow (length (index_list As d)) cs → ArePlaced As d cs
placed As d ts cs bound below = by bound.places
  where
    by : ((ts ≡ []) ⊎ ((length (index_list As d) ≤ 2000) × ((t : Term) → Contains ts t → (k : ℕ) × StandsAt As d t.tuple k))) → ArePlaced As d cs
    by (inl none) = inl (none_declared As d cs (subst (λ ts. IsBound As d ts cs) none bound))
    by (inr few) = inr (few.0, below)

abbrev pub Within : Prog → ℕ → Line → Type 0
Within P d line = (fun : Function) × (slice_get P line.fun ≡ Some fun) × AreBelow (length (index_list (types_of fun) d)) line.bound

-- a line at a place is within
pub within_at : (P : Prog) (d : ℕ) (lines : List Line) (n : ℕ) (line : Line) → All (Within P d) lines → slice_get lines n ≡ Some line → Within P d line
within_at P d lines n line within there =
    subst (Within P d) (get_or_from_slice_get lines n line line there) (All-get_or (Within P d) lines n line (slice_get_within lines n line there) within)

found_of : (P : Prog) (f : ℕ) (g : Function) (found : Option Poly) → slice_get P f ≡ Some g → IfSome found (IsFoundOf P f) → IfSome found (IsFound (types_of g))
found_of P f g None there h = tt
found_of P f g (Some poly) there h = h g there

module _ (P : Prog) (N : Program) (c : Certificate) (d : ℕ) where
  one_can : (text : Text) (line : Line) (j : Judged) → Declares P d text line → Within P d line → IsJudged P N c line j → LineCanBeTold P line d j
  one_can text line j declares within judged =
      let same : declares.fun ≡ within.0 = same_Some declares.fun within.0 (sym declares.names.there ∙ within.1) in
      record {
        fun = within.0;
        there = within.1;
        placed = placed (types_of within.0) d declares.written.terms line.bound (subst (λ (g : Function). IsBound (types_of g) d declares.written.terms line.bound) same declares.bound) within.2;
        found = found_of P line.fun within.0 j.found within.1 judged.over;
      }

  all_can : (texts : List Text) (lines : List Line) (all : List Judged) → DeclareEach P d texts lines → All (Within P d) lines → AreJudged P N c lines all → LinesCanBeTold P d lines all
  all_can [] [] [] each within judged = tt
  all_can [] [] (j ∷ all) each within judged = absurd judged
  all_can [] (line ∷ lines) all each within judged = absurd each
  all_can (text ∷ texts) [] all each within judged = absurd each
  all_can (text ∷ texts) (line ∷ lines) [] each within judged = absurd judged
  all_can (text ∷ texts) (line ∷ lines) (j ∷ all) each within judged =
      (one_can text line j each.0 (All-head (Within P d) line lines within) judged.0, all_can texts lines all each.1 (All-tail (Within P d) line lines within) judged.1)

  pub can_be_told : (bytes : Text) (D : Declaration) (all : List Judged) → d ≤ 4 → Spells P d bytes D → AreWithin P D → AreJudged P N c D.lines all → CanBeTold P D all
  can_be_told bytes D all few spelled within judged =
      let here : All (Within P d) D.lines = subst (λ e. All (Within P e) D.lines) spelled.degree within in
      record {
        degree = subst (λ e. e ≤ 4) (sym spelled.degree) few;
        lines = subst (λ e. LinesCanBeTold P e D.lines all) (sym spelled.degree) (all_can (lines_in bytes) D.lines all spelled.lines.each here judged);
      }
