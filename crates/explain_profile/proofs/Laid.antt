-- Rows, one below the other.
use Rattle.std.proofs.Common.{◌≡◌, ◌++◌, refl, sym, subst, List, ◌∷◌}
use Rattle.std.proofs.lemmas.List.{append_assoc}
use Rattle.raml_syntax.specs.Tree.{Text}
use Rattle.explain_profile.specs.Runs.{Case}
use Rattle.explain_profile.specs.Rows.{row_cells, AreLaidOut, AreShown}
use Rattle.explain_profile.specs.declared.rows.Row.{Row}

-- with what shows the rest of the rows, the text shows all
abbrev pub EndsRows : Case → List Row → List Row → Text → Type 0
EndsRows case rest all text = (others : Text) → AreShown case rest others → AreShown case all (text ++ others)

-- one more row
pub one_more : (case : Case) (x : Row) (rest next all : List Row) (text row : Text) → rest ≡ x ∷ next → AreLaidOut (row_cells case x) row →
    EndsRows case rest all text → EndsRows case next all (text ++ row)
one_more case x rest next all text row first is ends others are =
    let behind : AreShown case (x ∷ next) (row ++ others) = (row, others, is, are, refl) in
    subst (AreShown case all) (sym (append_assoc text row others)) (ends (row ++ others) (subst (λ xs. AreShown case xs (row ++ others)) (sym first) behind))
