-- The one row that bounds a column.
use Rattle.std.proofs.Common.{◌≡◌, refl, sym, subst, ℕ, ◌≤◌, arith, List, [], ◌∷◌, length, get_or, inl}
use Rattle.frac128.specs.declared.Frac.{Frac}
use Rattle.simplex_rows.specs.Entries.{Entries}
use Rattle.simplex.specs.Ties.{AreBounding, IsRatio, AreTied, IsExiting, columns_to}
use Rattle.simplex.proofs.Narrowing.{Narrowed, narrowed_first, columns_first, search_ends}
use Rattle.simplex.proofs.Tying.{none_tied, tied_more}

one_is : (xs : List ℕ) (d : ℕ) → length xs ≡ 1 → xs ≡ get_or xs 0 d ∷ []
one_is [] d h = absurd (omega arith)
one_is (x ∷ []) d h = refl
one_is (x ∷ y ∷ xs) d h = absurd (omega arith)

leaves_alone : (right slack s : ℕ) (rows : List Entries) (l : ℕ) (x : Frac) → slack ≤ right → AreBounding s rows (l ∷ []) → IsRatio s right rows l x → IsExiting (columns_to right slack right) s rows l
leaves_alone right slack s rows l x h b r =
    let tied : AreTied s right rows (l ∷ []) (l ∷ []) x = tied_more s right rows [] [] x l x (l ∷ []) x (none_tied s right rows x) r (refl, refl) in
    let first : Narrowed (columns_to right slack slack) s rows (l ∷ []) =
    subst (λ (cs : List ℕ). Narrowed cs s rows (l ∷ [])) (sym (columns_first right slack)) (narrowed_first right s rows (l ∷ []) (l ∷ []) x b (l, inl refl) tied) in
    search_ends right slack slack s rows (l ∷ []) l (omega arith) h first refl (λ more below. omega arith)

-- it is the one that exits
pub only_exits : (right slack s : ℕ) (rows : List Entries) (all : List ℕ) (d : ℕ) (x : Frac) → slack ≤ right → AreBounding s rows all → length all ≡ 1 → IsRatio s right rows (get_or all 0 d) x → IsExiting (columns_to right slack right) s rows (get_or all 0 d)
only_exits right slack s rows all d x h b n r = leaves_alone right slack s rows (get_or all 0 d) x h (subst (AreBounding s rows) (one_is all d n) b) r
