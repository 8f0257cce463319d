-- First places of marks, and what they part.
use Rattle.std.proofs.Common.{◌≡◌, refl, ap, sym, ◌∙◌, ℕ, zero, suc, ◌+◌, ◌<◌, ◌≤◌, Bool, true, false, cond, List, [], ◌∷◌, length, take, drop, Option, None, Some, arith, nat_eq, option_map, ◌&&◌}
use Rattle.lsp_frames.specs.Marks.{begins, first_place, NoneBefore, lines, longer, line_end}

pub found_first : (mark bytes : List ℕ) (place : ℕ) → NoneBefore mark place bytes → begins mark (drop place bytes) ≡ true → place < length bytes → first_place mark bytes ≡ Some place
found_first mark [] place before here within = absurd (omega arith)
found_first mark (b ∷ bs) zero before here within = ap (λ t. cond t (Some 0) (option_map suc (first_place mark bs))) here
found_first mark (b ∷ bs) (suc place) before here within =
    let first : begins mark (b ∷ bs) ≡ false = before 0 (omega arith) in
    let later : first_place mark bs ≡ Some place = found_first mark bs place (λ k h. before (suc k) (omega (arith, h))) here (omega arith) in
    (λ i. cond (first i) (Some 0) (option_map suc (later i)))

pub found_none : (mark bytes : List ℕ) (place : ℕ) → NoneBefore mark place bytes → length bytes ≤ place → first_place mark bytes ≡ None
found_none mark [] place before within = refl
found_none mark (b ∷ bs) zero before within = absurd (omega arith)
found_none mark (b ∷ bs) (suc place) before within =
    let first : begins mark (b ∷ bs) ≡ false = before 0 (omega arith) in
    let later : first_place mark bs ≡ None = found_none mark bs place (λ k h. before (suc k) (omega (arith, h))) (omega arith) in
    (λ i. cond (first i) (Some 0) (option_map suc (later i)))

moved : (k : ℕ) → suc (k + 2) ≡ suc k + 2
moved k = omega arith

-- the lines behind the first one
cut_lines : List ℕ → Option ℕ → List (List ℕ)
cut_lines bytes None = bytes ∷ []
cut_lines bytes (Some place) = take place bytes ∷ lines (drop (place + 2) bytes)

lines_cut : (bytes : List ℕ) → lines bytes ≡ cut_lines bytes (first_place line_end bytes)
unfolding cut_lines
lines_cut [] = refl
lines_cut (b ∷ []) = elim (nat_eq 13 b) as (λ v. (b ∷ []) ∷ [] ≡ cut_lines (b ∷ []) (cond (v && false) (Some 0) None)) [ true ↦ refl | false ↦ refl ]
lines_cut (b ∷ n ∷ bs) = go (begins line_end (b ∷ n ∷ bs)) (first_place line_end (n ∷ bs)) (lines_cut (n ∷ bs))
  where
    go : (t : Bool) (p : Option ℕ) → lines (n ∷ bs) ≡ cut_lines (n ∷ bs) p →
        cond t ([] ∷ lines bs) (longer b (lines (n ∷ bs))) ≡ cut_lines (b ∷ n ∷ bs) (cond t (Some 0) (option_map suc p))
    go true p h = refl
    go false None h = ap (longer b) h
    go false (Some k) h = ap (longer b) h ∙ ap (λ m. (b ∷ take k (n ∷ bs)) ∷ lines (drop m (b ∷ n ∷ bs))) (moved k)

pub first_cut : (bytes rest : List ℕ) (end : ℕ) → Some end ≡ first_place line_end bytes → rest ≡ drop (end + 2) bytes → lines bytes ≡ take end bytes ∷ lines rest
unfolding cut_lines
first_cut bytes rest end found e = lines_cut bytes ∙ ap (cut_lines bytes) (sym found) ∙ ap (λ (l : List ℕ). take end bytes ∷ lines l) (sym e)

pub only_line : (bytes : List ℕ) → None ≡ first_place line_end bytes → lines bytes ≡ bytes ∷ []
unfolding cut_lines
only_line bytes found = lines_cut bytes ∙ ap (cut_lines bytes) (sym found)
