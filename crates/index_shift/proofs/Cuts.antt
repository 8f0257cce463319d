-- Cuts at each place.
use Rattle.std.proofs.Common.{◌≡◌, ℕ, zero, suc, ◌+◌, ◌-◌, ◌<◌, List, [], ◌∷◌, ◌++◌, map, length, take, drop, sym, ap, ◌∙◌, append_assoc, append-nil, arith}
use Rattle.base_poly.specs.Plain.{Plain, many}
use Rattle.base_poly.specs.Read.{plains_of}
use Rattle.base_poly.specs.declared.index.Index.{Index}
use Rattle.base_poly.proofs.CutsFrom.{cuts_from, all_cuts}
use Rattle.index_shift.specs.Parts.{at_trees}

abbrev pub trees_of : Plain → List Plain × List Plain → List Plain
trees_of i c = i ∷ many c.0 ∷ many c.1 ∷ []

cuts_step : (n k : ℕ) (is : List Index) → 0 < n → cuts_from n k is ≡ (plains_of (take k is), plains_of (drop k is)) ∷ cuts_from (n - 1) (k + 1) is
cuts_step zero k is h = absurd (omega (arith, h))
cuts_step (suc n) k is h = ap (λ m. (plains_of (take k is), plains_of (drop k is)) ∷ cuts_from m (k + 1) is) less
  where
    less : n ≡ suc n - 1
    less = omega arith

pub trees_step : (i : Plain) (is : List Index) (n m k : ℕ) (before after whole : List (List Plain)) (t : List Plain) → 0 < n → m ≡ n - 1 →
    t ≡ trees_of i (plains_of (take k is), plains_of (drop k is)) → after ≡ before ++ t ∷ [] →
    before ++ map (trees_of i) (cuts_from n k is) ≡ whole → after ++ map (trees_of i) (cuts_from m (k + 1) is) ≡ whole
trees_step i is n m k before after whole t h less made more done =
    (λ j. more j ++ map (trees_of i) (cuts_from (less j) (k + 1) is))
    ∙ append_assoc before (t ∷ []) (map (trees_of i) (cuts_from (n - 1) (k + 1) is))
    ∙ ap (λ u. before ++ u ∷ map (trees_of i) (cuts_from (n - 1) (k + 1) is)) made
    ∙ sym (ap (λ cs. before ++ map (trees_of i) cs) (cuts_step n k is h)) ∙ done

pub trees_done : (i : Plain) (is : List Index) (n k : ℕ) (before after : List (List Plain)) → n ≡ 0 →
    after ++ map (trees_of i) (cuts_from n k is) ≡ before ++ map (trees_of i) (cuts_from (length is + 1) 0 is) → after ≡ before ++ at_trees i (plains_of is)
trees_done i is n k before after none done =
    sym (append-nil after) ∙ ap (λ m. after ++ map (trees_of i) (cuts_from m k is)) (sym none) ∙ done ∙ ap (λ cs. before ++ map (trees_of i) cs) (all_cuts is)
