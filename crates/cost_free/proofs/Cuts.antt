-- Cuts of a list at each of its places.
use Rattle.std.proofs.Common.{◌≡◌, ℕ, zero, suc, ◌+◌, ◌-◌, ◌<◌, List, [], ◌∷◌, ◌++◌, map, length, take, drop, refl, sym, ap, ◌∙◌, append_assoc, append-nil, arith, length-drop}
use Rattle.std.proofs.Math.Seq.{take-length}
use Rattle.std.proofs.lemmas.List.{map-append}
use Rattle.raml_syntax.specs.Tree.{Type'}
use Rattle.base_poly.specs.Plain.{Plain}
use Rattle.base_poly.specs.Laws.{cuts}
use Rattle.base_poly.specs.Read.{plains_of}
use Rattle.base_poly.specs.declared.index.Index.{Index}
use Rattle.base_poly.proofs.CutsFrom.{cuts_from, all_cuts}
use Rattle.cost_free.specs.Target.{filled, pieces}
use Rattle.cost_free.specs.Cut.{cut_pieces}

-- a slice from a place to the end
pub to_end : (k : ℕ) (is : List Index) → take (length is - k) (drop k is) ≡ drop k is
to_end k is = ap (λ n. take n (drop k is)) (sym (length-drop k is)) ∙ take-length (drop k is)

-- the tuple that is made of the pieces before and those behind
abbrev pub tuple_with : Type' → List ℕ → List (List Plain) → List (List Plain) → List Plain
tuple_with A places before p = filled A 0 places (before ++ p) ∷ []

pub fill_step : (f : List (List Plain) → List Plain) (n : ℕ) (is : List Index) (count fewer k : ℕ) (old new all : List (List Plain)) → 0 < count → fewer ≡ count - 1
    → new ≡ old ++ map f (map (λ p. plains_of (take k is) ∷ p) (pieces n (plains_of (drop k is))))
    → old ++ map f (cut_pieces n (cuts_from count k is)) ≡ all → new ++ map f (cut_pieces n (cuts_from fewer (k + 1) is)) ≡ all
fill_step f n is zero fewer k old new all h e made before = absurd (omega (arith, h))
fill_step f n is (suc count) fewer k old new all h e made before =
    let same : fewer ≡ count = omega (arith, e) in
    let here = map (λ p. plains_of (take k is) ∷ p) (pieces n (plains_of (drop k is))) in
    let rest = cut_pieces n (cuts_from count (k + 1) is) in
    (λ i. made i ++ map f (cut_pieces n (cuts_from (same i) (k + 1) is)))
    ∙ append_assoc old (map f here) (map f rest)
    ∙ ap (λ l. old ++ l) (sym (map-append f here rest))
    ∙ before

pub fill_done : (f : List (List Plain) → List Plain) (n : ℕ) (is : List Index) (count k : ℕ) (old now : List (List Plain)) → count ≡ 0
    → now ++ map f (cut_pieces n (cuts_from count k is)) ≡ old ++ map f (cut_pieces n (cuts_from (length is + 1) 0 is)) → now ≡ old ++ map f (cut_pieces n (cuts (plains_of is)))
fill_done f n is count k old now none h =
    sym (append-nil now) ∙ ap (λ j. now ++ map f (cut_pieces n (cuts_from j k is))) (sym none) ∙ h ∙ ap (λ cs. old ++ map f (cut_pieces n cs)) (all_cuts is)

-- one more piece before the others
pub piece_behind : (before : List (List Plain)) (i : List Plain) (A : Type') (places : List ℕ) (ps : List (List (List Plain)))
    → map (tuple_with A places (before ++ i ∷ [])) ps ≡ map (tuple_with A places before) (map (λ p. i ∷ p) ps)
piece_behind before i A places [] = refl
piece_behind before i A places (p ∷ ps) = λ n. (filled A 0 places (append_assoc before (i ∷ []) p n) ∷ []) ∷ piece_behind before i A places ps n
