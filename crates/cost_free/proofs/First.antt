-- The first tuple of a joined target.
use Rattle.std.proofs.Common.{◌≡◌, ℕ, zero, suc, ◌+◌, ◌-◌, ◌<◌, List, [], ◌∷◌, ◌++◌, map, flat_map, length, refl, sym, ap, ◌∙◌, append_assoc, arith}
use Rattle.std.proofs.lemmas.List.{map-append}
use Rattle.std.proofs.lemmas.List.Folds.{flat_map-map}
use Rattle.raml_syntax.specs.Tree.{Type'}
use Rattle.base_poly.specs.Plain.{Plain, deg, capped, entries_of}
use Rattle.base_poly.specs.Laws.{cuts}
use Rattle.cost_free.specs.Target.{filled, pieces, last_piece, joined, degree_of}

-- with one entry more at the head of the first piece
abbrev longer : Plain → List (List Plain) → List (List Plain)
longer i [] = []
longer i (x ∷ xs) = (i ∷ x) ∷ xs

abbrev whole : List Plain × List Plain → List (List (List Plain))
whole c = map (λ p. c.0 ∷ p) (pieces 0 c.1)

longer_each : (i : Plain) (x : List Plain) (ps : List (List (List Plain))) → map (λ p. (i ∷ x) ∷ p) ps ≡ map (longer i) (map (λ p. x ∷ p) ps)
longer_each i x [] = refl
longer_each i x (p ∷ ps) = ap (λ l. ((i ∷ x) ∷ p) ∷ l) (longer_each i x ps)

longer_all : (i : Plain) (cs : List (List Plain × List Plain)) → flat_map (λ c. whole (i ∷ c.0, c.1)) cs ≡ map (longer i) (flat_map whole cs)
longer_all i [] = refl
longer_all i (c ∷ cs) =
    (λ n. longer_each i c.0 (pieces 0 c.1) n ++ longer_all i cs n) ∙ sym (map-append (longer i) (whole c) (flat_map whole cs))

-- there is one way to cut a list into one piece
one_piece : (is : List Plain) → pieces 1 is ≡ (is ∷ []) ∷ []
one_piece [] = refl
one_piece (i ∷ is) = flat_map-map whole (λ c. (i ∷ c.0, c.1)) (cuts is) ∙ longer_all i (cuts is) ∙ ap (map (longer i)) (one_piece is)

-- the first way to cut a list leaves all of it to the last piece
first_pieces : (n : ℕ) (is : List Plain) → (rest : List (List (List Plain))) × (pieces (suc n) is ≡ last_piece (suc n) is ∷ rest)
first_pieces zero is = ([], one_piece is)
first_pieces (suc n) [] =
    let h = first_pieces n [] in
    (map (λ p. [] ∷ p) h.0 ++ [], ap (λ ps. map (λ p. [] ∷ p) ps ++ []) h.1)
first_pieces (suc n) (i ∷ is) =
    let h = first_pieces n (i ∷ is) in
    let others = flat_map (λ (c : List Plain × List Plain). map (λ p. c.0 ∷ p) (pieces (suc n) c.1)) (map (λ c. (i ∷ c.0, c.1)) (cuts is)) in
    (map (λ p. [] ∷ p) h.0 ++ others, ap (λ ps. map (λ p. [] ∷ p) ps ++ others) h.1)

-- so its degree is that of all tuples
first_degree : (A : Type') (places : List ℕ) (n : ℕ) (is : List Plain)
    → degree_of (map (λ xs. filled A 0 places xs ∷ []) (pieces (suc n) is)) ≡ deg (filled A 0 places (last_piece (suc n) is))
first_degree A places n is =
    let first = deg (filled A 0 places (last_piece (suc n) is)) in
    let alone : first + 0 ≡ first = omega arith in
    ap (λ ps. degree_of (map (λ xs. filled A 0 places xs ∷ []) ps)) (first_pieces n is).1 ∙ alone

pub joined_degree : (A : Type') (places : List ℕ) (l : Plain) (found count : ℕ) (xs : List (List Plain)) → 0 < length places → count ≡ length places
    → xs ≡ last_piece count (entries_of l) → found ≡ capped (deg (filled A 0 places xs)) → found ≡ capped (degree_of (joined A places l).target)
joined_degree A [] l found count xs some e is made = absurd (omega (arith, some))
joined_degree A (p ∷ ps) l found count xs some e is made =
    made
    ∙ ap (λ ys. capped (deg (filled A 0 (p ∷ ps) ys))) (is ∙ ap (λ n. last_piece n (entries_of l)) e)
    ∙ ap capped (sym (first_degree A (p ∷ ps) (length ps) (entries_of l)))

-- one empty piece more
pub last_step : (is : List Plain) (n fewer : ℕ) (old new all : List (List Plain)) → 0 < n → fewer ≡ n - 1 → new ≡ old ++ [] ∷ []
    → old ++ last_piece (suc n) is ≡ all → new ++ last_piece (suc fewer) is ≡ all
last_step is zero fewer old new all some e made before = absurd (omega (arith, some))
last_step is (suc n) fewer old new all some e made before =
    let same : fewer ≡ n = omega (arith, e) in
    (λ i. made i ++ last_piece (suc (same i)) is) ∙ append_assoc old ([] ∷ []) (last_piece (suc n) is) ∙ before

pub last_begun : (is : List Plain) (count : ℕ) → 0 < count → last_piece (suc (count - 1)) is ≡ last_piece count is
last_begun is count some = let same : suc (count - 1) ≡ count = omega (arith, some) in ap (λ n. last_piece n is) same

pub last_done : (is : List Plain) (n : ℕ) (old all : List (List Plain)) → n ≡ 0 → old ++ last_piece (suc n) is ≡ all → old ++ is ∷ [] ≡ all
last_done is n old all none h = ap (λ k. old ++ last_piece (suc k) is) (sym none) ∙ h
