-- Lists that are taken some of.
use Rattle.std.proofs.Common.{◌≡◌, ◌-◌, ◌≤◌, take, drop, slice_index_or, Bool, List, [], ◌∷◌, ◌++◌, map, filter, length, refl, sym, ap, ◌∙◌, arith, append_assoc}
use Rattle.std.proofs.lemmas.List.{map-append}
use Rattle.std.proofs.lemmas.List.Elements.{filter-append}
use Rattle.std.proofs.Math.Seq.{take-length}

pub behind : {X : Type 0} (pre : List X) (x : X) (ss : List (List X)) → map (λ s. (pre ++ x ∷ []) ++ s) ss ≡ map (λ s. pre ++ s) (map (λ s. x ∷ s) ss)
behind pre x [] = refl
behind pre x (s ∷ ss) = λ n. append_assoc pre (x ∷ []) s n ∷ behind pre x ss n

-- those with the first, and then those without
pub both_ways : {X : Type 0} (p : List X → Bool) (old mid all : List (List X)) (pre kept : List X) (x : X) (xs rest : List X) (subs : List X → List (List X)) → kept ≡ pre
    → mid ≡ old ++ filter p (map (λ s. pre ++ s) (map (λ s. x ∷ s) (subs rest))) → all ≡ mid ++ filter p (map (λ s. kept ++ s) (subs rest))
    → map (λ s. x ∷ s) (subs rest) ++ subs rest ≡ subs xs
    → all ≡ old ++ filter p (map (λ s. pre ++ s) (subs xs))
both_ways p old mid all pre kept x xs rest subs same one two whole =
    let ss = subs rest in
    two
    ∙ (λ n. one n ++ filter p (map (λ s. same n ++ s) ss))
    ∙ append_assoc old (filter p (map (λ s. pre ++ s) (map (λ s. x ∷ s) ss))) (filter p (map (λ s. pre ++ s) ss))
    ∙ ap (λ l. old ++ l) (sym (filter-append p (map (λ s. pre ++ s) (map (λ s. x ∷ s) ss)) (map (λ s. pre ++ s) ss))
    ∙ ap (filter p) (sym (map-append (λ s. pre ++ s) (map (λ s. x ∷ s) ss) ss) ∙ ap (map (λ s. pre ++ s)) whole))

-- the first before the rest of a slice
pub cut_first : {X : Type 0} (xs : List X) (x : X) → 1 ≤ length xs → x ≡ slice_index_or xs 0 x → x ∷ take (length xs - 1) (drop 1 xs) ≡ xs
cut_first [] x h e = absurd (omega (arith, h))
cut_first (y ∷ ys) x h e = (λ n. e n ∷ (ap (λ k. take k ys) less ∙ take-length ys) n)
  where
    less : length (y ∷ ys) - 1 ≡ length ys
    less = omega arith
