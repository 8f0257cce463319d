-- Cuts at each place, from one place on.
use Rattle.std.proofs.Common.{◌≡◌, ℕ, zero, suc, ◌+◌, List, [], ◌∷◌, ◌++◌, map, length, take, drop, refl, sym, ap, ◌∙◌, append_assoc, append-nil, length-append, arith}
use Rattle.std.proofs.Math.Seq.{take-append_seam, drop-append_seam}
use Rattle.std.proofs.lemmas.List.{map-append}
use Rattle.base_poly.specs.Plain.{Plain}
use Rattle.base_poly.specs.Laws.{cuts}
use Rattle.base_poly.specs.Read.{index_of, plains_of}
use Rattle.base_poly.specs.declared.index.Index.{Index}

-- the cuts at n places, from this one on
abbrev pub cuts_from : ℕ → ℕ → List Index → List (List Plain × List Plain)
cuts_from zero k is = []
cuts_from (suc n) k is = (plains_of (take k is), plains_of (drop k is)) ∷ cuts_from n (k + 1) is

abbrev longer : List Plain → List Plain × List Plain → List Plain × List Plain
longer pre c = (pre ++ c.0, c.1)

longer_twice : (pre : List Plain) (i : Plain) (cs : List (List Plain × List Plain)) → map (longer pre) (map (λ c. (i ∷ c.0, c.1)) cs) ≡ map (longer (pre ++ i ∷ [])) cs
longer_twice pre i [] = refl
longer_twice pre i (c ∷ cs) = (λ n. (sym (append_assoc pre (i ∷ []) c.0) n, c.1) ∷ longer_twice pre i cs n)

seam : (pre is : List Index) → ◌≡◌ {A = List Plain × List Plain} (plains_of (take (length pre) (pre ++ is)), plains_of (drop (length pre) (pre ++ is))) (plains_of pre ++ [], plains_of is)
seam pre is = (λ n. ((ap plains_of (take-append_seam pre is) ∙ sym (append-nil (plains_of pre))) n, plains_of (drop-append_seam pre is n)))

behind : (pre is : List Index) (n : ℕ) → n ≡ length is → cuts_from (suc n) (length pre) (pre ++ is) ≡ map (longer (plains_of pre)) (cuts (plains_of is))
behind pre [] zero e = ap (λ c. c ∷ []) (seam pre [])
behind pre [] (suc n) e = absurd (omega (arith, e))
behind pre (i ∷ is) zero e = absurd (omega (arith, e))
behind pre (i ∷ is) (suc n) e =
    (λ m. seam pre (i ∷ is) m ∷ (same ∙ behind (pre ++ i ∷ []) is n (omega (arith, e)) ∙ moved) m)
  where
    place : length pre + 1 ≡ length (pre ++ i ∷ [])
    place = sym (length-append pre (i ∷ []))

    same : cuts_from (suc n) (length pre + 1) (pre ++ i ∷ is) ≡ cuts_from (suc n) (length (pre ++ i ∷ [])) ((pre ++ i ∷ []) ++ is)
    same = (λ m. cuts_from (suc n) (place m) (sym (append_assoc pre (i ∷ []) is) m))

    moved : map (longer (plains_of (pre ++ i ∷ []))) (cuts (plains_of is)) ≡ map (longer (plains_of pre)) (map (λ c. (index_of i ∷ c.0, c.1)) (cuts (plains_of is)))
    moved = ap (λ l. map (longer l) (cuts (plains_of is))) (map-append index_of pre (i ∷ [])) ∙ sym (longer_twice (plains_of pre) (index_of i) (cuts (plains_of is)))

pub all_cuts : (is : List Index) → cuts_from (length is + 1) 0 is ≡ cuts (plains_of is)
all_cuts is = ap (λ n. cuts_from n 0 is) next ∙ behind [] is (length is) refl ∙ same (cuts (plains_of is))
  where
    next : length is + 1 ≡ suc (length is)
    next = omega arith

    same : (cs : List (List Plain × List Plain)) → map (longer []) cs ≡ cs
    same [] = refl
    same (c ∷ cs) = ap (λ l. c ∷ l) (same cs)
