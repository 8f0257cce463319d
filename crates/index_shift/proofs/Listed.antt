-- Contexts in which other types stand in a place.
use Rattle.std.proofs.Common.{◌≡◌, ℕ, zero, suc, ◌+◌, ◌-◌, ◌<◌, ◌≢◌, inl, List, [], ◌∷◌, ◌++◌, map, length, take, drop, get_or, slice_get, Some, refl, sym, ap, ◌∙◌, subst, arith}
use Rattle.std.proofs.Math.Seq.{take-length}
use Rattle.std.proofs.lemmas.List.{length-map, length-drop}
use Rattle.std.proofs.lemmas.Option.{slice_get_within}
use Rattle.raml_syntax.specs.declared.ty.Ty.{Ty}
use Rattle.raml_syntax.specs.Tree.{Type'}
use Rattle.raml_syntax.specs.Read.{ty_of}
use Rattle.base_poly.specs.Plain.{degrees}
use Rattle.base_poly.specs.Indices.{tuples_up_to, index_list}
use Rattle.base_poly.specs.Read.{context_of}
use Rattle.index_shift.specs.Parts.{type_parts}
use Rattle.index_shift.specs.Maps.{Carry, behind, opens, leaves, joins, none, twice, in_place, variable_type, entries, opening, leaving, sharing, IsTooLarge}
use Rattle.index_shift.specs.Local.{Alone, IsLocal, StandsBetween, IsMapBetween, AreSmall, AreLarge}
use Rattle.index_shift.specs.declared.entry.Entry.{Entry}
use Rattle.index_shift.proofs.Shorter.{front_few, back_few, middle_large}

pub place_there : (As : List Ty) (at : ℕ) (A : Type') → slice_get (context_of As) at ≡ Some A → at < length As
place_there As at A h = subst (λ n. at < n) (length-map As ty_of) (slice_get_within (context_of As) at A h)

pub some_parts : {X : Type 0} {x : X} {xs : List X} → x ∷ xs ≢ []
some_parts h = cc

-- a slice from a place to the end
pub to_end : {X : Type 0} (k : ℕ) (xs : List X) → take (length xs - k) (drop k xs) ≡ drop k xs
to_end k xs = ap (λ n. take n (drop k xs)) (sym (length-drop k xs)) ∙ take-length (drop k xs)

one_more : (n : ℕ) → suc n + 1 ≡ suc (n + 1)
one_more n = omega arith

pub as_large : (As Bs Cs Ds : List Type') (d : ℕ) → As ≡ Cs → Bs ≡ Ds → IsTooLarge As Bs d → IsTooLarge Cs Ds d
as_large As Bs Cs Ds d one other h = subst (λ Xs. IsTooLarge Xs Ds d) one (subst (λ Ys. IsTooLarge As Ys d) other h)

-- The types before the place and behind it

module _ (Fs : List Type') where
  stands_in : (at : ℕ) (As : List Ty) → at < length As → context_of (take at As) ++ (Fs ++ context_of (drop (at + 1) As)) ≡ in_place at (λ _. Fs) (context_of As)
  stands_in at [] h = absurd (omega (arith, h))
  stands_in zero (A ∷ As) h = refl
  stands_in (suc k) (A ∷ As) h =
      ap (λ n. ty_of A ∷ (context_of (take k As) ++ (Fs ++ context_of (drop n (A ∷ As))))) (one_more k) ∙ ap (λ l. ty_of A ∷ l) (stands_in k As (omega (arith, h)))

so_many : (at : ℕ) (As : List Ty) → at < length As → length (context_of (take at As)) ≡ at
so_many at [] h = absurd (omega (arith, h))
so_many zero (A ∷ As) h = refl
so_many (suc k) (A ∷ As) h = ap suc (so_many k As (omega (arith, h)))

module _ (c : Carry) (Fs Ts : List Type') (As : List Ty) (at d : ℕ) (there : at < length As) where
  abbrev front : List Type'
  front = context_of (take at As)

  abbrev back : List Type'
  back = context_of (drop (at + 1) As)

  abbrev old : List Type'
  old = in_place at (λ _. Fs) (context_of As)

  abbrev new : List Type'
  new = in_place at (λ _. Ts) (context_of As)

  in_its_place : IsTooLarge (front ++ (Fs ++ back)) (front ++ (Ts ++ back)) d → IsTooLarge old new d
  in_its_place = as_large (front ++ (Fs ++ back)) (front ++ (Ts ++ back)) old new d (stands_in Fs at As there) (stands_in Ts at As there)

  -- what is too large before the place, behind it or in it is so as a part of the whole
  pub front_large : 2000 < length (index_list front d) → IsTooLarge old new d
  front_large h = in_its_place (inl (let a = front_few front (Fs ++ back) d in omega (arith, a, h)))

  pub back_large : 2000 < length (index_list (context_of (take (length As - (at + 1)) (drop (at + 1) As))) d) → IsTooLarge old new d
  back_large h = in_its_place (inl (
      let same = ap (λ Bs. length (index_list (context_of Bs) d)) (to_end (at + 1) As) in
      let a = back_few Fs back d in let b = back_few front (Fs ++ back) d in omega (arith, a, b, same, h)))

  pub alone_large : IsTooLarge Fs Ts d → IsTooLarge old new d
  alone_large h = in_its_place (middle_large front Fs Ts back d h)

  module _ (xs bs : List ℕ) (l : Alone) (is_front : xs ≡ map degrees (tuples_up_to front d)) (is_back : bs ≡ map degrees (tuples_up_to (context_of (take (length As - (at + 1)) (drop (at + 1) As))) d)) (local : IsLocal c Fs Ts d l) where
    stands : StandsBetween c front Fs Ts back d xs l bs
    stands = record { before = is_front; local = local; after = is_back ∙ ap (λ Bs. map degrees (tuples_up_to (context_of Bs) d)) (to_end (at + 1) As) }

    pub placed_map : (es : List Entry) → IsMapBetween xs l bs es → es ≡ entries (behind at c) old new d
    placed_map es is = is c front Fs Ts back d stands ∙ (λ n. entries (behind (so_many at As there n) c) (stands_in Fs at As there n) (stands_in Ts at As there n) d)

    pub placed_small : AreSmall xs l bs → IsTooLarge old new d → ⊥
    placed_small are h = are c front Fs Ts back d stands (as_large old new (front ++ (Fs ++ back)) (front ++ (Ts ++ back)) d (sym (stands_in Fs at As there)) (sym (stands_in Ts at As there)) h)

    pub placed_large : AreLarge xs l bs → IsTooLarge old new d
    placed_large are = in_its_place (are c front Fs Ts back d stands)

-- The maps of the variable at the place

module _ (As : List Ty) (at d : ℕ) (A : Ty) (there : at < length As) (is : A ≡ get_or As at A) where
  type_there : variable_type (context_of As) at ≡ ty_of A
  type_there = go As at there is
    where
      go : (As : List Ty) (at : ℕ) → at < length As → A ≡ get_or As at A → variable_type (context_of As) at ≡ ty_of A
      go [] at h e = absurd (omega (arith, h))
      go (B ∷ As) zero h e = ap ty_of (sym e)
      go (B ∷ As) (suc k) h e = go As k (omega (arith, h)) e

  pub same_place : (f : Type' → List Type') → in_place at (λ _. f (ty_of A)) (context_of As) ≡ in_place at f (context_of As)
  same_place f = go As at there is
    where
      go : (As : List Ty) (at : ℕ) → at < length As → A ≡ get_or As at A → in_place at (λ _. f (ty_of A)) (context_of As) ≡ in_place at f (context_of As)
      go [] at h e = absurd (omega (arith, h))
      go (B ∷ As) zero h e = ap (λ C. f (ty_of C) ++ context_of As) e
      go (B ∷ As) (suc k) h e = ap (λ l. ty_of B ∷ l) (go As k (omega (arith, h)) e)

  pub alone_there : in_place at (λ _. ty_of A ∷ []) (context_of As) ≡ context_of As
  alone_there = same_place (λ B. B ∷ []) ∙ alone at (context_of As)
    where
      alone : (at : ℕ) (Bs : List Type') → in_place at (λ B. B ∷ []) Bs ≡ Bs
      alone at [] = refl
      alone zero (B ∷ Bs) = refl
      alone (suc k) (B ∷ Bs) = ap (λ l. B ∷ l) (alone k Bs)

  pub opened : entries (behind at (opens (ty_of A))) (in_place at (λ _. ty_of A ∷ []) (context_of As)) (in_place at (λ _. type_parts (ty_of A)) (context_of As)) d ≡ opening (context_of As) at d
  opened = λ n. entries (behind at (opens (sym type_there n))) (alone_there n) (same_place type_parts n) d

  pub left : entries (behind at leaves) (in_place at (λ _. ty_of A ∷ []) (context_of As)) (in_place at (λ _. []) (context_of As)) d ≡ leaving (context_of As) at d
  left = λ n. entries (behind at leaves) (alone_there n) (in_place at none (context_of As)) d

  pub shared : entries (behind at joins) (in_place at (λ _. ty_of A ∷ ty_of A ∷ []) (context_of As)) (in_place at (λ _. ty_of A ∷ []) (context_of As)) d ≡ sharing (context_of As) at d
  shared = λ n. entries (behind at joins) (same_place twice n) (alone_there n) d
