-- Lists whose elements have one index, by their lengths.
use Rattle.std.proofs.Common.{◌≡◌, ◌≤◌, ◌<◌, ℕ, zero, suc, ◌+◌, ◌-◌, true, false, List, [], ◌∷◌, ◌++◌, map, refl, ap, ◌∙◌, append_assoc, arith}
use Rattle.std.specs.List.{range_with_len}
use Rattle.raml_syntax.specs.Tree.{Type', Integer, Boolean, PairOf, ListOf, TreeOf, OptionOf}
use Rattle.index_shift.specs.Parts.{type_parts}
use Rattle.index_shift.specs.Maps.{opens, leaves}
use Rattle.index_shift.specs.Local.{alone_of}
use Rattle.index_shift.specs.Lengths.{has_one, has_lengths, lists_opened, lists_left}

pub mapped_step : {X : Type 0} (f : ℕ → X) (old new whole : List X) (k n : ℕ) → k < n → new ≡ old ++ f k ∷ [] → old ++ map f (range_with_len k (n - k)) ≡ whole →
    new ++ map f (range_with_len (k + 1) (n - (k + 1))) ≡ whole
mapped_step f old new whole k n h made done =
    ap (λ l. l ++ map f (range_with_len (k + 1) (n - (k + 1)))) made
    ∙ append_assoc old (f k ∷ []) (map f (range_with_len (k + 1) (n - (k + 1))))
    ∙ ap (λ m. old ++ map f (range_with_len k m)) more ∙ done
  where
    more : suc (n - (k + 1)) ≡ n - k
    more = omega (arith, h)

clash : false ≡ true → ⊥
clash e = cc

opened_integers : (d : ℕ) → d ≤ 4 → lists_opened d ≡ alone_of (opens (ListOf Integer)) (ListOf Integer ∷ []) (type_parts (ListOf Integer)) d
opened_integers zero low = refl
opened_integers (suc zero) low = refl
opened_integers (suc (suc zero)) low = refl
opened_integers (suc (suc (suc zero))) low = refl
opened_integers (suc (suc (suc (suc zero)))) low = refl
opened_integers (suc (suc (suc (suc (suc d))))) low = absurd (omega (arith, low))

opened_booleans : (d : ℕ) → d ≤ 4 → lists_opened d ≡ alone_of (opens (ListOf Boolean)) (ListOf Boolean ∷ []) (type_parts (ListOf Boolean)) d
opened_booleans zero low = refl
opened_booleans (suc zero) low = refl
opened_booleans (suc (suc zero)) low = refl
opened_booleans (suc (suc (suc zero))) low = refl
opened_booleans (suc (suc (suc (suc zero)))) low = refl
opened_booleans (suc (suc (suc (suc (suc d))))) low = absurd (omega (arith, low))

opened_elements : (A : Type') (d : ℕ) → has_one A ≡ true → d ≤ 4 → lists_opened d ≡ alone_of (opens (ListOf A)) (ListOf A ∷ []) (type_parts (ListOf A)) d
opened_elements Integer d e low = opened_integers d low
opened_elements Boolean d e low = opened_booleans d low
opened_elements (PairOf A B) d e low = absurd (clash e)
opened_elements (ListOf A) d e low = absurd (clash e)
opened_elements (TreeOf A) d e low = absurd (clash e)
opened_elements (OptionOf A) d e low = absurd (clash e)

pub opened_lists : (T : Type') (d : ℕ) → has_lengths T ≡ true → d ≤ 4 → lists_opened d ≡ alone_of (opens T) (T ∷ []) (type_parts T) d
opened_lists (ListOf A) d e low = opened_elements A d e low
opened_lists Integer d e low = absurd (clash e)
opened_lists Boolean d e low = absurd (clash e)
opened_lists (PairOf A B) d e low = absurd (clash e)
opened_lists (TreeOf A) d e low = absurd (clash e)
opened_lists (OptionOf A) d e low = absurd (clash e)

left_integers : (d : ℕ) → d ≤ 4 → lists_left d ≡ alone_of leaves (ListOf Integer ∷ []) [] d
left_integers zero low = refl
left_integers (suc zero) low = refl
left_integers (suc (suc zero)) low = refl
left_integers (suc (suc (suc zero))) low = refl
left_integers (suc (suc (suc (suc zero)))) low = refl
left_integers (suc (suc (suc (suc (suc d))))) low = absurd (omega (arith, low))

left_booleans : (d : ℕ) → d ≤ 4 → lists_left d ≡ alone_of leaves (ListOf Boolean ∷ []) [] d
left_booleans zero low = refl
left_booleans (suc zero) low = refl
left_booleans (suc (suc zero)) low = refl
left_booleans (suc (suc (suc zero))) low = refl
left_booleans (suc (suc (suc (suc zero)))) low = refl
left_booleans (suc (suc (suc (suc (suc d))))) low = absurd (omega (arith, low))

left_elements : (A : Type') (d : ℕ) → has_one A ≡ true → d ≤ 4 → lists_left d ≡ alone_of leaves (ListOf A ∷ []) [] d
left_elements Integer d e low = left_integers d low
left_elements Boolean d e low = left_booleans d low
left_elements (PairOf A B) d e low = absurd (clash e)
left_elements (ListOf A) d e low = absurd (clash e)
left_elements (TreeOf A) d e low = absurd (clash e)
left_elements (OptionOf A) d e low = absurd (clash e)

pub left_lists : (T : Type') (d : ℕ) → has_lengths T ≡ true → d ≤ 4 → lists_left d ≡ alone_of leaves (T ∷ []) [] d
left_lists (ListOf A) d e low = left_elements A d e low
left_lists Integer d e low = absurd (clash e)
left_lists Boolean d e low = absurd (clash e)
left_lists (PairOf A B) d e low = absurd (clash e)
left_lists (TreeOf A) d e low = absurd (clash e)
left_lists (OptionOf A) d e low = absurd (clash e)
