-- Marks once more bytes come, and in a part of the bytes.
use Rattle.std.proofs.Common.{◌≡◌, refl, ap, sym, ◌∙◌, subst, ℕ, zero, suc, ◌+◌, ◌-◌, ◌<◌, ◌≤◌, ◌⊎◌, inl, inr, Bool, true, false, cond, ◌&&◌, List, [], ◌∷◌, ◌++◌, length, take, drop, Option, None, Some, option_map, nat_eq, arith, length-append, length-drop}
use Rattle.std.proofs.lemmas.List.{take-append-le, drop-append-le, take-append-drop}
use Rattle.std.proofs.lemmas.Bool.{cases_lt}
use Rattle.std.specs.Str.{bytes_eq}
use Rattle.lsp_frames.specs.Marks.{begins, first_place, NoneBefore}
use Rattle.lsp_frames.proofs.Places.{found_first}

and_false : (t : Bool) → (t && false) ≡ false
and_false true = refl
and_false false = refl

pub begins_short : (mark bytes : List ℕ) → length bytes < length mark → begins mark bytes ≡ false
begins_short [] bytes h = absurd (omega (arith, h))
begins_short (a ∷ mark) [] h = refl
begins_short (a ∷ mark) (b ∷ bytes) h = ap (λ t. nat_eq a b && t) (begins_short mark bytes (omega (arith, h))) ∙ and_false (nat_eq a b)

pub begins_long : (mark bytes : List ℕ) → begins mark bytes ≡ true → length mark ≤ length bytes
begins_long mark bytes e = go (cases_lt (length bytes) (length mark))
  where
    go : (length bytes < length mark) ⊎ (length mark ≤ length bytes) → length mark ≤ length bytes
    go (inl short) = let wrong : false ≡ true = sym (begins_short mark bytes short) ∙ e in absurd (cc wrong)
    go (inr long) = long

begins_more : (mark bytes more : List ℕ) → length mark ≤ length bytes → begins mark (bytes ++ more) ≡ begins mark bytes
begins_more mark bytes more h = ap (bytes_eq mark) (take-append-le (length mark) bytes more h)

pub begins_at_more : (mark bytes more : List ℕ) (place : ℕ) → place + length mark ≤ length bytes → begins mark (drop place (bytes ++ more)) ≡ begins mark (drop place bytes)
begins_at_more mark bytes more place h =
    let left = length-drop place bytes in
    let long : length mark ≤ length (drop place bytes) = omega (arith, left, h) in
    ap (begins mark) (drop-append-le place bytes more (omega (arith, h))) ∙ begins_more mark (drop place bytes) more long

pub none_more : (mark bytes more : List ℕ) (place : ℕ) → place ≤ length bytes + 1 - length mark → NoneBefore mark place bytes → NoneBefore mark place (bytes ++ more)
none_more mark bytes more place fits before k h = begins_at_more mark bytes more k (omega (arith, fits, h)) ∙ before k h

pub none_in_front : (mark bytes : List ℕ) (n place : ℕ) → 0 < length mark → NoneBefore mark place bytes → NoneBefore mark place (take n bytes)
none_in_front mark bytes n place some before k h = go (cases_lt (length (take n bytes)) (k + length mark))
  where
    go : (length (take n bytes) < k + length mark) ⊎ (k + length mark ≤ length (take n bytes)) → begins mark (drop k (take n bytes)) ≡ false
    go (inl short) = let left = length-drop k (take n bytes) in begins_short mark (drop k (take n bytes)) (omega (arith, left, short, some))
    go (inr long) =
        sym (begins_at_more mark (take n bytes) (drop n bytes) k long)
        ∙ ap (λ (l : List ℕ). begins mark (drop k l)) (take-append-drop n bytes)
        ∙ before k h

-- what it is that a mark stands first at a place
pub record IsFirst (mark bytes : List ℕ) (place : ℕ) : Type 0 where
  pub before : NoneBefore mark place bytes
  pub here : begins mark (drop place bytes) ≡ true
  pub within : place < length bytes

pub first_is : (mark bytes : List ℕ) (place : ℕ) → first_place mark bytes ≡ Some place → IsFirst mark bytes place
first_is mark [] place e = absurd (cc e)
first_is mark (b ∷ bs) place e = go (begins mark (b ∷ bs)) (first_place mark bs) refl (λ p h. first_is mark bs p h) e
  where
    later : (p : ℕ) → begins mark (b ∷ bs) ≡ false → IsFirst mark bs p → IsFirst mark (b ∷ bs) (suc p)
    later p apart f = record { before = over; here = f.here; within = omega (arith, f.within) }
      where
        over : (k : ℕ) → k < suc p → begins mark (drop k (b ∷ bs)) ≡ false
        over zero h = apart
        over (suc k) h = f.before k (omega (arith, h))

    go : (t : Bool) (found : Option ℕ) → begins mark (b ∷ bs) ≡ t → ((p : ℕ) → found ≡ Some p → IsFirst mark bs p) → cond t (Some 0) (option_map suc found) ≡ Some place → IsFirst mark (b ∷ bs) place
    go true found stands inside h =
        let at : 0 ≡ place = cc h in
        subst (IsFirst mark (b ∷ bs)) at (record { before = λ k few. absurd (omega (arith, few)); here = stands; within = omega arith })
    go false None apart inside h = absurd (cc h)
    go false (Some p) apart inside h = let at : suc p ≡ place = cc h in subst (IsFirst mark (b ∷ bs)) at (later p apart (inside p refl))

pub first_more : (mark bytes more : List ℕ) (place : ℕ) → first_place mark bytes ≡ Some place → first_place mark (bytes ++ more) ≡ Some place
first_more mark bytes more place e =
    let f = first_is mark bytes place e in
    let long = begins_long mark (drop place bytes) f.here in
    let left = length-drop place bytes in
    let sum = length-append bytes more in
    let fits : place + length mark ≤ length bytes = omega (arith, long, left, f.within) in
    found_first mark (bytes ++ more) place
    (λ k h. begins_at_more mark bytes more k (omega (arith, h, fits)) ∙ f.before k h)
    (begins_at_more mark bytes more place fits ∙ f.here)
    (omega (arith, sum, f.within))

-- where a mark stands nowhere
pub none_anywhere : (mark bytes : List ℕ) → 0 < length mark → first_place mark bytes ≡ None → (k : ℕ) → begins mark (drop k bytes) ≡ false
none_anywhere mark [] some e zero = begins_short mark [] some
none_anywhere mark [] some e (suc k) = begins_short mark [] some
none_anywhere mark (b ∷ bs) some e k = go (begins mark (b ∷ bs)) (first_place mark bs) refl (λ h j. none_anywhere mark bs some h j) e k
  where
    go : (t : Bool) (found : Option ℕ) → begins mark (b ∷ bs) ≡ t → (found ≡ None → (j : ℕ) → begins mark (drop j bs) ≡ false) →
        cond t (Some 0) (option_map suc found) ≡ None → (k : ℕ) → begins mark (drop k (b ∷ bs)) ≡ false
    go true found stands inside h k = absurd (cc h)
    go false (Some p) apart inside h k = absurd (cc h)
    go false None apart inside h zero = apart
    go false None apart inside h (suc k) = inside refl k

-- as many bytes of two lists
pub take_of_both : (n : ℕ) (xs ys : List ℕ) → take n (xs ++ ys) ≡ take n xs ++ take (n - length xs) ys
take_of_both zero xs ys = let none : 0 - length xs ≡ 0 = omega arith in ap (λ m. take m ys) (sym none)
take_of_both (suc n) [] ys = let all : suc n - 0 ≡ suc n = omega arith in ap (λ m. take m ys) (sym all)
take_of_both (suc n) (x ∷ xs) ys =
    let same : suc n - length (x ∷ xs) ≡ n - length xs = omega arith in
    ap (λ (l : List ℕ). x ∷ l) (take_of_both n xs ys) ∙ ap (λ m. x ∷ (take n xs ++ take m ys)) (sym same)
