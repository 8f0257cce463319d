-- Pieces of a text.
use Rattle.std.proofs.Common.{◌≡◌, ◌≤◌, ◌⊎◌, ⊎_elim, ℕ, zero, suc, ◌+◌, ◌-◌, min, List, [], ◌∷◌, ◌++◌, length, take, drop, sym, ap, ◌∙◌, arith}
use Rattle.std.proofs.lemmas.List.{take_all, drop_all}
use Rattle.std.specs.Prelude.{reverse}
use Rattle.explain_places.specs.Places.{to_newline, line_text}

two_pieces : (xs : List ℕ) (a e : ℕ) → a ≤ length xs → take (a + e) xs ≡ take a xs ++ take e (drop a xs)
two_pieces xs zero e h = let same : 0 + e ≡ e = omega arith in ap (λ n. take n xs) same
two_pieces [] (suc a) e h = absurd (omega (arith, h))
two_pieces (x ∷ xs) (suc a) e h =
    let next : suc a + e ≡ suc (a + e) = omega arith in
    ap (λ n. take n (x ∷ xs)) next ∙ ap (λ l. x ∷ l) (two_pieces xs a e (omega (arith, h)))

piece : (xs : List ℕ) (s a e : ℕ) → a ≤ length xs → s ≤ a → take (a + e - s) (drop s xs) ≡ drop s (take a xs) ++ take e (drop a xs)
piece xs zero a e h k = let same : a + e - 0 ≡ a + e = omega arith in ap (λ n. take n xs) same ∙ two_pieces xs a e h
piece xs (suc s) zero e h k = absurd (omega (arith, k))
piece [] (suc s) (suc a) e h k = absurd (omega (arith, h))
piece (x ∷ xs) (suc s) (suc a) e h k =
    let less : suc a + e - suc s ≡ a + e - s = omega arith in
    ap (λ n. take n (drop s xs)) less ∙ piece xs s a e (omega (arith, h)) (omega (arith, k))

short : (xs : List ℕ) (a : ℕ) → length (take a xs) ≤ a
short xs zero = omega arith
short [] (suc a) = omega arith
short (x ∷ xs) (suc a) = let more = short xs a in omega (arith, more)

cut_at : (xs : List ℕ) (a offset : ℕ) → a ≡ min offset (length xs) → (take a xs ≡ take offset xs) × (drop a xs ≡ drop offset xs)
cut_at xs a offset e = ⊎_elim low high (either offset (length xs))
  where
    either : (m n : ℕ) → (m ≤ n) ⊎ (n ≤ m)
    either m n = grind arith

    low : offset ≤ length xs → (take a xs ≡ take offset xs) × (drop a xs ≡ drop offset xs)
    low h = let same : a ≡ offset = omega (arith, e, h) in (ap (λ n. take n xs) same, ap (λ n. drop n xs) same)

    high : length xs ≤ offset → (take a xs ≡ take offset xs) × (drop a xs ≡ drop offset xs)
    high h =
        let all : length xs ≤ a = omega (arith, e, h) in
        (take_all a xs all ∙ sym (take_all offset xs h), drop_all a xs all ∙ sym (drop_all offset xs h))

pub line_cut : (xs front back : List ℕ) (a s e offset : ℕ) → a ≡ min offset (length xs) → front ≡ take a xs → back ≡ drop a xs → s ≤ length front →
    drop s front ≡ reverse (to_newline (reverse front)) → take e back ≡ to_newline back → take (a + e - s) (drop s xs) ≡ line_text xs offset
line_cut xs front back a s e offset ha hf hb within hs he =
    let few : a ≤ length xs = omega (arith, ha) in
    let same = ap length hf in
    let few_more = short xs a in
    let long : length front ≤ a = omega (arith, same, few_more) in
    piece xs s a e few (omega (arith, within, long))
    ∙ (λ n. drop s (sym hf n) ++ take e (sym hb n))
    ∙ (λ n. hs n ++ he n)
    ∙ (λ n. reverse (to_newline (reverse ((hf ∙ (cut_at xs a offset ha).0) n))) ++ to_newline ((hb ∙ (cut_at xs a offset ha).1) n))
