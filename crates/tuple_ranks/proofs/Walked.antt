-- Steps of the walk over all tuples.
use Rattle.std.proofs.Common.{◌≡◌, ◌≤◌, ◌<◌, ℕ, zero, suc, ◌+◌, ◌-◌, false, cond, nat_lt, List, [], ◌∷◌, ◌++◌, map, drop, length, slice_index_or, refl, sym, ap, ◌∙◌, arith, append_assoc}
use Rattle.std.proofs.lemmas.List.Concat.{flat_map-append}
use Rattle.std.proofs.lemmas.Bool.Decides.{nat_tests}
use Rattle.tuple_ranks.specs.Numbers.{led, numbered, all_numbered, flat, flat_behind}

one_led : (before : List ℕ) (n : ℕ) (rows : List (List ℕ)) → flat_behind (before ++ n ∷ []) rows ≡ flat_behind before (map (λ ns. n ∷ ns) rows)
one_led before n [] = refl
one_led before n (ns ∷ rows) = λ i. append_assoc before (n ∷ []) ns i ++ one_led before n rows i

pub led_behind : (before new : List ℕ) (n g size : ℕ) (rows : List (List ℕ)) → size ≤ g → new ≡ before ++ n ∷ [] → flat_behind new rows ≡ flat_behind before (cond (nat_lt g size) [] (map (λ ns. n ∷ ns) rows))
led_behind before new n g size rows low made = ap (λ b. flat_behind b rows) made ∙ one_led before n rows ∙ (λ i. flat_behind before (cond (sym enough i) [] (map (λ ns. n ∷ ns) rows)))
  where
    enough : nat_lt g size ≡ false
    enough = grind (arith, nat_tests, low)

module _ (rests : ℕ → List (List ℕ)) (g : ℕ) where
  led_at : (sizes : List ℕ) (from k : ℕ) → k < length sizes →
      led rests g from (drop k sizes) ≡ cond (nat_lt g (slice_index_or sizes k 0)) [] (map (λ ns. from ∷ ns) (rests (g - slice_index_or sizes k 0))) ++ led rests g (suc from) (drop (suc k) sizes)
  led_at [] from k h = absurd (omega (arith, h))
  led_at (p ∷ sizes) from zero h = ap (λ l. cond (nat_lt g p) [] (map (λ ns. from ∷ ns) (rests (g - p))) ++ led rests g (suc from) l) (all sizes)
    where
      all : (xs : List ℕ) → xs ≡ drop 0 xs
      all [] = refl
      all (x ∷ xs) = refl
  led_at (p ∷ sizes) from (suc k) h = led_at sizes from k (omega (arith, h))

  pub led_step : (sizes : List ℕ) (k size : ℕ) (before found now whole : List ℕ) → k < length sizes → size ≡ slice_index_or sizes k 0 →
      now ≡ found ++ flat_behind before (cond (nat_lt g size) [] (map (λ ns. k ∷ ns) (rests (g - size)))) →
      found ++ flat_behind before (led rests g k (drop k sizes)) ≡ whole → now ++ flat_behind before (led rests g (k + 1) (drop (k + 1) sizes)) ≡ whole
  led_step sizes k size before found now whole h is made done =
      let p = slice_index_or sizes k 0 in
      let first = cond (nat_lt g p) [] (map (λ ns. k ∷ ns) (rests (g - p))) in
      let later = led rests g (suc k) (drop (suc k) sizes) in
      (λ i. (made ∙ ap (λ s. found ++ flat_behind before (cond (nat_lt g s) [] (map (λ ns. k ∷ ns) (rests (g - s))))) is) i ++ flat_behind before (led rests g (next i) (drop (next i) sizes)))
      ∙ append_assoc found (flat_behind before first) (flat_behind before later)
      ∙ ap (λ l. found ++ l) (sym (flat_map-append (λ ns. before ++ ns) first later))
      ∙ ap (λ l. found ++ flat_behind before l) (sym (led_at sizes k k h))
      ∙ done
    where
      next : k + 1 ≡ suc k
      next = omega arith

-- degree by degree
pub listed_step : (pss : List (List ℕ)) (g n : ℕ) (before found now whole : List ℕ) → g < n → before ≡ [] → now ≡ found ++ flat_behind before (numbered pss g) →
    found ++ flat (all_numbered pss (n - g) g) ≡ whole → now ++ flat (all_numbered pss (n - (g + 1)) (g + 1)) ≡ whole
listed_step pss g n before found now whole h none made done =
    (λ i. (made ∙ ap (λ b. found ++ flat_behind b (numbered pss g)) none) i ++ flat (all_numbered pss (n - (g + 1)) (next i)))
    ∙ append_assoc found (flat (numbered pss g)) (flat (all_numbered pss (n - (g + 1)) (1 + g)))
    ∙ ap (λ l. found ++ l) (sym (flat_map-append (λ ns. ns) (numbered pss g) (all_numbered pss (n - (g + 1)) (1 + g))))
    ∙ ap (λ m. found ++ flat (all_numbered pss m g)) more
    ∙ done
  where
    next : g + 1 ≡ 1 + g
    next = omega arith

    more : suc (n - (g + 1)) ≡ n - g
    more = omega (arith, h)
