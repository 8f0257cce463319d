-- There are letters enough.
use Rattle.std.proofs.Common.{◌≡◌, ◌≤◌, suc, ◌+◌, ◌&&◌, ◌||◌, not, cond, filter, Bool, true, false, List, [], ◌∷◌, length, refl, sym, ap, ◌∙◌, arith, length-append}
use Rattle.std.specs.List.{list_any}
use Rattle.std.specs.Str.{bytes_eq}
use Rattle.std.proofs.lemmas.Bool.{and_parts}
use Rattle.std.specs.Cmp.Lexicographic.{bytes_decides}
use Rattle.raml_syntax.specs.Tree.{Text}
use Rattle.explain_nested.specs.Text.{letters}
use Rattle.explain_nested.specs.Laws.{NamesSuffice}
use Rattle.explain_nested.proofs.Meaning.{few_in_tuple}

abbrev is_new : Text → List Text → Bool
is_new x [] = true
is_new x (y ∷ ys) = not (bytes_eq y x) && is_new x ys

abbrev are_distinct : List Text → Bool
are_distinct [] = true
are_distinct (x ∷ xs) = is_new x xs && are_distinct xs

-- those that are none of the names
abbrev free : List Text → List Text → List Text
free names xs = filter (λ x. not (list_any (bytes_eq x) names)) xs

all_free : (xs : List Text) → length (free [] xs) ≡ length xs
all_free [] = refl
all_free (x ∷ xs) = ap suc (all_free xs)

not_true : (b : Bool) → not b ≡ true → b ≡ false
not_true true h = cc
not_true false h = refl

module _ (p : Text) (names : List Text) where
  -- where no text is the name, it takes none
  same_free : (xs : List Text) → is_new p xs ≡ true → length (free names xs) ≡ length (free (p ∷ names) xs)
  same_free [] h = refl
  same_free (x ∷ xs) h =
      let parts = and_parts (not (bytes_eq x p)) (is_new p xs) h in by (bytes_eq x p) (list_any (bytes_eq x) names) (not_true (bytes_eq x p) parts.0) (same_free xs parts.1)
    where
      by : (b c : Bool) → b ≡ false → length (free names xs) ≡ length (free (p ∷ names) xs) →
          length (cond (not c) (x ∷ free names xs) (free names xs)) ≡ length (cond (not (b || c)) (x ∷ free (p ∷ names) xs) (free (p ∷ names) xs))
      by false true e more = more
      by false false e more = ap suc more
      by true c e more = absurd (cc)

  -- a name takes at most one of texts that differ
  one_less : (xs : List Text) → are_distinct xs ≡ true → length (free names xs) ≤ 1 + length (free (p ∷ names) xs)
  one_less [] h = omega arith
  one_less (x ∷ xs) h =
      let parts = and_parts (is_new x xs) (are_distinct xs) h in
      by (bytes_eq x p) (list_any (bytes_eq x) names) (λ e. same_free xs (sym (ap (λ y. is_new y xs) ((bytes_decides x p).0 e)) ∙ parts.0)) (one_less xs parts.1)
    where
      by : (b c : Bool) → (b ≡ true → length (free names xs) ≡ length (free (p ∷ names) xs)) → length (free names xs) ≤ 1 + length (free (p ∷ names) xs) →
          length (cond (not c) (x ∷ free names xs) (free names xs)) ≤ 1 + length (cond (not (b || c)) (x ∷ free (p ∷ names) xs) (free (p ∷ names) xs))
      by true true same more = let e = same refl in omega (arith, e)
      by true false same more = let e = same refl in omega (arith, e)
      by false true same more = more
      by false false same more = omega (arith, more)

many_free : (xs names : List Text) → are_distinct xs ≡ true → length xs ≤ length (free names xs) + length names
many_free xs [] h = let all = all_free xs in omega (arith, all)
many_free xs (p ∷ names) h = let more = many_free xs names h in let less = one_less p names xs h in omega (arith, more, less)

pub names_suffice : NamesSuffice
names_suffice is params same few low =
    let four = few_in_tuple is in
    let enough = many_free letters params refl in
    let both = length-append params (free params letters) in
    omega (arith, same, few, low, four, enough, both)
