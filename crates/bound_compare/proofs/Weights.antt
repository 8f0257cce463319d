-- Lists of exponents with numbers that have the same sums at all exponents are worth the same.
use Rattle.std.proofs.Common.{◌≡◌, ◌+◌, ◌*◌, ℕ, Bool, true, false, cond, List, [], ◌∷◌, refl, sym, ap, ◌∙◌, arith}
use Rattle.std.specs.Str.{bytes_eq}
use Rattle.std.proofs.lemmas.Cmp.{nat_list_eq_equiv}
use Rattle.std.proofs.lemmas.Slice.Eq.{bytes_eq-Decides}
use Rattle.base_poly.specs.Base.{total}

abbrev pub Entries : Type 0
Entries = List (List ℕ × ℕ)

-- the sum at the exponents
abbrev pub sum_at : List ℕ → Entries → ℕ
sum_at es xs = total (λ p. cond (bytes_eq es p.0) p.1 0) xs

-- those of other exponents
abbrev without : List ℕ → Entries → Entries
without k [] = []
without k (p ∷ xs) = cond (bytes_eq k p.0) (without k xs) (p ∷ without k xs)

abbrev pub has : List ℕ → List (List ℕ) → Bool
has k [] = false
has k (j ∷ js) = cond (bytes_eq k j) true (has k js)

-- the exponents of each are among these
abbrev Within : List (List ℕ) → Entries → Type 0
Within ks [] = Unit {0}
Within ks (p ∷ xs) = (has p.0 ks ≡ true) × Within ks xs

apart : {A : Type 0} → false ≡ true → A
apart e = absurd (no e)
  where
    no : false ≡ true → ⊥
    no q = cc

same_from : (es fs : List ℕ) → bytes_eq es fs ≡ true → es ≡ fs
same_from es fs = (bytes_eq-Decides es fs).0

itself : (es : List ℕ) → bytes_eq es es ≡ true
itself es = (bytes_eq-Decides es es).1 refl

module _ (m : List ℕ → ℕ) where
  abbrev pub weight : Entries → ℕ
  weight xs = total (λ p. p.1 * m p.0) xs

  taken : (k : List ℕ) (xs : Entries) → weight xs ≡ sum_at k xs * m k + weight (without k xs)
  taken k [] = omega arith
  taken k (p ∷ xs) = by (taken k xs) (bytes_eq k p.0) refl
    where
      by : weight xs ≡ sum_at k xs * m k + weight (without k xs) → (b : Bool) → bytes_eq k p.0 ≡ b →
          p.1 * m p.0 + weight xs ≡ (cond b p.1 0 + sum_at k xs) * m k + weight (cond b (without k xs) (p ∷ without k xs))
      by more true e = let here = ap (λ j. p.1 * m j) (sym (same_from k p.0 e)) in grind (arith, more, here)
      by more false e = grind (arith, more)

left_at : (es k : List ℕ) (xs : Entries) → sum_at es (without k xs) ≡ cond (bytes_eq es k) 0 (sum_at es xs)
left_at es k [] = by (bytes_eq es k)
  where
    by : (c : Bool) → sum_at es [] ≡ cond c 0 (sum_at es [])
    by true = refl
    by false = refl
left_at es k (p ∷ xs) = by (left_at es k xs) (bytes_eq k p.0) refl (bytes_eq es k) refl
  where
    by : sum_at es (without k xs) ≡ cond (bytes_eq es k) 0 (sum_at es xs) → (b : Bool) → bytes_eq k p.0 ≡ b → (c : Bool) → bytes_eq es k ≡ c →
        sum_at es (cond b (without k xs) (p ∷ without k xs)) ≡ cond c 0 (cond (bytes_eq es p.0) p.1 0 + sum_at es xs)
    by more true e true f = more ∙ ap (λ c. cond c 0 (sum_at es xs)) f
    by more true e false f =
        let other = ap (bytes_eq es) (sym (same_from k p.0 e)) ∙ f in
        more ∙ ap (λ c. cond c 0 (sum_at es xs)) f ∙ (let none = ap (λ c. cond c p.1 0) other in omega (arith, none))
    by more false e true f =
        let other = ap (λ j. bytes_eq j p.0) (same_from es k f) ∙ e in
        let none = ap (λ c. cond c p.1 0) other in let rest = more ∙ ap (λ c. cond c 0 (sum_at es xs)) f in omega (arith, none, rest)
    by more false e false f = let rest = more ∙ ap (λ c. cond c 0 (sum_at es xs)) f in omega (arith, rest)

left_within : (k : List ℕ) (ks : List (List ℕ)) (xs : Entries) → Within (k ∷ ks) xs → Within ks (without k xs)
left_within k ks [] h = tt
left_within k ks (p ∷ xs) h = by (left_within k ks xs h.1) (bytes_eq k p.0) refl
  where
    by : Within ks (without k xs) → (b : Bool) → bytes_eq k p.0 ≡ b → Within ks (cond b (without k xs) (p ∷ without k xs))
    by more true e = more
    by more false e = (ap (λ b. cond b true (has p.0 ks)) (sym (nat_list_eq_equiv.symm p.0 k ∙ e)) ∙ h.0, more)

same_weight : (m : List ℕ → ℕ) (ks : List (List ℕ)) (xs ys : Entries) → Within ks xs → Within ks ys → ((es : List ℕ) → sum_at es xs ≡ sum_at es ys) → weight m xs ≡ weight m ys
same_weight m [] [] [] h g e = refl
same_weight m [] [] (y ∷ ys) h g e = apart g.0
same_weight m [] (x ∷ xs) ys h g e = apart h.0
same_weight m (k ∷ ks) xs ys h g e =
    taken m k xs
    ∙ (λ i. e k i * m k + same_weight m ks (without k xs) (without k ys) (left_within k ks xs h) (left_within k ks ys g)
    (λ es. left_at es k xs ∙ ap (cond (bytes_eq es k) 0) (e es) ∙ sym (left_at es k ys)) i)
    ∙ sym (taken m k ys)

-- the exponents of entries before others
abbrev with_keys : Entries → List (List ℕ) → List (List ℕ)
with_keys [] ks = ks
with_keys (p ∷ xs) ks = p.0 ∷ with_keys xs ks

wider : (k : List ℕ) (ks : List (List ℕ)) (xs : Entries) → Within ks xs → Within (k ∷ ks) xs
wider k ks [] h = tt
wider k ks (p ∷ xs) h = (by (bytes_eq p.0 k), wider k ks xs h.1)
  where
    by : (b : Bool) → cond b true (has p.0 ks) ≡ true
    by true = refl
    by false = h.0

own_within : (xs : Entries) (ks : List (List ℕ)) → Within (with_keys xs ks) xs
own_within [] ks = tt
own_within (p ∷ xs) ks = (ap (λ b. cond b true (has p.0 (with_keys xs ks))) (itself p.0), wider p.0 (with_keys xs ks) xs (own_within xs ks))

others_within : (xs ys : Entries) (ks : List (List ℕ)) → Within ks ys → Within (with_keys xs ks) ys
others_within [] ys ks h = h
others_within (p ∷ xs) ys ks h = wider p.0 (with_keys xs ks) ys (others_within xs ys ks h)

pub same_sums : (m : List ℕ → ℕ) (xs ys : Entries) → ((es : List ℕ) → sum_at es xs ≡ sum_at es ys) → weight m xs ≡ weight m ys
same_sums m xs ys e = same_weight m (with_keys xs (with_keys ys [])) xs ys (own_within xs (with_keys ys [])) (others_within xs ys (with_keys ys []) (own_within ys [])) e
