-- The tuples of a lower degree stand first.
use Rattle.std.proofs.Common.{◌≡◌, ◌≤◌, ◌<◌, ℕ, ◌⊎◌, ⊎_elim, inl, inr, Bool, true, false, not, cond, nat_le, List, [], ◌∷◌, ◌++◌, filter, refl, sym, ap, ◌∙◌, arith}
use Rattle.std.specs.declared.cmp.Ordering.{Ordering}
use Rattle.std.specs.declared.cmp.Ordering.TheVariants.{Less, Greater}
use Rattle.std.specs.Ordering.{ordering_then, nat_cmp}
use Rattle.std.proofs.lemmas.Bool.Decides.{nat_tests}
use Rattle.std.proofs.lemmas.Bool.{leb-true, le-leb}
use Rattle.base_poly.specs.Plain.{Plain, degrees}
use Rattle.base_poly.specs.Indices.{Ascends, tuple_order, each_in_turn, index_list}
use Rattle.base_poly.proofs.Among.{Among, contains_among, among_contains, kept_among, among_kept, ascends_kept, before_one}
use Rattle.base_poly.proofs.Only.{one_order, never_both}
use Rattle.base_poly.proofs.Exact.{exact}
use Rattle.base_poly.specs.Laws.{LowerStandFirst}

apart : Less ≡ Greater → ⊥
apart e = cc

either : (m n : ℕ) → (m ≤ n) ⊎ (n < m)
either m n = grind arith

above : (m n : ℕ) → n < m → nat_cmp m n ≡ Greater
above m n h = grind (arith, nat_tests, h)

no_lower : (m n : ℕ) (o : Ordering) → ordering_then (nat_cmp m n) o ≡ Less → m ≤ n
no_lower m n o h = ⊎_elim (λ le. le) (λ gt. absurd (apart (sym h ∙ ap (λ p. ordering_then p o) (above m n gt)))) (either m n)

high_is : (m n b : ℕ) → nat_le m b ≡ false → m ≤ n → nat_le n b ≡ false
high_is m n b h le = grind (arith, nat_tests, h, le)

module _ {X : Type 0} (p : X → Bool) where
  none_kept : (xs : List X) → ((x : X) → Among x xs → p x ≡ false) → filter p xs ≡ []
  none_kept [] h = refl
  none_kept (x ∷ xs) h = (λ i. cond (h x (inl refl) i) (x ∷ filter p xs) (filter p xs)) ∙ none_kept xs (λ y m. h y (inr m))

  all_left : (xs : List X) → ((x : X) → Among x xs → p x ≡ false) → filter (λ x. not (p x)) xs ≡ xs
  all_left [] h = refl
  all_left (x ∷ xs) h =
      (λ i. cond (not (h x (inl refl) i)) (x ∷ filter (λ x. not (p x)) xs) (filter (λ x. not (p x)) xs)) ∙ ap (λ l. x ∷ l) (all_left xs (λ y m. h y (inr m)))

  -- where what fails a test is followed by nothing that passes it
  split : (by : X → X → Ordering) → ((x y : X) → by x y ≡ Less → p x ≡ false → p y ≡ false) → (xs : List X) → Ascends by xs → xs ≡ filter p xs ++ filter (λ x. not (p x)) xs
  split by down [] h = refl
  split by down (x ∷ xs) h = at (split by down xs h.1) (p x) refl
    where
      at : xs ≡ filter p xs ++ filter (λ x. not (p x)) xs → (b : Bool) → p x ≡ b → x ∷ xs ≡ cond (p x) (x ∷ filter p xs) (filter p xs) ++ cond (not (p x)) (x ∷ filter (λ x. not (p x)) xs) (filter (λ x. not (p x)) xs)
      at more true e = ap (λ l. x ∷ l) more ∙ (λ i. cond (sym e i) (x ∷ filter p xs) (filter p xs) ++ cond (not (sym e i)) (x ∷ filter (λ x. not (p x)) xs) (filter (λ x. not (p x)) xs))
      at more false e =
          let behind : (y : X) → Among y xs → p y ≡ false = λ y m. down x y (before_one by x y xs h.0 m) e in
          (λ i. sym (none_kept xs behind) i ++ x ∷ sym (all_left xs behind) i)
          ∙ (λ i. cond (sym e i) (x ∷ filter p xs) (filter p xs) ++ cond (not (sym e i)) (x ∷ filter (λ x. not (p x)) xs) (filter (λ x. not (p x)) xs))

pub lower_stand_first : LowerStandFirst
lower_stand_first As b d h =
    let low : List Plain → Bool = λ t. nat_le (degrees t) b in
    let all = exact As d in
    let some = exact As b in
    let whole = split low tuple_order (λ x y before e. high_is (degrees x) (degrees y) b e (no_lower (degrees x) (degrees y) (each_in_turn x y) before)) (index_list As d) all.ascends in
    let same = one_order tuple_order never_both (filter low (index_list As d)) (index_list As b) (ascends_kept tuple_order low (index_list As d) all.ascends) some.ascends
    (λ t m.
    let r = among_kept low t (index_list As d) m in
    let f = (all.exactly t).0 (among_contains t (index_list As d) r.0) in
    contains_among t (index_list As b) ((some.exactly t).1 (f.0, leb-true (degrees t) b r.1)))
    (λ t m.
    let f = (some.exactly t).0 (among_contains t (index_list As b) m) in
    kept_among low t (index_list As d) (le-leb (degrees t) b f.1) (contains_among t (index_list As d) ((all.exactly t).1 (f.0, (let g = f.1 in omega (arith, g, h)))))) in
    (filter (λ x. not (low x)) (index_list As d), whole ∙ ap (λ l. l ++ filter (λ x. not (low x)) (index_list As d)) same)
