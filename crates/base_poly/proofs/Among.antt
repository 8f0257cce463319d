-- Elements of lists, and lists in order.
use Rattle.std.proofs.Common.{◌≡◌, ◌⊎◌, inl, inr, ⊎_elim, Bool, true, false, cond, List, [], ◌∷◌, ◌++◌, map, filter, flat_map, Contains, refl, sym, ap, ◌∙◌, subst, arith}
use Rattle.std.specs.declared.cmp.Ordering.{Ordering}
use Rattle.std.specs.declared.cmp.Ordering.TheVariants.{Less, Equal}
use Rattle.std.specs.Ordering.{ordering_then}
use Rattle.std.proofs.lemmas.List.Elements.{Contains-append_left, Contains-append_right, Contains-push, Contains-push_cases, Contains-append_cases}
use Rattle.base_poly.specs.Indices.{IsBefore, Ascends}

-- x is one of the elements
abbrev pub Among : {X : Type 0} → X → List X → Type 0
Among x [] = ⊥
Among x (y ∷ ys) = (y ≡ x) ⊎ Among x ys

module _ {X : Type 0} where
  pub among_contains : (x : X) (xs : List X) → Among x xs → Contains xs x
  among_contains x [] h = absurd h
  among_contains x (y ∷ ys) h = ⊎_elim
      (λ e. Contains-append_left (y ∷ []) ys x (subst (λ z. Contains (y ∷ []) z) e (Contains-push [] y)))
      (λ g. Contains-append_right (y ∷ []) ys x (among_contains x ys g)) h

  none_there : (x : X) → Contains [] x → ⊥
  none_there x h = let below = h.1 in omega arith

  pub contains_among : (x : X) (xs : List X) → Contains xs x → Among x xs
  contains_among x [] h = none_there x h
  contains_among x (y ∷ ys) h = ⊎_elim
      (λ g. ⊎_elim (λ n. absurd (none_there x n)) (λ e. inl e) (Contains-push_cases [] y x g))
      (λ g. inr (contains_among x ys g)) (Contains-append_cases (y ∷ []) ys x h)

  pub among_left : (x : X) (xs ys : List X) → Among x xs → Among x (xs ++ ys)
  among_left x [] ys h = absurd h
  among_left x (z ∷ xs) ys h = ⊎_elim (λ e. inl e) (λ g. inr (among_left x xs ys g)) h

  pub among_right : (x : X) (xs ys : List X) → Among x ys → Among x (xs ++ ys)
  among_right x [] ys h = h
  among_right x (z ∷ xs) ys h = inr (among_right x xs ys h)

  pub among_either : (x : X) (xs ys : List X) → Among x (xs ++ ys) → Among x xs ⊎ Among x ys
  among_either x [] ys h = inr h
  among_either x (z ∷ xs) ys h = ⊎_elim (λ e. inl (inl e)) (λ g. ⊎_elim (λ a. inl (inr a)) (λ b. inr b) (among_either x xs ys g)) h

  pub kept_among : (p : X → Bool) (x : X) (xs : List X) → p x ≡ true → Among x xs → Among x (filter p xs)
  kept_among p x [] h m = m
  kept_among p x (y ∷ ys) h m = by (kept_among p x ys h) (p y) refl m
    where
      apart : false ≡ true → ⊥
      apart q = cc

      by : (Among x ys → Among x (filter p ys)) → (b : Bool) → p y ≡ b → (y ≡ x) ⊎ Among x ys → Among x (cond b (y ∷ filter p ys) (filter p ys))
      by more true e m = ⊎_elim (λ s. inl s) (λ g. inr (more g)) m
      by more false e m = ⊎_elim (λ s. absurd (apart (sym e ∙ ap p s ∙ h))) more m

  pub among_kept : (p : X → Bool) (x : X) (xs : List X) → Among x (filter p xs) → Among x xs × (p x ≡ true)
  among_kept p x [] m = absurd m
  among_kept p x (y ∷ ys) m = by (λ g. let r = among_kept p x ys g in (inr r.0, r.1)) (p y) refl m
    where
      by : (Among x (filter p ys) → Among x (y ∷ ys) × (p x ≡ true)) → (b : Bool) → p y ≡ b → Among x (cond b (y ∷ filter p ys) (filter p ys)) → Among x (y ∷ ys) × (p x ≡ true)
      by more true e m = ⊎_elim (λ s. (inl s, sym (ap p s) ∙ e)) more m
      by more false e m = more m

module _ {X Y : Type 0} where
  pub mapped_among : (f : X → Y) (x : X) (xs : List X) → Among x xs → Among (f x) (map f xs)
  mapped_among f x [] h = h
  mapped_among f x (y ∷ ys) h = ⊎_elim (λ e. inl (ap f e)) (λ g. inr (mapped_among f x ys g)) h

  pub among_mapped : (f : X → Y) (z : Y) (xs : List X) → Among z (map f xs) → (x : X) × Among x xs × (f x ≡ z)
  among_mapped f z [] h = absurd h
  among_mapped f z (y ∷ ys) h = ⊎_elim (λ e. (y, inl refl, e)) (λ g. let r = among_mapped f z ys g in (r.0, inr r.1, r.2)) h

  pub part_among : (f : X → List Y) (x : X) (z : Y) (xs : List X) → Among x xs → Among z (f x) → Among z (flat_map f xs)
  part_among f x z [] h m = absurd h
  part_among f x z (y ∷ ys) h m = ⊎_elim
      (λ e. among_left z (f y) (flat_map f ys) (subst (λ w. Among z (f w)) (sym e) m))
      (λ g. among_right z (f y) (flat_map f ys) (part_among f x z ys g m)) h

  pub among_part : (f : X → List Y) (z : Y) (xs : List X) → Among z (flat_map f xs) → (x : X) × Among x xs × Among z (f x)
  among_part f z [] h = absurd h
  among_part f z (y ∷ ys) h = ⊎_elim
      (λ g. (y, inl refl, g))
      (λ g. let r = among_part f z ys g in (r.0, inr r.1, r.2)) (among_either z (f y) (flat_map f ys) h)

module _ {X : Type 0} (by : X → X → Ordering) where
  pub before_all : (x : X) (ys : List X) → ((y : X) → Among y ys → by x y ≡ Less) → IsBefore by x ys
  before_all x [] h = tt
  before_all x (y ∷ ys) h = (h y (inl refl), before_all x ys (λ z m. h z (inr m)))

  pub before_one : (x y : X) (ys : List X) → IsBefore by x ys → Among y ys → by x y ≡ Less
  before_one x y [] h m = absurd m
  before_one x y (z ∷ ys) h m = ⊎_elim (λ e. sym (ap (by x) e) ∙ h.0) (λ g. before_one x y ys h.1 g) m

  pub ascends_joined : (xs ys : List X) → Ascends by xs → Ascends by ys → ((x y : X) → Among x xs → Among y ys → by x y ≡ Less) → Ascends by (xs ++ ys)
  ascends_joined [] ys h g k = g
  ascends_joined (x ∷ xs) ys h g k =
      (before_all x (xs ++ ys) (λ y m. ⊎_elim (λ a. before_one x y xs h.0 a) (λ b. k x y (inl refl) b) (among_either y xs ys m)), ascends_joined xs ys h.1 g (λ z y m. k z y (inr m)))

  pub ascends_kept : (p : X → Bool) (xs : List X) → Ascends by xs → Ascends by (filter p xs)
  ascends_kept p [] h = tt
  ascends_kept p (x ∷ xs) h = at (ascends_kept p xs h.1) (p x)
    where
      at : Ascends by (filter p xs) → (b : Bool) → Ascends by (cond b (x ∷ filter p xs) (filter p xs))
      at more true = (before_all x (filter p xs) (λ y m. before_one x y xs h.0 (among_kept p y xs m).0), more)
      at more false = more

  -- another order that agrees on the elements
  pub ascends_as : (other : X → X → Ordering) (xs : List X) → ((x y : X) → Among x xs → Among y xs → other x y ≡ by x y) → Ascends by xs → Ascends other xs
  ascends_as other [] h g = tt
  ascends_as other (x ∷ xs) h g =
      (before_under x xs (λ y m. h x y (inl refl) (inr m)) g.0, ascends_as other xs (λ a b m n. h a b (inr m) (inr n)) g.1)
    where
      before_under : (x : X) (ys : List X) → ((y : X) → Among y ys → other x y ≡ by x y) → IsBefore by x ys → IsBefore other x ys
      before_under x [] e g = tt
      before_under x (y ∷ ys) e g = (e y (inl refl) ∙ g.0, before_under x ys (λ z m. e z (inr m)) g.1)

-- items that are ordered as what they are made of
module _ {X Y : Type 0} (byX : X → X → Ordering) (byY : Y → Y → Ordering) (f : X → Y) (law : (x u : X) → byY (f x) (f u) ≡ byX x u) where
  before_made : (x : X) (us : List X) → IsBefore byX x us → IsBefore byY (f x) (map f us)
  before_made x [] h = tt
  before_made x (u ∷ us) h = (law x u ∙ h.0, before_made x us h.1)

  pub ascends_made : (xs : List X) → Ascends byX xs → Ascends byY (map f xs)
  ascends_made [] h = tt
  ascends_made (x ∷ xs) h = (before_made x xs h.0, ascends_made xs h.1)

-- firsts, each before what may follow it, in an order that looks at the firsts first
module _ {X Y Z : Type 0} (byX : X → X → Ordering) (byY : Y → Y → Ordering) (byZ : Z → Z → Ordering) (both : X → Y → Z)
    (one : (x : X) → byX x x ≡ Equal) (law : (x u : X) (y v : Y) → byZ (both x y) (both u v) ≡ ordering_then (byX x u) (byY y v)) where
  ascends_mapped : (x : X) (ys : List Y) → Ascends byY ys → Ascends byZ (map (λ y. both x y) ys)
  ascends_mapped x [] h = tt
  ascends_mapped x (y ∷ ys) h = (
    before_all byZ (both x y) (map (λ y. both x y) ys) (λ z m. let r = among_mapped (λ y. both x y) z ys m in
        ap (byZ (both x y)) (sym r.2) ∙ law x x y r.0 ∙ ap (λ o. ordering_then o (byY y r.0)) (one x) ∙ before_one byY y r.0 ys h.0 r.1),
    ascends_mapped x ys h.1,
  )

  pub ascends_led : (next : X → List Y) (xs : List X) → ((x : X) → Ascends byY (next x)) → Ascends byX xs → Ascends byZ (flat_map (λ x. map (λ y. both x y) (next x)) xs)
  ascends_led next [] f h = tt
  ascends_led next (x ∷ xs) f h =
      ascends_joined byZ (map (λ y. both x y) (next x)) (flat_map (λ x. map (λ y. both x y) (next x)) xs) (ascends_mapped x (next x) (f x)) (ascends_led next xs f h.1)
      (λ z w m n.
      let r = among_mapped (λ y. both x y) z (next x) m in
      let p = among_part (λ x. map (λ y. both x y) (next x)) w xs n in
      let q = among_mapped (λ y. both p.0 y) w (next p.0) p.2 in
      (λ i. byZ (sym r.2 i) (sym q.2 i)) ∙ law x p.0 r.0 q.0 ∙ ap (λ o. ordering_then o (byY r.0 q.0)) (before_one byX x p.0 xs h.0 p.1))
