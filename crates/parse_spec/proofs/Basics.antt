-- Heights are positive, longer lists may be allowed, and each rule has a least completion.
use Rattle.std.proofs.Common.{◌⊎◌, ◌≡◌, ◌≤◌, ℕ, zero, suc, List, [], ◌∷◌, ◌++◌, refl, sym, ap, ◌∙◌, arith}
use Rattle.std.specs.Prelude.{max, Option, Some, None, Bool, true, false, nat_eq, if◌then◌else◌}
use Rattle.std.proofs.lemmas.Bool.{eqb-true}
use Rattle.parse_spec.specs.Rules.{Rule, Done, Take, Sub, Either, Many, Grammar, opening}
use Rattle.parse_spec.specs.Derives.{Is, form, lower, left, once, IsRest, done, take, part, first, second, many, IsMany, last, next}
use Rattle.parse_spec.specs.Reading.{parts, taken, rest_of, goes_here, goes_at}

module _ {T V C : Type 0} (g : Grammar T V C) where
  pub height_pos : {x n h : ℕ} {c : C} {s : List T} {e : V} → Is g x c n s e h → 1 ≤ h
  height_pos (form q r eq) = omega arith
  height_pos (lower k) = height_pos k
  height_pos (left q c k l eq) = omega arith
  height_pos (once q c k l eq) = omega arith

  module _ (x y : ℕ) (le : x ≤ y) where
    mutual
      pub grow : {c : C} {n : ℕ} {s : List T} {e : V} {h : ℕ} → Is g x c n s e h → Is g y c n s e h
      grow (form q r eq) = form q (grow_rest r) eq
      grow (lower k) = lower (grow k)
      grow (left q c k l eq) = left q c (grow k) (grow_rest l) eq
      grow (once q c k l eq) = once q c (grow k) (grow_rest l) eq

      pub grow_rest : {r : Rule T V C} {vs : List V} {s : List T} {e : V} {h : ℕ} → IsRest g x r vs s e h → IsRest g y r vs s e h
      grow_rest (done eq is) = done eq is
      grow_rest (take q k eq) = take q (grow_rest k) eq
      grow_rest (part k l eq) = part (grow k) (grow_rest l) eq
      grow_rest (first q k eq) = first q (grow_rest k) eq
      grow_rest (second k) = second (grow_rest k)
      grow_rest (many k) = many (grow_many k)

      pub grow_many : {k c : ℕ} {f : T → Option (List V)} {item r : Rule T V C} {vs : List V} {s : List T} {e : V} {h : ℕ} → IsMany g x k c f item r vs s e h → IsMany g y k c f item r vs s e h
      grow_many (last k l eq) = last (grow_rest k) (grow_rest l) eq
      grow_many (next t lt k q l eq) = next t (omega (arith, le, lt)) (grow_rest k) q (grow_many l) eq

  pub parts_small : (r : Rule T V C) → parts r ≤ 1
  parts_small (Done act) = omega arith
  parts_small (Take f r) = parts_small r
  parts_small (Sub c n r) = omega arith
  parts_small (Either f r q) = parts_small q
  parts_small (Many k f item r) = omega arith

  -- some tokens complete s
  pub record Begun (X : ℕ → List T → V → ℕ → Type 0) (x : ℕ) (s : List T) : Type 0 where
    pub more : List T
    pub value : V
    pub height : ℕ
    pub is : X x (s ++ more) value height

  abbrev pub Phrase : C → ℕ → ℕ → List T → V → ℕ → Type 0
  Phrase c n x s e h = Is g x c n s e h

  abbrev pub Rest : Rule T V C → List V → ℕ → List T → V → ℕ → Type 0
  Rest r vs x s e h = IsRest g x r vs s e h

  abbrev pub Items : ℕ → ℕ → (T → Option (List V)) → Rule T V C → Rule T V C → List V → ℕ → List T → V → ℕ → Type 0
  Items k c f item r vs x s e h = IsMany g x k c f item r vs s e h

  -- a phrase is not empty
  pub head_is : {x n h : ℕ} {c : C} {s : List T} {e : V} → Is g x c n s e h → (t : T) × (a : List T) × (s ≡ t ∷ a)
  head_is (form {a = a} {t = t} q r eq) = (t, a, eq)
  head_is (lower k) = head_is k
  head_is (left {b = b} {t = t} q c k l eq) = let w = head_is k in (w.0, w.1 ++ t ∷ b, eq ∙ ap (λ a. a ++ t ∷ b) w.2)
  head_is (once {b = b} {t = t} q c k l eq) = let w = head_is k in (w.0, w.1 ++ t ∷ b, eq ∙ ap (λ a. a ++ t ∷ b) w.2)

  pub opening_more : {x n h : ℕ} {c : C} {s : List T} {e : V} → Is g x c n s e h → (b : List T) → opening g (s ++ b) ≡ opening g s
  opening_more k b = let w = head_is k in ap (λ s. opening g (s ++ b)) w.2 ∙ sym (ap (opening g) w.2)

  -- What a grammar must fulfil. A token that is a phrase by itself.
  pub record Atom (c : C) : Type 0 where
    pub token : T
    pub act : List V → V
    pub at : g.starts c token ≡ Some (0, Done act)

  -- a token that a test takes
  pub record Sample (f : T → Option (List V)) : Type 0 where
    pub token : T
    pub values : List V
    pub takes : f token ≡ Some values

  abbrev pub Filled : Rule T V C → Type 0
  Filled (Done act) = Unit {0}
  Filled (Take f r) = Sample f × Filled r
  Filled (Sub c n r) = Filled r
  Filled (Either f r q) = Filled r × Filled q
  Filled (Many k f item r) = Filled item × Filled r

  abbrev pub Takes : (T → Option (List V)) → T → Type 0
  Takes f t = (ws : List V) × (f t ≡ Some ws)

  -- the tokens that the rule begins with, where A are those behind it
  abbrev pub After : (T → Type 0) → Rule T V C → T → Type 0
  After A (Done act) t = A t
  After A (Take f r) t = Takes f t
  After A (Either f r q) t = Takes f t ⊎ After A q t
  After A _ t = Unit {0}

  -- the tokens with which no phrase of level n goes on, where tails are those that forms of level 0 may go on with
  abbrev pub Ends : (C → T → Bool) → C → ℕ → T → Type 0
  Ends tails c zero t = tails c t ≡ false
  Ends tails c (suc n) t = (goes_here n (g.goes c t) ≡ None) × Ends tails c n t

  -- the rule can be read with one token in view, where A are the tokens behind it
  abbrev pub Wf : (C → T → Bool) → (T → Type 0) → Rule T V C → Type 0
  Wf tails A (Done act) = Unit {0}
  Wf tails A (Take f r) = Wf tails A r
  Wf tails A (Sub c n r) = ((t : T) → After A r t → Ends tails c n t) × Wf tails A r
  Wf tails A (Either f r q) = (parts q ≤ parts r) × ((t : T) → After A q t → f t ≡ None) × Wf tails A r × Wf tails A q
  Wf tails A (Many k f item r) = (parts item ≡ 1) × ((t : T) → After A r t → f t ≡ None) × Wf tails (λ t. Takes f t ⊎ After A r t) item × Wf tails A r

  -- the tokens behind a form that goes on from a phrase
  abbrev pub Behind : (C → T → Bool) → Bool → C → ℕ → T → Type 0
  Behind tails true c n t = Ends tails c n t
  Behind tails false c n t = Ends tails c (suc n) t

  pub record Readable : Type 0 where
    pub tails : C → T → Bool
    pub atom : (c : C) → Atom c
    pub filled : Filled g.text
    pub filled_starts : (c : C) (t : T) (n : ℕ) (r : Rule T V C) → g.starts c t ≡ Some (n, r) → Filled r
    pub filled_goes : (c : C) (t : T) (n : ℕ) (r : Rule T V C) → g.goes c t ≡ Some (n, r) → Filled r
    pub wf : Wf tails (λ t. ⊥) g.text
    pub wf_starts : (c : C) (t : T) (n : ℕ) (r : Rule T V C) → g.starts c t ≡ Some (n, r) → Wf tails (Ends tails c n) r
    pub wf_goes : (c : C) (t : T) (n : ℕ) (r : Rule T V C) → g.goes c t ≡ Some (n, r) → Wf tails (Behind tails (g.chains c n) c n) r
    pub ends : (c : C) (t : T) (n : ℕ) (r : Rule T V C) → g.goes c t ≡ Some (n, r) → Ends tails c n t
    pub formless : (c : C) (t : T) (n : ℕ) (r : Rule T V C) → g.starts c t ≡ Some (suc n, r) → g.chains c n ≡ true → ⊥

  pub taken_is : (f : T → Option (List V)) (s : List T) (ws : List V) → taken f s ≡ Some ws → (t : T) × (s ≡ t ∷ rest_of s) × (f t ≡ Some ws)
  taken_is f [] ws h = absurd (cc)
  taken_is f (t ∷ s) ws h = (t, refl, h)

  -- a form goes on at the front
  pub goes_is : (c : C) (n : ℕ) (s : List T) (r : Rule T V C) → goes_at g c n s ≡ Some r → (t : T) × (s ≡ t ∷ rest_of s) × (g.goes c t ≡ Some (n, r))
  goes_is c n [] r h = absurd (cc)
  goes_is c n (t ∷ s) r h = go (g.goes c t) refl h
    where
      test : (l : ℕ) (q : Rule T V C) → g.goes c t ≡ Some (l, q) → (b : Bool) → nat_eq l n ≡ b → (if b then Some q else None) ≡ Some r → (u : T) × (t ∷ s ≡ u ∷ s) × (g.goes c u ≡ Some (n, r))
      test l q p true e h =
          let w : q ≡ r = cc in
          (t, refl, p ∙ ap (λ l. Some (l, q)) (eqb-true l n e) ∙ ap (λ q. Some (n, q)) w)
      test l q p false e h = absurd (cc)

      go : (o : Option (ℕ × Rule T V C)) → g.goes c t ≡ o → goes_here n o ≡ Some r → (u : T) × (t ∷ s ≡ u ∷ s) × (g.goes c u ≡ Some (n, r))
      go None p h = absurd (cc)
      go (Some (l, q)) p h = test l q p (nat_eq l n) refl h

  module _ (ok : Readable) (x : ℕ) where
    -- the least phrase of each level
    abbrev pub small : C → List T
    small c = (ok.atom c).token ∷ []

    abbrev pub value : C → V
    value c = (ok.atom c).act (g.mark (ok.atom c).token ∷ [])

    pub is_small : (c : C) (n : ℕ) → Is g x c n (small c) (value c) 1
    is_small c zero = form (ok.atom c).at (done refl refl) refl
    is_small c (suc n) = lower (is_small c n)

    -- the least completion of a rule
    pub record Least (r : Rule T V C) (vs : List V) : Type 0 where
      pub more : List T
      pub value : V
      pub height : ℕ
      pub is : IsRest g x r vs more value height
      pub within : height ≤ parts r

    pub least : (r : Rule T V C) → Filled r → (vs : List V) → Least r vs
    least (Done act) w vs = record { more = []; value = act vs; height = 0; is = done refl refl; within = omega arith }
    least (Take f r) w vs = let l = least r w.1 (w.0.values ++ vs) in record { more = w.0.token ∷ l.more; value = l.value; height = l.height; is = take w.0.takes l.is refl; within = l.within }
    least (Sub c n r) w vs = let l = least r w (value c ∷ vs) in record { more = small c ++ l.more; value = l.value; height = max 1 l.height; is = part (is_small c n) l.is refl; within = omega (arith, l.within, parts_small r) }
    least (Either f r q) w vs = let l = least q w.1 vs in record { more = l.more; value = l.value; height = l.height; is = second l.is; within = l.within }
    least (Many k f item r) w vs =
        let i = least item w.0 [] in
        let l = least r w.1 (i.value ∷ vs) in
        record { more = i.more ++ l.more; value = l.value; height = max i.height l.height; is = many (last i.is l.is refl); within = omega (arith, i.within, parts_small item, l.within, parts_small r) }
