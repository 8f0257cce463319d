-- What may stand behind a phrase or a form.
use Rattle.std.proofs.Common.{inl, inr, ◌≡◌, ◌≤◌, ℕ, zero, suc, List, [], ◌∷◌, ◌++◌, refl, sym, ap, subst, ◌∙◌, arith}
use Rattle.std.proofs.lemmas.Bool.{eqb-true, eqb-false}
use Rattle.std.specs.Prelude.{Option, Some, None, Bool, true, false, nat_eq}
use Rattle.parse_spec.specs.Rules.{Rule, Grammar}
use Rattle.parse_spec.specs.Derives.{Is, form, lower, left, once, IsRest, done, take, part, first, second, many, last, next}
use Rattle.parse_spec.specs.Reading.{parts, taken, goes_at}
use Rattle.parse_spec.proofs.Basics.{height_pos, After, Ends, Wf}

-- the first token, if any, is one of A
abbrev pub Stops : {T : Type 0} → (T → Type 0) → List T → Type 0
Stops A [] = Unit {0}
Stops A (t ∷ s) = A t

pub stops_of : {T : Type 0} (A B : T → Type 0) (s : List T) → ((t : T) → A t → B t) → Stops A s → Stops B s
stops_of A B [] f w = tt
stops_of A B (t ∷ s) f w = f t w

stops_all : {T : Type 0} (B : T → Type 0) (s : List T) → ((t : T) → B t) → Stops B s
stops_all B [] f = tt
stops_all B (t ∷ s) f = f t

pub untaken : {T V : Type 0} (f : T → Option (List V)) (s : List T) → Stops (λ t. f t ≡ None) s → taken f s ≡ None
untaken f [] w = refl
untaken f (t ∷ s) w = w

module _ {T V C : Type 0} (g : Grammar T V C) (tails : C → T → Bool) where
  ends_less : (c : C) (t : T) (n i : ℕ) → i ≤ n → Ends g tails c n t → Ends g tails c i t
  ends_less c t zero i le h = let p : 0 ≡ i = omega arith in subst (λ i. Ends g tails c i t) p h
  ends_less c t (suc n) i le h = go (λ l. ends_less c t n i l h.1) (nat_eq i (suc n)) refl
    where
      go : (i ≤ n → Ends g tails c i t) → (b : Bool) → nat_eq i (suc n) ≡ b → Ends g tails c i t
      go r true q = subst (λ i. Ends g tails c i t) (sym (eqb-true i (suc n) q)) h
      go r false q = r (omega (arith, le, eqb-false i (suc n) q))

  pub stops_less : (c : C) (s : List T) (n i : ℕ) → i ≤ n → Stops (Ends g tails c n) s → Stops (Ends g tails c i) s
  stops_less c s n i le w = stops_of (Ends g tails c n) (Ends g tails c i) s (λ t. ends_less c t n i le) w

  pub stops_going : (c : C) (s : List T) (n : ℕ) → Stops (Ends g tails c (suc n)) s → goes_at g c n s ≡ None
  stops_going c [] n w = refl
  stops_going c (t ∷ s) n w = w.0

  -- what stands behind a phrase or an item, where the rest of a form follows it
  pub follow : {m i : ℕ} {r : Rule T V C} {vs : List V} {b : List T} {e : V} → IsRest g m r vs b e i → (A B : T → Type 0) → ((t : T) → After g A r t → B t) → (rest : List T) → Stops A rest → Stops B (b ++ rest)
  follow (done eq is) A B f rest stop = subst (λ b. Stops B (b ++ rest)) (sym eq) (stops_of A B rest f stop)
  follow (take {ws = ws} {t = t} q k eq) A B f rest stop = subst (λ b. Stops B (b ++ rest)) (sym eq) (f t (ws, q))
  follow (part {s = s} k l eq) A B f rest stop = stops_all B (s ++ rest) (λ t. f t tt)
  follow (first {ws = ws} {t = t} q k eq) A B f rest stop = subst (λ b. Stops B (b ++ rest)) (sym eq) (f t (inl (ws, q)))
  follow (second k) A B f rest stop = follow k A B (λ t w. f t (inr w)) rest stop
  follow (many {s = s} k) A B f rest stop = stops_all B (s ++ rest) (λ t. f t tt)

  pub parts_least : {m i : ℕ} {r : Rule T V C} {vs : List V} {b : List T} {e : V} → IsRest g m r vs b e i → (A : T → Type 0) → Wf g tails A r → parts r ≤ i
  parts_least (done eq is) A wf = omega arith
  parts_least (take q k eq) A wf = parts_least k A wf
  parts_least (part k l eq) A wf = omega (arith, height_pos g k)
  parts_least (first q k eq) A wf = let l = parts_least k A wf.2 in omega (arith, l, wf.0)
  parts_least (second k) A wf = parts_least k A wf.3
  parts_least (many (last k l eq)) A wf = let p = parts_least k _ wf.2 in omega (arith, p, wf.0)
  parts_least (many (next t lt k q l eq)) A wf = let p = parts_least k _ wf.2 in omega (arith, p, wf.0)

  -- the first token of a phrase
  pub record Head (c : C) (n : ℕ) (s : List T) : Type 0 where
    pub t : T
    pub a : List T
    pub eq : s ≡ t ∷ a
    pub l : ℕ
    pub r : Rule T V C
    pub at : g.starts c t ≡ Some (l, r)
    pub le : l ≤ n

  pub head_of : {m n h : ℕ} {c : C} {s : List T} {e : V} → Is g m c n s e h → Head c n s
  head_of (form {n = n} {a = a} {t = t} {r = r} q k eq) = record { t = t; a = a; eq = eq; l = n; r = r; at = q; le = omega arith }
  head_of (lower k) = let h = head_of k in record { t = h.t; a = h.a; eq = h.eq; l = h.l; r = h.r; at = h.at; le = omega (arith, h.le) }
  head_of (left {b = b} {t = t} q z x y eq) = let h = head_of x in record { t = h.t; a = h.a ++ t ∷ b; eq = eq ∙ ap (λ a. a ++ t ∷ b) h.eq; l = h.l; r = h.r; at = h.at; le = h.le }
  head_of (once {b = b} {t = t} q z x y eq) = let h = head_of x in record { t = h.t; a = h.a ++ t ∷ b; eq = eq ∙ ap (λ a. a ++ t ∷ b) h.eq; l = h.l; r = h.r; at = h.at; le = omega (arith, h.le) }
