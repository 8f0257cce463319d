-- The rules hold exactly where the conditions do.
use Rattle.std.proofs.Common.{◌≡◌, refl, sym, arith, subst}
use Rattle.std.specs.Prelude.{ℕ, zero, suc, ◌+◌, ◌*◌, ◌<◌, ◌≤◌, List, [], ◌∷◌, ◌++◌, Option}
use Rattle.index_shift.specs.Potential.{Annotation}
use Rattle.annot_types.specs.Carried.{less, more}
use Rattle.annot_types.specs.Certificate as cert
use Rattle.annot_types.specs.Certificate.{Entries, annotation, Annotates}
use Rattle.cost_free.specs.declared.task.Meter.{Meter}
use Rattle.cost_free.specs.declared.task.Meter.TheVariants.{Ticks, Cells, Work}
use Rattle.annot_types.specs.Rules.{Mode, With, Own, Past, Setting, CallRule, Parts, Ann}
use Rattle.annot_types.specs.Rules as r
use Rattle.rules_spec.specs.Numbers.{Sides, Signature, Hint, Condition, Walked}
use Rattle.rules_spec.specs.Kinds.{Amount, amounts, AllMeet}
use Rattle.rules_spec.specs.Walk.{only, and_then, numbered, charge, at, at_zero, against, begun}
use Rattle.rules_spec.specs.Asked.{Ask, behind_asked}
use Rattle.rules_spec.specs.Stand.{known_in, Stands, Answered, Tells}
use Rattle.rules_spec.proofs.Standing.{same_annotation, less_stands, more_stands, covers_to, covers_from}

-- conditions one after the other
pub meet_append : (cs ds : List (Condition Amount)) → AllMeet cs → AllMeet ds → AllMeet (cs ++ ds)
meet_append [] ds h g = g
meet_append (c ∷ cs) ds h g = (h.0, meet_append cs ds h.1 g)

pub meet_front : (cs ds : List (Condition Amount)) → AllMeet (cs ++ ds) → AllMeet cs
meet_front [] ds h = tt
meet_front (c ∷ cs) ds h = (h.0, meet_front cs ds h.1)

pub meet_back : (cs ds : List (Condition Amount)) → AllMeet (cs ++ ds) → AllMeet ds
meet_back [] ds h = h
meet_back (c ∷ cs) ds h = meet_back cs ds h.1

-- hints
pub answered_left : (ks : List Ask) (hs : List cert.Hint) (xs : List (Hint Amount)) (out : List cert.Hint) (left : List (Hint Amount)) → Answered ks hs xs out left → behind_asked ks xs ≡ left
answered_left [] hs xs out left h = h.1
answered_left (k ∷ ks) [] xs out left h = absurd h
answered_left (k ∷ ks) (h ∷ hs) [] out left a = absurd a
answered_left (k ∷ ks) (h ∷ hs) (x ∷ xs) out left a = answered_left ks hs xs out left a.1

pub answered_out : (ks : List Ask) (hs : List cert.Hint) (xs : List (Hint Amount)) (out : List cert.Hint) (left : List (Hint Amount)) → Answered ks hs xs out left → behind_asked ks hs ≡ out
answered_out [] hs xs out left h = h.0
answered_out (k ∷ ks) [] xs out left h = absurd h
answered_out (k ∷ ks) (h ∷ hs) [] out left a = absurd a
answered_out (k ∷ ks) (h ∷ hs) (x ∷ xs) out left a = answered_out ks hs xs out left a.1

-- the first part of what is asked for is answered, and then the rest
pub answered_front : (ks ls : List Ask) (hs : List cert.Hint) (xs : List (Hint Amount)) (out : List cert.Hint) (left : List (Hint Amount)) → Answered (ks ++ ls) hs xs out left →
    Answered ks hs xs (behind_asked ks hs) (behind_asked ks xs)
answered_front [] ls hs xs out left h = (refl, refl)
answered_front (k ∷ ks) ls [] xs out left h = absurd h
answered_front (k ∷ ks) ls (h ∷ hs) [] out left a = absurd a
answered_front (k ∷ ks) ls (h ∷ hs) (x ∷ xs) out left a = (a.0, answered_front ks ls hs xs out left a.1)

pub answered_back : (ks ls : List Ask) (hs : List cert.Hint) (xs : List (Hint Amount)) (out : List cert.Hint) (left : List (Hint Amount)) → Answered (ks ++ ls) hs xs out left →
    Answered ls (behind_asked ks hs) (behind_asked ks xs) out left
answered_back [] ls hs xs out left h = h
answered_back (k ∷ ks) ls [] xs out left h = absurd h
answered_back (k ∷ ks) ls (h ∷ hs) [] out left a = absurd a
answered_back (k ∷ ks) ls (h ∷ hs) (x ∷ xs) out left a = answered_back ks ls hs xs out left a.1

-- prices
abbrev pub Spends : ℕ → Annotation → (Annotation → Type 0) → Type 0
Spends K q rule = (K ≤ q 0) × rule (less K q)

module _ (S : Setting) where
  pub sum_less : (K a c : ℕ) (q : Annotation) → K ≡ a + c → less K q ≡ less c (less a q)
  sum_less K a c q e = λ i j. at j i where
    at : (j : ℕ) → less K q j ≡ less c (less a q) j
    at zero = omega (arith, e)
    at (suc j) = refl

  pub split_to : (K a c : ℕ) (q : Annotation) (rule : Annotation → Type 0) → K ≡ a + c → Spends K q rule → Spends a q (λ p. Spends c p rule)
  split_to K a c q rule e h = (omega (arith, e, h.0), (omega (arith, e, h.0), subst rule (sum_less K a c q e) h.1))

  pub split_from : (K a c : ℕ) (q : Annotation) (rule : Annotation → Type 0) → K ≡ a + c → Spends a q (λ p. Spends c p rule) → Spends K q rule
  split_from K a c q rule e h = (omega (arith, e, h.0, h.1.0), subst rule (sym (sum_less K a c q e)) h.1.1)

  pub nodes_first : (mode : Mode) (w k c : ℕ) → r.price S mode w k c ≡ r.price S mode w 0 0 + r.price S mode 0 k c
  nodes_first (With Ticks) w k c = omega arith
  nodes_first (With Cells) w k c = omega arith
  nodes_first (With Work) w k c = omega arith
  nodes_first Own w k c = omega arith
  nodes_first Past w k c = omega arith

  pub tick_price : (mode : Mode) (k : ℕ) → r.price S mode 0 k 0 ≡ charge S.scale mode Ticks k
  tick_price (With Ticks) k = refl
  tick_price (With Cells) k = omega arith
  tick_price (With Work) k = omega arith
  tick_price Own k = refl
  tick_price Past k = refl

  pub cell_price : (mode : Mode) (c : ℕ) → r.price S mode 0 0 c ≡ charge S.scale mode Cells c
  cell_price (With Ticks) c = omega arith
  cell_price (With Cells) c = refl
  cell_price (With Work) c = omega arith
  cell_price Own c = refl
  cell_price Past c = refl

-- a row for a price, and what is left
pub row_to : (a : List Amount) (q : Annotation) (n K : ℕ) (path : List ℕ) (j : ℕ) (w : Walked Amount) (rule : Type 0) → 0 < n → Stands n a q →
    (K ≤ q 0 → Tells w rule) → (K ≤ q 0) × rule → AllMeet (numbered path j ((at (amounts 1) a 0, (amounts 1).number K) ∷ []) ++ w.found)
row_to a q n K path j w rule h s t g = (omega (arith, s.is 0 h, g.0), (t g.0).to g.1)

pub row_from : (a : List Amount) (q : Annotation) (n K : ℕ) (path : List ℕ) (j : ℕ) (w : Walked Amount) (rule : Type 0) → 0 < n → Stands n a q →
    (K ≤ q 0 → Tells w rule) → AllMeet (numbered path j ((at (amounts 1) a 0, (amounts 1).number K) ∷ []) ++ w.found) → (K ≤ q 0) × rule
row_from a q n K path j w rule h s t g = let k : K ≤ q 0 = omega (arith, s.is 0 h, g.0) in (k, (t k).from g.1)

module _ (S : Setting) (group : List (Sides Amount)) (free : ℕ → ℕ → Signature) (cost : Meter → ℕ → Option Signature) where
  abbrev pub begins : ℕ → Mode → List ℕ → List Amount → (ℕ → List Amount → Walked Amount) → Walked Amount
  begins = begun (amounts 1) (known_in S group free cost)

  -- the nodes are paid for, and then the rule
  none_paid : (n : ℕ) (a : List Amount) (q : Annotation) (K : ℕ) (w : Walked Amount) (rule : Annotation → Type 0) → K ≡ 0 → Stands n a q →
      ((p : Annotation) → Stands n a p → Tells w (rule p)) → Tells w (Spends K q rule)
  none_paid n a q K w rule e s h =
      let t : Tells w (rule (less K q)) = h (less K q) (same_annotation n a q (less K q) s at) in
      record { to = λ g. t.to g.1; from = λ g. (omega (arith, e), t.from g) } where
        at : (k : ℕ) → k < n → q k ≡ less K q k
        at zero b = omega (arith, e)
        at (suc k) b = refl

  pub begun_tells : (w : ℕ) (mode : Mode) (path : List ℕ) (n : ℕ) (a : List Amount) (q : Annotation) (go : ℕ → List Amount → Walked Amount) (rule : Annotation → Type 0) → 0 < n → Stands n a q →
      ((j : ℕ) (c : List Amount) (p : Annotation) → Stands n c p → Tells (go j c) (rule p)) → Tells (begins w mode path a go) (Spends (r.price S mode w 0 0) q rule)
  begun_tells zero (With Ticks) path n a q go rule h s t = none_paid n a q _ (go 0 a) rule (omega arith) s (t 0 a)
  begun_tells zero (With Cells) path n a q go rule h s t = none_paid n a q _ (go 0 a) rule (omega arith) s (t 0 a)
  begun_tells zero (With Work) path n a q go rule h s t = none_paid n a q _ (go 0 a) rule (omega arith) s (t 0 a)
  begun_tells zero Own path n a q go rule h s t = none_paid n a q _ (go 0 a) rule refl s (t 0 a)
  begun_tells zero Past path n a q go rule h s t = none_paid n a q _ (go 0 a) rule refl s (t 0 a)
  begun_tells (suc w) (With Ticks) path n a q go rule h s t = none_paid n a q _ (go 0 a) rule (omega arith) s (t 0 a)
  begun_tells (suc w) (With Cells) path n a q go rule h s t = none_paid n a q _ (go 0 a) rule (omega arith) s (t 0 a)
  begun_tells (suc w) (With Work) path n a q go rule h s t =
      let K = suc w * S.scale in let c = at_zero ((amounts 1).less K) a in
      let next : K ≤ q 0 → Tells (go 1 c) (rule (less K q)) = λ k. t 1 c (less K q) (less_stands n a q K s k) in
      record { to = row_to a q n K path 0 (go 1 c) (rule (less K q)) h s next; from = row_from a q n K path 0 (go 1 c) (rule (less K q)) h s next }
  begun_tells (suc w) Own path n a q go rule h s t = none_paid n a q _ (go 0 a) rule refl s (t 0 a)
  begun_tells (suc w) Past path n a q go rule h s t = none_paid n a q _ (go 0 a) rule refl s (t 0 a)

  -- rows against a right side that pays for cells
  ends_inner : (mode : Mode) (cells n k : ℕ) (a c : List Amount) (q rr : Annotation) (path : List ℕ) (j : ℕ) (xs : List (Hint Amount)) → 0 < k → k ≤ n → Stands n a q → Stands k c rr →
      Tells (only (numbered path j (against (amounts 1) a (at_zero ((amounts 1).plus ((amounts 1).number (charge S.scale mode Cells cells))) c))) xs)
      (Spends (r.price S mode 0 0 cells) q (λ p. (i : ℕ) → i < k → rr i ≤ p i))
  ends_inner mode cells n k a c q rr path j xs h l s t =
      let K = charge S.scale mode Cells cells in let e : r.price S mode 0 0 cells ≡ K = cell_price S mode cells in
      let t' = more_stands k c rr K t in
      record {
        to = λ g. covers_to n k a _ q (more K rr) path j l s t' (up g e);
        from = λ g. down (covers_from n k a _ q (more K rr) path j l s t' g) e;
      } where
        up : (Spends (r.price S mode 0 0 cells) q (λ p. (i : ℕ) → i < k → rr i ≤ p i)) → r.price S mode 0 0 cells ≡ charge S.scale mode Cells cells →
            (i : ℕ) → i < k → more (charge S.scale mode Cells cells) rr i ≤ q i
        up g e zero b = omega (arith, e, g.0, g.1 0 b)
        up g e (suc i) b = g.1 (suc i) b

        down : ((i : ℕ) → i < k → more (charge S.scale mode Cells cells) rr i ≤ q i) → r.price S mode 0 0 cells ≡ charge S.scale mode Cells cells →
            Spends (r.price S mode 0 0 cells) q (λ p. (i : ℕ) → i < k → rr i ≤ p i)
        down g e = (omega (arith, e, g 0 h), below) where
          below : (i : ℕ) → i < k → rr i ≤ less (r.price S mode 0 0 cells) q i
          below zero b = omega (arith, e, g 0 b)
          below (suc i) b = g (suc i) b

  pub ends_tells : (mode : Mode) (w cells n k : ℕ) (a c : List Amount) (q rr : Annotation) (path : List ℕ) (xs : List (Hint Amount)) (hs out : List cert.Hint) → 0 < k → k ≤ n → Stands n a q → Stands k c rr → hs ≡ out →
      Tells (begins w mode path a (λ j a'. only (numbered path j (against (amounts 1) a' (at_zero ((amounts 1).plus ((amounts 1).number (charge S.scale mode Cells cells))) c))) xs))
      (Spends (r.price S mode w 0 cells) q (λ p. (i : ℕ) → i < k → rr i ≤ p i) × (hs ≡ out))
  ends_tells mode w cells n k a c q rr path xs hs out h l s t e =
      let rule = λ (p : Annotation). (i : ℕ) → i < k → rr i ≤ p i in
      let tells = begun_tells w mode path n a q _ (λ p. Spends (r.price S mode 0 0 cells) p rule) (omega (arith, h, l)) s (λ j a' p s'. ends_inner mode cells n k a' c p rr path j xs h l s' t) in
      record {
        to = λ g. tells.to (split_to S _ _ _ q rule (nodes_first S mode w 0 cells) g.0);
        from = λ g. (split_from S _ _ _ q rule (nodes_first S mode w 0 cells) (tells.from g), e);
      }

  -- one walk after the other
  pub then_tells : (w : Walked Amount) (next : List (Hint Amount) → Walked Amount) (mid : List (Hint Amount)) (P Q : Type 0) → w.left ≡ mid → Tells w P → Tells (next mid) Q → Tells (and_then w next) (P × Q)
  then_tells w next mid P Q e t u =
      let v : Tells (next w.left) Q = subst (λ l. Tells (next l) Q) (sym e) u in
      record { to = λ g. meet_append w.found (next w.left).found (t.to g.0) (v.to g.1); from = λ g. (t.from (meet_front w.found (next w.left).found g), v.from (meet_back w.found (next w.left).found g)) }
