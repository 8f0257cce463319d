-- The forms of step two use each variable of their contexts once on each path, and have the types of those of step one.
use Rattle.std.proofs.Common.{◌≡◌, ◌≤◌, ◌<◌, ◌+◌, ℕ, List, [], ◌∷◌, ◌++◌, Bool, true, false, cond, Some, refl, sym, ap, subst, ◌∙◌, ⊎_elim, arith}
use Rattle.std.proofs.lemmas.Bool.{eqb-true, cases_lt, and_right, or_right, or_left, and_from}
use Rattle.std.specs.Prelude.{nat_eq, not, ◌||◌, ◌&&◌}
use Rattle.raml_syntax.specs.Tree.{Type', Integer, Boolean, PairOf, ListOf, TreeOf, OptionOf}
use Rattle.normal_spec.specs.Norm as n
use Rattle.normal_spec.specs.Norm.{NormProg}
use Rattle.normal_spec.specs.Levels.{Levels}
use Rattle.normal_spec.specs.Two.{Shared, among, free_in, find, has, put, used, unused, Slots, slot, copy_of, drop_all, share_all, take_slot, take_all, Parted, to_first, to_second, to_both, part, of_one, of_two, of_three, over, around, two}
use Rattle.normal_spec.specs.Uses.{Context, AreNew, Distinct, Takes, types_of, parts_of, copies_of, Uses}
use Rattle.normal_spec.proofs.StepOne.{same_number, other_number}
use Rattle.normal_spec.proofs.TypedOne.{Given, more, AllGiven, OfType}
use Rattle.normal_spec.proofs.StepTwo.{two_grows}
use Rattle.raml_syntax.specs.SameType.{same_type}
use Rattle.raml_syntax.proofs.SameType.{same_self, same_is}
use Rattle.normal_spec.proofs.Weights.{has_append, has_put, has_find, distinct_append, distinct_put, has_used, distinct_used, distinct_unused, AllLow, low_more, low_append, low_put, low_used, low_unused, low_absent, weigh, weigh_append, weigh_put, weigh_used, weigh_unused}
use Rattle.normal_spec.proofs.Opened.{as_opened}
use Rattle.normal_spec.proofs.FreeUses.{uses_free}

-- slots with the types of their copies
abbrev pub TypedSlots : Type 0
TypedSlots = List (ℕ × (ℕ × Type'))

abbrev pub slots_of : TypedSlots → Slots
slots_of [] = []
slots_of (t ∷ T) = (t.0, t.1.0) ∷ slots_of T

abbrev pub load : (ℕ × Type' → ℕ) → TypedSlots → ℕ
load w T = weigh (λ t. w t.1) T

-- the context is that of the copies, in some order
pub record Same (C : Context) (T : TypedSlots) : Type 0 where
  pub at : (w : ℕ × Type' → ℕ) → weigh w C ≡ load w T

abbrev pub TypedAt : ℕ → Given → TypedSlots → Type 0
TypedAt j V [] = Unit {0}
TypedAt j V (t ∷ T) = (t.0 < j) × (V t.0 ≡ Some t.1.1) × TypedAt j V T

typed_append : (j : ℕ) (V : Given) (T U : TypedSlots) → TypedAt j V T → TypedAt j V U → TypedAt j V (T ++ U)
typed_append j V [] U h i = i
typed_append j V (t ∷ T) U h i = (h.0, h.1, typed_append j V T U h.2 i)

typed_put : (j : ℕ) (V : Given) (x : ℕ) (H T : TypedSlots) → TypedAt j V H → TypedAt j V T → TypedAt j V (put x H T)
typed_put j V x H [] h i = h
typed_put j V x H (t ∷ T) h i = by (nat_eq x t.0) (typed_put j V x H T h i.2)
  where
    by : (b : Bool) → TypedAt j V (put x H T) → TypedAt j V (cond b (H ++ T) (t ∷ put x H T))
    by true rest = typed_append j V H T h i.2
    by false rest = (i.0, i.1, rest)

typed_used : (j : ℕ) (V : Given) (e : n.Norm) (T : TypedSlots) → TypedAt j V T → TypedAt j V (used e T)
typed_used j V e [] h = tt
typed_used j V e (t ∷ T) h = by (free_in t.0 e) (typed_used j V e T h.2)
  where
    by : (b : Bool) → TypedAt j V (used e T) → TypedAt j V (cond b (t ∷ used e T) (used e T))
    by true rest = (h.0, h.1, rest)
    by false rest = rest

typed_more : (j i : ℕ) (V W : Given) (T : TypedSlots) → j ≤ i → ((y : ℕ) → y < j → W y ≡ V y) → TypedAt j V T → TypedAt i W T
typed_more j i V W [] le keep h = tt
typed_more j i V W (t ∷ T) le keep h = (omega (arith, h.0), keep t.0 h.0 ∙ h.1, typed_more j i V W T le keep h.2)

typed_find : (j : ℕ) (V : Given) (x : ℕ) (b : ℕ × Type') (T : TypedSlots) → TypedAt j V T → find x T ≡ Some b → (x < j) × (V x ≡ Some b.1)
typed_find j V x b [] h e = absurd (cc)
typed_find j V x b (t ∷ T) h e = by (typed_find j V x b T h.2) (nat_eq x t.0) refl e
  where
    by : (find x T ≡ Some b → (x < j) × (V x ≡ Some b.1)) → (c : Bool) → nat_eq x t.0 ≡ c → cond c (Some t.1) (find x T) ≡ Some b → (x < j) × (V x ≡ Some b.1)
    by rest true q e =
        let same = eqb-true x t.0 q in
        let p : t.1 ≡ b = cc in
        (omega (arith, h.0), ap V same ∙ h.1 ∙ ap (λ (z : ℕ × Type'). Some z.1) p)
    by rest false q e = rest e

typed_low : (j : ℕ) (V : Given) (y : ℕ) (T : TypedSlots) → TypedAt j V T → has y T ≡ true → y < j
typed_low j V y T h q = let b = has_find y T q in (typed_find j V y b.0 T h b.1).0

slots_append : (T U : TypedSlots) → slots_of (T ++ U) ≡ slots_of T ++ slots_of U
slots_append [] U = refl
slots_append (t ∷ T) U = ap (λ G. (t.0, t.1.0) ∷ G) (slots_append T U)

slots_put : (x : ℕ) (H T : TypedSlots) → slots_of (put x H T) ≡ put x (slots_of H) (slots_of T)
slots_put x H [] = refl
slots_put x H (t ∷ T) = by (nat_eq x t.0) (slots_put x H T)
  where
    by : (b : Bool) → slots_of (put x H T) ≡ put x (slots_of H) (slots_of T) → slots_of (cond b (H ++ T) (t ∷ put x H T)) ≡ cond b (slots_of H ++ slots_of T) ((t.0, t.1.0) ∷ put x (slots_of H) (slots_of T))
    by true rest = slots_append H T
    by false rest = ap (λ G. (t.0, t.1.0) ∷ G) rest

slots_used : (e : n.Norm) (T : TypedSlots) → slots_of (used e T) ≡ used e (slots_of T)
slots_used e [] = refl
slots_used e (t ∷ T) = by (free_in t.0 e) (slots_used e T)
  where
    by : (b : Bool) → slots_of (used e T) ≡ used e (slots_of T) → slots_of (cond b (t ∷ used e T) (used e T)) ≡ cond b ((t.0, t.1.0) ∷ used e (slots_of T)) (used e (slots_of T))
    by true rest = ap (λ G. (t.0, t.1.0) ∷ G) rest
    by false rest = rest

find_copy : (x : ℕ) (b : ℕ × Type') (T : TypedSlots) → find x T ≡ Some b → copy_of x (slots_of T) ≡ b.0
find_copy x b [] e = absurd (cc)
find_copy x b (t ∷ T) e = by (find_copy x b T) (nat_eq x t.0) e
  where
    by : (find x T ≡ Some b → copy_of x (slots_of T) ≡ b.0) → (c : Bool) → cond c (Some t.1) (find x T) ≡ Some b → cond c t.1.0 (copy_of x (slots_of T)) ≡ b.0
    by rest true e = let p : t.1 ≡ b = cc in ap (λ (z : ℕ × Type'). z.0) p
    by rest false e = rest e

-- one for an entry of this number and type
abbrev hit : ℕ → Type' → ℕ × Type' → ℕ
hit c B e = cond (nat_eq c e.0 && same_type e.1 B) 1 0

hit_self : (c : ℕ) (B : Type') → hit c B (c, B) ≡ 1
hit_self c B = (λ i. cond (same_number c i && same_type B B) 1 0) ∙ ap (λ b. cond b 1 0) (same_self B)

hit_absent : (c : ℕ) (B : Type') (C : Context) → has c C ≡ false → weigh (hit c B) C ≡ 0
hit_absent c B [] h = refl
hit_absent c B (s ∷ C) h = by (nat_eq c s.0) (hit_absent c B C) h
  where
    by : (b : Bool) → (has c C ≡ false → weigh (hit c B) C ≡ 0) → (b || has c C) ≡ false → cond (b && same_type s.1 B) 1 0 + weigh (hit c B) C ≡ 0
    by true rest h = absurd (cc)
    by false rest h = omega (arith, rest h)

find_hit : (c : ℕ) (B : Type') (C : Context) → Distinct C → 1 ≤ weigh (hit c B) C → find c C ≡ Some B
find_hit c B [] d h = absurd (omega arith)
find_hit c B (s ∷ C) d h = by (find_hit c B C d.1) (nat_eq c s.0) refl (same_type s.1 B) refl h
  where
    by : (1 ≤ weigh (hit c B) C → find c C ≡ Some B) → (b : Bool) → nat_eq c s.0 ≡ b → (t : Bool) → same_type s.1 B ≡ t → 1 ≤ cond (b && t) 1 0 + weigh (hit c B) C → cond b (Some s.1) (find c C) ≡ Some B
    by rest true q true p h = ap Some (same_is s.1 B p)
    by rest true q false p h =
        let none = hit_absent c B C (ap (λ z. has z C) (eqb-true c s.0 q) ∙ d.0) in
        absurd (omega (arith, none))
    by rest false q t p h = rest (omega arith)

-- how often a number stands
abbrev one_at : ℕ → ℕ × Type' → ℕ
one_at c e = cond (nat_eq c e.0) 1 0

absent_none : (c : ℕ) (C : Context) → has c C ≡ false → weigh (one_at c) C ≡ 0
absent_none c [] h = refl
absent_none c (s ∷ C) h = by (nat_eq c s.0) (absent_none c C) h
  where
    by : (b : Bool) → (has c C ≡ false → weigh (one_at c) C ≡ 0) → (b || has c C) ≡ false → cond b 1 0 + weigh (one_at c) C ≡ 0
    by true rest h = absurd (cc)
    by false rest h = omega (arith, rest h)

distinct_once : (c : ℕ) (C : Context) → Distinct C → weigh (one_at c) C ≤ 1
distinct_once c [] d = omega arith
distinct_once c (s ∷ C) d = by (nat_eq c s.0) refl (distinct_once c C d.1)
  where
    by : (b : Bool) → nat_eq c s.0 ≡ b → weigh (one_at c) C ≤ 1 → cond b 1 0 + weigh (one_at c) C ≤ 1
    by true q rest = let none = absent_none c C (ap (λ z. has z C) (eqb-true c s.0 q) ∙ d.0) in omega (arith, none)
    by false q rest = omega arith

has_once : (c : ℕ) (C : Context) → has c C ≡ true → 1 ≤ weigh (one_at c) C
has_once c [] h = absurd (cc)
has_once c (s ∷ C) h = by (nat_eq c s.0) (has_once c C) h
  where
    by : (b : Bool) → (has c C ≡ true → 1 ≤ weigh (one_at c) C) → (b || has c C) ≡ true → 1 ≤ cond b 1 0 + weigh (one_at c) C
    by true rest h = omega arith
    by false rest h = omega (arith, rest h)

once_distinct : (C : Context) → ((c : ℕ) → weigh (one_at c) C ≤ 1) → Distinct C
once_distinct [] h = tt
once_distinct (s ∷ C) h =
    (by (has s.0 C) refl, once_distinct C (λ c. omega (arith, h c)))
  where
    by : (b : Bool) → has s.0 C ≡ b → b ≡ false
    by true q =
        let own : one_at s.0 s ≡ 1 = ap (λ b. cond b 1 0) (same_number s.0) in
        let more = has_once s.0 C q in
        let most = h s.0 in
        absurd (omega (arith, own))
    by false q = refl

-- the context of typed slots
abbrev context_of : TypedSlots → Context
context_of [] = []
context_of (t ∷ T) = t.1 ∷ context_of T

context_same : (T : TypedSlots) → Same (context_of T) T
context_same [] = record { at = λ w. refl }
context_same (t ∷ T) = record { at = λ w. ap (λ z. w t.1 + z) ((context_same T).at w) }

new_one : (k : ℕ) (C : Context) → AllLow k C → AreNew (k ∷ []) C
new_one k C h = (low_absent k k C h (omega arith), refl, tt)

new_two : (k : ℕ) (C : Context) → AllLow k C → AreNew (k ∷ (k + 1) ∷ []) C
new_two k C h = (low_absent k k C h (omega arith), ap (λ b. b || false) (other_number k (k + 1) (λ q. omega arith)), (low_absent k (k + 1) C h (omega arith), refl, tt))

new_three : (k : ℕ) (C : Context) → AllLow k C → AreNew (k ∷ (k + 1) ∷ (k + 2) ∷ []) C
new_three k C h =
    (low_absent k k C h (omega arith), (λ i. other_number k (k + 1) (λ q. omega arith) i || (other_number k (k + 2) (λ q. omega arith) i || false)), (low_absent k (k + 1) C h (omega arith), ap (λ b. b || false) (other_number (k + 1) (k + 2) (λ q. omega arith)), (low_absent k (k + 2) C h (omega arith), refl, tt)))

-- new entries from k on are not in a context below k
apart_low : (k y : ℕ) (K C : Context) → AllLow k C → ((z : ℕ) → z < k → has z K ≡ false) → has y C ≡ true → has y K ≡ false
apart_low k y K C low new h = by (has y K) refl
  where
    less : (C : Context) → AllLow k C → has y C ≡ true → y < k
    less [] l h = absurd (cc)
    less (s ∷ C) l h = go (nat_eq y s.0) refl (less C l.1) h
      where
        go : (b : Bool) → nat_eq y s.0 ≡ b → (has y C ≡ true → y < k) → (b || has y C) ≡ true → y < k
        go true q rest h = let e = eqb-true y s.0 q in omega (arith, l.0)
        go false q rest h = rest h

    by : (b : Bool) → has y K ≡ b → b ≡ false
    by true q = let w = new y (less C low h) in absurd (cc)
    by false q = refl

new_entries_two : (k : ℕ) (A B : Type') (z : ℕ) → z < k → has z ((k, A) ∷ (k + 1, B) ∷ []) ≡ false
new_entries_two k A B z lt = (λ i. other_number z k (λ q. omega arith) i || (other_number z (k + 1) (λ q. omega arith) i || false))

share_append : (ss us : List Shared) (m : n.Norm) → share_all (ss ++ us) m ≡ share_all ss (share_all us m)
share_append [] us m = refl
share_append (s ∷ ss) us m = ap (n.Share 0 s.variable s.first s.second) (share_append ss us m)

-- the slots that stay where a variable is used again
abbrev stay : Bool → ℕ → ℕ → Type' → TypedSlots
stay false x k B = []
stay true x k B = (x, (k + 1, B)) ∷ []

stay_slots : (again : Bool) (x : ℕ) (T : TypedSlots) (k : ℕ) (B : Type') → slots_of (stay again x k B) ≡ (take_slot again x (slots_of T) k).0.stay
stay_slots false x T k B = refl
stay_slots true x T k B = refl

stay_other : (again : Bool) (x y k : ℕ) (B : Type') → nat_eq y x ≡ false → has y (stay again x k B) ≡ false
stay_other false x y k B h = refl
stay_other true x y k B h = ap (λ b. b || false) h

stay_here : (again : Bool) (x k : ℕ) (B : Type') → has x (stay again x k B) ≡ again
stay_here false x k B = refl
stay_here true x k B = ap (λ b. b || false) (same_number x)

stay_distinct : (again : Bool) (x k : ℕ) (B : Type') → Distinct (stay again x k B)
stay_distinct false x k B = tt
stay_distinct true x k B = (refl, tt)

stay_typed : (again : Bool) (x k j : ℕ) (V : Given) (B : Type') → x < j → V x ≡ Some B → TypedAt j V (stay again x k B)
stay_typed false x k j V B lt h = tt
stay_typed true x k j V B lt h = (lt, h, tt)

sum_two : (w : ℕ × Type' → ℕ) (F S : TypedSlots) → load w (F ++ S) ≡ load w F + load w S
sum_two w F S = weigh_append (λ (z : ℕ × (ℕ × Type')). w z.1) F S

module _ (N : NormProg) where
  -- A use of a variable. Behind its share the context has the copy that is used, the slot that stays, and the others. L: what else it has.
  take_uses : (again : Bool) (x : ℕ) (T : TypedSlots) (k c : ℕ) (B : Type') → find x T ≡ Some (c, B) → (L : TypedSlots) (C : Context) (m : n.Norm) (A : Type') → Distinct C → AllLow k C → Same C (L ++ T) →
      ((D : Context) → Distinct D → AllLow (take_slot again x (slots_of T) k).1 D → Same D (L ++ ((0, ((take_slot again x (slots_of T) k).0.name, B)) ∷ (stay again x k B ++ put x [] T))) → Uses N D m A) →
      Uses N C (share_all (take_slot again x (slots_of T) k).0.shares m) A
  take_uses false x T k c B f L C m A d low same next =
      next C d low (record {
        at = λ w.
            let name : w (copy_of x (slots_of T), B) ≡ w (c, B) = ap (λ z. w (z, B)) (find_copy x (c, B) T f) in
            omega (arith, same.at w, sum_two w L T, sum_two w L ((0, (copy_of x (slots_of T), B)) ∷ put x [] T), weigh_put (λ (t : ℕ × (ℕ × Type')). w t.1) x (c, B) [] T f, name);
      })
  take_uses true x T k c B f L C m A d low same next =
      let is = find_copy x (c, B) T f in
      let K : Context = (k, B) ∷ (k + 1, B) ∷ [] in
      let one : 1 ≤ weigh (hit c B) C = omega (arith, same.at (hit c B), sum_two (hit c B) L T, weigh_put (λ (t : ℕ × (ℕ × Type')). hit c B t.1) x (c, B) [] T f, hit_self c B) in
      let there : find c C ≡ Some B = find_hit c B C d one in
      let D = put c K C in
      let dD : Distinct D = distinct_put c K C d (ap (λ b. b || false) (other_number k (k + 1) (λ q. omega arith)), (refl, tt)) (λ y ne h. apart_low k y K C low (new_entries_two k B B) h) in
      let lD : AllLow (k + 2) D = low_put (k + 2) c K C (omega arith, (omega arith, tt)) (low_more k (k + 2) C (omega arith) low) in
      subst (λ z. Uses N C (n.Share 0 z k (k + 1) m) A) (sym is) (
        B,
        there,
        new_two k C low,
        as_opened N c (k ∷ (k + 1) ∷ []) copies_of B C there m A (next D dD lD (record {
          at = λ w.
              omega (arith, same.at w, sum_two w L T, sum_two w L ((0, (k, B)) ∷ ((x, (k + 1, B)) ∷ put x [] T)), weigh_put (λ (t : ℕ × (ℕ × Type')). w t.1) x (c, B) [] T f, weigh_put w c B K C there);
        })),
      )

  -- the entries of taken operands
  abbrev Matched : List ℕ → List Type' → Type 0
  Matched [] [] = Unit {0}
  Matched (x ∷ xs) (A ∷ As) = Matched xs As
  Matched _ _ = ⊥

  abbrev zip : List ℕ → List Type' → TypedSlots
  zip (x ∷ xs) (A ∷ As) = (0, (x, A)) ∷ zip xs As
  zip _ _ = []

  empty_is : (C : Context) → weigh (λ e. 1) C ≡ 0 → C ≡ []
  empty_is [] h = refl
  empty_is (s ∷ C) h = absurd (omega arith)

  takes_from : (xs : List ℕ) (As : List Type') (C : Context) → Matched xs As → Distinct C → Same C (zip xs As) → Takes C xs As
  takes_from [] [] C h d s = empty_is C (s.at (λ e. 1))
  takes_from [] (A ∷ As) C h d s = absurd h
  takes_from (x ∷ xs) [] C h d s = absurd h
  takes_from (x ∷ xs) (A ∷ As) C h d s =
      let there : find x C ≡ Some A = find_hit x A C d (omega (arith, s.at (hit x A), hit_self x A)) in
      (there, takes_from xs As (put x [] C) h (distinct_put x [] C d tt (λ z ne q. refl)) (record { at = λ w. omega (arith, s.at w, weigh_put w x A [] C there) }))

  none_empty : (T : TypedSlots) → ((y : ℕ) → has y T ≡ false) → T ≡ []
  none_empty [] h = refl
  none_empty (t ∷ T) h = let w = h t.0 in let q : has t.0 (t ∷ T) ≡ true = ap (λ b. b || has t.0 T) (same_number t.0) in absurd (cc)

  -- what the slots have behind a use
  behind_has : (again e t s : Bool) → (e ≡ true → s ≡ again) → (e ≡ false → s ≡ false) → (s || (not e && t)) ≡ cond e again t
  behind_has again true t true p q = p refl
  behind_has again true t false p q = p refl
  behind_has again false t true p q = let w = q refl in absurd (cc)
  behind_has again false t false p q = refl

  has_behind : (again : Bool) (x k : ℕ) (B : Type') (T : TypedSlots) (y : ℕ) → Distinct T → has y (put x (stay again x k B) T) ≡ cond (nat_eq y x) again (has y T)
  has_behind again x k B T y d =
      has_put x y (stay again x k B) T d
      ∙ behind_has again (nat_eq y x) (has y T) (has y (stay again x k B)) (λ e. ap (λ z. has z (stay again x k B)) (eqb-true y x e) ∙ stay_here again x k B) (λ e. stay_other again x y k B e)

  distinct_behind : (again : Bool) (x k : ℕ) (B : Type') (T : TypedSlots) → Distinct T → Distinct (put x (stay again x k B) T)
  distinct_behind again x k B T d = distinct_put x (stay again x k B) T d (stay_distinct again x k B) (λ y ne h. stay_other again x y k B ne)

  -- operands that are all of the slots
  all_use : (xs : List ℕ) (As : List Type') (j : ℕ) (V : Given) (T : TypedSlots) (k : ℕ) (L : TypedSlots) (C : Context) (m : n.Norm) (A : Type') → AllGiven V xs As → Distinct T → TypedAt j V T → ((y : ℕ) → has y T ≡ among y xs) → Distinct C → AllLow k C → Same C (L ++ T) →
      ((D : Context) → Distinct D → Matched (take_all xs (slots_of T) k).0.names As → Same D (L ++ zip (take_all xs (slots_of T) k).0.names As) → Uses N D m A) →
      Uses N C (share_all (take_all xs (slots_of T) k).0.shares m) A
  all_use [] [] j V T k L C m A g dT ty h d low same next = next C d tt (subst (λ U. Same C (L ++ U)) (none_empty T h) same)
  all_use [] (B ∷ Bs) j V T k L C m A g dT ty h d low same next = absurd g
  all_use (x ∷ xs) [] j V T k L C m A g dT ty h d low same next = absurd g
  all_use (x ∷ xs) (B ∷ Bs) j V T k L C m A g dT ty h d low same next =
      let again = among x xs in
      let t = take_slot again x (slots_of T) k in
      let e = has_find x T (h x ∙ ap (λ b. b || among x xs) (same_number x)) in
      let f = typed_find j V x e.0 T ty e.1 in
      let type : e.0.1 ≡ B = (let q = f.1 in let r = g.0 in cc) in
      let entry : find x T ≡ Some (e.0.0, B) = e.1 ∙ ap (λ z. Some (e.0.0, z)) type in
      let S = stay again x k B in
      let U = put x S T in
      let slots : slots_of U ≡ put x t.0.stay (slots_of T) = slots_put x S T ∙ ap (λ G. put x G (slots_of T)) (stay_slots again x T k B) in
      let Vx : V x ≡ Some B = g.0 in
      let rest : (D : Context) → Distinct D → AllLow t.1 D → Same D (L ++ ((0, (t.0.name, B)) ∷ (S ++ put x [] T))) → Uses N D (share_all (take_all xs (put x t.0.stay (slots_of T)) t.1).0.shares m) A =
      λ D dD lD sD.
      subst (λ G. ((E : Context) → Distinct E → Matched (take_all xs G t.1).0.names Bs → Same E (((0, (t.0.name, B)) ∷ L) ++ zip (take_all xs G t.1).0.names Bs) → Uses N E m A) → Uses N D (share_all (take_all xs G t.1).0.shares m) A) slots
      (all_use xs Bs j V U t.1 ((0, (t.0.name, B)) ∷ L) D m A g.1 (distinct_behind again x k B T dT) (typed_put j V x S T (stay_typed again x k j V B f.0 Vx) ty)
      (λ y. has_behind again x k B T y dT ∙ which y (nat_eq y x) refl (h y)) dD lD
      (record {
        at = λ w.
            omega (arith, sD.at w, sum_two w L ((0, (t.0.name, B)) ∷ (S ++ put x [] T)), sum_two w S (put x [] T), sum_two w L U, weigh_put (λ (z : ℕ × (ℕ × Type')). w z.1) x (e.0.0, B) S T entry, weigh_put (λ (z : ℕ × (ℕ × Type')). w z.1) x (e.0.0, B) [] T entry);
      }))
      (λ E dE mE sE. next E dE mE (record {
        at = λ w.
            omega (arith, sE.at w, sum_two w L (zip (take_all xs (put x t.0.stay (slots_of T)) t.1).0.names Bs), sum_two w L ((0, (t.0.name, B)) ∷ zip (take_all xs (put x t.0.stay (slots_of T)) t.1).0.names Bs));
      })) in
      subst (λ z. Uses N C z A) (sym (share_append t.0.shares (take_all xs (put x t.0.stay (slots_of T)) t.1).0.shares m))
      (take_uses again x T k e.0.0 B entry L C (share_all (take_all xs (put x t.0.stay (slots_of T)) t.1).0.shares m) A d low same rest)
    where
      which : (y : ℕ) (b : Bool) → nat_eq y x ≡ b → has y T ≡ (b || among y xs) → cond b (among x xs) (has y T) ≡ among y xs
      which y true q i = ap (λ z. among z xs) (sym (eqb-true y x q))
      which y false q i = i

  -- what is dropped
  drops : (e : n.Norm) (T L : TypedSlots) (k : ℕ) (C : Context) (m : n.Norm) (A : Type') → Distinct C → AllLow k C → Same C (L ++ T) → ((D : Context) → Distinct D → AllLow k D → Same D (L ++ used e T) → Uses N D m A) → Uses N C (drop_all (unused e (slots_of T)) m) A
  drops e [] L k C m A d low same next = next C d low same
  drops e (t ∷ T) L k C m A d low same next = by (free_in t.0 e) (drops e T) next
    where
      by : (b : Bool) → ((L : TypedSlots) (k : ℕ) (C : Context) (m : n.Norm) (A : Type') → Distinct C → AllLow k C → Same C (L ++ T) → ((D : Context) → Distinct D → AllLow k D → Same D (L ++ used e T) → Uses N D m A) → Uses N C (drop_all (unused e (slots_of T)) m) A) →
          ((D : Context) → Distinct D → AllLow k D → Same D (L ++ cond b (t ∷ used e T) (used e T)) → Uses N D m A) → Uses N C (drop_all (cond b (unused e (slots_of T)) ((t.0, t.1.0) ∷ unused e (slots_of T))) m) A
      by true rest next =
          rest (t ∷ L) k C m A d low
          (record { at = λ w. omega (arith, same.at w, sum_two w L (t ∷ T), sum_two w L T) })
          (λ D dD lD sD. next D dD lD (record { at = λ w. omega (arith, sD.at w, sum_two w L (t ∷ used e T), sum_two w L (used e T)) }))
      by false rest next =
          let c = t.1.0 in
          let B = t.1.1 in
          let there : find c C ≡ Some B = find_hit c B C d (omega (arith, same.at (hit c B), sum_two (hit c B) L (t ∷ T), hit_self c B)) in (
            B,
            there,
            rest L k (put c [] C) m A (distinct_put c [] C d tt (λ y ne q. refl)) (low_put k c [] C tt low)
                (record { at = λ w. omega (arith, same.at w, sum_two w L (t ∷ T), sum_two w L T, weigh_put w c B [] C there) })
                next,
          )

  -- the parts of a Let
  record Parts (a b : n.Norm) (T : TypedSlots) (k j : ℕ) (V : Given) (r : Parted × ℕ) : Type 0 where
    F : TypedSlots
    S : TypedSlots
    first : slots_of F ≡ r.0.first
    second : slots_of S ≡ r.0.second
    has_first : (y : ℕ) → has y F ≡ (free_in y a && has y T)
    has_second : (y : ℕ) → has y S ≡ ((free_in y b || not (free_in y a)) && has y T)
    distinct_first : Distinct F
    distinct_second : Distinct S
    typed_first : TypedAt j V F
    typed_second : TypedAt j V S
    grows : k ≤ r.1
    shares : (L : TypedSlots) (C : Context) (m : n.Norm) (A : Type') → Distinct C → AllLow k C → Same C (L ++ T) → ((D : Context) → Distinct D → AllLow r.1 D → Same D (L ++ (F ++ S)) → Uses N D m A) → Uses N C (share_all r.0.shares m) A

  bool_in : (e f h : Bool) → (e ≡ true → f ≡ true) → (e || (f && h)) ≡ (f && (e || h))
  bool_in true true h q = refl
  bool_in true false h q = let w = q refl in absurd (cc)
  bool_in false f h q = refl

  bool_out : (e f h : Bool) → (e ≡ true → f ≡ false) → (f && h) ≡ (f && (e || h))
  bool_out true true h q = let w = q refl in absurd (cc)
  bool_out true false h q = refl
  bool_out false f h q = refl

  second_bool : Bool → Bool → Bool
  second_bool fb fa = fb || not fa

  parts : (a b : n.Norm) (T : TypedSlots) (k j : ℕ) (V : Given) → Distinct T → TypedAt j V T → Parts a b T k j V (part a b (slots_of T) k)
  parts a b [] k j V d ty = record {
    F = [];
    S = [];
    first = refl;
    second = refl;
    has_first = λ y. sym (and_right (free_in y a) false refl);
    has_second = λ y. sym (and_right (free_in y b || not (free_in y a)) false refl);
    distinct_first = tt;
    distinct_second = tt;
    typed_first = tt;
    typed_second = tt;
    grows = omega arith;
    shares = λ L C m A d low same next. next C d low same;
  }
  parts a b (t ∷ T) k j V d ty = by (free_in t.0 a) refl (free_in t.0 b) refl (parts a b T k j V d.1 ty.2) (parts a b T (k + 2) j V d.1 ty.2)
    where
      at : (y : ℕ) (e : n.Norm) (f : Bool) → free_in t.0 e ≡ f → nat_eq y t.0 ≡ true → free_in y e ≡ f
      at y e f q s = ap (λ z. free_in z e) (eqb-true y t.0 s) ∙ q

      at2 : (y : ℕ) (fa fb : Bool) → free_in t.0 a ≡ fa → free_in t.0 b ≡ fb → nat_eq y t.0 ≡ true → (free_in y b || not (free_in y a)) ≡ (fb || not fa)
      at2 y fa fb p q s = (λ i. at y b fb q s i || not (at y a fa p s i))

      by : (fa : Bool) → free_in t.0 a ≡ fa → (fb : Bool) → free_in t.0 b ≡ fb → Parts a b T k j V (part a b (slots_of T) k) → Parts a b T (k + 2) j V (part a b (slots_of T) (k + 2)) → Parts a b (t ∷ T) k j V (cond fa (cond fb (to_both (t.0, t.1.0) k (part a b (slots_of T) (k + 2))) (to_first (t.0, t.1.0) (part a b (slots_of T) k))) (to_second (t.0, t.1.0) (part a b (slots_of T) k)))
      by true pa true pb plain shared =
          let c = t.1.0 in
          let B = t.1.1 in
          record {
            F = (t.0, (k, B)) ∷ shared.F;
            S = (t.0, (k + 1, B)) ∷ shared.S;
            first = ap (λ G. (t.0, k) ∷ G) shared.first;
            second = ap (λ G. (t.0, k + 1) ∷ G) shared.second;
            has_first = λ y. ap (λ z. nat_eq y t.0 || z) (shared.has_first y) ∙ bool_in (nat_eq y t.0) (free_in y a) (has y T) (at y a true pa);
            has_second = λ y. ap (λ z. nat_eq y t.0 || z) (shared.has_second y) ∙ bool_in (nat_eq y t.0) (free_in y b || not (free_in y a)) (has y T) (at2 y true true pa pb);
            distinct_first = (shared.has_first t.0 ∙ and_right (free_in t.0 a) (has t.0 T) d.0, shared.distinct_first);
            distinct_second = (shared.has_second t.0 ∙ and_right (free_in t.0 b || not (free_in t.0 a)) (has t.0 T) d.0, shared.distinct_second);
            typed_first = (ty.0, ty.1, shared.typed_first);
            typed_second = (ty.0, ty.1, shared.typed_second);
            grows = omega (arith, shared.grows);
            shares = λ L C m A dC low same next.
                let K : Context = (k, B) ∷ (k + 1, B) ∷ [] in
                let there : find c C ≡ Some B = find_hit c B C dC (omega (arith, same.at (hit c B), sum_two (hit c B) L (t ∷ T), hit_self c B)) in
                let D = put c K C in
                let dD : Distinct D = distinct_put c K C dC (ap (λ b. b || false) (other_number k (k + 1) (λ q. omega arith)), (refl, tt)) (λ y ne h. apart_low k y K C low (new_entries_two k B B) h) in
                let lD : AllLow (k + 2) D = low_put (k + 2) c K C (omega arith, (omega arith, tt)) (low_more k (k + 2) C (omega arith) low) in (
                  B,
                  there,
                  new_two k C low,
                  as_opened N c (k ∷ (k + 1) ∷ []) copies_of B C there (share_all (part a b (slots_of T) (k + 2)).0.shares m) A (shared.shares ((t.0, (k, B)) ∷ ((t.0, (k + 1, B)) ∷ L)) D m A dD lD
                      (record { at = λ w. omega (arith, same.at w, sum_two w L (t ∷ T), sum_two w L T, weigh_put w c B K C there) })
                      (λ E dE lE sE. next E dE lE (record {
                        at = λ w.
                            omega (arith, sE.at w, sum_two w L (shared.F ++ shared.S), sum_two w shared.F shared.S, sum_two w L (((t.0, (k, B)) ∷ shared.F) ++ ((t.0, (k + 1, B)) ∷ shared.S)), sum_two w shared.F ((t.0, (k + 1, B)) ∷ shared.S));
                      }))),
                );
          }
      by true pa false pb plain shared =
          record {
            F = t ∷ plain.F;
            S = plain.S;
            first = ap (λ G. (t.0, t.1.0) ∷ G) plain.first;
            second = plain.second;
            has_first = λ y. ap (λ z. nat_eq y t.0 || z) (plain.has_first y) ∙ bool_in (nat_eq y t.0) (free_in y a) (has y T) (at y a true pa);
            has_second = λ y. plain.has_second y ∙ bool_out (nat_eq y t.0) (free_in y b || not (free_in y a)) (has y T) (at2 y true false pa pb);
            distinct_first = (plain.has_first t.0 ∙ and_right (free_in t.0 a) (has t.0 T) d.0, plain.distinct_first);
            distinct_second = plain.distinct_second;
            typed_first = (ty.0, ty.1, plain.typed_first);
            typed_second = plain.typed_second;
            grows = plain.grows;
            shares = λ L C m A dC low same next.
                plain.shares (t ∷ L) C m A dC low
                (record { at = λ w. omega (arith, same.at w, sum_two w L (t ∷ T), sum_two w L T) })
                (λ E dE lE sE. next E dE lE (record { at = λ w. omega (arith, sE.at w, sum_two w L (plain.F ++ plain.S), sum_two w L ((t ∷ plain.F) ++ plain.S)) }));
          }
      by false pa fb pb plain shared =
          record {
            F = plain.F;
            S = t ∷ plain.S;
            first = plain.first;
            second = ap (λ G. (t.0, t.1.0) ∷ G) plain.second;
            has_first = λ y. plain.has_first y ∙ bool_out (nat_eq y t.0) (free_in y a) (has y T) (at y a false pa);
            has_second = λ y. ap (λ z. nat_eq y t.0 || z) (plain.has_second y) ∙ bool_in (nat_eq y t.0) (free_in y b || not (free_in y a)) (has y T) (λ s. at2 y false fb pa pb s ∙ last fb);
            distinct_first = plain.distinct_first;
            distinct_second = (plain.has_second t.0 ∙ and_right (free_in t.0 b || not (free_in t.0 a)) (has t.0 T) d.0, plain.distinct_second);
            typed_first = plain.typed_first;
            typed_second = (ty.0, ty.1, plain.typed_second);
            grows = plain.grows;
            shares = λ L C m A dC low same next.
                plain.shares (t ∷ L) C m A dC low
                (record { at = λ w. omega (arith, same.at w, sum_two w L (t ∷ T), sum_two w L T) })
                (λ E dE lE sE. next E dE lE (record { at = λ w. omega (arith, sE.at w, sum_two w L (plain.F ++ plain.S), sum_two w plain.F plain.S, sum_two w L (plain.F ++ (t ∷ plain.S)), sum_two w plain.F (t ∷ plain.S)) }));
          }
        where
          last : (fb : Bool) → (fb || not false) ≡ true
          last true = refl
          last false = refl

  -- slots and a context that fit each other
  pub record Ready (j k : ℕ) (V : Given) (T : TypedSlots) (C : Context) : Type 0 where
    pub slots : Distinct T
    pub typed : TypedAt j V T
    pub single : Distinct C
    pub low : AllLow k C
    pub same : Same C T

  abbrev AllHigh : ℕ → TypedSlots → Type 0
  AllHigh j [] = Unit {0}
  AllHigh j (t ∷ T) = (j ≤ t.0) × AllHigh j T

  high_absent : (j y : ℕ) (H : TypedSlots) → AllHigh j H → y < j → has y H ≡ false
  high_absent j y [] h lt = refl
  high_absent j y (t ∷ H) h lt = (λ i. other_number y t.0 (λ q. omega (arith, h.0)) i || has y H) ∙ high_absent j y H h.1 lt

  entry_of : (x : ℕ) (T : TypedSlots) (j : ℕ) (V : Given) (B : Type') → TypedAt j V T → has x T ≡ true → V x ≡ Some B → (c : ℕ) × (find x T ≡ Some (c, B)) × (x < j)
  entry_of x T j V B ty h v =
      let e = has_find x T h in
      let f = typed_find j V x e.0 T ty e.1 in
      let type : e.0.1 ≡ B = (let q = f.1 in cc) in
      (e.0.0, e.1 ∙ ap (λ z. Some (e.0.0, z)) type, f.0)

  -- new entries in place of a variable that is used up
  ready_put : (again : Bool) (x : ℕ) (T : TypedSlots) (k c : ℕ) (B : Type') → find x T ≡ Some (c, B) → (j i d e : ℕ) (V W : Given) (H : TypedSlots) (K D : Context) (name : ℕ) → Distinct T → TypedAt j V T → x < j → V x ≡ Some B → j ≤ i → ((y : ℕ) → y < j → W y ≡ V y) → AllHigh j H → Distinct H → TypedAt i W H → Distinct D → AllLow d D → Same D ((0, (name, B)) ∷ (stay again x k B ++ put x [] T)) → Distinct K → ((z : ℕ) → z < d → has z K ≡ false) → AllLow e K → d ≤ e → Same K H → (find name D ≡ Some B) × Ready i e W (put x (H ++ stay again x k B) T) (put name K D)
  ready_put again x T k c B f j i d e V W H K D name dT ty lt Vx le keep high dH tH dD lD sD dK new lK de sK =
      let S = stay again x k B in
      let there : find name D ≡ Some B = find_hit name B D dD (omega (arith, sD.at (hit name B), hit_self name B)) in (
        there,
        record {
          slots = distinct_put x (H ++ S) T dT
              (distinct_append H S dH (stay_distinct again x k B) (λ y h. stay_other again x y k B (other_number y x (λ q. let z : has x H ≡ true = ap (λ u. has u H) (sym q) ∙ h in let w = high_absent j x H high lt in absurd (cc)))))
              (λ y ne h. has_append y H S ∙ (λ q. high_absent j y H high (typed_low j V y T ty h) q || stay_other again x y k B ne q));
          typed = typed_put i W x (H ++ S) T (typed_append i W H S tH (stay_typed again x k i W B (omega arith) (keep x lt ∙ Vx))) (typed_more j i V W T le keep ty);
          single = distinct_put name K D dD dK (λ y ne h. apart_low d y K D lD new h);
          low = low_put e name K D lK (low_more d e D de lD);
          same = record {
            at = λ w.
                omega (arith, sD.at w, sum_two w S (put x [] T), sK.at w, sum_two w H S, weigh_put (λ (z : ℕ × (ℕ × Type')). w z.1) x (c, B) [] T f, weigh_put (λ (z : ℕ × (ℕ × Type')). w z.1) x (c, B) (H ++ S) T f, weigh_put w name B K D there);
          };
        },
      )

  covers_bool : (h s e t : Bool) → (e ≡ true → s ≡ true) → (h ≡ false → e ≡ false → t ≡ true) → ((h || s) || (not e && t)) ≡ true
  covers_bool true s e t p q = refl
  covers_bool false true e t p q = refl
  covers_bool false false true t p q = let w = p refl in absurd (cc)
  covers_bool false false false t p q = q refl refl

  covers_put : (again : Bool) (x k : ℕ) (B : Type') (H T : TypedSlots) (y : ℕ) → Distinct T → (nat_eq y x ≡ true → again ≡ true) → (has y H ≡ false → nat_eq y x ≡ false → has y T ≡ true) → has y (put x (H ++ stay again x k B) T) ≡ true
  covers_put again x k B H T y d p q =
      let S = stay again x k B in
      has_put x y (H ++ S) T d ∙ (λ i. has_append y H S i || (not (nat_eq y x) && has y T))
      ∙ covers_bool (has y H) (has y S) (nat_eq y x) (has y T) (λ e. ap (λ z. has z S) (eqb-true y x e) ∙ stay_here again x k B ∙ p e) q

  -- a form with slots that are all free in it, and with any slots
  abbrev pub Exact : n.Norm → Type 0
  Exact o = (j k : ℕ) (V : Given) (T : TypedSlots) (C : Context) (A : Type') → Levels j o → OfType N V o A → Ready j k V T C → ((y : ℕ) → has y T ≡ free_in y o) → Uses N C (two o (slots_of T) k).0 A

  abbrev pub Serves : n.Norm → Type 0
  Serves o = (j k : ℕ) (V : Given) (T : TypedSlots) (C : Context) (A : Type') → Levels j o → OfType N V o A → Ready j k V T C → ((y : ℕ) → free_in y o ≡ true → has y T ≡ true) → Uses N C (around o (two o) (slots_of T) k).0 A

  all_bool : (f h : Bool) → (f ≡ true → h ≡ true) → (f && h) ≡ f
  all_bool true h q = q refl
  all_bool false h q = refl

  pub serves : (o : n.Norm) → Exact o → Serves o
  serves o exact j k V T C A lv ot r covers =
      drops o T [] k C (two o (used o (slots_of T)) k).0 A r.single r.low r.same
      (λ D dD lD sD.
      subst (λ G. Uses N D (two o G k).0 A) (slots_used o T)
      (exact j k V (used o T) D A lv ot (record { slots = distinct_used o T r.slots; typed = typed_used j V o T r.typed; single = dD; low = lD; same = sD })
      (λ y. has_used o y T ∙ all_bool (free_in y o) (has y T) (covers y))))

  -- operands
  over_uses : (f : List ℕ → n.Norm) (xs : List ℕ) (As : List Type') (j k : ℕ) (V : Given) (T : TypedSlots) (C : Context) (A : Type') → AllGiven V xs As → Ready j k V T C → ((y : ℕ) → has y T ≡ among y xs) → ((D : Context) → Takes D (take_all xs (slots_of T) k).0.names As → Uses N D (f (take_all xs (slots_of T) k).0.names) A) → Uses N C (over f xs (slots_of T) k).0 A
  over_uses f xs As j k V T C A g r h next =
      all_use xs As j V T k [] C (f (take_all xs (slots_of T) k).0.names) A g r.slots r.typed h r.single r.low r.same
      (λ D dD mD sD. next D (takes_from (take_all xs (slots_of T) k).0.names As D mD dD sD))

  none_use : (j k : ℕ) (V : Given) (T : TypedSlots) (C : Context) → Ready j k V T C → ((y : ℕ) → has y T ≡ false) → Takes C [] []
  none_use j k V T C r h = empty_is C (r.same.at (λ e. 1) ∙ ap (load (λ e. 1)) (none_empty T h))

  not_or : (a b : Bool) → a ≡ false → b ≡ false → not (a || b) ≡ true
  not_or true b h i = absurd (cc)
  not_or false true h i = absurd (cc)
  not_or false false h i = refl

  -- types that are given below a number stay
  pub more_low : (V : Given) (j p : ℕ) (A : Type') → j ≤ p → (y : ℕ) → y < j → more V p A y ≡ V y
  more_low V j p A le y lt = ap (λ b. cond b (Some A) (V y)) (other_number y p (λ q. omega arith))

  pub more_is : (V : Given) (p : ℕ) (A : Type') → more V p A p ≡ Some A
  more_is V p A = ap (λ b. cond b (Some A) (V p)) (same_number p)

  more_past : (V : Given) (p q : ℕ) (B : Type') → p < q → more V q B p ≡ V p
  more_past V p q B lt = ap (λ b. cond b (Some B) (V p)) (other_number p q (λ e. omega arith))

  low_of : (k : ℕ) (C : Context) → ((c : ℕ) → k ≤ c → weigh (one_at c) C ≡ 0) → AllLow k C
  low_of k [] h = tt
  low_of k (s ∷ C) h =
      let own : one_at s.0 s ≡ 1 = ap (λ b. cond b 1 0) (same_number s.0) in
      (⊎_elim (λ lt. lt) (λ le. let none = h s.0 le in absurd (omega (arith, own))) (cases_lt s.0 k), low_of k C (λ c le. omega (arith, h c le)))

  load_as : (v w : ℕ × Type' → ℕ) (F : TypedSlots) → ((s : ℕ × Type') → has s.0 (context_of F) ≡ true → v s ≡ w s) → load v F ≡ load w F
  load_as v w [] h = refl
  load_as v w (t ∷ F) h =
      (λ i. h t.1 (ap (λ b. b || has t.1.0 (context_of F)) (same_number t.1.0)) i + load_as v w F (λ s q. h s (or_right (nat_eq s.0 t.1.0) (has s.0 (context_of F)) q)) i)

  load_zero : (F : TypedSlots) → load (λ s. 0) F ≡ 0
  load_zero [] = refl
  load_zero (t ∷ F) = (λ i. 0 + load_zero F i)

  -- The two parts of a context at a Let: what is free in the form of the first part, and the rest.
  record Divided (a : n.Norm) (D : Context) (k j : ℕ) (V : Given) (F S : TypedSlots) : Type 0 where
    first : Ready j k V F (used a D)
    second : Ready j k V S (unused a D)

  divided : (a : n.Norm) (A : Type') (D : Context) (k j : ℕ) (V : Given) (F S : TypedSlots) → Distinct D → AllLow k D → Same D (F ++ S) → Distinct F → Distinct S → TypedAt j V F → TypedAt j V S → (Ready j k V F (context_of F) → Uses N (context_of F) a A) → Divided a D k j V F S
  divided a A D k j V F S dD lD sD dF dS tF tS uses =
      let once : (c : ℕ) → load (one_at c) F + load (one_at c) S ≤ 1 = λ c. omega (arith, sD.at (one_at c), sum_two (one_at c) F S, distinct_once c D dD) in
      let cF = context_same F in
      let cS = context_same S in
      let dC : Distinct (context_of F) = once_distinct (context_of F) (λ c. omega (arith, cF.at (one_at c), once c)) in
      let lC : AllLow k (context_of F) = low_of k (context_of F) (λ c le. omega (arith, cF.at (one_at c), sD.at (one_at c), sum_two (one_at c) F S, absent_none c D (low_absent k c D lD le))) in
      let free = uses_free N a (context_of F) A dC (uses (record { slots = dF; typed = tF; single = dC; low = lC; same = cF })) in
      let yes : (c : ℕ) → has c (context_of F) ≡ true → free_in c a ≡ true = λ c h. sym (free c) ∙ h in
      let no' : (c : ℕ) → has c (context_of S) ≡ true → free_in c a ≡ false = λ c h. sym (free c) ∙ gone c h (has c (context_of F)) refl (once c) in
      record {
        first = record {
          slots = dF;
          typed = tF;
          single = distinct_used a D dD;
          low = low_used k a D lD;
          same = record {
            at = λ w.
                let f = load_as (λ s. cond (free_in s.0 a) (w s) 0) w F (λ s q. ap (λ b. cond b (w s) 0) (yes s.0 q)) in
                let s = load_as (λ s. cond (free_in s.0 a) (w s) 0) (λ s. 0) S (λ s q. ap (λ b. cond b (w s) 0) (no' s.0 q)) ∙ load_zero S in
                omega (arith, weigh_used w a D, sD.at (λ s. cond (free_in s.0 a) (w s) 0), sum_two (λ s. cond (free_in s.0 a) (w s) 0) F S, f, s);
          };
        };
        second = record {
          slots = dS;
          typed = tS;
          single = distinct_unused a D dD;
          low = low_unused k a D lD;
          same = record {
            at = λ w.
                let f = load_as (λ s. cond (free_in s.0 a) 0 (w s)) (λ s. 0) F (λ s q. ap (λ b. cond b 0 (w s)) (yes s.0 q)) ∙ load_zero F in
                let s = load_as (λ s. cond (free_in s.0 a) 0 (w s)) w S (λ s q. ap (λ b. cond b 0 (w s)) (no' s.0 q)) in
                omega (arith, weigh_unused w a D, sD.at (λ s. cond (free_in s.0 a) 0 (w s)), sum_two (λ s. cond (free_in s.0 a) 0 (w s)) F S, f, s);
          };
        };
      }
    where
      gone : (c : ℕ) → has c (context_of S) ≡ true → (b : Bool) → has c (context_of F) ≡ b → load (one_at c) F + load (one_at c) S ≤ 1 → b ≡ false
      gone c h true q le =
          let f = has_once c (context_of F) q in
          let s = has_once c (context_of S) h in
          let cF = context_same F in
          let cS = context_same S in
          absurd (omega (arith, cF.at (one_at c), cS.at (one_at c)))
      gone c h false q le = refl

  -- no new entries, one, two, and three
  none_ready : (again : Bool) (x : ℕ) (T : TypedSlots) (k c : ℕ) (B : Type') → find x T ≡ Some (c, B) → (j d e : ℕ) (V : Given) (D : Context) (name : ℕ) → Distinct T → TypedAt j V T → x < j → V x ≡ Some B → Distinct D → AllLow d D → Same D ((0, (name, B)) ∷ (stay again x k B ++ put x [] T)) → d ≤ e → (find name D ≡ Some B) × Ready j e V (put x (stay again x k B) T) (put name [] D)
  none_ready again x T k c B f j d e V D name dT ty lt Vx dD lD sD de =
      ready_put again x T k c B f j j d e V V [] [] D name dT ty lt Vx (omega arith) (λ y l. refl) tt tt tt dD lD sD tt (λ z l. refl) tt de (record { at = λ w. refl })

  one_ready : (again : Bool) (x : ℕ) (T : TypedSlots) (k c : ℕ) (B : Type') → find x T ≡ Some (c, B) → (j d e : ℕ) (V : Given) (p : ℕ) (P : Type') (D : Context) (name : ℕ) → Distinct T → TypedAt j V T → x < j → V x ≡ Some B → j ≤ p → Distinct D → AllLow d D → Same D ((0, (name, B)) ∷ (stay again x k B ++ put x [] T)) → d + 1 ≤ e → (find name D ≡ Some B) × Ready (p + 1) e (more V p P) (put x ((p, (d, P)) ∷ stay again x k B) T) (put name ((d, P) ∷ []) D)
  one_ready again x T k c B f j d e V p P D name dT ty lt Vx jp dD lD sD de =
      ready_put again x T k c B f j (p + 1) d e V (more V p P) ((p, (d, P)) ∷ []) ((d, P) ∷ []) D name dT ty lt Vx (omega arith)
      (λ y l. more_low V j p P jp y l)
      (jp, tt) (refl, tt)
      (omega arith, more_is V p P, tt)
      dD lD sD (refl, tt)
      (λ z l. (λ i. other_number z d (λ u. omega arith) i || false)) (omega arith, tt) (omega arith) (record { at = λ w. refl })

  two_ready : (again : Bool) (x : ℕ) (T : TypedSlots) (k c : ℕ) (B : Type') → find x T ≡ Some (c, B) → (j d e : ℕ) (V : Given) (p q : ℕ) (P Q : Type') (D : Context) (name : ℕ) → Distinct T → TypedAt j V T → x < j → V x ≡ Some B → j ≤ p → p < q → Distinct D → AllLow d D → Same D ((0, (name, B)) ∷ (stay again x k B ++ put x [] T)) → d + 2 ≤ e → (find name D ≡ Some B) × Ready (q + 1) e (more (more V p P) q Q) (put x ((p, (d, P)) ∷ ((q, (d + 1, Q)) ∷ stay again x k B)) T) (put name ((d, P) ∷ (d + 1, Q) ∷ []) D)
  two_ready again x T k c B f j d e V p q P Q D name dT ty lt Vx jp pq dD lD sD de =
      ready_put again x T k c B f j (q + 1) d e V (more (more V p P) q Q) ((p, (d, P)) ∷ ((q, (d + 1, Q)) ∷ [])) ((d, P) ∷ ((d + 1, Q) ∷ [])) D name dT ty lt Vx (omega arith)
      (λ y l. more_low (more V p P) j q Q (omega arith) y l ∙ more_low V j p P jp y l)
      (jp, (omega arith, tt))
      (ap (λ b. b || false) (other_number p q (λ z. omega arith)), (refl, tt))
      (omega arith, more_past (more V p P) p q Q pq ∙ more_is V p P, (omega arith, more_is (more V p P) q Q, tt))
      dD lD sD
      (ap (λ b. b || false) (other_number d (d + 1) (λ z. omega arith)), (refl, tt))
      (new_entries_two d P Q) (omega arith, (omega arith, tt)) (omega arith) (record { at = λ w. refl })

  three_ready : (again : Bool) (x : ℕ) (T : TypedSlots) (k c : ℕ) (B : Type') → find x T ≡ Some (c, B) → (j d e : ℕ) (V : Given) (p q s : ℕ) (P Q S : Type') (D : Context) (name : ℕ) → Distinct T → TypedAt j V T → x < j → V x ≡ Some B → j ≤ p → p < q → q < s → Distinct D → AllLow d D → Same D ((0, (name, B)) ∷ (stay again x k B ++ put x [] T)) → d + 3 ≤ e → (find name D ≡ Some B) × Ready (s + 1) e (more (more (more V p P) q Q) s S) (put x ((p, (d, P)) ∷ ((q, (d + 1, Q)) ∷ ((s, (d + 2, S)) ∷ stay again x k B))) T) (put name ((d, P) ∷ (d + 1, Q) ∷ (d + 2, S) ∷ []) D)
  three_ready again x T k c B f j d e V p q s P Q S D name dT ty lt Vx jp pq qs dD lD sD de =
      let V2 = more (more V p P) q Q in
      ready_put again x T k c B f j (s + 1) d e V (more V2 s S) ((p, (d, P)) ∷ ((q, (d + 1, Q)) ∷ ((s, (d + 2, S)) ∷ []))) ((d, P) ∷ ((d + 1, Q) ∷ ((d + 2, S) ∷ []))) D name dT ty lt Vx (omega arith)
      (λ y l. more_low V2 j s S (omega arith) y l ∙ more_low (more V p P) j q Q (omega arith) y l ∙ more_low V j p P jp y l)
      (jp, (omega arith, (omega arith, tt)))
      ((λ i. other_number p q (λ z. omega arith) i || (other_number p s (λ z. omega arith) i || false)), (ap (λ b. b || false) (other_number q s (λ z. omega arith)), (refl, tt)))
      (omega arith, more_past V2 p s S (omega arith) ∙ more_past (more V p P) p q Q pq ∙ more_is V p P, (omega arith, more_past V2 q s S qs ∙ more_is (more V p P) q Q, (omega arith, more_is V2 s S, tt)))
      dD lD sD
      ((λ i. other_number d (d + 1) (λ z. omega arith) i || (other_number d (d + 2) (λ z. omega arith) i || false)), (ap (λ b. b || false) (other_number (d + 1) (d + 2) (λ z. omega arith)), (refl, tt)))
      (λ z l. (λ i. other_number z d (λ u. omega arith) i || (other_number z (d + 1) (λ u. omega arith) i || (other_number z (d + 2) (λ u. omega arith) i || false))))
      (omega arith, (omega arith, (omega arith, tt))) (omega arith) (record { at = λ w. refl })

  not_or_three : (a b c : Bool) → (a || (b || (c || false))) ≡ false → not (a || (b || c)) ≡ true
  not_or_three true b c h = absurd (cc)
  not_or_three false true c h = absurd (cc)
  not_or_three false false true h = absurd (cc)
  not_or_three false false false h = refl

  not_or_one : (a : Bool) → (a || false) ≡ false → not a ≡ true
  not_or_one true h = absurd (cc)
  not_or_one false h = refl

  not_or_two : (a b : Bool) → (a || (b || false)) ≡ false → not (a || b) ≡ true
  not_or_two true b h = absurd (cc)
  not_or_two false true h = absurd (cc)
  not_or_two false false h = refl

  pub exact_uses : (o : n.Norm) → Exact o
  exact_uses (n.Var i x) j k V T C A lv ot r h = over_uses (of_one (n.Var i)) (x ∷ []) (A ∷ []) j k V T C A ot r h (λ D t. t)
  exact_uses (n.Number i v) j k V T C A lv ot r h = (ot.0, ot.1, none_use j k V T C r h)
  exact_uses (n.Truth i b) j k V T C A lv ot r h = (ot, none_use j k V T C r h)
  exact_uses (n.Nil i) j k V T C A lv ot r h = (ot, none_use j k V T C r h)
  exact_uses (n.Leaf i) j k V T C A lv ot r h = (ot, none_use j k V T C r h)
  exact_uses (n.Nothing i) j k V T C A lv ot r h = (ot, none_use j k V T C r h)
  exact_uses (n.Arith i op x y) j k V T C A lv ot r h = over_uses (of_two (n.Arith i op)) (x ∷ y ∷ []) (Integer ∷ Integer ∷ []) j k V T C A ot.1 r h (λ D t. (ot.0, t))
  exact_uses (n.Compare i op x y) j k V T C A lv ot r h = over_uses (of_two (n.Compare i op)) (x ∷ y ∷ []) (Integer ∷ Integer ∷ []) j k V T C A ot.1 r h (λ D t. (ot.0, t))
  exact_uses (n.Not i x) j k V T C A lv ot r h = over_uses (of_one (n.Not i)) (x ∷ []) (Boolean ∷ []) j k V T C A ot.1 r h (λ D t. (ot.0, t))
  exact_uses (n.Pair i x y) j k V T C A lv ot r h = over_uses (of_two (n.Pair i)) (x ∷ y ∷ []) (ot.0 ∷ ot.1 ∷ []) j k V T C A ot.3 r h (λ D t. (ot.0, ot.1, ot.2, t))
  exact_uses (n.Cons i x y) j k V T C A lv ot r h = over_uses (of_two (n.Cons i)) (x ∷ y ∷ []) (ot.0 ∷ ListOf ot.0 ∷ []) j k V T C A ot.2 r h (λ D t. (ot.0, ot.1, t))
  exact_uses (n.Node i x y z) j k V T C A lv ot r h = over_uses (of_three (n.Node i)) (x ∷ y ∷ z ∷ []) (ot.0 ∷ TreeOf ot.0 ∷ TreeOf ot.0 ∷ []) j k V T C A ot.2 r h (λ D t. (ot.0, ot.1, t))
  exact_uses (n.Just i x) j k V T C A lv ot r h = over_uses (of_one (n.Just i)) (x ∷ []) (ot.0 ∷ []) j k V T C A ot.2 r h (λ D t. (ot.0, ot.1, t))
  exact_uses (n.Call i f xs) j k V T C A lv ot r h = over_uses (n.Call i f) xs (types_of ot.0) j k V T C A ot.3 r h (λ D t. (ot.0, ot.1, ot.2, t))
  exact_uses (n.Let i x B a b) j k V T C A lv ot r h =
      let p = parts a b T k j V r.slots r.typed in
      let c = (part a b (slots_of T) k).1 in
      let ra = around a (two a) (part a b (slots_of T) k).0.first (c + 1) in
      let covers_a : (y : ℕ) → free_in y a ≡ true → has y p.F ≡ true = λ y f. p.has_first y ∙ and_from _ _ f (h y ∙ or_left _ _ f) in
      let serve_a : (E : Context) → Ready j (c + 1) V p.F E → Uses N E ra.0 B =
      λ E rE. subst (λ G. Uses N E (around a (two a) G (c + 1)).0 B) p.first (serves a (exact_uses a) j (c + 1) V p.F E B lv.1 ot.0 rE covers_a) in
      let W = more V x B in
      let S = p.S ++ (x, (c, B)) ∷ [] in
      let slots : slots_of S ≡ (part a b (slots_of T) k).0.second ++ slot x c ∷ [] = slots_append p.S ((x, (c, B)) ∷ []) ∙ ap (λ G. G ++ slot x c ∷ []) p.second in
      p.shares [] C (n.Let i c B ra.0 (around b (two b) ((part a b (slots_of T) k).0.second ++ slot x c ∷ []) ra.1).0) A r.single r.low r.same
      (λ D dD lD sD.
      let q = divided ra.0 B D (c + 1) j V p.F p.S dD (low_more c (c + 1) D (omega arith) lD) sD p.distinct_first p.distinct_second p.typed_first p.typed_second (serve_a (context_of p.F)) in
      let C' = unused ra.0 D ++ (c, B) ∷ [] in
      let le : c + 1 ≤ ra.1 = two_grows a (used a (part a b (slots_of T) k).0.first) (c + 1) in
      let rb : Ready (x + 1) ra.1 W S C' = record {
        slots = distinct_append p.S ((x, (c, B)) ∷ []) p.distinct_second (refl, tt) (λ y s. (λ z. other_number y x (λ e. let l = typed_low j V y p.S p.typed_second s in omega (arith, lv.0)) z || false));
        typed = typed_append (x + 1) W p.S ((x, (c, B)) ∷ []) (typed_more j (x + 1) V W p.S (omega (arith, lv.0)) (more_low V j x B lv.0) p.typed_second) (omega arith, more_is V x B, tt);
        single = distinct_append (unused ra.0 D) ((c, B) ∷ []) (distinct_unused ra.0 D dD) (refl, tt) (λ y s. apart_low c y ((c, B) ∷ []) (unused ra.0 D) (low_unused c ra.0 D lD) (λ z lt. (λ u. other_number z c (λ e. omega arith) u || false)) s);
        low = low_append ra.1 (unused ra.0 D) ((c, B) ∷ []) (low_more c ra.1 (unused ra.0 D) (omega arith) (low_unused c ra.0 D lD)) (omega arith, tt);
        same = record { at = λ w. omega (arith, weigh_append w (unused ra.0 D) ((c, B) ∷ []), q.second.same.at w, sum_two w p.S ((x, (c, B)) ∷ [])) };
      } in (
        new_one c D lD,
        serve_a (used ra.0 D) q.first,
        subst (λ G. Uses N C' (around b (two b) G ra.1).0 A) slots
            (serves b (exact_uses b) (x + 1) ra.1 W S C' A lv.2 ot.1 rb
            (λ y f. has_append y p.S ((x, (c, B)) ∷ []) ∙ covers_b y f (nat_eq y x) refl (p.has_second y) (h y))),
      ))
    where
      covers_b : (y : ℕ) → free_in y b ≡ true → (e : Bool) → nat_eq y x ≡ e → {s : Bool} → s ≡ ((free_in y b || not (free_in y a)) && has y T) → has y T ≡ (free_in y a || (not e && free_in y b)) → (s || (e || false)) ≡ true
      covers_b y f true q {s} u v = or_right s (true || false) refl
      covers_b y f false q {s} u v = or_left s (false || false) (u ∙ and_from _ _ (or_left _ _ f) (v ∙ or_right (free_in y a) (not false && free_in y b) f))
  exact_uses (n.Split i x p q a) j k V T C A lv ot r h =
      let again = free_in x a in
      let t = take_slot again x (slots_of T) k in
      let B = PairOf ot.0 ot.1 in
      let e = entry_of x T j V B r.typed (h x ∙ or_left (nat_eq x x) _ (same_number x)) ot.2 in
      let c = t.1 in
      let H : TypedSlots = (p, (c, ot.0)) ∷ ((q, (c + 1, ot.1)) ∷ []) in
      let U = put x (H ++ stay again x k B) T in
      let slots : slots_of U ≡ put x (slot p c ∷ slot q (c + 1) ∷ t.0.stay) (slots_of T) = slots_put x (H ++ stay again x k B) T ∙ ap (λ G. put x (slot p c ∷ slot q (c + 1) ∷ G) (slots_of T)) (stay_slots again x T k B) in
      take_uses again x T k e.0 B e.1 [] C (n.Split i t.0.name c (c + 1) (around a (two a) (put x (slot p c ∷ slot q (c + 1) ∷ t.0.stay) (slots_of T)) (c + 2)).0) A r.single r.low r.same
      (λ D dD lD sD.
      let g = two_ready again x T k e.0 B e.1 j c (c + 2) V p q ot.0 ot.1 D t.0.name r.slots r.typed e.2 ot.2 lv.1 lv.2 dD lD sD (omega arith) in (
        ot.0,
        ot.1,
        g.0,
        new_two c D lD,
        as_opened N t.0.name (c ∷ (c + 1) ∷ []) parts_of B D g.0 (around a (two a) (put x (slot p c ∷ slot q (c + 1) ∷ t.0.stay) (slots_of T)) (c + 2)).0 A
            (subst (λ G. Uses N (put t.0.name ((c, ot.0) ∷ (c + 1, ot.1) ∷ []) D) (around a (two a) G (c + 2)).0 A) slots
            (serves a (exact_uses a) (q + 1) (c + 2) (more (more V p ot.0) q ot.1) U (put t.0.name ((c, ot.0) ∷ (c + 1, ot.1) ∷ []) D) A lv.3 ot.3 g.1
            (λ y f. covers_put again x k B H T y r.slots (λ s. ap (λ z. free_in z a) (sym (eqb-true y x s)) ∙ f)
            (λ hn ne. h y ∙ or_right (nat_eq y x) _ (and_from _ _ (not_or_two (nat_eq y p) (nat_eq y q) hn) f))))),
      ))
  exact_uses (n.If i x a b) j k V T C A lv ot r h =
      let again = free_in x a || free_in x b in
      let t = take_slot again x (slots_of T) k in
      let e = entry_of x T j V Boolean r.typed (h x ∙ or_left (nat_eq x x) _ (same_number x)) ot.0 in
      let U = put x (stay again x k Boolean) T in
      let slots : slots_of U ≡ put x t.0.stay (slots_of T) = slots_put x (stay again x k Boolean) T ∙ ap (λ G. put x G (slots_of T)) (stay_slots again x T k Boolean) in
      let ra = around a (two a) (put x t.0.stay (slots_of T)) t.1 in
      let le : t.1 ≤ ra.1 = two_grows a (used a (put x t.0.stay (slots_of T))) t.1 in
      take_uses again x T k e.0 Boolean e.1 [] C (n.If i t.0.name ra.0 (around b (two b) (put x t.0.stay (slots_of T)) ra.1).0) A r.single r.low r.same
      (λ D dD lD sD.
      let g = none_ready again x T k e.0 Boolean e.1 j t.1 t.1 V D t.0.name r.slots r.typed e.2 ot.0 dD lD sD (omega arith) in
      let g' = none_ready again x T k e.0 Boolean e.1 j t.1 ra.1 V D t.0.name r.slots r.typed e.2 ot.0 dD lD sD le in (
        g.0,
        subst (λ G. Uses N (put t.0.name [] D) (around a (two a) G t.1).0 A) slots
            (serves a (exact_uses a) j t.1 V U (put t.0.name [] D) A lv.1 ot.1 g.1
            (λ y f. covers_put again x k Boolean [] T y r.slots (λ s. or_left _ _ (ap (λ z. free_in z a) (sym (eqb-true y x s)) ∙ f)) (λ hn ne. h y ∙ or_right (nat_eq y x) _ (or_left _ _ f)))),
        subst (λ G. Uses N (put t.0.name [] D) (around b (two b) G ra.1).0 A) slots
            (serves b (exact_uses b) j ra.1 V U (put t.0.name [] D) A lv.2 ot.2 g'.1
            (λ y f. covers_put again x k Boolean [] T y r.slots (λ s. or_right (free_in x a) _ (ap (λ z. free_in z b) (sym (eqb-true y x s)) ∙ f)) (λ hn ne. h y ∙ or_right (nat_eq y x) _ (or_right (free_in y a) _ f)))),
      ))
  exact_uses (n.CaseList i x a p q b) j k V T C A lv ot r h =
      let again = free_in x a || free_in x b in
      let t = take_slot again x (slots_of T) k in
      let B = ListOf ot.0 in
      let e = entry_of x T j V B r.typed (h x ∙ or_left (nat_eq x x) _ (same_number x)) ot.1 in
      let c = t.1 in
      let H : TypedSlots = (p, (c, ot.0)) ∷ ((q, (c + 1, B)) ∷ []) in
      let U = put x (stay again x k B) T in
      let I = put x (H ++ stay again x k B) T in
      let slots : slots_of U ≡ put x t.0.stay (slots_of T) = slots_put x (stay again x k B) T ∙ ap (λ G. put x G (slots_of T)) (stay_slots again x T k B) in
      let slots' : slots_of I ≡ put x (slot p c ∷ slot q (c + 1) ∷ t.0.stay) (slots_of T) = slots_put x (H ++ stay again x k B) T ∙ ap (λ G. put x (slot p c ∷ slot q (c + 1) ∷ G) (slots_of T)) (stay_slots again x T k B) in
      let ra = around a (two a) (put x t.0.stay (slots_of T)) (c + 2) in
      let le : c + 2 ≤ ra.1 = two_grows a (used a (put x t.0.stay (slots_of T))) (c + 2) in
      let K : Context = (c, ot.0) ∷ (c + 1, B) ∷ [] in
      take_uses again x T k e.0 B e.1 [] C (n.CaseList i t.0.name ra.0 c (c + 1) (around b (two b) (put x (slot p c ∷ slot q (c + 1) ∷ t.0.stay) (slots_of T)) ra.1).0) A r.single r.low r.same
      (λ D dD lD sD.
      let g = none_ready again x T k e.0 B e.1 j c (c + 2) V D t.0.name r.slots r.typed e.2 ot.1 dD lD sD (omega arith) in
      let g' = two_ready again x T k e.0 B e.1 j c ra.1 V p q ot.0 B D t.0.name r.slots r.typed e.2 ot.1 lv.2 lv.3 dD lD sD le in (
        ot.0,
        g.0,
        new_two c D lD,
        subst (λ G. Uses N (put t.0.name [] D) (around a (two a) G (c + 2)).0 A) slots
            (serves a (exact_uses a) j (c + 2) V U (put t.0.name [] D) A lv.1 ot.2 g.1
            (λ y f. covers_put again x k B [] T y r.slots (λ s. or_left _ _ (ap (λ z. free_in z a) (sym (eqb-true y x s)) ∙ f)) (λ hn ne. h y ∙ or_right (nat_eq y x) _ (or_left _ _ f)))),
        as_opened N t.0.name (c ∷ (c + 1) ∷ []) parts_of B D g.0 (around b (two b) (put x (slot p c ∷ slot q (c + 1) ∷ t.0.stay) (slots_of T)) ra.1).0 A
            (subst (λ G. Uses N (put t.0.name K D) (around b (two b) G ra.1).0 A) slots'
            (serves b (exact_uses b) (q + 1) ra.1 (more (more V p ot.0) q B) I (put t.0.name K D) A lv.4 ot.3 g'.1
            (λ y f. covers_put again x k B H T y r.slots (λ s. or_right (free_in x a) _ (ap (λ z. free_in z b) (sym (eqb-true y x s)) ∙ f))
            (λ hn ne. h y ∙ or_right (nat_eq y x) _ (or_right (free_in y a) _ (and_from _ _ (not_or_two (nat_eq y p) (nat_eq y q) hn) f)))))),
      ))
  exact_uses (n.CaseTree i x a p q u b) j k V T C A lv ot r h =
      let again = free_in x a || free_in x b in
      let t = take_slot again x (slots_of T) k in
      let B = TreeOf ot.0 in
      let e = entry_of x T j V B r.typed (h x ∙ or_left (nat_eq x x) _ (same_number x)) ot.1 in
      let c = t.1 in
      let H : TypedSlots = (p, (c, ot.0)) ∷ ((q, (c + 1, B)) ∷ ((u, (c + 2, B)) ∷ [])) in
      let U = put x (stay again x k B) T in
      let I = put x (H ++ stay again x k B) T in
      let slots : slots_of U ≡ put x t.0.stay (slots_of T) = slots_put x (stay again x k B) T ∙ ap (λ G. put x G (slots_of T)) (stay_slots again x T k B) in
      let slots' : slots_of I ≡ put x (slot p c ∷ slot q (c + 1) ∷ slot u (c + 2) ∷ t.0.stay) (slots_of T) = slots_put x (H ++ stay again x k B) T ∙ ap (λ G. put x (slot p c ∷ slot q (c + 1) ∷ slot u (c + 2) ∷ G) (slots_of T)) (stay_slots again x T k B) in
      let ra = around a (two a) (put x t.0.stay (slots_of T)) (c + 3) in
      let le : c + 3 ≤ ra.1 = two_grows a (used a (put x t.0.stay (slots_of T))) (c + 3) in
      let K : Context = (c, ot.0) ∷ (c + 1, B) ∷ (c + 2, B) ∷ [] in
      take_uses again x T k e.0 B e.1 [] C (n.CaseTree i t.0.name ra.0 c (c + 1) (c + 2) (around b (two b) (put x (slot p c ∷ slot q (c + 1) ∷ slot u (c + 2) ∷ t.0.stay) (slots_of T)) ra.1).0) A r.single r.low r.same
      (λ D dD lD sD.
      let g = none_ready again x T k e.0 B e.1 j c (c + 3) V D t.0.name r.slots r.typed e.2 ot.1 dD lD sD (omega arith) in
      let g' = three_ready again x T k e.0 B e.1 j c ra.1 V p q u ot.0 B B D t.0.name r.slots r.typed e.2 ot.1 lv.2 lv.3 lv.4 dD lD sD le in (
        ot.0,
        g.0,
        new_three c D lD,
        subst (λ G. Uses N (put t.0.name [] D) (around a (two a) G (c + 3)).0 A) slots
            (serves a (exact_uses a) j (c + 3) V U (put t.0.name [] D) A lv.1 ot.2 g.1
            (λ y f. covers_put again x k B [] T y r.slots (λ s. or_left _ _ (ap (λ z. free_in z a) (sym (eqb-true y x s)) ∙ f)) (λ hn ne. h y ∙ or_right (nat_eq y x) _ (or_left _ _ f)))),
        as_opened N t.0.name (c ∷ (c + 1) ∷ (c + 2) ∷ []) parts_of B D g.0 (around b (two b) (put x (slot p c ∷ slot q (c + 1) ∷ slot u (c + 2) ∷ t.0.stay) (slots_of T)) ra.1).0 A
            (subst (λ G. Uses N (put t.0.name K D) (around b (two b) G ra.1).0 A) slots'
            (serves b (exact_uses b) (u + 1) ra.1 (more (more (more V p ot.0) q B) u B) I (put t.0.name K D) A lv.5 ot.3 g'.1
            (λ y f. covers_put again x k B H T y r.slots (λ s. or_right (free_in x a) _ (ap (λ z. free_in z b) (sym (eqb-true y x s)) ∙ f))
            (λ hn ne. h y ∙ or_right (nat_eq y x) _ (or_right (free_in y a) _ (and_from _ _ (not_or_three (nat_eq y p) (nat_eq y q) (nat_eq y u) hn) f)))))),
      ))
  exact_uses (n.CaseOption i x a p b) j k V T C A lv ot r h =
      let again = free_in x a || free_in x b in
      let t = take_slot again x (slots_of T) k in
      let B = OptionOf ot.0 in
      let e = entry_of x T j V B r.typed (h x ∙ or_left (nat_eq x x) _ (same_number x)) ot.1 in
      let c = t.1 in
      let H : TypedSlots = (p, (c, ot.0)) ∷ [] in
      let U = put x (stay again x k B) T in
      let I = put x (H ++ stay again x k B) T in
      let slots : slots_of U ≡ put x t.0.stay (slots_of T) = slots_put x (stay again x k B) T ∙ ap (λ G. put x G (slots_of T)) (stay_slots again x T k B) in
      let slots' : slots_of I ≡ put x (slot p c ∷ t.0.stay) (slots_of T) = slots_put x (H ++ stay again x k B) T ∙ ap (λ G. put x (slot p c ∷ G) (slots_of T)) (stay_slots again x T k B) in
      let ra = around a (two a) (put x t.0.stay (slots_of T)) (c + 1) in
      let le : c + 1 ≤ ra.1 = two_grows a (used a (put x t.0.stay (slots_of T))) (c + 1) in
      let K : Context = (c, ot.0) ∷ [] in
      take_uses again x T k e.0 B e.1 [] C (n.CaseOption i t.0.name ra.0 c (around b (two b) (put x (slot p c ∷ t.0.stay) (slots_of T)) ra.1).0) A r.single r.low r.same
      (λ D dD lD sD.
      let g = none_ready again x T k e.0 B e.1 j c (c + 1) V D t.0.name r.slots r.typed e.2 ot.1 dD lD sD (omega arith) in
      let g' = one_ready again x T k e.0 B e.1 j c ra.1 V p ot.0 D t.0.name r.slots r.typed e.2 ot.1 lv.2 dD lD sD le in (
        ot.0,
        g.0,
        new_one c D lD,
        subst (λ G. Uses N (put t.0.name [] D) (around a (two a) G (c + 1)).0 A) slots
            (serves a (exact_uses a) j (c + 1) V U (put t.0.name [] D) A lv.1 ot.2 g.1
            (λ y f. covers_put again x k B [] T y r.slots (λ s. or_left _ _ (ap (λ z. free_in z a) (sym (eqb-true y x s)) ∙ f)) (λ hn ne. h y ∙ or_right (nat_eq y x) _ (or_left _ _ f)))),
        as_opened N t.0.name (c ∷ []) parts_of B D g.0 (around b (two b) (put x (slot p c ∷ t.0.stay) (slots_of T)) ra.1).0 A
            (subst (λ G. Uses N (put t.0.name K D) (around b (two b) G ra.1).0 A) slots'
            (serves b (exact_uses b) (p + 1) ra.1 (more V p ot.0) I (put t.0.name K D) A lv.3 ot.3 g'.1
            (λ y f. covers_put again x k B H T y r.slots (λ s. or_right (free_in x a) _ (ap (λ z. free_in z b) (sym (eqb-true y x s)) ∙ f))
            (λ hn ne. h y ∙ or_right (nat_eq y x) _ (or_right (free_in y a) _ (and_from _ _ (not_or_one (nat_eq y p) hn) f)))))),
      ))
  exact_uses (n.Tick i m a) j k V T C A lv ot r h = exact_uses a j k V T C A lv ot r h
  exact_uses (n.Share i x p q a) j k V T C A lv ot r h = absurd lv
  exact_uses (n.Drop i x a) j k V T C A lv ot r h = absurd lv
