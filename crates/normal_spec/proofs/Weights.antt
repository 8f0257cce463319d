-- Lists by numbers: what they have, and what they weigh.
use Rattle.std.proofs.Common.{◌≡◌, ◌≤◌, ◌<◌, ◌+◌, ℕ, List, [], ◌∷◌, ◌++◌, Bool, true, false, cond, Some, refl, sym, ap, ◌∙◌, arith}
use Rattle.std.proofs.lemmas.Bool.{eqb-true, and_parts, or_from, or_right, and_right}
use Rattle.std.specs.Prelude.{nat_eq, not, ◌||◌, ◌&&◌}
use Rattle.raml_syntax.specs.Tree.{Type', Integer, Boolean, PairOf, ListOf, TreeOf, OptionOf}
use Rattle.normal_spec.specs.Norm as n
use Rattle.normal_spec.specs.Two.{free_in, find, has, put, used, unused}
use Rattle.normal_spec.specs.Uses.{Distinct}
use Rattle.normal_spec.proofs.StepOne.{same_number, other_number}

pub has_append : {B : Type 0} (y : ℕ) (G H : List (ℕ × B)) → has y (G ++ H) ≡ (has y G || has y H)
has_append y [] H = refl
has_append y (s ∷ G) H = by (nat_eq y s.0) (has_append y G H)
  where
    by : (b : Bool) → has y (G ++ H) ≡ (has y G || has y H) → (b || has y (G ++ H)) ≡ ((b || has y G) || has y H)
    by true rest = refl
    by false rest = rest

-- what a list has where an entry is replaced
pub has_put : {B : Type 0} (x y : ℕ) (H G : List (ℕ × B)) → Distinct G → has y (put x H G) ≡ (has y H || (not (nat_eq y x) && has y G))
has_put x y H [] d = by (has y H) (nat_eq y x)
  where
    by : (h e : Bool) → h ≡ (h || (not e && false))
    by true e = refl
    by false true = refl
    by false false = refl
has_put x y H (s ∷ G) d = by (nat_eq x s.0) refl (has_put x y H G d.1)
  where
    -- where the entry is here
    here : (h e g : Bool) → (e ≡ true → g ≡ false) → (h || g) ≡ (h || (not e && (e || g)))
    here true e g q = refl
    here false true g q = q refl
    here false false g q = refl

    -- where it is later
    later : (h e f g : Bool) → (f ≡ true → e ≡ false) → (f || (h || (not e && g))) ≡ (h || (not e && (f || g)))
    later true e true g q = refl
    later true e false g q = refl
    later false true true g q = let w = q refl in absurd (cc)
    later false true false g q = refl
    later false false true g q = refl
    later false false false g q = refl

    by : (b : Bool) → nat_eq x s.0 ≡ b → has y (put x H G) ≡ (has y H || (not (nat_eq y x) && has y G)) → has y (cond b (H ++ G) (s ∷ put x H G)) ≡ (has y H || (not (nat_eq y x) && (nat_eq y s.0 || has y G)))
    by true q rest =
        let same = eqb-true x s.0 q in
        has_append y H G
        ∙ here (has y H) (nat_eq y x) (has y G) (λ e. ap (λ z. has z G) (eqb-true y x e ∙ same) ∙ d.0)
        ∙ ap (λ z. has y H || (not (nat_eq y x) && (nat_eq y z || has y G))) same
    by false q rest =
        ap (λ z. nat_eq y s.0 || z) rest
        ∙ later (has y H) (nat_eq y x) (nat_eq y s.0) (has y G) (λ f. other_number y x (λ e. let w : nat_eq x s.0 ≡ true = ap (λ z. nat_eq z s.0) (sym e) ∙ f in absurd (cc)))

pub find_has : {B : Type 0} (x : ℕ) (b : B) (G : List (ℕ × B)) → find x G ≡ Some b → has x G ≡ true
find_has x b [] h = absurd (cc)
find_has x b (s ∷ G) h = by (find_has x b G) (nat_eq x s.0) h
  where
    by : (find x G ≡ Some b → has x G ≡ true) → (e : Bool) → cond e (Some s.1) (find x G) ≡ Some b → (e || has x G) ≡ true
    by rest true h = refl
    by rest false h = rest h

pub has_find : {B : Type 0} (x : ℕ) (G : List (ℕ × B)) → has x G ≡ true → (b : B) × (find x G ≡ Some b)
has_find x [] h = absurd (cc)
has_find {B} x (s ∷ G) h = by (has_find x G) (nat_eq x s.0) h
  where
    by : (has x G ≡ true → (b : B) × (find x G ≡ Some b)) → (e : Bool) → (e || has x G) ≡ true → (b : B) × (cond e (Some s.1) (find x G) ≡ Some b)
    by rest true h = (s.1, refl)
    by rest false h = rest h

pub distinct_append : {B : Type 0} (G H : List (ℕ × B)) → Distinct G → Distinct H → ((y : ℕ) → has y G ≡ true → has y H ≡ false) → Distinct (G ++ H)
distinct_append [] H d e apart = e
distinct_append (s ∷ G) H d e apart = (
  has_append s.0 G H ∙ or_from (has s.0 G) (has s.0 H) d.0 (apart s.0 (ap (λ b. b || has s.0 G) (same_number s.0))),
  distinct_append G H d.1 e (λ y h. apart y (or_right (nat_eq y s.0) (has y G) h)),
)

pub distinct_put : {B : Type 0} (x : ℕ) (H G : List (ℕ × B)) → Distinct G → Distinct H → ((y : ℕ) → nat_eq y x ≡ false → has y G ≡ true → has y H ≡ false) → Distinct (put x H G)
distinct_put x H [] d e apart = e
distinct_put x H (s ∷ G) d e apart = by (nat_eq x s.0) refl (distinct_put x H G d.1 e (λ y ne h. apart y ne (or_right (nat_eq y s.0) (has y G) h)))
  where
    by : (b : Bool) → nat_eq x s.0 ≡ b → Distinct (put x H G) → Distinct (cond b (H ++ G) (s ∷ put x H G))
    by true q rest =
        let same = eqb-true x s.0 q in
        distinct_append H G e d.1 (λ y h. away y h (has y G) refl)
      where
        away : (y : ℕ) → has y H ≡ true → (g : Bool) → has y G ≡ g → g ≡ false
        away y h true g =
            let here : nat_eq y x ≡ false = other_number y x (λ w. let z : has y G ≡ false = ap (λ z. has z G) (w ∙ eqb-true x s.0 q) ∙ d.0 in absurd (cc)) in
            let none = apart y here (or_right (nat_eq y s.0) (has y G) g) in
            absurd (cc)
        away y h false g = refl
    by false q rest =
        let ne : nat_eq s.0 x ≡ false = other_number s.0 x (λ w. let z : nat_eq x s.0 ≡ true = ap (λ z. nat_eq x z) w ∙ same_number x in absurd (cc)) in
        (has_put x s.0 H G d.1 ∙ or_from (has s.0 H) _ (apart s.0 ne (ap (λ b. b || has s.0 G) (same_number s.0))) (ap (λ g. not (nat_eq s.0 x) && g) d.0 ∙ none (nat_eq s.0 x)), rest)
      where
        none : (b : Bool) → (not b && false) ≡ false
        none true = refl
        none false = refl

pub has_used : {B : Type 0} (e : n.Norm) (y : ℕ) (G : List (ℕ × B)) → has y (used e G) ≡ (free_in y e && has y G)
has_used e y [] = by (free_in y e)
  where
    by : (b : Bool) → false ≡ (b && false)
    by true = refl
    by false = refl
has_used e y (s ∷ G) = by (free_in s.0 e) refl (nat_eq y s.0) refl (has_used e y G)
  where
    bool : (f g : Bool) → (f && g) ≡ (f && (false || g))
    bool true g = refl
    bool false g = refl

    yes : (f g : Bool) → f ≡ true → true ≡ (f && (true || g))
    yes true g h = refl
    yes false g h = absurd (cc)

    gone : (f g : Bool) → f ≡ false → (f && g) ≡ (f && (true || g))
    gone true g h = absurd (cc)
    gone false g h = refl

    by : (b : Bool) → free_in s.0 e ≡ b → (i : Bool) → nat_eq y s.0 ≡ i → has y (used e G) ≡ (free_in y e && has y G) → has y (cond b (s ∷ used e G) (used e G)) ≡ (free_in y e && (i || has y G))
    by true q true i rest = ap (λ z. z || has y (used e G)) i ∙ yes (free_in y e) (has y G) (ap (λ z. free_in z e) (eqb-true y s.0 i) ∙ q)
    by true q false i rest = ap (λ z. z || has y (used e G)) i ∙ rest ∙ bool (free_in y e) (has y G)
    by false q true i rest = rest ∙ gone (free_in y e) (has y G) (ap (λ z. free_in z e) (eqb-true y s.0 i) ∙ q)
    by false q false i rest = rest ∙ bool (free_in y e) (has y G)

pub has_unused : {B : Type 0} (e : n.Norm) (y : ℕ) (G : List (ℕ × B)) → has y (unused e G) ≡ (not (free_in y e) && has y G)
has_unused e y [] = by (free_in y e)
  where
    by : (b : Bool) → false ≡ (not b && false)
    by true = refl
    by false = refl
has_unused e y (s ∷ G) = by (free_in s.0 e) refl (nat_eq y s.0) refl (has_unused e y G)
  where
    bool : (f g : Bool) → (not f && g) ≡ (not f && (false || g))
    bool true g = refl
    bool false g = refl

    yes : (f g : Bool) → f ≡ false → true ≡ (not f && (true || g))
    yes true g h = absurd (cc)
    yes false g h = refl

    gone : (f g : Bool) → f ≡ true → (not f && g) ≡ (not f && (true || g))
    gone true g h = refl
    gone false g h = absurd (cc)

    by : (b : Bool) → free_in s.0 e ≡ b → (i : Bool) → nat_eq y s.0 ≡ i → has y (unused e G) ≡ (not (free_in y e) && has y G) → has y (cond b (unused e G) (s ∷ unused e G)) ≡ (not (free_in y e) && (i || has y G))
    by false q true i rest = ap (λ z. z || has y (unused e G)) i ∙ yes (free_in y e) (has y G) (ap (λ z. free_in z e) (eqb-true y s.0 i) ∙ q)
    by false q false i rest = ap (λ z. z || has y (unused e G)) i ∙ rest ∙ bool (free_in y e) (has y G)
    by true q true i rest = rest ∙ gone (free_in y e) (has y G) (ap (λ z. free_in z e) (eqb-true y s.0 i) ∙ q)
    by true q false i rest = rest ∙ bool (free_in y e) (has y G)

pub distinct_used : {B : Type 0} (e : n.Norm) (G : List (ℕ × B)) → Distinct G → Distinct (used e G)
distinct_used e [] d = tt
distinct_used e (s ∷ G) d = by (free_in s.0 e) (distinct_used e G d.1)
  where
    by : (b : Bool) → Distinct (used e G) → Distinct (cond b (s ∷ used e G) (used e G))
    by true rest = (has_used e s.0 G ∙ and_right (free_in s.0 e) (has s.0 G) d.0, rest)
    by false rest = rest

pub distinct_unused : {B : Type 0} (e : n.Norm) (G : List (ℕ × B)) → Distinct G → Distinct (unused e G)
distinct_unused e [] d = tt
distinct_unused e (s ∷ G) d = by (free_in s.0 e) (distinct_unused e G d.1)
  where
    by : (b : Bool) → Distinct (unused e G) → Distinct (cond b (unused e G) (s ∷ unused e G))
    by false rest = (has_unused e s.0 G ∙ and_right (not (free_in s.0 e)) (has s.0 G) d.0, rest)
    by true rest = rest

-- the numbers are below k
abbrev pub AllLow : {B : Type 0} → ℕ → List (ℕ × B) → Type 0
AllLow k [] = Unit {0}
AllLow k (s ∷ G) = (s.0 < k) × AllLow k G

pub low_more : {B : Type 0} (k i : ℕ) (G : List (ℕ × B)) → k ≤ i → AllLow k G → AllLow i G
low_more k i [] le h = tt
low_more k i (s ∷ G) le h = (omega (arith, h.0), low_more k i G le h.1)

pub low_append : {B : Type 0} (k : ℕ) (G H : List (ℕ × B)) → AllLow k G → AllLow k H → AllLow k (G ++ H)
low_append k [] H g h = h
low_append k (s ∷ G) H g h = (g.0, low_append k G H g.1 h)

pub low_put : {B : Type 0} (k x : ℕ) (H G : List (ℕ × B)) → AllLow k H → AllLow k G → AllLow k (put x H G)
low_put k x H [] h g = h
low_put k x H (s ∷ G) h g = by (nat_eq x s.0) (low_put k x H G h g.1)
  where
    by : (b : Bool) → AllLow k (put x H G) → AllLow k (cond b (H ++ G) (s ∷ put x H G))
    by true rest = low_append k H G h g.1
    by false rest = (g.0, rest)

pub low_used : {B : Type 0} (k : ℕ) (e : n.Norm) (G : List (ℕ × B)) → AllLow k G → AllLow k (used e G)
low_used k e [] g = tt
low_used k e (s ∷ G) g = by (free_in s.0 e) (low_used k e G g.1)
  where
    by : (b : Bool) → AllLow k (used e G) → AllLow k (cond b (s ∷ used e G) (used e G))
    by true rest = (g.0, rest)
    by false rest = rest

pub low_unused : {B : Type 0} (k : ℕ) (e : n.Norm) (G : List (ℕ × B)) → AllLow k G → AllLow k (unused e G)
low_unused k e [] g = tt
low_unused k e (s ∷ G) g = by (free_in s.0 e) (low_unused k e G g.1)
  where
    by : (b : Bool) → AllLow k (unused e G) → AllLow k (cond b (unused e G) (s ∷ unused e G))
    by true rest = rest
    by false rest = (g.0, rest)

pub low_absent : {B : Type 0} (k y : ℕ) (G : List (ℕ × B)) → AllLow k G → k ≤ y → has y G ≡ false
low_absent k y [] g le = refl
low_absent k y (s ∷ G) g le = or_from (nat_eq y s.0) (has y G) (other_number y s.0 (λ q. let l = g.0 in omega arith)) (low_absent k y G g.1 le)

-- the sum of the weights of the entries
abbrev pub weigh : {B : Type 0} → (ℕ × B → ℕ) → List (ℕ × B) → ℕ
weigh w [] = 0
weigh w (s ∷ G) = w s + weigh w G

pub weigh_append : {B : Type 0} (w : ℕ × B → ℕ) (G H : List (ℕ × B)) → weigh w (G ++ H) ≡ weigh w G + weigh w H
weigh_append w [] H = omega arith
weigh_append w (s ∷ G) H = omega (arith, weigh_append w G H)

pub weigh_put : {B : Type 0} (w : ℕ × B → ℕ) (x : ℕ) (b : B) (H G : List (ℕ × B)) → find x G ≡ Some b → weigh w (put x H G) + w (x, b) ≡ weigh w G + weigh w H
weigh_put w x b H [] h = absurd (cc)
weigh_put w x b H (s ∷ G) h = by (weigh_put w x b H G) (nat_eq x s.0) refl h
  where
    by : (find x G ≡ Some b → weigh w (put x H G) + w (x, b) ≡ weigh w G + weigh w H) → (e : Bool) → nat_eq x s.0 ≡ e → cond e (Some s.1) (find x G) ≡ Some b → weigh w (cond e (H ++ G) (s ∷ put x H G)) + w (x, b) ≡ w s + weigh w G + weigh w H
    by rest true q h =
        let p : s.1 ≡ b = cc in
        let number = eqb-true x s.0 q in
        let is : w (x, b) ≡ w s = λ i. w (number i, sym p i) in
        omega (arith, weigh_append w H G, is)
    by rest false q h = omega (arith, rest h)

pub weigh_used : {B : Type 0} (w : ℕ × B → ℕ) (e : n.Norm) (G : List (ℕ × B)) → weigh w (used e G) ≡ weigh (λ s. cond (free_in s.0 e) (w s) 0) G
weigh_used w e [] = refl
weigh_used w e (s ∷ G) = by (free_in s.0 e) (weigh_used w e G)
  where
    by : (b : Bool) → weigh w (used e G) ≡ weigh (λ s. cond (free_in s.0 e) (w s) 0) G → weigh w (cond b (s ∷ used e G) (used e G)) ≡ cond b (w s) 0 + weigh (λ s. cond (free_in s.0 e) (w s) 0) G
    by true rest = omega (arith, rest)
    by false rest = omega (arith, rest)

pub weigh_unused : {B : Type 0} (w : ℕ × B → ℕ) (e : n.Norm) (G : List (ℕ × B)) → weigh w (unused e G) ≡ weigh (λ s. cond (free_in s.0 e) 0 (w s)) G
weigh_unused w e [] = refl
weigh_unused w e (s ∷ G) = by (free_in s.0 e) (weigh_unused w e G)
  where
    by : (b : Bool) → weigh w (unused e G) ≡ weigh (λ s. cond (free_in s.0 e) 0 (w s)) G → weigh w (cond b (unused e G) (s ∷ unused e G)) ≡ cond b 0 (w s) + weigh (λ s. cond (free_in s.0 e) 0 (w s)) G
    by true rest = omega (arith, rest)
    by false rest = omega (arith, rest)
