-- Slots, and the variables that stand for those of step one.
use Rattle.std.proofs.Common.{◌≡◌, ◌≤◌, ◌<◌, ◌+◌, ℕ, List, [], ◌∷◌, ◌++◌, Bool, true, false, cond, refl, sym, ap, subst, ◌∙◌, arith}
use Rattle.std.proofs.lemmas.Bool.{eqb-true, or_left, or_right}
use Rattle.std.specs.Prelude.{nat_eq}
use Rattle.raml_syntax.specs.Value.{Value}
use Rattle.normal_spec.specs.Norm as n
use Rattle.normal_spec.specs.Run.{NormEnv, value_at, values_at, NormCalls, walk_norm}
use Rattle.normal_spec.specs.Two.{Shared, among, free_in, Slots, slot, copy_of, put, used, drop_all, share_all, take_slot, take_all, Parted, to_first, to_second, to_both, part}
use Rattle.normal_spec.proofs.Weights.{AllLow}
use Rattle.normal_spec.proofs.Ahead.{spend_none}
use Rattle.normal_spec.proofs.StepOne.{same_number, other_number, Kept, kept_same, kept_more, kept_on, value_newest, value_older}

-- a slot that is new stands as if it were the first
pub put_new : (j x y p c : ℕ) (H G : Slots) → AllLow j G → j ≤ p → copy_of y (put x (slot p c ∷ H) G) ≡ cond (nat_eq y p) c (copy_of y (put x H G))
put_new j x y p c H [] h le = refl
put_new j x y p c H (s ∷ G) h le = by (nat_eq x s.0) (nat_eq y s.0) refl (nat_eq y p) refl (put_new j x y p c H G h.1 le)
  where
    by : (a b : Bool) → nat_eq y s.0 ≡ b → (i : Bool) → nat_eq y p ≡ i → copy_of y (put x (slot p c ∷ H) G) ≡ cond i c (copy_of y (put x H G)) → copy_of y (cond a ((slot p c ∷ H) ++ G) (s ∷ put x (slot p c ∷ H) G)) ≡ cond i c (copy_of y (cond a (H ++ G) (s ∷ put x H G)))
    by true b eb i ei rest = ap (λ q. cond q c (copy_of y (H ++ G))) ei
    by false true eb true ei rest = let first = h.0 in let p1 = eqb-true y s.0 eb in let p2 = eqb-true y p ei in absurd (omega arith)
    by false true eb false ei rest = ap (λ q. cond q s.1 (copy_of y (put x (slot p c ∷ H) G))) eb ∙ sym (ap (λ q. cond q s.1 (copy_of y (put x H G))) eb)
    by false false eb i ei rest =
        ap (λ q. cond q s.1 (copy_of y (put x (slot p c ∷ H) G))) eb ∙ rest ∙ sym (ap (λ q. cond i c (cond q s.1 (copy_of y (put x H G)))) eb)

-- the others keep their copies where a slot goes, or gets a new copy
pub put_other : (x y : ℕ) (H G : Slots) → nat_eq y x ≡ false → copy_of y H ≡ 0 → ((I : Slots) → copy_of y (H ++ I) ≡ copy_of y I) → copy_of y (put x H G) ≡ copy_of y G
put_other x y H [] ne z over = z
put_other x y H (s ∷ G) ne z over = by (nat_eq x s.0) refl (put_other x y H G ne z over)
  where
    by : (b : Bool) → nat_eq x s.0 ≡ b → copy_of y (put x H G) ≡ copy_of y G → copy_of y (cond b (H ++ G) (s ∷ put x H G)) ≡ cond (nat_eq y s.0) s.1 (copy_of y G)
    by true e rest = over G ∙ sym (ap (λ q. cond q s.1 (copy_of y G)) (sym (ap (nat_eq y) (eqb-true x s.0 e)) ∙ ne))
    by false e rest = ap (λ c. cond (nat_eq y s.0) s.1 c) rest

pub put_gone : (x y : ℕ) (G : Slots) → nat_eq y x ≡ false → copy_of y (put x [] G) ≡ copy_of y G
put_gone x y G ne = put_other x y [] G ne refl (λ I. refl)

pub put_again : (x y c : ℕ) (G : Slots) → nat_eq y x ≡ false → copy_of y (put x (slot x c ∷ []) G) ≡ copy_of y G
put_again x y c G ne = put_other x y (slot x c ∷ []) G ne (ap (λ q. cond q c 0) ne) (λ I. ap (λ q. cond q c (copy_of y I)) ne)

pub put_same : (x c : ℕ) (G : Slots) → copy_of x (put x (slot x c ∷ []) G) ≡ c
put_same x c [] = ap (λ q. cond q c 0) (same_number x)
put_same x c (s ∷ G) = by (nat_eq x s.0) refl (put_same x c G)
  where
    by : (b : Bool) → nat_eq x s.0 ≡ b → copy_of x (put x (slot x c ∷ []) G) ≡ c → copy_of x (cond b (slot x c ∷ G) (s ∷ put x (slot x c ∷ []) G)) ≡ c
    by true e rest = ap (λ q. cond q c (copy_of x G)) (same_number x)
    by false e rest = ap (λ q. cond q s.1 (copy_of x (put x (slot x c ∷ []) G))) e ∙ rest

pub append_new : (j y p c : ℕ) (G : Slots) → AllLow j G → j ≤ p → copy_of y (G ++ slot p c ∷ []) ≡ cond (nat_eq y p) c (copy_of y G)
append_new j y p c [] h le = refl
append_new j y p c (s ∷ G) h le = by (nat_eq y s.0) refl (nat_eq y p) refl (append_new j y p c G h.1 le)
  where
    by : (b : Bool) → nat_eq y s.0 ≡ b → (i : Bool) → nat_eq y p ≡ i → copy_of y (G ++ slot p c ∷ []) ≡ cond i c (copy_of y G) → cond b s.1 (copy_of y (G ++ slot p c ∷ [])) ≡ cond i c (cond b s.1 (copy_of y G))
    by true eb true ei rest = let first = h.0 in let p1 = eqb-true y s.0 eb in let p2 = eqb-true y p ei in absurd (omega arith)
    by true eb false ei rest = refl
    by false eb i ei rest = rest

pub used_copy : (e : n.Norm) (G : Slots) (y : ℕ) → free_in y e ≡ true → copy_of y (used e G) ≡ copy_of y G
used_copy e [] y h = refl
used_copy e (s ∷ G) y h = by (free_in s.0 e) refl (used_copy e G y h)
  where
    by : (b : Bool) → free_in s.0 e ≡ b → copy_of y (used e G) ≡ copy_of y G → copy_of y (cond b (s ∷ used e G) (used e G)) ≡ cond (nat_eq y s.0) s.1 (copy_of y G)
    by true q rest = ap (λ c. cond (nat_eq y s.0) s.1 c) rest
    by false q rest = rest ∙ sym (ap (λ b. cond b s.1 (copy_of y G)) (other_number y s.0 (λ p. let f : free_in y e ≡ false = ap (λ z. free_in z e) p ∙ q in absurd (cc))))

-- the variable stands for one of step one
pub record At (k y x : ℕ) (e f : NormEnv) : Type 0 where
  pub value : value_at x f ≡ value_at y e
  pub low : x < k

pub at_more : (k i y x : ℕ) (e f : NormEnv) → k ≤ i → At k y x e f → At i y x e f
at_more k i y x e f le h = record { value = h.value; low = omega (arith, h.low) }

pub at_kept : (k i y x : ℕ) (e f g : NormEnv) → k ≤ i → Kept k f g → At k y x e f → At i y x e g
at_kept k i y x e f g le kept h = record { value = kept.at x h.low ∙ h.value; low = omega (arith, h.low) }

pub at_is : (k y x z : ℕ) (e f : NormEnv) → x ≡ z → At k y z e f → At k y x e f
at_is k y x z e f q h = subst (λ w. At k y w e f) (sym q) h

-- a variable that is bound on both sides
pub at_bound : (k c y p x : ℕ) (v : Value) (e f : NormEnv) → k ≤ c → (nat_eq y p ≡ false → At k y x e f) → At (c + 1) y (cond (nat_eq y p) c x) ((p, v) ∷ e) ((c, v) ∷ f)
at_bound k c y p x v e f le h = by (nat_eq y p) refl
  where
    by : (b : Bool) → nat_eq y p ≡ b → At (c + 1) y (cond b c x) ((p, v) ∷ e) ((c, v) ∷ f)
    by true q = record { value = value_newest c v f ∙ sym (ap (λ b. cond b v (value_at y e)) q); low = omega arith }
    by false q =
        let a = h q in
        let low = a.low in
        record { value = value_older x c v f (λ w. omega arith) ∙ a.value ∙ sym (ap (λ b. cond b v (value_at y e)) q); low = omega arith }

-- two variables that differ may be asked for in any order
pub swap : (y p q a b z : ℕ) → p < q → cond (nat_eq y p) a (cond (nat_eq y q) b z) ≡ cond (nat_eq y q) b (cond (nat_eq y p) a z)
swap y p q a b z lt = by (nat_eq y p) refl (nat_eq y q) refl
  where
    by : (i : Bool) → nat_eq y p ≡ i → (j : Bool) → nat_eq y q ≡ j → cond i a (cond j b z) ≡ cond j b (cond i a z)
    by true ei true ej = let p1 = eqb-true y p ei in let p2 = eqb-true y q ej in absurd (omega arith)
    by true ei false ej = refl
    by false ei true ej = refl
    by false ei false ej = refl

-- the values behind shares
abbrev pub after_shares : List Shared → NormEnv → NormEnv
after_shares [] f = f
after_shares (s ∷ ss) f = after_shares ss ((s.second, value_at s.variable f) ∷ (s.first, value_at s.variable f) ∷ f)

pub after_append : (ss us : List Shared) (f : NormEnv) → after_shares (ss ++ us) f ≡ after_shares us (after_shares ss f)
after_append [] us f = refl
after_append (s ∷ ss) us f = after_append ss us _

pub shares_walk : (d : NormCalls) (ss : List Shared) (e : n.Norm) (f : NormEnv) → walk_norm d (share_all ss e) f ≡ walk_norm d e (after_shares ss f)
shares_walk d [] e f = refl
shares_walk d (s ∷ ss) e f = spend_none _ ∙ shares_walk d ss e _

pub drops_walk : (d : NormCalls) (G : Slots) (e : n.Norm) (f : NormEnv) → walk_norm d (drop_all G e) f ≡ walk_norm d e f
drops_walk d [] e f = refl
drops_walk d (s ∷ G) e f = spend_none _ ∙ drops_walk d G e f

pub kept_shared : (k i : ℕ) (v : Value) (f : NormEnv) → k ≤ i → Kept k f ((i + 1, v) ∷ (i, v) ∷ f)
kept_shared k i v f le = kept_more k (i + 1) v f _ (omega arith) (kept_more k i v f f le (kept_same k f))

-- a use of a variable
pub record Took (again : Bool) (x : ℕ) (G : Slots) (k : ℕ) (e f : NormEnv) : Type 0 where
  pub value : value_at (take_slot again x G k).0.name (after_shares (take_slot again x G k).0.shares f) ≡ value_at x e
  pub name_low : (take_slot again x G k).0.name < (take_slot again x G k).1
  pub kept : Kept k f (after_shares (take_slot again x G k).0.shares f)
  pub grows : k ≤ (take_slot again x G k).1
  pub others : (y : ℕ) → (y ≡ x → again ≡ true) → At k y (copy_of y G) e f → At (take_slot again x G k).1 y (copy_of y (put x (take_slot again x G k).0.stay G)) e (after_shares (take_slot again x G k).0.shares f)

pub took : (again : Bool) (x : ℕ) (G : Slots) (k : ℕ) (e f : NormEnv) → At k x (copy_of x G) e f → Took again x G k e f
took false x G k e f a = record {
  value = a.value;
  name_low = a.low;
  kept = kept_same k f;
  grows = omega arith;
  others = λ y need h. at_is k y _ _ e f (put_gone x y G (other_number y x (λ q. let w = need q in absurd (cc)))) h;
}
took true x G k e f a =
    let v = value_at (copy_of x G) f in
    let g : NormEnv = (k + 1, v) ∷ (k, v) ∷ f in
    record {
      value = value_older k (k + 1) v ((k, v) ∷ f) (λ q. omega arith) ∙ value_newest k v f ∙ a.value;
      name_low = omega arith;
      kept = kept_shared k k v f (omega arith);
      grows = omega arith;
      others = λ y need h. by y h (nat_eq y x) refl;
    }
  where
    by : (y : ℕ) → At k y (copy_of y G) e f → (b : Bool) → nat_eq y x ≡ b → At (k + 2) y (copy_of y (put x (slot x (k + 1) ∷ []) G)) e ((k + 1, value_at (copy_of x G) f) ∷ (k, value_at (copy_of x G) f) ∷ f)
    by y h true q =
        let same = eqb-true y x q in
        let v = value_at (copy_of x G) f in
        at_is (k + 2) y _ (k + 1) e _ (ap (λ z. copy_of z (put x (slot x (k + 1) ∷ []) G)) same ∙ put_same x (k + 1) G)
        (record { value = value_newest (k + 1) v ((k, v) ∷ f) ∙ a.value ∙ ap (λ z. value_at z e) (sym same); low = omega arith })
    by y h false q = at_is (k + 2) y _ (copy_of y G) e _ (put_again x y (k + 1) G q) (at_kept k (k + 2) y _ e f _ (omega arith) (kept_shared k k _ f (omega arith)) h)

-- the uses of operands
pub record TookAll (xs : List ℕ) (G : Slots) (k : ℕ) (e f : NormEnv) : Type 0 where
  pub values : values_at (take_all xs G k).0.names (after_shares (take_all xs G k).0.shares f) ≡ values_at xs e
  pub kept : Kept k f (after_shares (take_all xs G k).0.shares f)
  pub grows : k ≤ (take_all xs G k).1

pub took_all : (xs : List ℕ) (G : Slots) (k : ℕ) (e f : NormEnv) → ((y : ℕ) → among y xs ≡ true → At k y (copy_of y G) e f) → TookAll xs G k e f
took_all [] G k e f h = record { values = refl; kept = kept_same k f; grows = omega arith }
took_all (x ∷ xs) G k e f h =
    let t = take_slot (among x xs) x G k in
    let a = took (among x xs) x G k e f (h x (or_left _ _ (same_number x))) in
    let g = after_shares t.0.shares f in
    let rest = took_all xs (put x t.0.stay G) t.1 e g (λ y m. a.others y (λ q. ap (λ z. among z xs) (sym q) ∙ m) (h y (or_right (nat_eq y x) (among y xs) m))) in
    let end : after_shares (t.0.shares ++ (take_all xs (put x t.0.stay G) t.1).0.shares) f ≡ after_shares (take_all xs (put x t.0.stay G) t.1).0.shares g = after_append t.0.shares _ f in
    record {
      values = subst (λ z. values_at (t.0.name ∷ (take_all xs (put x t.0.stay G) t.1).0.names) z ≡ values_at (x ∷ xs) e) (sym end)
          (λ i. (rest.kept.at t.0.name a.name_low ∙ a.value) i ∷ rest.values i);
      kept = subst (Kept k f) (sym end) (kept_on k t.1 f g _ a.grows a.kept rest.kept);
      grows = omega (arith, a.grows, rest.grows);
    }

-- the parts of a Let
pub record Halves (a b : n.Norm) (G : Slots) (k : ℕ) (e f : NormEnv) (r : Parted × ℕ) : Type 0 where
  pub first : (y : ℕ) → free_in y a ≡ true → At k y (copy_of y G) e f → At r.1 y (copy_of y r.0.first) e (after_shares r.0.shares f)
  pub second : (y : ℕ) → free_in y b ≡ true → At k y (copy_of y G) e f → At r.1 y (copy_of y r.0.second) e (after_shares r.0.shares f)
  pub kept : Kept k f (after_shares r.0.shares f)
  pub grows : k ≤ r.1
  pub below_first : (j : ℕ) → AllLow j G → AllLow j r.0.first
  pub below_second : (j : ℕ) → AllLow j G → AllLow j r.0.second

-- where the slot is that of the variable, and where it is another's
at_cases : (i : ℕ) (y x c c' : ℕ) (e f : NormEnv) → (nat_eq y x ≡ true → At i y c e f) → (nat_eq y x ≡ false → At i y c' e f) → At i y (cond (nat_eq y x) c c') e f
at_cases i y x c c' e f h g = by (nat_eq y x) refl
  where
    by : (b : Bool) → nat_eq y x ≡ b → At i y (cond b c c') e f
    by true q = h q
    by false q = g q

at_here : (k y x c c' : ℕ) (e f : NormEnv) → nat_eq y x ≡ true → At k y (cond (nat_eq y x) c c') e f → At k y c e f
at_here k y x c c' e f q h = at_is k y c _ e f (sym (ap (λ b. cond b c c') q)) h

at_there : (k y x c c' : ℕ) (e f : NormEnv) → nat_eq y x ≡ false → At k y (cond (nat_eq y x) c c') e f → At k y c' e f
at_there k y x c c' e f q h = at_is k y c' _ e f (sym (ap (λ b. cond b c c') q)) h

pub halves : (a b : n.Norm) (G : Slots) (k : ℕ) (e f : NormEnv) → Halves a b G k e f (part a b G k)
halves a b [] k e f = record { first = λ y h m. m; second = λ y h m. m; kept = kept_same k f; grows = omega arith; below_first = λ j h. tt; below_second = λ j h. tt }
halves a b (s ∷ G) k e f =
    by (free_in s.0 a) refl (free_in s.0 b) refl (halves a b G k e f)
    (halves a b G (k + 2) e ((k + 1, value_at s.1 f) ∷ (k, value_at s.1 f) ∷ f))
  where
    -- another variable than that of the slot
    other : (c : n.Norm) (y : ℕ) → free_in s.0 c ≡ false → free_in y c ≡ true → nat_eq y s.0 ≡ false
    other c y absent here = other_number y s.0 (λ p. let q : free_in y c ≡ false = ap (λ z. free_in z c) p ∙ absent in absurd (cc))

    by : (i : Bool) → free_in s.0 a ≡ i → (j : Bool) → free_in s.0 b ≡ j → Halves a b G k e f (part a b G k) → Halves a b G (k + 2) e ((k + 1, value_at s.1 f) ∷ (k, value_at s.1 f) ∷ f) (part a b G (k + 2)) → Halves a b (s ∷ G) k e f (cond i (cond j (to_both s k (part a b G (k + 2))) (to_first s (part a b G k))) (to_second s (part a b G k)))
    by true ea true eb plain shared =
        let v = value_at s.1 f in
        let g : NormEnv = (k + 1, v) ∷ (k, v) ∷ f in
        let on = kept_shared k k v f (omega arith) in
        record {
          first = λ y h m.
              at_cases _ y s.0 k _ e _
              (λ q. record {
                value = shared.kept.at k (omega arith) ∙ value_older k (k + 1) v ((k, v) ∷ f) (λ w. omega arith) ∙ value_newest k v f ∙ (at_here k y s.0 s.1 (copy_of y G) e f q m).value;
                low = omega (arith, shared.grows);
              })
              (λ q. shared.first y h (at_kept k (k + 2) y _ e f g (omega arith) on (at_there k y s.0 s.1 (copy_of y G) e f q m)));
          second = λ y h m.
              at_cases _ y s.0 (k + 1) _ e _
              (λ q. record {
                value = shared.kept.at (k + 1) (omega arith) ∙ value_newest (k + 1) v ((k, v) ∷ f) ∙ (at_here k y s.0 s.1 (copy_of y G) e f q m).value;
                low = omega (arith, shared.grows);
              })
              (λ q. shared.second y h (at_kept k (k + 2) y _ e f g (omega arith) on (at_there k y s.0 s.1 (copy_of y G) e f q m)));
          kept = kept_on k (k + 2) f g _ (omega arith) on shared.kept;
          grows = omega (arith, shared.grows);
          below_first = λ j h. (h.0, shared.below_first j h.1);
          below_second = λ j h. (h.0, shared.below_second j h.1);
        }
    by true ea false eb plain shared =
        record {
          first = λ y h m.
              at_cases _ y s.0 s.1 _ e _
              (λ q. at_kept k _ y s.1 e f _ plain.grows plain.kept (at_here k y s.0 s.1 (copy_of y G) e f q m))
              (λ q. plain.first y h (at_there k y s.0 s.1 (copy_of y G) e f q m));
          second = λ y h m. plain.second y h (at_there k y s.0 s.1 (copy_of y G) e f (other b y eb h) m);
          kept = plain.kept;
          grows = plain.grows;
          below_first = λ j h. (h.0, plain.below_first j h.1);
          below_second = λ j h. plain.below_second j h.1;
        }
    by false ea j eb plain shared =
        record {
          first = λ y h m. plain.first y h (at_there k y s.0 s.1 (copy_of y G) e f (other a y ea h) m);
          second = λ y h m.
              at_cases _ y s.0 s.1 _ e _
              (λ q. at_kept k _ y s.1 e f _ plain.grows plain.kept (at_here k y s.0 s.1 (copy_of y G) e f q m))
              (λ q. plain.second y h (at_there k y s.0 s.1 (copy_of y G) e f q m));
          kept = plain.kept;
          grows = plain.grows;
          below_first = λ i h. plain.below_first i h.1;
          below_second = λ i h. (h.0, plain.below_second i h.1);
        }
