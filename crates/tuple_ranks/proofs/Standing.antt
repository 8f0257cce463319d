-- Where a tuple stands, from its last index on.
use Rattle.std.proofs.Common.{◌≡◌, ◌≤◌, ◌<◌, ℕ, zero, suc, ◌+◌, ◌-◌, Bool, true, false, cond, nat_le, nat_lt, min, List, [], ◌∷◌, drop, length, slice_get, slice_index_or, Option, None, Some, refl, sym, ap, ◌∙◌, arith}
use Rattle.std.proofs.lemmas.Bool.Decides.{nat_tests}
use Rattle.tuple_ranks.specs.Columns.{Column, before, standing, stands, led_by}
use Rattle.tuple_ranks.specs.Slots.{Slot, seen_by, picked}

at_place : {X : Type 0} (xs : List X) (k : ℕ) (d : X) → k < length xs → drop k xs ≡ slice_index_or xs k d ∷ drop (suc k) xs
at_place [] k d h = absurd (omega (arith, h))
at_place (x ∷ xs) zero d h = ap (λ l. x ∷ l) (all xs)
  where
    all : {X : Type 0} (xs : List X) → xs ≡ drop 0 xs
    all [] = refl
    all (x ∷ xs) = refl
at_place (x ∷ xs) (suc k) d h = at_place xs k d (omega (arith, h))

none_led : (d : ℕ) (c : Column) (n : ℕ) (o : Option ℕ) → led_by d c n o None ≡ None
none_led d c n None = refl
none_led d c n (Some p) = refl

pub none_behind : (d k : ℕ) (cs : List Column) (ss : List Slot) (ns : List ℕ) → stands d (drop k cs) (picked (drop k ss) ns) ≡ None → stands d cs (picked ss ns) ≡ None
none_behind d zero [] [] ns h = h
none_behind d zero [] (s ∷ ss) ns h = h
none_behind d zero (c ∷ cs) [] ns h = h
none_behind d zero (c ∷ cs) (s ∷ ss) ns h = h
none_behind d (suc k) [] [] ns h = h
none_behind d (suc k) [] (s ∷ ss) ns h = refl
none_behind d (suc k) (c ∷ cs) [] ns h = refl
none_behind d (suc k) (c ∷ cs) (s ∷ ss) ns h = ap (led_by d c (seen_by ns s) (slice_get c.sizes (seen_by ns s))) (none_behind d k cs ss ns h) ∙ none_led d c (seen_by ns s) (slice_get c.sizes (seen_by ns s))

pub as_many_slots : (d : ℕ) (cs : List Column) (ss : List Slot) (ns : List ℕ) → (length cs ≡ length ss → ⊥) → None ≡ stands d cs (picked ss ns)
as_many_slots d [] [] ns h = absurd (h refl)
as_many_slots d [] (s ∷ ss) ns h = refl
as_many_slots d (c ∷ cs) [] ns h = refl
as_many_slots d (c ∷ cs) (s ∷ ss) ns h =
    sym (ap (led_by d c (seen_by ns s) (slice_get c.sizes (seen_by ns s))) (sym (as_many_slots d cs ss ns (λ e. h (ap suc e)))) ∙ none_led d c (seen_by ns s) (slice_get c.sizes (seen_by ns s)))

pub led_step : (d k : ℕ) (cs : List Column) (ss : List Slot) (ns : List ℕ) (c : Column) (s : Slot) (state : ℕ × ℕ) (next : Option (ℕ × ℕ)) → k < length cs → k < length ss →
    c ≡ slice_index_or cs k c → s ≡ slice_index_or ss k s → next ≡ led_by d c (seen_by ns s) (slice_get c.sizes (seen_by ns s)) (Some state) →
    stands d (drop (k + 1) cs) (picked (drop (k + 1) ss) ns) ≡ Some state → stands d (drop k cs) (picked (drop k ss) ns) ≡ next
led_step d k cs ss ns c s state next h g is is' made done =
    (λ i. stands d (at_place cs k c h i) (picked (at_place ss k s g i) ns))
    ∙ (λ i. stands d (sym is i ∷ drop (suc k) cs) (picked (sym is' i ∷ drop (suc k) ss) ns))
    ∙ ap (led_by d c (seen_by ns s) (slice_get c.sizes (seen_by ns s))) (ap (λ k. stands d (drop k cs) (picked (drop k ss) ns)) more ∙ done)
    ∙ sym made
  where
    more : suc k ≡ k + 1
    more = omega arith

pub whole_stands : (d : ℕ) (cs : List Column) (ss : List Slot) (ns : List ℕ) (k : ℕ) (o : Option (ℕ × ℕ)) → k ≡ 0 → stands d (drop k cs) (picked (drop k ss) ns) ≡ o → o ≡ stands d cs (picked ss ns)
whole_stands d cs ss ns k o none h = sym h ∙ (λ i. stands d (drop (none i) cs) (picked (drop (none i) ss) ns)) ∙ (λ i. stands d (all cs i) (picked (all ss i) ns))
  where
    all : {X : Type 0} (xs : List X) → drop 0 xs ≡ xs
    all [] = refl
    all (x ∷ xs) = refl

pub none_stand : (d : ℕ) (cs : List Column) (ss : List Slot) (ns : List ℕ) (k : ℕ) → length cs ≡ length ss → length cs ≤ k → stands d (drop k cs) (picked (drop k ss) ns) ≡ Some (0, 0)
none_stand d [] [] ns zero e h = refl
none_stand d [] [] ns (suc k) e h = refl
none_stand d [] (s ∷ ss) ns k e h = absurd (omega (arith, e))
none_stand d (c ∷ cs) [] ns k e h = absurd (omega (arith, e))
none_stand d (c ∷ cs) (s ∷ ss) ns zero e h = absurd (omega (arith, h))
none_stand d (c ∷ cs) (s ∷ ss) ns (suc k) e h = none_stand d cs ss ns k (omega (arith, e)) (omega (arith, h))

pub none_step : (d at : ℕ) (cs : List Column) (ss : List Slot) (ns : List ℕ) (c : Column) (s : Slot) (state : ℕ × ℕ) (next : Option (ℕ × ℕ)) → 0 < at → at ≤ length cs → length cs ≡ length ss →
    c ≡ slice_index_or cs (at - 1) c → s ≡ slice_index_or ss (at - 1) s → next ≡ led_by d c (seen_by ns s) (slice_get c.sizes (seen_by ns s)) (Some state) → next ≡ None →
    stands d (drop at cs) (picked (drop at ss) ns) ≡ Some state → None ≡ stands d cs (picked ss ns)
none_step d zero cs ss ns c s state next some low same is is' made ends done = absurd (omega (arith, some))
none_step d (suc k) cs ss ns c s state next some low same is is' made ends done =
    sym (none_behind d k cs ss ns
    (led_step d k cs ss ns c s state next (omega (arith, low)) (omega (arith, low, same)) (is ∙ ap (λ k. slice_index_or cs k c) less) (is' ∙ ap (λ k. slice_index_or ss k s) less) made
    (ap (λ k. stands d (drop k cs) (picked (drop k ss) ns)) more ∙ done) ∙ ends))
  where
    less : suc k - 1 ≡ k
    less = omega arith

    more : k + 1 ≡ suc k
    more = omega arith

-- One index before others

-- a number that is not exact is too great for a place
too_many : (d g n m s : ℕ) → m ≡ min n 4294967295 → standing d g (m + s) ≡ standing d g (n + s)
too_many d g n m s e = ap (cond (nat_lt d g) None) (by (nat_le n 4294967295) refl)
  where
    stood : ℕ → Option (ℕ × ℕ)
    stood k = cond (nat_lt k 65536) (Some (g, k)) None

    same : nat_le n 4294967295 ≡ true → m + s ≡ n + s
    same f = grind (arith, nat_tests, e, f)

    past : nat_le n 4294967295 ≡ false → nat_lt (m + s) 65536 ≡ false
    past f = grind (arith, nat_tests, e, f)

    also : nat_le n 4294967295 ≡ false → nat_lt (n + s) 65536 ≡ false
    also f = grind (arith, nat_tests, f)

    neither : (a b : Bool) (x y : Option (ℕ × ℕ)) → a ≡ false → b ≡ false → cond a x None ≡ cond b y None
    neither a b x y h k = ap (λ a. cond a x None) h ∙ sym (ap (λ b. cond b y None) k)

    by : (b : Bool) → nat_le n 4294967295 ≡ b → stood (m + s) ≡ stood (n + s)
    by true f = ap stood (same f)
    by false f = neither _ _ _ _ (past f) (also f)

pub led_some : (d : ℕ) (c : Column) (n size degree m : ℕ) (behind : ℕ × ℕ) (next : Option (ℕ × ℕ)) → slice_get c.sizes n ≡ Some size → degree ≡ size + behind.0 →
    m ≡ min (before c degree n) 4294967295 → next ≡ standing d degree (m + behind.1) → next ≡ led_by d c n (slice_get c.sizes n) (Some behind)
led_some d c n size degree m behind next there is least made =
    made ∙ too_many d degree (before c degree n) m behind.1 least ∙ ap (λ g. standing d g (before c g n + behind.1)) is ∙ sym (ap (λ o. led_by d c n o (Some behind)) there)

pub led_none : (d : ℕ) (c : Column) (n : ℕ) (behind : ℕ × ℕ) → slice_get c.sizes n ≡ None → None ≡ led_by d c n (slice_get c.sizes n) (Some behind)
led_none d c n behind there = sym (ap (λ o. led_by d c n o (Some behind)) there)
