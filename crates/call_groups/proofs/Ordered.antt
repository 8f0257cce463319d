-- Groups that are placed one after the other are in order.
use Rattle.std.proofs.Common.{◌≡◌, ◌≤◌, ◌<◌, ◌+◌, ◌⊎◌, inl, inr, ℕ, zero, suc, List, [], ◌∷◌, ◌++◌, length, Contains, Bool, true, false, cond, refl, sym, ap, subst, ◌∙◌, arith}
use Rattle.std.proofs.lemmas.Bool.{eqb-true, ltb-true, ltb-false, or_left, or_right, or_cases, and_from, and_parts, not-true, not_from_false, cases_Bool}
use Rattle.std.proofs.lemmas.List.Elements.{Contains-append_left, Contains-append_right, Contains-append_cases}
use Rattle.std.specs.Prelude.{nat_eq, nat_lt, not, ◌||◌, ◌&&◌}
use Rattle.std.specs.List.{filter, range_with_len}
use Rattle.raml_syntax.specs.Tree.{Prog}
use Rattle.call_groups.specs.Groups.{Reaches, here, Together, MayCome, Ascends, ComesNext, AreInOrder}
use Rattle.call_groups.specs.declared.function_set.FunctionSet.{FunctionSet}
use Rattle.call_groups.specs.Read.{rows_of}
use Rattle.call_groups.specs.Sets.{Members, none, joined, below}
use Rattle.call_groups.specs.Table.{Table, row_at, waits, group, Waiting, IsReady, IsNext, NoneIsReady, Front, Placed}
use Rattle.call_groups.proofs.Leads.{led, led_sound, led_complete, leads, leads_sound, leads_complete, reaches_low, reaches_more}
use Rattle.call_groups.proofs.Lists.{rows_length}
use Rattle.call_groups.proofs.Truths.{same, clash}

contains_none : {X : Type 0} (x : X) → Contains [] x → ⊥
contains_none x h = absurd (omega (arith, h.1))

contains_first : {X : Type 0} (x : X) (xs : List X) → Contains (x ∷ xs) x
contains_first x xs = (zero, omega arith, refl)

contains_later : {X : Type 0} (x y : X) (xs : List X) → Contains xs y → Contains (x ∷ xs) y
contains_later x y xs h = (suc h.0, omega (arith, h.1), h.2)

contains_cases : {X : Type 0} (x y : X) (xs : List X) → Contains (x ∷ xs) y → (x ≡ y) ⊎ Contains xs y
contains_cases x y xs (zero, l, e) = inl e
contains_cases x y xs (suc k, l, e) = inr (k, omega arith, e)

-- Lists of a set's functions

module _ (a : Members) where
  in_filter : (k n g : ℕ) → Contains (filter a (range_with_len k n)) g → (g < k + n) × (a g ≡ true)
  in_filter k zero g c = absurd (contains_none g c)
  in_filter k (suc n) g c = by (a k) refl c (in_filter (k + 1) n g)
    where
      rest : List ℕ
      rest = filter a (range_with_len (k + 1) n)

      by : (b : Bool) → a k ≡ b → Contains (cond b (k ∷ filter a (range_with_len (k + 1) n)) (filter a (range_with_len (k + 1) n))) g → (Contains (filter a (range_with_len (k + 1) n)) g → (g < k + 1 + n) × (a g ≡ true)) → (g < k + suc n) × (a g ≡ true)
      by true q c old = first (contains_cases k g (filter a (range_with_len (k + 1) n)) c)
        where
          first : (k ≡ g) ⊎ Contains (filter a (range_with_len (k + 1) n)) g → (g < k + suc n) × (a g ≡ true)
          first (inl e) = (omega arith, subst (λ z. a z ≡ true) e q)
          first (inr d) = let o = old d in (let l = o.0 in omega arith, o.1)
      by false q c old = let o = old c in (let l = o.0 in omega arith, o.1)

  filter_in : (k n g : ℕ) → k ≤ g → g < k + n → a g ≡ true → Contains (filter a (range_with_len k n)) g
  filter_in k zero g le lt h = absurd (omega arith)
  filter_in k (suc n) g le lt h = by (a k) refl (nat_eq g k) refl (λ l. filter_in (k + 1) n g l (omega arith) h)
    where
      above : nat_eq g k ≡ false → k + 1 ≤ g
      above e = let ne : g ≡ k → ⊥ = λ q. clash (nat_eq g k) (ap (λ z. nat_eq z k) q ∙ same k) e in grind (arith, le, ne)

      by : (b : Bool) → a k ≡ b → (e : Bool) → nat_eq g k ≡ e → (k + 1 ≤ g → Contains (filter a (range_with_len (k + 1) n)) g) → Contains (cond b (k ∷ filter a (range_with_len (k + 1) n)) (filter a (range_with_len (k + 1) n))) g
      by true q true e old = subst (λ z. Contains (k ∷ filter a (range_with_len (k + 1) n)) z) (sym (eqb-true g k e)) (contains_first k (filter a (range_with_len (k + 1) n)))
      by true q false e old = contains_later k g (filter a (range_with_len (k + 1) n)) (old (above e))
      by false q true e old = absurd (clash (a k) (subst (λ z. a z ≡ true) (eqb-true g k e) h) q)
      by false q false e old = old (above e)

  -- the list ascends, from this number on
  abbrev AscendsFrom : ℕ → List ℕ → Type 0
  AscendsFrom k [] = Unit {0}
  AscendsFrom k (f ∷ fs) = (k ≤ f) × AscendsFrom (f + 1) fs

  lower : (k : ℕ) (fs : List ℕ) → AscendsFrom (k + 1) fs → AscendsFrom k fs
  lower k [] h = tt
  lower k (f ∷ fs) h = (let l = h.0 in omega arith, h.1)

  filter_ascends : (k n : ℕ) → AscendsFrom k (filter a (range_with_len k n))
  filter_ascends k zero = tt
  filter_ascends k (suc n) = by (a k) (filter_ascends (k + 1) n)
    where
      by : (b : Bool) → AscendsFrom (k + 1) (filter a (range_with_len (k + 1) n)) → AscendsFrom k (cond b (k ∷ filter a (range_with_len (k + 1) n)) (filter a (range_with_len (k + 1) n)))
      by true h = (omega arith, h)
      by false h = lower k (filter a (range_with_len (k + 1) n)) h

  ascends : (k : ℕ) (fs : List ℕ) → AscendsFrom k fs → Ascends fs
  ascends k [] h = tt
  ascends k (f ∷ []) h = tt
  ascends k (f ∷ (g ∷ fs)) h = (let l = h.1.0 in omega arith, ascends (f + 1) (g ∷ fs) h.1)

  below_has : (n g : ℕ) → Contains (below n a) g → a g ≡ true
  below_has n g c = (in_filter 0 n g c).1

  has_below : (n g : ℕ) → g < n → a g ≡ true → Contains (below n a) g
  has_below n g lt h = filter_in 0 n g (omega arith) (omega arith) h

  below_ascends : (n : ℕ) → Ascends (below n a)
  below_ascends n = ascends 0 (below n a) (filter_ascends 0 n)

-- What is placed

-- a set has what a list has
record Lists (placed : Members) (before : List ℕ) : Type 0 where
  sound : (f : ℕ) → placed f ≡ true → Contains before f
  complete : (f : ℕ) → Contains before f → placed f ≡ true

lists_none : Lists none []
lists_none = record { sound = λ f e. absurd (cc); complete = λ f c. absurd (contains_none f c) }

lists_more : (n : ℕ) (a placed : Members) (before : List ℕ) → ((f : ℕ) → a f ≡ true → f < n) → Lists placed before → Lists (joined placed a) (before ++ below n a)
lists_more n a placed before low l = record {
  sound = λ f h. sound_by f (or_cases (placed f) (a f) h);
  complete = λ f c. complete_by f (Contains-append_cases before (below n a) f c);
}
  where
    sound_by : (f : ℕ) → (placed f ≡ true) ⊎ (a f ≡ true) → Contains (before ++ below n a) f
    sound_by f (inl e) = Contains-append_left before (below n a) f (l.sound f e)
    sound_by f (inr e) = Contains-append_right before (below n a) f (has_below a n f (low f e) e)

    complete_by : (f : ℕ) → Contains before f ⊎ Contains (below n a) f → joined placed a f ≡ true
    complete_by f (inl c) = or_left (placed f) (a f) (l.complete f c)
    complete_by f (inr c) = or_right (placed f) (a f) (below_has a n f c)

-- one of the first, or another, is missing in a set
record Missing (a b : Members) : Type 0 where
  place : ℕ
  there : a place ≡ true
  gone : b place ≡ false

missing_or : (n : ℕ) (a b : Members) → ((f : ℕ) → f < n → a f ≡ true → b f ≡ true) ⊎ Missing a b
missing_or zero a b = inl (λ f lt h. absurd (omega arith))
missing_or (suc n) a b = by (cases_Bool (a n)) (cases_Bool (b n)) (missing_or n a b)
  where
    below_or : (f : ℕ) → f < suc n → (f ≡ n → ⊥) → f < n
    below_or f lt ne = grind (arith, lt, ne)

    more : (a n ≡ true → b n ≡ true) → ((f : ℕ) → f < n → a f ≡ true → b f ≡ true) → (f : ℕ) → f < suc n → a f ≡ true → b f ≡ true
    more last old f lt h = at (nat_eq f n) refl
      where
        at : (e : Bool) → nat_eq f n ≡ e → b f ≡ true
        at true e = let i = eqb-true f n e in subst (λ z. b z ≡ true) (sym i) (last (subst (λ z. a z ≡ true) i h))
        at false e = old f (below_or f lt (λ q. clash (nat_eq f n) (ap (λ z. nat_eq z n) q ∙ same n) e)) h

    by : (a n ≡ true) ⊎ (a n ≡ false) → (b n ≡ true) ⊎ (b n ≡ false) → ((f : ℕ) → f < n → a f ≡ true → b f ≡ true) ⊎ Missing a b → ((f : ℕ) → f < suc n → a f ≡ true → b f ≡ true) ⊎ Missing a b
    by p q (inr m) = inr m
    by p (inl q) (inl h) = inl (more (λ w. q) h)
    by (inl p) (inr q) (inl h) = inr (record { place = n; there = p; gone = q })
    by (inr p) (inr q) (inl h) = inl (more (λ w. absurd (clash (a n) w p)) h)

-- how many of the first k pass
abbrev pub count : (ℕ → Bool) → ℕ → ℕ
count q zero = 0
count q (suc k) = cond (q k) 1 0 + count q k

count_le : (q r : ℕ → Bool) (k : ℕ) → ((j : ℕ) → q j ≡ true → r j ≡ true) → count q k ≤ count r k
count_le q r zero h = omega arith
count_le q r (suc k) h = by (q k) (r k) (h k) (count_le q r k h)
  where
    by : (a b : Bool) → (a ≡ true → b ≡ true) → count q k ≤ count r k → cond a 1 0 + count q k ≤ cond b 1 0 + count r k
    by true true i l = omega (arith, l)
    by true false i l = let w = i refl in absurd (cc)
    by false true i l = omega (arith, l)
    by false false i l = omega (arith, l)

pub count_less : (q r : ℕ → Bool) (k j : ℕ) → ((j : ℕ) → q j ≡ true → r j ≡ true) → j < k → q j ≡ false → r j ≡ true → count q k < count r k
count_less q r zero j h lt a b = absurd (omega arith)
count_less q r (suc k) j h lt a b = by_place (nat_eq j k) refl (count_less q r k j h)
  where
    by : (c d : Bool) → (c ≡ true → d ≡ true) → count q k < count r k → cond c 1 0 + count q k < cond d 1 0 + count r k
    by true true i l = omega (arith, l)
    by true false i l = let w = i refl in absurd (cc)
    by false true i l = omega (arith, l)
    by false false i l = omega (arith, l)

    by_place : (e : Bool) → nat_eq j k ≡ e → (j < k → q j ≡ false → r j ≡ true → count q k < count r k) → cond (q k) 1 0 + count q k < cond (r k) 1 0 + count r k
    by_place true e old =
        let i = eqb-true j k e in
        let qk : q k ≡ false = ap q (sym i) ∙ a in
        let rk : r k ≡ true = ap r (sym i) ∙ b in
        subst (λ c. cond c 1 0 + count q k < cond (r k) 1 0 + count r k) (sym qk) (subst (λ c. 0 + count q k < cond c 1 0 + count r k) (sym rk) (let l = count_le q r k h in omega (arith, l)))
    by_place false e old = by (q k) (r k) (h k) (old (below (λ i. let s : nat_eq j k ≡ true = ap (λ z. nat_eq z k) i ∙ same k in absurd (cc))) a b)
      where
        below : (j ≡ k → ⊥) → j < k
        below ne = grind (arith, lt, ne)

-- how many of the first n are not placed
abbrev pub open_count : Members → ℕ → ℕ
open_count placed n = count (λ f. not (placed f)) n

-- The steps of the loop

module _ (rows : Table) (n : ℕ) where
  ready_as : (ws vs : ℕ → Members) (placed : Members) (f : ℕ) → ws f ≡ vs f → IsReady ws placed f → IsReady vs placed f
  ready_as ws vs placed f e r = record { new = r.new; served = λ g h. r.served g (ap (λ m. m g) e ∙ h) }

  -- what the table says is so of the sets
  pub next_read : (made read : List FunctionSet) (placed : Members) (f : ℕ) → Waiting rows n (rows_of made) → read ≡ made → IsNext (row_at (rows_of read)) (length read) placed f → IsNext (waits rows) n placed f
  next_read made read placed f waiting same h = record {
    low = low f h.low;
    ready = ready_as (row_at (rows_of read)) (waits rows) placed f (each f (low f h.low)) h.ready;
    first = λ g lt r. h.first g lt (ready_as (waits rows) (row_at (rows_of read)) placed g (sym (each g (let l = low f h.low in omega arith))) r);
  }
    where
      w : Waiting rows n (rows_of read)
      w = subst (λ ws. Waiting rows n (rows_of ws)) (sym same) waiting

      each : (g : ℕ) → g < n → row_at (rows_of read) g ≡ waits rows g
      each g lt = w.each g lt

      low : (g : ℕ) → g < length read → g < n
      low g lt = let count = rows_length read in let len = w.len in omega arith

  front_more : (gs : List (List ℕ)) (placed last : Members) (f : ℕ) → Front rows n placed gs last → IsNext (waits rows) n last f → Front rows n placed (gs ++ below n (group rows f) ∷ []) (joined last (group rows f))
  front_more [] placed last f h next = (f, subst (λ p. IsNext (waits rows) n p f) (sym h) next, refl, ap (λ p. joined p (group rows f)) h)
  front_more (g ∷ gs) placed last f h next = (h.0, h.1, h.2, front_more gs (joined placed (group rows h.0)) last f h.3 next)

  pub front_step : (start placed after : Members) (gs more : List (List ℕ)) (g : List ℕ) (f : ℕ) → Front rows n start gs placed → IsNext (waits rows) n placed f → g ≡ below n (group rows f) → after ≡ joined placed (group rows f) → more ≡ gs ++ g ∷ [] → Front rows n start more after
  front_step start placed after gs more g f h next e p q =
      subst (λ xs. Front rows n start xs after) (sym (q ∙ ap (λ z. gs ++ z ∷ []) e))
      (subst (λ r. Front rows n start (gs ++ below n (group rows f) ∷ []) r) (sym p) (front_more gs start placed f h next))

  pub step_smaller : (placed after : Members) (f : ℕ) → IsNext (waits rows) n placed f → after ≡ joined placed (group rows f) → open_count after n < open_count placed n
  step_smaller placed after f next e =
      let own : group rows f f ≡ true = or_right (row_at rows f f && row_at rows f f) (nat_eq f f) (same f) in
      let gone : not (joined placed (group rows f) f) ≡ false = ap not (or_right (placed f) (group rows f f) own) in
      subst (λ p. open_count p n < open_count placed n) (sym e)
      (count_less (λ j. not (joined placed (group rows f) j)) (λ j. not (placed j)) n f (λ j h. kept (placed j) (group rows f j) h) next.low gone (not_from_false (placed f) next.ready.new))
    where
      kept : (a b : Bool) → not (a || b) ≡ true → not a ≡ true
      kept true b h = h
      kept false b h = refl

-- The order

module _ (P : Prog) where
  -- a function waits for what it reaches and what does not reach it
  waits_reached : (f g : ℕ) → waits (led P) f g ≡ true → Reaches P f g
  waits_reached f g h = led_sound P f g (and_parts (row_at (led P) f g) (not (row_at (led P) g f)) h).0

  waits_apart : (f g : ℕ) → waits (led P) f g ≡ true → Reaches P g f → ⊥
  waits_apart f g h r = by (led_complete P r)
    where
      to : row_at (led P) f g ≡ true
      to = (and_parts (row_at (led P) f g) (not (row_at (led P) g f)) h).0

      back : row_at (led P) g f ≡ false
      back = not-true (row_at (led P) g f) (and_parts (row_at (led P) f g) (not (row_at (led P) g f)) h).1

      by : (g ≡ f) ⊎ (row_at (led P) g f ≡ true) → ⊥
      by (inl e) = clash (row_at (led P) f f) (subst (λ z. row_at (led P) f z ≡ true) e to) (subst (λ z. row_at (led P) z f ≡ false) e back)
      by (inr e) = clash (row_at (led P) g f) e back

  apart_waits : (f g : ℕ) → Reaches P f g → (Reaches P g f → ⊥) → waits (led P) f g ≡ true
  apart_waits f g r no_ = by (led_complete P r)
    where
      off : (b : Bool) → row_at (led P) g f ≡ b → b ≡ false
      off true q = absurd (no_ (led_sound P g f q))
      off false q = refl

      by : (f ≡ g) ⊎ (row_at (led P) f g ≡ true) → waits (led P) f g ≡ true
      by (inl e) = absurd (no_ (subst (λ z. Reaches P z f) e here))
      by (inr e) = and_from (row_at (led P) f g) (not (row_at (led P) g f)) e (not_from_false (row_at (led P) g f) (off (row_at (led P) g f) refl))

  group_sound : (f g : ℕ) → group (led P) f g ≡ true → Together P f g
  group_sound f g h = by (or_cases (row_at (led P) f g && row_at (led P) g f) (nat_eq g f) h)
    where
      by : ((row_at (led P) f g && row_at (led P) g f) ≡ true) ⊎ (nat_eq g f ≡ true) → Together P f g
      by (inl e) = (led_sound P f g (and_parts (row_at (led P) f g) (row_at (led P) g f) e).0, led_sound P g f (and_parts (row_at (led P) f g) (row_at (led P) g f) e).1)
      by (inr e) = let i = eqb-true g f e in (subst (λ z. Reaches P f z) (sym i) here, subst (λ z. Reaches P z f) (sym i) here)

  group_complete : (f g : ℕ) → Together P f g → group (led P) f g ≡ true
  group_complete f g t = by (led_complete P t.0) (led_complete P t.1)
    where
      is_same : f ≡ g → group (led P) f g ≡ true
      is_same e = or_right (row_at (led P) f g && row_at (led P) g f) (nat_eq g f) (ap (λ z. nat_eq z f) (sym e) ∙ same f)

      by : (f ≡ g) ⊎ (row_at (led P) f g ≡ true) → (g ≡ f) ⊎ (row_at (led P) g f ≡ true) → group (led P) f g ≡ true
      by (inl e) back = is_same e
      by (inr e) (inl i) = is_same (sym i)
      by (inr e) (inr i) = or_left (row_at (led P) f g && row_at (led P) g f) (nat_eq g f) (and_from (row_at (led P) f g) (row_at (led P) g f) e i)

  -- a function that is ready may come next
  may_come : (placed : Members) (before : List ℕ) (f : ℕ) → Lists placed before → f < length P → IsReady (waits (led P)) placed f → MayCome P before f
  may_come placed before f l lt ready = record {
    is_function = lt;
    new = λ c. clash (placed f) (l.complete f c) ready.new;
    ready = λ g r. by g r (cases_Bool (placed g)) (cases_Bool (leads (led P) g f));
  }
    where
      by : (g : ℕ) → Reaches P f g → (placed g ≡ true) ⊎ (placed g ≡ false) → (leads (led P) g f ≡ true) ⊎ (leads (led P) g f ≡ false) → Contains before g ⊎ Reaches P g f
      by g r (inl p) b = inl (l.sound g p)
      by g r (inr p) (inl b) = inr (leads_sound P g f b)
      by g r (inr p) (inr b) =
          let w = apart_waits f g r (λ back. clash (leads (led P) g f) (leads_complete P g f back) b) in
          absurd (clash (placed g) (ready.served g w) p)

  came : (placed : Members) (before : List ℕ) (f : ℕ) → Lists placed before → MayCome P before f → IsReady (waits (led P)) placed f
  came placed before f l m = record {
    new = open_by (placed f) refl;
    served = λ g h. served_by g h (m.ready g (waits_reached f g h));
  }
    where
      open_by : (b : Bool) → placed f ≡ b → b ≡ false
      open_by true q = absurd (m.new (l.sound f q))
      open_by false q = refl

      served_by : (g : ℕ) → waits (led P) f g ≡ true → Contains before g ⊎ Reaches P g f → placed g ≡ true
      served_by g h (inl c) = l.complete g c
      served_by g h (inr r) = absurd (waits_apart f g h r)

  -- where a function is not placed, one is ready
  some_ready : (m : ℕ) (placed : Members) (f : ℕ) → NoneIsReady (waits (led P)) (length P) placed → count (leads (led P) f) (length P) < m → f < length P → placed f ≡ false → ⊥
  some_ready zero placed f none_left lt low new = absurd (omega arith)
  some_ready (suc m) placed f none_left lt low new = by (missing_or (length P) (waits (led P) f) placed) (some_ready m placed)
    where
      by : ((g : ℕ) → g < length P → waits (led P) f g ≡ true → placed g ≡ true) ⊎ Missing (waits (led P) f) placed → ((g : ℕ) → NoneIsReady (waits (led P)) (length P) placed → count (leads (led P) g) (length P) < m → g < length P → placed g ≡ false → ⊥) → ⊥
      by (inl all) old = none_left f low (record { new = new; served = λ g h. all g (reaches_low P low (waits_reached f g h)) h })
      by (inr w) old =
          let g = w.place in
          let to_g : Reaches P f g = waits_reached f g w.there in
          let apart : leads (led P) g f ≡ false = off (leads (led P) g f) refl in
          let less = count_less (leads (led P) g) (leads (led P) f) (length P) f
          (λ j h. leads_complete P f j (reaches_more P to_g (leads_sound P g j h))) low apart (leads_complete P f f here) in
          old g none_left (omega (arith, less)) (reaches_low P low to_g) w.gone
        where
          off : (b : Bool) → leads (led P) w.place f ≡ b → b ≡ false
          off true q = absurd (waits_apart f w.place w.there (leads_sound P w.place f q))
          off false q = refl

  comes : (placed : Members) (before : List ℕ) (f : ℕ) → Lists placed before → IsNext (waits (led P)) (length P) placed f → ComesNext P before (below (length P) (group (led P) f))
  comes placed before f l next = record {
    least = f;
    may_come = may_come placed before f l next.low next.ready;
    is_least = λ g m. least_by g (came placed before g l m);
    members = λ g. (
      λ c. group_sound f g (below_has (group (led P) f) (length P) g c),
      λ t. has_below (group (led P) f) (length P) g (reaches_low P next.low t.0) (group_complete f g t),
    );
    ascends = below_ascends (group (led P) f) (length P);
  }
    where
      least_by : (g : ℕ) → IsReady (waits (led P)) placed g → f ≤ g
      least_by g r = by (nat_lt g f) refl
        where
          by : (b : Bool) → nat_lt g f ≡ b → f ≤ g
          by true q = absurd (next.first g (ltb-true g f q) r)
          by false q = ltb-false g f q

  in_order : (gs : List (List ℕ)) (placed last : Members) (before : List ℕ) → Lists placed before → Front (led P) (length P) placed gs last → NoneIsReady (waits (led P)) (length P) last → AreInOrder P before gs
  in_order [] placed last before l h none_left = λ f lt. by f lt (cases_Bool (placed f))
    where
      by : (f : ℕ) → f < length P → (placed f ≡ true) ⊎ (placed f ≡ false) → Contains before f
      by f lt (inl q) = l.sound f q
      by f lt (inr q) = absurd (some_ready (suc (count (leads (led P) f) (length P))) placed f (subst (NoneIsReady (waits (led P)) (length P)) (sym h) none_left) (omega arith) lt q)
  in_order (g ∷ gs) placed last before l h none_left = (
    subst (λ z. ComesNext P before z) (sym h.2) (comes placed before h.0 l h.1),
    in_order gs (joined placed (group (led P) h.0)) last (before ++ g)
        (subst (λ z. Lists (joined placed (group (led P) h.0)) (before ++ z)) (sym h.2)
        (lists_more (length P) (group (led P) h.0) placed before (λ f q. reaches_low P h.1.low (group_sound h.0 f q).0) l)) h.3 none_left,
  )

  pub groups_in_order : (rows : Table) (n : ℕ) (gs : List (List ℕ)) → rows ≡ led P → n ≡ length P → Placed rows n gs → AreInOrder P [] gs
  groups_in_order rows n gs r c h =
      let placed : Placed (led P) (length P) gs = subst (λ z. Placed z (length P) gs) r (subst (λ z. Placed rows z gs) c h) in
      in_order gs none placed.last [] lists_none placed.front placed.none_left
