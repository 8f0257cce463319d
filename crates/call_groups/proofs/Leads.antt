-- What a function leads to is what it reaches.
use Rattle.std.proofs.Common.{◌≡◌, ◌<◌, ◌≤◌, ◌+◌, ℕ, zero, suc, [], ◌∷◌, map, length, Bool, true, false, cond, ◌⊎◌, inl, inr, refl, sym, ap, subst, ◌∙◌, arith}
use Rattle.std.proofs.lemmas.Bool.{eqb-true, eqb-false, ne_eqb, or_left, or_right, or_cases, and_from, and_parts}
use Rattle.std.specs.Prelude.{nat_eq, ◌||◌, ◌&&◌}
use Rattle.std.proofs.lemmas.List.{length-map}
use Rattle.raml_syntax.specs.Tree.{Prog}
use Rattle.call_groups.specs.Groups.{Reaches, here, there}
use Rattle.call_groups.specs.Sets.{Members, with_one, joined}
use Rattle.call_groups.specs.Table.{Table, row_at, through_row, through, through_all, call_table}
use Rattle.call_groups.proofs.Marks.{table_calls, table_count, calls_low}
use Rattle.call_groups.proofs.Truths.{same, or_none}

row_through : (k : ℕ) (middle : Members) (rows : Table) (i : ℕ) → row_at (map (through_row k middle) rows) i ≡ through_row k middle (row_at rows i)
row_through k middle [] i = refl
row_through k middle (r ∷ rows) zero = refl
row_through k middle (r ∷ rows) (suc i) = row_through k middle rows i

at_through : (k : ℕ) (rows : Table) (i j : ℕ) → row_at (through k rows) i j ≡ (row_at rows i j || (row_at rows i k && row_at rows k j))
at_through k rows i j = ap (λ r. r j) (row_through k (row_at rows k) rows i) ∙ by (row_at rows i k)
  where
    by : (b : Bool) → cond b (joined (row_at rows i) (row_at rows k)) (row_at rows i) j ≡ (row_at rows i j || (b && row_at rows k j))
    by true = refl
    by false = or_none (row_at rows i j)

through_count : (k : ℕ) (rows : Table) → length (through_all k rows) ≡ length rows
through_count zero rows = refl
through_count (suc k) rows = length-map (through_all k rows) (through_row k (row_at (through_all k rows) k)) ∙ through_count k rows

-- the set has those of the first k functions that lead to this one
pub record Leading (rows : Table) (f k : ℕ) (set : Members) : Type 0 where
  pub there : (g : ℕ) → g < k → set g ≡ row_at rows g f
  pub rest : (g : ℕ) → k ≤ g → set g ≡ false

-- one more function leads to this one, or does not
leading_more : (rows : Table) (f k : ℕ) (before after : Members) → ((g : ℕ) → (g ≡ k → ⊥) → after g ≡ before g) → after k ≡ row_at rows k f → Leading rows f k before → Leading rows f (k + 1) after
leading_more rows f k before after others last l = record {
  there = λ g lt. there_by g lt (nat_eq g k) refl;
  rest = λ g le. others g (λ e. absurd (omega arith)) ∙ l.rest g (omega arith);
}
  where
    below : (g : ℕ) → g < k + 1 → (g ≡ k → ⊥) → g < k
    below g lt ne = grind (arith, lt, ne)

    there_by : (g : ℕ) → g < k + 1 → (e : Bool) → nat_eq g k ≡ e → after g ≡ row_at rows g f
    there_by g lt true e = let i = eqb-true g k e in ap after i ∙ last ∙ ap (λ z. row_at rows z f) (sym i)
    there_by g lt false e = let ne = eqb-false g k e in others g ne ∙ l.there g (below g lt ne)

pub leading_with : (rows : Table) (f k : ℕ) (before after : Members) → row_at rows k f ≡ true → after ≡ with_one k before → Leading rows f k before → Leading rows f (k + 1) after
leading_with rows f k before after h e l =
    leading_more rows f k before after
    (λ g ne. ap (λ r. r g) e ∙ ap (λ b. before g || b) (apart g ne) ∙ sym (or_none (before g)))
    (ap (λ r. r k) e ∙ or_right (before k) (nat_eq k k) (same k) ∙ sym h) l
  where
    apart : (g : ℕ) → (g ≡ k → ⊥) → nat_eq g k ≡ false
    apart g ne = ne_eqb g k ne

pub leading_without : (rows : Table) (f k : ℕ) (before after : Members) → row_at rows k f ≡ false → after ≡ before → Leading rows f k before → Leading rows f (k + 1) after
leading_without rows f k before after h e l =
    leading_more rows f k before after (λ g ne. ap (λ r. r g) e) (ap (λ r. r k) e ∙ l.rest k (omega arith) ∙ sym h) l

-- what each function leads to
abbrev pub led : Prog → Table
led P = through_all (length P) (call_table P)

-- a function is another, or leads to it
abbrev pub leads : Table → ℕ → ℕ → Bool
leads rows f g = nat_eq f g || row_at rows f g

module _ (P : Prog) where
  -- a path by calls, of which each function between is one of the first k
  abbrev R : ℕ → ℕ → ℕ → Bool
  R k i j = row_at (through_all k (call_table P)) i j

  step : (k i j : ℕ) → R (suc k) i j ≡ (R k i j || (R k i k && R k k j))
  step k i j = at_through k (through_all k (call_table P)) i j

  step_in : (k i j : ℕ) → R (suc k) i j ≡ true → (R k i j ≡ true) ⊎ ((R k i k ≡ true) × (R k k j ≡ true))
  step_in k i j h = by (or_cases (R k i j) (R k i k && R k k j) (sym (step k i j) ∙ h))
    where
      by : (R k i j ≡ true) ⊎ ((R k i k && R k k j) ≡ true) → (R k i j ≡ true) ⊎ ((R k i k ≡ true) × (R k k j ≡ true))
      by (inl e) = inl e
      by (inr e) = inr ((and_parts (R k i k) (R k k j) e).0, (and_parts (R k i k) (R k k j) e).1)

  step_stay : (k i j : ℕ) → R k i j ≡ true → R (suc k) i j ≡ true
  step_stay k i j h = step k i j ∙ or_left (R k i j) (R k i k && R k k j) h

  step_over : (k i j : ℕ) → R k i k ≡ true → R k k j ≡ true → R (suc k) i j ≡ true
  step_over k i j h g = step k i j ∙ or_right (R k i j) (R k i k && R k k j) (and_from (R k i k) (R k k j) h g)

  to_last : (k i : ℕ) → R (suc k) i k ≡ true → R k i k ≡ true
  to_last k i h = by (step_in k i k h)
    where
      by : (R k i k ≡ true) ⊎ ((R k i k ≡ true) × (R k k k ≡ true)) → R k i k ≡ true
      by (inl e) = e
      by (inr e) = e.0

  from_last : (k j : ℕ) → R (suc k) k j ≡ true → R k k j ≡ true
  from_last k j h = by (step_in k k j h)
    where
      by : (R k k j ≡ true) ⊎ ((R k k k ≡ true) × (R k k j ≡ true)) → R k k j ≡ true
      by (inl e) = e
      by (inr e) = e.1

  -- a path over one of the first k functions
  joins : (k m i j : ℕ) → m < k → R k i m ≡ true → R k m j ≡ true → R k i j ≡ true
  joins zero m i j lt a b = absurd (omega arith)
  joins (suc k) m i j lt a b = by_place (nat_eq m k) refl (joins k m)
    where
      old : ((i j : ℕ) → R k i m ≡ true → R k m j ≡ true → R k i j ≡ true) → (R k i m ≡ true) ⊎ ((R k i k ≡ true) × (R k k m ≡ true)) → (R k m j ≡ true) ⊎ ((R k m k ≡ true) × (R k k j ≡ true)) → R (suc k) i j ≡ true
      old l (inl c) (inl d) = step_stay k i j (l i j c d)
      old l (inl c) (inr d) = step_over k i j (l i k c d.0) d.1
      old l (inr c) (inl d) = step_over k i j c.0 (l k j c.1 d)
      old l (inr c) (inr d) = step_over k i j c.0 d.1

      by_place : (e : Bool) → nat_eq m k ≡ e → ((i j : ℕ) → m < k → R k i m ≡ true → R k m j ≡ true → R k i j ≡ true) → R (suc k) i j ≡ true
      by_place true e l =
          let q = eqb-true m k e in
          step_over k i j (to_last k i (subst (λ z. R (suc k) i z ≡ true) q a)) (from_last k j (subst (λ z. R (suc k) z j ≡ true) q b))
      by_place false e l = old (λ i j. l i j (below (λ q. let s : nat_eq m k ≡ true = ap (λ z. nat_eq z k) q ∙ same k in absurd (cc)))) (step_in k i m a) (step_in k m j b)
        where
          below : (m ≡ k → ⊥) → m < k
          below ne = grind (arith, lt, ne)

  reaches_on : {f g h : ℕ} → Reaches P f g → Reaches P g h → Reaches P f h
  reaches_on here r = r
  reaches_on (there c q) r = there c (reaches_on q r)

  sound : (k i j : ℕ) → R k i j ≡ true → Reaches P i j
  sound zero i j h = there (sym (table_calls P i j) ∙ h) here
  sound (suc k) i j h = by (sound k) (step_in k i j h)
    where
      by : ((i j : ℕ) → R k i j ≡ true → Reaches P i j) → (R k i j ≡ true) ⊎ ((R k i k ≡ true) × (R k k j ≡ true)) → Reaches P i j
      by old (inl e) = old i j e
      by old (inr e) = reaches_on (old i k e.0) (old k j e.1)

  grows : (k i j : ℕ) → R 0 i j ≡ true → R k i j ≡ true
  grows zero i j h = h
  grows (suc k) i j h = step_stay k i j (grows k i j h)

  complete : {f g : ℕ} → Reaches P f g → (f ≡ g) ⊎ (R (length P) f g ≡ true)
  complete here = inl refl
  complete {f} {g = h} (there {g = g} c r) = by (complete r)
    where
      first : R (length P) f g ≡ true
      first = grows (length P) f g (table_calls P f g ∙ c)

      by : (g ≡ h) ⊎ (R (length P) g h ≡ true) → (f ≡ h) ⊎ (R (length P) f h ≡ true)
      by (inl e) = inr (subst (λ z. R (length P) f z ≡ true) e first)
      by (inr e) = inr (joins (length P) g f h (calls_low P f g c) first e)

  pub led_count : length (led P) ≡ length P
  led_count = through_count (length P) (call_table P) ∙ table_count P

  -- a function that is led to is reached
  pub led_sound : (f g : ℕ) → row_at (led P) f g ≡ true → Reaches P f g
  led_sound f g h = sound (length P) f g h

  pub leads_sound : (f g : ℕ) → leads (led P) f g ≡ true → Reaches P f g
  leads_sound f g h = by (or_cases (nat_eq f g) (row_at (led P) f g) h)
    where
      by : (nat_eq f g ≡ true) ⊎ (row_at (led P) f g ≡ true) → Reaches P f g
      by (inl e) = subst (λ z. Reaches P f z) (eqb-true f g e) here
      by (inr e) = sound (length P) f g e

  -- one that is reached is the function itself, or is led to
  pub led_complete : {f g : ℕ} → Reaches P f g → (f ≡ g) ⊎ (row_at (led P) f g ≡ true)
  led_complete r = complete r

  pub leads_complete : (f g : ℕ) → Reaches P f g → leads (led P) f g ≡ true
  leads_complete f g r = by (complete r)
    where
      by : (f ≡ g) ⊎ (row_at (led P) f g ≡ true) → leads (led P) f g ≡ true
      by (inl e) = or_left (nat_eq f g) (row_at (led P) f g) (ap (λ z. nat_eq f z) (sym e) ∙ same f)
      by (inr e) = or_right (nat_eq f g) (row_at (led P) f g) e

  pub reaches_low : {f g : ℕ} → f < length P → Reaches P f g → g < length P
  reaches_low lt here = lt
  reaches_low {f} lt (there {g = g} c r) = reaches_low (calls_low P f g c) r

  pub reaches_more : {f g h : ℕ} → Reaches P f g → Reaches P g h → Reaches P f h
  reaches_more q r = reaches_on q r
