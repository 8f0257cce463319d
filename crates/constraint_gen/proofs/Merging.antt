-- Two sums are gone through together, by ascending unknown.
use Rattle.std.proofs.Common.{◌≡◌, refl, ap, sym, ◌∙◌, arith, subst, inl, inr}
use Rattle.std.specs.Prelude.{ℕ, ℤ, pos, suc, ◌+◌, ◌-◌, ◌-ℤ◌, ◌^◌, ◌<◌, ◌≤◌, ◌≢◌, ◌==◌, ◌⊎◌, if◌then◌else◌, cond, nat_lt, Bool, true, false, [], ◌∷◌, length}
use Rattle.std.proofs.lemmas.Bool.Decides.{nat_tests}
use Rattle.linear_rows.specs.Terms as l
use Rattle.linear_rows.specs.Terms.{coefficient}
use Rattle.rules_spec.specs.Capped.{cap}
use Rattle.rules_spec.specs.CappedRows.{fits}
use Rattle.constraint_gen.specs.Sums.{Terms, total_of, unknown_at, IsSum, StartsFrom, first_number, behind}
use Rattle.constraint_gen.specs.Heard.{owed, surplus, IsDone, Settles}
use Rattle.constraint_gen.proofs.Sums.{sum_behind}

-- all terms have greater unknowns
abbrev pub Above : ℕ → Terms → Type 0
Above u [] = Unit {0}
Above u (t ∷ ts) = (u < t.0) × Above u ts

abbrev pub Rises : Terms → Type 0
Rises [] = Unit {0}
Rises (t ∷ ts) = Above t.0 ts × (t.1 ≤ 2 ^ 128 - 1) × Rises ts

above_each : (u : ℕ) (ts : Terms) → ((i : ℕ) → i < length ts → u < unknown_at ts i) → Above u ts
above_each u [] h = tt
above_each u (t ∷ ts) h = (h 0 (omega arith), above_each u ts (λ i b. h (suc i) (omega (arith, b))))

pub rises : (ts : Terms) → IsSum ts → Rises ts
rises [] sum = tt
rises (t ∷ ts) sum = (
  above_each t.0 ts (λ i b. sum.ascending 0 (suc i) (omega arith) (omega (arith, b))),
  sum.capped 0 (omega arith),
  rises ts (sum_behind t ts sum),
)

above_less : (u v : ℕ) (ts : Terms) → u ≤ v → Above v ts → Above u ts
above_less u v [] h a = tt
above_less u v (t ∷ ts) h a = (omega (arith, h, a.0), above_less u v ts h a.1)

none_above : (u : ℕ) (ts : Terms) → Above u ts → total_of u ts ≡ 0
none_above u [] a = refl
none_above u (t ∷ ts) a =
    let other : (t.0 == u) ≡ false = grind (arith, nat_tests, a.0) in
    let rest = none_above u ts a.1 in
    ap (λ b. (if b then t.1 else 0) + total_of u ts) other ∙ omega (arith, rest)

module _ (u : ℕ) where
  total_first : (ts : Terms) → Rises ts → StartsFrom u ts → total_of u ts ≡ first_number u ts
  total_first [] r s = refl
  total_first (t ∷ ts) r s = by (t.0 == u) (none_above u ts (above_less u t.0 ts s r.0)) where
    by : (b : Bool) → total_of u ts ≡ 0 → (if b then t.1 else 0) + total_of u ts ≡ (if b then t.1 else 0)
    by b none = omega (arith, none)

  number_low : (ts : Terms) → Rises ts → first_number u ts ≤ 2 ^ 128 - 1
  number_low [] r = omega arith
  number_low (t ∷ ts) r = by (t.0 == u) where
    by : (b : Bool) → (if b then t.1 else 0) ≤ 2 ^ 128 - 1
    by true = r.1
    by false = omega arith

  -- what is capped is the number itself
  pub number_is : (ts all : Terms) → Rises ts → StartsFrom u ts → total_of u ts ≡ total_of u all → cap (total_of u all) ≡ first_number u ts
  number_is ts all r s e = let first = total_first ts r s in let low = number_low ts r in omega (arith, first, low, e)

  above_behind : (ts : Terms) → Rises ts → StartsFrom u ts → Above u (behind u ts)
  above_behind [] r s = tt
  above_behind (t ∷ ts) r s = by (t.0 == u) refl where
    by : (b : Bool) → (t.0 == u) ≡ b → Above u (if b then ts else t ∷ ts)
    by true e = above_less u t.0 ts s r.0
    by false e = let less : u < t.0 = grind (arith, nat_tests, e, s) in (less, above_less u t.0 ts s r.0)

  rises_behind : (ts : Terms) → Rises ts → Rises (behind u ts)
  rises_behind [] r = tt
  rises_behind (t ∷ ts) r = by (t.0 == u) where
    by : (b : Bool) → Rises (if b then ts else t ∷ ts)
    by true = r.2
    by false = r

  still_above : (v : ℕ) (ts : Terms) → Above v ts → Above v (behind u ts)
  still_above v [] a = tt
  still_above v (t ∷ ts) a = by (t.0 == u) where
    by : (b : Bool) → Above v (if b then ts else t ∷ ts)
    by true = a.1
    by false = a

  total_behind : (v : ℕ) (ts : Terms) → v ≢ u → total_of v (behind u ts) ≡ total_of v ts
  total_behind v [] differs = refl
  total_behind v (t ∷ ts) differs = by (t.0 == u) refl where
    by : (b : Bool) → (t.0 == u) ≡ b → total_of v (if b then ts else t ∷ ts) ≡ (if t.0 == v then t.1 else 0) + total_of v ts
    by false e = refl
    by true e =
        let other : (t.0 == v) ≡ false = grind (arith, nat_tests, e, differs) in
        let same : total_of v ts ≡ 0 + total_of v ts = omega arith in
        same ∙ sym (ap (λ b. (if b then t.1 else 0) + total_of v ts) other)

  all_behind : (ts : Terms) → Above u ts → length (behind u ts) ≡ length ts
  all_behind [] a = refl
  all_behind (t ∷ ts) a =
      let other : (t.0 == u) ≡ false = grind (arith, nat_tests, a.0) in
      ap (λ b. length (if b then ts else t ∷ ts)) other

-- each unknown is done and behind, or not yet in the row, with all its terms ahead
pub record Merged (g : ℕ → ℤ) (left right first second : Terms) (ts : l.Terms) : Type 0 where
  pub first_rises : Rises first
  pub second_rises : Rises second
  pub each : (u : ℕ) → (IsDone g ts u × Above u first × Above u second) ⊎ ((coefficient u ts ≡ pos 0) × (total_of u first ≡ total_of u left) × (total_of u second ≡ total_of u right))

pub merged_none : (g : ℕ → ℤ) (left right first second : Terms) (ts : l.Terms) → IsSum left → IsSum right → first ≡ left → second ≡ right → ts ≡ [] → Merged g left right first second ts
merged_none g left right first second ts a b e f h =
    subst (λ xs. Merged g left right xs second ts) (sym e)
    (subst (λ ys. Merged g left right left ys ts) (sym f)
    (subst (λ us. Merged g left right left right us) (sym h)
    (record { first_rises = rises left a; second_rises = rises right b; each = λ u. inr (refl, refl, refl) })))

module _ (n : ℕ) (left right first second : Terms) (ts : l.Terms) (m : Merged (owed n left right) left right first second ts) where
  g : ℕ → ℤ
  g = owed n left right

  module _ (u : ℕ) (a : StartsFrom u first) (b : StartsFrom u second) (some : length (behind u first) + length (behind u second) < length first + length second) where
    open_at : (coefficient u ts ≡ pos 0) × (total_of u first ≡ total_of u left) × (total_of u second ≡ total_of u right)
    open_at = by (m.each u) where
      by : (IsDone (owed n left right) ts u × Above u first × Above u second) ⊎ ((coefficient u ts ≡ pos 0) × (total_of u first ≡ total_of u left) × (total_of u second ≡ total_of u right)) →
          (coefficient u ts ≡ pos 0) × (total_of u first ≡ total_of u left) × (total_of u second ≡ total_of u right)
      by (inl done) = absurd (omega (arith, some, all_behind u first done.1, all_behind u second done.2))
      by (inr ahead) = ahead

    pub absent_at : coefficient u ts ≡ pos 0
    absent_at = let o = open_at in o.0

    pub owed_is : owed n left right u ≡ surplus n u (first_number u first) (first_number u second)
    owed_is =
        let o = open_at in
        let e = number_is u first left m.first_rises a o.1 in
        let f = number_is u second right m.second_rises b o.2 in
        λ i. surplus n u (e i) (f i)

    pub merged_next : (new : l.Terms) → Settles u (surplus n u (first_number u first) (first_number u second)) ts new → Merged (owed n left right) left right (behind u first) (behind u second) new
    merged_next new s = record {
      first_rises = rises_behind u first m.first_rises;
      second_rises = rises_behind u second m.second_rises;
      each = λ v. by v (v == u) refl (m.each v);
    } where
      by : (v : ℕ) (b : Bool) → (v == u) ≡ b →
          (IsDone (owed n left right) ts v × Above v first × Above v second) ⊎ ((coefficient v ts ≡ pos 0) × (total_of v first ≡ total_of v left) × (total_of v second ≡ total_of v right)) →
          (IsDone (owed n left right) new v × Above v (behind u first) × Above v (behind u second))
          ⊎ ((coefficient v new ≡ pos 0) × (total_of v (behind u first) ≡ total_of v left) × (total_of v (behind u second) ≡ total_of v right))
      by v true e old =
          let same : v ≡ u = grind (arith, nat_tests, e) in
          inl (subst (λ w. IsDone (owed n left right) new w × Above w (behind u first) × Above w (behind u second)) (sym same)
          ((s.there ∙ sym owed_is, ap fits owed_is ∙ s.fit), above_behind u first m.first_rises a, above_behind u second m.second_rises b))
      by v false e (inl d) =
          let differs : v ≢ u = grind (arith, nat_tests, e) in
          let done = d.0 in
          inl ((s.others v differs ∙ done.0, done.1), still_above u v first d.1, still_above u v second d.2)
      by v false e (inr o) =
          let differs : v ≢ u = grind (arith, nat_tests, e) in
          inr (s.others v differs ∙ o.0, total_behind u v first differs ∙ o.1, total_behind u v second differs ∙ o.2)

pub merged_step : (n : ℕ) (left right first second later rest : Terms) (ts new : l.Terms) (u added taken : ℕ) → Merged (owed n left right) left right first second ts →
    StartsFrom u first → StartsFrom u second → length (behind u first) + length (behind u second) < length first + length second → added ≡ first_number u first → later ≡ behind u first → taken ≡ first_number u second → rest ≡ behind u second →
    Settles u (surplus n u added taken) ts new → Merged (owed n left right) left right later rest new
merged_step n left right first second later rest ts new u added taken m a b some e f h k s =
    let now : Settles u (surplus n u (first_number u first) (first_number u second)) ts new = subst (λ z. Settles u z ts new) (λ i. surplus n u (e i) (h i)) s in
    let next = merged_next n left right first second ts m u a b some new now in
    subst (λ xs. Merged (owed n left right) left right xs rest new) (sym f) (subst (λ ys. Merged (owed n left right) left right (behind u first) ys new) (sym k) next)

pub owed_there : (n : ℕ) (left right first second : Terms) (ts : l.Terms) (u added taken : ℕ) → Merged (owed n left right) left right first second ts →
    StartsFrom u first → StartsFrom u second → length (behind u first) + length (behind u second) < length first + length second → added ≡ first_number u first → taken ≡ first_number u second →
    owed n left right u ≡ surplus n u added taken
owed_there n left right first second ts u added taken m a b some e h = owed_is n left right first second ts m u a b some ∙ (λ i. surplus n u (sym e i) (sym h i))

module _ (n : ℕ) (left right : Terms) where
  -- at the end all are done
  pub merged_all : (first second : Terms) (ts : l.Terms) → Merged (owed n left right) left right first second ts → (first ≡ []) × (second ≡ []) → (u : ℕ) → IsDone (owed n left right) ts u
  merged_all first second ts m none u = by (last.each u) where
    last : Merged (owed n left right) left right [] [] ts
    last = subst (λ xs. Merged (owed n left right) left right xs [] ts) none.0 (subst (λ ys. Merged (owed n left right) left right first ys ts) none.1 m)

    zero_diff : (a b : ℕ) → a ≡ 0 → b ≡ 0 → pos a -ℤ pos b ≡ pos 0
    zero_diff a b e h = (λ i. pos (e i) -ℤ pos (h i))

    zero_in : (b : Bool) → 0 ≡ total_of u left → 0 ≡ total_of u right → cond b (pos (cap (total_of u left)) -ℤ pos (cap (total_of u right))) (pos 0) ≡ pos 0
    zero_in true e f = zero_diff (cap (total_of u left)) (cap (total_of u right)) (omega (arith, e)) (omega (arith, f))
    zero_in false e f = refl

    by : (IsDone (owed n left right) ts u × Unit {0} × Unit {0}) ⊎ ((coefficient u ts ≡ pos 0) × (0 ≡ total_of u left) × (0 ≡ total_of u right)) → IsDone (owed n left right) ts u
    by (inl d) = d.0
    by (inr o) = let zero_owed = zero_in (nat_lt u n) o.1 o.2 in (o.0 ∙ sym zero_owed, ap fits zero_owed)
