-- What stands at an unknown in a list of terms, and what an edit of the list does to it.
use Rattle.std.proofs.Common.{◌≡◌, ℕ, zero, suc, ◌<◌, ◌≢◌, [], ◌∷◌, length, set, if◌then◌else◌, eqb, refl, arith, ℤ, pos}
use Rattle.std.specs.List.{insert, remove}
use Rattle.std.proofs.lemmas.Bool.Decides.{nat_tests}
use Rattle.linear_rows.specs.Terms.{Terms, coefficient, unknown_at, number_at, IsAt}

-- no term before place i has the unknown
abbrev pub NoneBefore : Terms → ℕ → ℕ → Type 0
NoneBefore ts u i = (j : ℕ) → j < i → unknown_at ts j ≢ u

-- no term after place i has the unknown
abbrev pub NoneAfter : Terms → ℕ → ℕ → Type 0
NoneAfter ts u i = (j : ℕ) → i < j → j < length ts → unknown_at ts j ≢ u

-- new has c at u, and as old at any other unknown
abbrev pub Puts : Terms → Terms → ℕ → ℤ → Type 0
Puts old new u c = (v : ℕ) → coefficient v new ≡ (if eqb u v then c else coefficient v old)

none_before_tail : (x : ℕ × ℤ) (ts : Terms) (u i : ℕ) → NoneBefore (x ∷ ts) u (suc i) → NoneBefore ts u i
none_before_tail x ts u i none j lt = none (suc j) (omega arith)

is_at_tail : (x : ℕ × ℤ) (ts : Terms) (u i : ℕ) → IsAt (x ∷ ts) u (suc i) → IsAt ts u i
is_at_tail x ts u i is_at = record { in_range = omega (arith, is_at.in_range); has_unknown = is_at.has_unknown }

-- an unknown that no term has
pub coefficient_absent : (ts : Terms) (u : ℕ) → NoneBefore ts u (length ts) → coefficient u ts ≡ pos 0
coefficient_absent [] u none = refl
coefficient_absent (x ∷ ts) u none = grind (arith, nat_tests, none 0 (omega arith), coefficient_absent ts u (none_before_tail x ts u _ none))

-- the first term that has the unknown gives its number
pub coefficient_present : (ts : Terms) (u i : ℕ) → IsAt ts u i → NoneBefore ts u i → coefficient u ts ≡ number_at ts i
coefficient_present [] u i is_at none = absurd (omega (arith, is_at.in_range))
coefficient_present (x ∷ ts) u zero is_at none = grind (arith, nat_tests, is_at.has_unknown)
coefficient_present (x ∷ ts) u (suc i) is_at none = grind (arith, nat_tests, none 0 (omega arith), coefficient_present ts u i (is_at_tail x ts u i is_at) (none_before_tail x ts u i none))

-- writing over the first term that has the unknown sets its number
pub coefficient_set : (ts : Terms) (u : ℕ) (c : ℤ) (i : ℕ) → IsAt ts u i → NoneBefore ts u i → Puts ts (set ts i (u, c)) u c
coefficient_set [] u c i is_at none v = absurd (omega (arith, is_at.in_range))
coefficient_set (x ∷ ts) u c zero is_at none v = grind (arith, nat_tests, is_at.has_unknown)
coefficient_set (x ∷ ts) u c (suc i) is_at none v = grind (arith, nat_tests, none 0 (omega arith), coefficient_set ts u c i (is_at_tail x ts u i is_at) (none_before_tail x ts u i none) v)

-- so does a new term before any that has the unknown
pub coefficient_insert : (ts : Terms) (u : ℕ) (c : ℤ) (i : ℕ) → NoneBefore ts u i → Puts ts (insert ts i (u, c)) u c
coefficient_insert ts u c zero none v = refl
coefficient_insert [] u c (suc i) none v = refl
coefficient_insert (x ∷ ts) u c (suc i) none v = grind (arith, nat_tests, none 0 (omega arith), coefficient_insert ts u c i (none_before_tail x ts u i none) v)

-- taking out the only term that has the unknown leaves 0 there
pub coefficient_remove : (ts : Terms) (u i : ℕ) → IsAt ts u i → NoneBefore ts u i → NoneAfter ts u i → Puts ts (remove ts i) u (pos 0)
coefficient_remove [] u i is_at none after v = absurd (omega (arith, is_at.in_range))
coefficient_remove (x ∷ ts) u zero is_at none after v = grind (arith, nat_tests, is_at.has_unknown, coefficient_absent ts u (λ j lt. after (suc j) (omega arith) (omega arith)))
coefficient_remove (x ∷ ts) u (suc i) is_at none after v =
    grind (arith, nat_tests, none 0 (omega arith), coefficient_remove ts u i (is_at_tail x ts u i is_at) (none_before_tail x ts u i none) (λ j lt in_range. after (suc j) (omega arith) (omega arith)) v)
