-- Tuples in a set, and their places there.
use Rattle.std.proofs.Common.{◌≡◌, ◌≤◌, ◌+◌, inl, inr, Bool, true, false, ◌||◌, if◌then◌else◌, not, cond, nat_lt, List, [], ◌∷◌, ◌++◌, fold, length, position, None, Some, refl, sym, ap, ◌∙◌, append_assoc, append-nil, arith}
use Rattle.std.proofs.lemmas.Bool.Decides.{nat_tests}
use Rattle.std.proofs.lemmas.List.Sums.{fold-append}
use Rattle.std.proofs.lemmas.List.Folds.{list_any-append}
use Rattle.std.specs.List.{list_any, position_or_len}
use Rattle.std.specs.declared.cmp.Ordering.TheVariants.{Less}
use Rattle.indexmap.specs.IndexSet.{insert_key}
use Rattle.base_poly.specs.Plain.{Plain, alike}
use Rattle.base_poly.specs.Indices.{Ascends, each_in_turn}
use Rattle.base_poly.specs.Total.{alike_is}
use Rattle.base_poly.proofs.Among.{Among, before_one}
use Rattle.base_poly.proofs.Low.{never_turn}

pub one_inserted : (ks : List (List Plain)) (ts : List (List Plain)) (t : List Plain) → fold (insert_key alike) ks (ts ++ t ∷ []) ≡ insert_key alike (fold (insert_key alike) ks ts) t
one_inserted ks ts t = fold-append (insert_key alike) ks ts (t ∷ [])

-- what is before another is not alike to it
pub other : (t u : List Plain) → each_in_turn t u ≡ Less → alike u t ≡ false
other t u h = by (alike u t) refl
  where
    by : (b : Bool) → alike u t ≡ b → alike u t ≡ false
    by true e = let again = ap (each_in_turn t) (sym (alike_is u t e)) ∙ h in absurd (never_turn t t again again)
    by false e = e

placed_behind : (ks ts : List (List Plain)) → Ascends each_in_turn ts → ((t : List Plain) → Among t ts → list_any (alike t) ks ≡ false) → fold (insert_key alike) ks ts ≡ ks ++ ts
placed_behind ks [] h fresh = sym (append-nil ks)
placed_behind ks (t ∷ ts) h fresh =
    ap (λ b. fold (insert_key alike) (if b then ks else ks ++ t ∷ []) ts) (fresh t (inl refl))
    ∙ placed_behind (ks ++ t ∷ []) ts h.1 (λ u m.
    list_any-append (alike u) ks (t ∷ [])
    ∙ (λ n. fresh u (inr m) n || (other t u (before_one each_in_turn t u ts h.0 m) n || false)))
    ∙ append_assoc ks (t ∷ []) ts

-- tuples in order are all different
pub all_placed : (ts : List (List Plain)) → Ascends each_in_turn ts → fold (insert_key alike) [] ts ≡ ts
all_placed ts h = placed_behind [] ts h (λ t m. refl)

pub at_most : (p : List Plain → Bool) (ts : List (List Plain)) → position_or_len p ts ≤ length ts
at_most p [] = omega arith
at_most p (t ∷ ts) = at (p t) (at_most p ts)
  where
    at : (b : Bool) → position_or_len p ts ≤ length ts → cond (not b) (1 + position_or_len p ts) 0 ≤ length (t ∷ ts)
    at true more = omega arith
    at false more = omega (arith, more)

pub none_placed : (p : List Plain → Bool) (ts : List (List Plain)) → position p ts ≡ None → length ts ≡ position_or_len p ts
none_placed p ts h = by (nat_lt (position_or_len p ts) (length ts)) refl h
  where
    past : nat_lt (position_or_len p ts) (length ts) ≡ false → length ts ≡ position_or_len p ts
    past e = let low = at_most p ts in grind (arith, nat_tests, e, low)

    by : (b : Bool) → nat_lt (position_or_len p ts) (length ts) ≡ b → cond b (Some (position_or_len p ts)) None ≡ None → length ts ≡ position_or_len p ts
    by true e g = absurd (apart g)
      where
        apart : Some (position_or_len p ts) ≡ None → ⊥
        apart q = cc
    by false e g = past e
