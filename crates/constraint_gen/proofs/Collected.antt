-- What a collector has heard.
use Rattle.std.proofs.Common.{◌≡◌, refl, ap, sym, ◌∙◌, arith, inl, inr}
use Rattle.std.specs.Prelude.{ℕ, zero, suc, ◌+◌, ◌<◌, ◌⊎◌, Bool, true, false, cond, nat_lt, ◌&&◌, List, [], ◌∷◌, ◌++◌, drop, length, Option}
use Rattle.std.proofs.lemmas.Bool.Decides.{nat_tests}
use Rattle.linear_rows.specs.Terms.{SparseRow}
use Rattle.annot_types.specs.System.{is_kept}
use Rattle.rules_spec.specs.Numbers.{Condition}
use Rattle.rules_spec.specs.Walk.{at, against, numbered}
use Rattle.rules_spec.specs.Solving.{row_of}
use Rattle.rules_spec.specs.CappedRows.{within}
use Rattle.constraint_gen.specs.Sums.{Sum, sums}
use Rattle.constraint_gen.specs.Heard.{Heard, kept, pair, hear, hear_all}

-- a row that is kept, where there is room
pub heard_is : (h : Heard) (left right : Sum) (rows : List (Option SparseRow)) → length h.rows < 2001 → is_kept (row_of h.unknowns (pair left right)) ≡ true →
    rows ≡ h.rows ++ within (row_of h.unknowns (pair left right)) ∷ [] → record { unknowns = h.unknowns; rows = rows } ≡ hear h (record { path = []; index = 0; left = left; right = right })
heard_is h left right rows room keep e =
    let row = row_of h.unknowns (pair left right) in
    let few : nat_lt (length h.rows) 2001 ≡ true = grind (arith, nat_tests, room) in
    ap (λ (l : List (Option SparseRow)). record { unknowns = h.unknowns; rows = l }) e
    ∙ (λ i. cond (sym few i && sym keep i) (record { unknowns = h.unknowns; rows = h.rows ++ within row ∷ [] }) h)

-- an item at a place and those behind it; none where the place is behind the list
cut : (xs : List Sum) (p : ℕ) → (drop p xs ≡ at sums xs p ∷ drop (p + 1) xs) ⊎ ((drop p xs ≡ []) × (drop (p + 1) xs ≡ []) × (at sums xs p ≡ sums.none))
cut [] zero = inr (refl, refl, refl)
cut [] (suc p) = inr (refl, next, refl) where
  none : List Sum
  none = []

  next : drop (suc p + 1) none ≡ none
  next = let e : suc p + 1 ≡ suc (p + 1) = omega arith in ap (λ m. drop m none) e
cut (x ∷ xs) zero = inl refl
cut (x ∷ xs) (suc p) = by (cut xs p) where
  next : drop (suc p + 1) (x ∷ xs) ≡ drop (p + 1) xs
  next = let e : suc p + 1 ≡ suc (p + 1) = omega arith in ap (λ m. drop m (x ∷ xs)) e

  by : (drop p xs ≡ at sums xs p ∷ drop (p + 1) xs) ⊎ ((drop p xs ≡ []) × (drop (p + 1) xs ≡ []) × (at sums xs p ≡ sums.none)) →
      (drop p xs ≡ at sums xs p ∷ drop (suc p + 1) (x ∷ xs)) ⊎ ((drop p xs ≡ []) × (drop (suc p + 1) (x ∷ xs) ≡ []) × (at sums xs p ≡ sums.none))
  by (inl e) = inl (e ∙ ap (λ l. at sums xs p ∷ l) (sym next))
  by (inr h) = inr (h.0, next ∙ h.1, h.2)

against_next : (left right : List Sum) (p : ℕ) (y : Sum) → drop p right ≡ y ∷ drop (p + 1) right →
    against sums (drop p left) (drop p right) ≡ (at sums left p, y) ∷ against sums (drop (p + 1) left) (drop (p + 1) right)
against_next left right p y e = ap (against sums (drop p left)) e ∙ by (cut left p) where
  by : (drop p left ≡ at sums left p ∷ drop (p + 1) left) ⊎ ((drop p left ≡ []) × (drop (p + 1) left ≡ []) × (at sums left p ≡ sums.none)) →
      against sums (drop p left) (y ∷ drop (p + 1) right) ≡ (at sums left p, y) ∷ against sums (drop (p + 1) left) (drop (p + 1) right)
  by (inl h) = ap (λ l. against sums l (y ∷ drop (p + 1) right)) h
  by (inr h) = ap (λ l. against sums l (y ∷ drop (p + 1) right)) h.0 ∙ (λ i. (sym h.2 i, y) ∷ against sums (sym h.1 i) (drop (p + 1) right))

-- what is heard from a place on is all that is heard
pub Rest : Heard → Heard → List Sum → List Sum → ℕ → Type 0
Rest old now left right p = (path : List ℕ) (index : ℕ) → hear_all now (numbered path (index + p) (against sums (drop p left) (drop p right))) ≡ hear_all old (numbered path index (against sums left right))

pub rest_begins : (old : Heard) (left right : List Sum) → Rest old old left right 0
unfolding Rest
rest_begins old left right path index = ap (λ i. hear_all old (numbered path i (against sums left right))) (omega arith)

pub rest_goes_on : (old now new : Heard) (left right : List Sum) (p : ℕ) (x y : Sum) → drop p right ≡ y ∷ drop (p + 1) right → x ≡ at sums left p →
    new ≡ hear now (record { path = []; index = 0; left = x; right = y }) → Rest old now left right p → Rest old new left right (p + 1)
unfolding Rest
rest_goes_on old now new left right p x y e h one rest path index =
    let more = against sums (drop (p + 1) left) (drop (p + 1) right) in
    (λ i. hear_all (one i) (numbered path (step i) more))
    ∙ ap (λ z. hear_all (hear now (record { path = path; index = index + p; left = z; right = y })) (numbered path (suc (index + p)) more)) h
    ∙ sym (ap (λ l. hear_all now (numbered path (index + p) l)) (against_next left right p y e))
    ∙ rest path index where
      step : index + (p + 1) ≡ suc (index + p)
      step = omega arith

pub rest_ends : (old now : Heard) (left right : List Sum) (p : ℕ) → drop p right ≡ [] → Rest old now left right p → (path : List ℕ) (index : ℕ) → now ≡ hear_all old (numbered path index (against sums left right))
unfolding Rest
rest_ends old now left right p e rest path index = sym (ap (λ l. hear_all now (numbered path (index + p) l)) (ap (against sums (drop p left)) e ∙ none (drop p left))) ∙ rest path index where
  none : (q : List Sum) → against sums q [] ≡ []
  none [] = refl
  none (x ∷ q) = refl

kept_unknowns : (h : Heard) (row : SparseRow) → (kept h row).unknowns ≡ h.unknowns
kept_unknowns h row = by (nat_lt (length h.rows) 2001 && is_kept row) where
  by : (b : Bool) → (cond b (record { unknowns = h.unknowns; rows = h.rows ++ within row ∷ [] }) h).unknowns ≡ h.unknowns
  by true = refl
  by false = refl

pub same_unknowns : (h : Heard) (cs : List (Condition Sum)) → (hear_all h cs).unknowns ≡ h.unknowns
same_unknowns h [] = refl
same_unknowns h (c ∷ cs) = same_unknowns (hear h c) cs ∙ kept_unknowns h (row_of h.unknowns (pair c.left c.right))
