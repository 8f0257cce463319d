-- A walk through what a function reaches by calls.
use Rattle.std.proofs.Common.{◌≡◌, ◌<◌, ◌≤◌, ◌+◌, ◌∙◌, ◌↔◌, ℕ, zero, suc, nat_eq, List, [], ◌∷◌, ◌++◌, map, take, length, ◌-◌, slice_index_or, Bool, true, false, cond, ◌||◌, ◌&&◌, ◌⊎◌, inl, inr, ⊎_elim, refl, ap, sym, subst, slice_get, arith}
use Rattle.std.proofs.lemmas.Bool.{eqb-true, eqb-false, ne_eqb, or_left, or_right, or_cases, and_from, and_parts}
use Rattle.std.proofs.lemmas.List.{append_assoc, append-nil, length-append, length-map, get_or-map, take_more, take_all, take-append-le}
use Rattle.std.specs.List.{filter, range_with_len}
use Rattle.raml_syntax.specs.Tree.{Function, Prog}
use Rattle.call_groups.specs.Calls.{calls, calls_from, callees, is_called}
use Rattle.call_groups.specs.Groups.{Reaches, here, there, Grouping, IsGrouping}
use Rattle.raml_syntax.specs.declared.program.FunId.{FunId}
use Rattle.call_groups.specs.Read.{ids_of}
use Rattle.call_groups.proofs.Leads.{reaches_more}
use Rattle.call_groups.proofs.Lists.{ids_push}
use Rattle.call_groups.proofs.Marks.{calls_low}
use Rattle.call_groups.proofs.Truths.{same, or_none, or_or}
use Rattle.explain_profile.specs.Walk.{MayAddOne, missing, AddsAll, Walked}
use Rattle.explain_rounds.specs.Calls.{is_in}
use Rattle.explain_mending.specs.Reached.{callees_at}

-- ---- members of lists

pub in_both : (f : ℕ) (xs ys : List ℕ) → is_in f (xs ++ ys) ≡ (is_in f xs || is_in f ys)
in_both f [] ys = refl
in_both f (x ∷ xs) ys = ap (λ b. nat_eq f x || b) (in_both f xs ys) ∙ sym (or_or (nat_eq f x) (is_in f xs) (is_in f ys))

in_one : (f g : ℕ) → is_in f (g ∷ []) ≡ nat_eq f g
in_one f g = sym (or_none (nat_eq f g))

-- with one more
in_more : (f g : ℕ) (xs : List ℕ) → is_in f (xs ++ g ∷ []) ≡ (is_in f xs || nat_eq f g)
in_more f g xs = in_both f xs (g ∷ []) ∙ ap (λ b. is_in f xs || b) (in_one f g)

in_first : (f : ℕ) (xs ys : List ℕ) → is_in f xs ≡ true → is_in f (xs ++ ys) ≡ true
in_first f xs ys is = in_both f xs ys ∙ or_left (is_in f xs) (is_in f ys) is

in_last : (f : ℕ) (xs : List ℕ) → is_in f (xs ++ f ∷ []) ≡ true
in_last f xs = in_more f f xs ∙ or_right (is_in f xs) (nat_eq f f) (same f)

-- a member of a list with one more is one, or is that
of_more : (f g : ℕ) (xs : List ℕ) → is_in f (xs ++ g ∷ []) ≡ true → (is_in f xs ≡ true) ⊎ (f ≡ g)
of_more f g xs is = ⊎_elim (λ old. inl old) (λ e. inr (eqb-true f g e)) (or_cases (is_in f xs) (nat_eq f g) (sym (in_more f g xs) ∙ is))

of_both : (f : ℕ) (xs ys : List ℕ) → is_in f (xs ++ ys) ≡ true → (is_in f xs ≡ true) ⊎ (is_in f ys ≡ true)
of_both f xs ys is = or_cases (is_in f xs) (is_in f ys) (sym (in_both f xs ys) ∙ is)

in_range : (from count f : ℕ) → from ≤ f → f < from + count → is_in f (range_with_len from count) ≡ true
in_range from zero f low high = absurd (omega (arith, low, high))
in_range from (suc count) f low high = by (nat_eq f from) refl (λ more. in_range (from + 1) count f more (omega arith))
  where
    by : (b : Bool) → nat_eq f from ≡ b → (from + 1 ≤ f → is_in f (range_with_len (from + 1) count) ≡ true) → (nat_eq f from || is_in f (range_with_len (from + 1) count)) ≡ true
    by true e rest = or_left (nat_eq f from) (is_in f (range_with_len (from + 1) count)) e
    by false e rest = let ne = eqb-false f from e in or_right (nat_eq f from) (is_in f (range_with_len (from + 1) count)) (rest (grind (arith, low, ne)))

in_filter : (test : ℕ → Bool) (f : ℕ) (xs : List ℕ) → is_in f (filter test xs) ≡ (is_in f xs && test f)
in_filter test f [] = refl
in_filter test f (x ∷ xs) = by (test x) refl (nat_eq f x) refl (in_filter test f xs)
  where
    none : (b : Bool) → (b && false) ≡ false
    none true = refl
    none false = refl

    by : (kept : Bool) → test x ≡ kept → (first : Bool) → nat_eq f x ≡ first → is_in f (filter test xs) ≡ (is_in f xs && test f) →
        is_in f (cond (test x) (x ∷ filter test xs) (filter test xs)) ≡ ((nat_eq f x || is_in f xs) && test f)
    by true k true e rest =
        let at : test f ≡ true = ap test (eqb-true f x e) ∙ k in
        ap (λ b. is_in f (cond b (x ∷ filter test xs) (filter test xs))) k ∙ or_left (nat_eq f x) (is_in f (filter test xs)) e ∙ sym (ap (λ b. (b || is_in f xs) && test f) e ∙ at)
    by true k false e rest =
        ap (λ b. is_in f (cond b (x ∷ filter test xs) (filter test xs))) k ∙ ap (λ b. b || is_in f (filter test xs)) e ∙ rest ∙ sym (ap (λ b. (b || is_in f xs) && test f) e)
    by false k true e rest =
        let at : test f ≡ false = ap test (eqb-true f x e) ∙ k in
        ap (λ b. is_in f (cond b (x ∷ filter test xs) (filter test xs))) k ∙ rest ∙ ap (λ b. is_in f xs && b) at ∙ none (is_in f xs) ∙ sym (ap (λ b. (b || is_in f xs) && test f) e ∙ at)
    by false k false e rest =
        ap (λ b. is_in f (cond b (x ∷ filter test xs) (filter test xs))) k ∙ rest ∙ sym (ap (λ b. (b || is_in f xs) && test f) e)

-- ---- how many are missing

missing_low : (n x : ℕ) (xs : List ℕ) → n ≤ x → missing n (xs ++ x ∷ []) ≡ missing n xs
missing_low zero x xs le = refl
missing_low (suc n) x xs le =
    let rest = missing_low n x xs (omega arith) in
    let other : nat_eq n x ≡ false = ne_eqb n x (λ e. absurd (omega (arith, e, le))) in
    let here : is_in n (xs ++ x ∷ []) ≡ is_in n xs = in_more n x xs ∙ ap (λ b. is_in n xs || b) other ∙ sym (or_none (is_in n xs)) in
    ap (λ b. cond b 0 1 + missing n (xs ++ x ∷ [])) here ∙ ap (λ m. cond (is_in n xs) 0 1 + m) rest

-- one that was missing is added
missing_less : (n x : ℕ) (xs : List ℕ) → x < n → is_in x xs ≡ false → missing n xs ≡ 1 + missing n (xs ++ x ∷ [])
missing_less zero x xs less new = absurd (omega arith)
missing_less (suc n) x xs less new = by (nat_eq x n) refl (λ lower. missing_less n x xs lower new)
  where
    by : (b : Bool) → nat_eq x n ≡ b → (x < n → missing n xs ≡ 1 + missing n (xs ++ x ∷ [])) → missing (suc n) xs ≡ 1 + missing (suc n) (xs ++ x ∷ [])
    by true e rest =
        let is = eqb-true x n e in
        let was : is_in n xs ≡ false = ap (λ k. is_in k xs) (sym is) ∙ new in
        let now : is_in n (xs ++ x ∷ []) ≡ true = ap (λ k. is_in k (xs ++ x ∷ [])) (sym is) ∙ in_last x xs in
        let old : missing (suc n) xs ≡ 1 + missing n xs = ap (λ b. cond b 0 1 + missing n xs) was in
        let low = missing_low n x xs (omega (arith, is)) in
        let made : missing (suc n) (xs ++ x ∷ []) ≡ 0 + missing n (xs ++ x ∷ []) = ap (λ b. cond b 0 1 + missing n (xs ++ x ∷ [])) now in
        grind (arith, made, old, low)
    by false e rest =
        let ne = eqb-false x n e in
        let lower : x < n = grind (arith, less, ne) in
        let other : nat_eq n x ≡ false = ne_eqb n x (λ e. ne (sym e)) in
        let here : is_in n (xs ++ x ∷ []) ≡ is_in n xs = in_more n x xs ∙ ap (λ b. is_in n xs || b) other ∙ sym (or_none (is_in n xs)) in
        let made : missing (suc n) (xs ++ x ∷ []) ≡ cond (is_in n xs) 0 1 + missing n (xs ++ x ∷ []) = ap (λ b. cond b 0 1 + missing n (xs ++ x ∷ [])) here in
        let old : missing (suc n) xs ≡ cond (is_in n xs) 0 1 + (1 + missing n (xs ++ x ∷ [])) = ap (λ m. cond (is_in n xs) 0 1 + m) (rest lower) in
        grind (arith, made, old)

-- ---- what is added

pub adds_none : (old : List ℕ) → AddsAll [] old old
adds_none old = record {
  more = [];
  behind = sym (append-nil old);
  of_them = λ f is. is;
  all = λ f is. absurd (cc);
  fewer = λ n low. refl;
}

pub adds_more : (f : ℕ) (funs old new newer : List ℕ) → AddsAll funs old new → MayAddOne f new newer → AddsAll (funs ++ f ∷ []) old newer
adds_more f funs old new newer adds (inl (was, is)) = record {
  more = adds.more;
  behind = is ∙ adds.behind;
  of_them = λ g one. in_first g funs (f ∷ []) (adds.of_them g one);
  all = λ g one. ap (is_in g) is ∙ ⊎_elim (λ old. adds.all g old) (λ same. ap (λ k. is_in k new) same ∙ was) (of_more g f funs one);
  fewer = λ n low. ap (λ (xs : List ℕ). missing n xs + length xs) is ∙ adds.fewer n (λ g one. low g (in_first g funs (f ∷ []) one));
}
adds_more f funs old new newer adds (inr (was, is)) = record {
  more = adds.more ++ f ∷ [];
  behind = is ∙ ap (λ xs. xs ++ f ∷ []) adds.behind ∙ append_assoc old adds.more (f ∷ []);
  of_them = λ g one. ⊎_elim (λ old. in_first g funs (f ∷ []) (adds.of_them g old)) (λ same. ap (λ k. is_in k (funs ++ f ∷ [])) same ∙ in_last f funs) (of_more g f adds.more one);
  all = λ g one. ap (is_in g) is ∙ ⊎_elim (λ old. in_first g new (f ∷ []) (adds.all g old)) (λ same. ap (λ k. is_in k (new ++ f ∷ [])) same ∙ in_last f new) (of_more g f funs one);
  fewer = λ n low.
      let rest = adds.fewer n (λ g one. low g (in_first g funs (f ∷ []) one)) in
      let less = missing_less n f new (low f (in_last f funs)) was in
      let long : length (new ++ f ∷ []) ≡ length new + 1 = length-append new (f ∷ []) in
      ap (λ (xs : List ℕ). missing n xs + length xs) is ∙ grind (arith, rest, less, long);
}

-- the next one of a list
pub adds_next : (funs : List FunId) (i : ℕ) (d : FunId) (old new newer : List ℕ) → i < length funs → AddsAll (ids_of (take i funs)) old new →
    MayAddOne (slice_index_or funs i d).0 new newer → AddsAll (ids_of (take (i + 1) funs)) old newer
adds_next funs i d old new newer within adds may =
    let next = slice_index_or funs i d in
    let is : ids_of (take (i + 1) funs) ≡ ids_of (take i funs) ++ next.0 ∷ [] = ap ids_of (take_more funs i d within) ∙ ids_push (take i funs) next in
    subst (λ fs. AddsAll fs old newer) (sym is) (adds_more next.0 (ids_of (take i funs)) old new newer adds may)

pub in_at : (xs : List ℕ) (i d : ℕ) → i < length xs → is_in (slice_index_or xs i d) xs ≡ true
in_at [] i d within = absurd (omega arith)
in_at (x ∷ xs) zero d within = or_left (nat_eq x x) (is_in x xs) (same x)
in_at (x ∷ xs) (suc i) d within = let f = slice_index_or xs i d in or_right (nat_eq f x) (is_in f xs) (in_at xs i d (omega arith))

abbrev id : FunId → ℕ
id f = f.0

-- ---- what is called

module _ (P : Prog) where
  called_at : (all : List Function) (f g : ℕ) →
      is_in g (callees_at (map (λ (h : Function). callees P h.body) all) f) ≡ (is_in g (range_with_len 0 (length P)) && calls_from P (slice_get all f) g)
  called_at [] f g = sym (none (is_in g (range_with_len 0 (length P))))
    where
      none : (b : Bool) → (b && false) ≡ false
      none true = refl
      none false = refl
  called_at (h ∷ all) zero g = in_filter (λ g. is_called P g h.body) g (range_with_len 0 (length P))
  called_at (h ∷ all) (suc f) g = called_at all f g

  module _ (groups : Grouping) (is : IsGrouping P groups) where
    among : (f g : ℕ) → is_in g (callees_at groups.calls f) ≡ (is_in g (range_with_len 0 (length P)) && calls P f g)
    among f g = ap (λ all. is_in g (callees_at all f)) is.calls ∙ called_at P f g

    -- the callees of a function are those that it calls
    called_by : (f g : ℕ) → is_in g (callees_at groups.calls f) ≡ true → calls P f g ≡ true
    called_by f g one = (and_parts (is_in g (range_with_len 0 (length P))) (calls P f g) (sym (among f g) ∙ one)).1

    all_called : (f g : ℕ) → calls P f g ≡ true → is_in g (callees_at groups.calls f) ≡ true
    all_called f g called = among f g ∙ and_from (is_in g (range_with_len 0 (length P))) (calls P f g) (in_range 0 (length P) g (omega arith) (omega (arith, calls_low P f g called))) called

    pub callees_low : (f g : ℕ) → is_in g (callees_at groups.calls f) ≡ true → g < length P
    callees_low f g one = calls_low P f g (called_by f g one)

    -- ---- the walk

    walks_on : (f next : ℕ) (first found more : List ℕ) → Walked P f first found → is_in next found ≡ true → AddsAll (callees_at groups.calls next) found more →
        Walked P f (first ++ next ∷ []) more
    walks_on f next first found more walked at adds = record {
      begun = kept f walked.begun;
      reached = λ g one. ⊎_elim (walked.reached g) (λ new. reaches_more P (walked.reached next at) (there (called_by next g (adds.of_them g new)) here))
          (of_both g found adds.more (sym (ap (is_in g) adds.behind) ∙ one));
      called = λ g h one called. ⊎_elim (λ old. kept h (walked.called g h old called)) (λ same. adds.all h (all_called next h (ap (λ k. calls P k h) (sym same) ∙ called)))
          (of_more g next first one);
    }
      where
        kept : (g : ℕ) → is_in g found ≡ true → is_in g more ≡ true
        kept g old = ap (is_in g) adds.behind ∙ in_first g found adds.more old

    -- the next one of those that are found
    pub walk_next : (f place : ℕ) (found more : List FunId) (d : FunId) → place < length found → Walked P f (take place (ids_of found)) (ids_of found) →
        AddsAll (callees_at groups.calls (slice_index_or found place d).0) (ids_of found) (ids_of more) →
        Walked P f (take (place + 1) (ids_of more)) (ids_of more) × (place + 1 ≤ length more)
        × (missing (length P) (ids_of more) + (length more - (place + 1)) < missing (length P) (ids_of found) + (length found - place))
    walk_next f place found more d within walked adds =
        let old = ids_of found in
        let new = ids_of more in
        let next = slice_index_or found place d in
        let old_length : length old ≡ length found = length-map found id in
        let new_length : length new ≡ length more = length-map more id in
        let there : place < length old = omega (arith, within, old_length) in
        let at : slice_index_or old place d.0 ≡ next.0 = get_or-map id found place d d.0 within in
        let first : take (place + 1) old ≡ take place old ++ next.0 ∷ [] = take_more old place d.0 there ∙ ap (λ x. take place old ++ x ∷ []) at in
        let kept : take (place + 1) new ≡ take (place + 1) old = ap (take (place + 1)) adds.behind ∙ take-append-le (place + 1) old adds.more (omega (arith, there)) in
        let here : is_in next.0 old ≡ true = ap (λ x. is_in x old) (sym at) ∙ in_at old place d.0 there in
        let grows : length new ≡ length old + length adds.more = ap length adds.behind ∙ length-append old adds.more in
        let fewer : missing (length P) new + length new ≡ missing (length P) old + length old = adds.fewer (length P) (callees_low next.0) in (
          subst (λ fs. Walked P f fs new) (sym (kept ∙ first)) (walks_on f next.0 (take place old) old new walked here adds),
          omega (arith, there, grows, new_length),
          omega (arith, fewer, there, grows, old_length, new_length),
        )

  pub walk_begins : (f : ℕ) → Walked P f [] (f ∷ [])
  walk_begins f = record {
    begun = in_last f [];
    reached = λ g one. subst (Reaches P f) (sym (eqb-true g f (sym (in_one g f) ∙ one))) here;
    called = λ g h one. absurd (cc);
  }

  -- what is found at the end is all that is reached
  module _ (f : ℕ) (found : List ℕ) (walked : Walked P f found found) where
    reached_from : (g h : ℕ) → is_in g found ≡ true → Reaches P g h → is_in h found ≡ true
    reached_from g h is here = is
    reached_from g h is (there {g = next} called rest) = reached_from next h (walked.called g next is called) rest

    all_reached : (g : ℕ) → (is_in g found ≡ true) ↔ Reaches P f g
    all_reached g = (walked.reached g, λ reaches. reached_from f g walked.begun reaches)

  -- the walk has come to the end
  pub walk_ends : (f place : ℕ) (found : List FunId) → length found ≤ place → Walked P f (take place (ids_of found)) (ids_of found) →
      (g : ℕ) → (is_in g (ids_of found) ≡ true) ↔ Reaches P f g
  walk_ends f place found over walked =
      let all : take place (ids_of found) ≡ ids_of found = take_all place (ids_of found) (omega (arith, over, length-map found id)) in
      all_reached f (ids_of found) (subst (λ fs. Walked P f fs (ids_of found)) all walked)
