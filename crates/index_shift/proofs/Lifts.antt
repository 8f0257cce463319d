-- Maps of contexts are lifted.
use Rattle.std.proofs.Common.{◌≡◌, ℕ, zero, suc, ◌+◌, ◌-◌, ◌≤◌, Bool, true, false, cond, nat_lt, fold, List, [], ◌∷◌, ◌++◌, map, flat_map, length, position, slice_get, Some, refl, sym, ap, ◌∙◌, subst, arith, append_assoc, append-nil}
use Rattle.std.proofs.lemmas.List.Sums.{fold-append}
use Rattle.std.proofs.lemmas.Bool.Decides.{nat_tests}
use Rattle.std.proofs.lemmas.Bool.{ltb-false}
use Rattle.raml_syntax.specs.Tree.{Type'}
use Rattle.base_poly.specs.Plain.{Plain, degrees, alike}
use Rattle.base_poly.specs.Indices.{tuples_up_to, index_list}
use Rattle.base_poly.proofs.Exact.{sound_tuples}
use Rattle.index_shift.specs.Maps.{Carry, behind, entry_to, placed, entries_from, entries}
use Rattle.index_shift.specs.Lift.{Middle, Counts, State, rows, entry_of, one_row, of_middle, of_before, of_degrees, lifted}
use Rattle.index_shift.specs.Local.{IsTarget, AreTargets, IsMiddle, AreMiddles}
use Rattle.index_shift.specs.declared.lift.Target.{Target}
use Rattle.index_shift.proofs.Carried.{as_long}
use Rattle.index_shift.proofs.Exactly.{exactly, each_degree, behind_one, many_behind, ahead, lower, by_degrees, in_two}
use Rattle.index_shift.proofs.Spots.{places_are_counted, got_among}

-- They are the numbers of a context.
pub record AreCounts (As Ts Bs : List Type') (d : ℕ) (c : Counts) : Type 0 where
  pub before : c.before ≡ map degrees (tuples_up_to As d)
  pub after : (r : ℕ) → r ≤ d → c.after r ≡ length (exactly Bs r)
  pub first : (h k : ℕ) (x : List Plain) → h ≤ d → slice_get (tuples_up_to As d) k ≡ Some x → c.first h k ≡ lower (As ++ (Ts ++ Bs)) h + ahead (many_behind (Ts ++ Bs) h) (tuples_up_to As d) k
  pub second : (g m : ℕ) (e : List Plain) → g ≤ d → slice_get (tuples_up_to Ts d) m ≡ Some e → c.second g m ≡ ahead (many_behind Bs g) (tuples_up_to Ts d) m

abbrev step : Carry → List (List Plain) → State → List Plain → State
step c us s t = (s.0 ++ placed us s.1 (c t), suc s.1)

stepped : (c : Carry) (us ts : List (List Plain)) (s : State) → (fold (step c us) s ts).0 ≡ s.0 ++ entries_from s.1 c ts us
stepped c us [] s = sym (append-nil s.0)
stepped c us (t ∷ ts) s = stepped c us ts (step c us s t) ∙ append_assoc s.0 (placed us s.1 (c t)) (entries_from (suc s.1) c ts us)

module _ {X Y Z : Type 0} where
  fold_mapped : (f : Z → Y → Z) (g : X → Y) (s : Z) (xs : List X) → fold f s (map g xs) ≡ fold (λ s x. f s (g x)) s xs
  fold_mapped f g s [] = refl
  fold_mapped f g s (x ∷ xs) = fold_mapped f g (f s (g x)) xs

  fold_parts : (f : Z → Y → Z) (g : X → List Y) (s : Z) (xs : List X) → fold f s (flat_map g xs) ≡ fold (λ s x. fold f s (g x)) s xs
  fold_parts f g s [] = refl
  fold_parts f g s (x ∷ xs) = fold-append f s (g x) (flat_map g xs) ∙ fold_parts f g (fold f s (g x)) xs

-- rows
fold_rows : {X : Type 0} (f : State → X → State) (go : ℕ → State → State) (xs : List X) (y : ℕ) (s : State) →
    ((j : ℕ) (x : X) (s : State) → slice_get xs j ≡ Some x → f s x ≡ go (y + j) s) → fold f s xs ≡ rows go y (length xs) s
fold_rows f go [] y s h = refl
fold_rows f go (x ∷ xs) y s h =
    fold_rows f go xs (suc y) (f s x) (λ j z s g. h (suc j) z s g ∙ ap (λ n. go n s) (next y j))
    ∙ ap (rows go (suc y) (length xs)) (h 0 x s refl ∙ ap (λ n. go n s) (none y))
  where
    none : (y : ℕ) → y + 0 ≡ y
    none y = omega arith

    next : (y j : ℕ) → y + suc j ≡ suc y + j
    next y j = omega arith

-- the indices before the place stay
abbrev led : List Plain → List Plain × ℕ → List Plain × ℕ
led x e = (x ++ e.0, e.1)

behind_led : (c : Carry) (x t : List Plain) → behind (length x) c (x ++ t) ≡ map (led x) (c t)
behind_led c [] t = same (c t)
  where
    same : (es : List (List Plain × ℕ)) → es ≡ map (led []) es
    same [] = refl
    same (e ∷ es) = ap (λ l. e ∷ l) (same es)
behind_led c (i ∷ x) t = ap (map (λ e. (i ∷ e.0, e.1))) (behind_led c x t) ∙ more (c t)
  where
    more : (es : List (List Plain × ℕ)) → map (λ e. (i ∷ e.0, e.1)) (map (led x) es) ≡ map (led (i ∷ x)) es
    more [] = refl
    more (e ∷ es) = ap (λ l. (i ∷ (x ++ e.0), e.1) ∷ l) (more es)

module _ (c : Carry) (As Fs Ts Bs : List Type') (d : ℕ) (counts : Counts) (are_counts : AreCounts As Ts Bs d counts) where
  abbrev us : List (List Plain)
  us = index_list (As ++ (Ts ++ Bs)) d

  -- one entry
  placed_one : (x : List Plain) (k : ℕ) (m : List Plain) (r : ℕ) (u : List Plain) (y from : ℕ) (e : List Plain × ℕ) (t : Target) →
      degrees x + (degrees m + r) ≤ d → slice_get (tuples_up_to As d) k ≡ Some x → slice_get (exactly Bs r) y ≡ Some u → IsTarget Ts d m u e t →
      entry_to from e.1 (position (alike (x ++ e.0)) us) ≡ entry_of counts (degrees x) k r from y t ∷ []
  placed_one x k m r u y from e t low at_k at_y h =
      (λ n. entry_to from (h.times n) (position (alike (x ++ h.whole n)) us))
      ∙ ap (entry_to from t.times) (places_are_counted As Ts Bs d x k h.tuple t.place r u y (let a = h.low in omega (arith, low, a)) at_k h.there at_y)
      ∙ (λ n. record {
        from = from;
        to = sym (are_counts.first (degrees x + (degrees h.tuple + r)) k x (let a = h.low in omega (arith, low, a)) at_k) n
            + (sym (are_counts.second (degrees h.tuple + r) t.place h.tuple (let a = h.low in omega (arith, low, a)) h.there) n + y);
        times = t.times;
      } ∷ [])
      ∙ ap (λ g. entry_of counts (degrees x) k r from y (record { place = t.place; degree = g; times = t.times }) ∷ []) (sym h.degree)

  placed_all : (x : List Plain) (k : ℕ) (m : List Plain) (r : ℕ) (u : List Plain) (y from : ℕ) (es : List (List Plain × ℕ)) (ts : List Target) →
      degrees x + (degrees m + r) ≤ d → slice_get (tuples_up_to As d) k ≡ Some x → slice_get (exactly Bs r) y ≡ Some u → AreTargets Ts d m u es ts →
      placed us from (map (led x) es) ≡ map (entry_of counts (degrees x) k r from y) ts
  placed_all x k m r u y from [] [] low at_k at_y h = refl
  placed_all x k m r u y from [] (t ∷ ts) low at_k at_y h = absurd h
  placed_all x k m r u y from (e ∷ es) [] low at_k at_y h = absurd h
  placed_all x k m r u y from (e ∷ es) (t ∷ ts) low at_k at_y h =
      λ n. placed_one x k m r u y from e t low at_k at_y h.0 n ++ placed_all x k m r u y from es ts low at_k at_y h.1 n

  one_step : (x : List Plain) (k : ℕ) (m : List Plain) (w : Middle) (r : ℕ) (u : List Plain) (y : ℕ) (s : State) →
      degrees x + (degrees m + r) ≤ d → slice_get (tuples_up_to As d) k ≡ Some x → slice_get (exactly Bs r) y ≡ Some u → IsMiddle c Ts d m w →
      step (behind (length As) c) us s (x ++ (m ++ u)) ≡ one_row counts (degrees x) k r w.targets y s
  one_step x k m w r u y s low at_k at_y h =
      let size = as_long x As (sound_tuples As d x (got_among (tuples_up_to As d) k x at_k)).0 in
      (λ n. (s.0 ++ placed us s.1 (behind (sym size n) c (x ++ (m ++ u))), suc s.1))
      ∙ (λ n. (s.0 ++ placed us s.1 (behind_led c x (m ++ u) n), suc s.1))
      ∙ (λ n. (s.0 ++ placed_all x k m r u y s.1 (c (m ++ u)) w.targets low at_k at_y (h.targets u) n, suc s.1))

  -- all tuples that begin so
  abbrev go : State → List Plain → State
  go = step (behind (length As) c) us

  none_kept : (left n : ℕ) → nat_lt left n ≡ true → (n ≤ left → ⊥)
  none_kept left n h g = grind (arith, nat_tests)

  middle_step : (x : List Plain) (k left : ℕ) (m : List Plain) (w : Middle) (s : State) → degrees x + left ≤ d → slice_get (tuples_up_to As d) k ≡ Some x → IsMiddle c Ts d m w →
      fold (λ s t. go s (x ++ t)) s (behind_one Bs left m) ≡ of_middle counts left (degrees x) k s w
  middle_step x k left m w s low at_k h =
      at (nat_lt left (degrees m)) refl
      ∙ ap (λ g. of_middle counts left (degrees x) k s (record { degree = g; targets = w.targets })) (sym h.degree)
    where
      at : (b : Bool) → nat_lt left (degrees m) ≡ b → fold (λ s t. go s (x ++ t)) s (behind_one Bs left m) ≡ of_middle counts left (degrees x) k s (record { degree = degrees m; targets = w.targets })
      at true e =
          (λ n. fold (λ s t. go s (x ++ t)) s (cond (e n) [] (map (λ u. m ++ u) (exactly Bs (left - degrees m)))))
          ∙ (λ n. cond (sym e n) s (rows (one_row counts (degrees x) k (left - degrees m) w.targets) 0 (counts.after (left - degrees m)) s))
      at false e =
          (λ n. fold (λ s t. go s (x ++ t)) s (cond (e n) [] (map (λ u. m ++ u) (exactly Bs (left - degrees m)))))
          ∙ fold_mapped (λ s t. go s (x ++ t)) (λ u. m ++ u) s (exactly Bs (left - degrees m))
          ∙ fold_rows (λ s u. go s (x ++ (m ++ u))) (one_row counts (degrees x) k (left - degrees m) w.targets) (exactly Bs (left - degrees m)) 0 s
          (λ j u s at_j. let kept = ltb-false left (degrees m) e in
          one_step x k m w (left - degrees m) u j s (omega (arith, low, kept)) at_k at_j h ∙ ap (λ n. one_row counts (degrees x) k (left - degrees m) w.targets n s) (first j))
          ∙ (λ n. cond (sym e n) s (rows (one_row counts (degrees x) k (left - degrees m) w.targets) 0 (sym (are_counts.after (left - degrees m) (omega (arith, low))) n) s))
        where
          first : (j : ℕ) → j ≡ 0 + j
          first j = omega arith

  middles : (x : List Plain) (k left : ℕ) (ms : List (List Plain)) (ws : List Middle) (s : State) → degrees x + left ≤ d → slice_get (tuples_up_to As d) k ≡ Some x → AreMiddles c Ts d ms ws →
      fold (λ s m. fold (λ s t. go s (x ++ t)) s (behind_one Bs left m)) s ms ≡ fold (of_middle counts left (degrees x) k) s ws
  middles x k left [] [] s low at_k h = refl
  middles x k left [] (w ∷ ws) s low at_k h = absurd h
  middles x k left (m ∷ ms) [] s low at_k h = absurd h
  middles x k left (m ∷ ms) (w ∷ ws) s low at_k h =
      middles x k left ms ws (fold (λ s t. go s (x ++ t)) s (behind_one Bs left m)) low at_k h.1
      ∙ ap (λ s. fold (of_middle counts left (degrees x) k) s ws) (middle_step x k left m w s low at_k h.0)

  module _ (ws : List Middle) (are : AreMiddles c Ts d (tuples_up_to Fs d) ws) where
    before_step : (g : ℕ) (x : List Plain) (k : ℕ) (s : State) → g ≤ d → slice_get (tuples_up_to As d) k ≡ Some x →
        fold go s (behind_one (Fs ++ Bs) g x) ≡ cond (nat_lt g (degrees x)) s (fold (of_middle counts (g - degrees x) (degrees x) k) s ws)
    before_step g x k s low at_k = at (nat_lt g (degrees x)) refl
      where
        at : (b : Bool) → nat_lt g (degrees x) ≡ b →
            fold go s (cond b [] (map (λ u. x ++ u) (exactly (Fs ++ Bs) (g - degrees x)))) ≡ cond b s (fold (of_middle counts (g - degrees x) (degrees x) k) s ws)
        at true e = refl
        at false e =
            let kept = ltb-false g (degrees x) e in
            fold_mapped go (λ u. x ++ u) s (exactly (Fs ++ Bs) (g - degrees x))
            ∙ ap (fold (λ s t. go s (x ++ t)) s) (in_two Fs Bs (g - degrees x) d (omega (arith, low)))
            ∙ fold_parts (λ s t. go s (x ++ t)) (behind_one Bs (g - degrees x)) s (tuples_up_to Fs d)
            ∙ middles x k (g - degrees x) (tuples_up_to Fs d) ws s (omega (arith, low, kept)) at_k are

    befores : (g k : ℕ) (xs : List (List Plain)) (s : State) → g ≤ d → ((j : ℕ) (x : List Plain) → slice_get xs j ≡ Some x → slice_get (tuples_up_to As d) (k + j) ≡ Some x) →
        fold (λ s x. fold go s (behind_one (Fs ++ Bs) g x)) s xs ≡ of_before counts ws g k (map degrees xs) s
    befores g k [] s low there = refl
    befores g k (x ∷ xs) s low there =
        befores g (suc k) xs (fold go s (behind_one (Fs ++ Bs) g x)) low (λ j z at. subst (λ n. slice_get (tuples_up_to As d) n ≡ Some z) (next k j) (there (suc j) z at))
        ∙ ap (of_before counts ws g (suc k) (map degrees xs)) (before_step g x k s low (subst (λ n. slice_get (tuples_up_to As d) n ≡ Some x) (none k) (there 0 x refl)))
      where
        none : (k : ℕ) → k + 0 ≡ k
        none k = omega arith

        next : (k j : ℕ) → k + suc j ≡ suc k + j
        next k j = omega arith

    all_degrees : (n g : ℕ) (s : State) → g + n ≤ 1 + d → fold go s (each_degree (As ++ (Fs ++ Bs)) n g) ≡ of_degrees counts ws g n s
    all_degrees zero g s h = refl
    all_degrees (suc n) g s h =
        fold-append go s (exactly (As ++ (Fs ++ Bs)) g) (each_degree (As ++ (Fs ++ Bs)) n (1 + g))
        ∙ all_degrees n (1 + g) (fold go s (exactly (As ++ (Fs ++ Bs)) g)) (omega (arith, h))
        ∙ ap (of_degrees counts ws (1 + g) n)
        (ap (fold go s) (in_two As (Fs ++ Bs) g d (omega (arith, h)))
        ∙ fold_parts go (behind_one (Fs ++ Bs) g) s (tuples_up_to As d)
        ∙ befores g 0 (tuples_up_to As d) s (omega (arith, h)) (λ j x at. subst (λ n. slice_get (tuples_up_to As d) n ≡ Some x) (first j) at)
        ∙ ap (λ l. of_before counts ws g 0 l s) (sym are_counts.before))
      where
        first : (j : ℕ) → j ≡ 0 + j
        first j = omega arith

pub maps_are_lifted : (c : Carry) (As Fs Ts Bs : List Type') (d : ℕ) (counts : Counts) (ws : List Middle) → AreCounts As Ts Bs d counts → AreMiddles c Ts d (tuples_up_to Fs d) ws →
    entries (behind (length As) c) (As ++ (Fs ++ Bs)) (As ++ (Ts ++ Bs)) d ≡ lifted counts ws d
maps_are_lifted c As Fs Ts Bs d counts ws count are =
    sym (stepped (behind (length As) c) (index_list (As ++ (Ts ++ Bs)) d) (index_list (As ++ (Fs ++ Bs)) d) ([], 0))
    ∙ ap (λ l. (fold (go c As Fs Ts Bs d counts count) ([], 0) l).0) (by_degrees (As ++ (Fs ++ Bs)) d)
    ∙ ap (λ (s : State). s.0) (all_degrees c As Fs Ts Bs d counts count ws are (1 + d) 0 ([], 0) (omega arith))
