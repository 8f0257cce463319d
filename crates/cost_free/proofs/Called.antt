-- The least function that a group waits for is found call by call.
use Rattle.std.proofs.Common.{◌≡◌, ◌<◌, ◌⊎◌, inl, inr, ℕ, Bool, true, false, not, cond, nat_eq, nat_lt, ◌&&◌, ◌||◌, List, [], ◌∷◌, Option, Some, None, refl, ap, ◌∙◌, arith}
use Rattle.std.proofs.lemmas.Bool.Decides.{nat_tests}
use Rattle.cost_free.specs.Blocked.{is_among, row, any_calls, is_earlier, has_bound, blocks, least_from}
use Rattle.cost_free.specs.Called.{is_less, is_unpaid, least_in, least_called}
use Rattle.cost_free.specs.Task.{Meter, Outcome}
use Rattle.cost_free.proofs.Least.{is_first, none_passes}

or_right : (a b : Bool) → b ≡ true → a || b ≡ true
or_right true b e = refl
or_right false b e = e

-- Of the numbers below so many that are met, it is the least that passes the test; or none passes.
module _ (test : ℕ → Bool) (count : ℕ) where
  abbrev IsLeastMet : (ℕ → Type 0) → Option ℕ → Type 0
  IsLeastMet Met None = (g : ℕ) → g < count → Met g → test g ≡ false
  IsLeastMet Met (Some f) = (f < count) × Met f × (test f ≡ true) × ((g : ℕ) → g < f → Met g → test g ≡ false)

  -- the same numbers are met
  same_met : (Met Other : ℕ → Type 0) → ((g : ℕ) → Met g → Other g) → ((g : ℕ) → Other g → Met g) → (least : Option ℕ) → IsLeastMet Met least → IsLeastMet Other least
  same_met Met Other to from None is = λ g low m. is g low (from g m)
  same_met Met Other to from (Some f) is = (is.0, to f is.1, is.2, λ g low m. is.3 g low (from g m))

  -- one more is met
  one_more : (Met : ℕ → Type 0) (f : ℕ) (least : Option ℕ) → IsLeastMet Met least →
      IsLeastMet (λ g. Met g ⊎ (g ≡ f)) (cond (is_less f least count && test f) (Some f) least)
  one_more Met f least is = by least is (is_less f least count) refl (test f) refl
    where
      by : (least : Option ℕ) → IsLeastMet Met least → (l : Bool) → is_less f least count ≡ l → (t : Bool) → test f ≡ t →
          IsLeastMet (λ g. Met g ⊎ (g ≡ f)) (cond (l && t) (Some f) least)
      by None is true less true passes = (grind (arith, nat_tests), inr refl, passes, λ g low m. first g low m)
        where
          first : (g : ℕ) → g < f → Met g ⊎ (g ≡ f) → test g ≡ false
          first g low (inl m) = is g (grind (arith, nat_tests)) m
          first g low (inr e) = absurd (omega (arith, e, low))
      by None is true less false passes = λ g low m. each g low m
        where
          each : (g : ℕ) → g < count → Met g ⊎ (g ≡ f) → test g ≡ false
          each g low (inl m) = is g low m
          each g low (inr e) = ap test e ∙ passes
      by None is false less t passes = λ g low m. each g low m
        where
          each : (g : ℕ) → g < count → Met g ⊎ (g ≡ f) → test g ≡ false
          each g low (inl m) = is g low m
          each g low (inr e) = absurd (grind (arith, nat_tests))
      by (Some e) is true less true passes = (let low = is.0 in grind (arith, nat_tests), inr refl, passes, λ g low m. first g low m)
        where
          first : (g : ℕ) → g < f → Met g ⊎ (g ≡ f) → test g ≡ false
          first g low (inl m) = is.3 g (grind (arith, nat_tests)) m
          first g low (inr s) = absurd (omega (arith, s, low))
      by (Some e) is true less false passes = (is.0, inl is.1, is.2, λ g low m. each g low m)
        where
          each : (g : ℕ) → g < e → Met g ⊎ (g ≡ f) → test g ≡ false
          each g low (inl m) = is.3 g low m
          each g low (inr s) = ap test s ∙ passes
      by (Some e) is false less t passes = (is.0, inl is.1, is.2, λ g low m. each g low m)
        where
          each : (g : ℕ) → g < e → Met g ⊎ (g ≡ f) → test g ≡ false
          each g low (inl m) = is.3 g low m
          each g low (inr s) = absurd (grind (arith, nat_tests))

  -- a row more is met
  row_more : (fs : List ℕ) (Met : ℕ → Type 0) (least : Option ℕ) → IsLeastMet Met least →
      IsLeastMet (λ g. Met g ⊎ (is_among g fs ≡ true)) (least_in test count fs least)
  row_more [] Met least is = same_met Met (λ g. Met g ⊎ (is_among g [] ≡ true)) (λ g m. inl m) (λ g m. at g m) least is
    where
      at : (g : ℕ) → Met g ⊎ (is_among g [] ≡ true) → Met g
      at g (inl m) = m
      at g (inr e) = absurd (cc)
  row_more (f ∷ fs) Met least is =
      let next = cond (is_less f least count && test f) (Some f) least in
      same_met (λ g. (Met g ⊎ (g ≡ f)) ⊎ (is_among g fs ≡ true)) (λ g. Met g ⊎ (is_among g (f ∷ fs) ≡ true)) to from (least_in test count fs next)
      (row_more fs (λ g. Met g ⊎ (g ≡ f)) next (one_more Met f least is))
    where
      to : (g : ℕ) → (Met g ⊎ (g ≡ f)) ⊎ (is_among g fs ≡ true) → Met g ⊎ (is_among g (f ∷ fs) ≡ true)
      to g (inl (inl m)) = inl m
      to g (inl (inr e)) = inr (let t : nat_eq g f ≡ true = grind (arith, nat_tests) in rw t refl)
      to g (inr e) = inr (or_right (nat_eq g f) (is_among g fs) e)

      from : (g : ℕ) → Met g ⊎ (is_among g (f ∷ fs) ≡ true) → (Met g ⊎ (g ≡ f)) ⊎ (is_among g fs ≡ true)
      from g (inl m) = inl (inl m)
      from g (inr e) = at (nat_eq g f) refl e
        where
          at : (b : Bool) → nat_eq g f ≡ b → b || is_among g fs ≡ true → (Met g ⊎ (g ≡ f)) ⊎ (is_among g fs ≡ true)
          at true is e = inl (inr (grind (arith, nat_tests)))
          at false is e = inr e

  -- all rows are met
  rows_more : (calls : List (List ℕ)) (gs : List ℕ) (Met : ℕ → Type 0) (least : Option ℕ) → IsLeastMet Met least →
      IsLeastMet (λ f. Met f ⊎ (any_calls calls f gs ≡ true)) (least_called test count calls gs least)
  rows_more calls [] Met least is = same_met Met (λ f. Met f ⊎ (any_calls calls f [] ≡ true)) (λ f m. inl m) (λ f m. at f m) least is
    where
      at : (f : ℕ) → Met f ⊎ (any_calls calls f [] ≡ true) → Met f
      at f (inl m) = m
      at f (inr e) = absurd (cc)
  rows_more calls (g ∷ gs) Met least is =
      let next = least_in test count (row calls g) least in
      same_met (λ f. (Met f ⊎ (is_among f (row calls g) ≡ true)) ⊎ (any_calls calls f gs ≡ true)) (λ f. Met f ⊎ (any_calls calls f (g ∷ gs) ≡ true)) to from (least_called test count calls gs next)
      (rows_more calls gs (λ f. Met f ⊎ (is_among f (row calls g) ≡ true)) next (row_more (row calls g) Met least is))
    where
      to : (f : ℕ) → (Met f ⊎ (is_among f (row calls g) ≡ true)) ⊎ (any_calls calls f gs ≡ true) → Met f ⊎ (any_calls calls f (g ∷ gs) ≡ true)
      to f (inl (inl m)) = inl m
      to f (inl (inr e)) = inr (rw e refl)
      to f (inr e) = inr (or_right (is_among f (row calls g)) (any_calls calls f gs) e)

      from : (f : ℕ) → Met f ⊎ (any_calls calls f (g ∷ gs) ≡ true) → (Met f ⊎ (is_among f (row calls g) ≡ true)) ⊎ (any_calls calls f gs ≡ true)
      from f (inl m) = inl (inl m)
      from f (inr e) = at (is_among f (row calls g)) refl e
        where
          at : (b : Bool) → is_among f (row calls g) ≡ b → b || any_calls calls f gs ≡ true → (Met f ⊎ (is_among f (row calls g) ≡ true)) ⊎ (any_calls calls f gs ≡ true)
          at true is e = inl (inr is)
          at false is e = inr e

-- Of a program with these groups, where each function calls these functions.
module _ (groups calls : List (List ℕ)) (group : ℕ) (meter : Meter) (done : List Outcome) (count : ℕ) where
  abbrev unpaid : ℕ → Bool
  unpaid = is_unpaid groups group meter done

  abbrev in_the_way : ℕ → Bool
  in_the_way = blocks groups calls group meter done

  -- a function that it calls and that is unpaid is in the way
  is_in_the_way : (f : ℕ) → any_calls calls f (row groups group) ≡ true → unpaid f ≡ true → in_the_way f ≡ true
  is_in_the_way f c u = by (any_calls calls f (row groups group)) (is_earlier groups calls group f) (has_bound groups meter done f) c u
    where
      by : (c e h : Bool) → c ≡ true → e && not h ≡ true → (c && e) && not h ≡ true
      by true e h c u = u
      by false e h c u = absurd (cc)

  is_unpaid_call : (f : ℕ) → in_the_way f ≡ true → (any_calls calls f (row groups group) ≡ true) × (unpaid f ≡ true)
  is_unpaid_call f = by (any_calls calls f (row groups group)) (is_earlier groups calls group f) (has_bound groups meter done f)
    where
      by : (c e h : Bool) → (c && e) && not h ≡ true → (c ≡ true) × (e && not h ≡ true)
      by true e h w = (refl, w)
      by false e h w = absurd (cc)

  pub least_is_first : least_called unpaid count calls (row groups group) None ≡ least_from in_the_way count 0
  least_is_first = by (least_called unpaid count calls (row groups group) None) (least_from in_the_way count 0) refl (rows_more unpaid count calls (row groups group) (λ f. ⊥) None (λ g low m. absurd m))
    where
      Called : ℕ → Type 0
      Called f = ⊥ ⊎ (any_calls calls f (row groups group) ≡ true)

      called : (f : ℕ) → Called f → any_calls calls f (row groups group) ≡ true
      called f (inl m) = absurd m
      called f (inr e) = e

      by : (least first : Option ℕ) → least_from in_the_way count 0 ≡ first → IsLeastMet unpaid count Called least → least ≡ first
      by None None e is = refl
      by None (Some f) e is =
          let found = is_first in_the_way count 0 f e in
          let call = is_unpaid_call f found.passes in
          let out = is f (omega (arith, found.below)) (inr call.0) in
          absurd (cc (out, call.1))
      by (Some f) None e is =
          let way = is_in_the_way f (called f is.1) is.2 in
          let out = none_passes in_the_way count 0 f e (omega arith) (let low = is.0 in omega (arith, low)) in
          absurd (cc (way, out))
      by (Some f) (Some g) e is =
          let found = is_first in_the_way count 0 g e in
          let call = is_unpaid_call g found.passes in
          ap Some (either (nat_lt f g) refl (nat_lt g f) refl)
        where
          either : (b : Bool) → nat_lt f g ≡ b → (c : Bool) → nat_lt g f ≡ c → f ≡ g
          either true less c more =
              let found = is_first in_the_way count 0 g e in
              let way = is_in_the_way f (called f is.1) is.2 in
              let out = found.first f (omega arith) (grind (arith, nat_tests)) in
              absurd (cc (way, out))
          either false less true more =
              let found = is_first in_the_way count 0 g e in
              let call = is_unpaid_call g found.passes in
              let out = is.3 g (grind (arith, nat_tests)) (inr call.0) in
              absurd (cc (out, call.1))
          either false less false more = grind (arith, nat_tests)
