-- Where a reader within the limits tells of too many items, by what is counted of the tokens before.
use Rattle.std.proofs.Common.{◌≡◌, ◌<◌, ◌+◌, ℕ, zero, suc, List, [], ◌∷◌, ◌++◌, refl, sym, ap, subst, ◌∙◌, arith, append_assoc}
use Rattle.std.specs.Prelude.{max, Option, Some, None, Bool, true, false, Ok, Err, nat_le, nat_eq, if◌then◌else◌}
use Rattle.parse_spec.specs.Rules.{Rule, Done, Take, Sub, Either, Many, Grammar, opening}
use Rattle.parse_spec.specs.declared.Kind.TheVariants.{Syntax, TooDeep, TooMany}
use Rattle.parse_spec.specs.Reading.{Answer, ◌>>=◌, higher, taken, rest_of, pick, parts, rule_of, form_of, start_of, goes_here, goes_at, full_of, again_of, more_of, chain_of, level_of, read}
use Rattle.parse_spec.proofs.Items.{many_of, many_rule}

module _ {T V C : Type 0} (g : Grammar T V C) {S : Type 0} (after : S → T → S) (Over : S → T → Type 0) where
  abbrev pub run : S → List T → S
  run x [] = x
  run x (t ∷ s) = run (after x t) s

  -- no token is one too many
  abbrev pub Fits : S → List T → Type 0
  Fits x [] = Unit {0}
  Fits x (t ∷ s) = (Over x t → ⊥) × Fits (after x t) s

  -- a token leads from a count to the other, and is not one too many
  abbrev pub Leads : S → T → S → Type 0
  Leads x t y = (Over x t → ⊥) × (after x t ≡ y)

  -- so does each token that the test takes
  pub record Moves (f : T → Option (List V)) (x y : S) : Type 0 where
    pub step : (t : T) (ws : List V) → f t ≡ Some ws → Leads x t y

  -- such a count is left, where one is given
  abbrev pub Left : Option S → S → Type 0
  Left None x = Unit {0}
  Left (Some y) x = x ≡ y

  -- within its limits the rule leads from the count to the one that is given; its phrases leave counts as they are
  pub data Turns : Option S → Rule T V C → S → Type 0 where
    end : {z : Option S} {act : List V → V} {x : S} → Left z x → Turns z (Done act) x
    take : {z : Option S} {f : T → Option (List V)} {r : Rule T V C} {x y : S} → Moves f x y → Turns z r y → Turns z (Take f r) x
    part : {z : Option S} {c : C} {n : ℕ} {r : Rule T V C} {x : S} → Turns z r x → Turns z (Sub c n r) x
    either : {z : Option S} {f : T → Option (List V)} {r q : Rule T V C} {x y : S} → Moves f x y → Turns z r y → Turns z q x → Turns z (Either f r q) x
    many :
        {z : Option S} {k : ℕ} {f : T → Option (List V)} {item r : Rule T V C} {x : S}
        → (at : ℕ → S)
        → at 0 ≡ x
        → ((j : ℕ) → Turns (Some (at j)) item (at j))
        → ((j : ℕ) → j < k → Moves f (at j) (at (suc j)))
        → ((t : T) (ws : List V) → f t ≡ Some ws → Over (at k) t)
        → ((j : ℕ) → Turns z r (at j))
        → Turns z (Many k f item r) x

  -- a token and then a rule leave the count as it is
  abbrev pub Returns : T → Rule T V C → Type 0
  Returns t r = (x : S) → (y : S) × Leads x t y × Turns (Some x) r y

  -- what is read fits and leaves such a count; too many are told at a token that is one too many
  abbrev pub Told : S → Option S → List T → Answer T V → Type 0
  Told x z s (Ok (e, h, u)) = (a : List T) × (s ≡ a ++ u) × Fits x a × Left z (run x a)
  Told x z s (Err (TooMany, u)) = (a : List T) × (t : T) × (b : List T) × (s ≡ a ++ t ∷ b) × (u ≡ t ∷ b) × Over (run x a) t
  Told x z s (Err (k, u)) = Unit {0}

  -- reading leaves the count as it is
  abbrev pub Keeps : S → List T → Answer T V → Type 0
  Keeps x s o = Told x (Some x) s o

  run_append : (x : S) (a b : List T) → run x (a ++ b) ≡ run (run x a) b
  run_append x [] b = refl
  run_append x (t ∷ a) b = run_append (after x t) a b

  fits_append : (x : S) (a b : List T) → Fits x a → Fits (run x a) b → Fits x (a ++ b)
  fits_append x [] b p q = q
  fits_append x (t ∷ a) b p q = (p.0, fits_append (after x t) a b p.1 q)

  pub fits_at : (x : S) (a : List T) (t : T) (b : List T) → Fits x (a ++ t ∷ b) → Over (run x a) t → ⊥
  fits_at x [] t b p = p.0
  fits_at x (u ∷ a) t b p = fits_at (after x u) a t b p.1

  told_more : (x : S) (z : Option S) (c s s' : List T) (o : Answer T V) → s' ≡ c ++ s → Fits x c → Told (run x c) z s o → Told x z s' o
  told_more x z c s s' (Ok (e, h, u)) eq f w =
      (c ++ w.0, eq ∙ ap (λ s. c ++ s) w.1 ∙ sym (append_assoc c w.0 u), fits_append x c w.0 f w.2, subst (Left z) (sym (run_append x c w.0)) w.3)
  told_more x z c s s' (Err (TooMany, u)) eq f w =
      (c ++ w.0, w.1, w.2, eq ∙ ap (λ s. c ++ s) w.3 ∙ sym (append_assoc c w.0 (w.1 ∷ w.2)), w.4, subst (λ y. Over y w.1) (sym (run_append x c w.0)) w.5)
  told_more x z c s s' (Err (Syntax, u)) eq f w = tt
  told_more x z c s s' (Err (TooDeep, u)) eq f w = tt

  -- a part, and then what follows from the count that it leaves
  told_then : (x y : S) (z : Option S) (s : List T) (o : Answer T V) (go : V × ℕ × List T → Answer T V) → Told x (Some y) s o → ((e : V) (h : ℕ) (u : List T) → Told y z u (go (e, h, u))) → Told x z s (o >>= go)
  told_then x y z s (Ok (e, h, u)) go w f = told_more x z w.0 u s (go (e, h, u)) w.1 w.2 (subst (λ y. Told y z u (go (e, h, u))) (sym w.3) (f e h u))
  told_then x y z s (Err (TooMany, u)) go w f = w
  told_then x y z s (Err (Syntax, u)) go w f = tt
  told_then x y z s (Err (TooDeep, u)) go w f = tt

  -- nothing read
  told_here : (x : S) (z : Option S) (e : V) (h : ℕ) (s : List T) → Left z x → Told x z s (Ok (e, h, s))
  told_here x z e h s w = ([], refl, tt, w)

  told_higher : (x : S) (z : Option S) (s : List T) (h : ℕ) (o : Answer T V) → Told x z s o → Told x z s (higher h o)
  told_higher x z s h (Ok (e, i, u)) w = w
  told_higher x z s h (Err (TooMany, u)) w = w
  told_higher x z s h (Err (Syntax, u)) w = tt
  told_higher x z s h (Err (TooDeep, u)) w = tt

  told_if : (b : Bool) (x : S) (z : Option S) (s : List T) (o r : Answer T V) → Told x z s o → Told x z s r → Told x z s (if b then o else r)
  told_if true x z s o r p q = p
  told_if false x z s o r p q = q

  -- one token
  told_token : (x y : S) (z : Option S) (t : T) (s : List T) (o : Answer T V) → Leads x t y → Told y z s o → Told x z (t ∷ s) o
  told_token x y z t s o l w = told_more x z (t ∷ []) s (t ∷ s) o refl (l.0, tt) (subst (λ y. Told y z s o) (sym l.1) w)

  -- a token that the test takes, or none
  told_pick : (f : T → Option (List V)) (x : S) (z : Option S) (s : List T) (go : List T → List V → Answer T V) (other : Answer T V) → ((t : T) (u : List T) (ws : List V) → f t ≡ Some ws → Told x z (t ∷ u) (go (t ∷ u) ws)) → Told x z s other → Told x z s (pick (taken f s) (go s) other)
  told_pick f x z [] go other w v = v
  told_pick f x z (t ∷ u) go other w v = here (f t) refl
    where
      here : (o : Option (List V)) → f t ≡ o → Told x z (t ∷ u) (pick o (go (t ∷ u)) other)
      here None q = v
      here (Some ws) q = w t u ws q

  module _ (item : List T → Answer T V) (k0 : ℕ) (f : T → Option (List V)) (next : List V → List T → Answer T V) (at : ℕ → S) (z : Option S)
      (one : (j : ℕ) (s : List T) → Keeps (at j) s (item s))
      (fits : (j : ℕ) → j < k0 → Moves f (at j) (at (suc j)))
      (over : (t : T) (ws : List V) → f t ≡ Some ws → Over (at k0) t)
      (last : (j : ℕ) (vs : List V) (s : List T) → Told (at j) z s (next vs s)) where
    many_told : (k c : ℕ) → k + c ≡ k0 → (vs : List V) (s : List T) → Told (at c) z s (many_of item f next k vs s)
    many_told zero c eq vs s =
        let p : k0 ≡ c = omega (arith, eq) in
        told_then (at c) (at c) z s (item s) _ (one c s)
        (λ e h u. told_higher (at c) z u h _ (told_pick f (at c) z u (λ u ws. Err (TooMany, u)) (next (e ∷ vs) u)
        (λ t v ws q. ([], t, v, refl, refl, subst (λ j. Over (at j) t) p (over t ws q)))
        (last c (e ∷ vs) u)))
    many_told (suc k) c eq vs s =
        told_then (at c) (at c) z s (item s) _ (one c s)
        (λ e h u. told_higher (at c) z u h _ (told_pick f (at c) z u (λ u ws. many_of item f next k (ws ++ e ∷ vs) (rest_of u)) (next (e ∷ vs) u)
        (λ t v ws q. told_token (at c) (at (suc c)) z t v _ ((fits c (omega (arith, eq))).step t ws q) (many_told k (suc c) (omega (arith, eq)) (ws ++ e ∷ vs) v))
        (last c (e ∷ vs) u)))

  module _ (sub : C → ℕ → List T → Answer T V) (d : ℕ) (l : (x : S) (c : C) (n : ℕ) (s : List T) → Keeps x s (sub c n s)) where
    rule_told : {z : Option S} {r : Rule T V C} {x : S} → Turns z r x → (vs : List V) (s : List T) → Told x z s (rule_of g sub 0 d r vs s)
    rule_told (end {z = z} {act = act} {x = x} w) vs s = told_here x z (act vs) 0 s w
    rule_told (take m w) vs [] = tt
    rule_told (take {z = z} {f = f} {r = r} {x = x} {y = y} m w) vs (t ∷ s) = go (f t) refl (λ ws. rule_told w (ws ++ vs) s)
      where
        go : (o : Option (List V)) → f t ≡ o → ((ws : List V) → Told y z s (rule_of g sub 0 d r (ws ++ vs) s)) → Told x z (t ∷ s) ((pick o (λ ws. Ok (ws, s)) (Err (Syntax, t ∷ s))) >>= (λ (y : List V × List T). rule_of g sub 0 d r (y.0 ++ vs) y.1))
        go None q v = tt
        go (Some ws) q v = told_token x y z t s _ (m.step t ws q) (v ws)
    rule_told (part {z = z} {c = c} {n = n} {r = r} {x = x} w) vs s = told_then x x z s (sub c n s) _ (l x c n s) (λ e h u. told_higher x z u h (rule_of g sub 0 d r (e ∷ vs) u) (rule_told w (e ∷ vs) u))
    rule_told (either {z = z} {f = f} {r = r} {q = q} {x = x} {y = y} m w v) vs s =
        told_pick f x z s (λ s ws. if nat_le (parts r) d then rule_of g sub 0 d r (ws ++ vs) (rest_of s) else Err (TooDeep, s)) (rule_of g sub 0 d q vs s)
        (λ t u ws p. told_if (nat_le (parts r) d) x z (t ∷ u) _ (Err (TooDeep, t ∷ u)) (told_token x y z t u _ (m.step t ws p) (rule_told w (ws ++ vs) u)) tt)
        (rule_told v vs s)
    rule_told (many {z = z} {k = k} {f = f} {item = item} {r = r} {x = x} at first one fits over last) vs s =
        subst (Told x z s) (many_rule g sub 0 d k f item r vs s)
        (subst (λ y. Told y z s (many_of (rule_of g sub 0 d item []) f (rule_of g sub 0 d r) (k + 0) vs s)) first
        (many_told (rule_of g sub 0 d item []) k f (rule_of g sub 0 d r) at z (λ j s. rule_told (one j) [] s) fits over (λ j vs s. rule_told (last j) vs s) (k + 0) 0 (omega arith) vs s))

    module _ (starts : (c : C) (t : T) (n : ℕ) (r : Rule T V C) → g.starts c t ≡ Some (n, r) → Returns t r) (goes : (c : C) (t : T) (n : ℕ) (r : Rule T V C) → g.goes c t ≡ Some (n, r) → Returns t r) where
      start_told : (x : S) (c : C) (n : ℕ) (s : List T) (other : Answer T V) → Keeps x s other → Keeps x s (start_of g sub 0 d c n s other)
      start_told x c n [] other w = w
      start_told x c n (t ∷ s) other w = go (g.starts c t) refl
        where
          go : (o : Option (ℕ × Rule T V C)) → g.starts c t ≡ o → Keeps x (t ∷ s) (form_of g sub 0 d n o (t ∷ s) other)
          go None q = w
          go (Some i) q =
              let v = starts c t i.0 i.1 q x in
              told_if (nat_eq i.0 n) x (Some x) (t ∷ s) _ other
              (told_if (nat_le (parts i.1) d) x (Some x) (t ∷ s) _ (Err (TooDeep, t ∷ s))
              (told_token x v.0 (Some x) t s _ v.1 (told_then v.0 x (Some x) s _ _ (rule_told v.2 (g.mark t ∷ []) s) (λ e h u. told_here x (Some x) e (suc h) u refl))) tt) w

      -- what goes on leaves counts as they are
      abbrev Chained : S → (V → ℕ → List T → Answer T V) → Type 0
      Chained x go = (e : V) (h : ℕ) (u : List T) → Keeps x u (go e h u)

      again_told : (x : S) (b : Bool) (go : V → ℕ → List T → Answer T V) → Chained x go → Chained x (again_of b go)
      again_told x true go w e h u = w e h u
      again_told x false go w e h u = told_here x (Some x) e h u refl

      full_told : (x : S) (o : Option (Rule T V C)) → Chained x (full_of o)
      full_told x None e h u = told_here x (Some x) e h u refl
      full_told x (Some r) e h u = tt

      -- the form that goes on here
      found : (c : C) (n : ℕ) (t : T) (r : Rule T V C) → goes_here n (g.goes c t) ≡ Some r → Returns t r
      found c n t r p = go (g.goes c t) refl p
        where
          go : (o : Option (ℕ × Rule T V C)) → g.goes c t ≡ o → goes_here n o ≡ Some r → Returns t r
          go None q p = absurd (cc)
          go (Some i) q p = here (nat_eq i.0 n) p
            where
              here : (b : Bool) → (if b then Some i.1 else None) ≡ Some r → Returns t r
              here true p = let e : i.1 ≡ r = cc in subst (Returns t) e (goes c t i.0 i.1 q)
              here false p = absurd (cc)

      more_told : (x : S) (c : C) (n : ℕ) (w : List V) (go : V → ℕ → List T → Answer T V) → Chained x go → Chained x (λ e h u. more_of g sub 0 d w go (goes_at g c n u) e h u)
      more_told x c n w go f e h [] = told_here x (Some x) e h [] refl
      more_told x c n w go f e h (t ∷ u) = here (goes_here n (g.goes c t)) refl
        where
          here : (o : Option (Rule T V C)) → goes_here n (g.goes c t) ≡ o → Keeps x (t ∷ u) (more_of g sub 0 d w go o e h (t ∷ u))
          here None q = told_here x (Some x) e h (t ∷ u) refl
          here (Some r) q =
              let v = found c n t r q x in
              told_if (nat_le h d) x (Some x) (t ∷ u) _ (Err (TooDeep, t ∷ u))
              (told_token x v.0 (Some x) t u _ v.1 (told_then v.0 x (Some x) u _ _ (rule_told v.2 (e ∷ w) u) (λ e i u. f e (suc (max h i)) u))) tt

      chain_told : (x : S) (c : C) (n : ℕ) (w : List V) (k : ℕ) → Chained x (chain_of g sub 0 d c n w k)
      chain_told x c n w zero e h u = full_told x (goes_at g c n u) e h u
      chain_told x c n w (suc k) e h u = more_told x c n w (again_of (g.chains c n) (chain_of g sub 0 d c n w k)) (again_told x (g.chains c n) (chain_of g sub 0 d c n w k) (chain_told x c n w k)) e h u

      level_told : (x : S) (c : C) (n : ℕ) (s : List T) → Keeps x s (level_of g sub 0 d c n s)
      level_told x c zero s = start_told x c zero s (Err (Syntax, s)) tt
      level_told x c (suc n) s = start_told x c (suc n) s _ (told_then x x (Some x) s _ _ (level_told x c n s) (λ e h u. chain_told x c n (opening g s) (suc d) e h u))

  module _ (starts : (c : C) (t : T) (n : ℕ) (r : Rule T V C) → g.starts c t ≡ Some (n, r) → Returns t r) (goes : (c : C) (t : T) (n : ℕ) (r : Rule T V C) → g.goes c t ≡ Some (n, r) → Returns t r) where
    read_told : (d : ℕ) (x : S) (c : C) (n : ℕ) (s : List T) → Keeps x s (read g 0 d c n s)
    read_told zero x c n s = tt
    read_told (suc d) x c n s = level_told (read g 0 d) d (read_told d) starts goes x c n s

    -- a whole text
    pub text_told : {z : Option S} {x : S} → Turns z g.text x → (d : ℕ) (s : List T) → Told x z s (rule_of g (read g 0 d) 0 d g.text [] s)
    text_told w d s = rule_told (read g 0 d) d (read_told d) w [] s
