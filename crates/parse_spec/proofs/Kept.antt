-- What the rules of a grammar keep holds of all that it derives within its limits.
use Rattle.std.proofs.Common.{◌≡◌, ◌≤◌, ◌+◌, ℕ, zero, suc, List, [], ◌∷◌, ◌++◌, length, refl, sym, ap, subst, ◌∙◌, arith, append_assoc}
use Rattle.std.proofs.lemmas.List.{length-append}
use Rattle.std.specs.Prelude.{Option, Some}
use Rattle.parse_spec.specs.Rules.{Rule, Done, Take, Sub, Either, Many, Grammar, opening}
use Rattle.parse_spec.proofs.Basics.{head_is}
use Rattle.parse_spec.specs.Derives.{Is, form, lower, left, once, IsRest, done, take, part, first, second, many, IsMany, last, next}

module _ {T V C : Type 0} (g : Grammar T V C) where
  module _ (Fine : V → Type 0) where
    -- the values of at most k items more than one, the last one first
    pub data Listed (f : T → Option (List V)) : ℕ → List V → Type 0 where
      one : {k : ℕ} {v : V} → Fine v → Listed f k (v ∷ [])
      more : {k : ℕ} {v : V} {ws vs us : List V} {t : T} → Fine v → f t ≡ Some ws → Listed f k vs → us ≡ v ∷ (ws ++ vs) → Listed f (suc k) us

    -- after these values the rule gives only fine values
    abbrev pub Keeps : Rule T V C → List V → Type 0
    Keeps (Done act) vs = Fine (act vs)
    Keeps (Take f r) vs = (t : T) (ws : List V) → f t ≡ Some ws → Keeps r (ws ++ vs)
    Keeps (Sub c n r) vs = (v : V) → Fine v → Keeps r (v ∷ vs)
    Keeps (Either f r q) vs = ((t : T) (ws : List V) → f t ≡ Some ws → Keeps r (ws ++ vs)) × Keeps q vs
    Keeps (Many k f item r) vs = Keeps item [] × ((us : List V) → Listed f k us → Keeps r (us ++ vs))

    listed_first : (f : T → Option (List V)) (k : ℕ) (us : List V) (v : V) (ws : List V) (t : T) → Listed f k us → Fine v → f t ≡ Some ws → Listed f (suc k) (us ++ (ws ++ v ∷ []))
    listed_first f k us v ws t (one {v = u} x) w q = more x q (one w) refl
    listed_first f k us v ws t (more {k = j} {v = u} {ws = xs} {vs = vs} x p l eq) w q =
        more x p (listed_first f j vs v ws t l w q) (ap (λ us. us ++ (ws ++ v ∷ [])) eq ∙ ap (λ us. u ∷ us) (append_assoc xs vs (ws ++ v ∷ [])))

    module _ (starts : (c : C) (t : T) (n : ℕ) (r : Rule T V C) → g.starts c t ≡ Some (n, r) → Keeps r (g.mark t ∷ [])) (goes : (c : C) (t u : T) (n : ℕ) (r : Rule T V C) (e : V) → g.goes c t ≡ Some (n, r) → Fine e → Keeps r (e ∷ g.mark u ∷ [])) where
      opened : {x n h : ℕ} {c : C} {a : List T} {e : V} → Is g x c n a e h → (d : C) (t : T) (l : ℕ) (r : Rule T V C) → g.goes d t ≡ Some (l, r) → Fine e → Keeps r (e ∷ opening g a)
      opened {e = e} k d t l r q w = let h = head_is g k in subst (λ a. Keeps r (e ∷ opening g a)) (sym h.2) (goes d t h.0 l r e q w)

      mutual
        kept : {c : C} {n h : ℕ} {s : List T} {e : V} → Is g 0 c n s e h → Fine e
        kept (form {c = c} {n = n} {t = t} {r = r} q k eq) = kept_rest k (starts c t n r q)
        kept (lower k) = kept k
        kept (left {c = c} {n = n} {t = t} {r = r} q z k l eq) = kept_rest l (opened k c t n r q (kept k))
        kept (once {c = c} {n = n} {t = t} {r = r} q z k l eq) = kept_rest l (opened k c t n r q (kept k))

        pub kept_rest : {r : Rule T V C} {vs : List V} {h : ℕ} {s : List T} {e : V} → IsRest g 0 r vs s e h → Keeps r vs → Fine e
        kept_rest (done eq is) w = subst Fine (sym is) w
        kept_rest (take {ws = ws} {t = t} q k eq) w = kept_rest k (w t ws q)
        kept_rest (part {v = v} k l eq) w = kept_rest l (w v (kept k))
        kept_rest (first {ws = ws} {t = t} q k eq) w = kept_rest k (w.0 t ws q)
        kept_rest (second k) w = kept_rest k w.1
        kept_rest (many {k = k} m) w = kept_many m w.0 k (omega arith) w.1

        kept_many : {k c h : ℕ} {f : T → Option (List V)} {item r : Rule T V C} {vs : List V} {s : List T} {e : V} → IsMany g 0 k c f item r vs s e h → Keeps item [] → (j : ℕ) → j + c ≡ k → ((us : List V) → Listed f j us → Keeps r (us ++ vs)) → Fine e
        kept_many (last {v = v} m l eq) w j q all = kept_rest l (all (v ∷ []) (one (kept_rest m w)))
        kept_many (next t lt m q l eq) w zero p all = absurd (omega (arith, lt, p))
        kept_many (next {f = f} {r = r} {vs = vs} {ws = ws} {v = v} t lt m q l eq) w (suc j) p all =
            kept_many l w j (omega (arith, p)) (λ us x. subst (Keeps r) (append_assoc us (ws ++ v ∷ []) vs ∙ ap (λ zs. us ++ zs) (append_assoc ws (v ∷ []) vs)) (all (us ++ (ws ++ v ∷ [])) (listed_first f j us v ws t x (kept_rest m w) q)))

  -- A weight of values that no action raises, where each token weighs 1 at most: a text has as many tokens as its value weighs, or more.
  module _ (weight : V → ℕ) where
    abbrev pub total : List V → ℕ
    total [] = 0
    total (v ∷ vs) = weight v + total vs

    total_append : (us vs : List V) → total (us ++ vs) ≡ total us + total vs
    total_append [] vs = omega arith
    total_append (u ∷ us) vs = let p = total_append us vs in omega (arith, p)

    abbrev pub IsLight : (T → Option (List V)) → Type 0
    IsLight f = (t : T) (ws : List V) → f t ≡ Some ws → total ws ≤ 1

    abbrev pub Light : Rule T V C → Type 0
    Light (Done act) = (vs : List V) → weight (act vs) ≤ total vs
    Light (Take f r) = IsLight f × Light r
    Light (Sub c n r) = Light r
    Light (Either f r q) = IsLight f × Light r × Light q
    Light (Many k f item r) = IsLight f × Light item × Light r

    module _ (mark : (t : T) → weight (g.mark t) ≤ 1) (starts : (c : C) (t : T) (n : ℕ) (r : Rule T V C) → g.starts c t ≡ Some (n, r) → Light r) (goes : (c : C) (t : T) (n : ℕ) (r : Rule T V C) → g.goes c t ≡ Some (n, r) → Light r) where
      opening_light : (s : List T) → total (opening g s) ≤ 1
      opening_light [] = omega arith
      opening_light (t ∷ s) = let p = mark t in omega (arith, p)

      mutual
        light : {x n h : ℕ} {c : C} {s : List T} {e : V} → Is g x c n s e h → weight e ≤ length s
        light (form {c = c} {n = n} {a = a} {t = t} {r = r} q k eq) = let p = light_rest k (starts c t n r q) in omega (arith, p, mark t, ap length eq)
        light (lower k) = light k
        light (left {c = c} {n = n} {a = a} {b = b} {t = t} {r = r} q z k l eq) = let p = light k in let w = light_rest l (goes c t n r q) in omega (arith, p, w, opening_light a, ap length eq ∙ length-append a (t ∷ b))
        light (once {c = c} {n = n} {a = a} {b = b} {t = t} {r = r} q z k l eq) = let p = light k in let w = light_rest l (goes c t n r q) in omega (arith, p, w, opening_light a, ap length eq ∙ length-append a (t ∷ b))

        pub light_rest : {r : Rule T V C} {x h : ℕ} {vs : List V} {s : List T} {e : V} → IsRest g x r vs s e h → Light r → weight e ≤ total vs + length s
        light_rest (done {act = act} {vs = vs} eq is) w = let p = w vs in omega (arith, p, ap weight is)
        light_rest (take {vs = vs} {ws = ws} {t = t} q k eq) w = let p = light_rest k w.1 in omega (arith, p, w.0 t ws q, total_append ws vs, ap length eq)
        light_rest (part {a = a} {b = b} k l eq) w = let p = light k in let q = light_rest l w in omega (arith, p, q, ap length eq ∙ length-append a b)
        light_rest (first {vs = vs} {ws = ws} {t = t} q k eq) w = let p = light_rest k w.1 in omega (arith, p, w.0 t ws q, total_append ws vs, ap length eq)
        light_rest (second k) w = light_rest k w.2
        light_rest (many k) w = light_many k w.0 w.1 w.2

        light_many : {x k c h : ℕ} {f : T → Option (List V)} {item r : Rule T V C} {vs : List V} {s : List T} {e : V} → IsMany g x k c f item r vs s e h → IsLight f → Light item → Light r → weight e ≤ total vs + length s
        light_many (last {a = a} {b = b} m l eq) test item w = let p = light_rest m item in let q = light_rest l w in omega (arith, p, q, ap length eq ∙ length-append a b)
        light_many (next {vs = vs} {ws = ws} {a = a} {b = b} {v = v} t lt m q l eq) test item w =
            let p = light_rest m item in
            let r = light_many l test item w in
            omega (arith, p, r, test t ws q, total_append ws (v ∷ vs), ap length eq ∙ length-append a (t ∷ b))
