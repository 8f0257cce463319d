-- What a reader leaves is an end of the tokens.
use Rattle.std.proofs.Common.{◌≡◌, ◌+◌, ℕ, zero, suc, List, [], ◌∷◌, ◌++◌, refl, sym, ap, subst, ◌∙◌, append_assoc}
use Rattle.std.specs.Prelude.{Option, Some, None, Bool, true, false, Ok, Err, nat_le, nat_eq, if◌then◌else◌}
use Rattle.parse_spec.specs.Rules.{Rule, Done, Take, Sub, Either, Many, Grammar, opening}
use Rattle.parse_spec.specs.Derives.{Syntax}
use Rattle.parse_spec.specs.Reading.{Answer, ◌>>=◌, higher, taken, rest_of, pick, parts, rule_of, form_of, start_of, goes_at, full_of, again_of, more_of, chain_of, level_of, read}
use Rattle.parse_spec.proofs.Items.{many_of, many_rule}

module _ {T V C : Type 0} (g : Grammar T V C) where
  abbrev pub Tail : List T → Answer T V → Type 0
  Tail s (Ok (e, h, u)) = (c : List T) × (s ≡ c ++ u)
  Tail s (Err (k, u)) = (c : List T) × (s ≡ c ++ u)

  pub tail_more : (c s s' : List T) (o : Answer T V) → s' ≡ c ++ s → Tail s o → Tail s' o
  tail_more c s s' (Ok (e, h, u)) eq w = (c ++ w.0, eq ∙ ap (λ s. c ++ s) w.1 ∙ sym (append_assoc c w.0 u))
  tail_more c s s' (Err (k, u)) eq w = (c ++ w.0, eq ∙ ap (λ s. c ++ s) w.1 ∙ sym (append_assoc c w.0 u))

  pub tail_then : (s : List T) (o : Answer T V) (go : V × ℕ × List T → Answer T V) → Tail s o → ((e : V) (h : ℕ) (u : List T) → Tail u (go (e, h, u))) → Tail s (o >>= go)
  tail_then s (Ok (e, h, u)) go w f = tail_more w.0 u s (go (e, h, u)) w.1 (f e h u)
  tail_then s (Err (k, u)) go w f = w

  pub tail_higher : (s : List T) (h : ℕ) (o : Answer T V) → Tail s o → Tail s (higher h o)
  tail_higher s h o w = tail_then s o _ w (λ e i u. ([], refl))

  pub tail_if : (b : Bool) (s : List T) (x y : Answer T V) → Tail s x → Tail s y → Tail s (if b then x else y)
  tail_if true s x y p q = p
  tail_if false s x y p q = q

  pub tail_pick : (o : Option (List V)) (s : List T) (go : List V → Answer T V) (other : Answer T V) → ((ws : List V) → Tail s (go ws)) → Tail s other → Tail s (pick o go other)
  tail_pick None s go other f w = w
  tail_pick (Some ws) s go other f w = f ws

  pub tail_rest : (s : List T) (o : Answer T V) → Tail (rest_of s) o → Tail s o
  tail_rest [] o w = w
  tail_rest (t ∷ s) o w = tail_more (t ∷ []) s (t ∷ s) o refl w

  pub many_tail : (item : List T → Answer T V) (f : T → Option (List V)) (next : List V → List T → Answer T V) → ((s : List T) → Tail s (item s)) → ((vs : List V) (s : List T) → Tail s (next vs s)) → (k : ℕ) (vs : List V) (s : List T) → Tail s (many_of item f next k vs s)
  many_tail item f next i n zero vs s = tail_then s (item s) _ (i s) (λ e h u. tail_higher u h _ (tail_pick (taken f u) u _ _ (λ ws. ([], refl)) (n (e ∷ vs) u)))
  many_tail item f next i n (suc k) vs s = tail_then s (item s) _ (i s) (λ e h u. tail_higher u h _ (tail_pick (taken f u) u _ _ (λ ws. tail_rest u _ (many_tail item f next i n k (ws ++ e ∷ vs) (rest_of u))) (n (e ∷ vs) u)))

  module _ (sub : C → ℕ → List T → Answer T V) (m d : ℕ) (l : (c : C) (n : ℕ) (s : List T) → Tail s (sub c n s)) where
    pub rule_tail : (r : Rule T V C) (vs : List V) (s : List T) → Tail s (rule_of g sub m d r vs s)
    rule_tail (Done act) vs s = ([], refl)
    rule_tail (Take f r) vs s = go (taken f s) (λ ws. tail_rest s _ (rule_tail r (ws ++ vs) (rest_of s)))
      where
        go : (o : Option (List V)) → ((ws : List V) → Tail s (rule_of g sub m d r (ws ++ vs) (rest_of s))) → Tail s ((pick o (λ ws. Ok (ws, rest_of s)) (Err (Syntax, s))) >>= (λ (y : List V × List T). rule_of g sub m d r (y.0 ++ vs) y.1))
        go None w = ([], refl)
        go (Some ws) w = w ws
    rule_tail (Sub c n r) vs s = tail_then s (sub c n s) _ (l c n s) (λ e h u. tail_higher u h _ (rule_tail r (e ∷ vs) u))
    rule_tail (Either f r q) vs s = tail_pick (taken f s) s _ _ (λ ws. tail_if (nat_le (parts r) d) s _ _ (tail_rest s _ (rule_tail r (ws ++ vs) (rest_of s))) ([], refl)) (rule_tail q vs s)
    rule_tail (Many k f item r) vs s = subst (Tail s) (many_rule g sub m d k f item r vs s) (many_tail (rule_of g sub m d item []) f (rule_of g sub m d r) (rule_tail item []) (rule_tail r) (k + m) vs s)

    form_tail : (n : ℕ) (o : Option (ℕ × Rule T V C)) (s : List T) (other : Answer T V) → Tail s other → Tail s (form_of g sub m d n o s other)
    form_tail n None s other w = w
    form_tail n (Some x) s other w = tail_if (nat_eq x.0 n) s _ _ (tail_if (nat_le (parts x.1) d) s _ _ (tail_rest s _ (tail_then (rest_of s) _ _ (rule_tail x.1 (opening g s) (rest_of s)) (λ e h u. ([], refl)))) ([], refl)) w

    pub start_tail : (c : C) (n : ℕ) (s : List T) (other : Answer T V) → Tail s other → Tail s (start_of g sub m d c n s other)
    start_tail c n [] other w = w
    start_tail c n (t ∷ s) other w = form_tail n (g.starts c t) (t ∷ s) other w

    more_tail : (w : List V) (go : V → ℕ → List T → Answer T V) → ((e : V) (h : ℕ) (u : List T) → Tail u (go e h u)) → (o : Option (Rule T V C)) (e : V) (h : ℕ) (u : List T) → Tail u (more_of g sub m d w go o e h u)
    more_tail w go y None e h u = ([], refl)
    more_tail w go y (Some r) e h u = tail_if (nat_le h d) u _ _ (tail_rest u _ (tail_then (rest_of u) _ _ (rule_tail r (e ∷ w) (rest_of u)) (λ e i u. y _ _ u))) ([], refl)

    full_tail : (o : Option (Rule T V C)) (e : V) (h : ℕ) (u : List T) → Tail u (full_of o e h u)
    full_tail None e h u = ([], refl)
    full_tail (Some r) e h u = ([], refl)

    pub again_tail : (b : Bool) (go : V → ℕ → List T → Answer T V) → ((e : V) (h : ℕ) (u : List T) → Tail u (go e h u)) → (e : V) (h : ℕ) (u : List T) → Tail u (again_of b go e h u)
    again_tail true go y e h u = y e h u
    again_tail false go y e h u = ([], refl)

    pub chain_tail : (c : C) (n : ℕ) (w : List V) (k : ℕ) (e : V) (h : ℕ) (u : List T) → Tail u (chain_of g sub m d c n w k e h u)
    chain_tail c n w zero e h u = full_tail (goes_at g c n u) e h u
    chain_tail c n w (suc k) e h u = more_tail w _ (again_tail (g.chains c n) _ (chain_tail c n w k)) (goes_at g c n u) e h u

    pub level_tail : (c : C) (n : ℕ) (s : List T) → Tail s (level_of g sub m d c n s)
    level_tail c zero s = start_tail c zero s _ ([], refl)
    level_tail c (suc n) s = start_tail c (suc n) s _ (tail_then s _ _ (level_tail c n s) (λ e h u. chain_tail c n (opening g s) (suc d) e h u))

  pub read_tail : (m d : ℕ) (c : C) (n : ℕ) (s : List T) → Tail s (read g m d c n s)
  read_tail m zero c n s = ([], refl)
  read_tail m (suc d) c n s = level_tail (read g m d) m d (read_tail m d) c n s
