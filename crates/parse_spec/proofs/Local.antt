-- What is read depends on the tokens up to the first one that is left, and greater limits keep it.
use Rattle.std.proofs.Common.{◌⊎◌, inl, inr, ◌≡◌, ◌≤◌, ◌+◌, ℕ, zero, suc, List, [], ◌∷◌, ◌++◌, length, refl, sym, ap, subst, ◌∙◌, arith}
use Rattle.std.proofs.lemmas.List.{length-append, append_cancel_right}
use Rattle.std.proofs.lemmas.Bool.{leb-true, leb-false}
use Rattle.std.specs.Prelude.{max, Option, Some, None, Bool, true, false, Ok, Err, nat_le, nat_eq, if◌then◌else◌}
use Rattle.parse_spec.specs.Rules.{Rule, Done, Take, Sub, Either, Many, Grammar}
use Rattle.parse_spec.specs.Derives.{Kind, Syntax, TooDeep, TooMany}
use Rattle.parse_spec.specs.Reading.{Answer, ◌>>=◌, higher, taken, rest_of, pick, parts, rule_of, form_of, start_of, goes_here, goes_at, full_of, again_of, more_of, chain_of, level_of, read}
use Rattle.parse_spec.proofs.Items.{many_of, many_rule}
use Rattle.parse_spec.proofs.Tails.{Tail, tail_more, tail_then, tail_higher, tail_pick, tail_rest, many_tail, rule_tail, start_tail, again_tail, chain_tail, level_tail, read_tail}

-- Two readers: before z with limits m and d, and before y with limits M and D. K says which kinds of faults both answer.use Rattle.parse_spec.proofs.Items.{many_of, many_rule}

module _ {T V C : Type 0} (g : Grammar T V C) (K : Kind → Type 0) (z y : List T) where
  abbrev pub Follows : Answer T V → Answer T V → Type 0
  Follows (Ok (e, h, u)) o = (t : T) (q : List T) → u ≡ t ∷ (q ++ z) → o ≡ Ok (e, h, t ∷ (q ++ y))
  Follows (Err (k, u)) o = K k → (t : T) (q : List T) → u ≡ t ∷ (q ++ z) → o ≡ Err (k, t ∷ (q ++ y))

  too_long : (c u : List T) (t : T) (q : List T) → z ≡ c ++ u → u ≡ t ∷ (q ++ z) → ⊥
  too_long c u t q p r =
      let a = ap length p ∙ length-append c u in
      let b = ap length r in
      let l = length-append q z in
      let s : length (t ∷ (q ++ z)) ≡ suc (length (q ++ z)) = refl in
      omega (arith, a, b, l, s)

  -- behind the tokens that both have in common there is nothing to say
  vacuous : (o o' : Answer T V) → Tail g z o → Follows o o'
  vacuous (Ok (e, h, u)) o' w = λ t q p. absurd (too_long w.0 u t q w.1 p)
  vacuous (Err (k, u)) o' w = λ kept t q p. absurd (too_long w.0 u t q w.1 p)

  tail_eq : (q : List T) (t : T) (p : List T) → q ++ z ≡ t ∷ (p ++ z) → q ++ y ≡ t ∷ (p ++ y)
  tail_eq q t p eq = ap (λ q. q ++ y) (append_cancel_right q (t ∷ p) z eq)

  same_ok : (e : V) (h : ℕ) (q : List T) → Follows (Ok (e, h, q ++ z)) (Ok (e, h, q ++ y))
  same_ok e h q t p eq = ap (λ u. Ok (e, h, u)) (tail_eq q t p eq)

  same_err : (k : Kind) (q : List T) → Follows (Err (k, q ++ z)) (Err (k, q ++ y))
  same_err k q kept t p eq = ap (λ u. Err (k, u)) (tail_eq q t p eq)

  -- what is left of x ++ z ends in x or in z
  cut : (x c u : List T) → x ++ z ≡ c ++ u → ((t : T) × (q : List T) × (u ≡ t ∷ (q ++ z))) ⊎ ((c : List T) × (z ≡ c ++ u))
  cut [] c u eq = inr (c, eq)
  cut (t ∷ x) [] u eq = inl (t, x, sym eq)
  cut (t ∷ x) (s ∷ c) u eq = cut x c u (cc)

  follows_then : (x : List T) (o o' : Answer T V) (go go' : V × ℕ × List T → Answer T V) → Tail g (x ++ z) o → Follows o o' → ((e : V) (h : ℕ) (u : List T) → Tail g u (go (e, h, u))) → ((e : V) (h : ℕ) (q : List T) → Follows (go (e, h, q ++ z)) (go' (e, h, q ++ y))) → Follows (o >>= go) (o' >>= go')
  follows_then x (Ok (e, h, u)) o' go go' w f v l = here (cut x w.0 u w.1)
    where
      here : ((t : T) × (q : List T) × (u ≡ t ∷ (q ++ z))) ⊎ ((c : List T) × (z ≡ c ++ u)) → Follows (go (e, h, u)) (o' >>= go')
      here (inl i) =
          subst (λ u. Follows (go (e, h, u)) (o' >>= go')) (sym i.2)
          (subst (λ r. Follows (go (e, h, i.0 ∷ (i.1 ++ z))) r) (sym (ap (λ o. o >>= go') (f i.0 i.1 i.2))) (l e h (i.0 ∷ i.1)))
      here (inr i) = vacuous (go (e, h, u)) (o' >>= go') (tail_more g i.0 u z (go (e, h, u)) i.1 (v e h u))
  follows_then x (Err (k, u)) o' go go' w f v l = λ kept t q eq. ap (λ o. o >>= go') (f kept t q eq)

  follows_if : (b : Bool) (x x' v v' : Answer T V) → Follows x x' → Follows v v' → Follows (if b then x else v) (if b then x' else v')
  follows_if true x x' v v' p q = p
  follows_if false x x' v v' p q = q

  follows_pick : (o : Option (List V)) (go go' : List V → Answer T V) (v v' : Answer T V) → ((ws : List V) → Follows (go ws) (go' ws)) → Follows v v' → Follows (pick o go v) (pick o go' v')
  follows_pick None go go' v v' p q = q
  follows_pick (Some ws) go go' v v' p q = p ws

  follows_higher : (x : List T) (h : ℕ) (o o' : Answer T V) → Tail g (x ++ z) o → Follows o o' → Follows (higher h o) (higher h o')
  follows_higher x h o o' w f = follows_then x o o' _ _ w f (λ e i u. ([], refl)) (λ e i q. same_ok e (max h i) q)

  module _ (m M d D : ℕ) (mle : m ≤ M) (dle : d ≤ D) (km : K TooMany → m ≡ M) (kd : K TooDeep → d ≡ D) where
    -- a test of height
    guard : (h : ℕ) (x x' : Answer T V) (q : List T) → Follows x x' → Follows (if nat_le h d then x else Err (TooDeep, q ++ z)) (if nat_le h D then x' else Err (TooDeep, q ++ y))
    guard h x x' q f = go (nat_le h d) (nat_le h D) refl refl
      where
        go : (b c : Bool) → nat_le h d ≡ b → nat_le h D ≡ c → Follows (if b then x else Err (TooDeep, q ++ z)) (if c then x' else Err (TooDeep, q ++ y))
        go true true r s = f
        go true false r s = absurd (let a = leb-true h d r in let b = leb-false h D s in omega (arith, a, b, dle))
        go false false r s = same_err TooDeep q
        go false true r s = λ kept. absurd (let p : false ≡ true = sym r ∙ ap (nat_le h) (kd kept) ∙ s in cc)

    module _ (sub sub' : C → ℕ → List T → Answer T V) (w : (c : C) (n : ℕ) (s : List T) → Tail g s (sub c n s)) (l : (c : C) (n : ℕ) (q : List T) → Follows (sub c n (q ++ z)) (sub' c n (q ++ y))) where
      abbrev One : Rule T V C → List V → List T → Answer T V
      One r vs s = rule_of g sub m d r vs s

      abbrev Two : Rule T V C → List V → List T → Answer T V
      Two r vs s = rule_of g sub' M D r vs s

      abbrev Same : Rule T V C → Type 0
      Same r = (vs : List V) (q : List T) → Follows (One r vs (q ++ z)) (Two r vs (q ++ y))

      abbrev one_tail : (r : Rule T V C) (vs : List V) (s : List T) → Tail g s (One r vs s)
      one_tail r vs s = rule_tail g sub m d w r vs s

      module _ (f : T → Option (List V)) (item r : Rule T V C) (i : Same item) (n : Same r) where
        last_tail : (e : V) (vs : List V) (u : List T) → Tail g u (pick (taken f u) (λ ws. Err (TooMany, u)) (One r (e ∷ vs) u))
        last_tail e vs u = tail_pick g (taken f u) u _ _ (λ ws. ([], refl)) (one_tail r (e ∷ vs) u)

        next_tail : (k : ℕ) (e : V) (vs : List V) (u : List T) → Tail g u (pick (taken f u) (λ ws. many_of (One item []) f (One r) k (ws ++ e ∷ vs) (rest_of u)) (One r (e ∷ vs) u))
        next_tail k e vs u = tail_pick g (taken f u) u _ _ (λ ws. tail_rest g u _ (many_tail g (One item []) f (One r) (one_tail item []) (one_tail r) k (ws ++ e ∷ vs) (rest_of u))) (one_tail r (e ∷ vs) u)

        many_follows : (k j : ℕ) → k ≤ j → (K TooMany → k ≡ j) → (vs : List V) (q : List T) → Follows (many_of (One item []) f (One r) k vs (q ++ z)) (many_of (Two item []) f (Two r) j vs (q ++ y))
        many_follows zero zero le kk vs q =
            follows_then q (One item [] (q ++ z)) (Two item [] (q ++ y)) _ _ (one_tail item [] (q ++ z)) (i [] q)
            (λ e h u. tail_higher g u h _ (last_tail e vs u))
            (λ e h q. follows_higher q h _ _ (last_tail e vs (q ++ z)) (go e q))
          where
            go : (e : V) (q : List T) → Follows (pick (taken f (q ++ z)) (λ ws. Err (TooMany, q ++ z)) (One r (e ∷ vs) (q ++ z))) (pick (taken f (q ++ y)) (λ ws. Err (TooMany, q ++ y)) (Two r (e ∷ vs) (q ++ y)))
            go e [] = vacuous _ _ (last_tail e vs z)
            go e (t ∷ q) = follows_pick (f t) _ _ _ _ (λ ws. same_err TooMany (t ∷ q)) (n (e ∷ vs) (t ∷ q))
        many_follows zero (suc j) le kk vs q =
            follows_then q (One item [] (q ++ z)) (Two item [] (q ++ y)) _ _ (one_tail item [] (q ++ z)) (i [] q)
            (λ e h u. tail_higher g u h _ (last_tail e vs u))
            (λ e h q. follows_higher q h _ _ (last_tail e vs (q ++ z)) (go e q))
          where
            go : (e : V) (q : List T) → Follows (pick (taken f (q ++ z)) (λ ws. Err (TooMany, q ++ z)) (One r (e ∷ vs) (q ++ z))) (pick (taken f (q ++ y)) (λ ws. many_of (Two item []) f (Two r) j (ws ++ e ∷ vs) (rest_of (q ++ y))) (Two r (e ∷ vs) (q ++ y)))
            go e [] = vacuous _ _ (last_tail e vs z)
            go e (t ∷ q) = follows_pick (f t) _ _ _ _ (λ ws kept. absurd (let p = kk kept in omega (arith, p))) (n (e ∷ vs) (t ∷ q))
        many_follows (suc k) zero le kk vs q = absurd (omega (arith, le))
        many_follows (suc k) (suc j) le kk vs q =
            follows_then q (One item [] (q ++ z)) (Two item [] (q ++ y)) _ _ (one_tail item [] (q ++ z)) (i [] q)
            (λ e h u. tail_higher g u h _ (next_tail k e vs u))
            (λ e h q. follows_higher q h _ _ (next_tail k e vs (q ++ z)) (go (many_follows k j (omega (arith, le)) (λ kept. let p = kk kept in omega (arith, p))) e q))
          where
            go : ((vs : List V) (q : List T) → Follows (many_of (One item []) f (One r) k vs (q ++ z)) (many_of (Two item []) f (Two r) j vs (q ++ y))) → (e : V) (q : List T)
                → Follows (pick (taken f (q ++ z)) (λ ws. many_of (One item []) f (One r) k (ws ++ e ∷ vs) (rest_of (q ++ z))) (One r (e ∷ vs) (q ++ z))) (pick (taken f (q ++ y)) (λ ws. many_of (Two item []) f (Two r) j (ws ++ e ∷ vs) (rest_of (q ++ y))) (Two r (e ∷ vs) (q ++ y)))
            go again e [] = vacuous _ _ (next_tail k e vs z)
            go again e (t ∷ q) = follows_pick (f t) _ _ _ _ (λ ws. again (ws ++ e ∷ vs) q) (n (e ∷ vs) (t ∷ q))

      pub rule_follows : (r : Rule T V C) (vs : List V) (q : List T) → Follows (One r vs (q ++ z)) (Two r vs (q ++ y))
      rule_follows (Done act) vs q = same_ok (act vs) 0 q
      rule_follows (Take f r) vs [] = vacuous _ _ (one_tail (Take f r) vs z)
      rule_follows (Take f r) vs (t ∷ q) = go (f t) (λ ws. rule_follows r (ws ++ vs) q)
        where
          go : (o : Option (List V)) → ((ws : List V) → Follows (One r (ws ++ vs) (q ++ z)) (Two r (ws ++ vs) (q ++ y)))
              → Follows ((pick o (λ ws. Ok (ws, q ++ z)) (Err (Syntax, t ∷ (q ++ z)))) >>= (λ (x : List V × List T). One r (x.0 ++ vs) x.1)) ((pick o (λ ws. Ok (ws, q ++ y)) (Err (Syntax, t ∷ (q ++ y)))) >>= (λ (x : List V × List T). Two r (x.0 ++ vs) x.1))
          go None v = same_err Syntax (t ∷ q)
          go (Some ws) v = v ws
      rule_follows (Sub c n r) vs q =
          follows_then q (sub c n (q ++ z)) (sub' c n (q ++ y)) _ _ (w c n (q ++ z)) (l c n q)
          (λ e h u. tail_higher g u h _ (one_tail r (e ∷ vs) u))
          (λ e h q. follows_higher q h _ _ (one_tail r (e ∷ vs) (q ++ z)) (rule_follows r (e ∷ vs) q))
      rule_follows (Either f r s) vs [] = vacuous _ _ (one_tail (Either f r s) vs z)
      rule_follows (Either f r s) vs (t ∷ q) = follows_pick (f t) _ _ _ _ (λ ws. guard (parts r) _ _ (t ∷ q) (rule_follows r (ws ++ vs) q)) (rule_follows s vs (t ∷ q))
      rule_follows (Many k f item r) vs q =
          subst (λ o. Follows o (Two (Many k f item r) vs (q ++ y))) (many_rule g sub m d k f item r vs (q ++ z))
          (subst (Follows (many_of (One item []) f (One r) (k + m) vs (q ++ z))) (many_rule g sub' M D k f item r vs (q ++ y))
          (many_follows f item r (rule_follows item) (rule_follows r) (k + m) (k + M) (omega (arith, mle)) (λ kept. ap (λ m. k + m) (km kept)) vs q))

      form_follows : (n : ℕ) (o : Option (ℕ × Rule T V C)) (t : T) (q : List T) (other other' : Answer T V) → Follows other other' → Follows (form_of g sub m d n o (t ∷ (q ++ z)) other) (form_of g sub' M D n o (t ∷ (q ++ y)) other')
      form_follows n None t q other other' v = v
      form_follows n (Some x) t q other other' v =
          follows_if (nat_eq x.0 n) _ _ _ _ (guard (parts x.1) _ _ (t ∷ q) (follows_then q _ _ _ _ (one_tail x.1 (g.mark t ∷ []) (q ++ z)) (rule_follows x.1 (g.mark t ∷ []) q) (λ e h u. ([], refl)) (λ e h q. same_ok e (suc h) q))) v

      start_follows : (c : C) (n : ℕ) (q : List T) (other other' : Answer T V) → Tail g (q ++ z) other → Follows other other' → Follows (start_of g sub m d c n (q ++ z) other) (start_of g sub' M D c n (q ++ y) other')
      start_follows c n [] other other' u v = vacuous _ _ (start_tail g sub m d w c n z other u)
      start_follows c n (t ∷ q) other other' u v = form_follows n (g.starts c t) t q other other' v

      full_follows : (o : Option (Rule T V C)) (e : V) (h : ℕ) (q : List T) → Follows (full_of o e h (q ++ z)) (full_of o e h (q ++ y))
      full_follows None e h q = same_ok e h q
      full_follows (Some r) e h q = same_err TooDeep q

      again_follows : (b : Bool) (go go' : V → ℕ → List T → Answer T V) → ((e : V) (h : ℕ) (q : List T) → Follows (go e h (q ++ z)) (go' e h (q ++ y))) → (e : V) (h : ℕ) (q : List T) → Follows (again_of b go e h (q ++ z)) (again_of b go' e h (q ++ y))
      again_follows true go go' v e h q = v e h q
      again_follows false go go' v e h q = same_ok e h q

      more_follows : (p : List V) (go go' : V → ℕ → List T → Answer T V) → ((e : V) (h : ℕ) (u : List T) → Tail g u (go e h u)) → ((e : V) (h : ℕ) (q : List T) → Follows (go e h (q ++ z)) (go' e h (q ++ y))) → (o : Option (Rule T V C)) (e : V) (h : ℕ) (t : T) (q : List T)
          → Follows (more_of g sub m d p go o e h (t ∷ (q ++ z))) (more_of g sub' M D p go' o e h (t ∷ (q ++ y)))
      more_follows p go go' u v None e h t q = same_ok e h (t ∷ q)
      more_follows p go go' u v (Some r) e h t q =
          guard h _ _ (t ∷ q) (follows_then q _ _ _ _ (one_tail r (e ∷ p) (q ++ z)) (rule_follows r (e ∷ p) q) (λ e i v. u _ _ v) (λ e i q. v e (suc (max h i)) q))

      chain_follows : (c : C) (n : ℕ) (p : List V) (k j : ℕ) → k ≤ j → (K TooDeep → k ≡ j) → (e : V) (h : ℕ) (q : List T) → Follows (chain_of g sub m d c n p k e h (q ++ z)) (chain_of g sub' M D c n p j e h (q ++ y))
      chain_follows c n p k j le kk e h [] = vacuous _ _ (chain_tail g sub m d w c n p k e h z)
      chain_follows c n p zero zero le kk e h (t ∷ q) = full_follows (goes_at g c n (t ∷ (q ++ z))) e h (t ∷ q)
      chain_follows c n p zero (suc j) le kk e h (t ∷ q) = go (goes_here n (g.goes c t)) refl
        where
          go : (o : Option (Rule T V C)) → o ≡ goes_at g c n (t ∷ (q ++ y)) → Follows (full_of o e h (t ∷ (q ++ z))) (chain_of g sub' M D c n p (suc j) e h (t ∷ (q ++ y)))
          go None eq = subst (λ r. Follows (Ok (e, h, t ∷ (q ++ z))) (more_of g sub' M D p (again_of (g.chains c n) (chain_of g sub' M D c n p j)) r e h (t ∷ (q ++ y)))) eq (same_ok e h (t ∷ q))
          go (Some r) eq = λ kept. absurd (let p = kk kept in omega (arith, p))
      chain_follows c n p (suc k) zero le kk e h (t ∷ q) = absurd (omega (arith, le))
      chain_follows c n p (suc k) (suc j) le kk e h (t ∷ q) =
          more_follows p (again_of (g.chains c n) (chain_of g sub m d c n p k)) (again_of (g.chains c n) (chain_of g sub' M D c n p j)) (again_tail g sub m d w (g.chains c n) (chain_of g sub m d c n p k) (chain_tail g sub m d w c n p k))
          (again_follows (g.chains c n) (chain_of g sub m d c n p k) (chain_of g sub' M D c n p j) (chain_follows c n p k j (omega (arith, le)) (λ kept. let p = kk kept in omega (arith, p)))) (goes_here n (g.goes c t)) e h t q

      level_follows : (c : C) (n : ℕ) (q : List T) → Follows (level_of g sub m d c n (q ++ z)) (level_of g sub' M D c n (q ++ y))
      level_follows c zero q = start_follows c zero q _ _ ([], refl) (same_err Syntax q)
      level_follows c (suc n) [] = vacuous _ _ (level_tail g sub m d w c (suc n) z)
      level_follows c (suc n) (t ∷ q) =
          start_follows c (suc n) (t ∷ q) _ _
          (tail_then g (t ∷ (q ++ z)) _ _ (level_tail g sub m d w c n (t ∷ (q ++ z))) (λ e h u. chain_tail g sub m d w c n (g.mark t ∷ []) (suc d) e h u))
          (follows_then (t ∷ q) _ _ _ _ (level_tail g sub m d w c n (t ∷ (q ++ z))) (level_follows c n (t ∷ q)) (λ e h u. chain_tail g sub m d w c n (g.mark t ∷ []) (suc d) e h u) (λ e h q. chain_follows c n (g.mark t ∷ []) (suc d) (suc D) (omega (arith, dle)) (λ kept. ap suc (kd kept)) e h q))

  pub read_follows : (m M : ℕ) → m ≤ M → (K TooMany → m ≡ M) → (d D : ℕ) → d ≤ D → (K TooDeep → d ≡ D) → (c : C) (n : ℕ) (q : List T) → Follows (read g m d c n (q ++ z)) (read g M D c n (q ++ y))
  read_follows m M mle km zero zero dle kd c n q = same_err TooDeep q
  read_follows m M mle km zero (suc D) dle kd c n q = λ kept. absurd (let p = kd kept in omega (arith, p))
  read_follows m M mle km (suc d) zero dle kd c n q = absurd (omega (arith, dle))
  read_follows m M mle km (suc d) (suc D) dle kd c n q =
      let le : d ≤ D = omega (arith, dle) in
      let kk : K TooDeep → d ≡ D = λ kept. let p = kd kept in omega (arith, p) in
      level_follows m M d D mle le km kk (read g m d) (read g M D) (read_tail g m d) (read_follows m M mle km d D le kk) c n q

  pub text_follows : (m M : ℕ) → m ≤ M → (K TooMany → m ≡ M) → (d D : ℕ) → d ≤ D → (K TooDeep → d ≡ D) → (q : List T) → Follows (rule_of g (read g m d) m d g.text [] (q ++ z)) (rule_of g (read g M D) M D g.text [] (q ++ y))
  text_follows m M mle km d D dle kd q = rule_follows m M d D mle dle km kd (read g m d) (read g M D) (read_tail g m d) (read_follows m M mle km d D dle kd) g.text [] q
