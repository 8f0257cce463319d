-- What is derived within the height is read.
use Rattle.std.proofs.Common.{◌⊎◌, inl, inr, ◌≡◌, ◌≤◌, ◌+◌, ℕ, zero, suc, List, [], ◌∷◌, ◌++◌, refl, sym, ap, subst, ◌∙◌, arith, append_assoc}
use Rattle.std.proofs.lemmas.List.{append-nil}
use Rattle.std.proofs.lemmas.Bool.{le-leb, eq-eqb, ne_eqb}
use Rattle.std.specs.Prelude.{max, Option, Some, None, Bool, true, false, Result, Ok, Err, nat_le, nat_eq, if◌then◌else◌}
use Rattle.parse_spec.specs.Rules.{Rule, Done, Take, Sub, Either, Many, Grammar, opening}
use Rattle.parse_spec.specs.Derives.{Is, form, lower, left, once, IsRest, done, take, part, first, second, many, IsMany, last, next, Syntax, TooDeep}
use Rattle.parse_spec.specs.Reading.{Answer, ◌>>=◌, formed, taken, pick, take_of, parts, rule_of, form_of, start_of, goes_here, goes_at, full_of, again_of, more_of, chain_of, level_of, read}
use Rattle.parse_spec.proofs.Items.{many_of, many_rule}
use Rattle.parse_spec.proofs.Basics.{height_pos, opening_more, Takes, After, Ends, Wf, Behind, Readable}
use Rattle.parse_spec.proofs.Ends.{Stops, untaken, stops_less, stops_going, follow, parts_least, Head, head_of}

bind_is : {A B F : Type 0} (o : Result A F) (f : A → Result B F) (x : A) (y : Result B F) → o ≡ Ok x → f x ≡ y → (o >>= f) ≡ y
bind_is o f x y e h = ap (λ o. o >>= f) e ∙ h

if_true : {A : Type 0} (b : Bool) (x y : A) → b ≡ true → (if b then x else y) ≡ x
if_true b x y q = ap (λ b. if b then x else y) q

pick_some : {A B : Type 0} (o : Option A) (go : A → B) (other : B) (x : A) → o ≡ Some x → pick o go other ≡ go x
pick_some o go other x q = ap (λ o. pick o go other) q

pick_none : {A B : Type 0} (o : Option A) (go : A → B) (other : B) → o ≡ None → pick o go other ≡ other
pick_none o go other q = ap (λ o. pick o go other) q

module _ {T V C : Type 0} (g : Grammar T V C) where
  from_level : (m n : ℕ) (c : C) (s : List T) (o : Answer T V) (h d : ℕ) → 1 ≤ h → h ≤ d → ((b : ℕ) → h ≤ suc b → level_of g (read g m b) m b c n s ≡ o) → read g m d c n s ≡ o
  from_level m n c s o h zero pos le f = absurd (omega (arith, pos, le))
  from_level m n c s o h (suc d) pos le f = f d le

  module _ (sub : C → ℕ → List T → Answer T V) (m d : ℕ) (c : C) (n : ℕ) where
    -- a phrase of level n is no form of level suc n
    skips : (tails : C → T → Bool) (s rest : List T) (other : Answer T V) → Head g tails c n s → start_of g sub m d c (suc n) (s ++ rest) other ≡ other
    skips tails s rest other h =
        ap (λ s. start_of g sub m d c (suc n) (s ++ rest) other) h.eq
        ∙ ap (λ o. form_of g sub m d (suc n) o (h.t ∷ (h.a ++ rest)) other) h.at
        ∙ ap (λ b. if b then (if nat_le (parts h.r) d then formed (rule_of g sub m d h.r (g.mark h.t ∷ []) (h.a ++ rest)) else Err (TooDeep, h.t ∷ (h.a ++ rest))) else other) (ne_eqb h.l (suc n) (λ q. omega (arith, h.le, q)))

    module _ (w : List V) where
      chain_ends : (k : ℕ) (e : V) (h : ℕ) (u : List T) → goes_at g c n u ≡ None → chain_of g sub m d c n w k e h u ≡ Ok (e, h, u)
      chain_ends zero e h u q = ap (λ o. full_of o e h u) q
      chain_ends (suc k) e h u q = ap (λ o. more_of g sub m d w (again_of (g.chains c n) (chain_of g sub m d c n w k)) o e h u) q

      -- a token that goes on, and the rest of its form
      chain_step : (k : ℕ) (e : V) (h : ℕ) (t : T) (r : Rule T V C) (u : List T) (f : V) (i : ℕ) (v : List T) → g.goes c t ≡ Some (n, r) → h ≤ d → rule_of g sub m d r (e ∷ w) u ≡ Ok (f, i, v) → chain_of g sub m d c n w (suc k) e h (t ∷ u) ≡ again_of (g.chains c n) (chain_of g sub m d c n w k) f (suc (max h i)) v
      chain_step k e h t r u f i v q le p =
          ap (λ x. more_of g sub m d w (again_of (g.chains c n) (chain_of g sub m d c n w k)) x e h (t ∷ u)) (ap (goes_here n) q ∙ if_true (nat_eq n n) (Some r) None (eq-eqb n n refl))
          ∙ if_true (nat_le h d) _ (Err (TooDeep, t ∷ u)) (le-leb h d le)
          ∙ bind_is (rule_of g sub m d r (e ∷ w) u) _ (f, i, v) _ p refl

  -- A phrase of a level of chains is read up to some token that goes on.
  record Spine (m d : ℕ) (c : C) (n : ℕ) (s : List T) (w : List V) (e : V) (h : ℕ) (rest : List T) : Type 0 where
    fuel : ℕ
    room : suc d ≤ h + fuel
    eq : level_of g (read g m d) m d c (suc n) s ≡ chain_of g (read g m d) m d c n w fuel e h rest

  spine_step : (m d : ℕ) (c : C) (n : ℕ) (s : List T) (w : List V) (e : V) (h : ℕ) (t : T) (r : Rule T V C) (u : List T) (f : V) (i : ℕ) (v : List T) → Spine m d c n s w e h (t ∷ u) → g.chains c n ≡ true → g.goes c t ≡ Some (n, r) → h ≤ d → rule_of g (read g m d) m d r (e ∷ w) u ≡ Ok (f, i, v) → Spine m d c n s w f (suc (max h i)) v
  spine_step m d c n s w e h t r u f i v p z q le y = go p.fuel p.room p.eq
    where
      go : (k : ℕ) → suc d ≤ h + k → level_of g (read g m d) m d c (suc n) s ≡ chain_of g (read g m d) m d c n w k e h (t ∷ u) → Spine m d c n s w f (suc (max h i)) v
      go zero room eq = absurd (omega (arith, room, le))
      go (suc k) room eq = record {
        fuel = k;
        room = omega (arith, room);
        eq = eq ∙ chain_step (read g m d) m d c n w k e h t r u f i v q le y ∙ ap (λ b. again_of b (chain_of g (read g m d) m d c n w k) f (suc (max h i)) v) z;
      }

  module _ (ok : Readable g) where
    abbrev Ends' : C → ℕ → T → Type 0
    Ends' c n t = Ends g ok.tails c n t

    -- A serves only to bring the four types into one universe where it isn't used.
    mutual
      pub level_complete : {m n h : ℕ} {c : C} {a : List T} {e : V} → Is g m c n a e h → (A : T → Type 0) → (d : ℕ) → h ≤ suc d → (rest : List T) → Stops (Ends' c n) rest → level_of g (read g m d) m d c n (a ++ rest) ≡ Ok (e, h, rest)
      level_complete {m = m} (form {c = c} {n = zero} {a = a} {e = e} {t = t} {r = r} {h = h} q k eq) A d le rest stop =
          ap (λ s. start_of g (read g m d) m d c 0 (s ++ rest) (Err (Syntax, s ++ rest))) eq
          ∙ ap (λ o. form_of g (read g m d) m d 0 o (t ∷ (a ++ rest)) (Err (Syntax, t ∷ (a ++ rest)))) q
          ∙ if_true (nat_le (parts r) d) _ _ (le-leb (parts r) d (let p = parts_least g ok.tails k (Ends' c 0) (ok.wf_starts c t 0 r q) in omega (arith, p, le)))
          ∙ bind_is _ _ (e, h, rest) _ (rest_complete k (Ends' c 0) (ok.wf_starts c t 0 r q) d (omega (arith, le)) rest stop) refl
      level_complete {m = m} (form {c = c} {n = suc n} {a = a} {e = e} {t = t} {r = r} {h = h} q k eq) A d le rest stop =
          ap (λ s. level_of g (read g m d) m d c (suc n) (s ++ rest)) eq
          ∙ ap (λ o. form_of g (read g m d) m d (suc n) o (t ∷ (a ++ rest)) (level_of g (read g m d) m d c n (t ∷ (a ++ rest)) >>= (λ y. chain_of g (read g m d) m d c n (g.mark t ∷ []) (suc d) y.0 y.1 y.2))) q
          ∙ if_true (nat_eq (suc n) (suc n)) _ _ (eq-eqb (suc n) (suc n) refl)
          ∙ if_true (nat_le (parts r) d) _ _ (le-leb (parts r) d (let p = parts_least g ok.tails k (Ends' c (suc n)) (ok.wf_starts c t (suc n) r q) in omega (arith, p, le)))
          ∙ bind_is _ _ (e, h, rest) _ (rest_complete k (Ends' c (suc n)) (ok.wf_starts c t (suc n) r q) d (omega (arith, le)) rest stop) refl
      level_complete {m = m} (lower {c = c} {n = n} {s = s} {e = e} {h = h} k) A d le rest stop =
          skips (read g m d) m d c n ok.tails s rest _ (head_of g ok.tails k)
          ∙ bind_is _ _ (e, h, rest) _ (level_complete k A d le rest (stops_less g ok.tails c rest (suc n) n (omega arith) stop)) (chain_ends (read g m d) m d c n (opening g (s ++ rest)) (suc d) e h rest (stops_going g ok.tails c rest n stop))
      level_complete {m = m} (left {c = c} {n = n} {s = s} {a = a} {b = b} {e = e} {f = f} {t = t} {r = r} {h = h} {i = i} q z x y eq) A d le rest stop =
          let p = spine x z A d (omega (arith, le)) (t ∷ (b ++ rest)) (ok.ends c t n r q) in
          let v = rest_complete y (Ends' c n) (subst (λ z. Wf g ok.tails (Behind g ok.tails z c n) r) z (ok.wf_goes c t n r q)) d (omega (arith, le)) rest (stops_less g ok.tails c rest (suc n) n (omega arith) stop) in
          let w = spine_step m d c n _ (opening g a) e h t r (b ++ rest) f i rest p z q (omega (arith, le)) v in
          ap (λ s. level_of g (read g m d) m d c (suc n) (s ++ rest)) eq
          ∙ ap (level_of g (read g m d) m d c (suc n)) (append_assoc a (t ∷ b) rest)
          ∙ w.eq ∙ chain_ends (read g m d) m d c n (opening g a) w.fuel f (suc (max h i)) rest (stops_going g ok.tails c rest n stop)
      level_complete {m = m} (once {c = c} {n = n} {s = s} {a = a} {b = b} {e = e} {f = f} {t = t} {r = r} {h = h} {i = i} q z x y eq) A d le rest stop =
          let v = rest_complete y (Ends' c (suc n)) (subst (λ z. Wf g ok.tails (Behind g ok.tails z c n) r) z (ok.wf_goes c t n r q)) d (omega (arith, le)) rest stop in
          ap (λ s. level_of g (read g m d) m d c (suc n) (s ++ rest)) eq
          ∙ ap (level_of g (read g m d) m d c (suc n)) (append_assoc a (t ∷ b) rest)
          ∙ skips (read g m d) m d c n ok.tails a (t ∷ (b ++ rest)) _ (head_of g ok.tails x)
          ∙ bind_is _ _ (e, h, t ∷ (b ++ rest)) _ (level_complete x A d (omega (arith, le)) (t ∷ (b ++ rest)) (ok.ends c t n r q))
          (ap (λ w. chain_of g (read g m d) m d c n w (suc d) e h (t ∷ (b ++ rest))) (opening_more g x (t ∷ (b ++ rest))) ∙ chain_step (read g m d) m d c n (opening g a) d e h t r (b ++ rest) f i rest q (omega (arith, le)) v)
          ∙ ap (λ z. again_of z (chain_of g (read g m d) m d c n (opening g a) d) f (suc (max h i)) rest) z

      spine : {m n h : ℕ} {c : C} {a : List T} {e : V} → Is g m c (suc n) a e h → g.chains c n ≡ true → (A : T → Type 0) → (d : ℕ) → h ≤ suc d → (rest : List T) → Stops (Ends' c n) rest → Spine m d c n (a ++ rest) (opening g a) e h rest
      spine (form {c = c} {t = t} {r = r} q k eq) z A d le rest stop = absurd (ok.formless c t _ r q z)
      spine {m = m} (lower {c = c} {n = n} {s = s} {e = e} {h = h} k) z A d le rest stop = record {
        fuel = suc d;
        room = omega arith;
        eq = skips (read g m d) m d c n ok.tails s rest _ (head_of g ok.tails k) ∙ bind_is _ _ (e, h, rest) _ (level_complete k A d le rest stop) (ap (λ w. chain_of g (read g m d) m d c n w (suc d) e h rest) (opening_more g k rest));
      }
      spine {m = m} (left {c = c} {n = n} {s = s} {a = a} {b = b} {e = e} {f = f} {t = t} {r = r} {h = h} {i = i} q z2 x y eq) z A d le rest stop =
          let p = spine x z A d (omega (arith, le)) (t ∷ (b ++ rest)) (ok.ends c t n r q) in
          let v = rest_complete y (Ends' c n) (subst (λ z. Wf g ok.tails (Behind g ok.tails z c n) r) z (ok.wf_goes c t n r q)) d (omega (arith, le)) rest stop in
          let same = ap (opening g) eq ∙ opening_more g x (t ∷ b) in
          subst (λ w. Spine m d c n (s ++ rest) w f (suc (max h i)) rest) (sym same)
          (subst (λ s. Spine m d c n s (opening g a) f (suc (max h i)) rest) (sym (ap (λ s. s ++ rest) eq ∙ append_assoc a (t ∷ b) rest))
          (spine_step m d c n _ (opening g a) e h t r (b ++ rest) f i rest p z q (omega (arith, le)) v))
      spine (once q z2 x y eq) z A d le rest stop = absurd (let p : true ≡ false = sym z ∙ z2 in cc)

      pub rest_complete : {m h : ℕ} {r : Rule T V C} {vs : List V} {a : List T} {e : V} → IsRest g m r vs a e h → (A : T → Type 0) → Wf g ok.tails A r → (d : ℕ) → h ≤ d → (rest : List T) → Stops A rest → rule_of g (read g m d) m d r vs (a ++ rest) ≡ Ok (e, h, rest)
      rest_complete {m = m} (done {act = act} {vs = vs} eq is) A wf d le rest stop = ap (λ s. rule_of g (read g m d) m d (Done act) vs (s ++ rest)) eq ∙ ap (λ e. Ok (e, 0, rest)) (sym is)
      rest_complete {m = m} (take {f = f} {r = r} {vs = vs} {ws = ws} {a = a} {t = t} q x eq) A wf d le rest stop =
          ap (λ s. rule_of g (read g m d) m d (Take f r) vs (s ++ rest)) eq
          ∙ bind_is (take_of f (t ∷ (a ++ rest))) _ (ws, a ++ rest) _ (pick_some (f t) _ _ ws q) (rest_complete x A wf d le rest stop)
      rest_complete {m = m} (part {c = c} {n = n} {r = r} {vs = vs} {a = a} {b = b} {e = e} {v = v} {h = h} {i = i} x y eq) A wf d le rest stop =
          let p = from_level m n c (a ++ (b ++ rest)) (Ok (v, h, b ++ rest)) h d (height_pos g x) (omega (arith, le)) (λ k le. level_complete x A k le (b ++ rest) (follow g ok.tails y A (Ends' c n) wf.0 rest stop)) in
          ap (λ s. rule_of g (read g m d) m d (Sub c n r) vs (s ++ rest)) eq
          ∙ ap (rule_of g (read g m d) m d (Sub c n r) vs) (append_assoc a b rest)
          ∙ bind_is _ _ (v, h, b ++ rest) _ p (bind_is _ _ (e, i, rest) _ (rest_complete y A wf.1 d (omega (arith, le)) rest stop) refl)
      rest_complete {m = m} (first {f = f} {r = r} {q = q} {vs = vs} {ws = ws} {a = a} {t = t} z x eq) A wf d le rest stop =
          ap (λ s. rule_of g (read g m d) m d (Either f r q) vs (s ++ rest)) eq
          ∙ pick_some (f t) _ _ ws z
          ∙ if_true (nat_le (parts r) d) _ _ (le-leb (parts r) d (let p = parts_least g ok.tails x A wf.2 in omega (arith, p, le)))
          ∙ rest_complete x A wf.2 d le rest stop
      rest_complete {m = m} (second {f = f} {r = r} {q = q} {vs = vs} {s = s} x) A wf d le rest stop =
          pick_none (taken f (s ++ rest)) _ _ (untaken f (s ++ rest) (follow g ok.tails x A (λ t. f t ≡ None) wf.1 rest stop))
          ∙ rest_complete x A wf.3 d le rest stop
      rest_complete {m = m} (many {k = k} {f = f} {item = item} {r = r} {vs = vs} {s = s} x) A wf d le rest stop =
          sym (many_rule g (read g m d) m d k f item r vs (s ++ rest)) ∙ many_complete x A wf d le rest stop (k + m) (omega arith)

      many_complete : {m k0 c h : ℕ} {f : T → Option (List V)} {item r : Rule T V C} {vs : List V} {a : List T} {e : V} → IsMany g m k0 c f item r vs a e h → (A : T → Type 0) → Wf g ok.tails A (Many k0 f item r) → (d : ℕ) → h ≤ d → (rest : List T) → Stops A rest → (k : ℕ) → k + c ≡ k0 + m
          → many_of (rule_of g (read g m d) m d item []) f (rule_of g (read g m d) m d r) k vs (a ++ rest) ≡ Ok (e, h, rest)
      many_complete {m = m} (last {f = f} {item = item} {r = r} {vs = vs} {a = a} {b = b} {e = e} {v = v} {h = h} {i = i} x y eq) A wf d le rest stop zero room =
          let p = rest_complete x (λ t. Takes g f t ⊎ After g A r t) wf.2 d (omega (arith, le)) (b ++ rest) (follow g ok.tails y A (λ t. Takes g f t ⊎ After g A r t) (λ t w. inr w) rest stop) in
          ap (λ s. many_of (rule_of g (read g m d) m d item []) f (rule_of g (read g m d) m d r) 0 vs (s ++ rest)) eq
          ∙ ap (many_of (rule_of g (read g m d) m d item []) f (rule_of g (read g m d) m d r) 0 vs) (append_assoc a b rest)
          ∙ bind_is _ _ (v, h, b ++ rest) _ p (bind_is _ _ (e, i, rest) _ (pick_none (taken f (b ++ rest)) _ _ (untaken f (b ++ rest) (follow g ok.tails y A (λ t. f t ≡ None) wf.1 rest stop)) ∙ rest_complete y A wf.3 d (omega (arith, le)) rest stop) refl)
      many_complete {m = m} (last {f = f} {item = item} {r = r} {vs = vs} {a = a} {b = b} {e = e} {v = v} {h = h} {i = i} x y eq) A wf d le rest stop (suc k) room =
          let p = rest_complete x (λ t. Takes g f t ⊎ After g A r t) wf.2 d (omega (arith, le)) (b ++ rest) (follow g ok.tails y A (λ t. Takes g f t ⊎ After g A r t) (λ t w. inr w) rest stop) in
          ap (λ s. many_of (rule_of g (read g m d) m d item []) f (rule_of g (read g m d) m d r) (suc k) vs (s ++ rest)) eq
          ∙ ap (many_of (rule_of g (read g m d) m d item []) f (rule_of g (read g m d) m d r) (suc k) vs) (append_assoc a b rest)
          ∙ bind_is _ _ (v, h, b ++ rest) _ p (bind_is _ _ (e, i, rest) _ (pick_none (taken f (b ++ rest)) _ _ (untaken f (b ++ rest) (follow g ok.tails y A (λ t. f t ≡ None) wf.1 rest stop)) ∙ rest_complete y A wf.3 d (omega (arith, le)) rest stop) refl)
      many_complete (next t lt x q y eq) A wf d le rest stop zero room = absurd (omega (arith, lt, room))
      many_complete {m = m} (next {f = f} {item = item} {r = r} {vs = vs} {ws = ws} {a = a} {b = b} {e = e} {v = v} {h = h} {i = i} t lt x q y eq) A wf d le rest stop (suc k) room =
          let p = rest_complete x (λ t. Takes g f t ⊎ After g A r t) wf.2 d (omega (arith, le)) (t ∷ (b ++ rest)) (inl (ws, q)) in
          ap (λ s. many_of (rule_of g (read g m d) m d item []) f (rule_of g (read g m d) m d r) (suc k) vs (s ++ rest)) eq
          ∙ ap (many_of (rule_of g (read g m d) m d item []) f (rule_of g (read g m d) m d r) (suc k) vs) (append_assoc a (t ∷ b) rest)
          ∙ bind_is _ _ (v, h, t ∷ (b ++ rest)) _ p (bind_is _ _ (e, i, rest) _ (pick_some (f t) _ _ ws q ∙ many_complete y A wf d (omega (arith, le)) rest stop k (omega (arith, room))) refl)

    -- a whole text
    pub text_complete : {m h : ℕ} {s : List T} {e : V} → IsRest g m g.text [] s e h → (d : ℕ) → h ≤ d → rule_of g (read g m d) m d g.text [] s ≡ Ok (e, h, [])
    text_complete {m = m} {h = h} {s = s} {e = e} x d le =
        ap (rule_of g (read g m d) m d g.text []) (sym (append-nil s)) ∙ rest_complete x (λ t. ⊥) ok.wf d le [] tt
