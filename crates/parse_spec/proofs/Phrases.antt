-- A phrase is read well at each level.
use Rattle.std.proofs.Common.{◌≡◌, ◌≤◌, ℕ, zero, suc, List, [], ◌∷◌, ◌++◌, refl, sym, ap, subst, ◌∙◌, arith, append_assoc}
use Rattle.std.proofs.lemmas.List.{append-nil}
use Rattle.std.proofs.lemmas.Bool.{leb-true, eqb-true}
use Rattle.std.specs.Prelude.{max, Option, Some, None, Bool, true, false, Ok, Err, nat_le, nat_eq, if◌then◌else◌}
use Rattle.parse_spec.specs.Rules.{Rule, Grammar, opening}
use Rattle.parse_spec.specs.Derives.{Is, form, lower, left, once, IsRest, Syntax, TooDeep}
use Rattle.parse_spec.specs.Reading.{Answer, ◌>>=◌, formed, rest_of, parts, rule_of, form_of, start_of, goes_at, full_of, again_of, more_of, chain_of, level_of, read}
use Rattle.parse_spec.proofs.Basics.{height_pos, grow, parts_small, Phrase, Rest, Readable, goes_is, opening_more, is_small, small, value, least}
use Rattle.parse_spec.proofs.Lifting.{Stuck, Good, lift_stuck, good_after, good_then}
use Rattle.parse_spec.proofs.Good.{rule_good}

module _ {T V C : Type 0} (g : Grammar T V C) (ok : Readable g) where
  module _ (sub : C → ℕ → List T → Answer T V) (m d : ℕ) (sub_good : 1 ≤ d → (c : C) (n : ℕ) (s : List T) → Good g (Phrase g c n) m d s (sub c n s)) (c : C) where
    -- nothing has been read of a phrase
    stuck_phrase : (n : ℕ) (s : List T) → Stuck g (Phrase g c n) m (suc d) s Syntax s
    stuck_phrase n s = record { p = []; split = refl; before = record { more = small g ok m c; value = value g ok m c; height = 1; is = is_small g ok m c n }; within = omega arith; over = tt }

    -- the forms that begin with t
    start_good : (n : ℕ) (s : List T) (other : Answer T V) → Good g (Phrase g c n) m (suc d) s other → Good g (Phrase g c n) m (suc d) s (start_of g sub m d c n s other)
    start_good n [] other w = w
    start_good n (t ∷ s) other w = go (g.starts c t) refl
      where
        some_form : (l : ℕ) (r : Rule T V C) → g.starts c t ≡ Some (l, r) → (b : Bool) → nat_eq l n ≡ b → (z : Bool) → nat_le (parts r) d ≡ z → Good g (Phrase g c n) m (suc d) (t ∷ s) (if b then (if z then formed (rule_of g sub m d r (g.mark t ∷ []) s) else Err (TooDeep, t ∷ s)) else other)
        some_form l r q true e true p =
            let at : g.starts c t ≡ Some (n, r) = q ∙ ap (λ l. Some (l, r)) (eqb-true l n e) in
            good_after g (Rest g r (g.mark t ∷ [])) (Phrase g c n) m d (suc d) (t ∷ []) s (t ∷ s) _ suc (λ M l a e h x. form at x refl) (λ h le. omega (arith, le)) refl (rule_good g ok sub m d sub_good r (ok.filled_starts c t n r at) (leb-true (parts r) d p) (g.mark t ∷ []) s)
        some_form l r q true e false p =
            let at : g.starts c t ≡ Some (n, r) = q ∙ ap (λ l. Some (l, r)) (eqb-true l n e) in
            let z = least g ok m r (ok.filled_starts c t n r at) (g.mark t ∷ []) in
            record {
              p = [];
              split = refl;
              before = record { more = small g ok m c; value = value g ok m c; height = 1; is = is_small g ok m c n };
              within = omega arith;
              over = (t, s, refl, record { more = z.more; value = z.value; height = suc z.height; is = form at z.is refl });
            }
        some_form l r q false e z p = w

        go : (o : Option (ℕ × Rule T V C)) → g.starts c t ≡ o → Good g (Phrase g c n) m (suc d) (t ∷ s) (form_of g sub m d n o (t ∷ s) other)
        go None q = w
        go (Some (l, r)) q = some_form l r q (nat_eq l n) refl (nat_le (parts r) d) refl

    module _ (n : ℕ) where
      -- what stands before a token that goes on
      record Operand (M : ℕ) (a : List T) (e : V) (h : ℕ) : Type 0 where
        whole : Is g M c (suc n) a e h
        piece : g.chains c n ≡ false → Is g M c n a e h

      join : (M : ℕ) (a : List T) (e : V) (h : ℕ) (t : T) (r : Rule T V C) (w : List V) → w ≡ opening g a → g.goes c t ≡ Some (n, r) → Operand M a e h → (b : List T) (f : V) (i : ℕ) → IsRest g M r (e ∷ w) b f i → Is g M c (suc n) (a ++ t ∷ b) f (suc (max h i))
      join M a e h t r w at q o b f i x = go (g.chains c n) refl
        where
          rest : IsRest g M r (e ∷ opening g a) b f i
          rest = subst (λ w. IsRest g M r (e ∷ w) b f i) at x

          go : (z : Bool) → g.chains c n ≡ z → Is g M c (suc n) (a ++ t ∷ b) f (suc (max h i))
          go true z = left q z o.whole rest refl
          go false z = once q z (o.piece z) rest refl

      -- a token that goes on, and no room for it
      full_good : (a : List T) (e : V) (h : ℕ) (u : List T) → Operand m a e h → h ≤ suc d → (r : Rule T V C) → goes_at g c n u ≡ Some r → Good g (Phrase g c (suc n)) m (suc d) (a ++ u) (Err (TooDeep, u))
      full_good a e h u o le r q =
          let p = goes_is g c n u r q in
          let z = least g ok m r (ok.filled_goes c p.0 n r p.2) (e ∷ opening g a) in
          record {
            p = a;
            split = refl;
            before = record { more = []; value = e; height = h; is = subst (λ s. Is g m c (suc n) s e h) (sym (append-nil a)) o.whole };
            within = le;
            over = (p.0, rest_of u, p.1, record { more = z.more; value = z.value; height = suc (max h z.height); is = subst (λ s. Is g m c (suc n) s z.value (suc (max h z.height))) (sym (append_assoc a (p.0 ∷ []) z.more)) (join m a e h p.0 r (opening g a) refl p.2 o z.more z.value z.height z.is) });
          }

      -- no token that goes on
      stop_good : (a : List T) (e : V) (h : ℕ) (u : List T) → Operand m a e h → h ≤ suc d → Good g (Phrase g c (suc n)) m (suc d) (a ++ u) (Ok (e, h, u))
      stop_good a e h u o le = record { a = a; split = refl; is = o.whole; within = le }

      module _ (w : List V) where
        abbrev Goes : (V → ℕ → List T → Answer T V) → Type 0
        Goes go = (a : List T) (e : V) (h : ℕ) (u : List T) → Is g m c (suc n) a e h → h ≤ suc d → w ≡ opening g a → Good g (Phrase g c (suc n)) m (suc d) (a ++ u) (go e h u)

        more_good : (go : V → ℕ → List T → Answer T V) → Goes go → (a : List T) (e : V) (h : ℕ) (u : List T) → Operand m a e h → h ≤ suc d → w ≡ opening g a → (o : Option (Rule T V C)) → goes_at g c n u ≡ o → Good g (Phrase g c (suc n)) m (suc d) (a ++ u) (more_of g sub m d w go o e h u)
        more_good go goes a e h u o le at None q = stop_good a e h u o le
        more_good go goes a e h u o le at (Some r) q = test (nat_le h d) refl
          where
            grown : (M : ℕ) → m ≤ M → Operand M a e h
            grown M l = record { whole = grow g m M l o.whole; piece = λ z. grow g m M l (o.piece z) }

            step : (y : Answer T V) (t : T) → g.goes c t ≡ Some (n, r) → h ≤ d → Good g (Rest g r (e ∷ w)) m d (rest_of u) y → Good g (Phrase g c (suc n)) m (suc d) ((a ++ t ∷ []) ++ rest_of u) (y >>= (λ y. go y.0 (suc (max h y.1)) y.2))
            step (Err (k, v)) t q room z =
                lift_stuck g (Rest g r (e ∷ w)) (Phrase g c (suc n)) m d (suc d) (a ++ t ∷ []) (rest_of u) _ k v
                (λ M l p b. (record { more = b.more; value = b.value; height = suc (max h b.height); is = subst (λ s. Is g M c (suc n) s b.value (suc (max h b.height))) (sym (append_assoc (a ++ t ∷ []) p b.more ∙ append_assoc a (t ∷ []) (p ++ b.more))) (join M a e h t r w at q (grown M l) (p ++ b.more) b.value b.height b.is) }, λ l. omega (arith, l, room)))
                refl z
            step (Ok (f, i, v)) t q room z =
                subst (λ s. Good g (Phrase g c (suc n)) m (suc d) s (go f (suc (max h i)) v))
                (append_assoc a (t ∷ z.a) v ∙ sym (ap (λ s. (a ++ t ∷ []) ++ s) z.split ∙ append_assoc a (t ∷ []) (z.a ++ v)))
                (goes (a ++ t ∷ z.a) f (suc (max h i)) v (join m a e h t r w at q o z.a f i z.is) (omega (arith, room, z.within)) (at ∙ sym (opening_more g o.whole (t ∷ z.a))))

            test : (b : Bool) → nat_le h d ≡ b → Good g (Phrase g c (suc n)) m (suc d) (a ++ u) (if b then (rule_of g sub m d r (e ∷ w) (rest_of u) >>= (λ y. go y.0 (suc (max h y.1)) y.2)) else Err (TooDeep, u))
            test false p = full_good a e h u o le r q
            test true p =
                let i = goes_is g c n u r q in
                let room : h ≤ d = leb-true h d p in
                let pos : 1 ≤ d = omega (arith, room, height_pos g o.whole) in
                subst (λ s. Good g (Phrase g c (suc n)) m (suc d) s (rule_of g sub m d r (e ∷ w) (rest_of u) >>= (λ y. go y.0 (suc (max h y.1)) y.2)))
                (append_assoc a (i.0 ∷ []) (rest_of u) ∙ ap (λ s. a ++ s) (sym i.1))
                (step (rule_of g sub m d r (e ∷ w) (rest_of u)) i.0 i.2 room (rule_good g ok sub m d sub_good r (ok.filled_goes c i.0 n r i.2) (omega (arith, pos, parts_small g r)) (e ∷ w) (rest_of u)))

        chained : g.chains c n ≡ true → (a : List T) (e : V) (h : ℕ) → Is g m c (suc n) a e h → Operand m a e h
        chained z a e h is = record { whole = is; piece = λ q. absurd (let p : true ≡ false = sym z ∙ q in cc) }

        chain_good : g.chains c n ≡ true → (k : ℕ) → Goes (chain_of g sub m d c n w k)
        chain_good z zero a e h u is le at = test (goes_at g c n u) refl
          where
            test : (o : Option (Rule T V C)) → goes_at g c n u ≡ o → Good g (Phrase g c (suc n)) m (suc d) (a ++ u) (full_of o e h u)
            test None q = stop_good a e h u (chained z a e h is) le
            test (Some r) q = full_good a e h u (chained z a e h is) le r q
        chain_good z (suc k) a e h u is le at =
            more_good _ (again (chain_good z k)) a e h u (chained z a e h is) le at (goes_at g c n u) refl
          where
            again : Goes (chain_of g sub m d c n w k) → Goes (again_of (g.chains c n) (chain_of g sub m d c n w k))
            again y = subst (λ b. Goes (again_of b (chain_of g sub m d c n w k))) (sym z) y

        -- the first operand is followed by tokens that go on
        first_good : (a : List T) (e : V) (h : ℕ) (u : List T) → Is g m c n a e h → h ≤ suc d → w ≡ opening g a → Good g (Phrase g c (suc n)) m (suc d) (a ++ u) (chain_of g sub m d c n w (suc d) e h u)
        first_good a e h u is le at = test (g.chains c n) refl
          where
            test : (b : Bool) → g.chains c n ≡ b → Good g (Phrase g c (suc n)) m (suc d) (a ++ u) (chain_of g sub m d c n w (suc d) e h u)
            test true z = chain_good z (suc d) a e h u (lower is) le at
            test false z =
                more_good _ (subst (λ b. Goes (again_of b (chain_of g sub m d c n w d))) (sym z) (λ a e h u is le at. record { a = a; split = refl; is = is; within = le })) a e h u (record { whole = lower is; piece = λ q. is }) le at (goes_at g c n u) refl

    level_good : (n : ℕ) (s : List T) → Good g (Phrase g c n) m (suc d) s (level_of g sub m d c n s)
    level_good zero s = start_good zero s _ (stuck_phrase zero s)
    level_good (suc n) s =
        start_good (suc n) s _
        (good_then g (Phrase g c n) (Phrase g c (suc n)) m (suc d) (suc d) s (level_of g sub m d c n s) _ (level_good n s)
        (λ e h u w. subst (λ s. Good g (Phrase g c (suc n)) m (suc d) s (chain_of g sub m d c n (opening g s) (suc d) e h u)) (sym w.split) (first_good n (opening g (w.a ++ u)) w.a e h u w.is w.within (opening_more g w.is u)))
        (λ M l q b. (record { more = b.more; value = b.value; height = b.height; is = lower b.is }, λ l. l)))

  pub read_good : (m d : ℕ) → 1 ≤ d → (c : C) (n : ℕ) (s : List T) → Good g (Phrase g c n) m d s (read g m d c n s)
  read_good m zero le c n s = absurd (omega arith)
  read_good m (suc d) le c n s = level_good (read g m d) m d (read_good m d) c n s

  pub text_good : (m d : ℕ) → 1 ≤ d → (s : List T) → Good g (Rest g g.text []) m d s (rule_of g (read g m d) m d g.text [] s)
  text_good m d le s = rule_good g ok (read g m d) m d (read_good m d) g.text ok.filled (omega (arith, le, parts_small g g.text)) [] s
