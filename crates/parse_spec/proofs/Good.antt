-- What is read is derived, and what stands before a fault can be completed within the limits.
use Rattle.std.proofs.Common.{◌≡◌, ◌≤◌, ◌+◌, ℕ, zero, suc, List, [], ◌∷◌, ◌++◌, refl, sym, ap, subst, ◌∙◌, arith, append_assoc}
use Rattle.std.proofs.lemmas.Bool.{leb-true}
use Rattle.std.specs.Prelude.{max, Option, Some, None, Bool, true, false, Ok, Err, nat_le, if◌then◌else◌}
use Rattle.parse_spec.specs.Rules.{Rule, Done, Take, Sub, Either, Many, Grammar}
use Rattle.parse_spec.specs.Derives.{done, take, part, first, second, many, last, next, Syntax, TooDeep, TooMany}
use Rattle.parse_spec.specs.Reading.{Answer, ◌>>=◌, higher, taken, rest_of, pick, parts, rule_of}
use Rattle.parse_spec.proofs.Items.{many_of, many_rule}
use Rattle.parse_spec.proofs.Basics.{grow, grow_rest, parts_small, Phrase, Rest, Items, Filled, Readable, taken_is, least}
use Rattle.parse_spec.proofs.Lifting.{Took, Stuck, Good, Lifts, good_same, good_then, higher_good}

module _ {T V C : Type 0} (g : Grammar T V C) (ok : Readable g) where
  -- at the front of a rule
  pub stuck_rule : (m d : ℕ) (r : Rule T V C) → Filled g r → (vs : List V) (s : List T) → parts r ≤ d → Stuck g (Rest g r vs) m d s Syntax s
  stuck_rule m d r w vs s le =
      let l = least g ok m r w vs in
      record { p = []; split = refl; before = record { more = l.more; value = l.value; height = l.height; is = l.is }; within = omega (arith, l.within, le); over = tt }

  module _ (sub : C → ℕ → List T → Answer T V) (m d : ℕ) (sub_good : 1 ≤ d → (c : C) (n : ℕ) (s : List T) → Good g (Phrase g c n) m d s (sub c n s)) where
    module _ (k0 : ℕ) (f : T → Option (List V)) (item r : Rule T V C) (fi : Filled g item) (fr : Filled g r) (le : 1 ≤ d)
        (item_good : (s : List T) → Good g (Rest g item []) m d s (rule_of g sub m d item [] s))
        (next_good : (vs : List V) (s : List T) → Good g (Rest g r vs) m d s (rule_of g sub m d r vs s)) where
      item_lift : (c : ℕ) (vs : List V) → Lifts g (Rest g item []) (Items g k0 c f item r vs) m d d []
      item_lift c vs M l q b =
          let z = least g ok M r fr (b.value ∷ vs) in
          (record { more = b.more ++ z.more; value = z.value; height = max b.height z.height; is = last b.is z.is (sym (append_assoc q b.more z.more)) }, λ l. omega (arith, l, z.within, parts_small g r, le))

      -- more items
      many_good : (k c : ℕ) → k + c ≡ k0 + m → (vs : List V) (s : List T) → Good g (Items g k0 c f item r vs) m d s (many_of (rule_of g sub m d item []) f (rule_of g sub m d r) k vs s)
      many_good zero c eq vs s =
          good_then g (Rest g item []) (Items g k0 c f item r vs) m d d s (rule_of g sub m d item [] s) _ (item_good s)
          (λ e h u w. go e h u w (taken f u) refl) (item_lift c vs)
        where
          go : (e : V) (h : ℕ) (u : List T) → Took g (Rest g item []) m d s e h u → (o : Option (List V)) → taken f u ≡ o → Good g (Items g k0 c f item r vs) m d s (higher h (pick o (λ ws. Err (TooMany, u)) (rule_of g sub m d r (e ∷ vs) u)))
          go e h u w (Some ws) q =
              let i = taken_is g f u ws q in
              let z = least g ok m r fr (e ∷ vs) in
              let j = least g ok (suc m) item fi [] in
              let y = least g ok (suc m) r fr (j.value ∷ ws ++ e ∷ vs) in
              record {
                p = w.a;
                split = w.split;
                before = record { more = z.more; value = z.value; height = max h z.height; is = last w.is z.is refl };
                within = omega (arith, w.within, z.within, parts_small g r, le);
                over = (i.0, rest_of u, i.1, suc m, omega arith, record { more = j.more ++ y.more; value = y.value; height = max h (max j.height y.height); is = next i.0 (omega (arith, eq)) (grow_rest g m (suc m) (omega arith) w.is) i.2 (last j.is y.is refl) (append_assoc w.a (i.0 ∷ []) (j.more ++ y.more)) }, omega (arith, w.within, j.within, parts_small g item, y.within, parts_small g r, le));
              }
          go e h u w None q = higher_good g (Rest g r (e ∷ vs)) (Items g k0 c f item r vs) m d w.a u s h _ (λ M l b v i y. last (grow_rest g m M l w.is) y refl) w.within w.split (next_good (e ∷ vs) u)
      many_good (suc k) c eq vs s =
          good_then g (Rest g item []) (Items g k0 c f item r vs) m d d s (rule_of g sub m d item [] s) _ (item_good s)
          (λ e h u w. go (many_good k (suc c) (omega (arith, eq))) e h u w (taken f u) refl) (item_lift c vs)
        where
          go : ((vs : List V) (s : List T) → Good g (Items g k0 (suc c) f item r vs) m d s (many_of (rule_of g sub m d item []) f (rule_of g sub m d r) k vs s)) → (e : V) (h : ℕ) (u : List T) → Took g (Rest g item []) m d s e h u → (o : Option (List V)) → taken f u ≡ o
              → Good g (Items g k0 c f item r vs) m d s (higher h (pick o (λ ws. many_of (rule_of g sub m d item []) f (rule_of g sub m d r) k (ws ++ e ∷ vs) (rest_of u)) (rule_of g sub m d r (e ∷ vs) u)))
          go again e h u w (Some ws) q =
              let i = taken_is g f u ws q in
              higher_good g (Items g k0 (suc c) f item r (ws ++ e ∷ vs)) (Items g k0 c f item r vs) m d (w.a ++ i.0 ∷ []) (rest_of u) s h _
              (λ M l b v j y. next i.0 (omega (arith, eq, l)) (grow_rest g m M l w.is) i.2 y (append_assoc w.a (i.0 ∷ []) b)) w.within
              (w.split ∙ ap (λ u. w.a ++ u) i.1 ∙ sym (append_assoc w.a (i.0 ∷ []) (rest_of u)))
              (again (ws ++ e ∷ vs) (rest_of u))
          go again e h u w None q = higher_good g (Rest g r (e ∷ vs)) (Items g k0 c f item r vs) m d w.a u s h _ (λ M l b v i y. last (grow_rest g m M l w.is) y refl) w.within w.split (next_good (e ∷ vs) u)

    part_lift : (c : C) (n : ℕ) (r : Rule T V C) → Filled g r → (vs : List V) → 1 ≤ d → Lifts g (Phrase g c n) (Rest g (Sub c n r) vs) m d d []
    part_lift c n r fr vs le M l q b =
        let z = least g ok M r fr (b.value ∷ vs) in
        (record { more = b.more ++ z.more; value = z.value; height = max b.height z.height; is = part b.is z.is (sym (append_assoc q b.more z.more)) }, λ l. omega (arith, l, z.within, parts_small g r, le))

    -- the rest of a form
    pub rule_good : (r : Rule T V C) → Filled g r → parts r ≤ d → (vs : List V) (s : List T) → Good g (Rest g r vs) m d s (rule_of g sub m d r vs s)
    rule_good (Done act) w le vs s = record { a = []; split = refl; is = done refl refl; within = omega arith }
    rule_good (Take f r) w le vs s = go (λ ws. rule_good r w.1 le (ws ++ vs) (rest_of s)) (taken f s) refl
      where
        go : ((ws : List V) → Good g (Rest g r (ws ++ vs)) m d (rest_of s) (rule_of g sub m d r (ws ++ vs) (rest_of s))) → (o : Option (List V)) → taken f s ≡ o → Good g (Rest g (Take f r) vs) m d s ((pick o (λ ws. Ok (ws, rest_of s)) (Err (Syntax, s))) >>= (λ (y : List V × List T). rule_of g sub m d r (y.0 ++ vs) y.1))
        go y (Some ws) q = let i = taken_is g f s ws q in good_same g (Rest g r (ws ++ vs)) (Rest g (Take f r) vs) m d d (i.0 ∷ []) (rest_of s) s _ (λ M l a e h k. take i.2 k refl) (omega arith) i.1 (y ws)
        go y None q = stuck_rule m d (Take f r) w vs s le
    rule_good (Sub c n r) w le vs s =
        good_then g (Phrase g c n) (Rest g (Sub c n r) vs) m d d s (sub c n s) _ (sub_good le c n s)
        (λ e h u y. higher_good g (Rest g r (e ∷ vs)) (Rest g (Sub c n r) vs) m d y.a u s h _ (λ M l b f i k. part (grow g m M l y.is) k refl) y.within y.split (rule_good r w (omega (arith, le, parts_small g r)) (e ∷ vs) u))
        (part_lift c n r w vs le)
    rule_good (Either f r q) w le vs s = go (λ l ws. rule_good r w.0 l (ws ++ vs) (rest_of s)) (rule_good q w.1 le vs s) (taken f s) refl (nat_le (parts r) d) refl
      where
        go : (parts r ≤ d → (ws : List V) → Good g (Rest g r (ws ++ vs)) m d (rest_of s) (rule_of g sub m d r (ws ++ vs) (rest_of s))) → Good g (Rest g q vs) m d s (rule_of g sub m d q vs s) → (o : Option (List V)) → taken f s ≡ o → (b : Bool) → nat_le (parts r) d ≡ b
            → Good g (Rest g (Either f r q) vs) m d s (pick o (λ ws. if b then rule_of g sub m d r (ws ++ vs) (rest_of s) else Err (TooDeep, s)) (rule_of g sub m d q vs s))
        go y z (Some ws) e true p = let i = taken_is g f s ws e in good_same g (Rest g r (ws ++ vs)) (Rest g (Either f r q) vs) m d d (i.0 ∷ []) (rest_of s) s _ (λ M l a e h k. first i.2 k refl) (omega arith) i.1 (y (leb-true (parts r) d p) ws)
        go y z (Some ws) e false p =
            let i = taken_is g f s ws e in
            let j = least g ok m r w.0 (ws ++ vs) in
            let l = least g ok m q w.1 vs in
            record {
              p = [];
              split = refl;
              before = record { more = l.more; value = l.value; height = l.height; is = second l.is };
              within = omega (arith, l.within, le);
              over = (i.0, rest_of s, i.1, record { more = j.more; value = j.value; height = j.height; is = first i.2 j.is refl });
            }
        go y z None e b p = good_same g (Rest g q vs) (Rest g (Either f r q) vs) m d d [] s s _ (λ M l a e h k. second k) (omega arith) refl z
    rule_good (Many k f item r) w le vs s =
        subst (Good g (Rest g (Many k f item r) vs) m d s) (many_rule g sub m d k f item r vs s)
        (good_same g (Items g k 0 f item r vs) (Rest g (Many k f item r) vs) m d d [] s s _ (λ M l a e h y. many y) (omega arith) refl
        (many_good k f item r w.0 w.1 le (λ s. rule_good item w.0 (omega (arith, le, parts_small g item)) [] s) (λ vs s. rule_good r w.1 (omega (arith, le, parts_small g r)) vs s) (k + m) 0 (omega arith) vs s))
