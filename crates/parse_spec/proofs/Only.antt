-- A text has one value at most, or one fault, and never both.
use Rattle.std.proofs.Common.{◌≡◌, ℕ, List, [], ◌∷◌, ◌++◌, refl, sym, ap, subst, ◌∙◌, append_assoc}
use Rattle.std.proofs.lemmas.List.{append-nil}
use Rattle.parse_spec.specs.Rules.{Grammar}
use Rattle.parse_spec.specs.Derives.{Derives, CanBegin, IsKind, Faults, at, end, Kind, Syntax, TooDeep, TooMany}
use Rattle.std.specs.Prelude.{Ok, Err}
use Rattle.parse_spec.specs.Reading.{Answer}
use Rattle.parse_spec.proofs.Basics.{Readable}
use Rattle.parse_spec.proofs.Complete.{text_complete}

-- where two splits of a list are
data Compare {T : Type 0} (a b : List T) (t : T) (c e : List T) (u : T) : Type 0 where
  before : (x : List T) → c ≡ (a ++ t ∷ []) ++ x → Compare a b t c e u
  behind : (x : List T) → a ≡ (c ++ u ∷ []) ++ x → Compare a b t c e u
  here : a ≡ c → t ≡ u → b ≡ e → Compare a b t c e u

compare : {T : Type 0} (a c b e : List T) (t u : T) → a ++ t ∷ b ≡ c ++ u ∷ e → Compare a b t c e u
compare [] [] b e t u q = here refl (cc) (cc)
compare [] (x ∷ c) b e t u q = before c (let p : x ≡ t = cc in ap (λ x. x ∷ c) p)
compare (x ∷ a) [] b e t u q = behind a (let p : x ≡ u = cc in ap (λ x. x ∷ a) p)
compare (x ∷ a) (y ∷ c) b e t u q = go (compare a c b e t u (cc))
  where
    same : x ≡ y
    same = cc

    go : Compare a b t c e u → Compare (x ∷ a) b t (y ∷ c) e u
    go (before z p) = before z (ap (λ c. y ∷ c) p ∙ ap (λ y. y ∷ ((a ++ t ∷ []) ++ z)) (sym same))
    go (behind z p) = behind z (ap (λ a. x ∷ a) p ∙ ap (λ x. x ∷ ((c ++ u ∷ []) ++ z)) same)
    go (here p r w) = here (ap (λ a. x ∷ a) p ∙ ap (λ x. x ∷ c) same) r w

module _ {T V C : Type 0} (g : Grammar T V C) where
  shorter : (m d : ℕ) (s x y : List T) → s ≡ x ++ y → CanBegin g m d s → CanBegin g m d x
  shorter m d s x y e c = record { more = y ++ c.more; value = c.value; derives = subst (λ s. Derives g m d s c.value) (ap (λ s. s ++ c.more) e ∙ append_assoc x y c.more) c.derives }

  begun : (m d : ℕ) (s : List T) (e : V) → Derives g m d s e → CanBegin g m d s
  begun m d s e h = record { more = []; value = e; derives = subst (λ s. Derives g m d s e) (sym (append-nil s)) h }

  one_kind : (m d : ℕ) (s : List T) (k j : Kind) → IsKind g d s k → IsKind g d s j → k ≡ j
  one_kind m d s Syntax Syntax p q = refl
  one_kind m d s Syntax TooDeep p q = absurd (p q.0.0 q.0.1 q.0.2)
  one_kind m d s Syntax TooMany p q = absurd (p q.0 d q.1)
  one_kind m d s TooDeep Syntax p q = absurd (q p.0.0 p.0.1 p.0.2)
  one_kind m d s TooDeep TooDeep p q = refl
  one_kind m d s TooDeep TooMany p q = absurd (p.1 q.0 q.1)
  one_kind m d s TooMany Syntax p q = absurd (q p.0 d p.1)
  one_kind m d s TooMany TooDeep p q = absurd (q.1 p.0 p.1)
  one_kind m d s TooMany TooMany p q = refl

  pub one_fault : (m d : ℕ) (s : List T) (k j : Kind) (u v : List T) → Faults g m d s k u → Faults g m d s j v → (k ≡ j) × (u ≡ v)
  one_fault m d s k j u v (end c n) (end c2 n2) = (refl, refl)
  one_fault m d s k j u v (end c n) (at {a = a} {b = b} {t = t} q x y z) = absurd (y (shorter m d s (a ++ t ∷ []) b (q ∙ sym (append_assoc a (t ∷ []) b)) c))
  one_fault m d s k j u v (at {a = a} {b = b} {t = t} q x y z) (end c n) = absurd (y (shorter m d s (a ++ t ∷ []) b (q ∙ sym (append_assoc a (t ∷ []) b)) c))
  one_fault m d s k j u v (at {a = a} {b = b} {t = t} q x y z) (at {a = c} {b = e} {t = w} q2 x2 y2 z2) = go (compare a c b e t w (sym q ∙ q2))
    where
      go : Compare a b t c e w → (k ≡ j) × (t ∷ b ≡ w ∷ e)
      go (before p r) = absurd (y (shorter m d c (a ++ t ∷ []) p r x2))
      go (behind p r) = absurd (y2 (shorter m d a (c ++ w ∷ []) p r x))
      go (here r1 r2 r3) = (one_kind m d (a ++ t ∷ []) k j z (subst (λ s. IsKind g d s j) (sym (λ i. r1 i ++ r2 i ∷ [])) z2), λ i. r2 i ∷ r3 i)

  pub no_fault : (m d : ℕ) (s : List T) (e : V) (k : Kind) (u : List T) → Derives g m d s e → Faults g m d s k u → ⊥
  no_fault m d s e k u h (end c n) = n e h
  no_fault m d s e k u h (at {a = a} {b = b} {t = t} q x y z) = y (shorter m d s (a ++ t ∷ []) b (q ∙ sym (append_assoc a (t ∷ []) b)) (begun m d s e h))

  value_of : V → Answer T V → V
  value_of e (Ok (f, h, u)) = f
  value_of e (Err k) = e

  pub one_value : (ok : Readable g) (m d : ℕ) (s : List T) (e f : V) → Derives g m d s e → Derives g m d s f → e ≡ f
  unfolding value_of
  one_value ok m d s e f p q = ap (value_of e) (sym (text_complete g ok p.is d p.within) ∙ text_complete g ok q.is d q.within)
