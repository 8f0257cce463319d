-- What is answered of all the tokens: the value, or the first token with which no text within the limits begins.
use Rattle.std.proofs.Common.{◌≡◌, ◌≤◌, ℕ, List, [], ◌∷◌, ◌++◌, refl, sym, ap, subst, ◌∙◌, arith, append_assoc}
use Rattle.std.proofs.lemmas.List.{append-nil}
use Rattle.std.specs.Prelude.{max, Result, Ok, Err}
use Rattle.parse_spec.specs.Rules.{Grammar}
use Rattle.parse_spec.specs.Derives.{IsRest, Derives, CanBegin, IsKind, Faults, at, end, Kind, Syntax, TooDeep, TooMany}
use Rattle.parse_spec.specs.Reading.{Answer, Fault, rule_of, read, whole_of, parse_of}
use Rattle.parse_spec.proofs.Basics.{grow_rest, Begun, Rest, Readable}
use Rattle.parse_spec.proofs.Lifting.{Good, Over}
use Rattle.parse_spec.proofs.Phrases.{text_good}
use Rattle.parse_spec.proofs.Complete.{text_complete}
use Rattle.parse_spec.proofs.Local.{Follows, text_follows}

module _ {T V C : Type 0} (g : Grammar T V C) where
  abbrev pub Answers : ℕ → ℕ → List T → Result V (Fault T) → Type 0
  Answers m d s (Ok e) = Derives g m d s e
  Answers m d s (Err (k, u)) = Faults g m d s k u

  pub raise : (m M d D : ℕ) (s : List T) → m ≤ M → d ≤ D → CanBegin g m d s → CanBegin g M D s
  raise m M d D s mle dle c = record { more = c.more; value = c.value; derives = record { height = c.derives.height; is = grow_rest g m M mle c.derives.is; within = omega (arith, dle, c.derives.within) } }

  -- 0 where no token is left, 1 where one is, 2 at a fault
  shape_of : Answer T V → ℕ
  shape_of (Ok (e, h, [])) = 0
  shape_of (Ok (e, h, t ∷ u)) = 1
  shape_of (Err f) = 2

  not_left : (e f : V) (h i : ℕ) (t : T) (u : List T) → ◌≡◌ {A = Answer T V} (Ok (e, h, t ∷ u)) (Ok (f, i, [])) → ⊥
  unfolding shape_of
  not_left e f h i t u q = let p : 1 ≡ 0 = ap shape_of q in omega (arith, p)

  not_err : (x : Fault T) (f : V) (i : ℕ) → ◌≡◌ {A = Answer T V} (Err x) (Ok (f, i, [])) → ⊥
  unfolding shape_of
  not_err x f i q = let p : 2 ≡ 0 = ap shape_of q in omega (arith, p)

  abbrev all_of : ℕ → ℕ → List T → Answer T V
  all_of m d s = rule_of g (read g m d) m d g.text [] s

  module _ (ok : Readable g) (m d : ℕ) (s a b : List T) (t : T) (split : s ≡ a ++ t ∷ b) where
    -- the text with its first tokens alone in common
    module _ (K : Kind → Type 0) (M D : ℕ) (mle : m ≤ M) (dle : d ≤ D) (km : K TooMany → m ≡ M) (kd : K TooDeep → d ≡ D) where
      follows : (o : Answer T V) → all_of m d s ≡ o → (y : List T) → Follows g K b y o (all_of M D ((a ++ t ∷ []) ++ y))
      follows o q y = subst (λ o. Follows g K b y o (all_of M D ((a ++ t ∷ []) ++ y))) (ap (all_of m d) (append_assoc a (t ∷ []) b ∙ sym split) ∙ q) (text_follows g K b y m M mle km d D dle kd (a ++ t ∷ []))

      refuse_err : (k : Kind) → K k → all_of m d s ≡ Err (k, t ∷ b) → CanBegin g M D (a ++ t ∷ []) → ⊥
      refuse_err k kept q c =
          let p : all_of M D ((a ++ t ∷ []) ++ c.more) ≡ Err (k, t ∷ c.more) = follows (Err (k, t ∷ b)) q c.more kept t [] refl in
          let r = text_complete g ok c.derives.is D c.derives.within in
          not_err (k, t ∷ c.more) c.value c.derives.height (sym p ∙ r)

      refuse_ok : (e : V) (h : ℕ) → all_of m d s ≡ Ok (e, h, t ∷ b) → CanBegin g M D (a ++ t ∷ []) → ⊥
      refuse_ok e h q c =
          let p : all_of M D ((a ++ t ∷ []) ++ c.more) ≡ Ok (e, h, t ∷ c.more) = follows (Ok (e, h, t ∷ b)) q c.more t [] refl in
          let r = text_complete g ok c.derives.is D c.derives.within in
          not_left e c.value h c.derives.height t c.more (sym p ∙ r)

    kind_of : (k : Kind) → Over g (Rest g g.text []) m d a k (t ∷ b) → all_of m d s ≡ Err (k, t ∷ b) → IsKind g d (a ++ t ∷ []) k
    kind_of Syntax o q = λ i j c. refuse_err (λ k. k ≡ Syntax) (max i m) (max j d) (omega arith) (omega arith) (λ p. absurd (cc)) (λ p. absurd (cc)) Syntax refl q (raise i (max i m) j (max j d) _ (omega arith) (omega arith) c)
    kind_of TooDeep o q =
        let same : t ≡ o.0 = let w = o.2 in cc in
        let x : Begun g (Rest g g.text []) m (a ++ t ∷ []) = subst (λ t. Begun g (Rest g g.text []) m (a ++ t ∷ [])) (sym same) o.3 in (
          (m, x.height, record { more = x.more; value = x.value; derives = record { height = x.height; is = x.is; within = omega arith } }),
          λ i c. refuse_err (λ k. k ≡ TooDeep) (max i m) d (omega arith) (omega arith) (λ p. absurd (cc)) (λ p. refl) TooDeep refl q (raise i (max i m) d d _ (omega arith) (omega arith) c),
        )
    kind_of TooMany o q =
        let same : t ≡ o.0 = let w = o.2 in cc in
        let x : (x : Begun g (Rest g g.text []) o.3 (a ++ t ∷ [])) × (x.height ≤ d) = subst (λ t. (x : Begun g (Rest g g.text []) o.3 (a ++ t ∷ [])) × (x.height ≤ d)) (sym same) (o.5, o.6) in
        (o.3, record { more = x.0.more; value = x.0.value; derives = record { height = x.0.height; is = x.0.is; within = x.1 } })

  module _ (ok : Readable g) (m d : ℕ) (pos : 1 ≤ d) (s : List T) where
    answers : (o : Answer T V) → all_of m d s ≡ o → Good g (Rest g g.text []) m d s o → Answers m d s (whole_of o)
    answers (Ok (e, h, [])) q w = record { height = h; is = subst (λ s. IsRest g m g.text [] s e h) (sym (w.split ∙ append-nil w.a)) w.is; within = w.within }
    answers (Ok (e, h, t ∷ b)) q w =
        at w.split
        (record { more = []; value = e; derives = record { height = h; is = subst (λ s. IsRest g m g.text [] s e h) (sym (append-nil w.a)) w.is; within = w.within } })
        (refuse_ok ok m d s w.a b t w.split (λ k. ⊥) m d (omega arith) (omega arith) (λ p. refl) (λ p. refl) e h q)
        (λ i j c. refuse_ok ok m d s w.a b t w.split (λ k. ⊥) (max i m) (max j d) (omega arith) (omega arith) (λ p. absurd p) (λ p. absurd p) e h q (raise i (max i m) j (max j d) _ (omega arith) (omega arith) c))
    answers (Err (Syntax, [])) q w =
        end
        (subst (CanBegin g m d) (sym (w.split ∙ append-nil w.p)) (record { more = w.before.more; value = w.before.value; derives = record { height = w.before.height; is = w.before.is; within = w.within } }))
        (λ e x. not_err (Syntax, []) e x.height (sym q ∙ text_complete g ok x.is d x.within))
    answers (Err (TooDeep, [])) q w = absurd (let v = w.over.2 in cc)
    answers (Err (TooMany, [])) q w = absurd (let v = w.over.2 in cc)
    answers (Err (k, t ∷ b)) q w =
        at w.split
        (record { more = w.before.more; value = w.before.value; derives = record { height = w.before.height; is = w.before.is; within = w.within } })
        (refuse_err ok m d s w.p b t w.split (λ k. Unit {0}) m d (omega arith) (omega arith) (λ p. refl) (λ p. refl) k tt q)
        (kind_of ok m d s w.p b t w.split k w.over q)

    -- what is read is the value, or the first fault
    pub parse_answers : Answers m d s (parse_of g m d s)
    parse_answers = answers (all_of m d s) refl (text_good g ok m d pos s)
