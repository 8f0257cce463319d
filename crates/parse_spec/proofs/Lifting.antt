-- What it is to read well: what is read is derived, and what stands before a fault can be completed within the limits.
use Rattle.std.proofs.Common.{◌≡◌, ◌≤◌, ℕ, List, [], ◌∷◌, ◌++◌, refl, sym, ap, subst, ◌∙◌, arith, append_assoc}
use Rattle.std.specs.Prelude.{max, Ok, Err}
use Rattle.parse_spec.specs.Rules.{Grammar}
use Rattle.parse_spec.specs.Derives.{Kind, Syntax, TooDeep, TooMany}
use Rattle.parse_spec.specs.Reading.{Answer, ◌>>=◌, higher}
use Rattle.parse_spec.proofs.Basics.{Begun}

module _ {T V C : Type 0} (g : Grammar T V C) where
  abbrev pub Shape : Type 1
  Shape = ℕ → List T → V → ℕ → Type 0

  -- a phrase was read at the front of s
  pub record Took (X : Shape) (m d : ℕ) (s : List T) (e : V) (h : ℕ) (u : List T) : Type 0 where
    pub a : List T
    pub split : s ≡ a ++ u
    pub is : X m a e h
    pub within : h ≤ d

  -- how the token at the fault could stand, with other limits
  abbrev pub Over : Shape → ℕ → ℕ → List T → Kind → List T → Type 0
  Over X m d p Syntax u = Unit {0}
  Over X m d p TooDeep u = (t : T) × (b : List T) × (u ≡ t ∷ b) × Begun g X m (p ++ t ∷ [])
  Over X m d p TooMany u = (t : T) × (b : List T) × (u ≡ t ∷ b) × (M : ℕ) × (m ≤ M) × (x : Begun g X M (p ++ t ∷ [])) × (x.height ≤ d)

  pub record Stuck (X : Shape) (m d : ℕ) (s : List T) (k : Kind) (u : List T) : Type 0 where
    pub p : List T
    pub split : s ≡ p ++ u
    pub before : Begun g X m p
    pub within : before.height ≤ d
    pub over : Over X m d p k u

  abbrev pub Good : Shape → ℕ → ℕ → List T → Answer T V → Type 0
  Good X m d s (Ok (e, h, u)) = Took X m d s e h u
  Good X m d s (Err (k, u)) = Stuck X m d s k u

  -- what is begun as X after c is begun as Y
  abbrev pub Lifts : Shape → Shape → ℕ → ℕ → ℕ → List T → Type 0
  Lifts X Y m d d' c = (M : ℕ) → m ≤ M → (q : List T) → (b : Begun g X M q) → (x : Begun g Y M (c ++ q)) × (b.height ≤ d → x.height ≤ d')

  module _ (X Y : Shape) (m d d' : ℕ) (c : List T) where
    lift_over : Lifts X Y m d d' c → (p : List T) (k : Kind) (u : List T) → Over X m d p k u → Over Y m d' (c ++ p) k u
    lift_over f p Syntax u o = tt
    lift_over f p TooDeep u o =
        (o.0, o.1, o.2, subst (Begun g Y m) (sym (append_assoc c p (o.0 ∷ []))) (f m (omega arith) (p ++ o.0 ∷ []) o.3).0)
    lift_over f p TooMany u o =
        let x = f o.3 o.4 (p ++ o.0 ∷ []) o.5 in
        let w : (x : Begun g Y o.3 ((c ++ p) ++ o.0 ∷ [])) × (x.height ≤ d') = subst (λ s. (x : Begun g Y o.3 s) × (x.height ≤ d')) (sym (append_assoc c p (o.0 ∷ []))) (x.0, x.1 o.6) in
        (o.0, o.1, o.2, o.3, o.4, w.0, w.1)

    pub lift_stuck : (s s' : List T) (k : Kind) (u : List T) → Lifts X Y m d d' c → s' ≡ c ++ s → Stuck X m d s k u → Stuck Y m d' s' k u
    lift_stuck s s' k u f eq z =
        let x = f m (omega arith) z.p z.before in
        record { p = c ++ z.p; split = eq ∙ ap (λ s. c ++ s) z.split ∙ sym (append_assoc c z.p u); before = x.0; within = x.1 z.within; over = lift_over f z.p k u z.over }

    -- a phrase X after c makes a phrase Y
    abbrev pub Makes : (ℕ → ℕ) → Type 0
    Makes high = (M : ℕ) → m ≤ M → (a : List T) (e : V) (h : ℕ) → X M a e h → Y M (c ++ a) e (high h)

    makes_lift : (high : ℕ → ℕ) → Makes high → ((h : ℕ) → h ≤ d → high h ≤ d') → Lifts X Y m d d' c
    makes_lift high make fits M le q b =
        (record { more = b.more; value = b.value; height = high b.height; is = subst (λ s. Y M s b.value (high b.height)) (sym (append_assoc c q b.more)) (make M le (q ++ b.more) b.value b.height b.is) }, fits b.height)

    -- what is read with a change of the height
    pub good_after : (s s' : List T) (o : Answer T V) (high : ℕ → ℕ) → Makes high → ((h : ℕ) → h ≤ d → high h ≤ d') → s' ≡ c ++ s → Good X m d s o → Good Y m d' s' (o >>= (λ x. Ok (x.0, high x.1, x.2)))
    good_after s s' (Ok (e, h, u)) high make fits eq w = record { a = c ++ w.a; split = eq ∙ ap (λ s. c ++ s) w.split ∙ sym (append_assoc c w.a u); is = make m (omega arith) w.a e h w.is; within = fits h w.within }
    good_after s s' (Err (k, u)) high make fits eq w = lift_stuck s s' k u (makes_lift high make fits) eq w

    pub good_same : (s s' : List T) (o : Answer T V) → Makes (λ h. h) → d ≤ d' → s' ≡ c ++ s → Good X m d s o → Good Y m d' s' o
    good_same s s' (Ok (e, h, u)) make fits eq w = record { a = c ++ w.a; split = eq ∙ ap (λ s. c ++ s) w.split ∙ sym (append_assoc c w.a u); is = make m (omega arith) w.a e h w.is; within = omega (arith, fits, w.within) }
    good_same s s' (Err (k, u)) make fits eq w = lift_stuck s s' k u (makes_lift (λ h. h) make (λ h le. omega (arith, le, fits))) eq w

  -- first X, and then what goes on
  pub good_then : (X Y : Shape) (m d d' : ℕ) (s : List T) (o : Answer T V) (go : V × ℕ × List T → Answer T V) → Good X m d s o → ((e : V) (h : ℕ) (u : List T) → Took X m d s e h u → Good Y m d' s (go (e, h, u))) → Lifts X Y m d d' [] → Good Y m d' s (o >>= go)
  good_then X Y m d d' s (Ok (e, h, u)) go w then_good lifts = then_good e h u w
  good_then X Y m d d' s (Err (k, u)) go w then_good lifts = lift_stuck X Y m d d' [] s s k u lifts refl w

  pub higher_good : (Y Z : Shape) (m d : ℕ) (c s s' : List T) (h : ℕ) (o : Answer T V) → ((M : ℕ) → m ≤ M → (b : List T) (e : V) (i : ℕ) → Y M b e i → Z M (c ++ b) e (max h i)) → h ≤ d → s' ≡ c ++ s → Good Y m d s o → Good Z m d s' (higher h o)
  higher_good Y Z m d c s s' h o make le eq w = good_after Y Z m d d c s s' o (λ i. max h i) make (λ i l. omega (arith, l, le)) eq w
