-- What options give, by steps and as a relation.
use Rattle.std.proofs.Common.{◌≡◌, ◌⊎◌, ◌<◌, ℕ, zero, suc, Bool, true, false, not, cond, List, [], ◌∷◌, Option, Some, None, inl, inr, ⊎_elim, refl, sym, ap, subst, arith, codes}
use Rattle.std.specs.Prelude.{slice_index_or, option_map}
use Rattle.std.specs.List.{Contains}
use Rattle.std.specs.Str.{bytes_eq}
use Rattle.std.proofs.lemmas.Bool.{and_parts, or_parts, not-true, false_from_ne_true}
use Rattle.std.proofs.lemmas.Slice.Eq.{bytes_eq-Decides}
use Rattle.raml_words.specs.Words.{Text, NotNamed, Once, Among, Needs, May, Picks, rule_text}
use Rattle.raml_words.specs.Sorting.{number_in, needed, optional, rule_named, rule_in, value_of, is_named, once}
use Rattle.raml_words.specs.declared.request.Rule.{Rule}
use Rattle.raml_words.specs.declared.request.Rule.TheVariants.{Least, Greatest}
use Rattle.raml_words.proofs.Numbers.{number_is, number_there}

same : (s t : Text) → bytes_eq s t ≡ true → s ≡ t
same s t e = (bytes_eq-Decides s t).0 e

apart : (s t : Text) → bytes_eq s t ≡ false → ¬ (s ≡ t)
apart s t e h = let k = (bytes_eq-Decides s t).1 h in absurd (cc)

differ : (s t : Text) → ¬ (s ≡ t) → bytes_eq s t ≡ false
differ s t h = false_from_ne_true (bytes_eq s t) (λ e. h (same s t e))

-- the value of a name
not_named : (name : Text) (vs : List (Text × Text)) → value_of name vs ≡ None → NotNamed name vs
not_named name [] e = tt
not_named name (p ∷ ps) e = by (bytes_eq p.0 name) refl e (not_named name ps)
  where
    by : (t : Bool) → bytes_eq p.0 name ≡ t → cond t (Some p.1) (value_of name ps) ≡ None → (value_of name ps ≡ None → NotNamed name ps) → ¬ (p.0 ≡ name) × NotNamed name ps
    by true q e ih = absurd (cc)
    by false q e ih = (apart p.0 name q, ih e)

no_value : (name : Text) (vs : List (Text × Text)) → NotNamed name vs → value_of name vs ≡ None
no_value name [] h = refl
no_value name (p ∷ ps) h = rw (differ p.0 name h.0) (no_value name ps h.1)

among : (name v : Text) (vs : List (Text × Text)) → value_of name vs ≡ Some v → Among name v vs
among name v [] e = absurd (cc)
among name v (p ∷ ps) e = by (bytes_eq p.0 name) refl e (among name v ps)
  where
    by : (t : Bool) → bytes_eq p.0 name ≡ t → cond t (Some p.1) (value_of name ps) ≡ Some v → (value_of name ps ≡ Some v → Among name v ps) → ((p.0 ≡ name) × (p.1 ≡ v)) ⊎ Among name v ps
    by true q e ih = let h : p.1 ≡ v = cc in inl (same p.0 name q, h)
    by false q e ih = inr (ih e)

not_among : (name v : Text) (vs : List (Text × Text)) → NotNamed name vs → Among name v vs → ⊥
not_among name v [] h a = a
not_among name v (p ∷ ps) h a = ⊎_elim (λ k. h.0 k.0) (λ k. not_among name v ps h.1 k) a

value_there : (name v : Text) (vs : List (Text × Text)) → Once vs → Among name v vs → value_of name vs ≡ Some v
value_there name v [] o a = absurd a
value_there name v (p ∷ ps) o a = ⊎_elim here (λ k. later k (value_there name v ps o.1 k)) a
  where
    here : (p.0 ≡ name) × (p.1 ≡ v) → value_of name (p ∷ ps) ≡ Some v
    here k = rw ((bytes_eq-Decides p.0 name).1 k.0) (ap Some k.1)

    later : Among name v ps → value_of name ps ≡ Some v → value_of name (p ∷ ps) ≡ Some v
    later k e =
        let other : ¬ (p.0 ≡ name) = λ q. not_among name v ps (subst (λ m. NotNamed m ps) q o.0) k in
        rw (differ p.0 name other) e

-- the number that an option gives
needs_from : (name v : Text) (least most n : ℕ) (vs : List (Text × Text)) → value_of name vs ≡ Some v → number_in least most v ≡ Some n → Needs name least most vs n
needs_from name v least most n vs q e = (v, among name v vs q, number_is least most v n e)

pub needed_from : (name : Text) (least most : ℕ) (vs : List (Text × Text)) (n : ℕ) → needed least most (value_of name vs) ≡ Some n → Needs name least most vs n
needed_from name least most vs n e = by (value_of name vs) refl e
  where
    by : (w : Option Text) → value_of name vs ≡ w → needed least most w ≡ Some n → Needs name least most vs n
    by None q e = absurd (cc)
    by (Some v) q e = needs_from name v least most n vs q e

pub needed_to : (name : Text) (least most : ℕ) (vs : List (Text × Text)) (n : ℕ) → Once vs → Needs name least most vs n → needed least most (value_of name vs) ≡ Some n
needed_to name least most vs n o h = rw (value_there name h.0 vs o h.1) (number_there least most h.0 n h.2)

pub may_from : (name : Text) (least most : ℕ) (vs : List (Text × Text)) (o : Option ℕ) → optional least most (value_of name vs) ≡ Some o → May name least most vs o
may_from name least most vs o e = by (value_of name vs) refl e
  where
    by_number : (v : Text) (m : Option ℕ) → value_of name vs ≡ Some v → number_in least most v ≡ m → option_map Some m ≡ Some o → May name least most vs o
    by_number v None q f e = absurd (cc)
    by_number v (Some n) q f e = let h : Some n ≡ o = cc in subst (May name least most vs) h (needs_from name v least most n vs q f)

    by : (w : Option Text) → value_of name vs ≡ w → optional least most w ≡ Some o → May name least most vs o
    by None q e = let h : None ≡ o = cc in subst (May name least most vs) h (not_named name vs q)
    by (Some v) q e = by_number v (number_in least most v) q refl e

pub may_to : (name : Text) (least most : ℕ) (vs : List (Text × Text)) (o : Option ℕ) → Once vs → May name least most vs o → optional least most (value_of name vs) ≡ Some o
may_to name least most vs None once h = rw (no_value name vs h) refl
may_to name least most vs (Some n) once h = rw (value_there name h.0 vs once h.1) (ap (option_map Some) (number_there least most h.0 n h.2))

-- the rule that an option names
named_rule : (w : Text) (rule : Rule) → rule_named w ≡ Some rule → w ≡ rule_text rule
named_rule w rule e = by (bytes_eq w (codes "least")) (same w (codes "least")) (bytes_eq w (codes "greatest")) (same w (codes "greatest")) e
  where
    by : (b : Bool) → (b ≡ true → w ≡ codes "least") → (d : Bool) → (d ≡ true → w ≡ codes "greatest") → cond b (Some Least) (cond d (Some Greatest) None) ≡ Some rule → w ≡ rule_text rule
    by true is d other e = let h : Least ≡ rule = cc in subst (λ r. w ≡ rule_text r) h (is refl)
    by false is true other e = let h : Greatest ≡ rule = cc in subst (λ r. w ≡ rule_text r) h (other refl)
    by false is false other e = absurd (cc)

rule_of_text : (rule : Rule) → rule_named (rule_text rule) ≡ Some rule
rule_of_text Least = refl
rule_of_text Greatest = refl

pub picks_from : (vs : List (Text × Text)) (rule : Rule) → rule_in (value_of (codes "pivot") vs) ≡ Some rule → Picks vs rule
picks_from vs rule e = by (value_of (codes "pivot") vs) refl e
  where
    by : (w : Option Text) → value_of (codes "pivot") vs ≡ w → rule_in w ≡ Some rule → Picks vs rule
    by None q e = let h : rule ≡ Least = cc in inl (not_named (codes "pivot") vs q, h)
    by (Some w) q e = inr (subst (λ v. Among (codes "pivot") v vs) (named_rule w rule e) (among (codes "pivot") w vs q))

pub picks_to : (vs : List (Text × Text)) (rule : Rule) → Once vs → Picks vs rule → rule_in (value_of (codes "pivot") vs) ≡ Some rule
picks_to vs rule o h =
    ⊎_elim (λ k. rw (no_value (codes "pivot") vs k.0) (ap Some (sym k.1)))
    (λ k. rw (value_there (codes "pivot") (rule_text rule) vs o k) (rule_of_text rule)) h

-- no option stands twice
named_no_more : (name : Text) (ps : List (Text × Text)) → is_named name ps ≡ false → NotNamed name ps
named_no_more name [] e = tt
named_no_more name (p ∷ ps) e = let h = or_parts (bytes_eq p.0 name) (is_named name ps) e in (apart p.0 name h.0, named_no_more name ps h.1)

not_is_named : (name : Text) (ps : List (Text × Text)) → NotNamed name ps → is_named name ps ≡ false
not_is_named name [] h = refl
not_is_named name (p ∷ ps) h = rw (differ p.0 name h.0, not_is_named name ps h.1) refl

pub once_from : (ps : List (Text × Text)) → once ps ≡ true → Once ps
once_from [] e = tt
once_from (p ∷ ps) e = let h = and_parts (not (is_named p.0 ps)) (once ps) e in (named_no_more p.0 ps (not-true (is_named p.0 ps) h.0), once_from ps h.1)

pub once_to : (ps : List (Text × Text)) → Once ps → once ps ≡ true
once_to [] h = refl
once_to (p ∷ ps) h = rw (not_is_named p.0 ps h.0, once_to ps h.1) refl

-- one of one name, of two, and of three
pub one_of_one : (a name : Text) → Contains (a ∷ []) name → a ≡ name
one_of_one a name h = by h.0 h.1 h.2
  where
    by : (k : ℕ) → k < 1 → slice_index_or (a ∷ []) k name ≡ name → a ≡ name
    by zero l e = e
    by (suc k) l e = absurd (omega (arith, l))

pub one_of_two : (a b name : Text) → Contains (a ∷ b ∷ []) name → (a ≡ name) ⊎ (b ≡ name)
one_of_two a b name h = by h.0 h.1 h.2
  where
    by : (k : ℕ) → k < 2 → slice_index_or (a ∷ b ∷ []) k name ≡ name → (a ≡ name) ⊎ (b ≡ name)
    by zero l e = inl e
    by (suc zero) l e = inr e
    by (suc (suc k)) l e = absurd (omega (arith, l))

pub one_of_three : (a b c name : Text) → Contains (a ∷ b ∷ c ∷ []) name → (a ≡ name) ⊎ ((b ≡ name) ⊎ (c ≡ name))
one_of_three a b c name h = by h.0 h.1 h.2
  where
    by : (k : ℕ) → k < 3 → slice_index_or (a ∷ b ∷ c ∷ []) k name ≡ name → (a ≡ name) ⊎ ((b ≡ name) ⊎ (c ≡ name))
    by zero l e = inl e
    by (suc zero) l e = inr (inl e)
    by (suc (suc zero)) l e = inr (inr e)
    by (suc (suc (suc k))) l e = absurd (omega arith)
