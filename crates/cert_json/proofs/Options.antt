-- Options and tests that gave something.
use Rattle.std.proofs.Common.{◌≡◌, ℕ, ◌⊎◌, inl, inr, Bool, true, false, cond, List, Option, Some, None, refl, sym}
use Rattle.std.specs.Prelude.{option_map, option_and_then}
use Rattle.std.specs.Str.{bytes_eq}
use Rattle.std.proofs.lemmas.Slice.Eq.{bytes_eq-Decides}
use Rattle.cert_json.specs.Reading.{or_else, both}

pub bind_inv : {A B : Type 0} (f : A → Option B) (o : Option A) (b : B) → option_and_then f o ≡ Some b → (a : A) × (o ≡ Some a) × (f a ≡ Some b)
bind_inv f None b e = absurd (cc)
bind_inv f (Some a) b e = (a, refl, e)

pub map_inv : {A B : Type 0} (f : A → B) (o : Option A) (b : B) → option_map f o ≡ Some b → (a : A) × (o ≡ Some a) × (f a ≡ b)
map_inv f None b e = absurd (cc)
map_inv f (Some a) b e = let s : f a ≡ b = cc in (a, refl, s)

pub cond_inv : {A : Type 0} (t : Bool) (x y : A) → cond t (Some x) None ≡ Some y → (t ≡ true) × (x ≡ y)
cond_inv true x y e = let s : x ≡ y = cc in (refl, s)
cond_inv false x y e = absurd (cc)

pub guard_inv : {A : Type 0} (t : Bool) (o : Option A) (y : A) → cond t o None ≡ Some y → (t ≡ true) × (o ≡ Some y)
guard_inv true o y e = (refl, e)
guard_inv false o y e = absurd (cc)

pub choice : {A : Type 0} (t : Bool) (o p : Option A) (y : A) → cond t o p ≡ Some y → ((t ≡ true) × (o ≡ Some y)) ⊎ ((t ≡ false) × (p ≡ Some y))
choice true o p y e = inl (refl, e)
choice false o p y e = inr (refl, e)

pub both_inv : {A B : Type 0} (o : Option A) (p : Option B) (c : A × B) → both o p ≡ Some c → (o ≡ Some c.0) × (p ≡ Some c.1)
both_inv None p c e = absurd (cc)
both_inv (Some a) None c e = absurd (cc)
both_inv (Some a) (Some b) c e = let s : (a, b) ≡ c = cc in (ap_fst a b c s, ap_snd a b c s)
  where
    ap_fst : {A B : Type 0} (a : A) (b : B) (c : A × B) → (a, b) ≡ c → Some a ≡ Some c.0
    ap_fst a b c s = rw (sym s) refl

    ap_snd : {A B : Type 0} (a : A) (b : B) (c : A × B) → (a, b) ≡ c → Some b ≡ Some c.1
    ap_snd a b c s = rw (sym s) refl

pub else_inv : {A B : Type 0} (o : Option A) (f : A → Option B) (rest : Option B) (b : B) → or_else o f rest ≡ Some b → ((a : A) × (o ≡ Some a) × (f a ≡ Some b)) ⊎ (rest ≡ Some b)
else_inv None f rest b e = inr e
else_inv (Some a) f rest b e = inl (a, refl, e)

pub same_text : (s t : List ℕ) → bytes_eq s t ≡ true → s ≡ t
same_text s t e = (bytes_eq-Decides s t).0 e

pub text_same : (s t : List ℕ) → s ≡ t → bytes_eq s t ≡ true
text_same s t e = (bytes_eq-Decides s t).1 e
