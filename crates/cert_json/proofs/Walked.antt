-- Loops over the items of a list, step by step.
use Rattle.std.proofs.Common.{◌≡◌, ℕ, suc, add-one, ◌+◌, ◌<◌, ◌≤◌, ◌++◌, [], ◌∷◌, List, length, map, take, drop, drop-cons, get_or, Option, Some, None, refl, sym, ap, ap₂, ◌∙◌, subst, append_assoc}
use Rattle.std.specs.Prelude.{option_map, option_and_then}
use Rattle.std.proofs.lemmas.List.{map-append, append-nil, take_more, drop_all}
use Rattle.serde_json.specs.Data.{Data}
use Rattle.cert_json.specs.Reading.{each}
use Rattle.cert_json.specs.Fits.{Each}

-- ---- what is read of each item, where the first ones are read

-- the items from n on
pub from_here : {A B : Type 0} (g : A → B) (xs : List A) (n : ℕ) (x : A) → n < length xs → x ≡ get_or xs n x → map g (drop n xs) ≡ g x ∷ map g (drop (n + 1) xs)
from_here g xs n x h at = ap (map g) (drop-cons xs n x h ∙ ap (λ y. y ∷ drop (suc n) xs) (sym at)) ∙ rw add-one refl

-- Of the items of a list, which is there: one of which nothing is read, one of which this is read, and the end.
pub read_none : {V B : Type 0} (f : Data → Option B) (see : V → Data) (list : Option (List Data)) (found : List B) (items : List V) (n : ℕ) (item : V) → Some (map see items) ≡ list → n < length items → item ≡ get_or items n item
    → None ≡ f (see item) → each f (map see items) ≡ option_map (λ more. found ++ more) (each f (map see (drop n items))) → None ≡ option_and_then (each f) list
read_none f see list found items n item there h at none e =
    sym (e ∙ ap (λ xs. option_map (λ more. found ++ more) (each f xs)) (from_here see items n item h at) ∙ rw (sym none) refl) ∙ ap (option_and_then (each f)) there

appended : {B : Type 0} (found : List B) (b : B) (o : Option (List B)) → option_map (λ more. found ++ more) (option_map (λ ys. b ∷ ys) o) ≡ option_map (λ more. (found ++ b ∷ []) ++ more) o
appended found b None = refl
appended found b (Some ys) = ap Some (sym (append_assoc found (b ∷ []) ys))

pub read_one : {V B : Type 0} (f : Data → Option B) (see : V → Data) (whole : Option (List B)) (found now : List B) (items : List V) (n : ℕ) (item : V) (b : B) → n < length items → item ≡ get_or items n item
    → Some b ≡ f (see item) → now ≡ found ++ b ∷ [] → whole ≡ option_map (λ more. found ++ more) (each f (map see (drop n items))) → whole ≡ option_map (λ more. now ++ more) (each f (map see (drop (n + 1) items)))
read_one f see whole found now items n item b h at some more e =
    let rest = map see (drop (n + 1) items) in
    let one : each f (map see (drop n items)) ≡ option_map (λ ys. b ∷ ys) (each f rest) = ap (each f) (from_here see items n item h at) ∙ rw (sym some) refl in
    e ∙ ap (option_map (λ more. found ++ more)) one ∙ appended found b (each f rest) ∙ ap (λ xs. option_map (λ more. xs ++ more) (each f rest)) (sym more)

pub read_all : {V B : Type 0} (f : Data → Option B) (see : V → Data) (list : Option (List Data)) (found : List B) (items : List V) (n : ℕ) → Some (map see items) ≡ list → length items ≤ n
    → each f (map see items) ≡ option_map (λ more. found ++ more) (each f (map see (drop n items))) → Some found ≡ option_and_then (each f) list
read_all f see list found items n there h e =
    sym (e ∙ ap (λ ys. option_map (λ more. found ++ more) (each f (map see ys))) (drop_all n items h) ∙ ap Some (append-nil found)) ∙ ap (option_and_then (each f)) there

-- ---- what is written of each item

one_more : {X : Type 0} (xs : List X) (n : ℕ) (x : X) → n < length xs → x ≡ get_or xs n x → take (n + 1) xs ≡ take n xs ++ x ∷ []
one_more xs n x h at = take_more xs n x h ∙ ap (λ y. take n xs ++ y ∷ []) (sym at)

pub plain_step : {V D X : Type 0} (see : V → D) (g : X → D) (old now : List V) (v : V) (xs : List X) (n : ℕ) (x : X)
    → n < length xs → x ≡ get_or xs n x → now ≡ old ++ v ∷ [] → see v ≡ g x → map see old ≡ map g (take n xs) → map see now ≡ map g (take (n + 1) xs)
plain_step see g old now v xs n x h at m s e =
    ap (map see) m ∙ map-append see old (v ∷ []) ∙ ap₂ (λ ds d. ds ++ d ∷ []) e s
    ∙ sym (ap (map g) (one_more xs n x h at) ∙ map-append g (take n xs) (x ∷ []))

pub same_step : {V D X P : Type 0} (see : V → D) (g : P → D) (of : X → P) (old now : List V) (v : V) (xs : List X) (n : ℕ) (x : X)
    → n < length xs → x ≡ get_or xs n x → now ≡ old ++ v ∷ [] → see v ≡ g (of x) → map see old ≡ map g (map of (take n xs)) → map see now ≡ map g (map of (take (n + 1) xs))
same_step see g of old now v xs n x h at m s e =
    ap (map see) m ∙ map-append see old (v ∷ []) ∙ ap₂ (λ ds d. ds ++ d ∷ []) e s
    ∙ sym (ap (λ ys. map g (map of ys)) (one_more xs n x h at) ∙ ap (map g) (map-append of (take n xs) (x ∷ [])) ∙ map-append g (map of (take n xs)) (of x ∷ []))

each_more : {P : Type 0} (F : P → Type 0) (ps : List P) (p : P) → Each F ps → F p → Each F (ps ++ p ∷ [])
each_more F [] p h k = (k, tt)
each_more F (q ∷ ps) p h k = (h.0, each_more F ps p h.1 k)

pub each_plain : {X : Type 0} (F : X → Type 0) (xs : List X) (n : ℕ) (x : X) → n < length xs → x ≡ get_or xs n x → Each F (take n xs) → F x → Each F (take (n + 1) xs)
each_plain F xs n x h at e p = subst (Each F) (sym (one_more xs n x h at)) (each_more F (take n xs) x e p)

pub each_same : {X P : Type 0} (F : P → Type 0) (of : X → P) (xs : List X) (n : ℕ) (x : X) → n < length xs → x ≡ get_or xs n x → Each F (map of (take n xs)) → F (of x) → Each F (map of (take (n + 1) xs))
each_same F of xs n x h at e p =
    subst (Each F) (sym (ap (map of) (one_more xs n x h at) ∙ map-append of (take n xs) (x ∷ []))) (each_more F (map of (take n xs)) (of x) e p)
