-- Indices as they are read, and the degrees of those that are cut.
use Rattle.std.proofs.Common.{◌≡◌, ◌≤◌, ℕ, suc, Bool, true, false, cond, List, [], ◌∷◌, ◌++◌, map, flat_map, filter, nat_lt, length, slice_index_or, All, Vec, Global, refl, sym, ap, ◌∙◌, subst, arith}
use Rattle.std.proofs.lemmas.List.Elements.{All-nil, All-cons}
use Rattle.raml_syntax.specs.Tree.{Type', ListOf}
use Rattle.raml_syntax.specs.Read.{ty_of}
use Rattle.base_poly.specs.Plain as p
use Rattle.base_poly.specs.Plain.{deg, degrees, entries_of}
use Rattle.base_poly.specs.Indices.{index_list}
use Rattle.base_poly.specs.Read.{index_of, plains_of}
use Rattle.base_poly.specs.Total.{entries_of_many}
use Rattle.base_poly.specs.declared.index.Index.{Index}
use Rattle.base_poly.specs.declared.index.Index.TheVariants.{List as Items}
use Rattle.base_poly.proofs.Exact.{each_listed}
use Rattle.base_poly.proofs.Many.{as_list}
use Rattle.cost_free.specs.declared.holder.Holder.{Holder}
use Rattle.cost_free.specs.Target.{cut_lists, joined, joined_over}
use Rattle.cost_free.specs.Read.{places_of, holders_of}

pub entries_read : (x : Index) (v : Vec Index Global) (is : List Index) → x ≡ Items v → is ≡ v.items → plains_of is ≡ entries_of (index_of x)
entries_read x v is h e = ap plains_of e ∙ sym (ap entries_of (as_list x v h) ∙ entries_of_many (plains_of v.items))

-- each of them
abbrev Each : {X : Type 0} → (X → Type 0) → List X → Type 0
Each P [] = Unit {0}
Each P (x ∷ xs) = P x × Each P xs

each : {X : Type 0} (P : X → Type 0) (xs : List X) → All P xs → Each P xs
each P [] h = tt
each P (x ∷ xs) h = (h 0 x (omega arith), each P xs (λ k d low. h (suc k) d (omega (arith, low))))

all : {X : Type 0} (P : X → Type 0) (xs : List X) → Each P xs → All P xs
all P [] h = All-nil P
all P (x ∷ xs) h = All-cons P x xs h.0 (all P xs h.1)

abbrev IsLow : p.Plain → Type 0
IsLow i = deg i ≤ 255

-- a tuple of low degree has low indices
low_parts : (t : List p.Plain) → degrees t ≤ 255 → Each IsLow t
low_parts [] h = tt
low_parts (i ∷ t) h = (omega (arith, h), low_parts t (omega (arith, h)))

low_join : (t rest : List p.Plain) → Each IsLow t → Each IsLow rest → Each IsLow (t ++ rest)
low_join [] rest h k = k
low_join (i ∷ t) rest h k = (h.0, low_join t rest h.1 k)

low_flat : (ts : List (List p.Plain)) → Each (λ t. degrees t ≤ 255) ts → Each IsLow (flat_map (λ t. t) ts)
low_flat [] h = tt
low_flat (t ∷ ts) h = low_join t (flat_map (λ t. t) ts) (low_parts t h.0) (low_flat ts h.1)

some_low : (b : Bool) (i : p.Plain) (is : List p.Plain) → IsLow i → Each IsLow is → Each IsLow (cond b (i ∷ is) is)
some_low true i is h k = (h, k)
some_low false i is h k = k

low_some : (test : p.Plain → Bool) (is : List p.Plain) → Each IsLow is → Each IsLow (filter test is)
low_some test [] h = tt
low_some test (i ∷ is) h = some_low (test i) i (filter test is) h.0 (low_some test is h.1)

low_read : (is : List Index) → Each IsLow (plains_of is) → Each (λ i. deg (index_of i) ≤ 255) is
low_read [] h = tt
low_read (i ∷ is) h = (h.0, low_read is h.1)

-- the lists that are cut have the degree d at most
pub cuts_are_low : (A : Type') (d : ℕ) (found : List Index) → d ≤ 255 → plains_of found ≡ cut_lists A d → All (λ i. deg (index_of i) ≤ 255) found
cuts_are_low A d found h e =
    let tuples = index_list (ListOf A ∷ []) d in
    let low = each (λ t. degrees t ≤ 255) tuples (each_listed (λ t. degrees t ≤ 255) (ListOf A ∷ []) d (λ t is low. omega (arith, low, h))) in
    all (λ i. deg (index_of i) ≤ 255) found (low_read found (subst (Each IsLow) (sym e) (low_some (λ l. nat_lt 0 (deg l)) (flat_map (λ t. t) tuples) (low_flat tuples low))))

places_same : (hs : List Holder) → places_of hs ≡ map (λ h. h.place) (holders_of hs)
places_same [] = refl
places_same (h ∷ hs) = ap (λ l. h.place ∷ l) (places_same hs)

pub over_holders : (A : Type') (d : ℕ) (hs : List Holder) (first : Holder) (found : List p.Plain) → 1 ≤ length hs → first ≡ slice_index_or hs 0 first
    → found ≡ cut_lists (ty_of first.element.now) d → map (joined A (places_of hs)) found ≡ joined_over A d (holders_of hs)
over_holders A d [] first found h e made = absurd (omega (arith, h))
over_holders A d (x ∷ hs) first found h e made = (λ n. map (joined A (x.place ∷ places_same hs n)) ((made ∙ ap (λ (f : Holder). cut_lists (ty_of f.element.now) d) e) n))
