-- Where list indices stand among the others.
use Rattle.std.proofs.Common.{◌≡◌, ◌⊎◌, ℕ, suc, Option, None, Some, ◌-◌, ◌≤◌, ◌<◌, List, [], ◌∷◌, ◌++◌, map, flat_map, length, get_or, take, drop, arith, append_assoc, Box, Vec, Global, ⊎_elim, refl, sym, ap, ◌∙◌}
use Rattle.std.proofs.Math.Seq.{take-length}
use Rattle.std.proofs.lemmas.List.{map-append}
use Rattle.std.specs.declared.cmp.Ordering.TheVariants.{Less, Greater}
use Rattle.std.specs.Ordering.{nat_cmp}
use Rattle.base_poly.specs.Plain as p
use Rattle.base_poly.specs.Plain.{many, order}
use Rattle.base_poly.specs.Product.{list_only, product}
use Rattle.base_poly.specs.Read.{index_of, index_step, plains_of}
use Rattle.base_poly.specs.declared.index.Index.{Index}
use Rattle.base_poly.specs.declared.index.Index.TheOpen as o
use Rattle.base_poly.specs.declared.index.Index.TheVariants.{Unit as One, Pair, List as Items, Opt, rolls-Unit, rolls-Pair, rolls-List, rolls-Opt}
use Rattle.base_poly.specs.declared.index.Index.TheFolds.{fold-roll-Index}

pub as_unit : (x : Index) → x ≡ One → index_of x ≡ p.Unit'
as_unit x h = ap index_of h ∙ ap index_of (sym rolls-Unit) ∙ fold-roll-Index p.Plain index_step o.Unit

pub as_pair : (x : Index) (a b : Box Index Global) → x ≡ Pair a b → index_of x ≡ p.Pair (index_of a.value) (index_of b.value)
as_pair x a b h = ap index_of h ∙ ap index_of (sym (rolls-Pair a b)) ∙ fold-roll-Index p.Plain index_step (o.Pair a b)

pub as_list : (x : Index) (v : Vec Index Global) → x ≡ Items v → index_of x ≡ many (plains_of v.items)
as_list x v h = ap index_of h ∙ ap index_of (sym (rolls-List v)) ∙ fold-roll-Index p.Plain index_step (o.List v)

pub as_none : (x : Index) → x ≡ Opt None → index_of x ≡ p.NoEntry
as_none x h = ap index_of h ∙ ap index_of (sym (rolls-Opt None)) ∙ fold-roll-Index p.Plain index_step (o.Opt None)

pub as_some : (x : Index) (a : Box Index Global) → x ≡ Opt (Some a) → index_of x ≡ p.OneEntry (index_of a.value)
as_some x a h = ap index_of h ∙ ap index_of (sym (rolls-Opt (Some a))) ∙ fold-roll-Index p.Plain index_step (o.Opt (Some a))

-- an option index whose entry is a copy
pub copied_some : (x : Index) (m : Option (Box Index Global)) (a b : Box Index Global) → x ≡ Opt m → m ≡ Some a → index_of b.value ≡ index_of a.value → index_of (Opt (Some b)) ≡ index_of x
copied_some x m a b h k e = as_some (Opt (Some b)) b refl ∙ ap p.OneEntry e ∙ sym (as_some x a (h ∙ ap Opt k))

-- Indices of different types

abbrev kind : p.Plain → ℕ
kind p.Unit' = 0
kind (p.Pair i j) = 1
kind p.End = 2
kind (p.Then i r) = 2
kind p.NoEntry = 3
kind (p.OneEntry i) = 3

abbrev pub IsUnit : Index → Type 0
IsUnit x = x ≡ One

abbrev pub IsPair : Index → Type 0
IsPair x = (a : Box Index Global) × (b : Box Index Global) × (x ≡ Pair a b)

abbrev pub IsList : Index → Type 0
IsList x = (v : Vec Index Global) × (x ≡ Items v)

abbrev pub IsOption : Index → Type 0
IsOption x = (m : Option (Box Index Global)) × (x ≡ Opt m)

of_unit : (x : Index) → IsUnit x → kind (index_of x) ≡ 0
of_unit x h = ap kind (as_unit x h)

of_pair : (x : Index) → IsPair x → kind (index_of x) ≡ 1
of_pair x h = ap kind (as_pair x h.0 h.1 h.2)

of_list : (x : Index) → IsList x → kind (index_of x) ≡ 2
of_list x h = ap kind (as_list x h.0 h.1) ∙ of_many (plains_of h.0.items)
  where
    of_many : (is : List p.Plain) → kind (many is) ≡ 2
    of_many [] = refl
    of_many (i ∷ is) = refl

of_option : (x : Index) → IsOption x → kind (index_of x) ≡ 3
of_option x h = at h.0 h.1
  where
    at : (m : Option (Box Index Global)) → x ≡ Opt m → kind (index_of x) ≡ 3
    at None e = ap kind (as_none x e)
    at (Some a) e = ap kind (as_some x a e)

-- their order is that of their kinds
apart : (x y : p.Plain) → (kind x ≡ kind y → ⊥) → order x y ≡ nat_cmp (kind x) (kind y)
apart p.Unit' p.Unit' h = refl
apart (p.Pair a b) (p.Pair c d) h = absurd (h refl)
apart p.End p.End h = refl
apart p.End (p.Then j s) h = absurd (h refl)
apart (p.Then i r) p.End h = absurd (h refl)
apart (p.Then i r) (p.Then j s) h = absurd (h refl)
apart p.NoEntry p.NoEntry h = refl
apart p.NoEntry (p.OneEntry j) h = absurd (h refl)
apart (p.OneEntry i) p.NoEntry h = absurd (h refl)
apart (p.OneEntry i) (p.OneEntry j) h = absurd (h refl)
apart x y h = refl

by_kinds : (x y : Index) (m n : ℕ) → kind (index_of x) ≡ m → kind (index_of y) ≡ n → (m ≡ n → ⊥) → nat_cmp m n ≡ order (index_of x) (index_of y)
by_kinds x y m n e f h =
    (λ i. nat_cmp (sym e i) (sym f i)) ∙ sym (apart (index_of x) (index_of y) (λ g. h (sym e ∙ g ∙ f)))

pub unit_first : (x y : Index) → IsUnit x → IsPair y ⊎ (IsList y ⊎ IsOption y) → Less ≡ order (index_of x) (index_of y)
unit_first x y h = ⊎_elim
    (λ e. by_kinds x y 0 1 (of_unit x h) (of_pair y e) (λ n. omega (arith, n)))
    (⊎_elim (λ e. by_kinds x y 0 2 (of_unit x h) (of_list y e) (λ n. omega (arith, n))) (λ e. by_kinds x y 0 3 (of_unit x h) (of_option y e) (λ n. omega (arith, n))))

pub pair_second : (x y : Index) → IsPair x → IsList y ⊎ IsOption y → Less ≡ order (index_of x) (index_of y)
pair_second x y h = ⊎_elim
    (λ e. by_kinds x y 1 2 (of_pair x h) (of_list y e) (λ n. omega (arith, n)))
    (λ e. by_kinds x y 1 3 (of_pair x h) (of_option y e) (λ n. omega (arith, n)))

pub list_third : (x y : Index) → IsList x → IsUnit y ⊎ IsPair y → Greater ≡ order (index_of x) (index_of y)
list_third x y h = ⊎_elim
    (λ e. by_kinds x y 2 0 (of_list x h) (of_unit y e) (λ n. omega (arith, n)))
    (λ e. by_kinds x y 2 1 (of_list x h) (of_pair y e) (λ n. omega (arith, n)))

pub list_before_option : (x y : Index) → IsList x → IsOption y → Less ≡ order (index_of x) (index_of y)
list_before_option x y h e = by_kinds x y 2 3 (of_list x h) (of_option y e) (λ n. omega (arith, n))

pub option_last : (x y : Index) → IsOption x → IsUnit y ⊎ (IsPair y ⊎ IsList y) → Greater ≡ order (index_of x) (index_of y)
option_last x y h = ⊎_elim
    (λ e. by_kinds x y 3 0 (of_option x h) (of_unit y e) (λ n. omega (arith, n)))
    (⊎_elim (λ e. by_kinds x y 3 1 (of_option x h) (of_pair y e) (λ n. omega (arith, n))) (λ e. by_kinds x y 3 2 (of_option x h) (of_list y e) (λ n. omega (arith, n))))

-- and they have no product, but for the unit

no_product : (x y : p.Plain) → (kind x ≡ 0 → ⊥) → (kind x ≡ kind y → ⊥) → product x y ≡ []
no_product p.Unit' y g h = absurd (g refl)
no_product (p.Pair a b) (p.Pair c d) g h = absurd (h refl)
no_product p.End p.End g h = absurd (h refl)
no_product p.End (p.Then j s) g h = absurd (h refl)
no_product (p.Then i r) p.End g h = absurd (h refl)
no_product (p.Then i r) (p.Then j s) g h = absurd (h refl)
no_product p.NoEntry p.NoEntry g h = absurd (h refl)
no_product p.NoEntry (p.OneEntry j) g h = absurd (h refl)
no_product (p.OneEntry i) p.NoEntry g h = absurd (h refl)
no_product (p.OneEntry i) (p.OneEntry j) g h = absurd (h refl)
no_product x y g h = refl

none_by_kinds : (x y : Index) (m n : ℕ) → kind (index_of x) ≡ m → kind (index_of y) ≡ n → (m ≡ 0 → ⊥) → (m ≡ n → ⊥) → [] ≡ product (index_of x) (index_of y)
none_by_kinds x y m n e f g h = sym (no_product (index_of x) (index_of y) (λ z. g (sym e ∙ z)) (λ z. h (sym e ∙ z ∙ f)))

pub pair_alone : (x y : Index) → IsPair x → IsUnit y ⊎ (IsList y ⊎ IsOption y) → [] ≡ product (index_of x) (index_of y)
pair_alone x y h = ⊎_elim
    (λ e. none_by_kinds x y 1 0 (of_pair x h) (of_unit y e) (λ n. omega (arith, n)) (λ n. omega (arith, n)))
    (⊎_elim
    (λ e. none_by_kinds x y 1 2 (of_pair x h) (of_list y e) (λ n. omega (arith, n)) (λ n. omega (arith, n)))
    (λ e. none_by_kinds x y 1 3 (of_pair x h) (of_option y e) (λ n. omega (arith, n)) (λ n. omega (arith, n))))

pub list_alone : (x y : Index) → IsList x → IsUnit y ⊎ (IsPair y ⊎ IsOption y) → [] ≡ product (index_of x) (index_of y)
list_alone x y h = ⊎_elim
    (λ e. none_by_kinds x y 2 0 (of_list x h) (of_unit y e) (λ n. omega (arith, n)) (λ n. omega (arith, n)))
    (⊎_elim
    (λ e. none_by_kinds x y 2 1 (of_list x h) (of_pair y e) (λ n. omega (arith, n)) (λ n. omega (arith, n)))
    (λ e. none_by_kinds x y 2 3 (of_list x h) (of_option y e) (λ n. omega (arith, n)) (λ n. omega (arith, n))))

pub option_alone : (x y : Index) → IsOption x → IsUnit y ⊎ (IsPair y ⊎ IsList y) → [] ≡ product (index_of x) (index_of y)
option_alone x y h = ⊎_elim
    (λ e. none_by_kinds x y 3 0 (of_option x h) (of_unit y e) (λ n. omega (arith, n)) (λ n. omega (arith, n)))
    (⊎_elim
    (λ e. none_by_kinds x y 3 1 (of_option x h) (of_pair y e) (λ n. omega (arith, n)) (λ n. omega (arith, n)))
    (λ e. none_by_kinds x y 3 2 (of_option x h) (of_list y e) (λ n. omega (arith, n)) (λ n. omega (arith, n))))

alone : (is : List p.Plain) → list_only (many is) ≡ many is ∷ []
alone [] = refl
alone (i ∷ is) = refl

-- Tuples gathered as list indices

map_many : (i : p.Plain) (ts : List (List p.Plain)) → map many (map (λ r. i ∷ r) ts) ≡ map (λ k. p.Then i k) (map many ts)
map_many i [] = refl
map_many i (t ∷ ts) = ap (λ l. p.Then i (many t) ∷ l) (map_many i ts)

each_many : (is : List p.Plain) (ts : List (List p.Plain)) → map many (flat_map (λ h. map (λ r. h ∷ r) ts) is) ≡ flat_map (λ h. map (λ k. p.Then h k) (map many ts)) is
each_many [] ts = refl
each_many (i ∷ is) ts = map-append many (map (λ r. i ∷ r) ts) (flat_map (λ h. map (λ r. h ∷ r) ts) is) ∙ (λ n. map_many i ts n ++ each_many is ts n)

pub gathered : (i j : p.Plain) (none first second third mine theirs tails : List (List p.Plain)) (heads : List p.Plain) →
    none ≡ [] → first ≡ none ++ map (λ r. i ∷ r) mine → second ≡ first ++ map (λ r. j ∷ r) theirs → third ≡ second ++ flat_map (λ h. map (λ r. h ∷ r) tails) heads →
    map many third ≡ map (λ k. p.Then i k) (map many mine) ++ (map (λ k. p.Then j k) (map many theirs) ++ flat_map (λ h. map (λ k. p.Then h k) (map many tails)) heads)
gathered i j none first second third mine theirs tails heads a b c d =
    let all = d ∙ ap (λ l. l ++ flat_map (λ h. map (λ r. h ∷ r) tails) heads) (c ∙ ap (λ l. l ++ map (λ r. j ∷ r) theirs) (b ∙ ap (λ l. l ++ map (λ r. i ∷ r) mine) a))
    ∙ append_assoc (map (λ r. i ∷ r) mine) (map (λ r. j ∷ r) theirs) (flat_map (λ h. map (λ r. h ∷ r) tails) heads) in
    ap (map many) all
    ∙ map-append many (map (λ r. i ∷ r) mine) (map (λ r. j ∷ r) theirs ++ flat_map (λ h. map (λ r. h ∷ r) tails) heads)
    ∙ ap (λ l. map many (map (λ r. i ∷ r) mine) ++ l) (map-append many (map (λ r. j ∷ r) theirs) (flat_map (λ h. map (λ r. h ∷ r) tails) heads))
    ∙ (λ n. map_many i mine n ++ (map_many j theirs n ++ each_many heads tails n))

-- a slice of at least one is its first and its rest
pub slice_parts : (xs : List Index) (x : Index) → 1 ≤ length xs → x ≡ get_or xs 0 x → x ∷ take (length xs - 1) (drop 1 xs) ≡ xs
slice_parts [] x h e = absurd (omega (arith, h))
slice_parts (y ∷ xs) x h e = λ i. e i ∷ whole xs i
  where
    whole : (xs : List Index) → take (suc (length xs) - 1) xs ≡ xs
    whole xs = ap (λ n. take n xs) less ∙ take-length xs
      where
        less : suc (length xs) - 1 ≡ length xs
        less = omega arith

pub none_left : (left right : List Index) → length left < 1 → product (many (plains_of left)) (many (plains_of right)) ≡ many (plains_of right) ∷ []
none_left [] right h = alone (plains_of right)
none_left (x ∷ left) right h = absurd (omega (arith, h))
