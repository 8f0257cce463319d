-- Rows of numbers, one after the other.
use Rattle.std.proofs.Common.{◌≡◌, ◌≤◌, ◌<◌, ℕ, zero, suc, ◌+◌, ◌-◌, Bool, true, false, cond, min, List, [], ◌∷◌, ◌++◌, map, take, drop, length, slice_get, refl, sym, ap, ◌∙◌, arith, append_assoc, append-nil}
use Rattle.std.proofs.lemmas.List.{length-map, map-append}
use Rattle.raml_syntax.specs.Tree.{Type'}
use Rattle.base_poly.specs.Indices.{indices_up_to, tuples_up_to, index_list}
use Rattle.base_poly.proofs.Graded.{as_many}
use Rattle.base_poly.proofs.Sized.{as_long_as_rests}
use Rattle.tuple_ranks.specs.Columns.{Table, sizes, sizes_in, columns, table, table_by, lower_count, up_to}
use Rattle.tuple_ranks.specs.Numbers.{numbers, all_numbered, flat, cut, table_rows, all_rows}
use Rattle.tuple_ranks.specs.Slots.{chosen, half_items}
use Rattle.tuple_ranks.specs.Spots.{IsLarge, all_counts}
use Rattle.std.specs.List.{range_with_len}
use Rattle.index_shift.specs.Contexts.{marked_items, other_items}
use Rattle.index_shift.specs.Tables.{listed}
use Rattle.index_shift.proofs.Shorter.{more_rests}
use Rattle.index_shift.proofs.Steps.{listed_at}
use Rattle.tuple_ranks.proofs.Picked.{marked_half, other_half}
use Rattle.tuple_ranks.proofs.Ranked.{up_to_is}
use Rattle.tuple_ranks.proofs.Numbered.{rows_are}

cut_more : (n k width : ℕ) (ns : List ℕ) → k < n → cut (n - k) width ns ≡ take width ns ∷ cut (n - (k + 1)) width (drop width ns)
cut_more n k width ns h = ap (λ m. cut m width ns) more
  where
    more : n - k ≡ suc (n - (k + 1))
    more = omega (arith, h)

pub rows_step : {Y : Type 0} (f : List ℕ → Y) (n k width : ℕ) (rest row behind : List ℕ) (old new whole : List Y) → k < n → row ≡ take width rest → behind ≡ drop width rest → new ≡ old ++ f row ∷ [] →
    old ++ map f (cut (n - k) width rest) ≡ whole → new ++ map f (cut (n - (k + 1)) width behind) ≡ whole
rows_step f n k width rest row behind old new whole h is is' made done =
    (λ i. made i ++ map f (cut (n - (k + 1)) width (is' i)))
    ∙ append_assoc old (f row ∷ []) (map f (cut (n - (k + 1)) width (drop width rest)))
    ∙ ap (λ l. old ++ f l ∷ map f (cut (n - (k + 1)) width (drop width rest))) is
    ∙ ap (λ l. old ++ map f l) (sym (cut_more n k width rest h)) ∙ done

pub rows_end : {Y : Type 0} (f : List ℕ → Y) (n k width : ℕ) (rest : List ℕ) (found whole : List Y) → n ≤ k → found ++ map f (cut (n - k) width rest) ≡ whole → found ≡ whole
rows_end f n k width rest found whole h done = sym (append-nil found) ∙ ap (λ m. found ++ map f (cut m width rest)) none ∙ done
  where
    none : 0 ≡ n - k
    none = omega (arith, h)

-- so many, or all
pub cut_min : (m a b width : ℕ) (ns : List ℕ) → m ≡ min a b → cut m width ns ≡ take a (cut b width ns)
cut_min zero zero zero width ns h = refl
cut_min zero zero (suc b) width ns h = refl
cut_min zero (suc a) zero width ns h = refl
cut_min zero (suc a) (suc b) width ns h = absurd (omega (arith, h))
cut_min (suc m) zero b width ns h = absurd (omega (arith, h))
cut_min (suc m) (suc a) zero width ns h = absurd (omega (arith, h))
cut_min (suc m) (suc a) (suc b) width ns h = ap (λ l. take width ns ∷ l) (cut_min m a b width (drop width ns) (omega (arith, h)))

-- the rows of a context
sizes_back : (d : ℕ) (pss : List (List ℕ)) → sizes_in (columns d pss) ≡ pss
sizes_back d [] = refl
sizes_back d (ps ∷ pss) = ap (λ l. ps ∷ l) (sizes_back d pss)

none_more : (k : ℕ) → 0 + k ≡ k
none_more k = omega arith

as_wide : (d : ℕ) (pss : List (List ℕ)) → length (columns d pss) ≡ length pss
as_wide d [] = refl
as_wide d (ps ∷ pss) = ap suc (as_wide d pss)

-- those of a table are those of its types
pub rows_of : (t : Table) (pss : List (List ℕ)) (d : ℕ) → t ≡ table_by pss d → table_rows t ≡ all_rows pss d
rows_of t pss d is =
    ap table_rows is
    ∙ (λ i. cut ((listed_at (lower_count pss) 0 (2 + d) (1 + d) 0 (omega arith) ∙ ap (lower_count pss) (none_more (1 + d))) i) (as_wide d pss i) (flat (all_numbered (sizes_back d pss i) (1 + d) 0)))

pub rows_listed : (As : List Type') (d : ℕ) (pss : List (List ℕ)) → pss ≡ sizes As d → all_rows pss d ≡ map (numbers As d) (index_list As d)
rows_listed As d pss e =
    ap (λ l. all_rows l d) e
    ∙ ap (λ w. cut (lower_count (sizes As d) (1 + d)) w (flat (all_numbered (sizes As d) (1 + d) 0))) (length-map As _)
    ∙ rows_are As d

-- Halves

half_mapped : {X Y : Type 0} (f : X → Y) (w : Bool) (marks : List Bool) (k : ℕ) (xs : List X) → map f (half_items w marks k xs) ≡ half_items w marks k (map f xs)
half_mapped f w marks k [] = refl
half_mapped f w marks k (x ∷ xs) = by (chosen w (slice_get marks k)) (half_mapped f w marks (suc k) xs)
  where
    by : (b : Bool) → map f (half_items w marks (suc k) xs) ≡ half_items w marks (suc k) (map f xs) →
        map f (cond b (x ∷ half_items w marks (suc k) xs) (half_items w marks (suc k) xs)) ≡ cond b (f x ∷ half_items w marks (suc k) (map f xs)) (half_items w marks (suc k) (map f xs))
    by true h = ap (λ l. f x ∷ l) h
    by false h = h

pub half_sized : (w : Bool) (marks : List Bool) (As : List Type') (d : ℕ) (pss : List (List ℕ)) → pss ≡ sizes As d → sizes (half_items w marks 0 As) d ≡ half_items w marks 0 pss
half_sized w marks As d pss e = half_mapped _ w marks 0 As ∙ ap (half_items w marks 0) (sym e)

pub both_sized : (As Bs : List Type') (d : ℕ) (pss qss : List (List ℕ)) → pss ≡ sizes As d → qss ≡ sizes Bs d → sizes (As ++ Bs) d ≡ pss ++ qss
both_sized As Bs d pss qss e f = map-append _ As Bs ∙ (λ i. sym e i ++ sym f i)

-- of some variables before a last one
pub rest_sized : (t : Table) (pss : List (List ℕ)) (ps : List ℕ) (d : ℕ) → t ≡ table_by pss d → sizes_in t.columns ++ ps ∷ [] ≡ pss ++ ps ∷ []
rest_sized t pss ps d is = ap (λ (t : Table). sizes_in t.columns ++ ps ∷ []) is ∙ ap (λ l. l ++ ps ∷ []) (sizes_back d pss)

no_drop : (ms : List Bool) → drop 0 ms ≡ ms
no_drop [] = refl
no_drop (m ∷ ms) = refl

pub others_are : (marks : List Bool) (As : List Type') → half_items false marks 0 As ≡ other_items marks As
others_are marks As = other_half marks 0 As ∙ ap (λ ms. other_items ms As) (no_drop marks)

pub marked_are : (marks : List Bool) (As : List Type') → half_items true marks 0 As ≡ marked_items marks As
marked_are marks As = marked_half marks 0 As ∙ ap (λ ms. marked_items ms As) (no_drop marks)

-- how many tuples there are up to each degree
listed_mapped : (f g : ℕ → ℕ) (from n : ℕ) → ((k : ℕ) → k < from + n → f k ≡ g k) → listed f from n ≡ map g (range_with_len from n)
listed_mapped f g from zero h = refl
listed_mapped f g from (suc n) h =
    λ i. h from (omega arith) i ∷ (listed_mapped f g (1 + from) n (λ k l. h k (omega (arith, l))) ∙ ap (λ a. map g (range_with_len a n)) next) i
  where
    next : 1 + from ≡ from + 1
    next = omega arith

pub counts_are : (t : Table) (pss : List (List ℕ)) (As : List Type') (d : ℕ) → t ≡ table_by pss d → sizes As d ≡ pss → listed (up_to t) 0 (1 + t.degree) ≡ all_counts As d
counts_are t pss As d is e =
    ap (λ (t : Table). listed (up_to t) 0 (1 + t.degree)) (is ∙ ap (λ l. table_by l d) (sym e))
    ∙ listed_mapped (up_to (table As d)) (λ g. length (index_list As g)) 0 (1 + d) (λ k l. up_to_is As d k (omega (arith, l)))
    ∙ ap (λ n. map (λ g. length (index_list As g)) (range_with_len 0 n)) one
  where
    one : 1 + d ≡ suc d
    one = omega arith

-- Some variables of a context have no more tuples than all

half_few : (w : Bool) (marks : List Bool) (k : ℕ) (As : List Type') (d : ℕ) → length (tuples_up_to (half_items w marks k As) d) ≤ length (tuples_up_to As d)
half_few w marks k [] d = omega arith
half_few w marks k (A ∷ As) d = by (chosen w (slice_get marks k)) (λ d. half_few w marks (suc k) As d)
  where
    by : (b : Bool) → ((d : ℕ) → length (tuples_up_to (half_items w marks (suc k) As) d) ≤ length (tuples_up_to As d)) →
        length (tuples_up_to (cond b (A ∷ half_items w marks (suc k) As) (half_items w marks (suc k) As)) d) ≤ length (tuples_up_to (A ∷ As) d)
    by true more = more_rests (tuples_up_to (half_items w marks (suc k) As)) (tuples_up_to As) d (indices_up_to A d) more
    by false more = let a = more d in let b = as_long_as_rests (tuples_up_to As) ◌∷◌ d A in omega (arith, a, b)

pub half_large : (w : Bool) (marks : List Bool) (As : List Type') (d : ℕ) → IsLarge (half_items w marks 0 As) d → IsLarge As d
half_large w marks As d h =
    let a = as_many (half_items w marks 0 As) d in
    let b = as_many As d in
    let c = half_few w marks 0 As d in omega (arith, a, b, c, h)
