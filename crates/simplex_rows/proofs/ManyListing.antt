-- Lists that are made of the numbers in their places.
use Rattle.std.proofs.Common.{◌≡◌, ◌≢◌, refl, sym, ap, subst, ◌∙◌, ℕ, suc, ◌+◌, ◌<◌, ◌≤◌, inl, inr, ℤ, pos, arith, List, [], ◌∷◌, ◌++◌, map, length, drop, Some, None, FitsSigned, of_z, to_z}
use Rattle.std.proofs.lemmas.List.{append-nil, append_assoc, drop_more, drop_all, get_or_past, map-append}
use Rattle.std.proofs.lemmas.Int.{to_z-of_z}
use Rattle.std.specs.Int.{w64}
use Rattle.simplex_rows.specs.ShortRows.{Wholes, put_whole, listed_from, IsNextWhole}
use Rattle.simplex_rows.specs.Placed.{placed}
use Rattle.simplex_rows.proofs.Wholes.{before_or_from, earlier_or_here}
use Rattle.simplex_rows.proofs.ManyPlaces.{by_zero, at_listed}

-- what was made of the first k numbers is a front of the list of all
pub record Listing (k : ℕ) (ns : List ℤ) (made : Wholes) : Type 0 where
  pub all : made ++ listed_from k (drop k ns) ≡ listed_from 0 ns

pub listing_none : (ns : List ℤ) → Listing 0 ns []
listing_none ns = record { all = refl }

put_next : (made rest : Wholes) (k : ℕ) (n : ℤ) → n ≢ pos 0 → made ++ put_whole k n rest ≡ (made ++ (k, n) ∷ []) ++ rest
put_next made rest k n h = by_zero n (λ z t. absurd (h z)) (λ f t. rw t (sym (append_assoc made ((k, n) ∷ []) rest)))

put_none : (rest : Wholes) (k : ℕ) (n : ℤ) → n ≡ pos 0 → put_whole k n rest ≡ rest
put_none rest k n h = by_zero n (λ z t. rw t refl) (λ f t. absurd (f h))

-- the list from place k on
from_place : (k : ℕ) (ns : List ℤ) → k < length ns → listed_from k (drop k ns) ≡ put_whole k (placed ns k) (listed_from (k + 1) (drop (k + 1) ns))
from_place k ns h =
    let e : suc k ≡ k + 1 = omega arith in
    ap (listed_from k) (drop_more ns k (pos 0) h) ∙ ap (λ (j : ℕ). put_whole k (placed ns k) (listed_from j (drop (k + 1) ns))) e

pub listing_more : (k : ℕ) (ns : List ℤ) (made : Wholes) → k < length ns → placed ns k ≢ pos 0 → Listing k ns made → Listing (k + 1) ns (made ++ (k, placed ns k) ∷ [])
listing_more k ns made h n l = record {
  all = sym (put_next made (listed_from (k + 1) (drop (k + 1) ns)) k (placed ns k) n) ∙ ap (λ (es : Wholes). made ++ es) (sym (from_place k ns h)) ∙ l.all;
}

pub listing_same : (k : ℕ) (ns : List ℤ) (made : Wholes) → k < length ns → placed ns k ≡ pos 0 → Listing k ns made → Listing (k + 1) ns made
listing_same k ns made h z l = record {
  all = ap (λ (es : Wholes). made ++ es) (sym (put_none (listed_from (k + 1) (drop (k + 1) ns)) k (placed ns k) z) ∙ sym (from_place k ns h)) ∙ l.all;
}

pub all_listed : (k : ℕ) (ns : List ℤ) (made : Wholes) → length ns ≤ k → Listing k ns made → made ≡ listed_from 0 ns
all_listed k ns made h l = sym (append-nil made) ∙ ap (λ (es : List ℤ). made ++ listed_from k es) (sym (drop_all k ns h)) ∙ l.all

-- the columns alone
abbrev pub columns : Wholes → List ℕ
columns es = map (λ e. e.0) es

pub record ListingColumns (k : ℕ) (ns : List ℤ) (made : List ℕ) : Type 0 where
  pub entries : Wholes
  pub listing : Listing k ns entries
  pub columns_are : made ≡ columns entries

pub columns_none : (ns : List ℤ) → ListingColumns 0 ns []
columns_none ns = record { entries = []; listing = listing_none ns; columns_are = refl }

pub columns_more : (k : ℕ) (ns : List ℤ) (made : List ℕ) → k < length ns → placed ns k ≢ pos 0 → ListingColumns k ns made → ListingColumns (k + 1) ns (made ++ k ∷ [])
columns_more k ns made h n l = record {
  entries = l.entries ++ (k, placed ns k) ∷ [];
  listing = listing_more k ns l.entries h n l.listing;
  columns_are = ap (λ (cs : List ℕ). cs ++ k ∷ []) l.columns_are ∙ sym (map-append (λ e. e.0) l.entries ((k, placed ns k) ∷ []));
}

pub columns_same : (k : ℕ) (ns : List ℤ) (made : List ℕ) → k < length ns → placed ns k ≡ pos 0 → ListingColumns k ns made → ListingColumns (k + 1) ns made
columns_same k ns made h z l = record { entries = l.entries; listing = listing_same k ns l.entries h z l.listing; columns_are = l.columns_are }

pub all_columns : (k : ℕ) (ns : List ℤ) (made : List ℕ) → length ns ≤ k → ListingColumns k ns made → made ≡ columns (listed_from 0 ns)
all_columns k ns made h l = l.columns_are ∙ ap columns (all_listed k ns l.entries h l.listing)

-- a search from a place on
pub record NoneYet (from k : ℕ) (ns : List ℤ) : Type 0 where
  pub low : from ≤ k
  pub none : (c : ℕ) → from ≤ c → c < k → placed ns c ≡ pos 0

pub none_yet : (from : ℕ) (ns : List ℤ) → NoneYet from from ns
none_yet from ns = record { low = omega arith; none = λ c l h. absurd (omega arith) }

pub none_more : (from k : ℕ) (ns : List ℤ) → NoneYet from k ns → placed ns k ≡ pos 0 → NoneYet from (k + 1) ns
none_more from k ns h z = record {
  low = let l = h.low in omega arith;
  none = λ c l m. elim (earlier_or_here c k m) [ inl e ↦ h.none c l e | inr same ↦ subst (λ (j : ℕ). placed ns j ≡ pos 0) (sym same) z ];
}

pub found_next : (from k : ℕ) (ns : List ℤ) → NoneYet from k ns → placed ns k ≢ pos 0 → IsNextWhole from (listed_from 0 ns) (Some k)
found_next from k ns h n = (h.low, rw (at_listed k ns) n, λ c l m. at_listed c ns ∙ h.none c l m)

pub none_next : (from k : ℕ) (ns : List ℤ) → NoneYet from k ns → length ns ≤ k → IsNextWhole from (listed_from 0 ns) None
none_next from k ns h p c l = elim (before_or_from c k) [ inl m ↦ at_listed c ns ∙ h.none c l m | inr g ↦ at_listed c ns ∙ get_or_past ns c (pos 0) (omega arith) ]

-- what the code's test of a number tells
pub zero_bits : (n : ℤ) → FitsSigned w64 n → of_z w64 n ≡ 0 → n ≡ pos 0
zero_bits n f e = sym (to_z-of_z w64 n f) ∙ ap (to_z w64) e

pub not_zero_bits : (n : ℤ) → (of_z w64 n ≡ 0 → ⊥) → n ≢ pos 0
not_zero_bits n h e = h (rw e refl)
