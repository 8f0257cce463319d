-- Entries go from positions of one list to positions of another.
use Rattle.std.proofs.Common.{◌≡◌, ℕ, suc, ◌+◌, ◌<◌, ◌≤◌, List, [], ◌∷◌, length, position, Option, None, Some, All, refl, arith}
use Rattle.std.proofs.lemmas.List.Elements.{All-nil, All-cons, All-append, All-weaker}
use Rattle.std.proofs.lemmas.List.Quantifiers.{position-Some}
use Rattle.base_poly.specs.Plain.{Plain, alike}
use Rattle.base_poly.specs.Indices.{index_list}
use Rattle.index_shift.specs.Maps.{Carry, entry_to, placed, entries_from}
use Rattle.index_shift.specs.Laws.{IsBetween, EntriesAreBetween}
use Rattle.index_shift.specs.declared.entry.Entry.{Entry}

module _ (us : List (List Plain)) where
  record Below (high : ℕ) (e : Entry) : Type 0 where
    from : e.from < high
    to : e.to < length us

  one : (from high times : ℕ) (t : List Plain) (place : Option ℕ) → position (alike t) us ≡ place → from < high → All (Below high) (entry_to from times place)
  one from high times t None h g = All-nil (Below high)
  one from high times t (Some to) h g =
      All-cons (Below high) _ [] (record { from = g; to = (position-Some (alike t) us to [] h).0 }) (All-nil (Below high))

  of_one : (from high : ℕ) (es : List (List Plain × ℕ)) → from < high → All (Below high) (placed us from es)
  of_one from high [] h = All-nil (Below high)
  of_one from high (e ∷ es) h =
      All-append (Below high) (entry_to from e.1 (position (alike e.0) us)) (placed us from es) (one from high e.1 e.0 (position (alike e.0) us) refl h) (of_one from high es h)

  below : (c : Carry) (from high : ℕ) (ts : List (List Plain)) → from + length ts ≤ high → All (Below high) (entries_from from c ts us)
  below c from high [] h = All-nil (Below high)
  below c from high (t ∷ ts) h =
      All-append (Below high) (placed us from (c t)) (entries_from (suc from) c ts us)
      (of_one from high (c t) (omega (arith, h)))
      (below c (suc from) high ts (omega (arith, h)))

pub entries_are_between : EntriesAreBetween
entries_are_between c As Bs d =
    All-weaker (Below (index_list Bs d) (length (index_list As d))) (IsBetween As Bs d) (λ e i. record { from = i.from; to = i.to }) _ (below (index_list Bs d) c 0 (length (index_list As d)) (index_list As d) (omega arith))
