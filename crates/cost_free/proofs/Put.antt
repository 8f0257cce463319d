-- The order of joined targets, and insertion into a list in order.
use Rattle.std.proofs.Common.{◌≡◌, List, [], ◌∷◌, ◌++◌, length, arith, refl, ap}
use Rattle.cost_free.specs.declared.joined.Joined as j
use Rattle.cost_free.specs.Joining.{all_joined}
use Rattle.cost_free.specs.Target.{Joined, put, in_order}

abbrev pub put_all : List Joined → List Joined → List Joined
put_all [] ordered = ordered
put_all (x ∷ xs) ordered = put x (put_all xs ordered)

pub put_none : (xs : List Joined) → put_all xs [] ≡ in_order xs
put_none [] = refl
put_none (x ∷ xs) = ap (put x) (put_none xs)

pub put_last : (xs : List Joined) (x : Joined) (ordered : List Joined) → put_all (xs ++ x ∷ []) ordered ≡ put_all xs (put x ordered)
put_last [] x ordered = refl
put_last (y ∷ xs) x ordered = ap (put y) (put_last xs x ordered)

pub put_done : (rest : List j.Joined) (ordered all : List Joined) → length rest ≡ 0 → put_all (all_joined rest) ordered ≡ all → ordered ≡ all
put_done [] ordered all h e = e
put_done (x ∷ rest) ordered all h e = absurd (omega (arith, h))
