-- The last share, and the last drop, is made first.
use Rattle.std.proofs.Common.{◌≡◌, ℕ, List, [], ◌∷◌, ◌++◌, refl, ap}
use Rattle.normal_spec.specs.Norm as n
use Rattle.normal_spec.specs.Two.{Shared, Slots, share_all, drop_all}

pub share_all_push : (ss : List Shared) (s : Shared) (e : n.Norm) → share_all (ss ++ s ∷ []) e ≡ share_all ss (n.Share 0 s.variable s.first s.second e)
share_all_push [] s e = refl
share_all_push (u ∷ ss) s e = ap (n.Share 0 u.variable u.first u.second) (share_all_push ss s e)

pub drop_all_push : (G : Slots) (s : ℕ × ℕ) (e : n.Norm) → drop_all (G ++ s ∷ []) e ≡ drop_all G (n.Drop 0 s.1 e)
drop_all_push [] s e = refl
drop_all_push (u ∷ G) s e = ap (n.Drop 0 u.1) (drop_all_push G s e)
