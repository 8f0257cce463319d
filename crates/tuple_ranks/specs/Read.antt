-- What the code's tables are as plain data.
use Rattle.std.specs.Prelude.{ℕ, List, map}
use Rattle.std.specs.Borrow.{Bor}
use Rattle.std.specs.declared.vec.Vec.{Vec}

abbrev pub items_of : {G : Type 0} → Vec ℕ G → List ℕ
items_of v = v.items

abbrev pub lists_of : List (Bor (List ℕ)) → List (List ℕ)
lists_of ls = map (λ (l : Bor (List ℕ)). l.now) ls
