-- The targets of nine lists: the ninth is not joined. At degree 1 there are ten tuples, and of the first eight lists each two,
-- three and four are joined: 28, 56 and 70 times.
use Rattle.std.specs.Prelude.{◌≡◌, nat_lt, Bool, true, List, length}
use Rattle.std.specs.List.{list_all}
use Rattle.raml_syntax.specs.Tree.{Type', Integer, ListOf, PairOf}
use Rattle.cost_free.specs.Target.{Holder, joined_sets, targets}

abbrev pub before : Type' → Type'
before A = PairOf (ListOf Integer) A

abbrev pub nine : Type'
nine = before (before (before (before (before (before (before (before (ListOf Integer))))))))

-- all stand among the first eight
abbrev pub are_of_eight : List Holder → Bool
are_of_eight hs = list_all (λ (h : Holder). nat_lt h.place 8) hs

pub record NineExamples : Type 0 where
  pub sets : length (joined_sets nine) ≡ 154
  pub eight : list_all are_of_eight (joined_sets nine) ≡ true
  pub targets : length (targets nine 1) ≡ 164
