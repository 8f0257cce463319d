-- Evaluation that counts rounds: each call of a function of the group costs one tick as it enters, and nothing else costs ticks.
use Rattle.std.specs.Prelude.{ℕ, zero, suc, List, [], Bool, true, false, Option, Some, None}
use Rattle.raml_syntax.specs.Tree.{Function, Prog}
use Rattle.raml_syntax.specs.Value.{Value}
use Rattle.raml_syntax.specs.Eval.{Run, Calls, cut, costs, node, walk, find, names_of, bind_all, enter}
use Rattle.raml_syntax.specs.Place.{place_of}
use Rattle.explain_rounds.specs.Calls.{is_in}
use Rattle.explain_count.specs.Count.{without_ticks}

-- the function at a place is of the group; where there is none, it is not
abbrev pub is_counted : List ℕ → Option ℕ → Bool
is_counted group None = false
is_counted group (Some k) = is_in k group

-- one tick
abbrev pub round : Bool → Run Value → Run Value
round true r = node (costs 1 0 0 r)
round false r = r

module _ (P : Prog) (group : List ℕ) where
  -- a call is cut at limit 0; at a greater limit it is a round where its function is of the group, and the body runs at one less
  abbrev pub rounds_at : ℕ → Calls
  rounds_at zero f vs = cut
  rounds_at (suc n) f vs =
      round (is_counted group (place_of f P)) (enter (λ e. walk (rounds_at n) (without_ticks e)) (find f P) vs)

  -- the run of a function, which is a round where it is of the group
  abbrev pub rounds_of : Bool → Function → List Value → ℕ → Run Value
  rounds_of counted g vs n = node (round counted (walk (rounds_at n) (without_ticks g.body) (bind_all [] (names_of g) vs)))
