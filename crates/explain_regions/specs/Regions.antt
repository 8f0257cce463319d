-- The regions of a function: what is run together. A region is a body, or a branch of an `if` or of a `match`, without the branches in it.
use Rattle.std.specs.Prelude.{ℕ, List, [], ◌∷◌, ◌++◌}
use Rattle.raml_syntax.specs.Tree as t
use Rattle.simple_types.specs.Walk.{place}

-- A form, by the byte where it begins, with the byte where its region begins. It costs so many ticks and cells beside its parts, and one
-- unit of work.
pub record Site : Type 0 where
  pub at : ℕ
  pub region : ℕ
  pub ticks : ℕ
  pub cells : ℕ

abbrev pub site : ℕ → ℕ → ℕ → ℕ → Site
site at region ticks cells = record { at = at; region = region; ticks = ticks; cells = cells }

abbrev mutual
  -- the forms of an expression of a region, in the order of the source; an annotation costs nothing
  pub sites : ℕ → t.Term → List Site
  sites r (t.Number p n) = site p r 0 0 ∷ []
  sites r (t.Truth p b) = site p r 0 0 ∷ []
  sites r (t.Nil p) = site p r 0 0 ∷ []
  sites r (t.Leaf p) = site p r 0 0 ∷ []
  sites r (t.Nothing p) = site p r 0 0 ∷ []
  sites r (t.Var p x) = site p r 0 0 ∷ []
  sites r (t.Arith p op a b) = site p r 0 0 ∷ (sites r a ++ sites r b)
  sites r (t.Compare p op a b) = site p r 0 0 ∷ (sites r a ++ sites r b)
  sites r (t.Not p a) = site p r 0 0 ∷ sites r a
  sites r (t.Pair p a b) = site p r 0 1 ∷ (sites r a ++ sites r b)
  sites r (t.Cons p a b) = site p r 0 1 ∷ (sites r a ++ sites r b)
  sites r (t.Node p a b c) = site p r 0 1 ∷ (sites r a ++ (sites r b ++ sites r c))
  sites r (t.Just p a) = site p r 0 1 ∷ sites r a
  sites r (t.Call p f args) = site p r 0 0 ∷ all_sites r args
  sites r (t.Let p x a b) = site p r 0 0 ∷ (sites r a ++ sites r b)
  sites r (t.LetPair p x y a b) = site p r 0 0 ∷ (sites r a ++ sites r b)
  sites r (t.If p c a b) = site p r 0 0 ∷ (sites r c ++ (sites (place a) a ++ sites (place b) b))
  sites r (t.MatchList p c a x y b) = site p r 0 0 ∷ (sites r c ++ (sites (place a) a ++ sites (place b) b))
  sites r (t.MatchTree p c a x y z b) = site p r 0 0 ∷ (sites r c ++ (sites (place a) a ++ sites (place b) b))
  sites r (t.MatchOption p c a x b) = site p r 0 0 ∷ (sites r c ++ (sites (place a) a ++ sites (place b) b))
  sites r (t.Tick p k a) = site p r k 0 ∷ sites r a
  sites r (t.Typed p a A) = sites r a

  pub all_sites : ℕ → t.Terms → List Site
  all_sites r t.None = []
  all_sites r (t.More a rest) = sites r a ++ all_sites r rest

-- those of a body
abbrev pub body_sites : t.Term → List Site
body_sites body = sites (place body) body
