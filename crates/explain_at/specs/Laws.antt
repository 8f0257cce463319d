-- Laws of the sizes that are asked for.
use Rattle.std.specs.Prelude.{◌≡◌, ℕ, ◌+◌, List, length, Some, None, Ok}
use Rattle.raml_syntax.specs.Tree.{Text, Type'}
use Rattle.base_poly.specs.Base.{total}
use Rattle.explain_sizes.specs.Open.{OpenSizes, NoSize, Parts, Content, Elements, all_filled}
use Rattle.explain_at.specs.Words.{Given}
use Rattle.explain_at.specs.Asked.{all_names, all_sizes, missing, asked, asked_open}

-- how many of the sizes are open
abbrev pub open_count : OpenSizes → ℕ
open_count NoSize = 0
open_count (Parts o p) = open_count o + open_count p
open_count (Content o) = open_count o
open_count (Elements None o) = 1 + open_count o
open_count (Elements (Some n) o) = open_count o

-- As many sizes are open as names of sizes are not given.
abbrev pub OpenAreMissing : Type 0
OpenAreMissing = (gs : List Given) (ps : List (Text × Type')) → total open_count (all_sizes gs ps) ≡ length (missing gs (all_names ps))

-- So none is open, or exactly one is, and sizes of which none is open are the same with each number.
pub record OpenAsAsked : Type 0 where
  pub missing : OpenAreMissing
  pub none : (gs : List Given) (ps : List (Text × Type')) (os : List OpenSizes) → asked gs ps ≡ Ok os → total open_count os ≡ 0
  pub one : (gs : List Given) (ps : List (Text × Type')) (os : List OpenSizes) → asked_open gs ps ≡ Ok os → total open_count os ≡ 1
  pub same : (os : List OpenSizes) (m n : ℕ) → total open_count os ≡ 0 → all_filled m os ≡ all_filled n os
