-- The sizes of parameters by their names.
use Rattle.std.specs.Prelude.{not, cond, List, [], ◌∷◌, ◌++◌, map, flat_map, filter, Option, Some, None, is_some, Result, Ok, Err, codes}
use Rattle.std.specs.List.{list_any}
use Rattle.std.specs.Str.{bytes_eq}
use Rattle.raml_syntax.specs.Tree.{Text, Type', Integer, Boolean, PairOf, ListOf, TreeOf, OptionOf}
use Rattle.explain_sizes.specs.Open.{OpenSizes, NoSize, Parts, Content, Elements}
use Rattle.explain_at.specs.Words.{Given, given_for}

-- The names of the sizes that a value of the type has by its own name. A list or a tree has its name's, and its elements are named with
-- `.each` behind it. The parts of a pair are named with `.first` and `.second`, and what an option holds with `.some`.
abbrev pub names_of : Text → Type' → List Text
names_of x Integer = []
names_of x Boolean = []
names_of x (PairOf A B) = names_of (x ++ codes ".first") A ++ names_of (x ++ codes ".second") B
names_of x (ListOf A) = x ∷ names_of (x ++ codes ".each") A
names_of x (TreeOf A) = x ∷ names_of (x ++ codes ".each") A
names_of x (OptionOf A) = names_of (x ++ codes ".some") A

-- its sizes: each is the number that is given for its name, and open where none is
abbrev pub sizes_of : List Given → Text → Type' → OpenSizes
sizes_of gs x Integer = NoSize
sizes_of gs x Boolean = NoSize
sizes_of gs x (PairOf A B) = Parts (sizes_of gs (x ++ codes ".first") A) (sizes_of gs (x ++ codes ".second") B)
sizes_of gs x (ListOf A) = Elements (given_for x gs) (sizes_of gs (x ++ codes ".each") A)
sizes_of gs x (TreeOf A) = Elements (given_for x gs) (sizes_of gs (x ++ codes ".each") A)
sizes_of gs x (OptionOf A) = Content (sizes_of gs (x ++ codes ".some") A)

-- those of all parameters, by their names and types
abbrev pub all_names : List (Text × Type') → List Text
all_names ps = flat_map (λ p. names_of p.0 p.1) ps

abbrev pub all_sizes : List Given → List (Text × Type') → List OpenSizes
all_sizes gs ps = map (λ p. sizes_of gs p.0 p.1) ps

-- A name that is given is no size's; or a size's is not given; or none is open, or two are, where one is to be.
pub data Fault : Type 0 where
  Unknown : Text → Fault
  NotGiven : Text → Fault
  NoneOpen : Fault
  TwoOpen : Text → Text → Fault

-- the first name that is given and is none of these
abbrev pub unknown : List Text → List Given → Option Text
unknown names [] = None
unknown names (g ∷ gs) = cond (list_any (bytes_eq g.0) names) (unknown names gs) (Some g.0)

-- those of the names for which nothing is given
abbrev pub missing : List Given → List Text → List Text
missing gs names = filter (λ x. not (is_some (given_for x gs))) names

-- the sizes, where all are given
abbrev pub with_all : List OpenSizes → Option Text → List Text → Result (List OpenSizes) Fault
with_all os (Some x) missing = Err (Unknown x)
with_all os None (x ∷ missing) = Err (NotGiven x)
with_all os None [] = Ok os

-- the sizes, where all but one are given
abbrev pub with_one_open : List OpenSizes → Option Text → List Text → Result (List OpenSizes) Fault
with_one_open os (Some x) missing = Err (Unknown x)
with_one_open os None [] = Err NoneOpen
with_one_open os None (x ∷ []) = Ok os
with_one_open os None (x ∷ y ∷ missing) = Err (TwoOpen x y)

-- the sizes of the parameters that are asked for: all given, or all but one
abbrev pub asked : List Given → List (Text × Type') → Result (List OpenSizes) Fault
asked gs ps = with_all (all_sizes gs ps) (unknown (all_names ps) gs) (missing gs (all_names ps))

abbrev pub asked_open : List Given → List (Text × Type') → Result (List OpenSizes) Fault
asked_open gs ps = with_one_open (all_sizes gs ps) (unknown (all_names ps) gs) (missing gs (all_names ps))
