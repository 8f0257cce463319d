-- What variables and expressions of a body are, seen from its parameters.
use Rattle.std.specs.Prelude.{List, [], ◌∷◌, Bool, true, false, cond, ◌||◌}
use Rattle.std.specs.Str.{bytes_eq}
use Rattle.raml_syntax.specs.Tree as t
use Rattle.raml_syntax.specs.Tree.{Text, Type', Integer, Boolean, PairOf, Bound, Parameter}
pub use Rattle.explain_rounds.specs.declared.class.Class.{Class}
pub use Rattle.explain_rounds.specs.declared.class.Class.TheVariants.{Whole, Part, Made, Other}

-- the type holds a list, a tree or an option
abbrev pub is_sized : Type' → Bool
is_sized Integer = false
is_sized Boolean = false
is_sized (PairOf A B) = is_sized A || is_sized B
is_sized _ = true

-- a parameter of a sized type is whole
abbrev pub class_of_type : Type' → Class
class_of_type T = cond (is_sized T) Whole Other

abbrev pub is_part : Class → Bool
is_part Part = true
is_part _ = false

abbrev pub is_made : Class → Bool
is_made Made = true
is_made _ = false

-- what a match takes out of a value of this class
abbrev pub taken_out : Class → Class
taken_out Whole = Part
taken_out c = c

-- a pair is a part where it holds one
abbrev pub paired : Class → Class → Class
paired Part d = Part
paired c Part = Part
paired Made d = Made
paired c Made = Made
paired c d = Other

-- the variables at hand, each with what it is, the newest first
abbrev pub Variables : Type 0
Variables = List (Bound × Class)

-- what the newest variable of this name is
abbrev pub class_at : Text → Variables → Class
class_at x [] = Other
class_at x (v ∷ vs) = cond (bytes_eq x v.0.name) v.1 (class_at x vs)

-- all of these names are of one class
abbrev pub bind : Class → List Bound → Variables → Variables
bind c [] vs = vs
bind c (x ∷ xs) vs = bind c xs ((x, c) ∷ vs)

abbrev pub bind_parameters : List Parameter → Variables → Variables
bind_parameters [] vs = vs
bind_parameters (p ∷ ps) vs = bind_parameters ps ((record { at = p.at; name = p.name }, class_of_type p.type) ∷ vs)

-- The expression holds a call, or a variable that comes from one. What it binds itself hides other names; where a name is bound to
-- what comes from a call, the expression holds a call already.
abbrev pub holds_call : Variables → t.Term → Bool
holds_call vs (t.Var p x) = is_made (class_at x vs)
holds_call vs (t.Arith p op a b) = holds_call vs a || holds_call vs b
holds_call vs (t.Compare p op a b) = holds_call vs a || holds_call vs b
holds_call vs (t.Not p a) = holds_call vs a
holds_call vs (t.Pair p a b) = holds_call vs a || holds_call vs b
holds_call vs (t.Cons p a b) = holds_call vs a || holds_call vs b
holds_call vs (t.Node p a b c) = holds_call vs a || holds_call vs b || holds_call vs c
holds_call vs (t.Just p a) = holds_call vs a
holds_call vs (t.Call p f args) = true
holds_call vs (t.Let p x a b) = holds_call vs a || holds_call (bind Other (x ∷ []) vs) b
holds_call vs (t.LetPair p x y a b) = holds_call vs a || holds_call (bind Other (x ∷ y ∷ []) vs) b
holds_call vs (t.If p c a b) = holds_call vs c || holds_call vs a || holds_call vs b
holds_call vs (t.MatchList p c a x y b) = holds_call vs c || holds_call vs a || holds_call (bind Other (x ∷ y ∷ []) vs) b
holds_call vs (t.MatchTree p c a x y z b) = holds_call vs c || holds_call vs a || holds_call (bind Other (x ∷ y ∷ z ∷ []) vs) b
holds_call vs (t.MatchOption p c a x b) = holds_call vs c || holds_call vs a || holds_call (bind Other (x ∷ []) vs) b
holds_call vs (t.Tick p k a) = holds_call vs a
holds_call vs (t.Typed p a A) = holds_call vs a
holds_call vs _ = false

abbrev pub made_or_other : Variables → t.Term → Class
made_or_other vs e = cond (holds_call vs e) Made Other

-- what an expression is: a variable is what it was bound as, a pair goes by its parts, and all else comes from a call or does not
abbrev pub class_of : Variables → t.Term → Class
class_of vs (t.Var p x) = class_at x vs
class_of vs (t.Pair p a b) = paired (class_of vs a) (class_of vs b)
class_of vs (t.Typed p a A) = class_of vs a
class_of vs e = made_or_other vs e
