-- Normal forms and their origins: each form stands for an expression of its kind.
use Rattle.std.specs.Prelude.{◌≡◌, ◌⊎◌}
use Rattle.raml_syntax.specs.Tree as t
use Rattle.raml_syntax.specs.Tree.{Function, Prog}
use Rattle.normal_spec.specs.Norm as n
use Rattle.normal_spec.specs.Two.{norm_fun}
use Rattle.explain_origins.specs.Kinds as k
use Rattle.explain_origins.specs.Kinds.{Kind, kind_of}
use Rattle.explain_origins.specs.Origins.{Origins, Ends, Goes, Forks, origins}

-- what is claimed of the origins of a form of a kind, by what is claimed of those of its parts
abbrev pub Alone : Kind → Origins → Type 0
Alone kind (Ends e) = kind_of e ≡ kind
Alone kind _ = ⊥

abbrev pub WithOne : Kind → (Origins → Type 0) → Origins → Type 0
WithOne kind A (Goes e o) = (kind_of e ≡ kind) × A o
WithOne kind A _ = ⊥

abbrev pub WithTwo : Kind → (Origins → Type 0) → (Origins → Type 0) → Origins → Type 0
WithTwo kind A B (Forks e o rest) = (kind_of e ≡ kind) × A o × B rest
WithTwo kind A B _ = ⊥

-- a let of the source, whose bound expression has these origins
abbrev pub IsLetOf : t.Term → Origins → Type 0
IsLetOf (t.Let p x a b) o = o ≡ origins a
IsLetOf _ o = ⊥

-- a Let stands for a let of the source, or for the operand that it binds
abbrev pub Binds : (Origins → Type 0) → (Origins → Type 0) → Origins → Type 0
Binds A B (Forks e o rest) = (IsLetOf e o ⊎ (o ≡ origins e)) × A o × B rest
Binds A B _ = ⊥

-- What is shared or dropped leaves no trace.
abbrev pub Fits : n.Norm → Origins → Type 0
Fits (n.Var i x) = Alone k.Var
Fits (n.Number i v) = Alone (k.Number v)
Fits (n.Truth i b) = Alone (k.Truth b)
Fits (n.Nil i) = Alone k.Nil
Fits (n.Leaf i) = Alone k.Leaf
Fits (n.Nothing i) = Alone k.Nothing
Fits (n.Arith i op x y) = Alone (k.Arith op)
Fits (n.Compare i op x y) = Alone (k.Compare op)
Fits (n.Not i x) = Alone k.Not
Fits (n.Pair i x y) = Alone k.Pair
Fits (n.Cons i x y) = Alone k.Cons
Fits (n.Node i x y z) = Alone k.Node
Fits (n.Just i x) = Alone k.Just
Fits (n.Call i f xs) = Alone k.Call
Fits (n.Let i x A a b) = Binds (Fits a) (Fits b)
Fits (n.Split i x p q a) = WithOne k.LetPair (Fits a)
Fits (n.If i x a b) = WithTwo k.If (Fits a) (Fits b)
Fits (n.CaseList i x a h l b) = WithTwo k.MatchList (Fits a) (Fits b)
Fits (n.CaseTree i x a h l r b) = WithTwo k.MatchTree (Fits a) (Fits b)
Fits (n.CaseOption i x a w b) = WithTwo k.MatchOption (Fits a) (Fits b)
Fits (n.Tick i j a) = WithOne (k.Tick j) (Fits a)
Fits (n.Share i x p q a) = Fits a
Fits (n.Drop i x a) = Fits a

-- The origins of a function's body fit its normal form.
abbrev pub OriginsFit : Type 0
OriginsFit = (P : Prog) (g : Function) → Fits (norm_fun P g).body (origins g.body)
