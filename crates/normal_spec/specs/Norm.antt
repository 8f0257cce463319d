-- Normal forms: each operand is a variable.
use Rattle.std.specs.Prelude.{ℕ, ℤ, List, Bool, ◌+◌}
use Rattle.raml_syntax.specs.declared.tree.ArithOp.{ArithOp}
use Rattle.raml_syntax.specs.declared.tree.CompareOp.{CompareOp}
use Rattle.raml_syntax.specs.Tree.{Type'}

-- A form; its `nodes` stand first. Variables are numbers, and functions their places in the program.
pub data Norm : Type 0 where
  Var : ℕ → ℕ → Norm
  Number : ℕ → ℤ → Norm
  Truth : ℕ → Bool → Norm
  Nil : ℕ → Norm
  Leaf : ℕ → Norm
  Nothing : ℕ → Norm
  Arith : ℕ → ArithOp → ℕ → ℕ → Norm
  Compare : ℕ → CompareOp → ℕ → ℕ → Norm
  Not : ℕ → ℕ → Norm
  Pair : ℕ → ℕ → ℕ → Norm
  Cons : ℕ → ℕ → ℕ → Norm
  Node : ℕ → ℕ → ℕ → ℕ → Norm
  Just : ℕ → ℕ → Norm
  Call : ℕ → ℕ → List ℕ → Norm
  Let : ℕ → ℕ → Type' → Norm → Norm → Norm
  Split : ℕ → ℕ → ℕ → ℕ → Norm → Norm
  If : ℕ → ℕ → Norm → Norm → Norm
  CaseList : ℕ → ℕ → Norm → ℕ → ℕ → Norm → Norm
  CaseTree : ℕ → ℕ → Norm → ℕ → ℕ → ℕ → Norm → Norm
  CaseOption : ℕ → ℕ → Norm → ℕ → Norm → Norm
  Tick : ℕ → ℕ → Norm → Norm
  Share : ℕ → ℕ → ℕ → ℕ → Norm → Norm
  Drop : ℕ → ℕ → Norm → Norm

-- a function: its parameters as variables with their types
pub record NormFun : Type 0 where
  pub params : List (ℕ × Type')
  pub result : Type'
  pub body : Norm

-- the functions in the order of the source
abbrev pub NormProg : Type 0
NormProg = List NormFun

-- so many nodes more on the outermost form
abbrev pub carries : ℕ → Norm → Norm
carries n (Var k x) = Var (n + k) x
carries n (Number k i) = Number (n + k) i
carries n (Truth k b) = Truth (n + k) b
carries n (Nil k) = Nil (n + k)
carries n (Leaf k) = Leaf (n + k)
carries n (Nothing k) = Nothing (n + k)
carries n (Arith k op x y) = Arith (n + k) op x y
carries n (Compare k op x y) = Compare (n + k) op x y
carries n (Not k x) = Not (n + k) x
carries n (Pair k x y) = Pair (n + k) x y
carries n (Cons k x y) = Cons (n + k) x y
carries n (Node k x y z) = Node (n + k) x y z
carries n (Just k x) = Just (n + k) x
carries n (Call k f xs) = Call (n + k) f xs
carries n (Let k x A a b) = Let (n + k) x A a b
carries n (Split k x p q a) = Split (n + k) x p q a
carries n (If k x a b) = If (n + k) x a b
carries n (CaseList k x a h t b) = CaseList (n + k) x a h t b
carries n (CaseTree k x a h l r b) = CaseTree (n + k) x a h l r b
carries n (CaseOption k x a w b) = CaseOption (n + k) x a w b
carries n (Tick k i a) = Tick (n + k) i a
carries n (Share k x p q a) = Share (n + k) x p q a
carries n (Drop k x a) = Drop (n + k) x a

-- the nodes that the form itself has
abbrev pub nodes_of : Norm → ℕ
nodes_of (Var k x) = k
nodes_of (Number k i) = k
nodes_of (Truth k b) = k
nodes_of (Nil k) = k
nodes_of (Leaf k) = k
nodes_of (Nothing k) = k
nodes_of (Arith k op x y) = k
nodes_of (Compare k op x y) = k
nodes_of (Not k x) = k
nodes_of (Pair k x y) = k
nodes_of (Cons k x y) = k
nodes_of (Node k x y z) = k
nodes_of (Just k x) = k
nodes_of (Call k f xs) = k
nodes_of (Let k x A a b) = k
nodes_of (Split k x p q a) = k
nodes_of (If k x a b) = k
nodes_of (CaseList k x a h t b) = k
nodes_of (CaseTree k x a h l r b) = k
nodes_of (CaseOption k x a w b) = k
nodes_of (Tick k i a) = k
nodes_of (Share k x p q a) = k
nodes_of (Drop k x a) = k

-- what a recursion on a form goes down in
abbrev pub size : Norm → ℕ
size (Let k x A a b) = 2 + size a + size b
size (Split k x p q a) = 2 + size a
size (If k x a b) = 2 + size a + size b
size (CaseList k x a h t b) = 2 + size a + size b
size (CaseTree k x a h l r b) = 2 + size a + size b
size (CaseOption k x a w b) = 2 + size a + size b
size (Tick k i a) = 2 + size a
size (Share k x p q a) = 2 + size a
size (Drop k x a) = 2 + size a
size _ = 1
