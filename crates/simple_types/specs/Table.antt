-- Types by their places in a table, which has each once.
use Rattle.std.specs.Prelude.{ℕ, ◌+◌, nat_eq, List, [], ◌∷◌, ◌++◌, Bool, true, false, ◌&&◌, cond, Option, Some, None, fold, get_or, take}
use Rattle.std.specs.List.{list_any, position_or_len}
use Rattle.raml_syntax.specs.Tree.{Type', Integer, Boolean, PairOf, ListOf, TreeOf, OptionOf}
use Rattle.simple_types.specs.declared.types.TypeId.{TypeId}
use Rattle.simple_types.specs.declared.types.Node.{Node}
use Rattle.simple_types.specs.declared.types.Node.TheVariants.{Int, Bool as Truth, Pair, List as ListAt, Tree, Opt}

abbrev pub Table : Type 0
Table = List Node

abbrev pub same_node : Node → Node → Bool
same_node Int Int = true
same_node Truth Truth = true
same_node (Pair a b) (Pair c d) = nat_eq a.0 c.0 && nat_eq b.0 d.0
same_node (ListAt a) (ListAt b) = nat_eq a.0 b.0
same_node (Tree a) (Tree b) = nat_eq a.0 b.0
same_node (Opt a) (Opt b) = nat_eq a.0 b.0
same_node _ _ = false

-- integers and truth values stand at the head of each table
abbrev pub base : Table
base = Int ∷ Truth ∷ []

abbrev pub integer : TypeId
integer = record { 0 = 0 }

abbrev pub boolean : TypeId
boolean = record { 0 = 1 }

-- the node at a place
abbrev pub node_at : Table → TypeId → Node
node_at t i = get_or t i.0 Int

-- the table with the node, and the node's place
abbrev pub placed : Table → Node → Table × TypeId
placed t n = (cond (list_any (same_node n) t) t (t ++ n ∷ []), record { 0 = position_or_len (same_node n) t })

-- the type at a place among these
abbrev pub among : List Type' → TypeId → Type'
among As i = get_or As i.0 Integer

-- the type of a node whose parts are at their places among these
abbrev pub made_from : List Type' → Node → Type'
made_from As Int = Integer
made_from As Truth = Boolean
made_from As (Pair a b) = PairOf (among As a) (among As b)
made_from As (ListAt a) = ListOf (among As a)
made_from As (Tree a) = TreeOf (among As a)
made_from As (Opt a) = OptionOf (among As a)

-- the types of a table in order, each made from those before it
abbrev pub types_in : Table → List Type'
types_in t = fold (λ (As : List Type') (n : Node). As ++ made_from As n ∷ []) [] t

abbrev pub type_of : Table → TypeId → Type'
type_of t i = among (types_in t) i

-- the types before a place
abbrev pub types_before : Table → TypeId → List Type'
types_before t i = types_in (take i.0 t)

-- the table with the type, and the type's place
abbrev pub numbered : Table → Type' → Table × TypeId
numbered t Integer = (t, integer)
numbered t Boolean = (t, boolean)
numbered t (PairOf A B) =
    let a = numbered t A in
    let b = numbered a.0 B in
    placed b.0 (Pair a.1 b.1)
numbered t (ListOf A) = let a = numbered t A in placed a.0 (ListAt a.1)
numbered t (TreeOf A) = let a = numbered t A in placed a.0 (Tree a.1)
numbered t (OptionOf A) = let a = numbered t A in placed a.0 (Opt a.1)

-- the places of some types, behind those of others
abbrev pub numbered_all : Table → List TypeId → List Type' → Table × List TypeId
numbered_all t is [] = (t, is)
numbered_all t is (A ∷ As) = let i = numbered t A in numbered_all i.0 (is ++ i.1 ∷ []) As

-- the parts of a node, where it is of that kind
abbrev pub pair_parts : Node → Option (TypeId × TypeId)
pair_parts (Pair a b) = Some (a, b)
pair_parts _ = None

abbrev pub list_element : Node → Option TypeId
list_element (ListAt a) = Some a
list_element _ = None

abbrev pub tree_element : Node → Option TypeId
tree_element (Tree a) = Some a
tree_element _ = None

abbrev pub option_content : Node → Option TypeId
option_content (Opt a) = Some a
option_content _ = None

-- the nodes of a type
abbrev pub type_nodes : Type' → ℕ
type_nodes Integer = 1
type_nodes Boolean = 1
type_nodes (PairOf A B) = 1 + type_nodes A + type_nodes B
type_nodes (ListOf A) = 1 + type_nodes A
type_nodes (TreeOf A) = 1 + type_nodes A
type_nodes (OptionOf A) = 1 + type_nodes A

-- how many nodes a type has at most that a fault tells
abbrev pub most_told : ℕ
most_told = 1048576
