-- What a reader of data holds, and what it does with a token.
use Rattle.std.specs.Prelude.{◌≡◌, ◌≤◌, ◌<◌, ◌+◌, ◌*◌, ◌++◌, ℕ, suc, List, [], ◌∷◌, Option, Some, None, Bool, true, false, length, map}
use Rattle.std.specs.Borrow.{Bor}
use Rattle.raml_syntax.specs.Tree.{Type', Integer, Boolean, Text}
use Rattle.raml_syntax.specs.Value.{Value}
use Rattle.raml_syntax.specs.Read.{ty_of}
use Rattle.raml_syntax.specs.declared.ty.Ty.{Ty}
use Rattle.value_text.specs.declared.word.Word.{Word}
use Rattle.value_text.specs.declared.word.Word.TheVariants as w
use Rattle.value_text.specs.declared.word.Cell.{Cell}
use Rattle.value_text.specs.Heap.{IsBelow}
use Rattle.value_text.specs.Held.{Held, held, value_of}
use Rattle.value_text.specs.declared.sign.Sign.TheVariants.{Open, Close, Comma}
use Rattle.value_text.specs.declared.goal.Goal as d
use Rattle.value_text.specs.declared.goal.Goal.TheVariants as o
use Rattle.value_text.specs.declared.goal.Verdict.{Verdict}
use Rattle.value_text.specs.declared.goal.Verdict.TheVariants as a
use Rattle.value_text.specs.declared.fault.Kind.TheVariants.{Shape, TooDeep}
use Rattle.value_text.specs.declared.fault.Stop.{Stop}
use Rattle.value_text.specs.declared.fault.Stop.TheVariants as f
use Rattle.value_text.specs.Spelling.{Token, Key, Number, Truth, most_height, sizes}
use Rattle.value_text.specs.Goals.{Goal, Value', First, Tail, Sign', More, Pair, Node, Just, begins, Moves, Stops, FitAll, Sane}
use Rattle.value_text.specs.Lexing.{Placed, placed, kinds, left_of}

abbrev pub goal_of : d.Goal → Goal
goal_of (o.Value A l) = Value' (ty_of A.now) l
goal_of (o.First A l) = First (ty_of A.now) l
goal_of (o.Tail A l n) = Tail (ty_of A.now) l n
goal_of (o.Sign k) = Sign' k
goal_of (o.More As) = More (map ty_of As.now)
goal_of o.Pair = Pair
goal_of o.Node = Node
goal_of o.Just = Just

-- the goals before these, the last one first
abbrev pub goals_in : List d.Goal → List Goal → List Goal
goals_in [] gs = gs
goals_in (x ∷ xs) gs = goals_in xs (goal_of x ∷ gs)

abbrev pub goals_of : List d.Goal → List Goal
goals_of xs = goals_in xs []

-- the values of words before these, the last one first
abbrev pub values_in : List Held → List Word → List Value → List Value
values_in hs [] vs = vs
values_in hs (w ∷ ws) vs = values_in hs ws (value_of hs w ∷ vs)

abbrev pub values_of : List Cell → List Word → List Value
values_of cells ws = values_in (held cells) ws []

abbrev pub AllBelow : ℕ → List Word → Type 0
AllBelow n [] = Unit {0}
AllBelow n (w ∷ ws) = IsBelow n w × AllBelow n ws

-- how many cells will be made at least
abbrev pub owed : Goal → ℕ
owed (First A l) = 1
owed (Tail A l n) = n
owed Pair = 1
owed Node = 1
owed Just = 1
owed g = 0

abbrev pub all_owed : List Goal → ℕ
all_owed [] = 0
all_owed (g ∷ gs) = owed g + all_owed gs

-- the goal takes a token
abbrev pub TakesToken : Goal → Type 0
TakesToken Pair = ⊥
TakesToken Node = ⊥
TakesToken Just = ⊥
TakesToken g = Unit {0}

-- a token is taken
pub record Takes (g : Goal) (t : Token) (gs : List Goal) (vs : List Value) (gs' : List Goal) (vs' : List Value) : Type 0 where
  pub moves : Moves (g ∷ gs) vs (t ∷ []) gs' vs'
  pub fits : FitAll gs'
  pub cost : all_owed gs' + sizes vs' ≤ suc (owed g + all_owed gs + sizes vs)
  pub few : length gs' ≤ length gs + 9

abbrev pub Taken : Verdict → Goal → Token → List Goal → List Value → List Goal → List Value → Type 0
Taken a.Fits g t gs vs gs' vs' = Takes g t gs vs gs' vs'
Taken a.TooDeep g t gs vs gs' vs' = (b : List Token) → Stops TooDeep (g ∷ gs) vs (t ∷ b)
Taken a.Shape g t gs vs gs' vs' = (b : List Token) → Stops Shape (g ∷ gs) vs (t ∷ b)

-- whether a value of the type can begin with the token, within so many forms
abbrev pub IsVerdict : Type' → ℕ → Token → Verdict → Type 0
IsVerdict A l t a.Fits = (h : ℕ) × (begins A t ≡ Some h) × (h + l ≤ most_height)
IsVerdict A l t a.TooDeep = (h : ℕ) × (begins A t ≡ Some h) × (most_height < h + l)
IsVerdict A l t a.Shape = begins A t ≡ None

-- the goal is met as far as it goes
pub record Turned (g : Goal) (gs : List Goal) (vs : List Value) (s : List Placed) (n : ℕ) (gs' : List Goal)
    (vs' : List Value) (s' : List Placed) (n' : ℕ) : Type 0 where
  pub taken : List Placed
  pub split : s ≡ taken ++ s'
  pub moves : Moves (g ∷ gs) vs (kinds taken) gs' vs'
  pub fits : FitAll gs'
  pub cost : all_owed gs' + sizes vs' + n' ≤ owed g + all_owed gs + sizes vs + n
  pub less : 10 * n' + length gs' ≤ 10 * n + length gs

-- the same, from one text and state of the code to another
abbrev pub TurnedTo : Goal → List Goal → List Value → Text → List Goal → List Value → Text → Type 0
TurnedTo g gs vs text gs' vs' text' = Turned g gs vs (placed text) (length text) gs' vs' (placed text') (length text')

-- the token there cannot stand, or memory ran out
abbrev pub Fails : Stop → List Goal → List Value → List Placed → Type 0
Fails (f.Fault k left) gs vs s = Stops k gs vs (kinds s) × (left ≡ left_of s)
Fails f.NoMemory gs vs s = Unit {0}

-- cells were added
abbrev pub Grows : List Cell → List Cell → Type 0
Grows cells cells' = (more : List Cell) × (cells' ≡ cells ++ more)

-- as many cells were added as the values grew by
abbrev pub AreCounted : List Cell → List Word → List Cell → List Word → Type 0
AreCounted cells ws cells' ws' = length cells' + sizes (values_of cells ws) ≡ length cells + sizes (values_of cells' ws')

-- the word of an integer or a truth that is of the type
abbrev pub scalar_word : Type' → Token → Option Word
scalar_word Integer (Number n) = Some (w.Int n)
scalar_word Boolean (Truth b) = Some (w.Bool b)
scalar_word A t = None

-- a text begins with a comma and an integer or a truth of the type, which has this word
pub record IsItem (A : Type') (s : Text) (word : Word) (s' : Text) : Type 0 where
  pub before : ℕ
  pub at : ℕ
  pub token : Token
  pub tokens : placed s ≡ (record { left = before; token = Key Comma }) ∷ (record { left = at; token = token }) ∷ placed s'
  pub scalar : scalar_word A token ≡ Some word
  pub sane : Sane token
  pub less : length s' + 2 ≤ length s

-- a text begins with n such elements, and so a list goes on
pub record AreItems (A : Type') (n : ℕ) (vs : List Value) (s : Text) (vs' : List Value) (s' : Text) : Type 0 where
  pub taken : List Placed
  pub split : placed s ≡ taken ++ placed s'
  pub moves :
      (l m : ℕ) (gs : List Goal) → suc (suc l) ≤ most_height
      → Moves (Tail A l m ∷ gs) vs (kinds taken) (Tail A l (m + n) ∷ gs) vs'
  pub same : sizes vs' ≡ sizes vs
  pub less : length s' + 2 * n ≤ length s

-- what is put down for a pair, a node and the content of an option, the first of it last
abbrev pub pair_goals : Bor Ty → Bor Ty → ℕ → List d.Goal
pair_goals first second l = o.Pair ∷ o.Sign Close ∷ o.Value second l ∷ o.Sign Comma ∷ o.Value first l ∷ []

abbrev pub node_goals : Bor Ty → Bor Ty → ℕ → List d.Goal
node_goals element tree l =
    o.Node ∷ o.Sign Close ∷ o.Value tree l ∷ o.Sign Comma ∷ o.Value tree l ∷ o.Sign Comma ∷ o.Value element l ∷ o.Sign Open ∷ []

abbrev pub content_goals : Bor Ty → ℕ → List d.Goal
content_goals content l = o.Just ∷ o.Sign Close ∷ o.Value content l ∷ o.Sign Open ∷ []

abbrev pub is_found : Option ℕ → Bool
is_found None = false
is_found (Some h) = true
