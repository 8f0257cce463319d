-- Goals and values of a reader.
use Rattle.std.proofs.Common.{◌≡◌, ◌≤◌, ◌+◌, ℕ, suc, List, [], ◌∷◌, ◌++◌, length, refl, sym, ap, subst, ◌∙◌, arith, length-append, append_assoc}
use Rattle.std.proofs.lemmas.List.{append-nil}
use Rattle.value_text.specs.declared.word.Word.{Word}
use Rattle.value_text.specs.declared.word.Word.TheVariants as w
use Rattle.value_text.specs.declared.word.Cell.{Cell}
use Rattle.value_text.specs.declared.goal.Goal as d
use Rattle.raml_syntax.specs.Value as v
use Rattle.raml_syntax.specs.Value.{Value}
use Rattle.value_text.specs.Heap.{IsBelow}
use Rattle.value_text.specs.Held.{Held, held, held_of, value_held, value_of}
use Rattle.std.specs.Borrow.{Bor}
use Rattle.raml_syntax.specs.Tree.{Type', PairOf, ListOf, TreeOf, OptionOf}
use Rattle.raml_syntax.specs.Read.{ty_of}
use Rattle.raml_syntax.specs.declared.ty.Ty.{Ty}
use Rattle.value_text.specs.declared.sign.Sign.TheVariants as k
use Rattle.value_text.specs.declared.token.Token.{Token}
use Rattle.value_text.specs.declared.token.Token.TheVariants as n
use Rattle.value_text.specs.declared.goal.Goal.TheVariants as o
use Rattle.value_text.specs.Goals.{Goal, Value', Sign', Node, more_goals, top, below, joined, paired, noded, justed}
use Rattle.value_text.specs.Tokens.{token_of}
use Rattle.value_text.specs.State.{Grows, pair_goals, node_goals, content_goals, goal_of, goals_in, values_in, AllBelow}
use Rattle.value_text.proofs.Earlier.{below_more}
use Rattle.value_text.proofs.Holding.{value_more, held_front, length_held, held_snoc, at_last}

pub goals_more : (xs ys : List d.Goal) (gs : List Goal) → goals_in (xs ++ ys) gs ≡ goals_in ys (goals_in xs gs)
goals_more [] ys gs = refl
goals_more (x ∷ xs) ys gs = goals_more xs ys (goal_of x ∷ gs)

pub goals_snoc : (xs : List d.Goal) (x : d.Goal) (gs : List Goal) → goals_in (xs ++ x ∷ []) gs ≡ goal_of x ∷ goals_in xs gs
goals_snoc xs x gs = goals_more xs (x ∷ []) gs

pub length_goals : (xs : List d.Goal) (gs : List Goal) → length (goals_in xs gs) ≡ length xs + length gs
length_goals [] gs = omega arith
length_goals (x ∷ xs) gs = let l = length_goals xs (goal_of x ∷ gs) in omega (arith, l)

pub values_more : (hs : List Held) (ws us : List Word) (vs : List Value) → values_in hs (ws ++ us) vs ≡ values_in hs us (values_in hs ws vs)
values_more hs [] us vs = refl
values_more hs (x ∷ ws) us vs = values_more hs ws us (value_of hs x ∷ vs)

pub values_snoc : (hs : List Held) (ws : List Word) (x : Word) (vs : List Value) → values_in hs (ws ++ x ∷ []) vs ≡ value_of hs x ∷ values_in hs ws vs
values_snoc hs ws x vs = values_more hs ws (x ∷ []) vs

pub below_snoc : (n : ℕ) (ws : List Word) (x : Word) → AllBelow n ws → IsBelow n x → AllBelow n (ws ++ x ∷ [])
below_snoc n [] x h k = (k, tt)
below_snoc n (y ∷ ws) x h k = (h.0, below_snoc n ws x h.1 k)

pub below_front : (n : ℕ) (ws : List Word) (x : Word) → AllBelow n (ws ++ x ∷ []) → AllBelow n ws × IsBelow n x
below_front n [] x h = (tt, h.0)
below_front n (y ∷ ws) x h = let r = below_front n ws x h.1 in ((h.0, r.0), r.1)

pub below_grow : (n m : ℕ) (ws : List Word) → n ≤ m → AllBelow n ws → AllBelow m ws
below_grow n m [] le h = tt
below_grow n m (x ∷ ws) le h = (below_more n m x le h.0, below_grow n m ws le h.1)

values_held : (hs more : List Held) (ws : List Word) (vs : List Value) → AllBelow (length hs) ws → values_in (hs ++ more) ws vs ≡ values_in hs ws vs
values_held hs more [] vs h = refl
values_held hs more (x ∷ ws) vs h = values_held hs more ws (value_of (hs ++ more) x ∷ vs) h.1 ∙ ap (λ v. values_in hs ws (v ∷ vs)) (value_more hs more x h.0)

-- more cells change no values
pub values_grow : (cells more : List Cell) (ws : List Word) (vs : List Value) → AllBelow (length cells) ws → values_in (held (cells ++ more)) ws vs ≡ values_in (held cells) ws vs
values_grow cells more ws vs h =
    let f = held_front cells more in
    let n : length cells ≡ length (held cells) = sym (length_held cells) in
    ap (λ hs. values_in hs ws vs) f.1 ∙ values_held (held cells) f.0 ws vs (subst (λ n. AllBelow n ws) n h)

-- what is put down for a value
pub pair_put : (xs ys : List d.Goal) (A : Type') (a b : Bor Ty) (l m : ℕ) (t : Token) → A ≡ PairOf (ty_of a.now) (ty_of b.now) → t ≡ n.Sign k.Open → m ≡ suc l → ys ≡ xs ++ pair_goals a b m → goals_in ys [] ≡ more_goals A l (token_of t) (goals_in xs [])
pair_put xs ys A a b l m t at is lm e =
    ap (λ l. goals_in l []) e ∙ goals_more xs (pair_goals a b m) [] ∙ (λ i. goals_in (pair_goals a b (lm i)) (goals_in xs [])) ∙ (λ i. more_goals (sym at i) l (token_of (sym is i)) (goals_in xs []))

pub node_put : (xs ys : List d.Goal) (A : Type') (a b : Bor Ty) (l m : ℕ) (t : Token) → A ≡ TreeOf (ty_of a.now) → A ≡ ty_of b.now → t ≡ n.Sign k.Node → m ≡ suc l → ys ≡ xs ++ node_goals a b m → goals_in ys [] ≡ more_goals A l (token_of t) (goals_in xs [])
node_put xs ys A a b l m t at same is lm e =
    let T : ty_of b.now ≡ TreeOf (ty_of a.now) = sym same ∙ at in
    ap (λ l. goals_in l []) e ∙ goals_more xs (node_goals a b m) []
    ∙ (λ i. Sign' k.Open ∷ Value' (ty_of a.now) (lm i) ∷ Sign' k.Comma ∷ Value' (T i) (lm i) ∷ Sign' k.Comma ∷ Value' (T i) (lm i) ∷ Sign' k.Close ∷ Node ∷ goals_in xs [])
    ∙ (λ i. more_goals (sym at i) l (token_of (sym is i)) (goals_in xs []))

pub first_put : (xs ys : List d.Goal) (A : Type') (a : Bor Ty) (l : ℕ) (t : Token) → A ≡ ListOf (ty_of a.now) → t ≡ n.Sign k.OpenList → ys ≡ xs ++ o.First a l ∷ [] → goals_in ys [] ≡ more_goals A l (token_of t) (goals_in xs [])
first_put xs ys A a l t at is e =
    ap (λ l. goals_in l []) e ∙ goals_more xs (o.First a l ∷ []) [] ∙ (λ i. more_goals (sym at i) l (token_of (sym is i)) (goals_in xs []))

pub content_put : (xs ys : List d.Goal) (A : Type') (a : Bor Ty) (l m : ℕ) (t : Token) → A ≡ OptionOf (ty_of a.now) → t ≡ n.Sign k.Just → m ≡ suc l → ys ≡ xs ++ content_goals a m → goals_in ys [] ≡ more_goals A l (token_of t) (goals_in xs [])
content_put xs ys A a l m t at is lm e =
    ap (λ l. goals_in l []) e ∙ goals_more xs (content_goals a m) [] ∙ (λ i. goals_in (content_goals a (lm i)) (goals_in xs [])) ∙ (λ i. more_goals (sym at i) l (token_of (sym is i)) (goals_in xs []))

-- MAKING CELLS

pub cell_made : (cells cells' : List Cell) (cell : Cell) → cells' ≡ cells ++ cell ∷ [] → value_of (held cells') (w.Cell (length cells)) ≡ value_held (held_of (held cells) cell)
cell_made cells cells' cell e =
    let n : length cells ≡ length (held cells) = sym (length_held cells) in
    ap (λ l. value_of (held l) (w.Cell (length cells))) e
    ∙ ap (λ hs. value_of hs (w.Cell (length cells))) (held_snoc cells cell)
    ∙ ap (λ i. value_of (held cells ++ held_of (held cells) cell ∷ []) (w.Cell i)) n
    ∙ ap value_held (at_last (held cells) (held_of (held cells) cell))

length_grows : (cells cells' : List Cell) → Grows cells cells' → length cells ≤ length cells'
length_grows cells cells' g = let l = ap length g.1 in let m = length-append cells g.0 in omega (arith, l, m)

pub grown_values : (cells cells' : List Cell) (ws : List Word) → Grows cells cells' → AllBelow (length cells) ws → values_in (held cells') ws [] ≡ values_in (held cells) ws []
grown_values cells cells' ws g h = ap (λ c. values_in (held c) ws []) g.1 ∙ values_grow cells g.0 ws [] h

pub made_is : (cells cells' : List Cell) (ws ws' : List Word) (x : Word) (value : Value) → Grows cells cells' → value_of (held cells') x ≡ value → AllBelow (length cells) ws → ws' ≡ ws ++ x ∷ [] → values_in (held cells') ws' [] ≡ value ∷ values_in (held cells) ws []
made_is cells cells' ws ws' x value g is h e =
    ap (λ l. values_in (held cells') l []) e ∙ values_snoc (held cells') ws x [] ∙ (λ i. is i ∷ grown_values cells cells' ws g h i)

pub below_made : (cells cells' : List Cell) (ws ws' : List Word) (x : Word) → Grows cells cells' → AllBelow (length cells) ws → IsBelow (length cells') x → ws' ≡ ws ++ x ∷ [] → AllBelow (length cells') ws'
below_made cells cells' ws ws' x g h k e = subst (AllBelow (length cells')) (sym e) (below_snoc (length cells') ws x (below_grow (length cells) (length cells') ws (length_grows cells cells' g) h) k)

pub paired_is : (V0 V1 V2 : List Value) (x y : Value) → y ≡ top V0 → V1 ≡ below V0 → x ≡ top V1 → V2 ≡ below V1 → v.Both x y ∷ V2 ≡ paired V0
paired_is V0 V1 V2 x y ey e1 ex e2 =
    let fx = ex ∙ ap top e1 in
    let f2 = e2 ∙ ap below e1 in
    λ i. v.Both (fx i) (ey i) ∷ f2 i

pub noded_is : (V0 V1 V2 V3 : List Value) (x y z : Value) → z ≡ top V0 → V1 ≡ below V0 → y ≡ top V1 → V2 ≡ below V1 → x ≡ top V2 → V3 ≡ below V2 → v.Node x y z ∷ V3 ≡ noded V0
noded_is V0 V1 V2 V3 x y z ez e1 ey e2 ex e3 =
    let fy = ey ∙ ap top e1 in
    let f2 = e2 ∙ ap below e1 in
    let fx = ex ∙ ap top f2 in
    let f3 = e3 ∙ ap below f2 in
    λ i. v.Node (fx i) (fy i) (ez i) ∷ f3 i

pub justed_is : (V0 V1 : List Value) (x : Value) → x ≡ top V0 → V1 ≡ below V0 → v.Just x ∷ V1 ≡ justed V0
justed_is V0 V1 x ex e1 = λ i. v.Just (ex i) ∷ e1 i

pub grows_more : (a b c : List Cell) → Grows a b → Grows b c → Grows a c
grows_more a b c g h = (g.0 ++ h.0, h.1 ∙ ap (λ l. l ++ h.0) g.1 ∙ append_assoc a g.0 h.0)

-- one more element is joined
pub joined_step : (cells cells' : List Cell) (ws ws' : List Word) (head tail x : Word) (n m : ℕ) (whole : List Value) → n ≡ suc m → joined n (values_in (held cells) ws []) (value_of (held cells) tail) ≡ whole → value_of (held cells) head ≡ top (values_in (held cells) ws []) → values_in (held cells) ws' [] ≡ below (values_in (held cells) ws []) → value_of (held cells') x ≡ v.Cons (value_of (held cells) head) (value_of (held cells) tail) → Grows cells cells' → AllBelow (length cells) ws' → joined m (values_in (held cells') ws' []) (value_of (held cells') x) ≡ whole
joined_step cells cells' ws ws' head tail x n m whole nm is et eb ex g h =
    let V = values_in (held cells) ws [] in
    let vs : values_in (held cells') ws' [] ≡ below V = grown_values cells cells' ws' g h ∙ eb in
    let vx : value_of (held cells') x ≡ v.Cons (top V) (value_of (held cells) tail) = ex ∙ ap (λ y. v.Cons y (value_of (held cells) tail)) et in
    (λ i. joined m (vs i) (vx i)) ∙ ap (λ n. joined n V (value_of (held cells) tail)) (sym nm) ∙ is

pub grows_none : (cells : List Cell) → Grows cells cells
grows_none cells = ([], sym (append-nil cells))

pub below_more_cells : (cells cells' : List Cell) (ws : List Word) → Grows cells cells' → AllBelow (length cells) ws → AllBelow (length cells') ws
below_more_cells cells cells' ws g h = below_grow (length cells) (length cells') ws (length_grows cells cells' g) h
