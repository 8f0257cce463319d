-- What is written of a piece, and what is still to be printed of it.
use Rattle.std.proofs.Common.{ℤ, pos, negsuc, Bool, true, false, ◌⊎◌, inl, inr, ◌≡◌, ◌≤◌, ◌<◌, ℕ, List, [], ◌∷◌, ◌++◌, length, Some, refl, sym, ap, subst, ◌∙◌, arith, append_assoc, length-append}
use Rattle.std.proofs.lemmas.List.{append-nil}
use Rattle.std.proofs.lemmas.Fmt.{decimal_nonempty}
use Rattle.std.specs.Fmt.{signed_decimal}
use Rattle.std.specs.Prelude.{slice_get, codes}
use Rattle.std.specs.Borrow.{Bor}
use Rattle.raml_syntax.specs.Tree.{Text, Type', Integer, Boolean, PairOf, ListOf, TreeOf, OptionOf}
use Rattle.raml_syntax.specs.Value as v
use Rattle.raml_syntax.specs.Value.{Value, Has}
use Rattle.raml_syntax.specs.Read.{ty_of}
use Rattle.raml_syntax.specs.declared.ty.Ty.{Ty}
use Rattle.value_text.specs.declared.word.Word.{Word}
use Rattle.value_text.specs.declared.word.Word.TheVariants as w
use Rattle.value_text.specs.declared.word.Cell as c
use Rattle.value_text.specs.declared.word.Cell.TheVariants.{Cons, Pair, Node, Just}
use Rattle.value_text.specs.declared.sign.Sign.{Sign}
use Rattle.value_text.specs.declared.sign.Sign.TheVariants as k
use Rattle.value_text.specs.declared.printing.Piece.{Piece}
use Rattle.value_text.specs.declared.printing.Piece.TheVariants as p
use Rattle.value_text.specs.Heap.{NamesBelow, NameEarlier}
use Rattle.value_text.specs.Held as h'
use Rattle.value_text.specs.Held.{Held, ConsOf, NodeOf, JustOf, held, held_of, value_held, value_of}
use Rattle.value_text.specs.Spelling.{Token, Key, Truth, spell_empty, spell, spell_tail}
use Rattle.value_text.specs.Printing.{StandsForSome, most_text, token_text, printed, text_of, sign_text}
use Rattle.value_text.specs.Pieces.{Plain, pending, piece_tokens, IsFine, AreFine, Prints, pair_pieces, item_text, item_pieces, node_pieces, content_pieces}
use Rattle.value_text.proofs.Earlier.{names_more, names_earlier}
use Rattle.value_text.proofs.Holding.{held_is}
use Rattle.value_text.specs.Stands.{StandsFor}
use Rattle.value_text.proofs.Standing.{stands_is, stands_there}
use Rattle.std.proofs.lemmas.Option.{slice_get_within}

-- what a cell of the heap stands for
pub cell_value : (cells : List c.Cell) (i : ℕ) (cell : c.Cell) → NameEarlier cells → slice_get cells i ≡ Some cell → value_of (held cells) (w.Cell i) ≡ value_held (held_of (held cells) cell)
cell_value cells i cell e is = ap value_held (held_is cells i cell e is)

pub cell_names : (cells : List c.Cell) (i : ℕ) (cell : c.Cell) → NameEarlier cells → slice_get cells i ≡ Some cell → NamesBelow (length cells) cell
cell_names cells i cell e is = let lt = slice_get_within cells i cell is in names_more i (length cells) cell (omega (arith, lt)) (names_earlier cells i cell e is)

-- cells of other kinds
pub not_cons : (cells : List c.Cell) (i : ℕ) (cell : c.Cell) → NameEarlier cells → slice_get cells i ≡ Some cell → ((A : Type') × Has (value_of (held cells) (w.Cell i)) (ListOf A)) → (x : Word) × (y : Word) × (cell ≡ Cons x y)
not_cons cells i (Cons x y) e is h = (x, y, refl)
not_cons cells i (Pair x y) e is h = absurd (subst (λ v. Has v (ListOf h.0)) (cell_value cells i (Pair x y) e is) h.1)
not_cons cells i (Node x y z) e is h = absurd (subst (λ v. Has v (ListOf h.0)) (cell_value cells i (Node x y z) e is) h.1)
not_cons cells i (Just x) e is h = absurd (subst (λ v. Has v (ListOf h.0)) (cell_value cells i (Just x) e is) h.1)

pub not_pair : (cells : List c.Cell) (i : ℕ) (cell : c.Cell) → NameEarlier cells → slice_get cells i ≡ Some cell → ((A : Type') × (B : Type') × Has (value_of (held cells) (w.Cell i)) (PairOf A B)) → (x : Word) × (y : Word) × (cell ≡ Pair x y)
not_pair cells i (Pair x y) e is h = (x, y, refl)
not_pair cells i (Cons x y) e is h = absurd (subst (λ v. Has v (PairOf h.0 h.1)) (cell_value cells i (Cons x y) e is) h.2)
not_pair cells i (Node x y z) e is h = absurd (subst (λ v. Has v (PairOf h.0 h.1)) (cell_value cells i (Node x y z) e is) h.2)
not_pair cells i (Just x) e is h = absurd (subst (λ v. Has v (PairOf h.0 h.1)) (cell_value cells i (Just x) e is) h.2)

pub not_node : (cells : List c.Cell) (i : ℕ) (cell : c.Cell) → NameEarlier cells → slice_get cells i ≡ Some cell → ((A : Type') × Has (value_of (held cells) (w.Cell i)) (TreeOf A)) → (x : Word) × (y : Word) × (z : Word) × (cell ≡ Node x y z)
not_node cells i (Node x y z) e is h = (x, y, z, refl)
not_node cells i (Pair x y) e is h = absurd (subst (λ v. Has v (TreeOf h.0)) (cell_value cells i (Pair x y) e is) h.1)
not_node cells i (Cons x y) e is h = absurd (subst (λ v. Has v (TreeOf h.0)) (cell_value cells i (Cons x y) e is) h.1)
not_node cells i (Just x) e is h = absurd (subst (λ v. Has v (TreeOf h.0)) (cell_value cells i (Just x) e is) h.1)

pub not_just : (cells : List c.Cell) (i : ℕ) (cell : c.Cell) → NameEarlier cells → slice_get cells i ≡ Some cell → ((A : Type') × Has (value_of (held cells) (w.Cell i)) (OptionOf A)) → (x : Word) × (cell ≡ Just x)
not_just cells i (Just x) e is h = (x, refl)
not_just cells i (Pair x y) e is h = absurd (subst (λ v. Has v (OptionOf h.0)) (cell_value cells i (Pair x y) e is) h.1)
not_just cells i (Cons x y) e is h = absurd (subst (λ v. Has v (OptionOf h.0)) (cell_value cells i (Cons x y) e is) h.1)
not_just cells i (Node x y z) e is h = absurd (subst (λ v. Has v (OptionOf h.0)) (cell_value cells i (Node x y z) e is) h.1)

-- a value of a cell is neither an integer nor a truth
pub not_plain : (h : Held) (A : Type') → (A ≡ Integer) ⊎ (A ≡ Boolean) → Has (value_held h) A → ⊥
not_plain h A (inl q) k = no_integer h (subst (Has (value_held h)) q k)
  where
    no_integer : (h : Held) → Has (value_held h) Integer → ⊥
    no_integer (ConsOf x y) k = k
    no_integer (h'.PairOf x y) k = k
    no_integer (NodeOf x y z) k = k
    no_integer (JustOf x) k = k
not_plain h A (inr q) k = no_boolean h (subst (Has (value_held h)) q k)
  where
    no_boolean : (h : Held) → Has (value_held h) Boolean → ⊥
    no_boolean (ConsOf x y) k = k
    no_boolean (h'.PairOf x y) k = k
    no_boolean (NodeOf x y z) k = k
    no_boolean (JustOf x) k = k

pub end_prints : (cells : List c.Cell) (A : Bor Ty) (text text' : Text) (ps : List Piece) → text' ≡ text ++ codes "]" → Prints cells (p.Tail w.Empty A) text text' ps ps
end_prints cells A text text' ps e = record { written = codes "]"; more = []; grows = e; some = omega arith; waits = sym (append-nil ps); fine = tt; same = λ s. refl }

empty_same : (A : Type') (s : List Token) → text_of (spell_empty A []) ++ text_of s ≡ text_of (spell_empty A s)
empty_same Integer s = refl
empty_same Boolean s = refl
empty_same (PairOf A B) s = refl
empty_same (ListOf A) s = refl
empty_same (TreeOf A) s = refl
empty_same (OptionOf A) s = refl

-- a value without a cell is printed at once
plain_same : (hs : List Held) (x : Word) (A : Type') (s : List Token) → Plain x → printed (value_of [] x) A ++ text_of s ≡ text_of (spell (value_of hs x) A s)
plain_same hs (w.Int n) A s h = ap (λ l. l ++ text_of s) (append-nil (signed_decimal n))
plain_same hs (w.Bool b) A s h = ap (λ l. l ++ text_of s) (append-nil (token_text (Truth b)))
plain_same hs w.Empty A s h = empty_same A s
plain_same hs (w.Cell i) A s h = absurd h

pub plain_has : (hs : List Held) (x : Word) (A : Type') → Has (value_of hs x) A → Plain x → Has (value_of [] x) A
plain_has hs (w.Int n) A h plain = h
plain_has hs (w.Bool b) A h plain = h
plain_has hs w.Empty A h plain = h
plain_has hs (w.Cell i) A h plain = absurd plain

-- what is written of a list's first sign or a comma, and what waits
record Item (hs : List Held) (k : Sign) (head tail : Word) (E : Bor Ty) (text text' : Text) : Type 0 where
  written : Text
  grows : text' ≡ text ++ (sign_text k ++ written)
  same : (s : List Token) → written ++ text_of (pending hs (item_pieces head tail E) s) ≡ text_of (spell (value_of hs head) (ty_of E.now) (spell_tail (value_of hs tail) (ty_of E.now) s))

item : (hs : List Held) (k : Sign) (head tail : Word) (E : Bor Ty) (text text' : Text) → text' ≡ item_text text k head (ty_of E.now) → Item hs k head tail E text text'
item hs k (w.Cell i) tail E text text' e = record { written = []; grows = e ∙ ap (λ l. text ++ l) (sym (append-nil (sign_text k))); same = λ s. refl }
item hs k (w.Int n) tail E text text' e = record {
  written = printed (v.Number n) (ty_of E.now);
  grows = e ∙ append_assoc text (sign_text k) (printed (v.Number n) (ty_of E.now));
  same = λ s. plain_same hs (w.Int n) (ty_of E.now) (spell_tail (value_of hs tail) (ty_of E.now) s) tt;
}
item hs k (w.Bool b) tail E text text' e = record {
  written = printed (v.Truth b) (ty_of E.now);
  grows = e ∙ append_assoc text (sign_text k) (printed (v.Truth b) (ty_of E.now));
  same = λ s. plain_same hs (w.Bool b) (ty_of E.now) (spell_tail (value_of hs tail) (ty_of E.now) s) tt;
}
item hs k w.Empty tail E text text' e = record {
  written = printed v.Empty (ty_of E.now);
  grows = e ∙ append_assoc text (sign_text k) (printed v.Empty (ty_of E.now));
  same = λ s. plain_same hs w.Empty (ty_of E.now) (spell_tail (value_of hs tail) (ty_of E.now) s) tt;
}

item_fine : (cells : List c.Cell) (head tail : Word) (E : Bor Ty) → IsFine cells (p.Value head E) → IsFine cells (p.Tail tail E) → AreFine cells (item_pieces head tail E)
item_fine cells (w.Cell i) tail E h t = (t, (h, tt))
item_fine cells (w.Int n) tail E h t = (t, tt)
item_fine cells (w.Bool b) tail E h t = (t, tt)
item_fine cells w.Empty tail E h t = (t, tt)

pub tail_prints : (cells : List c.Cell) (i : ℕ) (head tail : Word) (A : Bor Ty) (text text' : Text) (ps ps' : List Piece) → NameEarlier cells → slice_get cells i ≡ Some (Cons head tail) → IsFine cells (p.Tail (w.Cell i) A) → text' ≡ item_text text k.Comma head (ty_of A.now) → ps' ≡ ps ++ item_pieces head tail A → Prints cells (p.Tail (w.Cell i) A) text text' ps ps'
tail_prints cells i head tail A text text' ps ps' e is h et ep =
    let hs = held cells in
    let has : Has (value_held (held_of (held cells) (Cons head tail))) (ListOf (ty_of A.now)) = subst (λ x. Has x (ListOf (ty_of A.now))) (cell_value cells i (Cons head tail) e is) h.1 in
    let below = cell_names cells i _ e is in
    let one = item hs k.Comma head tail A text text' et in
    record {
      written = codes ", " ++ one.written;
      more = item_pieces head tail A;
      grows = one.grows;
      some = omega arith;
      waits = ep;
      fine = item_fine cells head tail A (below.0, has.0) (below.1, has.1);
      same = λ s. append_assoc (codes ", ") one.written _ ∙ ap (λ l. codes ", " ++ l) (one.same s) ∙ sym (ap (λ x. text_of (spell_tail x (ty_of A.now) s)) (cell_value cells i _ e is));
    }

pub as_type : (x : Value) (A B : Type') → A ≡ B → Has x A → Has x B
as_type x A B e h = subst (Has x) e h

pub cell_has : (cells : List c.Cell) (i : ℕ) (cell : c.Cell) (A : Bor Ty) → NameEarlier cells → slice_get cells i ≡ Some cell → IsFine cells (p.Value (w.Cell i) A) → Has (value_held (held_of (held cells) cell)) (ty_of A.now)
cell_has cells i cell A e is h = subst (λ x. Has x (ty_of A.now)) (cell_value cells i cell e is) h.1

pub list_has : (cells : List c.Cell) (i : ℕ) (head tail : Word) (A E : Bor Ty) → NameEarlier cells → slice_get cells i ≡ Some (Cons head tail) → IsFine cells (p.Value (w.Cell i) A) → ty_of A.now ≡ ListOf (ty_of E.now) → Has (value_of (held cells) head) (ty_of E.now) × Has (value_of (held cells) tail) (ListOf (ty_of E.now))
list_has cells i head tail A E e is h at = as_type (value_held (held_of (held cells) (Cons head tail))) _ _ at (cell_has cells i (Cons head tail) A e is h)

pub tail_has : (cells : List c.Cell) (i : ℕ) (head tail : Word) (E : Bor Ty) → NameEarlier cells → slice_get cells i ≡ Some (Cons head tail) → IsFine cells (p.Tail (w.Cell i) E) → Has (value_of (held cells) head) (ty_of E.now)
tail_has cells i head tail E e is h = (subst (λ x. Has x (ListOf (ty_of E.now))) (cell_value cells i (Cons head tail) e is) h.1).0

pub list_prints : (cells : List c.Cell) (i : ℕ) (head tail : Word) (A E : Bor Ty) (text text' : Text) (ps ps' : List Piece) → NameEarlier cells → slice_get cells i ≡ Some (Cons head tail) → IsFine cells (p.Value (w.Cell i) A) → ty_of A.now ≡ ListOf (ty_of E.now) → text' ≡ item_text text k.OpenList head (ty_of E.now) → ps' ≡ ps ++ item_pieces head tail E → Prints cells (p.Value (w.Cell i) A) text text' ps ps'
list_prints cells i head tail A E text text' ps ps' e is h at et ep =
    let has = list_has cells i head tail A E e is h at in
    let below = cell_names cells i _ e is in
    let one = item (held cells) k.OpenList head tail E text text' et in
    record {
      written = codes "[" ++ one.written;
      more = item_pieces head tail E;
      grows = one.grows;
      some = omega arith;
      waits = ep;
      fine = item_fine cells head tail E (below.0, has.0) (below.1, has.1);
      same = λ s. append_assoc (codes "[") one.written _ ∙ ap (λ l. codes "[" ++ l) (one.same s) ∙ sym (λ j. text_of (spell (cell_value cells i _ e is j) (at j) s));
    }

pub pair_prints : (cells : List c.Cell) (i : ℕ) (x y : Word) (A L R : Bor Ty) (text text' : Text) (ps ps' : List Piece) → NameEarlier cells → slice_get cells i ≡ Some (Pair x y) → IsFine cells (p.Value (w.Cell i) A) → ty_of A.now ≡ PairOf (ty_of L.now) (ty_of R.now) → text' ≡ text ++ codes "(" → ps' ≡ ps ++ pair_pieces x y L R → Prints cells (p.Value (w.Cell i) A) text text' ps ps'
pair_prints cells i x y A L R text text' ps ps' e is h at et ep =
    let has : Has (value_held (held_of (held cells) (Pair x y))) (PairOf (ty_of L.now) (ty_of R.now)) = as_type (value_held (held_of (held cells) (Pair x y))) _ _ at (cell_has cells i (Pair x y) A e is h) in
    let below = cell_names cells i _ e is in
    record {
      written = codes "(";
      more = pair_pieces x y L R;
      grows = et;
      some = omega arith;
      waits = ep;
      fine = (tt, ((below.1, has.1), (tt, ((below.0, has.0), tt))));
      same = λ s. sym (λ j. text_of (spell (cell_value cells i _ e is j) (at j) s));
    }

abbrev node_tokens : List Held → Word → Word → Word → Type' → Type' → List Token → List Token
node_tokens hs x y z A T s = Key k.Node ∷ Key k.Open ∷ spell (value_of hs x) A (Key k.Comma ∷ spell (value_of hs y) T (Key k.Comma ∷ spell (value_of hs z) T (Key k.Close ∷ s)))

pub node_prints : (cells : List c.Cell) (i : ℕ) (x y z : Word) (A E : Bor Ty) (text text' : Text) (ps ps' : List Piece) → NameEarlier cells → slice_get cells i ≡ Some (Node x y z) → IsFine cells (p.Value (w.Cell i) A) → ty_of A.now ≡ TreeOf (ty_of E.now) → text' ≡ text ++ codes "node(" → ps' ≡ ps ++ node_pieces x y z E A → Prints cells (p.Value (w.Cell i) A) text text' ps ps'
node_prints cells i x y z A E text text' ps ps' e is h at et ep =
    let has : Has (value_held (held_of (held cells) (Node x y z))) (TreeOf (ty_of E.now)) = as_type (value_held (held_of (held cells) (Node x y z))) _ _ at (cell_has cells i (Node x y z) A e is h) in
    let below = cell_names cells i _ e is in
    let left : Has (value_of (held cells) y) (ty_of A.now) = as_type (value_of (held cells) y) _ _ (sym at) has.1 in
    let right : Has (value_of (held cells) z) (ty_of A.now) = as_type (value_of (held cells) z) _ _ (sym at) has.2 in
    record {
      written = codes "node(";
      more = node_pieces x y z E A;
      grows = et;
      some = omega arith;
      waits = ep;
      fine = (tt, ((below.2, right), (tt, ((below.1, left), (tt, ((below.0, has.0), tt))))));
      same = λ s. sym ((λ j. text_of (spell (cell_value cells i _ e is j) (at j) s)) ∙ ap (λ T. text_of (node_tokens (held cells) x y z (ty_of E.now) T s)) (sym at));
    }

pub content_prints : (cells : List c.Cell) (i : ℕ) (x : Word) (A E : Bor Ty) (text text' : Text) (ps ps' : List Piece) → NameEarlier cells → slice_get cells i ≡ Some (Just x) → IsFine cells (p.Value (w.Cell i) A) → ty_of A.now ≡ OptionOf (ty_of E.now) → text' ≡ text ++ codes "some(" → ps' ≡ ps ++ content_pieces x E → Prints cells (p.Value (w.Cell i) A) text text' ps ps'
content_prints cells i x A E text text' ps ps' e is h at et ep =
    let has : Has (value_held (held_of (held cells) (Just x))) (OptionOf (ty_of E.now)) = as_type (value_held (held_of (held cells) (Just x))) _ _ at (cell_has cells i (Just x) A e is h) in
    let below = cell_names cells i _ e is in
    record {
      written = codes "some(";
      more = content_pieces x E;
      grows = et;
      some = omega arith;
      waits = ep;
      fine = (tt, ((below, has), tt));
      same = λ s. sym (λ j. text_of (spell (cell_value cells i _ e is j) (at j) s));
    }

-- signs, and values without a cell
some_sign : (j : Sign) → 1 ≤ length (sign_text j)
some_sign k.Open = omega arith
some_sign k.Close = omega arith
some_sign k.Comma = omega arith
some_sign k.OpenList = omega arith
some_sign k.CloseList = omega arith
some_sign k.Leaf = omega arith
some_sign k.Node = omega arith
some_sign k.Nothing = omega arith
some_sign k.Just = omega arith

pub sign_prints : (cells : List c.Cell) (j : Sign) (text text' : Text) (ps : List Piece) → text' ≡ text ++ sign_text j → Prints cells (p.Sign j) text text' ps ps
sign_prints cells j text text' ps e = record { written = sign_text j; more = []; grows = e; some = some_sign j; waits = sym (append-nil ps); fine = tt; same = λ s. refl }

some_number : (n : ℤ) (A : Type') → Has (v.Number n) A → 1 ≤ length (signed_decimal n)
some_number (pos n) Integer h = decimal_nonempty n (omega (arith, h))
some_number (negsuc n) Integer h = omega arith
some_number n Boolean h = absurd h
some_number n (PairOf A B) h = absurd h
some_number n (ListOf A) h = absurd h
some_number n (TreeOf A) h = absurd h
some_number n (OptionOf A) h = absurd h

some_truth : (b : Bool) → 1 ≤ length (token_text (Truth b))
some_truth true = omega arith
some_truth false = omega arith

some_empty : (A : Type') → 1 ≤ length (text_of (spell_empty A []))
some_empty Integer = omega arith
some_empty Boolean = omega arith
some_empty (PairOf A B) = omega arith
some_empty (ListOf A) = omega arith
some_empty (TreeOf A) = omega arith
some_empty (OptionOf A) = omega arith

pub plain_prints : (cells : List c.Cell) (x : Word) (A : Bor Ty) (text text' : Text) (ps : List Piece) → Plain x → IsFine cells (p.Value x A) → text' ≡ text ++ printed (value_of [] x) (ty_of A.now) → Prints cells (p.Value x A) text text' ps ps
plain_prints cells (w.Int n) A text text' ps plain h e =
    let one = some_number n (ty_of A.now) h.1 in
    let room : 1 ≤ length (signed_decimal n ++ []) = subst (λ l. 1 ≤ length l) (sym (append-nil (signed_decimal n))) one in
    record { written = signed_decimal n ++ []; more = []; grows = e; some = room; waits = sym (append-nil ps); fine = tt; same = λ s. plain_same (held cells) (w.Int n) (ty_of A.now) s tt }
plain_prints cells (w.Bool b) A text text' ps plain h e =
    let room : 1 ≤ length (token_text (Truth b) ++ []) = subst (λ l. 1 ≤ length l) (sym (append-nil (token_text (Truth b)))) (some_truth b) in
    record { written = token_text (Truth b) ++ []; more = []; grows = e; some = room; waits = sym (append-nil ps); fine = tt; same = λ s. plain_same (held cells) (w.Bool b) (ty_of A.now) s tt }
plain_prints cells w.Empty A text text' ps plain h e =
    record { written = text_of (spell_empty (ty_of A.now) []); more = []; grows = e; some = some_empty (ty_of A.now); waits = sym (append-nil ps); fine = tt; same = λ s. plain_same (held cells) w.Empty (ty_of A.now) s tt }
plain_prints cells (w.Cell i) A text text' ps plain h e = absurd plain

-- several pieces
pub pending_more : (hs : List Held) (ps qs : List Piece) (s : List Token) → pending hs (ps ++ qs) s ≡ pending hs qs (pending hs ps s)
pending_more hs [] qs s = refl
pending_more hs (x ∷ ps) qs s = pending_more hs ps qs (piece_tokens hs x s)

pub fine_more : (cells : List c.Cell) (ps qs : List Piece) → AreFine cells ps → AreFine cells qs → AreFine cells (ps ++ qs)
fine_more cells [] qs h k = k
fine_more cells (x ∷ ps) qs h k = (h.0, fine_more cells ps qs h.1 k)

pub fine_front : (cells : List c.Cell) (ps : List Piece) (x : Piece) → AreFine cells (ps ++ x ∷ []) → AreFine cells ps × IsFine cells x
fine_front cells [] x h = (tt, h.0)
fine_front cells (y ∷ ps) x h = let r = fine_front cells ps x h.1 in ((h.0, r.0), r.1)

-- what is written and what is still to be printed are the whole
pub record Whole (cells : List c.Cell) (whole text : Text) (ps : List Piece) : Type 0 where
  pub same : text ++ text_of (pending (held cells) ps []) ≡ whole
  pub fine : AreFine cells ps
  pub short : length text ≤ most_text

pub goes_on : (cells : List c.Cell) (whole text text' : Text) (ps before ps' : List Piece) (x : Piece) → Whole cells whole text ps → ps ≡ before ++ x ∷ [] → Prints cells x text text' before ps' → (text' ++ text_of (pending (held cells) ps' []) ≡ whole) × AreFine cells ps' × (length text < length text')
goes_on cells whole text text' ps before ps' x h is r =
    let hs = held cells in
    let front = fine_front cells before x (subst (AreFine cells) is h.fine) in
    let rest = pending hs before [] in
    let there : text_of (pending hs ps []) ≡ text_of (piece_tokens hs x rest) = ap (λ l. text_of (pending hs l [])) is ∙ ap text_of (pending_more hs before (x ∷ []) []) in
    let then : text_of (pending hs ps' []) ≡ text_of (pending hs r.more rest) = ap (λ l. text_of (pending hs l [])) r.waits ∙ ap text_of (pending_more hs before r.more []) in (
      (λ j. r.grows j ++ then j) ∙ append_assoc text r.written (text_of (pending hs r.more rest)) ∙ ap (λ l. text ++ l) (r.same rest ∙ sym there) ∙ h.same,
      subst (AreFine cells) (sym r.waits) (fine_more cells before r.more front.0 r.fine),
      (let l = ap length r.grows in let m = length-append text r.written in let some = r.some in omega (arith, l, m, some)),
    )

-- the value that a word stands for is printed
pub value_printed : (cells : List c.Cell) (x : Word) (A : Type') (v : Value) → NameEarlier cells → StandsFor cells x v → printed (value_of (held cells) x) A ≡ printed v A
value_printed cells x A v e h = ap (λ v. printed v A) (sym (stands_is cells x v e h))

pub begins : (cells : List c.Cell) (x : Word) (A : Bor Ty) (text : Text) (ps : List Piece) → NameEarlier cells → StandsForSome cells x (ty_of A.now) → text ≡ [] → ps ≡ p.Value x A ∷ [] → Whole cells (printed (value_of (held cells) x) (ty_of A.now)) text ps
begins cells x A text ps e h none one =
    let has : Has (value_of (held cells) x) (ty_of A.now) = subst (λ v. Has v (ty_of A.now)) (stands_is cells x h.value e h.stands) h.has in
    record {
      same = (λ j. none j ++ text_of (pending (held cells) (one j) []));
      fine = subst (AreFine cells) (sym one) ((stands_there cells x h.value h.stands, has), tt);
      short = subst (λ l. length l ≤ most_text) (sym none) (omega arith);
    }

-- the piece on top
pub top_fine : (cells : List c.Cell) (whole text : Text) (ps before : List Piece) (x : Piece) → Whole cells whole text ps → ps ≡ before ++ x ∷ [] → IsFine cells x
top_fine cells whole text ps before x h is = (fine_front cells before x (subst (AreFine cells) is h.fine)).1

pub too_long : (cells : List c.Cell) (x : Word) (A : Type') (text text' : Text) (ps before ps' : List Piece) (y : Piece) → NameEarlier cells → Whole cells (printed (value_of (held cells) x) A) text ps → ps ≡ before ++ y ∷ [] → Prints cells y text text' before ps' → most_text < length text' → (v : Value) → StandsFor cells x v → most_text < length (printed v A)
too_long cells x A text text' ps before ps' y e h is r long v st =
    let g = goes_on cells _ text text' ps before ps' y h is r in
    let l = ap length (g.0 ∙ value_printed cells x A v e st) in
    let m = length-append text' (text_of (pending (held cells) ps' [])) in
    omega (arith, l, m, long)

pub goes_further : (cells : List c.Cell) (whole text text' : Text) (ps before ps' : List Piece) (x : Piece) → Whole cells whole text ps → ps ≡ before ++ x ∷ [] → Prints cells x text text' before ps' → length text' ≤ most_text → Whole cells whole text' ps'
goes_further cells whole text text' ps before ps' x h is r short = let g = goes_on cells whole text text' ps before ps' x h is r in record { same = g.0; fine = g.1; short = short }

pub all_printed : (cells : List c.Cell) (x : Word) (A : Type') (text : Text) (ps : List Piece) → NameEarlier cells → Whole cells (printed (value_of (held cells) x) A) text ps → ps ≡ [] → (v : Value) → StandsFor cells x v → (text ≡ printed v A) × (length text ≤ most_text)
all_printed cells x A text ps e h none v st =
    (sym (append-nil text) ∙ ap (λ l. text ++ text_of (pending (held cells) l [])) (sym none) ∙ h.same ∙ value_printed cells x A v e st, h.short)
