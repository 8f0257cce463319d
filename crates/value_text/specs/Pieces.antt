-- What is still to be printed.
use Rattle.std.specs.Prelude.{◌≡◌, ◌≤◌, ◌++◌, List, [], ◌∷◌, length}
use Rattle.std.specs.Borrow.{Bor}
use Rattle.raml_syntax.specs.Tree.{Text, Type', ListOf}
use Rattle.raml_syntax.specs.Value.{Has}
use Rattle.raml_syntax.specs.Read.{ty_of}
use Rattle.raml_syntax.specs.declared.ty.Ty.{Ty}
use Rattle.value_text.specs.declared.word.Cell.{Cell}
use Rattle.value_text.specs.declared.word.Word.{Word}
use Rattle.value_text.specs.declared.word.Word.TheVariants as w
use Rattle.value_text.specs.Heap.{IsBelow}
use Rattle.value_text.specs.Held.{Held, held, value_of}
use Rattle.value_text.specs.declared.sign.Sign.{Sign}
use Rattle.value_text.specs.declared.sign.Sign.TheVariants.{Close, Comma}
use Rattle.value_text.specs.declared.printing.Piece.{Piece}
use Rattle.value_text.specs.declared.printing.Piece.TheVariants as p
use Rattle.value_text.specs.Spelling.{Token, Key, spell, spell_tail}
use Rattle.value_text.specs.Printing.{sign_text, text_of, printed}

-- the tokens of what is still to be printed, and then s
abbrev pub piece_tokens : List Held → Piece → List Token → List Token
piece_tokens hs (p.Value w A) s = spell (value_of hs w) (ty_of A.now) s
piece_tokens hs (p.Tail w A) s = spell_tail (value_of hs w) (ty_of A.now) s
piece_tokens hs (p.Sign k) s = Key k ∷ s

-- of several pieces, the last one first
abbrev pub pending : List Held → List Piece → List Token → List Token
pending hs [] s = s
pending hs (x ∷ xs) s = pending hs xs (piece_tokens hs x s)

-- the word is one of the heap, and what it stands for has the type
abbrev pub IsFine : List Cell → Piece → Type 0
IsFine cells (p.Value w A) = IsBelow (length cells) w × Has (value_of (held cells) w) (ty_of A.now)
IsFine cells (p.Tail w A) = IsBelow (length cells) w × Has (value_of (held cells) w) (ListOf (ty_of A.now))
IsFine cells (p.Sign k) = Unit {0}

abbrev pub AreFine : List Cell → List Piece → Type 0
AreFine cells [] = Unit {0}
AreFine cells (x ∷ xs) = IsFine cells x × AreFine cells xs

-- one piece: what was written of it, and what is still to be printed
pub record Prints (cells : List Cell) (piece : Piece) (text text' : Text) (pieces pieces' : List Piece) : Type 0 where
  pub written : Text
  pub more : List Piece
  pub grows : text' ≡ text ++ written
  pub some : 1 ≤ length written
  pub waits : pieces' ≡ pieces ++ more
  pub fine : AreFine cells more
  pub same : (s : List Token) → written ++ text_of (pending (held cells) more s) ≡ text_of (piece_tokens (held cells) piece s)

-- the word names no cell
abbrev pub Plain : Word → Type 0
Plain (w.Cell i) = ⊥
Plain _ = Unit {0}

-- what comes behind a pair's first sign, the first of it last
abbrev pub pair_pieces : Word → Word → Bor Ty → Bor Ty → List Piece
pair_pieces x y left right = p.Sign Close ∷ p.Value y right ∷ p.Sign Comma ∷ p.Value x left ∷ []

-- a list's first sign or a comma behind a text, with the element behind it where that has no cell
abbrev pub item_text : Text → Sign → Word → Type' → Text
item_text text k (w.Cell i) A = text ++ sign_text k
item_text text k head A = (text ++ sign_text k) ++ printed (value_of [] head) A

-- what comes behind that
abbrev pub item_pieces : Word → Word → Bor Ty → List Piece
item_pieces (w.Cell i) tail element = p.Tail tail element ∷ p.Value (w.Cell i) element ∷ []
item_pieces head tail element = p.Tail tail element ∷ []

-- what comes behind `node(`
abbrev pub node_pieces : Word → Word → Word → Bor Ty → Bor Ty → List Piece
node_pieces x y z element tree =
    p.Sign Close ∷ p.Value z tree ∷ p.Sign Comma ∷ p.Value y tree ∷ p.Sign Comma ∷ p.Value x element ∷ []

-- what comes behind `some(`
abbrev pub content_pieces : Word → Bor Ty → List Piece
content_pieces x content = p.Sign Close ∷ p.Value x content ∷ []
