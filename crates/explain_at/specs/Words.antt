-- What words such as `l=100,l.each=20` say.
use Rattle.std.specs.Prelude.{ℕ, Bool, not, ◌&&◌, ◌||◌, cond, nat_eq, nat_le, List, [], ◌∷◌, ◌++◌, length, Option, Some, None}
use Rattle.std.specs.Prelude.{is_some}
use Rattle.std.specs.Prelude.{Result, Ok, Err}
use Rattle.std.specs.Str.{bytes_eq, all_ascii_digits}
use Rattle.std.specs.Str.Parse.{digits_value}
use Rattle.raml_syntax.specs.Tree.{Text}
use Rattle.raml_syntax.specs.Cut.{cut_at}

-- a size by its name: how many elements there are
abbrev pub Given : Type 0
Given = Text × ℕ

-- A word is not NAME=N; or its N has more than ten digits; or a word before has the same name.
pub data Fault : Type 0 where
  Shape : Text → Fault
  Long : Text → Fault
  Twice : Text → Fault

-- with the byte at the front of the first text
abbrev pub longer : ℕ → List Text → List Text
longer byte [] = (byte ∷ []) ∷ []
longer byte (text ∷ texts) = (byte ∷ text) ∷ texts

-- the words between the commas
abbrev pub words_of : Text → List Text
words_of [] = [] ∷ []
words_of (byte ∷ text) = cond (nat_eq byte 44) ([] ∷ words_of text) (longer byte (words_of text))

-- digits, at least one
abbrev pub are_digits : Text → Bool
are_digits text = not (nat_eq (length text) 0) && all_ascii_digits text

-- one to ten digits
abbrev pub is_short : Text → Bool
is_short text = are_digits text && nat_le (length text) 10

abbrev pub number_in : Text → Option ℕ
number_in text = cond (is_short text) (Some (digits_value 10 text)) None

abbrev pub numbered : Text → Text → Option ℕ → Result Given Fault
numbered word name None = Err (Long word)
numbered word name (Some n) = Ok (name, n)

-- a name, which is not empty, with the number of the digits
abbrev pub counted : Text → Text → Text → Result Given Fault
counted word name digits =
    cond (nat_eq (length name) 0 || not (are_digits digits)) (Err (Shape word)) (numbered word name (number_in digits))

abbrev pub from_parts : Text → Option (Text × Text) → Result Given Fault
from_parts word None = Err (Shape word)
from_parts word (Some parts) = counted word parts.0 parts.1

-- what a word gives: its name stands before the first `=`, and its digits behind it
abbrev pub word_read : Text → Result Given Fault
word_read word = from_parts word (cut_at 61 word)

-- the number that is given for the size of this name
abbrev pub given_for : Text → List Given → Option ℕ
given_for name [] = None
given_for name (g ∷ gs) = cond (bytes_eq g.0 name) (Some g.1) (given_for name gs)

-- what is given, and this behind it, where no name stands twice
abbrev pub with_read : List Given → Result Given Fault → Result (List Given) Fault
with_read gs (Err fault) = Err fault
with_read gs (Ok g) = cond (is_some (given_for g.0 gs)) (Err (Twice g.0)) (Ok (gs ++ g ∷ []))

abbrev pub with_word : List Given → Text → Result (List Given) Fault
with_word gs word = with_read gs (word_read word)

abbrev pub behind : Result (List Given) Fault → Text → Result (List Given) Fault
behind (Err fault) word = Err fault
behind (Ok gs) word = with_word gs word

-- what the words give behind what is given, or their first fault
abbrev pub words_read : Result (List Given) Fault → List Text → Result (List Given) Fault
words_read before [] = before
words_read before (word ∷ words) = words_read (behind before word) words
