-- Small words, worked out by hand.
use Rattle.std.specs.Prelude.{◌≡◌, List, [], ◌∷◌, Some, None, Result, Ok, Err, codes}
use Rattle.raml_syntax.specs.Tree.{Text, Type', Integer, Boolean, PairOf, ListOf, TreeOf, OptionOf}
use Rattle.explain_sizes.specs.Open.{NoSize, Parts, Content, Elements}
use Rattle.explain_at.specs.Words.{Given, Fault, Shape, Long, Twice, words_of, words_read}
use Rattle.explain_at.specs.Asked.{Unknown, NotGiven, NoneOpen, TwoOpen, all_names, asked, asked_open}

abbrev read : Text → Result (List Given) Fault
read text = words_read (Ok []) (words_of text)

-- two parameters: a list of lists, and a number
abbrev lists : List (Text × Type')
lists = (codes "l", ListOf (ListOf Integer)) ∷ (codes "k", Integer) ∷ []

-- a tree of pairs of an option of a list and a list
abbrev pairs : List (Text × Type')
pairs = (codes "t", TreeOf (PairOf (OptionOf (ListOf Boolean)) (ListOf Integer))) ∷ []

abbrev outer : Given
outer = (codes "l", 100)

abbrev inner : Given
inner = (codes "l.each", 20)

pub record Examples : Type 0 where
  pub two : read (codes "l=100,l.each=20") ≡ Ok (outer ∷ inner ∷ [])
  pub ten_digits : read (codes "l=9999999999") ≡ Ok ((codes "l", 9999999999) ∷ [])
  pub eleven_digits : read (codes "l=00000000001") ≡ Err (Long (codes "l=00000000001"))
  pub no_number : read (codes "l=100,r") ≡ Err (Shape (codes "r"))
  pub no_digits : read (codes "l=") ≡ Err (Shape (codes "l="))
  pub no_name : read (codes "=5") ≡ Err (Shape (codes "=5"))
  pub signed : read (codes "l=-5") ≡ Err (Shape (codes "l=-5"))
  pub behind_comma : read (codes "l=5,") ≡ Err (Shape [])
  pub again : read (codes "l=5,r=6,l=5") ≡ Err (Twice (codes "l"))
  pub of_lists : all_names lists ≡ codes "l" ∷ codes "l.each" ∷ []
  pub of_pairs : all_names pairs ≡ codes "t" ∷ codes "t.each.first.some" ∷ codes "t.each.second" ∷ []
  pub sizes : asked (inner ∷ outer ∷ []) lists ≡ Ok (Elements (Some 100) (Elements (Some 20) NoSize) ∷ NoSize ∷ [])
  pub open_inner : asked_open (outer ∷ []) lists ≡ Ok (Elements (Some 100) (Elements None NoSize) ∷ NoSize ∷ [])
  pub of_tree : asked ((codes "t", 3) ∷ (codes "t.each.second", 4) ∷ (codes "t.each.first.some", 5) ∷ []) pairs
      ≡ Ok (Elements (Some 3) (Parts (Content (Elements (Some 5) NoSize)) (Elements (Some 4) NoSize)) ∷ [])
  pub no_size : asked ((codes "k", 3) ∷ outer ∷ inner ∷ []) lists ≡ Err (Unknown (codes "k"))
  pub not_given : asked (outer ∷ []) lists ≡ Err (NotGiven (codes "l.each"))
  pub none_open : asked_open (outer ∷ inner ∷ []) lists ≡ Err NoneOpen
  pub two_open : asked_open [] lists ≡ Err (TwoOpen (codes "l") (codes "l.each"))
