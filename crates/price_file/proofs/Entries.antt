-- What a line sets is what is read of it.
use Rattle.std.proofs.Common.{◌≡◌, ◌≤◌, ◌<◌, ◌+◌, suc, drop, get_or, drop-cons, ℕ, Bool, true, false, cond, List, [], ◌∷◌, ◌++◌, length, Result, Ok, Option, Some, None, refl, sym, ap, subst, ◌∙◌, arith}
use Rattle.std.proofs.lemmas.Bool.{and_parts, leb-true, le-leb}
use Rattle.std.proofs.lemmas.Str.Parse.{IsNumeralModel, numerals_by_value, tells_digits, tells_all_ascii_digits, digits_value_short, parse_gives}
use Rattle.std.specs.Prelude.{nat_le, ◌&&◌}
use Rattle.std.specs.Str.{bytes_eq, all_ascii_digits}
use Rattle.std.specs.Str.Parse.{AllDigits, IsNumeral, digits_value, ParsesUnsigned}
use Rattle.std.specs.Cmp.Lexicographic.{bytes_decides}
use Rattle.raml_syntax.specs.Tree.{Text}
use Rattle.price_file.specs.Construct.{Construct, name_of, constructs, Number, Truth, Var, Nil, Leaf, Nothing, Arith, Compare, Not, Pair, Cons, Node, Just, Call, Let, If, Match, Tick}
use Rattle.price_file.specs.Spelling.{Sets}
use Rattle.raml_syntax.specs.Cut.{cut_at}
use Rattle.price_file.specs.Reading.{named_among, named, is_short, price_read, entry_with, entry_from, entry_of}
use Rattle.raml_syntax.proofs.Cuts.{cut_is}

-- no name has a space
cut_name : (c : Construct) (rest : Text) → cut_at 32 (name_of c ++ 32 ∷ rest) ≡ Some (name_of c, rest)
cut_name Number rest = refl
cut_name Truth rest = refl
cut_name Var rest = refl
cut_name Nil rest = refl
cut_name Leaf rest = refl
cut_name Nothing rest = refl
cut_name Arith rest = refl
cut_name Compare rest = refl
cut_name Not rest = refl
cut_name Pair rest = refl
cut_name Cons rest = refl
cut_name Node rest = refl
cut_name Just rest = refl
cut_name Call rest = refl
cut_name Let rest = refl
cut_name If rest = refl
cut_name Match rest = refl
cut_name Tick rest = refl

-- each construct is found by its name
found : (c : Construct) → named (name_of c) ≡ Some c
found Number = refl
found Truth = refl
found Var = refl
found Nil = refl
found Leaf = refl
found Nothing = refl
found Arith = refl
found Compare = refl
found Not = refl
found Pair = refl
found Cons = refl
found Node = refl
found Just = refl
found Call = refl
found Let = refl
found If = refl
found Match = refl
found Tick = refl

has_name : (word : Text) (c : Construct) (cs : List Construct) → named_among word cs ≡ Some c → name_of c ≡ word
has_name word c [] e = absurd (cc)
has_name word c (d ∷ cs) e = by (bytes_eq (name_of d) word) (bytes_decides (name_of d) word).0 (has_name word c cs) e
  where
    by : (b : Bool) → (b ≡ true → name_of d ≡ word) → (named_among word cs ≡ Some c → name_of c ≡ word) → cond b (Some d) (named_among word cs) ≡ Some c → name_of c ≡ word
    by true same more e = let f : d ≡ c = cc in subst (λ x. name_of x ≡ word) f (same refl)
    by false same more e = more e

ascii : IsNumeralModel (λ ds. all_ascii_digits ds ≡ true) (digits_value 10)
ascii = numerals_by_value _ tells_all_ascii_digits

plain : IsNumeralModel (AllDigits 10) (digits_value 10)
plain = numerals_by_value _ tells_digits

numeral_of : (s : Text) → is_short s ≡ true → IsNumeral 10 s × (length s ≤ 7)
numeral_of s e =
    let h = and_parts (nat_le 1 (length s) && nat_le (length s) 7) (all_ascii_digits s) e in
    let k = and_parts (nat_le 1 (length s)) (nat_le (length s) 7) h.0 in
    ((leb-true 1 (length s) k.0, ascii.to s h.1), leb-true (length s) 7 k.1)

of_numeral : (s : Text) → IsNumeral 10 s → length s ≤ 7 → is_short s ≡ true
of_numeral s h few = rw (le-leb 1 (length s) h.0, le-leb (length s) 7 few) (ascii.from s h.1)

-- so few digits are read
pub number_read : {E : Type 0} (s : Text) (r : Result ℕ E) → is_short s ≡ true → ParsesUnsigned 32 10 s r → r ≡ Ok (digits_value 10 s)
number_read s r e parsed =
    let h = numeral_of s e in
    let small = digits_value_short plain s 7 h.0.1 h.1 in
    parse_gives plain 32 s r parsed h.0.1 h.0.0 (omega (arith, small))

-- the digits are those of a price
record IsPrice (digits : Text) (n : ℕ) : Type 0 where
  numeral : IsNumeral 10 digits
  few : length digits ≤ 7
  value : n ≡ digits_value 10 digits
  most : n ≤ 1000000

price_is : (digits : Text) (n : ℕ) → price_read digits ≡ Some n → IsPrice digits n
price_is digits n e = by (is_short digits) (numeral_of digits) (nat_le v 1000000) (leb-true v 1000000) e
  where
    v : ℕ
    v = digits_value 10 digits

    by : (b : Bool) → (b ≡ true → IsNumeral 10 digits × (length digits ≤ 7)) → (s : Bool) → (s ≡ true → v ≤ 1000000) → cond b (cond s (Some v) None) None ≡ Some n → IsPrice digits n
    by true numeral true most e =
        let is : v ≡ n = cc in
        let h = numeral refl in
        subst (IsPrice digits) is (record { numeral = h.0; few = h.1; value = refl; most = most refl })
    by true numeral false most e = absurd (cc)
    by false numeral s most e = absurd (cc)

price_there : (digits : Text) (n : ℕ) → IsPrice digits n → price_read digits ≡ Some n
price_there digits n h =
    let most : digits_value 10 digits ≤ 1000000 = subst (λ x. x ≤ 1000000) h.value h.most in
    rw (of_numeral digits h.numeral h.few, le-leb (digits_value 10 digits) 1000000 most) (ap Some (sym h.value))

pub is_set : (line : Text) (c : Construct) (n : ℕ) → entry_of line ≡ Some (c, n) → Sets line c n
is_set line c n e = at (cut_at 32 line) (cut_is 32 line) e
  where
    in_parts : (parts : Text × Text) (name : Option Construct) (price : Option ℕ) → named parts.0 ≡ name → price_read parts.1 ≡ price → entry_with name price ≡ Some (c, n) → line ≡ parts.0 ++ 32 ∷ parts.1 → Sets line c n
    in_parts parts (Some d) (Some m) named priced e is =
        let same : (d, m) ≡ (c, n) = cc in
        let first : d ≡ c = ap (λ (p : Construct × ℕ). p.0) same in
        let second : m ≡ n = ap (λ (p : Construct × ℕ). p.1) same in
        let name : name_of c ≡ parts.0 = has_name parts.0 c constructs (named ∙ ap Some first) in
        let p = price_is parts.1 n (priced ∙ ap Some second) in
        record { digits = parts.1; spelled = is ∙ ap (λ (w : Text). w ++ 32 ∷ parts.1) (sym name); numeral = p.numeral; few = p.few; value = p.value; most = p.most }
    in_parts parts None price named priced e is = absurd (cc)
    in_parts parts (Some d) None named priced e is = absurd (cc)

    at : (o : Option (Text × Text)) → ((parts : Text × Text) → o ≡ Some parts → line ≡ parts.0 ++ 32 ∷ parts.1) → entry_from o ≡ Some (c, n) → Sets line c n
    at None is e = absurd (cc)
    at (Some parts) is e = in_parts parts (named parts.0) (price_read parts.1) refl refl e (is parts refl)

pub is_read : (line : Text) (c : Construct) (n : ℕ) → Sets line c n → entry_of line ≡ Some (c, n)
is_read line c n h =
    let p : IsPrice h.digits n = record { numeral = h.numeral; few = h.few; value = h.value; most = h.most } in
    ap entry_of h.spelled ∙ ap entry_from (cut_name c h.digits) ∙ ap (λ o. entry_with o (price_read h.digits)) (found c)
    ∙ ap (entry_with (Some c)) (price_there h.digits n p)

-- the search goes on behind a construct of another name
pub next_named : (word name : Text) (cs : List Construct) (i : ℕ) (d : Construct) → i < length cs → name ≡ name_of (get_or cs i d) → bytes_eq name word ≡ false → (o : Option Construct) → o ≡ named_among word (drop i cs) → o ≡ named_among word (drop (i + 1) cs)
next_named word name cs i d h is differs o e =
    let front : drop i cs ≡ get_or cs i d ∷ drop (suc i) cs = drop-cons cs i d h in
    let other : bytes_eq (name_of (get_or cs i d)) word ≡ false = ap (λ n. bytes_eq n word) (sym is) ∙ differs in
    let one : i + 1 ≡ suc i = omega arith in
    e ∙ ap (named_among word) front ∙ ap (λ b. cond b (Some (get_or cs i d)) (named_among word (drop (suc i) cs))) other
    ∙ ap (λ k. named_among word (drop k cs)) (sym one)
