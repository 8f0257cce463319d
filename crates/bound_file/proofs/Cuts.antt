-- Texts cut at a byte, first lines, and the parts between plusses.
use Rattle.std.proofs.Common.{◌≡◌, ◌<◌, ◌≤◌, ◌+◌, ℕ, suc, Bool, true, false, cond, List, [], ◌∷◌, ◌++◌, length, Option, Some, None, refl, sym, ap, ◌∙◌, arith, length-append}
use Rattle.std.specs.Prelude.{nat_eq, option_map}
use Rattle.raml_syntax.specs.Tree.{Text}
use Rattle.bound_file.specs.Answers.{longer, lines_in}
use Rattle.raml_syntax.specs.Cut.{with_front, cut_at}
use Rattle.raml_syntax.proofs.Cuts.{nat_same, cut_is}
use Rattle.bound_file.specs.Reading.{pieces}
use Rattle.bound_file.specs.Lined.{first_of}

-- the first line, and the lines behind it
abbrev pub line_and_more : Text × Text → List Text
line_and_more parts = parts.0 ∷ lines_in parts.1

pub lines_step : (text : Text) → 0 < length text → lines_in text ≡ line_and_more (first_of text (cut_at 10 text))
lines_step [] h = absurd (omega (arith, h))
lines_step (c ∷ []) h = by (nat_eq c 10)
  where
    by : (b : Bool) → cond b ([] ∷ []) ((c ∷ []) ∷ []) ≡ line_and_more (first_of (c ∷ []) (cond b (Some ([], [])) None))
    by true = refl
    by false = refl
lines_step (c ∷ d ∷ text) h = by (nat_eq c 10) (cut_at 10 (d ∷ text)) (lines_step (d ∷ text) (omega arith))
  where
    by : (b : Bool) (o : Option (Text × Text)) → lines_in (d ∷ text) ≡ line_and_more (first_of (d ∷ text) o) → cond b ([] ∷ lines_in (d ∷ text)) (longer c (lines_in (d ∷ text))) ≡ line_and_more (first_of (c ∷ d ∷ text) (cond b (Some ([], d ∷ text)) (option_map (with_front c) o)))
    by true o e = refl
    by false None e = ap (longer c) e
    by false (Some p) e = ap (longer c) e

-- what stands behind a cut is shorter, and so is what stands before it
pub cut_shortens : (m : ℕ) (text : Text) (parts : Text × Text) → cut_at m text ≡ Some parts → length parts.0 + suc (length parts.1) ≡ length text
cut_shortens m text parts e = sym (ap length (cut_is m text parts e) ∙ length-append parts.0 (m ∷ parts.1))

-- neither the first line nor what stands behind it is longer, and the latter is shorter
pub first_shortens : (text line behind : Text) → 0 < length text → (line, behind) ≡ first_of text (cut_at 10 text) → (length line ≤ length text) × (length behind < length text)
first_shortens text line behind h e = by (cut_at 10 text) (cut_shortens 10 text) e
  where
    by : (o : Option (Text × Text)) → ((parts : Text × Text) → o ≡ Some parts → length parts.0 + suc (length parts.1) ≡ length text) → (line, behind) ≡ first_of text o → (length line ≤ length text) × (length behind < length text)
    by None is e =
        let all : length line ≡ length text = ap (λ (p : Text × Text). length p.0) e in
        let none : length behind ≡ 0 = ap (λ (p : Text × Text). length p.1) e in
        (omega (arith, all), omega (arith, none, h))
    by (Some parts) is e =
        let first : length line ≡ length parts.0 = ap (λ (p : Text × Text). length p.0) e in
        let second : length behind ≡ length parts.1 = ap (λ (p : Text × Text). length p.1) e in
        let sum = is parts refl in
        (omega (arith, first, sum), omega (arith, second, sum))

-- the parts of a text between plusses
pub pieces_none : (text : Text) → cut_at 43 text ≡ None → pieces text ≡ text ∷ []
pieces_none [] e = refl
pieces_none (c ∷ text) e = by (nat_eq c 43) (cut_at 43 text) (pieces_none text) e
  where
    by : (b : Bool) (o : Option (Text × Text)) → (o ≡ None → pieces text ≡ text ∷ []) → cond b (Some ([], text)) (option_map (with_front c) o) ≡ None → cond b ([] ∷ pieces text) (longer c (pieces text)) ≡ (c ∷ text) ∷ []
    by true o more e = absurd (cc)
    by false (Some p) more e = absurd (cc)
    by false None more e = ap (longer c) (more refl)

pub pieces_some : (text : Text) (parts : Text × Text) → cut_at 43 text ≡ Some parts → pieces text ≡ parts.0 ∷ pieces parts.1
pieces_some [] parts e = absurd (cc)
pieces_some (c ∷ text) parts e = by (nat_eq c 43) (cut_at 43 text) (pieces_some text) e
  where
    by : (b : Bool) (o : Option (Text × Text)) → ((parts : Text × Text) → o ≡ Some parts → pieces text ≡ parts.0 ∷ pieces parts.1) → cond b (Some ([], text)) (option_map (with_front c) o) ≡ Some parts → cond b ([] ∷ pieces text) (longer c (pieces text)) ≡ parts.0 ∷ pieces parts.1
    by true o more e = let f : ([], text) ≡ parts = cc in ap (λ (p : Text × Text). p.0 ∷ pieces p.1) f
    by false (Some p) more e = let f : with_front c p ≡ parts = cc in ap (longer c) (more p refl) ∙ ap (λ (p : Text × Text). p.0 ∷ pieces p.1) f
    by false None more e = absurd (cc)

-- there is always one
pub record SomeParts (parts : List Text) : Type 0 where
  pub first : Text
  pub more : List Text
  pub are : parts ≡ first ∷ more

pub some_pieces : (text : Text) → SomeParts (pieces text)
some_pieces [] = record { first = []; more = []; are = refl }
some_pieces (c ∷ text) = by (nat_eq c 43) (some_pieces text)
  where
    by : (b : Bool) → SomeParts (pieces text) → SomeParts (cond b ([] ∷ pieces text) (longer c (pieces text)))
    by true s = record { first = []; more = pieces text; are = refl }
    by false s = record { first = c ∷ s.first; more = s.more; are = ap (longer c) s.are }

-- texts without the mark, put together
pub lacks_both : (m : ℕ) (a b : Text) → cut_at m a ≡ None → cut_at m b ≡ None → cut_at m (a ++ b) ≡ None
lacks_both m [] b e f = f
lacks_both m (c ∷ a) b e f = by (nat_eq c m) (cut_at m a) (λ g. lacks_both m a b g f) e
  where
    by : (u : Bool) (o : Option (Text × Text)) → (o ≡ None → cut_at m (a ++ b) ≡ None) → cond u (Some ([], a)) (option_map (with_front c) o) ≡ None → cond u (Some ([], a ++ b)) (option_map (with_front c) (cut_at m (a ++ b))) ≡ None
    by true o more e = absurd (cc)
    by false (Some p) more e = absurd (cc)
    by false None more e = ap (option_map (with_front c)) (more refl)

-- parts, with a plus between each two
abbrev pub joined : List Text → Text
joined [] = []
joined (part ∷ []) = part
joined (part ∷ next ∷ parts) = part ++ 43 ∷ joined (next ∷ parts)

joined_cons : (first : Text) (parts : List Text) → SomeParts parts → joined (first ∷ parts) ≡ first ++ 43 ∷ joined parts
joined_cons first parts s = ap (λ ps. joined (first ∷ ps)) s.are ∙ ap (λ ps. first ++ 43 ∷ joined ps) (sym s.are)

joined_longer : (c : ℕ) (parts : List Text) → SomeParts parts → joined (longer c parts) ≡ c ∷ joined parts
joined_longer c parts s = ap (λ ps. joined (longer c ps)) s.are ∙ at s.first s.more ∙ ap (λ ps. c ∷ joined ps) (sym s.are)
  where
    at : (first : Text) (more : List Text) → joined ((c ∷ first) ∷ more) ≡ c ∷ joined (first ∷ more)
    at first [] = refl
    at first (next ∷ more) = refl

pub pieces_join : (text : Text) → joined (pieces text) ≡ text
pieces_join [] = refl
pieces_join (c ∷ text) = by (nat_eq c 43) (nat_same c 43) (pieces_join text)
  where
    by : (b : Bool) → (b ≡ true → c ≡ 43) → joined (pieces text) ≡ text → joined (cond b ([] ∷ pieces text) (longer c (pieces text))) ≡ c ∷ text
    by true same e = joined_cons [] (pieces text) (some_pieces text) ∙ (λ i. sym (same refl) i ∷ e i)
    by false same e = joined_longer c (pieces text) (some_pieces text) ∙ ap (λ w. c ∷ w) e
