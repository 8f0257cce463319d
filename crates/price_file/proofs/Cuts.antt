-- Texts cut at a byte, and the first lines of texts.
use Rattle.std.proofs.Common.{◌≡◌, ◌<◌, Bool, true, false, cond, List, [], ◌∷◌, ◌++◌, length, Option, Some, None, refl, ap, arith, length-append}
use Rattle.std.specs.Prelude.{nat_eq, option_map}
use Rattle.raml_syntax.specs.Tree.{Text}
use Rattle.price_file.specs.Spelling.{longer, lines_of}
use Rattle.raml_syntax.specs.Cut.{with_front, cut_at}
use Rattle.raml_syntax.proofs.Cuts.{cut_is}
use Rattle.price_file.specs.Reading.{first_of}

-- the first line, and the lines behind it
abbrev pub line_and_more : Text × Text → List Text
line_and_more parts = parts.0 ∷ lines_of parts.1

pub lines_step : (text : Text) → 0 < length text → lines_of text ≡ line_and_more (first_of text (cut_at 10 text))
lines_step [] h = absurd (omega (arith, h))
lines_step (c ∷ []) h = by (nat_eq c 10)
  where
    by : (b : Bool) → cond b ([] ∷ []) ((c ∷ []) ∷ []) ≡ line_and_more (first_of (c ∷ []) (cond b (Some ([], [])) None))
    by true = refl
    by false = refl
lines_step (c ∷ d ∷ text) h = by (nat_eq c 10) (cut_at 10 (d ∷ text)) (lines_step (d ∷ text) (omega arith))
  where
    by : (b : Bool) (o : Option (Text × Text)) → lines_of (d ∷ text) ≡ line_and_more (first_of (d ∷ text) o) → cond b ([] ∷ lines_of (d ∷ text)) (longer c (lines_of (d ∷ text))) ≡ line_and_more (first_of (c ∷ d ∷ text) (cond b (Some ([], d ∷ text)) (option_map (with_front c) o)))
    by true o e = refl
    by false None e = ap (longer c) e
    by false (Some p) e = ap (longer c) e

-- what stands behind the first line is shorter
pub behind_is_shorter : (text line behind : Text) → 0 < length text → (line, behind) ≡ first_of text (cut_at 10 text) → length behind < length text
behind_is_shorter text line behind h e = by (cut_at 10 text) (cut_is 10 text) e
  where
    by : (o : Option (Text × Text)) → ((parts : Text × Text) → o ≡ Some parts → text ≡ parts.0 ++ 10 ∷ parts.1) → (line, behind) ≡ first_of text o → length behind < length text
    by None is e = let none : behind ≡ [] = ap (λ (p : Text × Text). p.1) e in omega (arith, ap length none, h)
    by (Some parts) is e =
        let same : behind ≡ parts.1 = ap (λ (p : Text × Text). p.1) e in
        omega (arith, ap length same, ap length (is parts refl), length-append parts.0 (10 ∷ parts.1))
