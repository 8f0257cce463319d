-- Texts cut at a byte, and words between commas.
use Rattle.std.proofs.Common.{◌≡◌, ◌<◌, Bool, true, false, cond, List, [], ◌∷◌, length, Option, Some, None, refl, ap, ◌∙◌, arith, length-append}
use Rattle.std.specs.Prelude.{nat_eq, option_map}
use Rattle.raml_syntax.specs.Tree.{Text}
use Rattle.raml_syntax.specs.Cut.{with_front, cut_at}
use Rattle.raml_syntax.proofs.Cuts.{cut_is}
use Rattle.explain_at.specs.Words.{longer, words_of}

-- the first word, and the words behind it
abbrev first_word : Text → Option (Text × Text) → List Text
first_word text None = text ∷ []
first_word text (Some parts) = parts.0 ∷ words_of parts.1

first_cut : (text : Text) → words_of text ≡ first_word text (cut_at 44 text)
first_cut [] = refl
first_cut (c ∷ text) = by (nat_eq c 44) (cut_at 44 text) (first_cut text)
  where
    by : (b : Bool) (o : Option (Text × Text)) → words_of text ≡ first_word text o →
        cond b ([] ∷ words_of text) (longer c (words_of text)) ≡ first_word (c ∷ text) (cond b (Some ([], text)) (option_map (with_front c) o))
    by true o e = refl
    by false None e = ap (longer c) e
    by false (Some p) e = ap (longer c) e

pub last_word : (text : Text) → cut_at 44 text ≡ None → words_of text ≡ text ∷ []
last_word text e = first_cut text ∙ ap (first_word text) e

pub next_word : (text word behind : Text) → cut_at 44 text ≡ Some (word, behind) → words_of text ≡ word ∷ words_of behind
next_word text word behind e = first_cut text ∙ ap (first_word text) e

pub shorter : (text word behind : Text) → cut_at 44 text ≡ Some (word, behind) → length behind < length text
shorter text word behind e = omega (arith, ap length (cut_is 44 text (word, behind) e), length-append word (44 ∷ behind))
