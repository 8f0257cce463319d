-- What is told of names.
use Rattle.std.proofs.Common.{◌≡◌, ℕ, Bool, true, false, cond, not, [], ◌∷◌, Some, None, refl, sym, ap, ◌∙◌, arith}
use Rattle.std.proofs.lemmas.Bool.{and_parts, and_from}
use Rattle.std.specs.Prelude.{Contains, ◌&&◌, bytes_eq, nat_eq, option_map}
use Rattle.std.proofs.lemmas.Bool.Decides.{nat_tests}
use Rattle.std.specs.List.{AllPass, list_all, list_any}
use Rattle.std.proofs.lemmas.List.Sums.{AllPass-from_list_all}
use Rattle.std.proofs.lemmas.List.Folds.{list_any_at}
use Rattle.std.proofs.lemmas.Slice.Eq.{bytes_eq-Decides}
use Rattle.std.specs.Cmp.Lexicographic.{same_text}
use Rattle.std.proofs.lemmas.Map.Views.{Contains-from_any}
use Rattle.raml_syntax.specs.Tree.{Text}
use Rattle.raml_lex.specs.declared.token.TokenKind.TheVariants.{Name}
use Rattle.raml_lex.specs.Lexemes.{is_lower, is_name_part, keywords, IsWord, IsLexeme}
use Rattle.raml_lex.proofs.Words.{word_passes}
use Rattle.raml_lex.proofs.Runs.{passes-head, passes-tail}
use Rattle.raml_syntax.specs.Cut.{cut_at, with_front}
use Rattle.bound_file.specs.Reading.{is_word, is_name}

no : {A : Type 0} → false ≡ true → A
no e = absurd (cc)

all_told : (p : ℕ → Bool) (s : Text) → AllPass p s → list_all p s ≡ true
all_told p [] h = refl
all_told p (c ∷ s) h = and_from (p c) (list_all p s) (passes-head p c s h) (all_told p s (passes-tail p c s h))

word_told : (w : Text) → IsWord w → is_word w ≡ true
word_told [] h = absurd h
word_told (c ∷ s) h = and_from (is_lower c) (list_all is_name_part s) h.0 (all_told is_name_part s h.1)

word_is : (w : Text) → is_word w ≡ true → IsWord w
word_is [] e = no e
word_is (c ∷ s) e = let p = and_parts (is_lower c) (list_all is_name_part s) e in (p.0, AllPass-from_list_all is_name_part s p.1)

abbrev is_keyword : Text → Bool
is_keyword w = list_any (λ keyword. bytes_eq keyword w) keywords

keyword_is : (w : Text) → is_keyword w ≡ true → Contains keywords w
keyword_is w e = Contains-from_any {eq = λ x y. bytes_eq y x} (λ x y e. sym (same_text y x (sym e))) w keywords e

keyword_told : (w : Text) → Contains keywords w → is_keyword w ≡ true
keyword_told w has = list_any_at (λ keyword. bytes_eq keyword w) keywords has.0 w has.1 (ap (λ k. bytes_eq k w) has.2 ∙ (bytes_eq-Decides w w).1 refl)

pub name_is : (w : Text) → is_name w ≡ true → IsLexeme Name w
name_is w e =
    let p = and_parts (is_word w) (not (is_keyword w)) e in
    (word_is w p.0, λ has. apart (is_keyword w) (keyword_told w has) p.1)
  where
    apart : (b : Bool) → b ≡ true → not b ≡ true → ⊥
    apart true q f = no f
    apart false q f = no q

pub name_told : (w : Text) → IsLexeme Name w → is_name w ≡ true
name_told w h = both (is_word w) (is_keyword w) (word_told w h.0) (λ e. h.1 (keyword_is w e))
  where
    both : (a b : Bool) → a ≡ true → (b ≡ true → ⊥) → (a && not b) ≡ true
    both true true e f = absurd (f refl)
    both true false e f = refl
    both false b e f = no e

-- a name has no space
part_lacks : (s : Text) → AllPass is_name_part s → cut_at 32 s ≡ None
part_lacks [] h = refl
part_lacks (c ∷ s) h =
    ap (λ b. cond b (Some ([], s)) (option_map (with_front c) (cut_at 32 s))) (apart c (passes-head is_name_part c s h))
    ∙ ap (option_map (with_front c)) (part_lacks s (passes-tail is_name_part c s h))
  where
    apart : (c : ℕ) → is_name_part c ≡ true → nat_eq c 32 ≡ false
    apart c e = grind (arith, nat_tests, e)

pub name_lacks : (w : Text) → IsLexeme Name w → cut_at 32 w ≡ None
name_lacks w h = part_lacks w (word_passes w h.0)
