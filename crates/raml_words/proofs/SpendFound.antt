-- What `clap` makes of the ordered words of `spend`.
use Rattle.std.proofs.Common.{◌≡◌, ℕ, Bool, true, false, cond, List, [], ◌∷◌, Option, Some, None, codes, refl, sym, ap, ◌∙◌}
use Rattle.std.specs.Prelude.{◌&&◌, option_and_then}
use Rattle.raml_words.specs.Words.{Text}
use Rattle.raml_words.specs.Sorting.{spend_with, spend_by}
use Rattle.raml_words.specs.Apps.{spend_app, ordered, spend_pairs, accepted, has_four}
use Rattle.raml_words.specs.Clapped.{is_taken, found, taken_as, spend_texts}
use Rattle.raml_words.specs.Made.{given_number, spend_clapped, spend_made}
use Rattle.raml_words.proofs.SpendWalk.{spend_taken, spend_finds}
use Rattle.raml_words.proofs.RunFound.{and_false, refused_option, no_number}

spend_not : (words : List Text) → is_taken spend_app words ≡ false → taken_as spend_app spend_texts words ≡ None
spend_not words e = ap (λ b. cond b (spend_texts (found spend_app words)) None) e

no_steps : (a b c d : Text) (s l : Option (Option ℕ)) → s ≡ None → spend_with a b c d s l ≡ None
no_steps a b c d s l e = rw e refl

no_cells : (a b c d : Text) (s l : Option (Option ℕ)) → l ≡ None → spend_with a b c d s l ≡ None
no_cells a b c d None l e = refl
no_cells a b c d (Some s) l e = rw e refl

found_four : (s l : Option Text) (a b c d : Text) → is_taken spend_app (ordered (codes "spend") (spend_pairs s l) (a ∷ b ∷ c ∷ d ∷ [])) ≡ true
    → taken_as spend_app spend_texts (ordered (codes "spend") (spend_pairs s l) (a ∷ b ∷ c ∷ d ∷ [])) ≡ Some (record { file = a; prices = b; name = c; input = d; steps = s; cells = l })
found_four s l a b c d e = let f = spend_finds s l a b c d in rw (e, f.file, f.prices, f.name, f.input, f.steps, f.cells) refl

four : (s l : Option Text) (a b c d : Text) (i j : Bool) → given_number s ≡ true → given_number l ≡ true → accepted 1 1000000000 s ≡ i → accepted 0 16777216 l ≡ j
    → option_and_then spend_made (spend_clapped s l (a ∷ b ∷ c ∷ d ∷ [])) ≡ spend_by (a ∷ b ∷ c ∷ d ∷ []) s l
four s l a b c d true true n m p q =
    let taken : is_taken spend_app (ordered (codes "spend") (spend_pairs s l) (a ∷ b ∷ c ∷ d ∷ [])) ≡ true = spend_taken s l (a ∷ b ∷ c ∷ d ∷ []) ∙ rw (p, q) refl in
    ap (option_and_then spend_made) (found_four s l a b c d taken)
four s l a b c d false j n m p q =
    let words = ordered (codes "spend") (spend_pairs s l) (a ∷ b ∷ c ∷ d ∷ []) in
    let taken : is_taken spend_app words ≡ false = spend_taken s l (a ∷ b ∷ c ∷ d ∷ []) ∙ rw p refl in
    ap (option_and_then spend_made) (spend_not words taken) ∙ sym (no_steps a b c d _ _ (refused_option 1 1000000000 s n p))
four s l a b c d true false n m p q =
    let words = ordered (codes "spend") (spend_pairs s l) (a ∷ b ∷ c ∷ d ∷ []) in
    let taken : is_taken spend_app words ≡ false = spend_taken s l (a ∷ b ∷ c ∷ d ∷ []) ∙ rw (p, q) refl in
    ap (option_and_then spend_made) (spend_not words taken) ∙ sym (no_cells a b c d _ _ (refused_option 0 16777216 l m q))

other : (s l : Option Text) (os : List Text) → has_four os ≡ false → option_and_then spend_made (spend_clapped s l os) ≡ None
other s l os h =
    let some = ap (λ b. accepted 1 1000000000 s && (accepted 0 16777216 l && b)) h in
    let none = ap (λ b. accepted 1 1000000000 s && b) (and_false (accepted 0 16777216 l)) ∙ and_false (accepted 1 1000000000 s) in
    ap (option_and_then spend_made) (spend_not (ordered (codes "spend") (spend_pairs s l) os) (spend_taken s l os ∙ some ∙ none))

pub spend_law : (s l : Option Text) (os : List Text) → given_number s ≡ true → given_number l ≡ true → option_and_then spend_made (spend_clapped s l os) ≡ spend_by os s l
spend_law s l (a ∷ b ∷ c ∷ d ∷ []) n m = four s l a b c d (accepted 1 1000000000 s) (accepted 0 16777216 l) n m refl refl
spend_law s l [] n m = other s l [] refl
spend_law s l (a ∷ []) n m = other s l (a ∷ []) refl
spend_law s l (a ∷ b ∷ []) n m = other s l (a ∷ b ∷ []) refl
spend_law s l (a ∷ b ∷ c ∷ []) n m = other s l (a ∷ b ∷ c ∷ []) refl
spend_law s l (a ∷ b ∷ c ∷ d ∷ f ∷ os) n m = other s l (a ∷ b ∷ c ∷ d ∷ f ∷ os) refl

pub spend_no_number : (s l : Option Text) (os : List Text) (i j : Bool) → given_number s ≡ i → given_number l ≡ j → (i && j) ≡ false → spend_by os s l ≡ None
spend_no_number s l [] i j p q r = refl
spend_no_number s l (a ∷ []) i j p q r = refl
spend_no_number s l (a ∷ b ∷ []) i j p q r = refl
spend_no_number s l (a ∷ b ∷ c ∷ []) i j p q r = refl
spend_no_number s l (a ∷ b ∷ c ∷ d ∷ f ∷ os) i j p q r = refl
spend_no_number s l (a ∷ b ∷ c ∷ d ∷ []) false j p q r = no_steps a b c d _ _ (no_number 1 1000000000 s p)
spend_no_number s l (a ∷ b ∷ c ∷ d ∷ []) true false p q r = no_cells a b c d _ _ (no_number 0 16777216 l q)
spend_no_number s l (a ∷ b ∷ c ∷ d ∷ []) true true p q r = absurd (cc)
