-- What `clap` makes of the ordered words of `run`.
use Rattle.std.proofs.Common.{◌≡◌, ℕ, Bool, true, false, cond, List, [], ◌∷◌, Option, Some, None, codes, refl, sym, ap, ◌∙◌}
use Rattle.std.specs.Prelude.{◌&&◌, option_map, option_and_then}
use Rattle.raml_words.specs.Words.{Text}
use Rattle.raml_words.specs.Sorting.{optional, run_with, run_by}
use Rattle.raml_words.specs.Apps.{run_app, ordered, run_pairs, accepted, has_three}
use Rattle.raml_words.specs.Clapped.{is_taken, found, taken_as, run_texts}
use Rattle.raml_words.specs.Made.{given_number, run_clapped, run_made}
use Rattle.raml_words.proofs.RunWalk.{run_taken, run_finds}
use Rattle.raml_words.proofs.Found.{refused_number}

pub and_false : (a : Bool) → (a && false) ≡ false
and_false true = refl
and_false false = refl

run_not : (words : List Text) → is_taken run_app words ≡ false → taken_as run_app run_texts words ≡ None
run_not words e = ap (λ b. cond b (run_texts (found run_app words)) None) e

pub refused_option : (least most : ℕ) (o : Option Text) → given_number o ≡ true → accepted least most o ≡ false → optional least most o ≡ None
refused_option least most None n e = absurd (cc)
refused_option least most (Some v) n e = ap (option_map Some) (refused_number least most v n e)

no_steps : (a b x : Text) (s c d : Option (Option ℕ)) → s ≡ None → run_with a b x s c d ≡ None
no_steps a b x s c d e = rw e refl

no_cells : (a b x : Text) (s c d : Option (Option ℕ)) → c ≡ None → run_with a b x s c d ≡ None
no_cells a b x None c d e = refl
no_cells a b x (Some s) c d e = rw e refl

no_degree : (a b x : Text) (s c d : Option (Option ℕ)) → d ≡ None → run_with a b x s c d ≡ None
no_degree a b x None c d e = refl
no_degree a b x (Some s) None d e = refl
no_degree a b x (Some s) (Some c) d e = rw e refl

found_three : (s l g : Option Text) (a b x : Text) → is_taken run_app (ordered (codes "run") (run_pairs s l g) (a ∷ b ∷ x ∷ [])) ≡ true
    → taken_as run_app run_texts (ordered (codes "run") (run_pairs s l g) (a ∷ b ∷ x ∷ [])) ≡ Some (record { file = a; name = b; input = x; steps = s; cells = l; degree = g })
found_three s l g a b x e = let f = run_finds s l g a b x in rw (e, f.file, f.name, f.input, f.steps, f.cells, f.degree) refl

three : (s l g : Option Text) (a b x : Text) (i j k : Bool) → given_number s ≡ true → given_number l ≡ true → given_number g ≡ true
    → accepted 1 1000000000 s ≡ i → accepted 0 16777216 l ≡ j → accepted 1 4 g ≡ k → option_and_then run_made (run_clapped s l g (a ∷ b ∷ x ∷ [])) ≡ run_by (a ∷ b ∷ x ∷ []) s l g
three s l g a b x true true true n m o p q r =
    let taken : is_taken run_app (ordered (codes "run") (run_pairs s l g) (a ∷ b ∷ x ∷ [])) ≡ true = run_taken s l g (a ∷ b ∷ x ∷ []) ∙ rw (p, q, r) refl in
    ap (option_and_then run_made) (found_three s l g a b x taken)
three s l g a b x false j k n m o p q r =
    let words = ordered (codes "run") (run_pairs s l g) (a ∷ b ∷ x ∷ []) in
    let taken : is_taken run_app words ≡ false = run_taken s l g (a ∷ b ∷ x ∷ []) ∙ rw p refl in
    ap (option_and_then run_made) (run_not words taken) ∙ sym (no_steps a b x _ _ _ (refused_option 1 1000000000 s n p))
three s l g a b x true false k n m o p q r =
    let words = ordered (codes "run") (run_pairs s l g) (a ∷ b ∷ x ∷ []) in
    let taken : is_taken run_app words ≡ false = run_taken s l g (a ∷ b ∷ x ∷ []) ∙ rw (p, q) refl in
    ap (option_and_then run_made) (run_not words taken) ∙ sym (no_cells a b x _ _ _ (refused_option 0 16777216 l m q))
three s l g a b x true true false n m o p q r =
    let words = ordered (codes "run") (run_pairs s l g) (a ∷ b ∷ x ∷ []) in
    let taken : is_taken run_app words ≡ false = run_taken s l g (a ∷ b ∷ x ∷ []) ∙ rw (p, q, r) refl in
    ap (option_and_then run_made) (run_not words taken) ∙ sym (no_degree a b x _ _ _ (refused_option 1 4 g o r))

all_false : (a b c : Bool) → (a && (b && (c && false))) ≡ false
all_false a b c = rw (and_false c, and_false b, and_false a) refl

other : (s l g : Option Text) (os : List Text) → has_three os ≡ false → option_and_then run_made (run_clapped s l g os) ≡ None
other s l g os e =
    let taken : is_taken run_app (ordered (codes "run") (run_pairs s l g) os) ≡ false = run_taken s l g os ∙ rw e (all_false (accepted 1 1000000000 s) (accepted 0 16777216 l) (accepted 1 4 g)) in
    ap (option_and_then run_made) (run_not (ordered (codes "run") (run_pairs s l g) os) taken)

pub run_law : (s l g : Option Text) (os : List Text) → given_number s ≡ true → given_number l ≡ true → given_number g ≡ true → option_and_then run_made (run_clapped s l g os) ≡ run_by os s l g
run_law s l g (a ∷ b ∷ x ∷ []) n m o = three s l g a b x (accepted 1 1000000000 s) (accepted 0 16777216 l) (accepted 1 4 g) n m o refl refl refl
run_law s l g [] n m o = other s l g [] refl
run_law s l g (a ∷ []) n m o = other s l g (a ∷ []) refl
run_law s l g (a ∷ b ∷ []) n m o = other s l g (a ∷ b ∷ []) refl
run_law s l g (a ∷ b ∷ x ∷ y ∷ os) n m o = other s l g (a ∷ b ∷ x ∷ y ∷ os) refl

pub no_number : (least most : ℕ) (o : Option Text) → given_number o ≡ false → optional least most o ≡ None
no_number least most None e = absurd (cc)
no_number least most (Some v) e = rw e refl

pub run_no_number : (s l g : Option Text) (os : List Text) (i j k : Bool) → given_number s ≡ i → given_number l ≡ j → given_number g ≡ k → (i && (j && k)) ≡ false → run_by os s l g ≡ None
run_no_number s l g [] i j k p q r e = refl
run_no_number s l g (a ∷ []) i j k p q r e = refl
run_no_number s l g (a ∷ b ∷ []) i j k p q r e = refl
run_no_number s l g (a ∷ b ∷ x ∷ y ∷ os) i j k p q r e = refl
run_no_number s l g (a ∷ b ∷ x ∷ []) false j k p q r e = no_steps a b x _ _ _ (no_number 1 1000000000 s p)
run_no_number s l g (a ∷ b ∷ x ∷ []) true false k p q r e = no_cells a b x _ _ _ (no_number 0 16777216 l q)
run_no_number s l g (a ∷ b ∷ x ∷ []) true true false p q r e = no_degree a b x _ _ _ (no_number 1 4 g r)
run_no_number s l g (a ∷ b ∷ x ∷ []) true true true p q r e = absurd (cc)
