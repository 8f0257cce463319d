-- What stands behind words that are stripped.
use Rattle.std.proofs.Common.{◌≡◌, ◌<◌, ℕ, suc, arith, drop-cons, get_or, Bool, true, false, cond, List, [], ◌∷◌, ◌++◌, length, take, drop, Option, Some, None, refl, sym, ap, subst, ◌∙◌, append_assoc}
use Rattle.std.proofs.lemmas.Bool.{ne_eqb}
use Rattle.std.specs.Prelude.{nat_eq, ◌&&◌, ◌==◌, ◌+◌, codes}
use Rattle.std.specs.Option.{MatchOption}
use Rattle.std.specs.Borrow.{Bor}
use Rattle.std.specs.Str.{bytes_eq}
use Rattle.std.specs.Cmp.Lexicographic.{bytes_decides}
use lib.Pointwise.{pointwise}
use Rattle.raml_syntax.specs.Tree.{Text}
use Rattle.base_poly.specs.Plain.{Plain, Pair, many, degrees}
use Rattle.base_poly.specs.Read.{index_of, plains_of}
use Rattle.base_poly.specs.declared.index.Index.{Index}
use Rattle.poly_text.specs.Text.{index_text, more_entries, entries_text}
use Rattle.poly_text.proofs.Ordered.{bracketed}
use Rattle.bound_file.specs.Spelling.{tuple_text}
use Rattle.bound_file.specs.Strip.{lent_bytes, behind_word, stripped, is_at_end}

-- what the library's stripping answers
cut_behind : (s w : Text) → behind_word s w ≡ cond (pointwise nat_eq (take (length w) s) w) (Some (drop (length w) s)) None
cut_behind [] [] = refl
cut_behind (c ∷ s) [] = refl
cut_behind [] (b ∷ w) = refl
cut_behind (c ∷ s) (b ∷ w) = at (nat_eq c b) (cut_behind s w)
  where
    at : (u : Bool) → behind_word s w ≡ cond (pointwise nat_eq (take (length w) s) w) (Some (drop (length w) s)) None → cond u (behind_word s w) None ≡ cond (u && pointwise nat_eq (take (length w) s) w) (Some (drop (length w) s)) None
    at true e = e
    at false e = refl

pub strip_from : (o : Option (Bor (List ℕ))) (s : Bor (List ℕ)) (w : Text) (r : Option (Bor (List ℕ))) → o ≡ Some s →
    MatchOption r (pointwise nat_eq (take (length w) s.now) w ≡ false) (λ x. (pointwise nat_eq (take (length w) s.now) w ≡ true) × (x.now ≡ drop (length w) s.now) × (length x.now + length w ≡ length s.now)) →
    lent_bytes r ≡ stripped (lent_bytes o) w
strip_from o s w None is h = sym (ap (λ o. stripped (lent_bytes o) w) is ∙ cut_behind s.now w ∙ ap (λ b. cond b (Some (drop (length w) s.now)) None) h)
strip_from o s w (Some x) is h = ap Some h.1 ∙ sym (ap (λ o. stripped (lent_bytes o) w) is ∙ cut_behind s.now w ∙ ap (λ b. cond b (Some (drop (length w) s.now)) None) h.0)

-- one word behind another
behind_both : (s a b : Text) → behind_word s (a ++ b) ≡ stripped (behind_word s a) b
behind_both [] [] b = refl
behind_both (c ∷ s) [] b = refl
behind_both [] (d ∷ a) b = refl
behind_both (c ∷ s) (d ∷ a) b = at (nat_eq c d) (behind_both s a b)
  where
    at : (u : Bool) → behind_word s (a ++ b) ≡ stripped (behind_word s a) b → cond u (behind_word s (a ++ b)) None ≡ stripped (cond u (behind_word s a) None) b
    at true e = e
    at false e = refl

pub stripped_both : (o : Option Text) (a b : Text) → stripped o (a ++ b) ≡ stripped (stripped o a) b
stripped_both None a b = refl
stripped_both (Some s) a b = behind_both s a b

pub three_stripped : (o p q r : Option Text) (a b c : Text) → p ≡ stripped o a → q ≡ stripped p b → r ≡ stripped q c → r ≡ stripped o (a ++ (b ++ c))
three_stripped o p q r a b c e f g =
    g ∙ ap (λ x. stripped x c) (f ∙ ap (λ x. stripped x b) e) ∙ sym (stripped_both o a (b ++ c) ∙ stripped_both (stripped o a) b c)

pub list_stripped : (o p q r : Option Text) (is : List Plain) → p ≡ stripped o (91 ∷ []) → q ≡ stripped p (entries_text (many is)) → r ≡ stripped q (93 ∷ []) → r ≡ stripped o (index_text (many is))
list_stripped o p q r is e f g = three_stripped o p q r (91 ∷ []) (entries_text (many is)) (93 ∷ []) e f g ∙ ap (stripped o) (sym (bracketed is))

pub pair_stripped : (o p q r s t : Option Text) (i j : Plain) → p ≡ stripped o (40 ∷ []) → q ≡ stripped p (index_text i) → r ≡ stripped q (44 ∷ 32 ∷ []) → s ≡ stripped r (index_text j) → t ≡ stripped s (41 ∷ []) → t ≡ stripped o (index_text (Pair i j))
pair_stripped o p q r s t i j e f g h k =
    let A = index_text i in
    let B = index_text j in
    three_stripped r r s t [] B (41 ∷ []) (none r) h k
    ∙ ap (λ x. stripped x (B ++ 41 ∷ [])) (three_stripped o p q r (40 ∷ []) A (44 ∷ 32 ∷ []) e f g)
    ∙ sym (stripped_both o (40 ∷ (A ++ 44 ∷ 32 ∷ [])) (B ++ 41 ∷ []))
    ∙ ap (λ w. stripped o (40 ∷ w)) (append_assoc A (44 ∷ 32 ∷ []) (B ++ 41 ∷ []))
  where
    none : (r : Option Text) → r ≡ stripped r []
    none None = refl
    none (Some []) = refl
    none (Some (c ∷ w)) = refl

-- the entry next to be stripped
pub entry_stripped : (first : Bool) (o p q whole : Option Text) (i : Plain) (is : List Plain) →
    stripped o (cond first (entries_text (many (i ∷ is))) (more_entries (many (i ∷ is)))) ≡ whole → p ≡ cond first o (stripped o (44 ∷ 32 ∷ [])) → q ≡ stripped p (index_text i) → stripped q (more_entries (many is)) ≡ whole
entry_stripped true o p q whole i is h e f =
    ap (λ x. stripped x (more_entries (many is))) (f ∙ ap (λ x. stripped x (index_text i)) e) ∙ sym (stripped_both o (index_text i) (more_entries (many is))) ∙ h
entry_stripped false o p q whole i is h e f =
    ap (λ x. stripped x (more_entries (many is))) (f ∙ ap (λ x. stripped x (index_text i)) e)
    ∙ sym (stripped_both o (44 ∷ 32 ∷ []) (index_text i ++ more_entries (many is)) ∙ stripped_both (stripped o (44 ∷ 32 ∷ [])) (index_text i) (more_entries (many is))) ∙ h

-- The text of a tuple

at_end_is : (s w : Text) → is_at_end (behind_word s w) ≡ true → s ≡ w
at_end_is [] [] e = refl
at_end_is (c ∷ s) [] e = absurd (let p : false ≡ true = e in cc)
at_end_is [] (b ∷ w) e = absurd (let p : false ≡ true = e in cc)
at_end_is (c ∷ s) (b ∷ w) e = at (nat_eq c b) (same c b) (at_end_is s w) e
  where
    same : (c b : ℕ) → nat_eq c b ≡ true → c ≡ b
    same c b q = grind (arith, q)

    at : (u : Bool) → (u ≡ true → c ≡ b) → (is_at_end (behind_word s w) ≡ true → s ≡ w) → is_at_end (cond u (behind_word s w) None) ≡ true → c ∷ s ≡ b ∷ w
    at true f g e = λ i. f refl i ∷ g e i
    at false f g e = absurd (let p : false ≡ true = e in cc)

at_end_there : (s : Text) → is_at_end (behind_word s s) ≡ true
at_end_there [] = refl
at_end_there (c ∷ s) = ap (λ b. is_at_end (cond b (behind_word s s) None)) (same c) ∙ at_end_there s
  where
    same : (c : ℕ) → nat_eq c c ≡ true
    same c = grind arith

at_end : (s w : Text) → is_at_end (behind_word s w) ≡ bytes_eq s w
at_end s w = at (is_at_end (behind_word s w)) (bytes_eq s w) (λ e. (bytes_decides s w).1 (at_end_is s w e)) (λ e. subst (λ v. is_at_end (behind_word s v) ≡ true) ((bytes_decides s w).0 e) (at_end_there s))
  where
    at : (a b : Bool) → (a ≡ true → b ≡ true) → (b ≡ true → a ≡ true) → a ≡ b
    at true b f g = sym (f refl)
    at false true f g = g refl
    at false false f g = refl

pub text_told : (s : Text) (t u : List Plain) (n : ℕ) (b : Bool) (o p q r : Option Text) → n ≡ degrees t → (n ≡ 0 → ⊥) → u ≡ t → o ≡ Some s → p ≡ stripped o (60 ∷ []) → q ≡ stripped p (entries_text (many u)) → r ≡ stripped q (62 ∷ []) → b ≡ is_at_end r → b ≡ bytes_eq s (tuple_text t)
text_told s t u n b o p q r count some same is e f g k =
    let f2 : q ≡ stripped p (entries_text (many t)) = f ∙ ap (λ v. stripped p (entries_text (many v))) same in
    let whole = three_stripped o p q r (60 ∷ []) (entries_text (many t)) (62 ∷ []) e f2 g in
    let none : (degrees t == 0) ≡ false = ne_eqb (degrees t) 0 (λ z. some (count ∙ z)) in
    let text : tuple_text t ≡ 60 ∷ (entries_text (many t) ++ 62 ∷ []) = ap (λ b. cond b [] (codes "<" ++ (entries_text (many t) ++ codes ">"))) none in
    k ∙ ap is_at_end (whole ∙ ap (λ x. stripped x (60 ∷ (entries_text (many t) ++ 62 ∷ []))) is) ∙ at_end s (60 ∷ (entries_text (many t) ++ 62 ∷ [])) ∙ ap (bytes_eq s) (sym text)

-- the entries from a place on
pub entries_at : (entries : List Index) (i : ℕ) (e : Index) → i < length entries → e ≡ get_or entries i e → plains_of (drop i entries) ≡ index_of e ∷ plains_of (drop (i + 1) entries)
entries_at entries i e low is =
    let one : suc i ≡ i + 1 = omega arith in
    ap plains_of (drop-cons entries i e low ∙ (λ n. sym is n ∷ drop (one n) entries))
