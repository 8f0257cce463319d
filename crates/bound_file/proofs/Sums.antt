-- What is read as a sum is one.
use Rattle.std.proofs.Common.{◌≡◌, ◌≢◌, ℕ, Bool, true, false, cond, List, [], ◌∷◌, ◌++◌, Option, Some, None, refl, sym, ap, subst, ◌∙◌, append_assoc, append-nil}
use Rattle.std.specs.Prelude.{nat_eq, option_map, codes}
use Rattle.std.specs.Str.{bytes_eq}
use Rattle.std.specs.Option.{MatchOption}
use Rattle.std.specs.Borrow.{Bor}
use Rattle.std.specs.Cmp.Lexicographic.{bytes_decides}
use Rattle.raml_syntax.specs.Tree.{Text}
use Rattle.bound_file.specs.Spelling.{Term, term_text, more_terms, AreTerms, IsTerm, IsSum}
use Rattle.raml_syntax.specs.Cut.{lent_parts, cut_at}
use Rattle.bound_file.specs.Reading.{lent, behind_space, before_space, and_then, term_read, last_read, inner_read, pieces, with_term, each_read, sum_read}
use Rattle.raml_syntax.proofs.Cuts.{nat_same, cut_there}
use Rattle.bound_file.proofs.Cuts.{lacks_both, pieces_none, pieces_some, SomeParts, some_pieces, joined, pieces_join}
use Rattle.bound_file.proofs.Terms.{term_there, term_lacks, term_is}

-- a text before a space
before_there : (w : Text) → before_space (w ++ 32 ∷ []) ≡ Some w
before_there [] = refl
before_there (c ∷ []) = refl
before_there (c ∷ d ∷ w) = ap (option_map (λ (front : Text). c ∷ front)) (before_there (d ∷ w))

before_is : (w front : Text) → before_space w ≡ Some front → w ≡ front ++ 32 ∷ []
before_is [] front e = absurd (cc)
before_is (c ∷ []) front e = by (nat_eq c 32) (nat_same c 32) e
  where
    by : (b : Bool) → (b ≡ true → c ≡ 32) → cond b (Some []) None ≡ Some front → c ∷ [] ≡ front ++ 32 ∷ []
    by true same e = let f : [] ≡ front = cc in (λ i. same refl i ∷ []) ∙ ap (λ w. w ++ 32 ∷ []) f
    by false same e = absurd (cc)
before_is (c ∷ d ∷ w) front e = by (before_space (d ∷ w)) (before_is (d ∷ w)) e
  where
    by : (o : Option Text) → ((front : Text) → o ≡ Some front → d ∷ w ≡ front ++ 32 ∷ []) → option_map (λ (front : Text). c ∷ front) o ≡ Some front → c ∷ d ∷ w ≡ front ++ 32 ∷ []
    by None more e = absurd (cc)
    by (Some v) more e = let f : c ∷ v ≡ front = cc in ap (λ w. c ∷ w) (more v refl) ∙ ap (λ w. w ++ 32 ∷ []) f

behind_is : (w rest : Text) → behind_space w ≡ Some rest → w ≡ 32 ∷ rest
behind_is [] rest e = absurd (cc)
behind_is (c ∷ w) rest e = by (nat_eq c 32) (nat_same c 32) e
  where
    by : (b : Bool) → (b ≡ true → c ≡ 32) → cond b (Some w) None ≡ Some rest → c ∷ w ≡ 32 ∷ rest
    by true same e = let f : w ≡ rest = cc in λ i. same refl i ∷ f i
    by false same e = absurd (cc)

-- the step at a plus
pub each_step : (piece : Text) (parts : List Text) → SomeParts parts → each_read (piece ∷ parts) ≡ with_term (inner_read piece) (each_read parts)
each_step piece parts s = ap (λ ps. each_read (piece ∷ ps)) s.are ∙ ap (λ ps. with_term (inner_read piece) (each_read ps)) (sym s.are)

pub each_there : (t : Term) (ts : List Term) → AreTerms (t ∷ ts) → each_read (pieces (32 ∷ (term_text t ++ more_terms ts))) ≡ Some (t ∷ ts)
each_there t [] h =
    let w = term_text t in
    let lacks : cut_at 43 (32 ∷ w) ≡ None = lacks_both 43 (32 ∷ []) w refl (term_lacks t h.0) in
    ap (λ v. each_read (pieces (32 ∷ v))) (append-nil w) ∙ ap each_read (pieces_none (32 ∷ w) lacks) ∙ ap (λ o. with_term o (Some [])) (term_there t h.0)
each_there t (u ∷ us) h =
    let w = term_text t in
    let rest = term_text u ++ more_terms us in
    let lacks : cut_at 43 (32 ∷ (w ++ 32 ∷ [])) ≡ None = lacks_both 43 (32 ∷ []) (w ++ 32 ∷ []) refl (lacks_both 43 w (32 ∷ []) (term_lacks t h.0) refl) in
    let apart : 32 ∷ (w ++ (32 ∷ 43 ∷ 32 ∷ rest)) ≡ (32 ∷ (w ++ 32 ∷ [])) ++ 43 ∷ 32 ∷ rest = ap (λ v. 32 ∷ v) (sym (append_assoc w (32 ∷ []) (43 ∷ 32 ∷ rest))) in
    let cut : pieces (32 ∷ (w ++ (32 ∷ 43 ∷ 32 ∷ rest))) ≡ (32 ∷ (w ++ 32 ∷ [])) ∷ pieces (32 ∷ rest) =
    ap pieces apart ∙ pieces_some ((32 ∷ (w ++ 32 ∷ [])) ++ 43 ∷ 32 ∷ rest) (32 ∷ (w ++ 32 ∷ []), 32 ∷ rest) (cut_there 43 (32 ∷ (w ++ 32 ∷ [])) (32 ∷ rest) lacks) in
    let inner : inner_read (32 ∷ (w ++ 32 ∷ [])) ≡ Some t = ap (λ o. and_then o last_read) (before_there (32 ∷ w)) ∙ term_there t h.0 in
    ap each_read cut ∙ each_step (32 ∷ (w ++ 32 ∷ [])) (pieces (32 ∷ rest)) (some_pieces (32 ∷ rest)) ∙ (λ i. with_term (inner i) (each_there u us h.1 i))

pub sum_there : (text : Text) (ts : List Term) → IsSum text ts → AreTerms ts → sum_read (32 ∷ text) ≡ Some ts
sum_there text [] s h = ap (λ w. sum_read (32 ∷ w)) s
sum_there text (t ∷ ts) s h =
    ap (λ b. cond b (Some []) (each_read (pieces (32 ∷ text)))) (at (bytes_eq (32 ∷ text) (codes " 0")) (bytes_decides (32 ∷ text) (codes " 0")).0)
    ∙ ap (λ w. each_read (pieces (32 ∷ w))) s.1 ∙ each_there t ts h
  where
    tail : Text → Text
    tail [] = []
    tail (c ∷ w) = w

    at : (b : Bool) → (b ≡ true → 32 ∷ text ≡ codes " 0") → b ≡ false
    at true same = absurd (s.0 (ap tail (same refl)))
    at false same = refl

-- And what is read is a sum.
record Spelled (text : Text) (ts : List Term) : Type 0 where
  first : Term
  more : List Term
  are : ts ≡ first ∷ more
  is : text ≡ 32 ∷ (term_text first ++ more_terms more)
  terms : AreTerms (first ∷ more)

record IsSpaced (w : Text) (t : Term) : Type 0 where
  text : w ≡ 32 ∷ term_text t
  is : IsTerm t

last_is : (w : Text) (t : Term) → last_read w ≡ Some t → IsSpaced w t
last_is w t e = at (behind_space w) (behind_is w) e
  where
    at : (o : Option Text) → ((rest : Text) → o ≡ Some rest → w ≡ 32 ∷ rest) → and_then o term_read ≡ Some t → IsSpaced w t
    at None is e = absurd (cc)
    at (Some rest) is e = let h = term_is rest t e in record { text = is rest refl ∙ ap (λ v. 32 ∷ v) h.text; is = h.is }

record IsInner (w : Text) (t : Term) : Type 0 where
  text : w ≡ 32 ∷ (term_text t ++ 32 ∷ [])
  is : IsTerm t

inner_is : (w : Text) (t : Term) → inner_read w ≡ Some t → IsInner w t
inner_is w t e = at (before_space w) (before_is w) e
  where
    at : (o : Option Text) → ((front : Text) → o ≡ Some front → w ≡ front ++ 32 ∷ []) → and_then o last_read ≡ Some t → IsInner w t
    at None is e = absurd (cc)
    at (Some front) is e = let h = last_is front t e in record { text = is front refl ∙ ap (λ v. v ++ 32 ∷ []) h.text; is = h.is }

each_spelled : (part : Text) (parts : List Text) (ts : List Term) → each_read (part ∷ parts) ≡ Some ts → Spelled (joined (part ∷ parts)) ts
each_spelled part [] ts e = at (last_read part) (last_is part) e
  where
    at : (o : Option Term) → ((t : Term) → o ≡ Some t → IsSpaced part t) → with_term o (Some []) ≡ Some ts → Spelled part ts
    at None is e = absurd (cc)
    at (Some t) is e =
        let f : t ∷ [] ≡ ts = cc in
        let h = is t refl in
        record { first = t; more = []; are = sym f; is = h.text ∙ ap (λ v. 32 ∷ v) (sym (append-nil (term_text t))); terms = (h.is, tt) }
each_spelled part (next ∷ parts) ts e = at (inner_read part) (inner_is part) (each_read (next ∷ parts)) (each_spelled next parts) e
  where
    at : (o : Option Term) → ((t : Term) → o ≡ Some t → IsInner part t) → (p : Option (List Term)) → ((us : List Term) → p ≡ Some us → Spelled (joined (next ∷ parts)) us) → with_term o p ≡ Some ts → Spelled (part ++ 43 ∷ joined (next ∷ parts)) ts
    at None is p more e = absurd (cc)
    at (Some t) is None more e = absurd (cc)
    at (Some t) is (Some us) more e =
        let f : t ∷ us ≡ ts = cc in
        let h = is t refl in
        let m = more us refl in
        record {
          first = t;
          more = m.first ∷ m.more;
          are = sym f ∙ ap (λ vs. t ∷ vs) m.are;
          is = (λ i. h.text i ++ 43 ∷ m.is i) ∙ ap (λ v. 32 ∷ v) (append_assoc (term_text t) (32 ∷ []) (43 ∷ 32 ∷ (term_text m.first ++ more_terms m.more)));
          terms = (h.is, m.terms);
        }

pub record IsSumRead (text : Text) (ts : List Term) : Type 0 where
  pub sum : Text
  pub spaced : text ≡ 32 ∷ sum
  pub is : IsSum sum ts
  pub terms : AreTerms ts

pub sum_is : (text : Text) (ts : List Term) → sum_read text ≡ Some ts → IsSumRead text ts
sum_is text ts e = at (bytes_eq text (codes " 0")) (bytes_decides text (codes " 0")).0 (bytes_decides text (codes " 0")).1 e
  where
    spelled : each_read (pieces text) ≡ Some ts → Spelled text ts
    spelled e =
        let s = some_pieces text in
        subst (λ w. Spelled w ts) (ap joined (sym s.are) ∙ pieces_join text) (each_spelled s.first s.more ts (ap each_read (sym s.are) ∙ e))

    at : (b : Bool) → (b ≡ true → text ≡ codes " 0") → (text ≡ codes " 0" → b ≡ true) → cond b (Some []) (each_read (pieces text)) ≡ Some ts → IsSumRead text ts
    at true same there e = let f : [] ≡ ts = cc in record { sum = codes "0"; spaced = same refl; is = subst (IsSum (codes "0")) f refl; terms = subst AreTerms f tt }
    at false same there e =
        let s = spelled e in
        let sum = term_text s.first ++ more_terms s.more in
        let apart : sum ≢ codes "0" = λ z. no (there (s.is ∙ ap (λ w. 32 ∷ w) z)) in
        record { sum = sum; spaced = s.is; is = subst (IsSum sum) (sym s.are) (apart, refl); terms = subst AreTerms (sym s.are) s.terms }
      where
        no : false ≡ true → ⊥
        no q = cc

-- what stripping a space answers
pub before_from : (text : Text) (r : Option (Bor Text)) → MatchOption r ((front : List ℕ) → text ≢ front ++ 32 ∷ []) (λ x. text ≡ x.now ++ 32 ∷ []) → lent r ≡ before_space text
before_from text None h = at (before_space text) (before_is text)
  where
    at : (o : Option Text) → ((front : Text) → o ≡ Some front → text ≡ front ++ 32 ∷ []) → None ≡ o
    at None is = refl
    at (Some front) is = absurd (h front (is front refl))
before_from text (Some x) h = sym (ap before_space h ∙ before_there x.now)

pub behind_from : (text : Text) (r : Option (Bor Text)) → MatchOption r ((rest : List ℕ) → text ≢ 32 ∷ rest) (λ x. text ≡ 32 ∷ x.now) → lent r ≡ behind_space text
behind_from text None h = at (behind_space text) (behind_is text)
  where
    at : (o : Option Text) → ((rest : Text) → o ≡ Some rest → text ≡ 32 ∷ rest) → None ≡ o
    at None is = refl
    at (Some rest) is = absurd (h rest (is rest refl))
behind_from text (Some x) h = sym (ap behind_space h)

-- A step of the loop over the parts of a sum
pub parts_after : (parts : Option (Bor Text × Bor Text)) (x : Bor Text × Bor Text) (rest : Text) → lent_parts parts ≡ cut_at 43 rest → parts ≡ Some x → cut_at 43 rest ≡ Some (x.0.now, x.1.now)
parts_after parts x rest e is = sym e ∙ ap lent_parts is

pub each_none : (rest piece behind : Text) → cut_at 43 rest ≡ Some (piece, behind) → inner_read piece ≡ None → each_read (pieces rest) ≡ None
each_none rest piece behind cut none =
    ap each_read (pieces_some rest (piece, behind) cut) ∙ each_step piece (pieces behind) (some_pieces behind) ∙ ap (λ o. with_term o (each_read (pieces behind))) none

pub each_more : (rest piece behind : Text) (t : Term) → cut_at 43 rest ≡ Some (piece, behind) → inner_read piece ≡ Some t → each_read (pieces rest) ≡ with_term (Some t) (each_read (pieces behind))
each_more rest piece behind t cut some =
    ap each_read (pieces_some rest (piece, behind) cut) ∙ each_step piece (pieces behind) (some_pieces behind) ∙ ap (λ o. with_term o (each_read (pieces behind))) some

pub each_last : (rest : Text) → cut_at 43 rest ≡ None → each_read (pieces rest) ≡ with_term (last_read rest) (Some [])
each_last rest cut = ap each_read (pieces_none rest cut)

-- what was found stands before what is read of the rest
pub found_more : (found : List Term) (t : Term) (o whole : Option (List Term)) → option_map (λ (ts : List Term). found ++ ts) (with_term (Some t) o) ≡ whole → option_map (λ (ts : List Term). (found ++ t ∷ []) ++ ts) o ≡ whole
found_more found t None whole e = e
found_more found t (Some ts) whole e = ap Some (append_assoc found (t ∷ []) ts) ∙ e
