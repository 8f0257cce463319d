-- As many sizes are open as are not given.
use Rattle.std.proofs.Common.{◌≡◌, ◌<◌, ℕ, ◌+◌, List, [], ◌∷◌, ◌++◌, filter, length, Bool, true, false, not, cond, Option, Some, None, refl, sym, ap, ◌∙◌, arith, length-append}
use Rattle.std.specs.Prelude.{is_some, codes, Ok, String}
use Rattle.std.specs.Global.{Global}
use Rattle.raml_syntax.specs.Tree.{Text, Type', Integer, Boolean, PairOf, ListOf, TreeOf, OptionOf}
use Rattle.base_poly.specs.Base.{total}
use Rattle.explain_sizes.specs.Sizes as s
use Rattle.explain_sizes.specs.Open.{OpenSizes, NoSize, Parts, Content, Elements, filled, all_filled}
use Rattle.explain_at.specs.Words.{Given, given_for}
use Rattle.explain_at.specs.Asked.{names_of, sizes_of, all_names, all_sizes, missing, unknown, with_all, with_one_open, asked}
use Rattle.explain_at.specs.Read.{texts, AreFilled}
use Rattle.explain_at.specs.Laws.{open_count, OpenAreMissing, OpenAsAsked}

kept_of_both : {X : Type 0} (p : X → Bool) (xs ys : List X) → filter p (xs ++ ys) ≡ filter p xs ++ filter p ys
kept_of_both p [] ys = refl
kept_of_both p (x ∷ xs) ys = by (p x) (kept_of_both p xs ys)
  where
    by : (b : Bool) → filter p (xs ++ ys) ≡ filter p xs ++ filter p ys → cond b (x ∷ filter p (xs ++ ys)) (filter p (xs ++ ys)) ≡ cond b (x ∷ filter p xs) (filter p xs) ++ filter p ys
    by true e = ap (λ l. x ∷ l) e
    by false e = e

module _ (gs : List Given) where
  abbrev many : List Text → ℕ
  many names = length (missing gs names)

  many_of_both : (xs ys : List Text) → many (xs ++ ys) ≡ many xs + many ys
  many_of_both xs ys = ap length (kept_of_both (λ x. not (is_some (given_for x gs))) xs ys) ∙ length-append (missing gs xs) (missing gs ys)

  -- one list or tree more
  one_more : (o : Option ℕ) (e : OpenSizes) (x : Text) (names : List Text) → given_for x gs ≡ o → open_count e ≡ many names → open_count (Elements o e) ≡ many (x ∷ names)
  one_more o e x names h k =
      at o k ∙ ap (λ o. length (cond (not (is_some o)) (x ∷ missing gs names) (missing gs names))) (sym h)
    where
      at : (o : Option ℕ) → open_count e ≡ many names → open_count (Elements o e) ≡ length (cond (not (is_some o)) (x ∷ missing gs names) (missing gs names))
      at None k = let e : length (x ∷ missing gs names) ≡ 1 + length (missing gs names) = omega arith in ap (λ n. 1 + n) k ∙ sym e
      at (Some n) k = k

  of_type : (x : Text) (A : Type') → open_count (sizes_of gs x A) ≡ many (names_of x A)
  of_type x Integer = refl
  of_type x Boolean = refl
  of_type x (PairOf A B) =
      (λ i. of_type (x ++ codes ".first") A i + of_type (x ++ codes ".second") B i)
      ∙ sym (many_of_both (names_of (x ++ codes ".first") A) (names_of (x ++ codes ".second") B))
  of_type x (ListOf A) = one_more (given_for x gs) _ x _ refl (of_type (x ++ codes ".each") A)
  of_type x (TreeOf A) = one_more (given_for x gs) _ x _ refl (of_type (x ++ codes ".each") A)
  of_type x (OptionOf A) = of_type (x ++ codes ".some") A

open_missing : OpenAreMissing
open_missing gs [] = refl
open_missing gs (p ∷ ps) = (λ i. of_type gs p.0 p.1 i + open_missing gs ps i) ∙ sym (many_of_both gs (names_of p.0 p.1) (all_names ps))

all_given : (os qs : List OpenSizes) (u : Option Text) (m : List Text) → with_all os u m ≡ Ok qs → (os ≡ qs) × (m ≡ [])
all_given os qs (Some x) m e = absurd (cc)
all_given os qs None (x ∷ m) e = absurd (cc)
all_given os qs None [] e = (cc, refl)

one_given : (os qs : List OpenSizes) (u : Option Text) (m : List Text) → with_one_open os u m ≡ Ok qs → (os ≡ qs) × (length m ≡ 1)
one_given os qs (Some x) m e = absurd (cc)
one_given os qs None [] e = absurd (cc)
one_given os qs None (x ∷ []) e = (cc, refl)
one_given os qs None (x ∷ y ∷ m) e = absurd (cc)

same_filled : (o : OpenSizes) (m n : ℕ) → open_count o ≡ 0 → filled m o ≡ filled n o
same_filled NoSize m n h = refl
same_filled (Parts o p) m n h = λ i. s.Parts (same_filled o m n (omega (arith, h)) i) (same_filled p m n (omega (arith, h)) i)
same_filled (Content o) m n h = ap s.Content (same_filled o m n h)
same_filled (Elements None o) m n h = absurd (omega (arith, h))
same_filled (Elements (Some k) o) m n h = ap (s.Elements k) (same_filled o m n h)

pub all_same : (os : List OpenSizes) (m n : ℕ) → total open_count os ≡ 0 → all_filled m os ≡ all_filled n os
all_same [] m n h = refl
all_same (o ∷ os) m n h = λ i. same_filled o m n (omega (arith, h)) i ∷ all_same os m n (omega (arith, h)) i

pub as_asked : OpenAsAsked
as_asked = record {
  missing = open_missing;
  none = λ gs ps os e.
      let h = all_given (all_sizes gs ps) os (unknown (all_names ps) gs) (missing gs (all_names ps)) e in
      ap (total open_count) (sym h.0) ∙ open_missing gs ps ∙ ap length h.1;
  one = λ gs ps os e.
      let h = one_given (all_sizes gs ps) os (unknown (all_names ps) gs) (missing gs (all_names ps)) e in
      ap (total open_count) (sym h.0) ∙ open_missing gs ps ∙ h.1;
  same = all_same;
}

no_texts : (m : List (String Global)) → length m < 1 → texts m ≡ []
no_texts [] h = refl
no_texts (x ∷ m) h = absurd (omega (arith, h))

-- the sizes where all are given
pub filled_asked : (gs : List Given) (ps : List (Text × Type')) (checked listed : List Text) (found : List (String Global)) (os : List OpenSizes) (ss : List s.Sizes) →
    checked ≡ all_names ps → listed ≡ all_names ps → unknown checked gs ≡ None → texts found ≡ missing gs listed → length found < 1 → os ≡ all_sizes gs ps → ss ≡ all_filled 0 os →
    AreFilled (asked gs ps) ss
filled_asked gs ps checked listed found os ss hc hl hu hm few ho hs =
    let u : unknown (all_names ps) gs ≡ None = ap (λ l. unknown l gs) (sym hc) ∙ hu in
    let m : missing gs (all_names ps) ≡ [] = ap (missing gs) (sym hl) ∙ sym hm ∙ no_texts found few in
    let none : total open_count (all_sizes gs ps) ≡ 0 = open_missing gs ps ∙ ap length m in (
      all_sizes gs ps,
      λ i. with_all (all_sizes gs ps) (u i) (m i),
      λ n. all_same (all_sizes gs ps) n 0 none ∙ ap (all_filled 0) (sym ho) ∙ sym hs,
    )
