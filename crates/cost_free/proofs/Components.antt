-- Types that are the same, and the components of pairs.
use Rattle.std.proofs.Common.{◌≡◌, ◌↔◌, ℕ, suc, ◌+◌, length, length-append, Bool, true, false, ◌&&◌, IsTrue, List, [], ◌∷◌, ◌++◌, refl, sym, ap, ◌∙◌, subst, arith, append_assoc}
use Rattle.raml_syntax.specs.Tree.{Type', Integer, Boolean, PairOf, ListOf, TreeOf, OptionOf}
use Rattle.raml_syntax.specs.SameType.{same_type}
use Rattle.raml_syntax.proofs.SameType.{same_self, same_is}
use Rattle.cost_free.specs.Target.{Holder, holder_at, holders, components}

pub is_same : (r : Bool) (A B : Type') → IsTrue r ↔ (A ≡ B) → r ≡ same_type A B
is_same true A B h = sym (subst (λ C. same_type A C ≡ true) (h.0 refl) (same_self A))
is_same false A B h = at (same_type A B) refl
  where
    at : (b : Bool) → same_type A B ≡ b → false ≡ b
    at true e = absurd (let t : false ≡ true = h.1 (same_is A B e) in cc)
    at false e = refl

holders_append : (k : ℕ) (As Bs : List Type') → holders k (As ++ Bs) ≡ holders k As ++ holders (k + length As) Bs
holders_append k [] Bs = ap (λ n. holders n Bs) (omega arith)
holders_append k (A ∷ As) Bs =
    ap (λ l. holder_at k A ++ l) (holders_append (suc k) As Bs ∙ ap (λ n. holders (suc k) As ++ holders n Bs) (omega arith))
    ∙ sym (append_assoc (holder_at k A) (holders (suc k) As) (holders (k + length (A ∷ As)) Bs))

pub two_parts : (old mid new : List Holder) (k next : ℕ) (A B T : Type') → mid ≡ old ++ holders k (components A) → new ≡ mid ++ holders next (components B)
    → next ≡ k + length (components A) → PairOf A B ≡ T → new ≡ old ++ holders k (components T)
two_parts old mid new k next A B T one two behind whole =
    two ∙ (λ n. one n ++ holders (behind n) (components B))
    ∙ append_assoc old (holders k (components A)) (holders (k + length (components A)) (components B))
    ∙ ap (λ l. old ++ l) (sym (holders_append k (components A) (components B)) ∙ ap (λ S. holders k (components S)) whole)

pub two_places : (k middle last : ℕ) (A B T : Type') → middle ≡ k + length (components A) → last ≡ middle + length (components B) → PairOf A B ≡ T → last ≡ k + length (components T)
two_places k middle last A B T one two whole =
    let both = length-append (components A) (components B) in
    let end : last ≡ k + length (components A ++ components B) = omega (arith, one, two, both) in
    end ∙ ap (λ S. k + length (components S)) whole
