-- The test of two types tells whether they are equal.
use Rattle.std.proofs.Common.{◌≡◌, true, refl, ap}
use Rattle.std.proofs.lemmas.Bool.{and_parts, and_from}
use Rattle.raml_syntax.specs.Tree.{Type', Integer, Boolean, PairOf, ListOf, TreeOf, OptionOf}
use Rattle.raml_syntax.specs.SameType.{same_type}

pub same_self : (A : Type') → same_type A A ≡ true
same_self Integer = refl
same_self Boolean = refl
same_self (PairOf A B) = and_from _ _ (same_self A) (same_self B)
same_self (ListOf A) = same_self A
same_self (TreeOf A) = same_self A
same_self (OptionOf A) = same_self A

pub same_is : (A B : Type') → same_type A B ≡ true → A ≡ B
same_is Integer Integer e = refl
same_is Boolean Boolean e = refl
same_is (PairOf A B) (PairOf C D) e =
    let both = and_parts (same_type A C) (same_type B D) e in
    let p = same_is A C both.0 in
    let q = same_is B D both.1 in
    λ i. PairOf (p i) (q i)
same_is (ListOf A) (ListOf B) e = ap ListOf (same_is A B e)
same_is (TreeOf A) (TreeOf B) e = ap TreeOf (same_is A B e)
same_is (OptionOf A) (OptionOf B) e = ap OptionOf (same_is A B e)
same_is _ _ e = absurd (cc)
