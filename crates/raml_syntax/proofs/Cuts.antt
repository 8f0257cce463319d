-- Texts that are cut at a byte.
use Rattle.std.proofs.Common.{◌≡◌, ◌≢◌, ◌<◌, ℕ, suc, Bool, true, false, cond, [], ◌∷◌, ◌++◌, length, get_or, Option, Some, None, refl, sym, ap, ◌∙◌, arith}
use Rattle.std.specs.Prelude.{nat_eq, option_map}
use Rattle.std.specs.Borrow.{Bor}
use Rattle.std.proofs.lemmas.Str.Pattern.{IsSplitOnceResult, split_parts}
use Rattle.raml_syntax.specs.Tree.{Text}
use Rattle.raml_syntax.specs.Cut.{with_front, cut_at, lent_parts}

pub nat_same : (a b : ℕ) → nat_eq a b ≡ true → a ≡ b
nat_same a b e = grind (arith, e)

same_byte : (c : ℕ) → nat_eq c c ≡ true
same_byte c = grind arith

other_byte : (a b : ℕ) → a ≢ b → nat_eq a b ≡ false
other_byte a b h = grind (arith, h)

-- what stands on both sides of the mark makes the text
pub cut_is : (m : ℕ) (text : Text) (parts : Text × Text) → cut_at m text ≡ Some parts → text ≡ parts.0 ++ m ∷ parts.1
cut_is m [] parts e = absurd (cc)
cut_is m (c ∷ text) parts e = by (nat_eq c m) (nat_same c m) (cut_at m text) (cut_is m text) e
  where
    by : (b : Bool) → (b ≡ true → c ≡ m) → (r : Option (Text × Text)) → ((parts : Text × Text) → r ≡ Some parts → text ≡ parts.0 ++ m ∷ parts.1) →
        cond b (Some ([], text)) (option_map (with_front c) r) ≡ Some parts → c ∷ text ≡ parts.0 ++ m ∷ parts.1
    by true same r more h = let f : ([], text) ≡ parts = cc in (λ i. same refl i ∷ text) ∙ ap (λ (p : Text × Text). p.0 ++ m ∷ p.1) f
    by false same (Some p) more h = let f : with_front c p ≡ parts = cc in ap (λ w. c ∷ w) (more p refl) ∙ ap (λ (p : Text × Text). p.0 ++ m ∷ p.1) f
    by false same None more h = absurd (cc)

-- a text without the mark
pub no_cut : (m : ℕ) (text : Text) → ((i : ℕ) → i < length text → get_or text i 0 ≢ m) → cut_at m text ≡ None
no_cut m [] h = refl
no_cut m (c ∷ text) h = rw (other_byte c m (h 0 (omega arith))) (ap (option_map (with_front c)) (no_cut m text (λ i l. h (suc i) (omega (arith, l)))))

pub cut_there : (m : ℕ) (first second : Text) → cut_at m first ≡ None → cut_at m (first ++ m ∷ second) ≡ Some (first, second)
cut_there m [] second h = rw (same_byte m) refl
cut_there m (c ∷ first) second h = by (nat_eq c m) (cut_at m first) (cut_there m first second) h
  where
    by : (b : Bool) (r : Option (Text × Text)) → (r ≡ None → cut_at m (first ++ m ∷ second) ≡ Some (first, second)) →
        cond b (Some ([], first)) (option_map (with_front c) r) ≡ None →
        cond b (Some ([], first ++ m ∷ second)) (option_map (with_front c) (cut_at m (first ++ m ∷ second))) ≡ Some (c ∷ first, second)
    by true r more h = absurd (cc)
    by false (Some p) more h = absurd (cc)
    by false None more h = ap (option_map (with_front c)) (more refl)

-- what splitting at the mark answers
pub cut_from : (m : ℕ) → m < 128 → (text : Text) (r : Option (Bor Text × Bor Text)) → IsSplitOnceResult m text r → lent_parts r ≡ cut_at m text
cut_from m ascii text None h = let parts = split_parts m text None h ascii in sym (no_cut m text parts)
cut_from m ascii text (Some x) h =
    let parts = split_parts m text (Some x) h ascii in
    sym (ap (cut_at m) parts.0 ∙ cut_there m x.0.now x.1.now (no_cut m x.0.now parts.1))
