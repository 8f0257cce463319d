-- Texts cut at a byte.
use Rattle.std.proofs.Common.{◌≡◌, ◌≢◌, ◌<◌, ◌-◌, ℕ, zero, suc, true, false, List, [], ◌∷◌, ◌++◌, length, get_or, Option, Some, None, Bor, refl, sym, ap, ◌∙◌, arith}
use Rattle.std.specs.Prelude.{nat_eq}
use Rattle.std.proofs.lemmas.Str.Pattern.{IsSplitOnceResult, split_parts}
use Rattle.raml_syntax.specs.Tree.{Text}
use Rattle.explain_declared.specs.Places.{before_mark, behind_mark, behind_lines}

same_byte : (c : ℕ) → nat_eq c c ≡ true
same_byte c = grind arith

other_byte : (a b : ℕ) → a ≢ b → nat_eq a b ≡ false
other_byte a b h = grind (arith, h)

-- the text has no such byte
abbrev Lacks : ℕ → Text → Type 0
Lacks m text = (i : ℕ) → i < length text → get_or text i 0 ≢ m

before_none : (m : ℕ) (text : Text) → Lacks m text → before_mark m text ≡ text
before_none m [] h = refl
before_none m (c ∷ text) h = rw (other_byte c m (h 0 (omega arith))) (ap (λ t. c ∷ t) (before_none m text (λ i l. h (suc i) (omega (arith, l)))))

behind_none : (m : ℕ) (text : Text) → Lacks m text → behind_mark m text ≡ []
behind_none m [] h = refl
behind_none m (c ∷ text) h = rw (other_byte c m (h 0 (omega arith))) (behind_none m text (λ i l. h (suc i) (omega (arith, l))))

before_there : (m : ℕ) (first second : Text) → Lacks m first → before_mark m (first ++ m ∷ second) ≡ first
before_there m [] second h = rw (same_byte m) refl
before_there m (c ∷ first) second h = rw (other_byte c m (h 0 (omega arith))) (ap (λ t. c ∷ t) (before_there m first second (λ i l. h (suc i) (omega (arith, l)))))

behind_there : (m : ℕ) (first second : Text) → Lacks m first → behind_mark m (first ++ m ∷ second) ≡ second
behind_there m [] second h = rw (same_byte m) refl
behind_there m (c ∷ first) second h = rw (other_byte c m (h 0 (omega arith))) (behind_there m first second (λ i l. h (suc i) (omega (arith, l))))

-- what splitting at a mark answers
abbrev pub before_of : Text → Option (Bor Text × Bor Text) → Text
before_of text None = text
before_of text (Some parts) = parts.0.now

abbrev pub behind_of : Option (Bor Text × Bor Text) → Text
behind_of None = []
behind_of (Some parts) = parts.1.now

pub before_split : (m : ℕ) → m < 128 → (text : Text) (r : Option (Bor Text × Bor Text)) → IsSplitOnceResult m text r → before_of text r ≡ before_mark m text
before_split m ascii text None h = let parts = split_parts m text None h ascii in sym (before_none m text parts)
before_split m ascii text (Some x) h =
    let parts = split_parts m text (Some x) h ascii in
    sym (ap (before_mark m) parts.0 ∙ before_there m x.0.now x.1.now parts.1)

pub behind_split : (m : ℕ) → m < 128 → (text : Text) (r : Option (Bor Text × Bor Text)) → IsSplitOnceResult m text r → behind_of r ≡ behind_mark m text
behind_split m ascii text None h = let parts = split_parts m text None h ascii in sym (behind_none m text parts)
behind_split m ascii text (Some x) h =
    let parts = split_parts m text (Some x) h ascii in
    sym (ap (behind_mark m) parts.0 ∙ behind_there m x.0.now x.1.now parts.1)

-- one line further
pub next_line : (n : ℕ) (text : Text) → 0 < n → behind_lines n text ≡ behind_lines (n - 1) (behind_mark 10 text)
next_line zero text h = absurd (omega (arith, h))
next_line (suc n) text h =
    let same : n ≡ suc n - 1 = omega arith in
    ap (λ k. behind_lines k (behind_mark 10 text)) same
