-- Words cut at a byte.
use Rattle.std.proofs.Common.{◌≡◌, ◌≢◌, ◌<◌, ℕ, suc, Bool, true, false, cond, [], ◌∷◌, ◌++◌, length, get_or, Option, Some, None, refl, sym, ap, ◌∙◌, arith}
use Rattle.std.specs.Prelude.{nat_eq, option_map}
use Rattle.std.specs.Borrow.{Bor}
use Rattle.std.proofs.lemmas.Str.Pattern.{IsSplitOnceResult, split_parts}
use Rattle.clap.specs.Walk.{Text}
use Rattle.explain_words.specs.Spelled.{with_front, cut_at, lent_parts}

same_byte : (c : ℕ) → nat_eq c c ≡ true
same_byte c = grind arith

other_byte : (a b : ℕ) → a ≢ b → nat_eq a b ≡ false
other_byte a b h = grind (arith, h)

-- a word without the mark
no_cut : (m : ℕ) (word : Text) → ((i : ℕ) → i < length word → get_or word i 0 ≢ m) → cut_at m word ≡ None
no_cut m [] h = refl
no_cut m (c ∷ word) h = rw (other_byte c m (h 0 (omega arith))) (ap (option_map (with_front c)) (no_cut m word (λ i l. h (suc i) (omega (arith, l)))))

cut_there : (m : ℕ) (first second : Text) → cut_at m first ≡ None → cut_at m (first ++ m ∷ second) ≡ Some (first, second)
cut_there m [] second h = rw (same_byte m) refl
cut_there m (c ∷ first) second h = by (nat_eq c m) (cut_at m first) (cut_there m first second) h
  where
    by : (b : Bool) (r : Option (Text × Text)) → (r ≡ None → cut_at m (first ++ m ∷ second) ≡ Some (first, second)) →
        cond b (Some ([], first)) (option_map (with_front c) r) ≡ None →
        cond b (Some ([], first ++ m ∷ second)) (option_map (with_front c) (cut_at m (first ++ m ∷ second))) ≡ Some (c ∷ first, second)
    by true r more h = absurd (cc)
    by false (Some p) more h = absurd (cc)
    by false None more h = ap (option_map (with_front c)) (more refl)

-- what splitting at the mark answers
pub cut_from : (m : ℕ) → m < 128 → (word : Text) (r : Option (Bor Text × Bor Text)) → IsSplitOnceResult m word r → lent_parts r ≡ cut_at m word
cut_from m ascii word None h = let parts = split_parts m word None h ascii in sym (no_cut m word parts)
cut_from m ascii word (Some x) h =
    let parts = split_parts m word (Some x) h ascii in
    sym (ap (cut_at m) parts.0 ∙ cut_there m x.0.now x.1.now (no_cut m x.0.now parts.1))
