-- What is told of a read file holds over a longer time.
use Rattle.std.proofs.Common.{◌≡◌, ◌≤◌, ℕ, Option, subst, inl, inr, ⊎_elim, arith}
use Rattle.std.proofs.lemmas.Bool.{cases_lt}
use Rattle.raml_io.specs.Faults.{Rose}
use Rattle.raml_io.specs.Files.{Files}
use Rattle.raml_syntax.specs.Tree.{Text}
use Rattle.explain_check.specs.Stores.{store_of, Unread}

-- no count falls
abbrev pub Later : (Text → ℕ) → (Text → ℕ) → Type 0
Later before after = (name : Text) → before name ≤ after name

-- a count that rose in between rose
rose : (a b c d : ℕ) → a ≤ b → b ≤ c → c ≤ d → Rose b c → Rose a d
rose a b c d early mid late (inl less) = inl (omega arith)
rose a b c d early mid late (inr last) = ⊎_elim (λ less. inl less) (λ more. inr (omega (arith, last))) (cases_lt a d)

pub unread_for_longer : (holds same : Option Files) (a b c d : Text → ℕ) (most : ℕ) (name part : Text) → same ≡ holds → Later a b → Later b c → Later c d
    → Unread (store_of same b c) most name part → Unread (store_of holds a d) most name part
unread_for_longer holds same a b c d most name part e early mid late (inl long) = subst (λ holds. Unread (store_of holds a d) most name part) e (inl long)
unread_for_longer holds same a b c d most name part e early mid late (inr fails) = inr (rose (a name) (b name) (c name) (d name) (early name) (mid name) (late name) fails.0, fails.1)

-- a count that rose since a later time rose since then
rises : (a b c : ℕ) → a ≤ b → Rose b c → Rose a c
rises a b c early h = ⊎_elim (λ less. inl (omega (arith, less, early))) (λ last. inr last) h

-- a read that comes later in a call
pub unread_since : (holds same : Option Files) (before mid after : Text → ℕ) (most : ℕ) (name part : Text) → same ≡ holds → Later before mid
    → Unread (store_of same mid after) most name part → Unread (store_of holds before after) most name part
unread_since holds same before mid after most name part e early (inl long) = subst (λ holds. Unread (store_of holds before after) most name part) e (inl long)
unread_since holds same before mid after most name part e early (inr fails) = inr (rises (before name) (mid name) (after name) (early name) fails.0, fails.1)
