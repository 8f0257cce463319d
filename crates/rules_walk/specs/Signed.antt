-- The signatures of a block, as the tables have them.
use Rattle.std.specs.Prelude.{ℕ, ◌-◌, length, take, List, [], ◌∷◌, ◌++◌, map, slice_set, slice_index_or, Option, Some, None}
use Rattle.annot_types.specs.Certificate.{Sig, annotation}
use Rattle.rules_spec.specs.Numbers.{Signature}
use Rattle.rules_spec.specs.Found.{listed}
use Rattle.rules_walk.specs.declared.known.Signed.{Signed}
use Rattle.rules_walk.specs.Read.{signature_of}
use Rattle.rules_walk.specs.declared.plan.Usage.{Usage}

-- a signature of so many positions
abbrev pub dense : ℕ → ℕ × ℕ → Sig → Signature
dense budget sizes s = record { budget = budget; args = listed sizes.0 (annotation s.args); result = listed sizes.1 (annotation s.result) }

-- the functions of a group, of these sizes, with their signatures
abbrev pub signatures : ℕ → List ℕ → List (ℕ × ℕ) → List Sig → List (ℕ × Signature)
signatures budget (f ∷ fs) (sizes ∷ more) (s ∷ ss) = (f, dense budget sizes s) ∷ signatures budget fs more ss
signatures budget _ _ _ = []

abbrev pub signed_of : Signed → ℕ × Signature
signed_of s = (s.function, signature_of s.signature)

abbrev pub all_signed : List Signed → List (ℕ × Signature)
all_signed ss = map signed_of ss

-- all but the last
abbrev pub front : {A : Type 0} → List A → List A
front xs = take (length xs - 1) xs

-- the block is noted for each of these functions
abbrev pub noted : Usage → List Signed → List (List Usage) → List (List Usage)
noted usage [] uses = uses
noted usage (s ∷ ss) uses = noted usage ss (slice_set uses s.function (slice_index_or uses s.function [] ++ usage ∷ []))

-- the signature that stands there, or else this one
abbrev pub standing : Option Signature → Signature → Signature
standing None s = s
standing (Some old) s = old

-- each function that has none yet gets its signature
abbrev pub filled : List (ℕ × Signature) → List (Option Signature) → List (Option Signature)
filled [] table = table
filled (s ∷ ss) table = filled ss (slice_set table s.0 (Some (standing (slice_index_or table s.0 None) s.1)))
