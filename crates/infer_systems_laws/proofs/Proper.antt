-- The functions of a group are functions of the program.
use Rattle.std.proofs.Common.{◌≡◌, ap, arith}
use Rattle.std.specs.Prelude.{ℕ, nat_eq, ◌||◌, true, List, [], ◌∷◌, slice_get, Some}
use Rattle.std.proofs.lemmas.Bool.Decides.{nat_tests}
use Rattle.normal_spec.specs.Norm.{NormFun}
use Rattle.cost_free.specs.Blocked.{is_among}
use Rattle.annot_types.specs.Program.{Program, members}
use Rattle.cert_check.specs.Laws.{AllThere}
use Rattle.rules_systems_laws.proofs.Ready.{is_later}
use Rattle.infer_systems_laws.specs.Laws.{OrderedAreProper}

pub is_first : (x : ℕ) (fs : List ℕ) → is_among x (x ∷ fs) ≡ true
is_first x fs = let same : nat_eq x x ≡ true = grind (arith, nat_tests) in ap (λ b. b || is_among x fs) same

all_there : (P : Program) (fs : List ℕ) → ((f : ℕ) → is_among f fs ≡ true → (g : NormFun) × (slice_get P.funs f ≡ Some g)) → AllThere P fs
all_there P [] h = tt
all_there P (x ∷ fs) h = (h x (is_first x fs), all_there P fs (λ y e. h y (is_later y x fs e)))

pub ordered_are_proper : OrderedAreProper
ordered_are_proper P h = record { uses = h.uses; there = λ group. all_there P (members P group) (h.there group) }
