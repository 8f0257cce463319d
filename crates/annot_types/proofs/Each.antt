-- Blocks in their places, one by one.
use Rattle.std.proofs.Common.{◌≡◌, ◌<ℤ◌, ℕ, zero, suc, ◌+◌, pos, List, [], ◌∷◌, slice_get, Some, None, refl, arith, subst}
use Rattle.std.proofs.lemmas.Int.{ints}
use Rattle.std.proofs.lemmas.Bool.{ltb-true}
use Rattle.std.proofs.lemmas.Option.{same_Some}
use Rattle.cost_free.specs.declared.task.Meter.{Meter}
use Rattle.cost_free.specs.declared.task.Meter.TheVariants.{Ticks, Cells, Work}
use Rattle.cost_free.specs.Task.{Kind}
use Rattle.normal_spec.specs.Norm.{NormFun}
use Rattle.normal_spec.specs.Context.{types}
use Rattle.annot_types.specs.Program.{Program}
use Rattle.annot_types.specs.Certificate.{Rise, RiseFrom, Entries, Hint, Block, Certificate, Annotates, annotation}
use Rattle.annot_types.specs.Rules.{Ann}
use Rattle.annot_types.specs.Holds.{setting, mode_of, budget_of, ReachesTarget, Holds}
use Rattle.annot_types.specs.Held.{IsInPlace, scale_of}
use Rattle.annot_types.specs.Example.{program, block, certificate}

-- each block of a list is in its place, the first at this place
abbrev pub EachInPlace : Program → Certificate → ℕ → List Block → Type 0
EachInPlace P c place [] = Unit {0}
EachInPlace P c place (b ∷ bs) = IsInPlace P c place b × EachInPlace P c (suc place) bs

in_place : (P : Program) (c : Certificate) (first : ℕ) (bs : List Block) → EachInPlace P c first bs → (k : ℕ) (block : Block) → slice_get bs k ≡ Some block →
    IsInPlace P c (first + k) block
in_place P c first [] each k block there = absurd (cc)
in_place P c first (b ∷ bs) each zero block there =
    subst (λ n. IsInPlace P c n block) (omega arith) (subst (IsInPlace P c first) (same_Some b block there) each.0)
in_place P c first (b ∷ bs) each (suc k) block there =
    let moved : suc first + k ≡ first + suc k = omega arith in subst (λ n. IsInPlace P c n block) moved (in_place P c (suc first) bs each.1 k block there)

-- all blocks of a certificate
pub all_in_place : (P : Program) (c : Certificate) → EachInPlace P c 0 c.blocks → (k : ℕ) (block : Block) → slice_get c.blocks k ≡ Some block → IsInPlace P c k block
all_in_place P c each k block there = let same : 0 + k ≡ k = omega arith in subst (λ n. IsInPlace P c n block) same (in_place P c 0 c.blocks each k block there)

pub is_positive : (n : ℕ) → pos 0 <ℤ pos (suc n)
is_positive n = grind (arith, ints)

pub one_entry : (k n : ℕ) → Rise ((k, pos (suc n)) ∷ [])
one_entry k n = (omega arith, is_positive n, tt)

one_entry_from : (k : ℕ) → RiseFrom k ((k, pos 1) ∷ [])
one_entry_from k = (omega arith, is_positive 0, tt)

pub two_entries : (k : ℕ) → Rise ((k, pos 1) ∷ (suc k, pos 1) ∷ [])
two_entries k = (omega arith, is_positive 0, one_entry_from (suc k))

-- scales that are 1
pub scales_positive : (blocks : List Block) (m : Meter) → pos 0 <ℤ scale_of (certificate None blocks) m
scales_positive blocks Ticks = is_positive 0
scales_positive blocks Cells = is_positive 0
scales_positive blocks Work = is_positive 0

pub work_positive : (blocks : List Block) (m : Meter) → pos 0 <ℤ scale_of (certificate (Some (pos 1)) blocks) m
work_positive blocks Ticks = is_positive 0
work_positive blocks Cells = is_positive 0
work_positive blocks Work = is_positive 0

-- a block of the one function of a program holds, where its body fits the rules and its target is reached
pub one_holds : (fun : NormFun) (d scale : ℕ) (earlier : List Block) (kind : Kind) (args result : Entries) (hints : List Hint) →
    Annotates (types fun.params) (budget_of d kind) args → Annotates (fun.result ∷ []) (budget_of d kind) result →
    Ann (setting (program fun) d earlier scale (block kind args result hints) 1) (mode_of kind) (budget_of d kind) fun.params (annotation args) fun.body fun.result (annotation result) hints [] →
    ReachesTarget (program fun) d (block kind args result hints) 1 kind → Holds (program fun) d earlier scale (block kind args result hints) 1
one_holds fun d scale earlier kind args result hints at_args at_result fits reaches = record {
  positive = ltb-true 0 1 refl;
  solved = tt;
  functions = (record { fun = fun; there = refl; args = at_args; result = at_result; fits = fits }, tt);
  reaches = reaches;
}
