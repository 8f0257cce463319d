-- Where the unknowns of a function's arguments stand, and what their numbers are.
use Rattle.std.proofs.Common.{◌≡◌, refl, ap, sym, ◌∙◌, arith, subst}
use Rattle.std.specs.Prelude.{ℕ, ◌+◌, ◌<◌, nat_eq, Bool, true, false, cond, ◌||◌, List, [], ◌∷◌, length, slice_get, Option, Some}
use Rattle.std.proofs.lemmas.Bool.Decides.{nat_tests}
use Rattle.rules_systems_laws.proofs.Weights.{given_are}
use Rattle.linear_rows.specs.Systems.{LinearSystem}
use Rattle.normal_spec.specs.Norm.{NormFun}
use Rattle.normal_spec.specs.Context.{types}
use Rattle.cost_free.specs.Task.{Task}
use Rattle.cost_free.specs.Blocked.{is_among}
use Rattle.annot_types.specs.Program.{Program, members}
use Rattle.annot_types.specs.Certificate.{annotation, Sig, Block}
use Rattle.annot_types.specs.Signature.{sig_among}
use Rattle.annot_types.specs.Rules.{Mode, Setting}
use Rattle.annot_types.specs.Rows.{size as size_of}
use Rattle.annot_types.specs.System.{args_of, result_of}
use Rattle.annot_types.proofs.Lists.{some_is}
use Rattle.rules_spec.specs.Numbers.{Sides}
use Rattle.rules_spec.specs.Kinds.{Amount}
use Rattle.rules_spec.specs.Asked.{given}
use Rattle.rules_spec.specs.Tasks.{Body, sides_count, sides_given}
use Rattle.rules_spec.specs.Solving.{amount}
use Rattle.rules_spec.specs.Found.{listed, amounts_of, signature, sides, group_from}
use Rattle.rules_spec.specs.Systems.{AreReady}
use Rattle.rules_spec.specs.Told.{number_in}
use Rattle.rules_spec.proofs.TaskRows.{systems_are_walked}
use Rattle.rules_systems_laws.specs.Arguments.{first_from}
use Rattle.rules_systems_laws.specs.Laws.{ArgumentsAreUnknowns}
use Rattle.rules_systems_laws.proofs.Functions.{budget, here, body, bodies, Ready}

-- numbers that give the entries of an annotation

cons_head : {X : Type 0} (x y : X) (xs ys : List X) → x ∷ xs ≡ y ∷ ys → x ≡ y
cons_head x y xs ys e = cc

cons_tail : {X : Type 0} (x y : X) (xs ys : List X) → x ∷ xs ≡ y ∷ ys → xs ≡ ys
cons_tail x y xs ys e = cc

not_among : {X : Type 0} → false ≡ true → X
not_among e = absurd (cc)

-- a function of a group is there
pub ready_there : (S : Setting) (mode : Mode) (fs : List ℕ) → AreReady S mode fs → (f : ℕ) → is_among f fs ≡ true → (g : NormFun) × (slice_get S.program.funs f ≡ Some g)
ready_there S mode [] ready f inside = not_among inside
ready_there S mode (h ∷ fs) ready f inside = by (nat_eq f h) refl inside (ready_there S mode fs ready.2 f) where
  by : (b : Bool) → nat_eq f h ≡ b → (b || is_among f fs) ≡ true → (is_among f fs ≡ true → (g : NormFun) × (slice_get S.program.funs f ≡ Some g)) →
      (g : NormFun) × (slice_get S.program.funs f ≡ Some g)
  by true q e rest = (ready.0.fun, ap (slice_get S.program.funs) (let same : f ≡ h = grind (arith, nat_tests, q) in same) ∙ ready.0.there)
  by false q e rest = rest e

-- and has a signature, where each function has one
pub among_signed : (fs : List ℕ) (ss : List Sig) → length ss ≡ length fs → (f : ℕ) → is_among f fs ≡ true → (s : Sig) × (sig_among fs ss f ≡ Some s)
among_signed [] ss l f inside = not_among inside
among_signed (h ∷ fs) [] l f inside = absurd (omega (arith, l))
among_signed (h ∷ fs) (s ∷ ss) l f inside = by (nat_eq f h) inside (among_signed fs ss (omega (arith, l)) f) where
  by : (b : Bool) → (b || is_among f fs) ≡ true → (is_among f fs ≡ true → (r : Sig) × (sig_among fs ss f ≡ Some r)) → (r : Sig) × (cond b (Some s) (sig_among fs ss f) ≡ Some r)
  by true e rest = (s, refl)
  by false e rest = rest e

module _ (P : Program) (d : ℕ) (earlier : List Block) (task : Task) (scale : ℕ) where
  abbrev within : ℕ
  within = budget P d earlier task scale

  -- how many unknowns a function's signature has
  abbrev both_sizes : Option NormFun → ℕ
  both_sizes o = size_of (args_of o) within + size_of (result_of o) within

  same_sizes : (o : Option NormFun) (g : NormFun) → o ≡ Some g → (let b = body P d earlier task scale o in b.args + b.result) ≡ both_sizes o
  same_sizes o g e = subst (λ o. (let b = body P d earlier task scale o in b.args + b.result) ≡ both_sizes o) (sym e) refl

  -- the unknowns of the arguments are among those of the signatures
  pub first_below : (from : ℕ) (fs : List ℕ) → Ready P d earlier task scale fs → (f : ℕ) → is_among f fs ≡ true → (g : NormFun) → slice_get P.funs f ≡ Some g →
      (k : ℕ) → k < size_of (types g.params) within → first_from P within from fs f + k < from + sides_count (bodies P d earlier task scale fs)
  first_below from [] ready f inside g there k low = not_among inside
  first_below from (h ∷ fs) ready f inside g there k low = by (nat_eq f h) refl inside (λ next e. first_below next fs ready.2 f e g there k low) where
    b : Body
    b = body P d earlier task scale (slice_get P.funs h)

    sizes : b.args + b.result ≡ both_sizes (slice_get P.funs h)
    sizes = same_sizes (slice_get P.funs h) ready.0.fun ready.0.there

    by : (c : Bool) → nat_eq f h ≡ c → (c || is_among f fs) ≡ true →
        ((next : ℕ) → is_among f fs ≡ true → first_from P within next fs f + k < next + sides_count (bodies P d earlier task scale fs)) →
        cond c from (first_from P within (from + both_sizes (slice_get P.funs h)) fs f) + k < from + (b.args + b.result + sides_count (bodies P d earlier task scale fs))
    by true q e later =
        let same : f ≡ h = grind (arith, nat_tests, q) in
        let args : size_of (types g.params) within ≡ b.args = ap (λ o. (body P d earlier task scale o).args) (sym there ∙ ap (slice_get P.funs) same) in
        omega (arith, low, args)
    by false q e later =
        let rest = later (from + both_sizes (slice_get P.funs h)) e in
        omega (arith, rest, sizes)

  -- Where numbers give the signatures of a group, those of a function's arguments are the numbers of its annotation.
  module _ (sigs : List Sig) (x : List ℕ) where
    pub args_are : (from : ℕ) (fs : List ℕ) (ss : List Sig) → Ready P d earlier task scale fs →
        sides_given (amount x) from (bodies P d earlier task scale fs) ≡ group_from (here P d earlier task scale sigs) fs ss →
        (f : ℕ) (g : NormFun) (sig : Sig) → slice_get P.funs f ≡ Some g → sig_among fs ss f ≡ Some sig →
        (k : ℕ) → k < size_of (types g.params) within → number_in x (first_from P within from fs f + k) ≡ annotation sig.args k
    args_are from [] ss ready e f g sig there signed k low = absurd (cc)
    args_are from (h ∷ fs) [] ready e f g sig there signed k low = absurd (cc)
    args_are from (h ∷ fs) (s ∷ ss) ready e f g sig there signed k low = by (nat_eq f h) refl signed
        (λ j. let b = body P d earlier task scale (slice_get P.funs h) in args_are (from + (b.args + b.result)) fs ss ready.2 (cons_tail _ _ _ _ e) f g sig there j k low) where
          head : ◌≡◌ {A = Sides Amount}
              (record {
                args = given (amount x) from (body P d earlier task scale (slice_get P.funs h)).args;
                result = given (amount x) (from + (body P d earlier task scale (slice_get P.funs h)).args) (body P d earlier task scale (slice_get P.funs h)).result;
              })
              (sides (signature (slice_get P.funs h) within (Some s)))
          head = cons_head _ _ _ _ e

          by : (c : Bool) → nat_eq f h ≡ c → cond c (Some s) (sig_among fs ss f) ≡ Some sig →
              (sig_among fs ss f ≡ Some sig →
              (let b = body P d earlier task scale (slice_get P.funs h) in number_in x (first_from P within (from + (b.args + b.result)) fs f + k)) ≡ annotation sig.args k) →
              number_in x (cond c from (first_from P within (from + both_sizes (slice_get P.funs h)) fs f) + k) ≡ annotation sig.args k
          by true q j later =
              let same : f ≡ h = grind (arith, nat_tests, q) in
              let at_h : slice_get P.funs h ≡ Some g = ap (slice_get P.funs) (sym same) ∙ there in
              given_are x from (size_of (types g.params) within) (annotation sig.args)
              (subst (λ r. given (amount x) from (size_of (types g.params) within) ≡ amounts_of (listed (size_of (types g.params) within) (annotation r.args))) (some_is s sig j)
              (subst (λ o. given (amount x) from (body P d earlier task scale o).args ≡ (sides (signature o within (Some s))).args) at_h (ap (λ (a : Sides Amount). a.args) head))) k low
          by false q j later =
              subst (λ n. number_in x (first_from P within (from + n) fs f + k) ≡ annotation sig.args k) (same_sizes (slice_get P.funs h) ready.0.fun ready.0.there)
              (later j)

pub arguments_are_unknowns : ArgumentsAreUnknowns
arguments_are_unknowns P d earlier task scale is_task f g inside there k low =
    let first = first_below P d earlier task scale 0 (members P task.group) is_task.0 f inside g there k low in
    let all = ap (λ (z : LinearSystem). z.unknowns) (systems_are_walked P d earlier task scale is_task) in
    omega (arith, first, all)
