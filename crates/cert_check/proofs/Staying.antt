-- No total of a certificate of small numbers leaves 127 bits, where its plans make little of them.
use Rattle.std.proofs.Common.{◌≡◌, refl, ap, sym, subst, ℕ, zero, suc, ◌+◌, ◌*◌, ◌-◌, ◌≤◌, ℤ, unsigned_abs, Bool, true, false, cond, if◌then◌else◌, List, [], ◌∷◌, ◌++◌, map, take, length, slice_get, Option, None, Some, arith}
use Rattle.normal_spec.specs.Norm.{NormFun}
use Rattle.index_shift.specs.Potential.{Annotation}
use Rattle.cost_free.specs.Task as k
use Rattle.cost_free.specs.Task.{Kind, Free, Task}
use Rattle.cost_free.specs.declared.task.Meter.{Meter}
use Rattle.cost_free.specs.declared.task.Meter.TheVariants.{Ticks, Cells, Work}
use Rattle.annot_types.specs.Program.{Program, members}
use Rattle.annot_types.specs.Certificate as c
use Rattle.annot_types.specs.Certificate.{Entries, annotation, number_at, Sig, Hint, Body, Solved, Refuted, Calls, Block, Certificate, sigs_of}
use Rattle.annot_types.specs.Signature.{sig_among, free_budget, or_else, cost_sig}
use Rattle.annot_types.specs.Held.{before, scale_for}
use Rattle.annot_types.specs.Holds.{budget_of}
use Rattle.annot_types.specs.Rules.{Setting}
use Rattle.annot_types.specs.System.{unsigned}
use Rattle.rules_spec.specs.Numbers as n
use Rattle.rules_spec.specs.Numbers.{Signature, Condition}
use Rattle.rules_spec.specs.Kinds.{Amount}
use Rattle.rules_spec.specs.Plan as p
use Rattle.rules_spec.specs.Planned.{usable_from}
use Rattle.rules_spec.specs.Asked.{Ask, ResultsOf, CopiesOf, MultiplesOf}
use Rattle.rules_spec.specs.Found.{listed, amounts_of, signature, free_signature, free_in, at_budget}
use Rattle.rules_spec.specs.Shape.{amounts_at, each_amounts, multiples_at, hint_at, hints_at}
use Rattle.rules_spec.specs.Tasks as t
use Rattle.rules_walk.specs.Filled.{Uses, filled, all_filled}
use Rattle.rules_plan.specs.Read.{group_bodies}
use Rattle.rules_plan.proofs.Over.{fill, all_filled_are}
use Rattle.rules_spec.specs.Growth.{growth, growths, each_growth, span, join_spans}
use Rattle.rules_spec.specs.Small as b
use Rattle.rules_spec.specs.Small.{NumbersSmall, SignatureSmall, GrowthsWithin, TotalsSmall, JobSmall, TotalsStaySmall}
use Rattle.cert_check.specs.Finds.{sides_at, hints_by, asks_by, job}
use Rattle.cert_check.specs.Laws.{TotalsFit, NoneLeaves}
use Rattle.cert_check.specs.Limits.{most, factor, greatest, EntriesSmall, AnnotsSmall, SigSmall, SigsSmall, HintSmall, HintsSmall, AllHintsSmall, BodySmall, BlocksSmall, ScalesSmall, PlansStay, AllStay}

-- the numbers of an annotation
chosen : (b : Bool) (x y : ℤ) → unsigned_abs x ≤ most → unsigned_abs y ≤ most → unsigned_abs (if b then x else y) ≤ most
chosen true x y h k = h
chosen false x y h k = k

number_small : (k : ℕ) (es : Entries) → EntriesSmall es → unsigned_abs (number_at k es) ≤ most
number_small k [] s = omega arith
number_small k (e ∷ es) s = chosen _ e.1 (number_at k es) s.0 (number_small k es s.1)

listed_small : (m : ℕ) (q : Annotation) → ((k : ℕ) → q k ≤ most) → NumbersSmall most (listed m q)
listed_small zero q h = tt
listed_small (suc m) q h = (h 0, listed_small m (λ k. q (suc k)) (λ k. h (suc k)))

entries_listed : (m : ℕ) (es : Entries) → EntriesSmall es → NumbersSmall most (listed m (annotation es))
entries_listed m es s = listed_small m (annotation es) (λ k. number_small k es s)

amounts_small : (ns : List ℕ) → NumbersSmall most ns → b.Small most (amounts_of ns)
amounts_small [] s = tt
amounts_small (x ∷ ns) s = (omega (arith, s.0), amounts_small ns s.1)

annotation_small : (m : ℕ) (es : Entries) → EntriesSmall es → b.Small most (amounts_at m es)
annotation_small m es s = amounts_small _ (entries_listed m es s)

-- signatures of earlier blocks
abbrev IfSig : Option Sig → Type 0
IfSig None = Unit {0}
IfSig (Some s) = SigSmall s

either_sig : (b : Bool) (x y : Option Sig) → IfSig x → IfSig y → IfSig (cond b x y)
either_sig true x y h k = h
either_sig false x y h k = k

among_small : (gs : List ℕ) (ss : List Sig) (f : ℕ) → SigsSmall ss → IfSig (sig_among gs ss f)
among_small [] ss f s = tt
among_small (g ∷ gs) [] f s = tt
among_small (g ∷ gs) (x ∷ ss) f s = either_sig _ (Some x) (sig_among gs ss f) s.0 (among_small gs ss f s.1)

sigs_small : (body : Body) → BodySmall body → SigsSmall (sigs_of body)
sigs_small (Solved sigs hints) s = s.0
sigs_small (Refuted farkas) s = tt
sigs_small (Calls fun) s = tt

first_small : (x y : Option Sig) → IfSig x → IfSig y → IfSig (or_else x y)
first_small None y h k = k
first_small (Some x) y h k = h

cost_small : (P : Program) (meter : Meter) (bs : List Block) (f : ℕ) → BlocksSmall bs → IfSig (cost_sig P meter bs f)
cost_small P meter [] f s = tt
cost_small P meter (x ∷ bs) f s = first_small _ _ (either_sig _ _ None (among_small (members P x.task.group) _ f (sigs_small x.body s.0)) tt) (cost_small P meter bs f s.1)

signature_small : (g : Option NormFun) (budget : ℕ) (s : Option Sig) → IfSig s → SignatureSmall most (signature g budget s)
signature_small None budget s h = (tt, tt)
signature_small (Some g) budget None h = (tt, tt)
signature_small (Some g) budget (Some s) h = (entries_listed _ s.args h.0, entries_listed _ s.result h.1)

free_small : (g : Option NormFun) (budget : Option ℕ) (s : Option Sig) → IfSig s → SignatureSmall most (free_signature g budget s)
free_small g (Some budget) (Some s) h = signature_small g budget (Some s) h
free_small g (Some budget) None h = (tt, tt)
free_small g None s h = (tt, tt)

abbrev IfBlock : Option Block → Type 0
IfBlock None = Unit {0}
IfBlock (Some block) = BodySmall block.body

block_small : (bs : List Block) (k : ℕ) → BlocksSmall bs → IfBlock (slice_get bs k)
block_small [] k s = tt
block_small (x ∷ bs) zero s = s.0
block_small (x ∷ bs) (suc k) s = block_small bs k s.1

free_in_small : (S : Setting) (block : Option Block) (f : ℕ) → IfBlock block → SignatureSmall most (free_in S block f)
free_in_small S None f s = (tt, tt)
free_in_small S (Some block) f s = free_small (slice_get S.program.funs f) (free_budget block.task.kind) _ (among_small (members S.program block.task.group) _ f (sigs_small block.body s))

cost_found : (S : Setting) (g : Option NormFun) (o : Option Sig) (s : Signature) → IfSig o → at_budget S g o ≡ Some s → SignatureSmall most s
cost_found S g None s h e = absurd (cc)
cost_found S g (Some o) s h e = let same : signature g S.budget (Some o) ≡ s = cc in subst (SignatureSmall most) same (signature_small g S.budget (Some o) h)

take_small : (k : ℕ) (bs : List Block) → BlocksSmall bs → BlocksSmall (take k bs)
take_small zero bs s = tt
take_small (suc k) [] s = tt
take_small (suc k) (x ∷ bs) s = (s.0, take_small k bs s.1)

scale_small : (held : Certificate) (kind : Kind) → ScalesSmall held → scale_for held kind ≤ most
scale_small held (Free budget fun target) s = omega arith
scale_small held (k.With Ticks) s = s.ticks
scale_small held (k.With Cells) s = s.cells
scale_small held (k.With Work) s = s.work

-- what a block's walks are given
sides_small : (bs : List t.Body) (ss : List Sig) → SigsSmall ss → b.GroupSmall most (sides_at bs ss)
sides_small [] ss s = tt
sides_small (x ∷ bs) [] s = tt
sides_small (x ∷ bs) (y ∷ ss) s = ((annotation_small x.args y.args s.0.0, annotation_small x.result y.result s.0.1), sides_small bs ss s.1)

results_small : (ns : List ℕ) (qs : List Entries) → AnnotsSmall qs → b.AllSmall most (each_amounts ns qs)
results_small [] qs s = tt
results_small (x ∷ ns) [] s = tt
results_small (x ∷ ns) (q ∷ qs) s = (annotation_small x q s.0, results_small ns qs s.1)

multiples_small : (ms : Entries) → EntriesSmall ms → b.MultiplesSmall most (multiples_at ms)
multiples_small [] s = tt
multiples_small (m ∷ ms) s = (omega (arith, s.0), multiples_small ms s.1)

multiples_count : (ms : Entries) → length (multiples_at ms) ≡ length ms
multiples_count [] = refl
multiples_count (m ∷ ms) = ap suc (multiples_count ms)

hint_small : (ask : Ask) (h : Hint) (rest : List (n.Hint Amount)) → HintSmall h → b.HintsSmall most rest → b.HintsSmall most (hint_at ask h ++ rest)
hint_small (ResultsOf sizes) (c.Let results) rest s r = (results_small sizes results s, r)
hint_small (ResultsOf sizes) (c.Share copies) rest s r = r
hint_small (ResultsOf sizes) (c.Call multiples) rest s r = r
hint_small (CopiesOf size) (c.Let results) rest s r = r
hint_small (CopiesOf size) (c.Share copies) rest s r = (annotation_small size copies s, r)
hint_small (CopiesOf size) (c.Call multiples) rest s r = r
hint_small (MultiplesOf blocks) (c.Let results) rest s r = r
hint_small (MultiplesOf blocks) (c.Share copies) rest s r = r
hint_small (MultiplesOf blocks) (c.Call multiples) rest s r = ((multiples_small multiples s.0, subst (λ z. z ≤ most) (sym (multiples_count multiples)) s.1), r)

hints_small : (asks : List Ask) (hs : List Hint) → HintsSmall hs → b.HintsSmall most (hints_at asks hs)
hints_small [] hs s = tt
hints_small (ask ∷ asks) [] s = tt
hints_small (ask ∷ asks) (h ∷ hs) s = hint_small ask h _ s.0 (hints_small asks hs s.1)

all_hints_small : (asks : List (List Ask)) (hss : List (List Hint)) → AllHintsSmall hss → b.AllHintsSmall most (hints_by asks hss)
all_hints_small [] hss s = tt
all_hints_small (ask ∷ asks) [] s = tt
all_hints_small (ask ∷ asks) (hs ∷ hss) s = (hints_small ask hs s.0, all_hints_small asks hss s.1)

-- which signatures calls may take makes no difference
module _ (w : ℕ) (uses : Uses) where
  abbrev mutual
    growth_filled : (d : ℕ) (e : p.Plan) → growth w (filled uses d e) ≡ growth w e
    growth_filled d (p.Ends m cells steps) = refl
    growth_filled d (p.Pays m ticks e) = ap (λ g. g * (1 + m + ticks)) (growth_filled d e)
    growth_filled d (p.Moves m step e) = ap (λ g. g * (1 + span step.entries) * (1 + m)) (growth_filled d e)
    growth_filled d (p.Forks m step a other e) = λ i. (growth_filled d a i * (1 + span step.entries) + growth_filled d e i * (1 + span other.entries)) * (1 + m)
    growth_filled d (p.Shares m size step e) = ap (λ g. 1 + m + (span step.entries + g)) (growth_filled d e)
    growth_filled d (p.Calls m called) = refl
    growth_filled d (p.Lets m parts firsts size e) = λ i. (1 + each_growth (growths_filled d firsts i) parts) * (1 + m) + growth_filled d e i * (1 + join_spans parts)

    growths_filled : (d : ℕ) (es : p.Plans) → growths w (all_filled uses d es) ≡ growths w es
    growths_filled d p.NoPlans = refl
    growths_filled d (p.More e es) = λ i. growth_filled d e i ∷ growths_filled (d - 1) es i

plans_within : (P : Program) (group budget : ℕ) (earlier : List Block) → GrowthsWithin factor greatest (group_bodies P group [] budget) → GrowthsWithin factor greatest (group_bodies P group earlier budget)
plans_within P group budget earlier h = subst (GrowthsWithin factor greatest) (all_filled_are P (members P group) earlier budget uses told (members P group)) (filling _ h) where
  uses : Uses
  uses = λ d f. usable_from 0 P d f earlier

  told : (f d : ℕ) → uses d f ≡ usable_from 0 P d f earlier
  told f d = refl

  filling : (bs : List t.Body) → GrowthsWithin factor greatest bs → GrowthsWithin factor greatest (map (fill P (members P group) earlier budget uses told) bs)
  filling [] h = tt
  filling (x ∷ bs) h = (subst (λ g. g ≤ greatest) (sym (growth_filled factor uses budget x.plan)) h.0, filling bs h.1)

fits : (cs : List (Condition Amount)) → TotalsSmall (greatest * most) cs → TotalsFit cs
fits [] s = tt
fits (x ∷ cs) s = (omega (arith, s.0), omega (arith, s.0), fits cs s.1)

-- the block at a place
abbrev IfBoth : Program → ℕ → Option Block → Type 0
IfBoth P d None = Unit {0}
IfBoth P d (Some block) = BodySmall block.body × PlansStay P d block

both_at : (P : Program) (d : ℕ) (bs : List Block) (place : ℕ) → BlocksSmall bs → AllStay P d bs → IfBoth P d (slice_get bs place)
both_at P d [] place s a = tt
both_at P d (x ∷ bs) zero s a = (s.0, a.0)
both_at P d (x ∷ bs) (suc place) s a = both_at P d bs place s.1 a.1

module _ (law : TotalsStaySmall) (P : Program) (held : Certificate) (scales : ScalesSmall held) where
  body_fits : (earlier : List Block) (task : Task) (body : Body) → BlocksSmall earlier → BodySmall body → PlansStay P held.degree (record { task = task; body = body }) → NoneLeaves P held earlier task body
  body_fits earlier task (Solved sigs hints) s b a = fits _ (law most greatest j _ _ (omega arith) small (sides_small j.bodies sigs b.0) (all_hints_small (asks_by j.bodies) hints b.1) (plans_within P task.group (budget_of held.degree task.kind) earlier a)) where
    j : t.Job
    j = job P held earlier task

    S : Setting
    S = unsigned P held.degree earlier task (scale_for held task.kind)

    small : JobSmall most j
    small = record {
      scale = scale_small held task.kind scales;
      free = λ block f. free_in_small S (slice_get earlier block) f (block_small earlier block s);
      cost = λ meter f x e. cost_found S (slice_get P.funs f) (cost_sig P meter earlier f) x (cost_small P meter earlier f s) e;
    }
  body_fits earlier task (Refuted farkas) s b a = tt
  body_fits earlier task (Calls fun) s b a = tt

  pub none_leaves : BlocksSmall held.blocks → AllStay P held.degree held.blocks → (place : ℕ) (block : Block) → slice_get held.blocks place ≡ Some block → NoneLeaves P held (before held place) block.task block.body
  none_leaves s a place block e =
      let both = subst (IfBoth P held.degree) e (both_at P held.degree held.blocks place s a) in
      body_fits (before held place) block.task block.body (take_small place held.blocks s) both.0 both.1
