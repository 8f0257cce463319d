-- The block that a solution stands for, as another block of its task.
use Rattle.std.proofs.Common.{◌≡◌, ◌≤◌, ◌<◌, ◌<ℤ◌, ◌*◌, ◌∙◌, ◌⊎◌, length, refl, ap, sym, subst, arith, inl, inr}
use Rattle.std.specs.Prelude.{ℕ, ℤ, pos, unsigned_abs, List, [], ◌∷◌, map, Option, None, Some}
use Rattle.std.specs.Option.{unwrap_or}
use Rattle.std.proofs.lemmas.Int.{ints}
use Rattle.std.proofs.lemmas.Option.{same_Some, slice_get_within}
use Rattle.cost_free.specs.Task.{Task}
use Rattle.annot_types.specs.Certificate.{Sig, Hint, Solved, Block}
use Rattle.annot_types.specs.Program.{blocker_of}
use Rattle.annot_types.specs.Held.{before, done_before, scale_of}
use Rattle.simplex_integers.specs.Wholes.{most}
use Rattle.infer_systems_laws.specs.Laws.{LimitsAreTold}
use Rattle.rules_spec.specs.Tasks.{Body}
use Rattle.rules_spec.specs.Told.{bodies_of, sigs_told, hints_told}
use Rattle.rules_systems_laws.specs.Laws.{told}
use Rattle.cert_check.specs.Fault as f
use Rattle.cert_check.specs.Fault.{Fault}
use Rattle.other_blocks.specs.Laws.{RisesFit}
use Rattle.other_blocks.specs.Leaving.{NoneSolved}
use Rattle.other_blocks.specs.Other.{IsTried, IsOwn, place, ScaleFits, OtherFinds}
use Rattle.infer_systems_laws.specs.Tried.{TriedHaveTasks}
use Rattle.other_blocks.specs.Over.{Over}
use Rattle.bound_contract.specs.Clear.{SeenIsFirst, AllFineIsClear}
use Rattle.bound_contract.specs.Places as p
use Rattle.bound_contract.specs.Laws.{ReadLeavesAlone, ReadingsDecide}
use Rattle.bound_contract.specs.Sites.{program_at, certificate_at, line_at, task_at, before_at, scale_at, IsSite, FirstAt, FineAt, ClearAt, RescaleAt, ReadsAt, IsReadAt, IsToldBy, IsToldAt, KeepsAt, IsKeptAt}
use Rattle.bound_contract.specs.declared.site.Site.{Site}
use Rattle.bound_contract.proofs.Limits.{is_within}
use Rattle.bound_contract.proofs.Refused.{not_waiting}
use Rattle.bound_contract.proofs.Sited.{site_of, site_first, own_tried, firsts, clears, readings}

-- numbers are those that they were made of
back : (xs : List ℕ) → map unsigned_abs (map pos xs) ≡ xs
back [] = refl
back (x ∷ xs) = ap (λ l. x ∷ l) (back xs)

-- What is told by numbers is what the solution stands for.
pub told_here : (site : Site) (x : List ℕ) (numbers : List ℤ) → numbers ≡ map pos x →
    (bodies : List Body) → bodies ≡ bodies_of (program_at site) (certificate_at site).degree (before_at site) (task_at site) →
    (task : Task) → task ≡ task_at site → (sigs : List Sig) (hints : List (List Hint)) →
    sigs ≡ sigs_told bodies (map unsigned_abs numbers) → hints ≡ hints_told bodies (map unsigned_abs numbers) →
    record { task = task; body = Solved sigs hints } ≡ told (program_at site) (certificate_at site).degree (before_at site) (task_at site) x
told_here site x numbers e bodies are task is sigs hints s h =
    let same : map unsigned_abs numbers ≡ x = ap (map unsigned_abs) e ∙ back x in
    let signed = s ∙ (λ i. sigs_told (are i) (same i)) in
    let hinted = h ∙ (λ i. hints_told (are i) (same i)) in
    λ i. record { task = is i; body = Solved (signed i) (hinted i) }

-- The certificate's block there was tried.
pub site_tried : (site : Site) (h : IsSite site) → IsTried h.own.body
site_tried site h = not_waiting (blocker_of (program_at site) h.own.task (done_before (certificate_at site) site.place)) h.own.body (own_tried site h)
    (h.held.blocks site.place h.own h.own_is.there).waits

-- It is the first of the task.
pub own_here : (site : Site) → IsSite site → IsOwn (certificate_at site) (task_at site) site.place
own_here site h = record {
  first = site_first site h;
  there = slice_get_within (certificate_at site).blocks site.place h.own h.own_is.there;
  tried = λ other there. subst (λ (b : Block). IsTried b.body) (same_Some h.own other (sym h.own_is.there ∙ there)) (site_tried site h);
}

-- a total that leaves
abbrev pub IsTotalFault : Fault → Type 0
IsTotalFault (f.Leaves number path index) = Unit {0}
IsTotalFault fault = ⊥

less_or : (m n : ℕ) → (m ≤ n) ⊎ (n < m)
less_or m n = grind arith

module _ (site : Site) (h : IsSite site) (t : ℕ) (rises : (number : ℕ) → RescaleAt site t number → ⊥) where
  -- the scale times t fits
  scale_low : NoneSolved site.meter (before (certificate_at site) site.place) → t * unsigned_abs (scale_of (certificate_at site) site.meter) < most
  scale_low none = by (less_or most (t * unsigned_abs (scale_of (certificate_at site) site.meter))) where
    by : ((most ≤ t * unsigned_abs (scale_of (certificate_at site) site.meter)) ⊎ (t * unsigned_abs (scale_of (certificate_at site) site.meter) < most)) →
        t * unsigned_abs (scale_of (certificate_at site) site.meter) < most
    by (inl high) = absurd (rises site.place (inr (none, refl, high)))
    by (inr low) = low

  pub scale_fits : RisesFit → (x : List ℕ) → ScaleFits (program_at site) (certificate_at site) t (told (program_at site) (certificate_at site).degree (before_at site) (task_at site) x)
  scale_fits fit x =
      fit (program_at site) (certificate_at site) t (told (program_at site) (certificate_at site).degree (before_at site) (task_at site) x) site.meter refl site.place
      (λ number leaves. rises number (inl leaves)) scale_low

  -- the block is refused for a total alone
  module _ (fit : RisesFit) (limits : LimitsAreTold) (leave : ReadLeavesAlone) (block : Block) (is : IsToldAt site t block) where
    pub leaves_here : (fault : Fault) → OtherFinds (program_at site) (certificate_at site) t block (Some fault) → (path : List ℕ) × (index : ℕ) × (fault ≡ f.Leaves site.place path index)
    leaves_here fault found =
        let P = program_at site in
        let c = certificate_at site in
        let there = subst (λ b. OtherFinds P c t b (Some fault)) is.told_by.is found in
        let total = leave P h.ordered c h.held (line_at site) (task_at site) (site_of site h) site.place h.own (site_first site h) h.own_is.there h.task_is h.tried
        (is_within limits P c.degree (before_at site) (task_at site) (scale_at site) h.within) is.pick t is.x is.told_by.reads.solution (scale_fits fit is.x) fault there in
        let here : place P c t (told P c.degree (before_at site) (task_at site) is.x) ≡ site.place = ap (λ o. unwrap_or o 0) (site_first site h) in
        (total.path, total.index, subst (λ n. fault ≡ f.Leaves n total.path total.index) here total.is)

    pub leaves_alone : (fault : Fault) → OtherFinds (program_at site) (certificate_at site) t block (Some fault) → IsTotalFault fault
    leaves_alone fault found = subst IsTotalFault (sym (leaves_here fault found).2) tt

  -- where a total leaves, that place comes first; where none does, no place comes
  module _ (fit : RisesFit) (limits : LimitsAreTold) (leave : ReadLeavesAlone) (tasks : TriedHaveTasks) (fine : (pick : List ℤ → ℤ → Option ℕ) → FineAt site pick) (block : Block)
      (is : IsToldAt site t block) (pick : List ℤ → ℤ → Option ℕ) (x : List ℕ) (by : IsToldBy site pick t x block) where
    pub check_first : SeenIsFirst → (number : ℕ) (path : List ℕ) (index : ℕ) →
        OtherFinds (program_at site) (certificate_at site) t block (Some (f.Leaves number path index)) → FirstAt site pick (p.Check path index)
    check_first seen number path index found =
        let here = leaves_here fit limits leave block is (f.Leaves number path index) found in
        let at : number ≡ site.place = same number site.place path here.0 index here.1 here.2 in
        (firsts site h tasks seen pick).check (fine pick) t x by.reads rises path index
        (subst (λ n. OtherFinds (program_at site) (certificate_at site) t (told (program_at site) (certificate_at site).degree (before_at site) (task_at site) x) (Some (f.Leaves n path index))) at
        (subst (λ b. OtherFinds (program_at site) (certificate_at site) t b (Some (f.Leaves number path index))) by.is found))
      where
        same : (m n : ℕ) (ps qs : List ℕ) (i j : ℕ) → f.Leaves m ps i ≡ f.Leaves n qs j → m ≡ n
        same m n ps qs i j e = cc

    pub check_clear : AllFineIsClear → OtherFinds (program_at site) (certificate_at site) t block None → ClearAt site pick
    check_clear clear found =
        (clears site h tasks clear pick).kept (fine pick) t x by.reads rises
        (subst (λ b. OtherFinds (program_at site) (certificate_at site) t b None) by.is found)

-- The block that is told keeps the line.
pub kept_here : (site : Site) (h : IsSite site) → ReadingsDecide → (t : ℕ) (block : Block) → IsToldAt site t block →
    (o : Over) → o ≡ record { program = site.checked.now.program; degree = (certificate_at site).degree; scale = scale_at site * t; block = block } → IsKeptAt site t o
kept_here site h decide t block is o e = record {
  program_is = ap (λ (o : Over). o.program) e;
  degree = ap (λ (o : Over). o.degree) e;
  task_is = ap (λ (o : Over). o.block.task) e ∙ ap (λ (b : Block). b.task) is.told_by.is;
  scale = ap (λ (o : Over). o.scale) e;
  keeps = subst (λ b. KeepsAt site b t) (sym (ap (λ (o : Over). o.block) e ∙ is.told_by.is)) ((readings site h decide is.pick).kept t is.x is.told_by.reads.solution);
}

-- What is read is over a positive number.
positive_number : (t : ℕ) (z : ℤ) → 0 < t → z ≡ pos t → pos 0 <ℤ z
positive_number t z p e = grind (arith, ints)

pub positive_times : (site : Site) (times : ℤ) (numbers : List ℤ) → IsReadAt site times numbers → pos 0 <ℤ times
positive_times site times numbers r = positive_number r.t times r.reads.solution.whole.are.positive r.times_is

-- The certificate has so many blocks.
pub place_low : (site : Site) → IsSite site → site.place ≤ length (certificate_at site).blocks
place_low site h = let low = slice_get_within (certificate_at site).blocks site.place h.own h.own_is.there in omega (arith, low)

-- A block that is told by the numbers of a solution that is read is told by the solution.
pub told_by_read : (site : Site) (times : ℤ) (numbers : List ℤ) (block : Block) →
    ((x : List ℕ) → numbers ≡ map pos x → block ≡ told (program_at site) (certificate_at site).degree (before_at site) (task_at site) x) →
    (pick : List ℤ → ℤ → Option ℕ) (t : ℕ) (x : List ℕ) → times ≡ pos t → numbers ≡ map pos x → ReadsAt site pick t x → IsToldBy site pick (unsigned_abs times) x block
told_by_read site times numbers block tells pick t x e n reads = record { reads = subst (λ u. ReadsAt site pick u x) (sym (ap unsigned_abs e)) reads; is = tells x n }

pub told_of_read : (site : Site) (times : ℤ) (numbers : List ℤ) (block : Block) →
    ((x : List ℕ) → numbers ≡ map pos x → block ≡ told (program_at site) (certificate_at site).degree (before_at site) (task_at site) x) →
    IsReadAt site times numbers → IsToldAt site (unsigned_abs times) block
told_of_read site times numbers block tells r = record {
  pick = r.pick;
  x = r.x;
  told_by = told_by_read site times numbers block tells r.pick r.t r.x r.times_is r.numbers_are r.reads;
}

-- Where a raised number leaves, that comes first.
pub rescale_first : (site : Site) → IsSite site → TriedHaveTasks → SeenIsFirst → (pick : List ℤ → ℤ → Option ℕ) → FineAt site pick → (times : ℤ) (t : ℕ) (x : List ℕ) → times ≡ pos t → ReadsAt site pick t x →
    (number : ℕ) → RescaleAt site (unsigned_abs times) number → FirstAt site pick (p.Rescale number)
rescale_first site h tasks seen pick fine times t x e reads number leaves =
    (firsts site h tasks seen pick).rescale fine t x reads number (subst (λ u. RescaleAt site u number) (ap unsigned_abs e) leaves)
