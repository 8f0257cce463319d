-- What is decided at the certificate's block of a line is decided of the line.
use Rattle.std.proofs.Common.{◌≡◌, ◌<◌, ◌*◌, refl, ap, sym, ◌∙◌, subst}
use Rattle.std.specs.Prelude.{ℕ, ℤ, pos, ◌<ℤ◌, true, List, [], ◌∷◌, length, slice_get, slice_index_or, Option, None, Some}
use Rattle.std.specs.List.{All}
use Rattle.std.specs.Option.{option_map}
use Rattle.std.proofs.lemmas.List.Elements.{All-head, All-tail}
use Rattle.std.proofs.lemmas.Option.{none-some, slice_get-map, slice_get-get_or}
use Rattle.linear_rows.specs.Systems.{Refutes}
use Rattle.farkas_check.specs.Checks.{EachPasses, refuting}
use Rattle.raml_syntax.specs.Tree.{Function}
use Rattle.raml_syntax.specs.Types.{Typed}
use Rattle.raml_syntax.specs.Node.{AllNodes, NumberFits}
use Rattle.call_groups.specs.Groups.{AreInOrder, IsGrouping}
use Rattle.normal_spec.specs.Two.{norm}
use Rattle.share_normal.specs.Program as s
use Rattle.share_normal.specs.Program.{source_in, norm_in}
use Rattle.cost_free.specs.Task.{Task}
use Rattle.annot_types.specs.Program.{Program, blocker_of}
use Rattle.annot_types.specs.Certificate as a
use Rattle.annot_types.specs.Certificate.{Body, Block, Certificate, has_work}
use Rattle.annot_types.specs.Held.{before, done_before, scale_for, NamesBlocker, Held}
use Rattle.annot_types.specs.System.{system}
use Rattle.annot_types.specs.Read.{block_of, blocks_of}
use Rattle.annot_types.specs.declared.block.Block.{Block as Given}
use Rattle.rules_plan.specs.Read.{program_in}
use Rattle.infer_spec.specs.Generator.{limit_of}
use Rattle.infer_systems_laws.specs.Analysed.{generator_of}
use Rattle.infer_systems_laws.specs.Laws.{NormalsAreOrdered}
use Rattle.infer_systems_laws.specs.Tried.{IsOrdered}
use Rattle.cert_check.specs.Checked.{Checking}
use Rattle.other_blocks.specs.Over.{Over}
use Rattle.other_blocks.specs.Other.{IsTried}
use Rattle.bound_file.specs.Lines.{Line}
use Rattle.bound_file.specs.Read.{line_of, IsSigned, ArePositive}
use Rattle.bound_file.specs.declared.declaration.DeclLine.{DeclLine}
use Rattle.bound_contract.specs.Kept.{system_there, KeepsThere, NoneKeepsThere}
use Rattle.bound_contract.specs.Decided.{Decided, Kept, NotKept, Calls, own_place, IsOwn, IsKept, IsNotKept, IsDecided, OwnsAreThere}
use Rattle.bound_contract.specs.Places.{Place, IsFirst, IsClear}
use Rattle.bound_contract.specs.Asked.{MayBeAsked, Decides, NoneComes, ComesFirst}
use Rattle.bound_contract.specs.Read.{AllPositive, place_of, OfPlace}
use Rattle.bound_contract.specs.Sites.{program_at, certificate_at, line_at, task_at, IsSite, FirstAt, StopsWith, ClearAt, IsKeptAt, IsNotKeptAt, IsDecidedAt}
use Rattle.bound_contract.specs.declared.fault.DecideFault.{DecideFault}
use Rattle.bound_contract.specs.declared.site.Site.{Site}
use Rattle.bound_contract.proofs.Owned.{own_is_of, one_own}
use Rattle.bound_contract.proofs.Telling.{site_tried}

-- the program is ordered, as its normal form is
pub ordered_is : NormalsAreOrdered → (checking : Checking) (K : s.Kept) → K ≡ checking.program → Typed (source_in K) → All (λ (g : Function). AllNodes NumberFits g.body) (source_in K) →
    norm_in K ≡ norm (source_in K) → IsGrouping (source_in K) K.groups → IsOrdered (program_in checking.program)
ordered_is law checking K same typed numbers normal grouping =
    subst (λ k. IsOrdered (program_in k)) same
    (subst (λ funs. IsOrdered (record { funs = funs; groups = K.groups.list })) (sym normal) (law (source_in K) typed numbers K.groups grouping))

-- the block of the code's list that is a line's own
pub own_there : (checking : Checking) (line : Line) (K : s.Kept) → K ≡ checking.program → (xs ys : List Given) → blocks_of xs ≡ checking.certificate.blocks → ys ≡ xs →
    (place : ℕ) → Some place ≡ own_place (program_in K) line (blocks_of ys) → place < length ys → (b : Given) → b ≡ slice_index_or xs place b →
    IsOwn (program_in checking.program) checking.certificate line place (block_of b)
own_there checking line K same xs ys are read place first low b is = record {
  first = sym (first ∙ (λ i. own_place (program_in (same i)) line (blocks_of (read i))) ∙ ap (own_place (program_in checking.program) line) are);
  there = ap (λ bs. slice_get bs place) (sym are) ∙ slice_get-map block_of xs place
      ∙ ap (option_map block_of) (slice_get-get_or xs place b (subst (λ (zs : List Given). place < length zs) read low)) ∙ ap (λ b. Some (block_of b)) (sym is);
}

-- and there is one
pub own_missing : OwnsAreThere → (checking : Checking) (line : Line) (K : s.Kept) → K ≡ checking.program → IsGrouping (source_in K) K.groups →
    Held (program_in checking.program) checking.certificate → has_work checking.certificate ≡ true → MayBeAsked checking line →
    (xs ys : List Given) → blocks_of xs ≡ checking.certificate.blocks → ys ≡ xs → None ≡ own_place (program_in K) line (blocks_of ys) → ⊥
own_missing law checking line K same grouping held work asked xs ys are read none =
    let P = program_in checking.program in
    let own = law (source_in checking.program) P (subst (λ k. AreInOrder (source_in k) [] (program_in k).groups) same grouping.in_order) checking.certificate held work line asked.fun in
    none-some own.0 (none ∙ (λ i. own_place (program_in (same i)) line (blocks_of (read i))) ∙ ap (own_place P line) are ∙ own.2.first)

-- a block that was tried waits for nothing
none_blocks : (o : Option ℕ) (body : Body) → NamesBlocker o body → IsTried body → o ≡ None
none_blocks None body h tried = refl
none_blocks (Some f) body h tried = absurd (subst IsTried h tried)

pub of_place : (o : Option Place) (A B : Place → Type 0) → ((p : Place) → A p → B p) → OfPlace o A → OfPlace o B
of_place None A B h a = tt
of_place (Some p) A B h a = h p a

-- numbers that are read are positive
all_positive : (cs : List (ℕ × ℤ × ℤ)) → ArePositive cs → AllPositive cs
all_positive [] h = tt
all_positive (c ∷ cs) h =
    let first = All-head (λ (c : ℕ × ℤ × ℤ). (pos 0 <ℤ c.1) × (pos 0 <ℤ c.2)) c cs h in
    (first.0, first.1, all_positive cs (All-tail (λ (c : ℕ × ℤ × ℤ). (pos 0 <ℤ c.1) × (pos 0 <ℤ c.2)) c cs h))

-- Where a line is asked for, and its block was tried, it is decided there.
pub site_is : (site : Site) (line : DeclLine) → line_at site ≡ line_of line → site.bound.now ≡ line.bound.items →
    IsOrdered (program_at site) → Held (program_at site) (certificate_at site) → MayBeAsked site.checked.now (line_of line) → IsSigned line →
    (own : Block) → IsOwn (program_at site) (certificate_at site) (line_of line) site.place own → own.task.group ≡ site.group → IsTried own.body → IsSite site
site_is site line same bound ordered held may positive own own_is group tried =
    let P = program_at site in
    let c = certificate_at site in
    let is : IsOwn P c (line_at site) site.place own = subst (λ l. IsOwn P c l site.place own) (sym same) own_is in
    let asked : MayBeAsked site.checked.now (line_at site) = subst (MayBeAsked site.checked.now) (sym same) may in
    let of = own_is_of P c (line_at site) site.place own is in
    let task : own.task ≡ task_at site = λ i. record { group = group i; kind = of.kind i } in
    let none = none_blocks (blocker_of P own.task (done_before c site.place)) own.body (held.blocks site.place own is.there).waits tried in
    record {
      held = held;
      ordered = ordered;
      own = own;
      own_is = is;
      task_is = task;
      tried = subst (λ (u : Task). blocker_of P u (done_before c site.place) ≡ None) task none;
      within = subst (λ (u : Task). limit_of (generator_of P c.degree) u (system P c.degree (before c site.place) u (scale_for c u.kind)) ≡ None) task (asked.within site.place own is none);
      positive = all_positive site.bound.now (subst ArePositive (sym bound) positive);
    }

module _ (site : Site) (h : IsSite site) where
  abbrev P : Program
  P = program_at site

  abbrev c : Certificate
  c = certificate_at site

  kept_there : (o : Over) (t : ℕ) → IsKeptAt site t o → IsKept site.checked.now.program c (line_at site) site.place h.own o
  kept_there o t k = record {
    tried = site_tried site h;
    program_is = k.program_is;
    degree = k.degree;
    task_is = k.task_is ∙ sym h.task_is;
    t = t;
    scale = k.scale ∙ ap (λ (u : Task). scale_for c u.kind * t) (sym h.task_is);
    keeps = subst (λ (u : Task). KeepsThere P c site.place u (line_at site) o.block t) (sym h.task_is) k.keeps;
  }

  none_there : (y : List ℤ) → IsNotKeptAt site y → IsNotKept site.checked.now.program c (line_at site) site.place h.own y
  none_there y n = record {
    tried = site_tried site h;
    none = subst (λ (u : Task). NoneKeepsThere P c site.place u (line_at site)) (sym h.task_is) n.none;
    refutes = subst (λ (u : Task). Refutes (system_there P c site.place u (line_at site)) y) (sym h.task_is) n.refutes;
    passes = subst (λ (u : Task). EachPasses (refuting (system_there P c site.place u (line_at site)) y)) (sym h.task_is) n.passes;
  }

  decided_there : (decided : Decided) → IsDecidedAt site decided → IsDecided site.checked.now.program c (line_at site) site.place h.own decided
  decided_there (Kept o) k = kept_there o k.0 k.1
  decided_there (NotKept y) n = none_there y n
  decided_there (Calls f) n = absurd n

  -- the line has no other block
  module _ (place : ℕ) (own : Block) (is : IsOwn P c (line_at site) place own) where
    here : (site.place ≡ place) × (h.own ≡ own)
    here = one_own P c (line_at site) site.place place h.own own h.own_is is

    task_here : task_at site ≡ own.task
    task_here = sym h.task_is ∙ ap (λ (b : Block). b.task) here.1

  pub decides : (decided : Decided) → IsDecidedAt site decided → Decides site.checked.now (line_at site) decided
  decides decided d place own is =
      let e = here place own is in
      subst (λ (x : ℕ × Block). IsDecided site.checked.now.program c (line_at site) x.0 x.1 decided) (λ i. (e.0 i, e.1 i)) (decided_there decided d)

  pub none_comes : (pick : List ℤ → ℤ → Option ℕ) → ClearAt site pick → NoneComes site.checked.now (line_at site) pick
  none_comes pick clear place own is tried =
      let e = here place own is in
      let task = task_here place own is in
      subst (λ (x : ℕ × Task). IsClear P c x.0 x.1 (line_at site) pick) (λ i. (e.0 i, task i)) clear

  comes_first : (pick : List ℤ → ℤ → Option ℕ) (p : Place) → FirstAt site pick p → ComesFirst site.checked.now (line_at site) pick p
  comes_first pick p first place own is =
      let e = here place own is in
      let task = task_here place own is in (
        subst (λ (b : Block). IsTried b.body) e.1 (site_tried site h),
        subst (λ (x : ℕ × Task). IsFirst P c x.0 x.1 (line_at site) pick p) (λ i. (e.0 i, task i)) first,
      )

  pub stops_first : (pick : List ℤ → ℤ → Option ℕ) (fault : DecideFault) → StopsWith site pick fault → OfPlace (place_of fault) (ComesFirst site.checked.now (line_at site) pick)
  stops_first pick fault s = of_place (place_of fault) (FirstAt site pick) (ComesFirst site.checked.now (line_at site) pick) (comes_first pick) s

-- A line whose block waits.
module _ (checking : Checking) (line : Line) (place : ℕ) (own : Block) (f : ℕ) (is : IsOwn (program_in checking.program) checking.certificate line place own)
    (waits : own.body ≡ a.Calls f) where
  pub calls_here : Decides checking line (Calls f)
  calls_here other one there =
      let e = one_own (program_in checking.program) checking.certificate line place other own one is there in
      ap (λ (b : Block). b.body) (sym e.1) ∙ waits

  pub calls_clear : (pick : List ℤ → ℤ → Option ℕ) → NoneComes checking line pick
  calls_clear pick other one there tried = absurd (subst IsTried (calls_here other one there) tried)
