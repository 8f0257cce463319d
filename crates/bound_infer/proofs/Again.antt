-- The certificate in which an analysis ends is verified, unless a number leaves its range.
use Rattle.std.proofs.Common.{◌≡◌, refl, ap, sym, subst}
use Rattle.std.specs.Prelude.{ℕ, ℤ, ◌≢◌, Bool, true, false, cond, not, List, slice_get, Option, None, Some}
use Rattle.std.proofs.lemmas.Option.{none-some}
use Rattle.linear_rows.specs.Systems.{LinearSystem}
use Rattle.cost_free.specs.Task.{Task}
use Rattle.annot_types.specs.Program.{Program, blocker_of}
use Rattle.annot_types.specs.Certificate as c
use Rattle.annot_types.specs.Certificate.{Body, Solved, Sig, Hint, Block, Certificate}
use Rattle.annot_types.specs.Held.{before, done_before, scale_for, IfSolved, NamesBlocker}
use Rattle.annot_types.specs.System.{system}
use Rattle.infer_spec.specs.Generator as g
use Rattle.infer_spec.specs.Generator.{What, Generator, Analysis, Generates, limit_of}
use Rattle.infer_spec.specs.Courses.{EndsAt}
use Rattle.infer_spec.specs.Laws.{CoursesCertify, CoursesStayWithin, NoneTooLarge, NoneUnrefuted, Certifies, StaysWithin}
use Rattle.infer_spec.specs.Verifying as v
use Rattle.infer_systems_laws.specs.Analysed.{analysis_of, generator_of}
use Rattle.infer_systems_laws.specs.Laws.{SystemsGenerate, LimitsAreTold}
use Rattle.infer_systems_laws.specs.Tried.{IsOrdered}
use Rattle.infer_systems_laws.proofs.Proper.{ordered_are_proper}
use Rattle.cert_check.specs.Fault as f
use Rattle.cert_check.specs.Finds.{AreWithin, FirstFault}
use Rattle.cert_check.specs.Laws.{IsLeaving, IsSmall, HeldLeavesAlone}
use Rattle.cert_check.specs.Read.{fault_of}
use Rattle.cert_check.specs.declared.fault.CertFault.{CertFault}
use Rattle.cert_check.specs.declared.fault.CertFault.TheVariants as h
use Rattle.bound_infer.specs.Laws.{CheckLeaves, OnlyLeaves, CertificatesVerify}
use Rattle.bound_infer.specs.Inferred.{VerifyCause, SystemsAreSmall, VerifiesAgain}
use Rattle.bound_infer.specs.declared.refusal.VerifyFault.{VerifyFault}
use Rattle.bound_infer.specs.declared.refusal.VerifyFault.TheVariants as r
use Rattle.bound_infer.proofs.NeverNo.{never_no}

not_blocked : (o : Option ℕ) (sigs : List Sig) (hints : List (List Hint)) → NamesBlocker o (Solved sigs hints) → o ≡ None
not_blocked None sigs hints h = refl
not_blocked (Some x) sigs hints h = absurd (cc)

-- where no limit is exceeded, the walks are small enough
within_of : (G : Generator) (task : Task) (s : LinearSystem) → limit_of G task s ≡ None → G.within task ≡ true
within_of G task s e = by (G.within task) _ e where
  by : (b : Bool) (rest : Option What) → cond (not b) (Some g.Indices) rest ≡ None → b ≡ true
  by true rest q = refl
  by false rest q = absurd (none-some g.Indices (sym q))

only : (fault : CertFault) → ((x : f.Fault) → fault_of fault ≡ Some x → IsLeaving x) → fault_of fault ≢ None → CheckLeaves fault
only (h.Shape block) k n = k _ refl
only (h.Fails block path index) k n = k _ refl
only (h.Leaves block path index) k n = tt
only (h.TooLarge task) k n = k _ refl
only h.NoMemory k n = n refl

module _ (told : LimitsAreTold) (alone : HeldLeavesAlone) (large : NoneTooLarge) (unrefuted : NoneUnrefuted)
    (P : Program) (ordered : IsOrdered P) (d : ℕ) (pick : List ℤ → ℤ → Option ℕ) (generates : Generates (analysis_of P d pick)) (cert : Certificate)
    (ends : EndsAt (analysis_of P d pick) cert) (certifies : Certifies P cert) (stays : StaysWithin (analysis_of P d pick) cert) where
  degree_is : cert.degree ≡ d
  degree_is = ap (λ (x : Certificate). x.degree) ends.is

  small : IsSmall P cert
  small = record { goes_on = stays.goes_on; within = λ place block there. by place block there block.body refl } where
    by : (place : ℕ) (block : Block) → slice_get cert.blocks place ≡ Some block → (body : Body) → block.body ≡ body → IfSolved body (AreWithin P cert block.task)
    by place block there (c.Refuted farkas) e = tt
    by place block there (c.Calls fun) e = tt
    by place block there (Solved sigs hints) e =
        let tried = not_blocked _ sigs hints (subst (NamesBlocker (blocker_of P block.task (done_before cert place))) e (certifies.valid.held.blocks place block there).waits) in
        let limit = stays.limits place block there tried in
        let within : (generator_of P d).within block.task ≡ true = within_of (generator_of P d) block.task (system P cert.degree (before cert place) block.task (scale_for cert block.task.kind)) limit in
        (told P cert.degree block.task).0 (subst (λ n. (generator_of P n).within block.task ≡ true) (sym degree_is) within)

  none_too_large : (place : ℕ) (what : What) → v.BlockFault P (generator_of P cert.degree) cert place (v.TooLarge what) → ⊥
  none_too_large place what h = large (analysis_of P d pick) generates cert ends place what (subst (λ n. v.BlockFault P (generator_of P n) cert place (v.TooLarge what)) degree_is h)

  pub only_leaves : (fault : VerifyFault) → VerifyCause P cert fault → OnlyLeaves fault
  only_leaves (r.Cert fault) h = only fault
      (λ x e. alone P (ordered_are_proper P ordered) cert certifies.valid.held small x (subst (FirstFault P cert) e h.1)) h.0
  only_leaves (r.NotRefuted block) h = unrefuted never_no P (generator_of P cert.degree) cert certifies.valid block h.first.is
  only_leaves (r.TooLarge task what) h = none_too_large h.place _ h.has.first.is
  only_leaves (r.Leaves at) h = tt
  only_leaves r.NoMemory h = tt

pub certificates_verify : SystemsGenerate → LimitsAreTold → CoursesCertify → CoursesStayWithin → NoneTooLarge → NoneUnrefuted → HeldLeavesAlone → CertificatesVerify
certificates_verify generate told certify stay large unrefuted alone P ordered d least most pick cert ends =
    let generates = generate P ordered d pick in
    only_leaves told alone large unrefuted P ordered d pick generates cert ends
    (certify (analysis_of P d pick) generates least most cert ends) (stay (analysis_of P d pick) generates cert ends)

-- A certificate that passes the check, whose vectors refute systems within the limits, is refused for numbers of vectors alone.
module _ (P : Program) (cert : Certificate) (one : (first other : Option f.Fault) → FirstFault P cert first → FirstFault P cert other → first ≡ other)
    (unrefuted : (place : ℕ) → v.BlockFault P (generator_of P cert.degree) cert place v.NotRefuted → ⊥) (systems : SystemsAreSmall P cert) (passes : FirstFault P cert None) where
  pub verifies_again : VerifiesAgain P cert
  verifies_again (r.Cert fault) h = h.0 (one (fault_of fault) None h.1 passes)
  verifies_again (r.NotRefuted block) h = unrefuted block h.first.is
  verifies_again (r.TooLarge task what) h = systems h.place _ h.has.first.is
  verifies_again (r.Leaves at) h = tt
  verifies_again r.NoMemory h = tt
