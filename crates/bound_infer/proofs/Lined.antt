-- The line of a function and a meter.
use Rattle.std.proofs.Common.{◌≡◌, refl, ap, sym, ◌∙◌, subst, arith}
use Rattle.std.specs.Prelude.{ℕ, zero, suc, ◌<◌, Bool, true, false, cond, List, [], ◌∷◌, ◌++◌, map, flat_map, filter, length, unsigned_abs, slice_get, Option, None, Some, IsSome, IfSome}
use Rattle.std.specs.Option.{option_map}
use Rattle.std.proofs.lemmas.Option.{none-some, same_Some}
use Rattle.raml_syntax.specs.Tree.{Function, Prog}
use Rattle.normal_spec.specs.Norm.{NormFun}
use Rattle.normal_spec.specs.Context.{types}
use Rattle.base_poly.specs.declared.tuple.Poly.{Poly}
use Rattle.base_poly.specs.Poly.{den_of, terms_of, IsPoly}
use Rattle.cost_free.specs.declared.task.Meter.{Meter}
use Rattle.cost_free.specs.Blocked.{is_among, is_for_meter}
use Rattle.annot_types.specs.Program.{Program, members, blocker_of}
use Rattle.annot_types.specs.Certificate as c
use Rattle.annot_types.specs.Certificate.{Sig, Body, Solved, Block, Certificate}
use Rattle.annot_types.specs.Signature.{sig_in, cost_sig}
use Rattle.annot_types.specs.Held as h
use Rattle.annot_types.specs.Held.{IfSolved, NamesBlocker, done_before, scale_of, claim_of, bound_of, is_for_function, line, lines_for, Held, HoldsInPlace}
use Rattle.rules_soundness_laws.specs.Bounds.{Bounds}
use Rattle.rules_soundness_laws.specs.Laws.{IsTrue}
use Rattle.infer_spec.specs.Good.{AllRefuted}
use Rattle.infer_spec.specs.Lines.{IsBlockOf, Tells}
use Rattle.infer_spec.proofs.Lines.{both_true, of_meter, named}
use Rattle.cert_check.specs.Bound.{told, told_by, told_of}
use Rattle.bound_infer.specs.declared.line.Line.{Line}
use Rattle.bound_infer.specs.declared.line.Line.TheVariants.{Bound, NoBound, Calls}
use Rattle.bound_infer.specs.Claimed.{IsToldBy}
use Rattle.bound_infer.specs.Told as t
use Rattle.bound_infer.specs.Told.{IsWritten}
use Rattle.bound_infer.proofs.OneBlock.{cost_of_one, is_signed}

-- where a filter leaves one item
one_place : {X : Type 0} (p : X → Bool) (xs : List X) (x : X) → filter p xs ≡ x ∷ [] → (place : ℕ) × (slice_get xs place ≡ Some x) × (p x ≡ true)
one_place p [] x e = absurd (cc)
one_place p (y ∷ xs) x e = by (p y) refl e (one_place p xs x) where
  head : (ys : List _) → y ∷ ys ≡ x ∷ [] → y ≡ x
  head ys q = cc

  by : (b : Bool) → p y ≡ b → cond b (y ∷ filter p xs) (filter p xs) ≡ x ∷ [] →
      (filter p xs ≡ x ∷ [] → (place : ℕ) × (slice_get xs place ≡ Some x) × (p x ≡ true)) → (place : ℕ) × (slice_get (y ∷ xs) place ≡ Some x) × (p x ≡ true)
  by true q e go = let same = head (filter p xs) e in (0, ap Some same, ap p (sym same) ∙ q)
  by false q e go = let r = go e in (suc r.0, r.1, r.2)

pub fun_there : (N : List NormFun) (f : ℕ) → f < length N → (g : NormFun) × (slice_get N f ≡ Some g)
fun_there [] f h = absurd (omega (arith, h))
fun_there (g ∷ N) zero h = (g, refl)
fun_there (g ∷ N) (suc f) h = fun_there N f (omega (arith, h))

-- a bound that is told is claimed
told_claims : (scale d : ℕ) (o : Option NormFun) (s : Option Sig) (poly : Poly) → Some (told_of poly) ≡ told_by scale d o s → bound_of scale d o s ≡ h.Bound (den_of poly) (terms_of poly) ∷ []
told_claims scale d None s poly e = absurd (none-some _ (sym e))
told_claims scale d (Some g) None poly e = absurd (none-some _ (sym e))
told_claims scale d (Some g) (Some s) poly e = by (same_Some _ _ e) where
  by : told_of poly ≡ (scale, h.terms_of (types g.params) d s.args) → (h.Bound scale (h.terms_of (types g.params) d s.args) ∷ []) ≡ (h.Bound (den_of poly) (terms_of poly) ∷ [])
  by q = λ i. h.Bound (sym q i).0 (sym q i).1 ∷ []

is_there : (scale d : ℕ) (o : Option NormFun) (s : Option Sig) (g : NormFun) (x : Sig) (found : Option Poly) → o ≡ Some g → s ≡ Some x →
    option_map told_of found ≡ told_by scale d o s → IsSome found
is_there scale d o s g x None e q h = absurd (none-some _ (h ∙ (λ i. told_by scale d (e i) (q i))))
is_there scale d o s g x (Some poly) e q h = refl

module _ (P : Program) (cert : Certificate) (held : Held P cert) (f : ℕ) (meter : Meter) (b : Block) (one : filter (is_for_function P meter f) cert.blocks ≡ b ∷ []) where
  place : (place : ℕ) × (slice_get cert.blocks place ≡ Some b) × (is_for_function P meter f b ≡ true)
  place = one_place (is_for_function P meter f) cert.blocks b one

  is_of : IsBlockOf P cert f meter place.0 b
  is_of = let both = both_true (is_for_meter meter b.task.kind) (is_among f (members P b.task.group)) place.2 in
      record { there = place.1; kind = of_meter meter b.task.kind both.0; has = both.1 }

  cost_is : cost_sig P meter cert.blocks f ≡ sig_in P b f
  cost_is = cost_of_one P meter f cert.blocks b one place.2

  -- where the block is solved, a bound is told
  pub bound_there : (g : NormFun) → slice_get P.funs f ≡ Some g → (found : Option Poly) → option_map told_of found ≡ told P cert f meter → IfSolved b.body (IsSome found)
  bound_there g there found e = by b.body refl (held.blocks place.0 b place.1).holds where
    by : (body : Body) → b.body ≡ body → IfSolved b.body (HoldsInPlace P cert place.0 b) → IfSolved body (IsSome found)
    by (Solved sigs hints) q h =
        let holds = subst (λ body. IfSolved body (HoldsInPlace P cert place.0 b)) q h in
        let s = is_signed _ _ _ _ _ f holds.holds.functions (is_of).has in
        is_there (unsigned_abs (scale_of cert meter)) cert.degree (slice_get P.funs f) (cost_sig P meter cert.blocks f) g s.0 found there (cost_is ∙ s.1) e
    by (c.Refuted farkas) q h = tt
    by (c.Calls fun) q h = tt

  module _ (bound : Option Poly) (told_is : option_map told_of bound ≡ told P cert f meter) where
    claims : (l : Line) (body : Body) → b.body ≡ body → IsToldBy bound body l → claim_of P cert meter b f body ≡ t.claim_of l ∷ []
    claims (Bound poly) (Solved sigs hints) q h =
        told_claims (unsigned_abs (scale_of cert meter)) cert.degree (slice_get P.funs f) (sig_in P b f) poly
        (sym (ap (option_map told_of) h.0) ∙ told_is ∙ ap (told_by (unsigned_abs (scale_of cert meter)) cert.degree (slice_get P.funs f)) cost_is)
    claims (Bound poly) (c.Refuted farkas) q h = absurd h.1
    claims (Bound poly) (c.Calls fun) q h = absurd h.1
    claims NoBound body q h = ap (claim_of P cert meter b f) h.1
    claims (Calls fun) body q h = ap (claim_of P cert meter b f) h

    append_none : {X : Type 0} (xs : List X) → xs ++ [] ≡ xs
    append_none [] = refl
    append_none (x ∷ xs) = ap (λ l. x ∷ l) (append_none xs)

    pub one_line : (l : Line) → IsToldBy bound b.body l → lines_for P cert f meter ≡ line f meter (t.claim_of l) ∷ []
    one_line l h =
        ap (λ bs. map (line f meter) (flat_map (λ (b : Block). claim_of P cert meter b f b.body) bs)) one
        ∙ ap (map (line f meter)) (append_none (claim_of P cert meter b f b.body) ∙ claims l b.body refl h)

    pub is_written : (l : Line) → IsToldBy bound b.body l → IfSome bound IsPoly → IsWritten l
    is_written (Bound poly) h w = subst (λ o. IfSome o IsPoly) h.0 w
    is_written NoBound h w = tt
    is_written (Calls fun) h w = tt

    pub is_true : (S : Prog) (l : Line) → IsToldBy bound b.body l →
        IfSome bound (λ poly. (source : Function) → slice_get S f ≡ Some source → Bounds S f source meter (den_of poly) (terms_of poly)) → IsTrue S f meter (t.claim_of l)
    is_true S (Bound poly) h w =
        subst (λ o. IfSome o (λ poly. (source : Function) → slice_get S f ≡ Some source → Bounds S f source meter (den_of poly) (terms_of poly))) h.0 w
    is_true S NoBound h w = tt
    is_true S (Calls fun) h w = tt

    pub tells : AllRefuted P cert → (l : Line) → IsToldBy bound b.body l → Tells P cert f meter (t.claim_of l)
    tells refuted (Bound poly) h = tt
    tells refuted NoBound h = record { place = place.0; block = b; is = is_of; refuted = refuted place.0 b h.0 place.1 h.1 }
    tells refuted (Calls fun) h = record {
      place = place.0;
      block = b;
      is = is_of;
      waits = named _ fun.0 (subst (NamesBlocker (blocker_of P b.task (done_before cert place.0))) h (held.blocks place.0 b place.1).waits);
    }
