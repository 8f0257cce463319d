-- What the lines of a certificate tell.
use Rattle.std.proofs.Common.{◌≡◌, ⊎_elim, ℕ, suc, Bool, true, false, ◌&&◌, flat_map, List, [], ◌∷◌, slice_get, Option, Some, None, refl, sym, ap, subst}
use Rattle.std.specs.Prelude.{unsigned_abs}
use Rattle.base_poly.proofs.Among.{Among, contains_among, among_kept, among_mapped, among_part}
use Rattle.normal_spec.specs.Norm.{NormFun}
use Rattle.cost_free.specs.declared.task.Meter.{Meter}
use Rattle.cost_free.specs.Task as k
use Rattle.cost_free.specs.Task.{Kind, Free}
use Rattle.cost_free.specs.Schedule.{meters}
use Rattle.cost_free.specs.Blocked.{is_for_meter}
use Rattle.annot_types.specs.Program.{Program, blocker_of}
use Rattle.annot_types.specs.Certificate as c
use Rattle.annot_types.specs.Certificate.{Sig, Body, Solved, Block, Certificate, has_work}
use Rattle.annot_types.specs.Signature.{sig_in}
use Rattle.annot_types.specs.Held.{done_before, scale_of, NamesBlocker, Claim, bound_of, claim_of, is_for_function, line, lines_for, Line, Held}
use Rattle.annot_types.proofs.Raised.{same_meters}
use Rattle.infer_spec.specs.Good.{AllRefuted}
use Rattle.infer_spec.specs.Lines.{IsBlockOf, Tells, LinesTell}

among_place : {X : Type 0} (x : X) (xs : List X) → Among x xs → (place : ℕ) × (slice_get xs place ≡ Some x)
among_place x [] m = absurd m
among_place x (y ∷ ys) m = ⊎_elim (λ e. (0, ap Some e)) (λ g. let r = among_place x ys g in (suc r.0, r.1)) m

pub both_true : (a b : Bool) → (a && b) ≡ true → (a ≡ true) × (b ≡ true)
both_true true b e = (refl, e)
both_true false b e = absurd (cc)

pub of_meter : (meter : Meter) (kind : Kind) → is_for_meter meter kind ≡ true → kind ≡ k.With meter
of_meter meter (Free budget fun target) e = absurd (cc)
of_meter meter (k.With other) e = λ i. k.With (sym (same_meters meter other e) i)

pub named : (o : Option ℕ) (fun : ℕ) → NamesBlocker o (c.Calls fun) → o ≡ Some fun
named None fun h = absurd h
named (Some f) fun h = ap Some (same f fun h)
  where
    same : (f g : ℕ) → c.Calls g ≡ c.Calls f → f ≡ g
    same f g e = cc

module _ (P : Program) (certificate : Certificate) (held : Held P certificate) (refuted : AllRefuted P certificate) where
  -- what a block claims of a function of its group
  claim_tells : (f : ℕ) (meter : Meter) (claim : Claim) (block : Block) → Among block certificate.blocks → is_for_function P meter f block ≡ true →
      Among claim (claim_of P certificate meter block f block.body) → Tells P certificate f meter claim
  claim_tells f meter claim block there on m =
      let at = among_place block certificate.blocks there in
      let both = both_true _ _ on in
      by at.0 at.1 (record { there = at.1; kind = of_meter meter block.task.kind both.0; has = both.1 }) block.body refl m
    where
      same : {x : Claim} → Tells P certificate f meter x → Among claim (x ∷ []) → Tells P certificate f meter claim
      same h m = ⊎_elim (λ e. subst (Tells P certificate f meter) e h) (λ none. absurd none) m

      bound : (o : Option NormFun) (u : Option Sig) → Among claim (bound_of (unsigned_abs (scale_of certificate meter)) certificate.degree o u) → Tells P certificate f meter claim
      bound None u m = absurd m
      bound (Some g) None m = absurd m
      bound (Some g) (Some s) m = same tt m

      by : (place : ℕ) → slice_get certificate.blocks place ≡ Some block → IsBlockOf P certificate f meter place block → (body : Body) → block.body ≡ body →
          Among claim (claim_of P certificate meter block f body) → Tells P certificate f meter claim
      by place at of_block (Solved sigs hints) e m = bound (slice_get P.funs f) (sig_in P block f) m
      by place at of_block (c.Refuted farkas) e m = same (record { place = place; block = block; is = of_block; refuted = refuted place block farkas at e }) m
      by place at of_block (c.Calls fun) e m = same (record {
        place = place;
        block = block;
        is = of_block;
        waits = named _ fun (subst (NamesBlocker (blocker_of P block.task (done_before certificate place))) e (held.blocks place block at).waits);
      }) m

  line_tells : (l : Line) → (f : ℕ) (meter : Meter) → Among l (lines_for P certificate f meter) → Tells P certificate l.fun l.meter l.claim
  line_tells l f meter m =
      let made = among_mapped (line f meter) l _ m in
      let claimed = among_part (λ b. claim_of P certificate meter b f b.body) made.0 _ made.1 in
      let block = among_kept (is_for_function P meter f) claimed.0 certificate.blocks claimed.1 in
      subst (λ (x : Line). Tells P certificate x.fun x.meter x.claim) made.2 (claim_tells f meter made.0 claimed.0 block.0 block.1 claimed.2)

pub lines_tell : LinesTell
lines_tell P certificate held refuted l there =
    let of_function = among_part (λ f. flat_map (lines_for P certificate f) (meters (has_work certificate))) l _ (contains_among l _ there) in
    let of_meter = among_part (lines_for P certificate of_function.0) l (meters (has_work certificate)) of_function.2 in
    line_tells P certificate held refuted l of_function.0 of_meter.0 of_meter.2
