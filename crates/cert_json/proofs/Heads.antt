-- Reading a head gives the head whose JSON it is, and nothing else.
use Rattle.std.proofs.Common.{◌≡◌, ℕ, ◌^◌, ◌<◌, ◌≤◌, true, cond, List, [], ◌∷◌, length, Option, Some, None, refl, sym, subst, arith, codes, ⊎_elim}
use Rattle.std.specs.Prelude.{nat_le, nat_eq, option_map, option_and_then}
use Rattle.std.proofs.lemmas.Bool.{leb-true, le-leb, eqb-true}
use Rattle.serde_json.specs.Data.{Data, object, string}
use Rattle.cert_json.specs.Parts.{Head}
use Rattle.cert_json.specs.Form.{Text, natural, list_json, scale_json, version, head_json}
use Rattle.cert_json.specs.Reading.{natural_of, list_of, text_number, fields, both, head_keys, Scale, scale_one, scale_two, scale_of, degree_of, head_with, head_in, head_of}
use Rattle.cert_json.specs.Fits.{FitsOption, FitsHead}
use Rattle.cert_json.specs.Faults.{HasHead}
use Rattle.cert_json.proofs.Options.{bind_inv, map_inv, cond_inv, guard_inv, choice, both_inv}
use Rattle.cert_json.proofs.Inverses.{Numeral, natural_inverse, text_inverse, list_sound, list_complete}
use Rattle.cert_json.proofs.Blocks.{members_with, fields_sound}

degree_sound : (d : Data) (n : ℕ) → degree_of d ≡ Some n → (d ≡ natural n) × (1 ≤ n) × (n < 5)
degree_sound d n e =
    let b = bind_inv (λ n. cond (nat_le 1 n) (Some n) None) (natural_of 5 d) n e in
    let c = cond_inv (nat_le 1 b.0) b.0 n b.2 in
    let h = (natural_inverse 5).sound d b.0 b.1 in
    subst (λ n. (d ≡ natural n) × (1 ≤ n) × (n < 5)) c.1 (h.0, leb-true 1 b.0 c.0, h.1)

degree_complete : (n : ℕ) → 1 ≤ n → n < 5 → degree_of (natural n) ≡ Some n
degree_complete n p q = rw ((natural_inverse 5).complete n q) (rw (le-leb 1 n p) refl)

one_json : {N : Type 0} (f : N → Text) (c t : Data) (cells ticks : N) → c ≡ string (f cells) → t ≡ string (f ticks)
    → object (members_with (codes "cells" ∷ codes "ticks" ∷ []) (c ∷ t ∷ [])) ≡ scale_json f ticks cells None
one_json f c t cells ticks p q = rw (p, q) refl

two_json : {N : Type 0} (f : N → Text) (c t w : Data) (cells ticks work : N) → c ≡ string (f cells) → t ≡ string (f ticks) → w ≡ string (f work)
    → object (members_with (codes "cells" ∷ codes "ticks" ∷ codes "work" ∷ []) (c ∷ t ∷ w ∷ [])) ≡ scale_json f ticks cells (Some work)
two_json f c t w cells ticks work p q r = rw (p, q, r) refl

four_json : {N : Type 0} (f : N → Text) (b g s v : Data) (ds : List Data) (degree n : ℕ) (ticks cells : N) (work : Option N) → b ≡ list_json ds → g ≡ natural degree → s ≡ scale_json f ticks cells work → v ≡ natural n → n ≡ version work
    → object (members_with head_keys (b ∷ g ∷ s ∷ v ∷ [])) ≡ head_json f (record { degree = degree; ticks = ticks; cells = cells; work = work }) (list_json ds)
four_json f b g s v ds degree n ticks cells work p q r t u = rw (p, q, r, t, u) refl

module _ {N : Type 0} {f : N → Text} {P : N → Type 0} {num : Text → Option N} (numeral : Numeral f P num) where
  record IsScale (v : ℕ) (d : Data) (s : Scale N) : Type 0 where
    is : d ≡ scale_json f s.0 s.1 s.2
    version_is : v ≡ version s.2
    ticks : P s.0
    cells : P s.1
    work : FitsOption P s.2

  one_sound : (ds : List Data) (s : Scale N) → scale_one num ds ≡ Some s → IsScale 1 (object (members_with (codes "cells" ∷ codes "ticks" ∷ []) ds)) s
  one_sound (c ∷ t ∷ []) s e =
      let x = bind_inv (λ c. option_map (λ t. (t, c, None)) (text_number num t)) (text_number num c) s e in
      let y = map_inv (λ t. (t, x.0, None)) (text_number num t) s x.2 in
      let hc = (text_inverse numeral).sound c x.0 x.1 in
      let ht = (text_inverse numeral).sound t y.0 y.1 in
      subst (IsScale 1 (object (members_with (codes "cells" ∷ codes "ticks" ∷ []) (c ∷ t ∷ [])))) y.2
      (record { is = one_json f c t x.0 y.0 hc.0 ht.0; version_is = refl; ticks = ht.1; cells = hc.1; work = tt })
  one_sound [] s e = absurd (cc)
  one_sound (c ∷ []) s e = absurd (cc)
  one_sound (c ∷ t ∷ w ∷ ds) s e = absurd (cc)

  two_sound : (ds : List Data) (s : Scale N) → scale_two num ds ≡ Some s → IsScale 2 (object (members_with (codes "cells" ∷ codes "ticks" ∷ codes "work" ∷ []) ds)) s
  two_sound (c ∷ t ∷ w ∷ []) s e =
      let x = bind_inv (λ c. option_and_then (λ t. option_map (λ w. (t, c, Some w)) (text_number num w)) (text_number num t)) (text_number num c) s e in
      let y = bind_inv (λ t. option_map (λ w. (t, x.0, Some w)) (text_number num w)) (text_number num t) s x.2 in
      let z = map_inv (λ w. (y.0, x.0, Some w)) (text_number num w) s y.2 in
      let hc = (text_inverse numeral).sound c x.0 x.1 in
      let ht = (text_inverse numeral).sound t y.0 y.1 in
      let hw = (text_inverse numeral).sound w z.0 z.1 in
      subst (IsScale 2 (object (members_with (codes "cells" ∷ codes "ticks" ∷ codes "work" ∷ []) (c ∷ t ∷ w ∷ [])))) z.2
      (record { is = two_json f c t w x.0 y.0 z.0 hc.0 ht.0 hw.0; version_is = refl; ticks = ht.1; cells = hc.1; work = hw.1 })
  two_sound [] s e = absurd (cc)
  two_sound (c ∷ []) s e = absurd (cc)
  two_sound (c ∷ t ∷ []) s e = absurd (cc)
  two_sound (c ∷ t ∷ w ∷ x ∷ ds) s e = absurd (cc)

  scale_sound : (v : ℕ) (d : Data) (s : Scale N) → scale_of num v d ≡ Some s → IsScale v d s
  scale_sound v d s e = ⊎_elim first (λ h. second (guard_inv (nat_eq v 2) _ s h.1)) (choice (nat_eq v 1) _ _ s e)
    where
      first : (nat_eq v 1 ≡ true) × (option_and_then (scale_one num) (fields (codes "cells" ∷ codes "ticks" ∷ []) d) ≡ Some s) → IsScale v d s
      first h =
          let b = bind_inv (scale_one num) (fields (codes "cells" ∷ codes "ticks" ∷ []) d) s h.1 in
          subst (λ v. IsScale v d s) (sym (eqb-true v 1 h.0)) (subst (λ d. IsScale 1 d s) (sym (fields_sound (codes "cells" ∷ codes "ticks" ∷ []) d b.0 b.1)) (one_sound b.0 s b.2))

      second : (nat_eq v 2 ≡ true) × (option_and_then (scale_two num) (fields (codes "cells" ∷ codes "ticks" ∷ codes "work" ∷ []) d) ≡ Some s) → IsScale v d s
      second h =
          let b = bind_inv (scale_two num) (fields (codes "cells" ∷ codes "ticks" ∷ codes "work" ∷ []) d) s h.1 in
          subst (λ v. IsScale v d s) (sym (eqb-true v 2 h.0)) (subst (λ d. IsScale 2 d s) (sym (fields_sound (codes "cells" ∷ codes "ticks" ∷ codes "work" ∷ []) d b.0 b.1)) (two_sound b.0 s b.2))

  scale_complete : (ticks cells : N) (work : Option N) → P ticks → P cells → FitsOption P work → scale_of num (version work) (scale_json f ticks cells work) ≡ Some (ticks, cells, work)
  scale_complete ticks cells None t c w = rw (numeral.complete cells c) (rw (numeral.complete ticks t) refl)
  scale_complete ticks cells (Some n) t c w = rw (numeral.complete cells c) (rw (numeral.complete ticks t) (rw (numeral.complete n w) refl))

  version_small : (work : Option N) → version work < 3
  version_small None = omega arith
  version_small (Some n) = omega arith

  head_in_sound : (ds : List Data) (p : Head N × List Data) → head_in num ds ≡ Some p → HasHead f P (object (members_with head_keys ds)) p.0 p.1
  head_in_sound (b ∷ g ∷ s ∷ v ∷ []) p e =
      let q = both_inv (option_map head_with (both (degree_of g) (option_and_then (λ v. scale_of num v s) (natural_of 3 v)))) (list_of b) p e in
      let m = map_inv head_with (both (degree_of g) (option_and_then (λ v. scale_of num v s) (natural_of 3 v))) p.0 q.0 in
      let r = both_inv (degree_of g) (option_and_then (λ v. scale_of num v s) (natural_of 3 v)) m.0 m.1 in
      let w = bind_inv (λ v. scale_of num v s) (natural_of 3 v) m.0.1 r.1 in
      let l = list_sound b p.1 q.1 in
      let n = degree_sound g m.0.0 r.0 in
      let k = (natural_inverse 3).sound v w.0 w.1 in
      let t = scale_sound w.0 s m.0.1 w.2 in
      subst (λ h. HasHead f P (object (members_with head_keys (b ∷ g ∷ s ∷ v ∷ []))) h p.1) m.2
      (record {
        is = four_json f b g s v p.1 m.0.0 w.0 m.0.1.0 m.0.1.1 m.0.1.2 l.0 n.0 t.is k.0 t.version_is;
        fits = record { positive = n.1; small = n.2; ticks = t.ticks; cells = t.cells; work = t.work };
        short = l.1;
      })
  head_in_sound [] p e = absurd (cc)
  head_in_sound (b ∷ []) p e = absurd (cc)
  head_in_sound (b ∷ g ∷ []) p e = absurd (cc)
  head_in_sound (b ∷ g ∷ s ∷ []) p e = absurd (cc)
  head_in_sound (b ∷ g ∷ s ∷ v ∷ x ∷ ds) p e = absurd (cc)

  pub head_sound : (d : Data) (p : Head N × List Data) → head_of num d ≡ Some p → HasHead f P d p.0 p.1
  head_sound d p e =
      let b = bind_inv (head_in num) (fields head_keys d) p e in
      subst (λ d. HasHead f P d p.0 p.1) (sym (fields_sound head_keys d b.0 b.1)) (head_in_sound b.0 p b.2)

  pub head_complete : (h : Head N) (ds : List Data) → FitsHead P h → length ds < 2 ^ 31 → head_of num (head_json f h (list_json ds)) ≡ Some (h, ds)
  head_complete h ds fit short =
      rw (list_complete ds short) (rw (degree_complete h.degree fit.positive fit.small)
      (rw ((natural_inverse 3).complete (version h.work) (version_small h.work)) (rw (scale_complete h.ticks h.cells h.work fit.ticks fit.cells fit.work) refl)))
