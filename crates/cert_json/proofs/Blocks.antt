-- Reading a block gives the block whose JSON it is, and nothing else.
use Rattle.std.proofs.Common.{◌≡◌, ℕ, ◌^◌, ◌<◌, Bool, true, List, [], ◌∷◌, map, Option, Some, None, refl, sym, ap, subst, ◌∙◌, codes, ⊎_elim}
use Rattle.std.specs.Prelude.{option_map, option_and_then, ◌&&◌}
use Rattle.std.specs.Str.{bytes_eq}
use Rattle.std.proofs.lemmas.Bool.{and_parts}
use Rattle.serde_json.specs.Data.{Data, null, boolean, number, string, array, object, Members, member, no_members}
use Rattle.serde_json.specs.Find.{as_str}
use Rattle.cost_free.specs.declared.task.Meter.{Meter}
use Rattle.cost_free.specs.declared.task.Meter.TheVariants.{Ticks, Cells, Work}
use Rattle.cost_free.specs.Task.{Task, Kind, Free, With}
use Rattle.cert_json.specs.Parts.{Entries, Sig, Hint, Body, Solved, Refuted, Calls, Block}
use Rattle.cert_json.specs.Form.{Text, natural, list_json, entries_json, sig_json, hints_json, other_json, body_json, block_json, meter_text}
use Rattle.cert_json.specs.Reading.{natural_of, each_of, sig_of, hint_of, taken, fields_in, fields, or_else, both, task_with, meter_of, with_of, free_kind, is_free, free_of, solved_of, refuted_of, calls_of, block_with, block_by, block_of, solved_in, solved_free_in, other_in, other_free_in, solved_keys, solved_free_keys, other_keys, other_free_keys, entries_of}
use Rattle.cert_json.specs.Fits.{FitsList, FitsEntry, FitsSig, FitsHint, FitsBody, FitsMeter, FitsKind, FitsBlock}
use Rattle.cert_json.proofs.Options.{bind_inv, map_inv, cond_inv, guard_inv, choice, both_inv, else_inv, same_text}
use Rattle.cert_json.proofs.Inverses.{Inverse, Numeral, natural_inverse, list_inverse, sig_inverse, hints_inverse, entries_inverse}

-- the members with these keys and values
abbrev pub members_with : List Text → List Data → Members
members_with [] ds = no_members
members_with (k ∷ ks) [] = no_members
members_with (k ∷ ks) (d ∷ ds) = member k d (members_with ks ds)

taken_sound : (key : Text) (ms : Members) (p : Data × Members) → taken key ms ≡ Some p → ms ≡ member key p.0 p.1
taken_sound key no_members p e = absurd (cc)
taken_sound key (member k d ms) p e =
    let c = cond_inv (bytes_eq k key) (d, ms) p e in
    subst (λ p. member k d ms ≡ member key p.0 p.1) c.1 (ap (λ k. member k d ms) (same_text k key c.0))

fields_in_sound : (keys : List Text) (ms : Members) (ds : List Data) → fields_in keys ms ≡ Some ds → ms ≡ members_with keys ds
fields_in_sound [] no_members ds e = refl
fields_in_sound [] (member k d ms) ds e = absurd (cc)
fields_in_sound (key ∷ keys) ms ds e =
    let p = bind_inv (λ p. option_map (λ ds. p.0 ∷ ds) (fields_in keys p.1)) (taken key ms) ds e in
    let m = map_inv (λ ds. p.0.0 ∷ ds) (fields_in keys p.0.1) ds p.2 in
    subst (λ ds. ms ≡ members_with (key ∷ keys) ds) m.2
    (taken_sound key ms p.0 p.1 ∙ ap (member key p.0.0) (fields_in_sound keys p.0.1 m.0 m.1))

pub fields_sound : (keys : List Text) (d : Data) (ds : List Data) → fields keys d ≡ Some ds → d ≡ object (members_with keys ds)
fields_sound keys null ds e = absurd (cc)
fields_sound keys (boolean b) ds e = absurd (cc)
fields_sound keys (number n) ds e = absurd (cc)
fields_sound keys (string s) ds e = absurd (cc)
fields_sound keys (array is) ds e = absurd (cc)
fields_sound keys (object ms) ds e = ap object (fields_in_sound keys ms ds e)

text_sound : (d : Data) (s : Text) → as_str d ≡ Some s → d ≡ string s
text_sound null s e = absurd (cc)
text_sound (boolean b) s e = absurd (cc)
text_sound (number n) s e = absurd (cc)
text_sound (string t) s e = let h : t ≡ s = cc in ap string h
text_sound (array is) s e = absurd (cc)
text_sound (object ms) s e = absurd (cc)

meter_sound : (work : Bool) (s : Text) (m : Meter) → meter_of work s ≡ Some m → (s ≡ meter_text m) × FitsMeter work m
meter_sound work s m e = ⊎_elim ticks (λ c. ⊎_elim cells (λ d. worked (cond_inv (work && bytes_eq s (codes "work")) Work m d.1)) (choice (bytes_eq s (codes "cells")) (Some Cells) _ m c.1)) (choice (bytes_eq s (codes "ticks")) (Some Ticks) _ m e)
  where
    ticks : (bytes_eq s (codes "ticks") ≡ true) × (Some Ticks ≡ Some m) → (s ≡ meter_text m) × FitsMeter work m
    ticks c = let h : Ticks ≡ m = cc in subst (λ m. (s ≡ meter_text m) × FitsMeter work m) h (same_text s (codes "ticks") c.0, tt)

    cells : (bytes_eq s (codes "cells") ≡ true) × (Some Cells ≡ Some m) → (s ≡ meter_text m) × FitsMeter work m
    cells c = let h : Cells ≡ m = cc in subst (λ m. (s ≡ meter_text m) × FitsMeter work m) h (same_text s (codes "cells") c.0, tt)

    worked : (work && bytes_eq s (codes "work") ≡ true) × (Work ≡ m) → (s ≡ meter_text m) × FitsMeter work m
    worked c = let a = and_parts work (bytes_eq s (codes "work")) c.0 in subst (λ m. (s ≡ meter_text m) × FitsMeter work m) c.1 (same_text s (codes "work") a.1, a.0)

meter_complete : (work : Bool) (m : Meter) → FitsMeter work m → meter_of work (meter_text m) ≡ Some m
meter_complete work Ticks h = refl
meter_complete work Cells h = refl
meter_complete work Work h = rw h refl

pub record WithTask (work : Bool) (group kind : Data) (t : Task) : Type 0 where
  pub meter : Meter
  pub is : t.kind ≡ With meter
  pub group_is : group ≡ natural t.group
  pub kind_is : kind ≡ string (meter_text meter)
  pub fits_group : t.group < 2 ^ 32
  pub fits_kind : FitsKind work t.kind

with_sound : (work : Bool) (group kind : Data) (t : Task) → with_of work group kind ≡ Some t → WithTask work group kind t
with_sound work group kind t e =
    let w = map_inv task_with (both (natural_of (2 ^ 32) group) (option_map With (option_and_then (meter_of work) (as_str kind)))) t e in
    let b = both_inv (natural_of (2 ^ 32) group) (option_map With (option_and_then (meter_of work) (as_str kind))) w.0 w.1 in
    let m = map_inv With (option_and_then (meter_of work) (as_str kind)) w.0.1 b.1 in
    let s = bind_inv (meter_of work) (as_str kind) m.0 m.1 in
    let n = (natural_inverse (2 ^ 32)).sound group w.0.0 b.0 in
    let h = meter_sound work s.0 m.0 s.2 in
    subst (WithTask work group kind) w.2
    (record { meter = m.0; is = sym m.2; group_is = n.0; kind_is = text_sound kind s.0 s.1 ∙ ap string h.0; fits_group = n.1; fits_kind = subst (FitsKind work) m.2 h.1 })

pub record FreeTask (budget fun group kind target : Data) (t : Task) : Type 0 where
  pub b : ℕ
  pub f : ℕ
  pub at : ℕ
  pub is : t.kind ≡ Free b f at
  pub budget_is : budget ≡ natural b
  pub fun_is : fun ≡ natural f
  pub target_is : target ≡ natural at
  pub group_is : group ≡ natural t.group
  pub kind_is : kind ≡ string (codes "free")
  pub fits_group : t.group < 2 ^ 32
  pub fits_kind : (work : Bool) → FitsKind work t.kind

free_text : (d : Data) → is_free d ≡ true → d ≡ string (codes "free")
free_text null e = absurd (cc)
free_text (boolean b) e = absurd (cc)
free_text (number n) e = absurd (cc)
free_text (string s) e = ap string (same_text s (codes "free") e)
free_text (array ds) e = absurd (cc)
free_text (object ms) e = absurd (cc)

free_sound : (budget fun group kind target : Data) (t : Task) → free_of budget fun group kind target ≡ Some t → FreeTask budget fun group kind target t
free_sound budget fun group kind target t e =
    let g = guard_inv (is_free kind) (option_map task_with (both (natural_of (2 ^ 32) group) (free_kind budget fun target))) t e in
    let w = map_inv task_with (both (natural_of (2 ^ 32) group) (free_kind budget fun target)) t g.1 in
    let p = both_inv (natural_of (2 ^ 32) group) (free_kind budget fun target) w.0 w.1 in
    let b = bind_inv (λ b. option_and_then (λ f. option_map (λ t. Free b f t) (natural_of (2 ^ 32) target)) (natural_of (2 ^ 32) fun)) (natural_of 256 budget) w.0.1 p.1 in
    let f = bind_inv (λ f. option_map (λ t. Free b.0 f t) (natural_of (2 ^ 32) target)) (natural_of (2 ^ 32) fun) w.0.1 b.2 in
    let a = map_inv (λ t. Free b.0 f.0 t) (natural_of (2 ^ 32) target) w.0.1 f.2 in
    let nb = (natural_inverse 256).sound budget b.0 b.1 in
    let nf = (natural_inverse (2 ^ 32)).sound fun f.0 f.1 in
    let na = (natural_inverse (2 ^ 32)).sound target a.0 a.1 in
    let ng = (natural_inverse (2 ^ 32)).sound group w.0.0 p.0 in
    subst (FreeTask budget fun group kind target) w.2
    (record {
      b = b.0;
      f = f.0;
      at = a.0;
      is = sym a.2;
      budget_is = nb.0;
      fun_is = nf.0;
      target_is = na.0;
      group_is = ng.0;
      kind_is = free_text kind g.0;
      fits_group = ng.1;
      fits_kind = λ work. subst (FitsKind work) a.2 (nb.1, nf.1, na.1);
    })

-- ---- the JSON of a block from its parts

solved_with_json : {N : Type 0} (f : N → Text) (group : ℕ) (kind : Kind) (body : Body N) (meter : Meter) (sigs : List (Sig N)) (hints : List (List (Hint N))) (g h k s : Data)
    → kind ≡ With meter → body ≡ Solved sigs hints → g ≡ natural group → h ≡ list_json (map (hints_json f) hints) → k ≡ string (meter_text meter) → s ≡ list_json (map (sig_json f) sigs)
    → object (members_with solved_keys (g ∷ h ∷ k ∷ s ∷ [])) ≡ body_json f group kind body
solved_with_json f group kind body meter sigs hints g h k s p q a b c d = rw (p, q, a, b, c, d) refl

solved_free_json : {N : Type 0} (f : N → Text) (group : ℕ) (kind : Kind) (body : Body N) (b0 f0 t0 : ℕ) (sigs : List (Sig N)) (hints : List (List (Hint N))) (b u g h k s t : Data)
    → kind ≡ Free b0 f0 t0 → body ≡ Solved sigs hints → b ≡ natural b0 → u ≡ natural f0 → g ≡ natural group → h ≡ list_json (map (hints_json f) hints) → k ≡ string (codes "free") → s ≡ list_json (map (sig_json f) sigs) → t ≡ natural t0
    → object (members_with solved_free_keys (b ∷ u ∷ g ∷ h ∷ k ∷ s ∷ t ∷ [])) ≡ body_json f group kind body
solved_free_json f group kind body b0 f0 t0 sigs hints b u g h k s t p q e1 e2 e3 e4 e5 e6 e7 = rw (p, q, e1, e2, e3, e4, e5, e6, e7) refl

other_with_json : (group : ℕ) (kind : Kind) (meter : Meter) (key : Text) (d e g k : Data) → kind ≡ With meter → d ≡ e → g ≡ natural group → k ≡ string (meter_text meter)
    → object (members_with (other_keys key) (d ∷ g ∷ k ∷ [])) ≡ other_json group kind key e
other_with_json group kind meter key d e g k p a b c = rw (p, a, b, c) refl

other_free_json : (group : ℕ) (kind : Kind) (b0 f0 t0 : ℕ) (key : Text) (b d e u g k t : Data) → kind ≡ Free b0 f0 t0 → b ≡ natural b0 → d ≡ e → u ≡ natural f0 → g ≡ natural group → k ≡ string (codes "free") → t ≡ natural t0
    → object (members_with (other_free_keys key) (b ∷ d ∷ u ∷ g ∷ k ∷ t ∷ [])) ≡ other_json group kind key e
other_free_json group kind b0 f0 t0 key b d e u g k t p a1 a2 a3 a4 a5 a6 = rw (p, a1, a2, a3, a4, a5, a6) refl

-- the value of the member beside those of the task
abbrev member_json : {N : Type 0} → (N → Text) → Body N → Data
member_json f (Solved sigs hints) = null
member_json f (Refuted farkas) = entries_json f farkas
member_json f (Calls fun) = natural fun

-- a body whose JSON is one member beside those of the task
pub record OtherBody {N : Type 0} (f : N → Text) (P : N → Type 0) (key : Text) (body : Data → Option (Body N)) : Type 0 where
  pub sound : (d : Data) (b : Body N) → body d ≡ Some b → (d ≡ member_json f b) × FitsBody P b × ((group : ℕ) (kind : Kind) → other_json group kind key (member_json f b) ≡ body_json f group kind b)

module _ {N : Type 0} {f : N → Text} {P : N → Type 0} {num : Text → Option N} (numeral : Numeral f P num) where
  all_hints_inverse : Inverse (λ hints. list_json (map (hints_json f) hints)) (FitsList (FitsList (FitsHint P))) (each_of (each_of (hint_of num)))
  all_hints_inverse = list_inverse (hints_inverse numeral)

  sigs_inverse : Inverse (λ sigs. list_json (map (sig_json f) sigs)) (FitsList (FitsSig P)) (each_of (sig_of num))
  sigs_inverse = list_inverse (sig_inverse numeral)

  -- the block that two parts make
  pub record Made (work : Bool) (d : Data) (b : Block N) : Type 0 where
    pub is : d ≡ block_json f b
    pub fits : FitsBlock P work b

  solved_in_sound : (work : Bool) (ds : List Data) (b : Block N) → solved_in num work ds ≡ Some b → Made work (object (members_with solved_keys ds)) b
  solved_in_sound work (g ∷ h ∷ k ∷ s ∷ []) b e =
      let m = map_inv block_with (both (with_of work g k) (solved_of num h s)) b e in
      let p = both_inv (with_of work g k) (solved_of num h s) m.0 m.1 in
      let t = with_sound work g k m.0.0 p.0 in
      let q = map_inv (λ p. Solved p.1 p.0) (both (each_of (each_of (hint_of num)) h) (each_of (sig_of num) s)) m.0.1 p.1 in
      let r = both_inv (each_of (each_of (hint_of num)) h) (each_of (sig_of num) s) q.0 q.1 in
      let hs = all_hints_inverse.sound h q.0.0 r.0 in
      let ss = sigs_inverse.sound s q.0.1 r.1 in
      subst (Made work (object (members_with solved_keys (g ∷ h ∷ k ∷ s ∷ [])))) m.2
      (record {
        is = solved_with_json f m.0.0.group m.0.0.kind m.0.1 t.meter q.0.1 q.0.0 g h k s t.is (sym q.2) t.group_is hs.0 t.kind_is ss.0;
        fits = record { group = t.fits_group; kind = t.fits_kind; body = subst (FitsBody P) q.2 (ss.1, hs.1) };
      })
  solved_in_sound work [] b e = absurd (cc)
  solved_in_sound work (g ∷ []) b e = absurd (cc)
  solved_in_sound work (g ∷ h ∷ []) b e = absurd (cc)
  solved_in_sound work (g ∷ h ∷ k ∷ []) b e = absurd (cc)
  solved_in_sound work (g ∷ h ∷ k ∷ s ∷ x ∷ xs) b e = absurd (cc)

  solved_free_sound : (work : Bool) (ds : List Data) (b : Block N) → solved_free_in num ds ≡ Some b → Made work (object (members_with solved_free_keys ds)) b
  solved_free_sound work (bu ∷ u ∷ g ∷ h ∷ k ∷ s ∷ ta ∷ []) b e =
      let m = map_inv block_with (both (free_of bu u g k ta) (solved_of num h s)) b e in
      let p = both_inv (free_of bu u g k ta) (solved_of num h s) m.0 m.1 in
      let t = free_sound bu u g k ta m.0.0 p.0 in
      let q = map_inv (λ p. Solved p.1 p.0) (both (each_of (each_of (hint_of num)) h) (each_of (sig_of num) s)) m.0.1 p.1 in
      let r = both_inv (each_of (each_of (hint_of num)) h) (each_of (sig_of num) s) q.0 q.1 in
      let hs = all_hints_inverse.sound h q.0.0 r.0 in
      let ss = sigs_inverse.sound s q.0.1 r.1 in
      subst (Made work (object (members_with solved_free_keys (bu ∷ u ∷ g ∷ h ∷ k ∷ s ∷ ta ∷ [])))) m.2
      (record {
        is = solved_free_json f m.0.0.group m.0.0.kind m.0.1 t.b t.f t.at q.0.1 q.0.0 bu u g h k s ta t.is (sym q.2) t.budget_is t.fun_is t.group_is hs.0 t.kind_is ss.0 t.target_is;
        fits = record { group = t.fits_group; kind = t.fits_kind work; body = subst (FitsBody P) q.2 (ss.1, hs.1) };
      })
  solved_free_sound work _ b e = absurd (cc)

  module _ {key : Text} {body : Data → Option (Body N)} (other : OtherBody f P key body) where
    other_in_sound : (work : Bool) (ds : List Data) (b : Block N) → other_in body work ds ≡ Some b → Made work (object (members_with (other_keys key) ds)) b
    other_in_sound work (d ∷ g ∷ k ∷ []) b e =
        let m = map_inv block_with (both (with_of work g k) (body d)) b e in
        let p = both_inv (with_of work g k) (body d) m.0 m.1 in
        let t = with_sound work g k m.0.0 p.0 in
        let q = other.sound d m.0.1 p.1 in
        subst (Made work (object (members_with (other_keys key) (d ∷ g ∷ k ∷ [])))) m.2
        (record {
          is = other_with_json m.0.0.group m.0.0.kind t.meter key d (member_json f m.0.1) g k t.is q.0 t.group_is t.kind_is ∙ q.2 m.0.0.group m.0.0.kind;
          fits = record { group = t.fits_group; kind = t.fits_kind; body = q.1 };
        })
    other_in_sound work [] b e = absurd (cc)
    other_in_sound work (d ∷ []) b e = absurd (cc)
    other_in_sound work (d ∷ g ∷ []) b e = absurd (cc)
    other_in_sound work (d ∷ g ∷ k ∷ x ∷ xs) b e = absurd (cc)

    other_free_sound : (work : Bool) (ds : List Data) (b : Block N) → other_free_in body ds ≡ Some b → Made work (object (members_with (other_free_keys key) ds)) b
    other_free_sound work (bu ∷ d ∷ u ∷ g ∷ k ∷ ta ∷ []) b e =
        let m = map_inv block_with (both (free_of bu u g k ta) (body d)) b e in
        let p = both_inv (free_of bu u g k ta) (body d) m.0 m.1 in
        let t = free_sound bu u g k ta m.0.0 p.0 in
        let q = other.sound d m.0.1 p.1 in
        subst (Made work (object (members_with (other_free_keys key) (bu ∷ d ∷ u ∷ g ∷ k ∷ ta ∷ [])))) m.2
        (record {
          is = other_free_json m.0.0.group m.0.0.kind t.b t.f t.at key bu d (member_json f m.0.1) u g k ta t.is t.budget_is q.0 t.fun_is t.group_is t.kind_is t.target_is ∙ q.2 m.0.0.group m.0.0.kind;
          fits = record { group = t.fits_group; kind = t.fits_kind work; body = q.1 };
        })
    other_free_sound work _ b e = absurd (cc)

  refuted_other : OtherBody f P (codes "farkas") (refuted_of num)
  refuted_other = record {
    sound = λ d b e.
        let m = map_inv Refuted (entries_of num d) b e in
        let h = (entries_inverse numeral).sound d m.0 m.1 in
        subst (λ b. (d ≡ member_json f b) × FitsBody P b × ((group : ℕ) (kind : Kind) → other_json group kind (codes "farkas") (member_json f b) ≡ body_json f group kind b)) m.2 (h.0, h.1, λ group kind. refl);
  }

  calls_other : OtherBody f P (codes "calls") calls_of
  calls_other = record {
    sound = λ d b e.
        let m = map_inv Calls (natural_of (2 ^ 32) d) b e in
        let h = (natural_inverse (2 ^ 32)).sound d m.0 m.1 in
        subst (λ b. (d ≡ member_json f b) × FitsBody P b × ((group : ℕ) (kind : Kind) → other_json group kind (codes "calls") (member_json f b) ≡ body_json f group kind b)) m.2 (h.0, h.1, λ group kind. refl);
  }

  -- from the keys that an object has to its block
  by_keys : (work : Bool) (d : Data) (b : Block N) (keys : List Text) (part : List Data → Option (Block N)) (rest : Option (Block N))
      → ((ds : List Data) → part ds ≡ Some b → Made work (object (members_with keys ds)) b) → (rest ≡ Some b → Made work d b)
      → or_else (fields keys d) part rest ≡ Some b → Made work d b
  by_keys work d b keys part rest here there e =
      ⊎_elim (λ h. subst (λ d. Made work d b) (sym (fields_sound keys d h.0 h.1)) (here h.0 h.2)) there (else_inv (fields keys d) part rest b e)

  pub block_sound : (work : Bool) (d : Data) (b : Block N) → block_of num work d ≡ Some b → Made work d b
  block_sound work d b e =
      by_keys work d b solved_keys (solved_in num work) _ (λ ds. solved_in_sound work ds b)
      (by_keys work d b solved_free_keys (solved_free_in num) _ (λ ds. solved_free_sound work ds b)
      (by_keys work d b (other_keys (codes "farkas")) (other_in (refuted_of num) work) _ (λ ds. other_in_sound refuted_other work ds b)
      (by_keys work d b (other_free_keys (codes "farkas")) (other_free_in (refuted_of num)) _ (λ ds. other_free_sound refuted_other work ds b)
      (by_keys work d b (other_keys (codes "calls")) (other_in calls_of work) _ (λ ds. other_in_sound calls_other work ds b)
      (by_keys work d b (other_free_keys (codes "calls")) (other_free_in calls_of) None (λ ds. other_free_sound calls_other work ds b)
      (λ n. absurd (cc)))))))
      e

  with_complete : (work : Bool) (group : ℕ) (meter : Meter) → group < 2 ^ 32 → FitsMeter work meter → with_of work (natural group) (string (meter_text meter)) ≡ Some (task_with (group, With meter))
  with_complete work group meter g m = rw ((natural_inverse (2 ^ 32)).complete group g) (rw (meter_complete work meter m) refl)

  free_complete : (group b f t : ℕ) → group < 2 ^ 32 → b < 256 → f < 2 ^ 32 → t < 2 ^ 32 → free_of (natural b) (natural f) (natural group) (string (codes "free")) (natural t) ≡ Some (task_with (group, Free b f t))
  free_complete group b f t g hb hf ht =
      rw ((natural_inverse (2 ^ 32)).complete group g) (rw ((natural_inverse 256).complete b hb) (rw ((natural_inverse (2 ^ 32)).complete f hf) (rw ((natural_inverse (2 ^ 32)).complete t ht) refl)))

  solved_complete : (sigs : List (Sig N)) (hints : List (List (Hint N))) → FitsBody P (Solved sigs hints) → solved_of num (list_json (map (hints_json f) hints)) (list_json (map (sig_json f) sigs)) ≡ Some (Solved sigs hints)
  solved_complete sigs hints h = rw (all_hints_inverse.complete hints h.1) (rw (sigs_inverse.complete sigs h.0) refl)

  refuted_complete : (farkas : Entries N) → FitsList (FitsEntry P) farkas → refuted_of num (entries_json f farkas) ≡ Some (Refuted farkas)
  refuted_complete farkas h = rw ((entries_inverse numeral).complete farkas h) refl

  calls_complete : (fun : ℕ) → fun < 2 ^ 32 → calls_of {N = N} (natural fun) ≡ Some (Calls fun)
  calls_complete fun h = rw ((natural_inverse (2 ^ 32)).complete fun h) refl

  blocked : (t : Task) (body : Body N) (task : Option Task) (read : Option (Body N)) → task ≡ Some t → read ≡ Some body → block_by task read ≡ Some (block_with (t, body))
  blocked t body task read p q = rw (p, q) refl

  block_complete_by : (work : Bool) (group : ℕ) (kind : Kind) (body : Body N) → group < 2 ^ 32 → FitsKind work kind → FitsBody P body → block_of num work (body_json f group kind body) ≡ Some (block_with (task_with (group, kind), body))
  block_complete_by work group (With meter) (Solved sigs hints) g k h = blocked (task_with (group, With meter)) (Solved sigs hints) _ _ (with_complete work group meter g k) (solved_complete sigs hints h)
  block_complete_by work group (Free b u t) (Solved sigs hints) g k h = blocked (task_with (group, Free b u t)) (Solved sigs hints) _ _ (free_complete group b u t g k.0 k.1 k.2) (solved_complete sigs hints h)
  block_complete_by work group (With meter) (Refuted farkas) g k h = blocked (task_with (group, With meter)) (Refuted farkas) _ _ (with_complete work group meter g k) (refuted_complete farkas h)
  block_complete_by work group (Free b u t) (Refuted farkas) g k h = blocked (task_with (group, Free b u t)) (Refuted farkas) _ _ (free_complete group b u t g k.0 k.1 k.2) (refuted_complete farkas h)
  block_complete_by work group (With meter) (Calls fun) g k h = blocked (task_with (group, With meter)) (Calls fun) _ _ (with_complete work group meter g k) (calls_complete fun h)
  block_complete_by work group (Free b u t) (Calls fun) g k h = blocked (task_with (group, Free b u t)) (Calls fun) _ _ (free_complete group b u t g k.0 k.1 k.2) (calls_complete fun h)

  pub block_inverse : (work : Bool) → Inverse (block_json f) (FitsBlock P work) (block_of num work)
  block_inverse work = record {
    sound = λ d b e. let m = block_sound work d b e in (m.is, m.fits);
    complete = λ b h. block_complete_by work b.task.group b.task.kind b.body h.group h.kind h.body;
  }
