-- Which blocks leave 127 bits where their numbers are multiplied: the test and the claim.
use Rattle.std.proofs.Common.{◌≡◌, ◌<◌, ◌⊎◌, inl, inr, refl, sym, ap, ◌∙◌, subst, arith}
use Rattle.std.proofs.lemmas.Bool.{and_from, and_parts}
use Rattle.std.specs.Prelude.{ℕ, zero, suc, ◌-◌, ◌*◌, ℤ, pos, negsuc, ◌*ℤ◌, ◌<ℤ◌, unsigned_abs, int_le, ◌^◌, Bool, true, false, cond, not, ◌&&◌, nat_lt, List, [], ◌∷◌, slice_get, Option, None, Some, option_map, FitsSigned, IfSome, IfNone}
use Rattle.std.specs.List.{All, list_all}
use Rattle.std.specs.Int.{w128}
use Rattle.std.proofs.lemmas.Int.{ints}
use Rattle.std.proofs.lemmas.Bool.Decides.{nat_tests}
use Rattle.std.proofs.lemmas.List.Elements.{All-nil, All-cons, All-head, All-tail}
use Rattle.std.proofs.lemmas.Option.{same_Some, none-some}
use Rattle.cost_free.specs.declared.task.Meter.{Meter}
use Rattle.cost_free.specs.Blocked.{is_for_meter}
use Rattle.annot_types.specs.Certificate as c
use Rattle.annot_types.specs.Certificate.{Entries, Sig, Hint, Body, Solved, IsSolved, Block}
use Rattle.annot_types.proofs.Raised.{same_self}
use Rattle.rules_spec.specs.CappedRows.{fits}
use Rattle.rules_soundness_laws.proofs.Blocks.{of_meter}
use Rattle.simplex_integers.specs.Wholes.{most}
use Rattle.infer_spec.specs.States.{State}
use Rattle.infer_spec.specs.Places.{EntriesFit, SigFits, HintFits, BodyFits, IsOfMeter, RaisedFits, BlockLeaves}
use Rattle.other_blocks.specs.Leaving.{entries_fit, sig_fits, hint_fits, body_fits, is_solved, is_leaving, first_leaving}

-- a test of all items, where the test of one means P
module _ {X : Type 0} (p : X → Bool) (P : X → Type 0) where
  all_so : ((x : X) → p x ≡ true → P x) → (xs : List X) → list_all p xs ≡ true → All P xs
  all_so f [] e = All-nil P
  all_so f (x ∷ xs) e = let both = and_parts (p x) (list_all p xs) e in All-cons P x xs (f x both.0) (all_so f xs both.1)

  so_all : ((x : X) → P x → p x ≡ true) → (xs : List X) → All P xs → list_all p xs ≡ true
  so_all f [] h = refl
  so_all f (x ∷ xs) h = and_from (p x) (list_all p xs) (f x (All-head P x xs h)) (so_all f xs (All-tail P x xs h))

fits_so : (z : ℤ) → fits z ≡ true → FitsSigned w128 z
fits_so z e = let b = and_parts (int_le (negsuc (2 ^ 127 - 1)) z) (int_le z (pos (2 ^ 127 - 1))) e in grind (arith, ints, b.0, b.1)

so_fits : (z : ℤ) → FitsSigned w128 z → fits z ≡ true
so_fits z h = grind (arith, ints, h)

module _ (t : ℕ) where
  abbrev NumberFits : ℕ × ℤ → Type 0
  NumberFits e = FitsSigned w128 (pos t *ℤ e.1)

  abbrev number_fits : ℕ × ℤ → Bool
  number_fits e = fits (pos t *ℤ e.1)

  entries_so : (es : Entries) → entries_fit (pos t) es ≡ true → EntriesFit t es
  entries_so es e = all_so number_fits NumberFits (λ x. fits_so (pos t *ℤ x.1)) es e

  so_entries : (es : Entries) → EntriesFit t es → entries_fit (pos t) es ≡ true
  so_entries es h = so_all number_fits NumberFits (λ x. so_fits (pos t *ℤ x.1)) es h

  sig_so : (s : Sig) → sig_fits (pos t) s ≡ true → SigFits t s
  sig_so s e = let both = and_parts (entries_fit (pos t) s.args) (entries_fit (pos t) s.result) e in (entries_so s.args both.0, entries_so s.result both.1)

  so_sig : (s : Sig) → SigFits t s → sig_fits (pos t) s ≡ true
  so_sig s h = and_from (entries_fit (pos t) s.args) (entries_fit (pos t) s.result) (so_entries s.args h.0) (so_entries s.result h.1)

  hint_so : (h : Hint) → hint_fits (pos t) h ≡ true → HintFits t h
  hint_so (c.Let rs) e = all_so (entries_fit (pos t)) (EntriesFit t) entries_so rs e
  hint_so (c.Share p) e = entries_so p e
  hint_so (c.Call multiples) e = entries_so multiples e

  so_hint : (h : Hint) → HintFits t h → hint_fits (pos t) h ≡ true
  so_hint (c.Let rs) h = so_all (entries_fit (pos t)) (EntriesFit t) so_entries rs h
  so_hint (c.Share p) h = so_entries p h
  so_hint (c.Call multiples) h = so_entries multiples h

  body_so : (body : Body) → body_fits (pos t) body ≡ true → BodyFits t body
  body_so (Solved sigs hints) e =
      let both = and_parts (list_all (sig_fits (pos t)) sigs) (list_all (list_all (hint_fits (pos t))) hints) e in (
        all_so (sig_fits (pos t)) (SigFits t) sig_so sigs both.0,
        all_so (list_all (hint_fits (pos t))) (All (HintFits t)) (all_so (hint_fits (pos t)) (HintFits t) hint_so) hints both.1,
      )
  body_so (c.Refuted farkas) e = tt
  body_so (c.Calls f) e = tt

  so_body : (body : Body) → BodyFits t body → body_fits (pos t) body ≡ true
  so_body (Solved sigs hints) h =
      and_from (list_all (sig_fits (pos t)) sigs) (list_all (list_all (hint_fits (pos t))) hints)
      (so_all (sig_fits (pos t)) (SigFits t) so_sig sigs h.0)
      (so_all (list_all (hint_fits (pos t))) (All (HintFits t)) (so_all (hint_fits (pos t)) (HintFits t) so_hint) hints h.1)
  so_body (c.Refuted farkas) h = refl
  so_body (c.Calls f) h = refl

-- Blocks of a meter

solved_so : (body : Body) → is_solved body ≡ true → IsSolved body
solved_so (Solved sigs hints) e = tt
solved_so (c.Refuted farkas) e = absurd (cc)
solved_so (c.Calls f) e = absurd (cc)

so_solved : (body : Body) → IsSolved body → is_solved body ≡ true
so_solved (Solved sigs hints) h = refl
so_solved (c.Refuted farkas) h = absurd h
so_solved (c.Calls f) h = absurd h

abbrev is_meters : Meter → Block → Bool
is_meters meter block = is_for_meter meter block.task.kind && is_solved block.body

meter_so : (meter : Meter) (block : Block) → is_meters meter block ≡ true → IsOfMeter meter block
meter_so meter block e =
    let both = and_parts (is_for_meter meter block.task.kind) (is_solved block.body) e in
    record { kind = of_meter meter block.task.kind both.0; solved = solved_so block.body both.1 }

so_meter : (meter : Meter) (block : Block) → IsOfMeter meter block → is_meters meter block ≡ true
so_meter meter block h =
    and_from (is_for_meter meter block.task.kind) (is_solved block.body) (ap (is_for_meter meter) h.kind ∙ same_self meter) (so_solved block.body h.solved)

pub of_meter_or : (meter : Meter) (block : Block) → IsOfMeter meter block ⊎ (IsOfMeter meter block → ⊥)
of_meter_or meter block = by (is_meters meter block) refl where
  by : (b : Bool) → is_meters meter block ≡ b → IsOfMeter meter block ⊎ (IsOfMeter meter block → ⊥)
  by true e = inl (meter_so meter block e)
  by false e = inr (λ h. (let wrong : false ≡ true = sym e ∙ so_meter meter block h in cc))

-- The first block that leaves

module _ (meter : Meter) (t scale : ℕ) where
  abbrev scale_fits : Bool
  scale_fits = nat_lt (t * scale) most

  -- the numbers of the block and the scale, times t, fit
  record Fit (block : Block) : Type 0 where
    numbers : BodyFits t block.body
    low : t * scale < most

  scale_so : scale_fits ≡ true → t * scale < most
  scale_so e = grind (arith, nat_tests, e)

  so_scale : t * scale < most → scale_fits ≡ true
  so_scale h = grind (arith, nat_tests, h)

  abbrev leaving : Block → Bool
  leaving block = is_leaving meter (pos t) scale_fits block

  -- a block that leaves is of the meter and does not fit; one that does not fits where it is of the meter
  leaving_so : (block : Block) → leaving block ≡ true → IsOfMeter meter block × (Fit block → ⊥)
  leaving_so block e =
      let both = and_parts (is_meters meter block) (not (scale_fits && body_fits (pos t) block.body)) e in (
        meter_so meter block both.0,
        λ f. no (scale_fits && body_fits (pos t) block.body) (and_from scale_fits (body_fits (pos t) block.body) (so_scale f.low) (so_body t block.body f.numbers)) both.1,
      )
    where
      no : (b : Bool) → b ≡ true → not b ≡ true → ⊥
      no true e h = absurd (cc)
      no false e h = absurd (cc)

  stays_so : (block : Block) → leaving block ≡ false → IsOfMeter meter block → Fit block
  stays_so block e h = by (is_meters meter block) (scale_fits && body_fits (pos t) block.body) refl (so_meter meter block h) e
    where
      by : (a b : Bool) → (scale_fits && body_fits (pos t) block.body) ≡ b → a ≡ true → (a && not b) ≡ false → Fit block
      by false b q m s = absurd (cc)
      by true false q m s = absurd (cc)
      by true true q m s = let both = and_parts scale_fits (body_fits (pos t) block.body) q in record { numbers = body_so t block.body both.1; low = scale_so both.0 }

  record IsFirst (bs : List Block) (place : ℕ) : Type 0 where
    block : Block
    there : slice_get bs place ≡ Some block
    of : IsOfMeter meter block
    leaves : Fit block → ⊥
    earlier : (i : ℕ) (other : Block) → i < place → slice_get bs i ≡ Some other → IsOfMeter meter other → Fit other

  abbrev AllFit : List Block → Type 0
  AllFit bs = (i : ℕ) (other : Block) → slice_get bs i ≡ Some other → IsOfMeter meter other → Fit other

  first_is : (bs : List Block) (o : Option ℕ) → first_leaving meter (pos t) scale_fits bs ≡ o → IfSome o (IsFirst bs) × IfNone o (AllFit bs)
  first_is [] None e = (tt, λ i other there. absurd (none-some other there))
  first_is [] (Some n) e = absurd (none-some n e)
  first_is (b ∷ bs) o e = by (leaving b) refl (first_leaving meter (pos t) scale_fits bs) refl (first_is bs (first_leaving meter (pos t) scale_fits bs) refl) o e where
    found : leaving b ≡ true → (o : Option ℕ) → Some 0 ≡ o → IfSome o (IsFirst (b ∷ bs)) × IfNone o (AllFit (b ∷ bs))
    found q None e = absurd (none-some 0 (sym e))
    found q (Some n) e =
        let here = leaving_so b q in (
          subst (IsFirst (b ∷ bs)) (same_Some 0 n e) (record { block = b; there = refl; of = here.0; leaves = here.1; earlier = λ i other low. absurd (omega (arith, low)) }),
          tt,
        )

    behind : leaving b ≡ false → (rest : Option ℕ) → IfSome rest (IsFirst bs) × IfNone rest (AllFit bs) → (o : Option ℕ) → option_map suc rest ≡ o →
        IfSome o (IsFirst (b ∷ bs)) × IfNone o (AllFit (b ∷ bs))
    behind q None h (Some n) e = absurd (none-some n e)
    behind q (Some m) h None e = absurd (none-some (suc m) (sym e))
    behind q None h None e = (tt, all) where
      all : AllFit (b ∷ bs)
      all zero other there of = subst Fit (same_Some b other there) (stays_so b q (subst (IsOfMeter meter) (sym (same_Some b other there)) of))
      all (suc i) other there of = h.1 i other there of
    behind q (Some m) h (Some n) e =
        (subst (IsFirst (b ∷ bs)) (same_Some (suc m) n e) (record { block = h.0.block; there = h.0.there; of = h.0.of; leaves = h.0.leaves; earlier = before }), tt) where
          before : (i : ℕ) (other : Block) → i < suc m → slice_get (b ∷ bs) i ≡ Some other → IsOfMeter meter other → Fit other
          before zero other low there of = subst Fit (same_Some b other there) (stays_so b q (subst (IsOfMeter meter) (sym (same_Some b other there)) of))
          before (suc i) other low there of = h.0.earlier i other (omega (arith, low)) there of

    by : (l : Bool) → leaving b ≡ l → (rest : Option ℕ) → first_leaving meter (pos t) scale_fits bs ≡ rest → IfSome rest (IsFirst bs) × IfNone rest (AllFit bs) → (o : Option ℕ) → cond l (Some 0) (option_map suc (first_leaving meter (pos t) scale_fits bs)) ≡ o →
        IfSome o (IsFirst (b ∷ bs)) × IfNone o (AllFit (b ∷ bs))
    by true q rest r h o e = found q o e
    by false q rest r h o e = behind q rest h o (ap (option_map suc) (sym r) ∙ e)

  -- in a state with these blocks and this scale
  module _ (bs : List Block) (st : State) (are : st.blocks ≡ bs) (is : st.scales meter ≡ scale) where
    raised_fits : (block : Block) → Fit block → RaisedFits meter t st block
    raised_fits block h = record { numbers = h.numbers; scale = subst (λ n. t * n < most) (sym is) h.low }

    fit_raised : (block : Block) → RaisedFits meter t st block → Fit block
    fit_raised block h = record { numbers = h.numbers; low = subst (λ n. t * n < most) is h.scale }

    pub some_leaves : (place : ℕ) → first_leaving meter (pos t) scale_fits bs ≡ Some place → BlockLeaves meter t st place
    some_leaves place e =
        let f = (first_is bs (Some place) e).0 in
        record {
          block = f.block;
          there = ap (λ bs. slice_get bs place) are ∙ f.there;
          of_meter = f.of;
          leaves = λ h. f.leaves (fit_raised f.block h);
          before = λ i other low there of. raised_fits other (f.earlier i other low (ap (λ bs. slice_get bs i) (sym are) ∙ there) of);
        }

    pub none_leaves : first_leaving meter (pos t) scale_fits bs ≡ None → (place : ℕ) → BlockLeaves meter t st place → ⊥
    none_leaves e place h =
        let all = (first_is bs None e).1 in
        h.leaves (raised_fits h.block (all place h.block (ap (λ bs. slice_get bs place) (sym are) ∙ h.there) h.of_meter))

-- what is found for a positive factor
module _ (meter : Meter) (factor : ℤ) (scale : ℕ) (positive : pos 0 <ℤ factor) (bs : List Block) (fit : Bool) (fit_is : fit ≡ nat_lt (unsigned_abs factor * scale) most) (o : Option ℕ)
    (found : o ≡ first_leaving meter factor fit bs) where
  found_is : first_leaving meter (pos (unsigned_abs factor)) (nat_lt (unsigned_abs factor * scale) most) bs ≡ o
  found_is =
      let size : pos (unsigned_abs factor) ≡ factor = grind (arith, ints, positive) in
      (λ i. first_leaving meter (size i) (sym fit_is i) bs) ∙ sym found

  pub found_some : IfSome o (λ place. (st : State) → st.blocks ≡ bs → st.scales meter ≡ scale → BlockLeaves meter (unsigned_abs factor) st place)
  found_some = by o found_is where
    by : (o : Option ℕ) → first_leaving meter (pos (unsigned_abs factor)) (nat_lt (unsigned_abs factor * scale) most) bs ≡ o →
        IfSome o (λ place. (st : State) → st.blocks ≡ bs → st.scales meter ≡ scale → BlockLeaves meter (unsigned_abs factor) st place)
    by None e = tt
    by (Some place) e = λ st are is. some_leaves meter (unsigned_abs factor) scale bs st are is place e

  pub found_none : IfNone o ((st : State) → st.blocks ≡ bs → st.scales meter ≡ scale → (place : ℕ) → BlockLeaves meter (unsigned_abs factor) st place → ⊥)
  found_none = by o found_is where
    by : (o : Option ℕ) → first_leaving meter (pos (unsigned_abs factor)) (nat_lt (unsigned_abs factor * scale) most) bs ≡ o →
        IfNone o ((st : State) → st.blocks ≡ bs → st.scales meter ≡ scale → (place : ℕ) → BlockLeaves meter (unsigned_abs factor) st place → ⊥)
    by None e = λ st are is. none_leaves meter (unsigned_abs factor) scale bs st are is e
    by (Some place) e = tt
