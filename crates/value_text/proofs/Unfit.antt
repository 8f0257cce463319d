-- Types of which no arguments are low enough.
use Rattle.std.proofs.Common.{◌≡◌, ◌≤◌, ◌<◌, ◌+◌, ℕ, zero, suc, List, [], ◌∷◌, length, map, get_or, Bool, true, false, Option, Some, None, refl, sym, ap, subst, ◌∙◌, arith}
use Rattle.std.specs.Prelude.{nat_le}
use Rattle.std.proofs.lemmas.Bool.Decides.{nat_tests}
use Rattle.raml_syntax.specs.Tree.{Type', Text}
use Rattle.raml_syntax.specs.Value.{Value, HaveTypes}
use Rattle.raml_syntax.specs.Read.{ty_of}
use Rattle.raml_syntax.specs.declared.ty.Ty.{Ty}
use Rattle.value_text.specs.declared.sign.Sign.TheVariants as k
use Rattle.value_text.specs.declared.fault.Kind.TheVariants.{Shape, TooDeep}
use Rattle.value_text.specs.declared.fault.Stop.TheVariants as f
use Rattle.value_text.specs.declared.token.Token as n
use Rattle.value_text.specs.Spelling.{Token, Key, spell, spell_more, spell_all, AreWithin, most_height}
use Rattle.value_text.specs.Lexing.{placed, kinds, left_of}
use Rattle.value_text.specs.Reading.{Spell, CanBegin, Faults, here, end}
use Rattle.value_text.specs.Goals.{least, begins, Sane, AllFit}
use Rattle.value_text.specs.Tokens.{token_of, IsNext}
use Rattle.value_text.specs.State.{is_found}
use Rattle.value_text.specs.Ends.{StopsWith, is_started}
use Rattle.value_text.proofs.Front.{head_eq, least_height, least_value, begun, front}

no_low : (types : List Type') (xs : List Value) → HaveTypes xs types → AreWithin most_height xs → AllFit types
no_low [] xs h w = tt
no_low (A ∷ As) [] h w = absurd h
no_low (A ∷ As) (x ∷ xs) h w = let l = least_height x A h.0 in let m = w.0 in (omega (arith, l, m), no_low As xs h.1 w.1)

high : List Type' → ℕ
high [] = 0
high (A ∷ As) = least A + high As

within_more : (i m : ℕ) (xs : List Value) → i ≤ m → AreWithin i xs → AreWithin m xs
within_more i m [] le h = tt
within_more i m (x ∷ xs) le h = let l = h.0 in (omega (arith, l, le), within_more i m xs le h.1)

any_values : (As : List Type') → (xs : List Value) × HaveTypes xs As × AreWithin (high As) xs
unfolding high
any_values [] = ([], tt, tt)
any_values (A ∷ As) =
    let a = least_value A in
    let r = any_values As in
    let e = a.2 in
    (a.0 ∷ r.0, (a.1, r.1), (omega (arith, e), within_more (high As) (least A + high As) r.0 (omega arith) r.2))

started : (types : List Type') (t : Token) → Sane t → is_started types t ≡ true → (i : ℕ) × CanBegin types i (t ∷ [])
started [] t sane e = absurd (cc)
started (A ∷ []) t sane e = go (begins A t) refl e
  where
    go : (o : Option ℕ) → begins A t ≡ o → is_found o ≡ true → (i : ℕ) × CanBegin (A ∷ []) i (t ∷ [])
    go None q e = absurd (cc)
    go (Some h) q e =
        let x = begun A t h sane q in
        let r = x.front [] in
        let l = x.high in
        (h, record { more = r.0; values = x.value ∷ []; spelled = record { typed = (x.has, tt); low = (omega (arith, l), tt); tokens = sym r.1 } })
started (A ∷ B ∷ As) (Key k.Open) sane e = go (any_values (A ∷ B ∷ As))
  where
    go : ((xs : List Value) × HaveTypes xs (A ∷ B ∷ As) × AreWithin (high (A ∷ B ∷ As)) xs) → (i : ℕ) × CanBegin (A ∷ B ∷ As) i (Key k.Open ∷ [])
    go ([], h, w) = absurd h
    go (x ∷ [], h, w) = absurd h.1
    go (x ∷ y ∷ xs, h, w) = (high (A ∷ B ∷ As), record { more = spell x A (spell_more (y ∷ xs) (B ∷ As) []); values = x ∷ y ∷ xs; spelled = record { typed = h; low = w; tokens = refl } })
started (A ∷ B ∷ As) _ sane e = absurd (cc)

unstarted : (types : List Type') (t : Token) → 1 ≤ length types → is_started types t ≡ false → (i : ℕ) → CanBegin types i (t ∷ []) → ⊥
unstarted [] t some e i c = omega (arith, some)
unstarted (A ∷ []) t some e i c = go c.values c.spelled.typed c.spelled.tokens
  where
    go : (xs : List Value) → HaveTypes xs (A ∷ []) → t ∷ c.more ≡ spell_all xs (A ∷ []) → ⊥
    go [] h q = h
    go (x ∷ y ∷ xs) h q = h.1
    go (x ∷ []) h q =
        let f = front x A [] h.0 in
        let d = head_eq t f.token c.more f.rest (q ∙ f.is) in
        let z : is_found (begins A t) ≡ true = ap (λ t. is_found (begins A t)) d ∙ ap is_found f.found in
        let y : false ≡ true = sym e ∙ z in
        cc
unstarted (A ∷ B ∷ As) t some e i c = go c.values c.spelled.typed c.spelled.tokens
  where
    go : (xs : List Value) → HaveTypes xs (A ∷ B ∷ As) → t ∷ c.more ≡ spell_all xs (A ∷ B ∷ As) → ⊥
    go [] h q = h
    go (x ∷ []) h q = h.1
    go (x ∷ y ∷ xs) h q =
        let d = head_eq t (Key k.Open) c.more _ q in
        let z : is_started (A ∷ B ∷ As) t ≡ true = ap (is_started (A ∷ B ∷ As)) d in
        let y : false ≡ true = sym e ∙ z in
        cc

module _ (types : List Type') (some : 1 ≤ length types) (none : AllFit types → ⊥) where
  nothing : (s : List Token) (xs : List Value) → Spell types most_height s xs → ⊥
  nothing s xs h = none (no_low types xs h.typed h.low)

  pub unfit_started : (t : n.Token) (left : ℕ) (s rest : Text) → IsNext s t left rest → is_started types (token_of t) ≡ true → StopsWith s types (f.Fault TooDeep left)
  unfit_started t left s rest is e = record {
    before = [];
    rest = placed s;
    split = refl;
    fault = subst (λ l. Faults types most_height l TooDeep l) (sym (ap kinds is.tokens)) (here {a = []} refl (λ d. absurd (d refl)) (λ c. nothing _ c.values c.spelled) (started types (token_of t) is.sane e));
    place = sym (ap left_of is.tokens);
  }

  pub unfit_unstarted : (t : n.Token) (left : ℕ) (s rest : Text) → IsNext s t left rest → is_started types (token_of t) ≡ false → StopsWith s types (f.Fault Shape left)
  unfit_unstarted t left s rest is e = record {
    before = [];
    rest = placed s;
    split = refl;
    fault = subst (λ l. Faults types most_height l Shape l) (sym (ap kinds is.tokens)) (here {a = []} refl (λ d. absurd (d refl)) (λ c. nothing _ c.values c.spelled) (unstarted types (token_of t) some e));
    place = sym (ap left_of is.tokens);
  }

  pub unfit_end : (s : Text) → placed s ≡ [] → StopsWith s types (f.Fault Shape 0)
  unfit_end s e = record {
    before = [];
    rest = placed s;
    split = refl;
    fault = subst (λ l. Faults types most_height l Shape l) (sym (ap kinds e)) (end (λ d. absurd (d refl)) (λ xs h. nothing [] xs h));
    place = sym (ap left_of e);
  }

fit_at : (ts : List Ty) (i : ℕ) (x : Ty) → i < length ts → x ≡ get_or ts i x → AllFit (map ty_of ts) → least (ty_of x) ≤ most_height
fit_at [] i x lt e h = absurd (omega (arith, lt))
fit_at (y ∷ ts) zero x lt e h = subst (λ x. least (ty_of x) ≤ most_height) (sym e) h.0
fit_at (y ∷ ts) (suc i) x lt e h = fit_at ts i x (omega (arith, lt)) e h.1

pub unfit_at : (ts : List Ty) (i : ℕ) (x : Ty) (b : Bool) → i < length ts → x ≡ get_or ts i x → b ≡ nat_le (least (ty_of x)) 400 → b ≡ false → AllFit (map ty_of ts) → ⊥
unfit_at ts i x b lt e is differs h =
    let l = fit_at ts i x lt e h in
    let q : nat_le (least (ty_of x)) 400 ≡ false = sym is ∙ differs in
    grind (arith, nat_tests, q, l)
