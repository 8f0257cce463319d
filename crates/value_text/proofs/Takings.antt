-- What is taken and what cannot stand, goal by goal.
use Rattle.std.proofs.Common.{◌≡◌, ◌≢◌, ◌≤◌, ◌+◌, ℕ, zero, suc, List, [], ◌∷◌, length, Some, refl, sym, ap, subst, ◌∙◌, arith}
use Rattle.std.specs.Prelude.{max}
use Rattle.raml_syntax.specs.Tree.{Type', Integer, Boolean, PairOf, ListOf, TreeOf, OptionOf}
use Rattle.raml_syntax.specs.Value as v
use Rattle.raml_syntax.specs.Value.{Value, Has, HaveTypes, size}
use Rattle.value_text.specs.declared.sign.Sign.{Sign}
use Rattle.value_text.specs.declared.sign.Sign.TheVariants as k
use Rattle.value_text.specs.declared.fault.Kind.TheVariants.{Shape, TooDeep}
use Rattle.value_text.specs.declared.goal.Verdict.{Verdict}
use Rattle.value_text.specs.declared.goal.Verdict.TheVariants as a
use Rattle.value_text.specs.Spelling.{Token, Key, Number, Truth, spell, spell_more, AreWithin, most_height, sizes}
use Rattle.value_text.specs.Goals.{Goal, Value', First, Tail, Sign', More, joined, pushed, Run, Sane, least, begins, more_goals, more_values, FitAll}
use Rattle.value_text.specs.State.{all_owed, Takes, Taken, IsVerdict}
use Rattle.value_text.proofs.Front.{tail_eq, head_eq, least_some, least_begins}
use Rattle.value_text.proofs.Moves.{begin_moves, sign_moves}
use Rattle.value_text.proofs.Lists.{first_end_moves, tail_end_moves, tail_moves, first_moves, first_stops}
use Rattle.value_text.proofs.Stops.{sign_stops, tail_stops, shape_stops, EndAll, ends_fit, deep_stops}

-- a value begins
begun_fits : (A : Type') (l : ℕ) (t : Token) (h : ℕ) (G : List Goal) → begins A t ≡ Some h → h + l ≤ most_height → FitAll G → FitAll (more_goals A l t G)
begun_fits Integer l (Number n) h G e le f = f
begun_fits Boolean l (Truth b) h G e le f = f
begun_fits (PairOf A B) l (Key k.Open) h G e le f = let q : suc (max (least A) (least B)) ≡ h = cc in (omega (arith, q, le), (tt, (omega (arith, q, le), (tt, (tt, f)))))
begun_fits (ListOf A) l (Key k.OpenList) h G e le f = let q : 1 ≡ h = cc in (omega (arith, q, le), f)
begun_fits (TreeOf A) l (Key k.Leaf) h G e le f = f
begun_fits (TreeOf A) l (Key k.Node) h G e le f =
    let q : suc (least A) ≡ h = cc in
    let s = least_some A in
    (tt, (omega (arith, q, le), (tt, (omega (arith, q, le, s), (tt, (omega (arith, q, le, s), (tt, (tt, f))))))))
begun_fits (OptionOf A) l (Key k.Nothing) h G e le f = f
begun_fits (OptionOf A) l (Key k.Just) h G e le f = let q : suc (least A) ≡ h = cc in (tt, (omega (arith, q, le), (tt, (tt, f))))
begun_fits _ l _ h G e le f = absurd (cc)

begun_cost : (A : Type') (l : ℕ) (t : Token) (h : ℕ) (G : List Goal) (V : List Value) → begins A t ≡ Some h → (all_owed (more_goals A l t G) + sizes (more_values t V) ≤ suc (all_owed G + sizes V)) × (length (more_goals A l t G) ≤ length G + 8)
begun_cost Integer l (Number n) h G V e = (omega arith, omega arith)
begun_cost Boolean l (Truth b) h G V e = (omega arith, omega arith)
begun_cost (PairOf A B) l (Key k.Open) h G V e = (omega arith, omega arith)
begun_cost (ListOf A) l (Key k.OpenList) h G V e = (omega arith, omega arith)
begun_cost (TreeOf A) l (Key k.Leaf) h G V e = (omega arith, omega arith)
begun_cost (TreeOf A) l (Key k.Node) h G V e = (omega arith, omega arith)
begun_cost (OptionOf A) l (Key k.Nothing) h G V e = (omega arith, omega arith)
begun_cost (OptionOf A) l (Key k.Just) h G V e = (omega arith, omega arith)
begun_cost _ l _ h G V e = absurd (cc)

pub value_takes : (A : Type') (l : ℕ) (t : Token) (G : List Goal) (V : List Value) (G' : List Goal) (V' : List Value) → Sane t → IsVerdict A l t a.Fits → FitAll G → G' ≡ more_goals A l t G → V' ≡ more_values t V → Takes (Value' A l) t G V G' V'
value_takes A l t G V G' V' sane is fits eg ev =
    subst (λ G'. Takes (Value' A l) t G V G' V') (sym eg) (subst (λ V'. Takes (Value' A l) t G V (more_goals A l t G) V') (sym ev) (record {
      moves = begin_moves A l t is.0 G V sane is.1 is.2;
      fits = begun_fits A l t is.0 G is.1 is.2 fits;
      cost = (let c = (begun_cost A l t is.0 G V is.1).0 in omega (arith, c));
      few = (let c = (begun_cost A l t is.0 G V is.1).1 in omega (arith, c));
    }))

pub value_refused : (A : Type') (l : ℕ) (t : Token) (G : List Goal) (V : List Value) (G' : List Goal) (V' : List Value) (v : Verdict) → Sane t → IsVerdict A l t v → v ≢ a.Fits → ((i : ℕ) → most_height ≤ i → EndAll i G) → Taken v (Value' A l) t G V G' V'
value_refused A l t G V G' V' a.Fits sane is differs rest = absurd (differs refl)
value_refused A l t G V G' V' a.TooDeep sane is differs rest = λ b. deep_stops A l G V t b is.0 sane is.1 is.2 rest
value_refused A l t G V G' V' a.Shape sane is differs rest = λ b. shape_stops A l G V t b is

-- a value of which some is known to be low enough
pub value_taken : (A : Type') (l : ℕ) (t : Token) (G : List Goal) (V : List Value) (G' : List Goal) (V' : List Value) (v : Verdict) → Sane t → IsVerdict A l t v → FitAll G → (v ≡ a.Fits → (G' ≡ more_goals A l t G) × (V' ≡ more_values t V)) → Taken v (Value' A l) t G V G' V'
value_taken A l t G V G' V' a.Fits sane is fits e = let p = e refl in value_takes A l t G V G' V' sane is fits p.0 p.1
value_taken A l t G V G' V' a.TooDeep sane is fits e = λ b. deep_stops A l G V t b is.0 sane is.1 is.2 (λ i le. ends_fit i G le fits)
value_taken A l t G V G' V' a.Shape sane is fits e = λ b. shape_stops A l G V t b is

-- the first element of a list
pub first_taken : (A : Type') (l : ℕ) (t : Token) (G : List Goal) (V : List Value) (G' : List Goal) (V' : List Value) (v : Verdict) → Sane t → IsVerdict A (suc l) t v → t ≢ Key k.CloseList → 1 + l ≤ most_height → FitAll G → (v ≡ a.Fits → (G' ≡ more_goals A (suc l) t (Tail A l 1 ∷ G)) × (V' ≡ more_values t V)) → Taken v (First A l) t G V G' V'
first_taken A l t G V G' V' a.Fits sane is differs low fits e =
    let p = e refl in
    let h = least_begins A t is.0 is.1 in
    let le = is.2 in
    let x = value_takes A (suc l) t (Tail A l 1 ∷ G) V G' V' sane is (omega (arith, h, le), fits) p.0 p.1 in
    let c = x.cost in
    record { moves = first_moves A l G V t G' V' differs x.moves; fits = x.fits; cost = omega (arith, c); few = (let q = (begun_cost A (suc l) t is.0 (Tail A l 1 ∷ G) V is.1).1 in let z = ap length p.0 in omega (arith, q, z)) }
first_taken A l t G V G' V' a.TooDeep sane is differs low fits e =
    λ b. first_stops TooDeep A l G V t b differs (deep_stops A (suc l) (Tail A l 1 ∷ G) V t b is.0 sane is.1 is.2 (λ i le. (omega (arith, low, le), ends_fit i G le fits)))
first_taken A l t G V G' V' a.Shape sane is differs low fits e = λ b. first_stops Shape A l G V t b differs (shape_stops A (suc l) (Tail A l 1 ∷ G) V t b is)

pub first_ended : (A : Type') (l : ℕ) (t : Token) (G : List Goal) (V : List Value) (G' : List Goal) (V' : List Value) → t ≡ Key k.CloseList → 1 + l ≤ most_height → FitAll G → G' ≡ G → V' ≡ v.Empty ∷ V → Taken a.Fits (First A l) t G V G' V'
first_ended A l t G V G' V' is low fits eg ev =
    subst (λ t. Taken a.Fits (First A l) t G V G' V') (sym is) (subst (λ G'. Taken a.Fits (First A l) (Key k.CloseList) G V G' V') (sym eg) (subst (λ V'. Taken a.Fits (First A l) (Key k.CloseList) G V G V') (sym ev) (record {
      moves = first_end_moves A l G V low;
      fits = fits;
      cost = omega arith;
      few = omega arith;
    })))

-- the rest of a list
pub tail_taken : (A : Type') (l n : ℕ) (t : Token) (G : List Goal) (V : List Value) (G' : List Goal) (V' : List Value) → t ≡ Key k.Comma → FitAll (Tail A l n ∷ G) → G' ≡ Value' A (suc l) ∷ Tail A l (suc n) ∷ G → V' ≡ V → Taken a.Fits (Tail A l n) t G V G' V'
tail_taken A l n t G V G' V' is fits eg ev =
    subst (λ t. Taken a.Fits (Tail A l n) t G V G' V') (sym is) (subst (λ G'. Taken a.Fits (Tail A l n) (Key k.Comma) G V G' V') (sym eg) (subst (λ V'. Taken a.Fits (Tail A l n) (Key k.Comma) G V (Value' A (suc l) ∷ Tail A l (suc n) ∷ G) V') (sym ev) (record {
      moves = tail_moves A l n G V;
      fits = (fits.0, fits);
      cost = omega arith;
      few = omega arith;
    })))

pub sizes_joined : (n : ℕ) (V : List Value) (x : Value) → sizes (joined n V x) ≡ n + sizes V + size x
sizes_joined zero V x = omega arith
sizes_joined (suc n) [] x = let e = sizes_joined n [] (v.Cons v.Empty x) in omega (arith, e)
sizes_joined (suc n) (y ∷ V) x = let e = sizes_joined n V (v.Cons y x) in omega (arith, e)

pub tail_ended : (A : Type') (l n : ℕ) (t : Token) (G : List Goal) (V : List Value) (G' : List Goal) (V' : List Value) → t ≡ Key k.CloseList → FitAll (Tail A l n ∷ G) → G' ≡ G → V' ≡ joined n V v.Empty → Taken a.Fits (Tail A l n) t G V G' V'
tail_ended A l n t G V G' V' is fits eg ev =
    let s = least_some A in
    let f = fits.0 in
    let z = sizes_joined n V v.Empty in
    subst (λ t. Taken a.Fits (Tail A l n) t G V G' V') (sym is) (subst (λ G'. Taken a.Fits (Tail A l n) (Key k.CloseList) G V G' V') (sym eg) (subst (λ V'. Taken a.Fits (Tail A l n) (Key k.CloseList) G V G V') (sym ev) (record {
      moves = tail_end_moves A l n G V (omega (arith, s, f));
      fits = fits.1;
      cost = omega (arith, z);
      few = omega arith;
    })))

pub tail_refused : (A : Type') (l n : ℕ) (t : Token) (G : List Goal) (V : List Value) (G' : List Goal) (V' : List Value) → t ≢ Key k.Comma → t ≢ Key k.CloseList → Taken a.Shape (Tail A l n) t G V G' V'
tail_refused A l n t G V G' V' nc ne = λ b. tail_stops A l n G V (t ∷ b) nc ne

-- a sign
pub sign_taken : (j : Sign) (t : Token) (G : List Goal) (V : List Value) (G' : List Goal) (V' : List Value) → t ≡ Key j → FitAll G → G' ≡ G → V' ≡ V → Taken a.Fits (Sign' j) t G V G' V'
sign_taken j t G V G' V' is fits eg ev =
    subst (λ t. Taken a.Fits (Sign' j) t G V G' V') (sym is) (subst (λ G'. Taken a.Fits (Sign' j) (Key j) G V G' V') (sym eg) (subst (λ V'. Taken a.Fits (Sign' j) (Key j) G V G V') (sym ev) (record {
      moves = sign_moves j G V;
      fits = fits;
      cost = omega arith;
      few = omega arith;
    })))

pub sign_refused : (j : Sign) (t : Token) (G : List Goal) (V : List Value) (G' : List Goal) (V' : List Value) → t ≢ Key j → Taken a.Shape (Sign' j) t G V G' V'
sign_refused j t G V G' V' differs = λ b. sign_stops j G V (t ∷ b) differs

-- the other arguments
-- what stands behind an argument
abbrev pub sign_of : List Type' → Token
sign_of [] = Key k.Close
sign_of (A ∷ As) = Key k.Comma

module _ (i : ℕ) (G : List Goal) (V : List Value) (q : List Token) (fin : List Value) where
  on_more_end : (xs : List Value) (r : List Token) → HaveTypes xs [] → Key k.Close ∷ q ≡ spell_more xs [] r → Run i G (pushed xs V) r fin → Run i G V q fin
  on_more_end [] r h e run = subst (λ s. Run i G V s fin) (sym (tail_eq _ _ _ _ e)) run
  on_more_end (x ∷ xs) r h e run = absurd h

  on_more : (A : Type') (As : List Type') (xs : List Value) (r : List Token) → HaveTypes xs (A ∷ As) → AreWithin i xs → Key k.Comma ∷ q ≡ spell_more xs (A ∷ As) r → Run i G (pushed xs V) r fin → Run i (Value' A 0 ∷ More As ∷ G) V q fin
  on_more A As (x ∷ xs) r h w e run = let l = w.0 in (x, spell_more xs As r, h.0, omega (arith, l), tail_eq _ _ _ _ e, (xs, r, h.1, w.1, refl, run))
  on_more A As [] r h w e run = absurd h

  more_sign : (As : List Type') (t : Token) (xs : List Value) (r : List Token) → HaveTypes xs As → t ∷ q ≡ spell_more xs As r → t ≡ sign_of As
  more_sign [] t [] r h e = head_eq _ _ _ _ e
  more_sign [] t (x ∷ xs) r h e = absurd h
  more_sign (A ∷ As) t [] r h e = absurd h
  more_sign (A ∷ As) t (x ∷ xs) r h e = head_eq _ _ _ _ e

pub more_ended : (t : Token) (G : List Goal) (V : List Value) (G' : List Goal) → t ≡ Key k.Close → FitAll G → G' ≡ G → Taken a.Fits (More []) t G V G' V
more_ended t G V G' is fits eg =
    subst (λ t. Taken a.Fits (More []) t G V G' V) (sym is) (subst (λ G'. Taken a.Fits (More []) (Key k.Close) G V G' V) (sym eg) (record {
      moves = record { onward = λ i q fin r. on_more_end i G V q fin r.0 r.1 r.2 r.4 r.5; back = λ i q fin high r. ([], q, tt, tt, refl, r) };
      fits = fits;
      cost = omega arith;
      few = omega arith;
    }))

pub more_taken : (A : Type') (As : List Type') (t : Token) (G : List Goal) (V : List Value) (G' : List Goal) → t ≡ Key k.Comma → FitAll (More (A ∷ As) ∷ G) → G' ≡ Value' A 0 ∷ More As ∷ G → Taken a.Fits (More (A ∷ As)) t G V G' V
more_taken A As t G V G' is fits eg =
    let f = fits.0.0 in
    subst (λ t. Taken a.Fits (More (A ∷ As)) t G V G' V) (sym is) (subst (λ G'. Taken a.Fits (More (A ∷ As)) (Key k.Comma) G V G' V) (sym eg) (record {
      moves = record {
        onward = λ i q fin r. on_more i G V q fin A As r.0 r.1 r.2 r.3 r.4 r.5;
        back = λ i q fin high r. (
            let m = r.5 in
            let l = r.3 in
            (r.0 ∷ m.0, m.1, (r.2, m.2), (omega (arith, l), m.3), ap (λ s. Key k.Comma ∷ s) (r.4 ∙ ap (spell r.0 A) m.4), m.5)
            );
      };
      fits = (omega (arith, f), (fits.0.1, fits.1));
      cost = omega arith;
      few = omega arith;
    }))

pub more_refused : (As : List Type') (t : Token) (G : List Goal) (V : List Value) (G' : List Goal) → t ≢ sign_of As → Taken a.Shape (More As) t G V G' V
more_refused As t G V G' differs = λ b i q fin r. differs (more_sign i G V q fin As t r.0 r.1 r.2 r.4)
