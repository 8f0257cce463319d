-- Goals that are met as far as they go.
use Rattle.std.proofs.Common.{◌≡◌, ◌≤◌, ◌+◌, ℕ, suc, List, [], ◌∷◌, length, refl, sym, ap, subst, arith}
use Rattle.raml_syntax.specs.Tree.{Type', Text}
use Rattle.raml_syntax.specs.Value.{Value}
use Rattle.value_text.specs.declared.goal.Goal as d
use Rattle.value_text.specs.declared.goal.Goal.TheVariants as o
use Rattle.value_text.specs.declared.goal.Verdict.{Verdict}
use Rattle.value_text.specs.declared.goal.Verdict.TheVariants as a
use Rattle.value_text.specs.declared.fault.Kind.TheVariants.{Shape, TooDeep}
use Rattle.value_text.specs.declared.fault.Stop.TheVariants as f
use Rattle.value_text.specs.declared.token.Token as n
use Rattle.value_text.specs.Spelling.{Token, spell_more, sizes}
use Rattle.value_text.specs.Lexing.{Placed, placed, kinds, left_of}
use Rattle.value_text.specs.Goals.{Goal, Value', First, Tail, Sign', More, Pair, Node, Just, Moves, Stops, FitAll, paired, noded, justed}
use Rattle.value_text.specs.Tokens.{token_of, IsNext}
use Rattle.value_text.specs.State.{TakesToken, goal_of, owed, Takes, Taken, Turned, Fails}
use Rattle.value_text.proofs.Moves.{pair_moves, node_moves, just_moves}
use Rattle.value_text.proofs.Stops.{value_stops_end, first_stops_end, tail_stops, sign_stops}

sizes_paired : (V : List Value) → sizes (paired V) ≡ suc (sizes V)
sizes_paired [] = refl
sizes_paired (x ∷ []) = omega arith
sizes_paired (x ∷ y ∷ V) = omega arith

sizes_noded : (V : List Value) → sizes (noded V) ≡ suc (sizes V)
sizes_noded [] = refl
sizes_noded (x ∷ []) = omega arith
sizes_noded (x ∷ y ∷ []) = omega arith
sizes_noded (x ∷ y ∷ z ∷ V) = omega arith

sizes_justed : (V : List Value) → sizes (justed V) ≡ suc (sizes V)
sizes_justed [] = refl
sizes_justed (x ∷ V) = omega arith

-- a goal that makes one value of those in front, and takes no token
made_turned : (goal : d.Goal) (g : Goal) (G : List Goal) (V V' W : List Value) (s : List Placed) (n : ℕ) → goal_of goal ≡ g → Moves (g ∷ G) V [] G W → sizes W ≤ owed g + sizes V →
    FitAll (goal_of goal ∷ G) → V' ≡ W → Turned (goal_of goal) G V s n G V' s n
made_turned goal g G V V' W s n at moves few fits e =
    subst (λ g. Turned g G V s n G V' s n) (sym at) (subst (λ V'. Turned g G V s n G V' s n) (sym e) (record {
      taken = [];
      split = refl;
      moves = moves;
      fits = fits.1;
      cost = omega (arith, few);
      less = omega arith;
    }))

pub pair_turned : (goal : d.Goal) (G : List Goal) (V V' : List Value) (s : List Placed) (n : ℕ) → goal ≡ o.Pair → FitAll (goal_of goal ∷ G) → V' ≡ paired V → Turned (goal_of goal) G V s n G V' s n
pair_turned goal G V V' s n at fits e = made_turned goal Pair G V V' (paired V) s n (ap goal_of at) (pair_moves G V) (let z = sizes_paired V in omega (arith, z)) fits e

pub node_turned : (goal : d.Goal) (G : List Goal) (V V' : List Value) (s : List Placed) (n : ℕ) → goal ≡ o.Node → FitAll (goal_of goal ∷ G) → V' ≡ noded V → Turned (goal_of goal) G V s n G V' s n
node_turned goal G V V' s n at fits e = made_turned goal Node G V V' (noded V) s n (ap goal_of at) (node_moves G V) (let z = sizes_noded V in omega (arith, z)) fits e

pub just_turned : (goal : d.Goal) (G : List Goal) (V V' : List Value) (s : List Placed) (n : ℕ) → goal ≡ o.Just → FitAll (goal_of goal ∷ G) → V' ≡ justed V → Turned (goal_of goal) G V s n G V' s n
just_turned goal G V V' s n at fits e = made_turned goal Just G V V' (justed V) s n (ap goal_of at) (just_moves G V) (let z = sizes_justed V in omega (arith, z)) fits e

pub token_turned : (g : Goal) (t : n.Token) (left : ℕ) (G : List Goal) (V : List Value) (G' : List Goal) (V' : List Value) (s rest : Text) (v : Verdict) → v ≡ a.Fits → IsNext s t left rest → Taken v g (token_of t) G V G' V' → Turned g G V (placed s) (length s) G' V' (placed rest) (length rest)
token_turned g t left G V G' V' s rest v ev is y =
    let x : Takes g (token_of t) G V G' V' = subst (λ v. Taken v g (token_of t) G V G' V') ev y in
    let c = x.cost in
    let w = x.few in
    let l = is.less in
    record { taken = (record { left = left; token = token_of t }) ∷ []; split = is.tokens; moves = x.moves; fits = x.fits; cost = omega (arith, c, l); less = omega (arith, w, l) }

pub shape_fails : (g : Goal) (t : n.Token) (left : ℕ) (G : List Goal) (V : List Value) (G' : List Goal) (V' : List Value) (s rest : Text) (v : Verdict) → v ≡ a.Shape → IsNext s t left rest → Taken v g (token_of t) G V G' V' → Fails (f.Fault Shape left) (g ∷ G) V (placed s)
shape_fails g t left G V G' V' s rest v ev is y =
    let x : (b : List Token) → Stops Shape (g ∷ G) V (token_of t ∷ b) = subst (λ v. Taken v g (token_of t) G V G' V') ev y in
    (subst (Stops Shape (g ∷ G) V) (sym (ap kinds is.tokens)) (x (kinds (placed rest))), sym (ap left_of is.tokens))

pub deep_fails : (g : Goal) (t : n.Token) (left : ℕ) (G : List Goal) (V : List Value) (G' : List Goal) (V' : List Value) (s rest : Text) (v : Verdict) → v ≡ a.TooDeep → IsNext s t left rest → Taken v g (token_of t) G V G' V' → Fails (f.Fault TooDeep left) (g ∷ G) V (placed s)
deep_fails g t left G V G' V' s rest v ev is y =
    let x : (b : List Token) → Stops TooDeep (g ∷ G) V (token_of t ∷ b) = subst (λ v. Taken v g (token_of t) G V G' V') ev y in
    (subst (Stops TooDeep (g ∷ G) V) (sym (ap kinds is.tokens)) (x (kinds (placed rest))), sym (ap left_of is.tokens))

none_stops : (g : Goal) (G : List Goal) (V : List Value) → TakesToken g → Stops Shape (g ∷ G) V []
none_stops (Value' A l) G V h = value_stops_end A l G V
none_stops (First A l) G V h = first_stops_end A l G V
none_stops (Tail A l m) G V h = tail_stops A l m G V [] tt tt
none_stops (Sign' j) G V h = sign_stops j G V [] tt
none_stops (More As) G V h = λ i q fin r. some As r.0 r.1 r.4
  where
    some : (As : List Type') (xs : List Value) (r : List Token) → [] ≡ spell_more xs As r → ⊥
    some [] [] r e = cc
    some [] (x ∷ xs) r e = cc
    some (A ∷ As) [] r e = cc
    some (A ∷ As) (x ∷ xs) r e = cc
none_stops Pair G V h = absurd h
none_stops Node G V h = absurd h
none_stops Just G V h = absurd h

pub none_fails : (g : Goal) (G : List Goal) (V : List Value) (s : Text) → TakesToken g → placed s ≡ [] → Fails (f.Fault Shape 0) (g ∷ G) V (placed s)
none_fails g G V s h e = (subst (Stops Shape (g ∷ G) V) (sym (ap kinds e)) (none_stops g G V h), sym (ap left_of e))
