-- Expressions in which a variable has another name.
use Rattle.std.proofs.Common.{◌≡◌, ◌∙◌, ℕ, suc, List, [], ◌∷◌, ◌++◌, length, map, Bool, true, false, cond, Option, Some, None, refl, sym, ap}
use Rattle.std.specs.Prelude.{nat_eq}
use Rattle.std.specs.Str.{bytes_eq}
use Rattle.std.proofs.lemmas.Slice.Eq.{bytes_eq-Decides}
use Rattle.std.proofs.lemmas.Bool.{eqb-true}
use Rattle.std.proofs.lemmas.List.{map-append}
use Rattle.raml_syntax.specs.Tree as t
use Rattle.raml_syntax.specs.Tree.{Text, Bound}
use Rattle.explain_scopes.specs.Scopes.{Occurrence, Scope, bound_to, means, names_in, names_in_all, variable}
use Rattle.explain_scopes.specs.declared.occurrence.Kind.TheVariants as k
use Rattle.explain_scopes.specs.Named.{is_place}
use Rattle.explain_scopes.specs.Levels.{level_of, at_level, level_name, by_level, leveled, leveled_all}
use Rattle.explain_scopes.specs.Renamed.{all_rebound, respelled, renamed, renamed_all, respelled_name, Each, Spares, RenamingIsMeant}
use Rattle.explain_scopes.proofs.Meaning.{bytes_same, levels}

left_of : (P : Occurrence → Type 0) (os qs : List Occurrence) → Each P (os ++ qs) → Each P os
left_of P [] qs all = tt
left_of P (o ∷ os) qs all = (all.0, left_of P os qs all.1)

right_of : (P : Occurrence → Type 0) (os qs : List Occurrence) → Each P (os ++ qs) → Each P qs
right_of P [] qs all = all
right_of P (o ∷ os) qs all = right_of P os qs all.1

differs : (x z : Text) → (x ≡ z → ⊥) → bytes_eq x z ≡ false
differs x z other = by (bytes_eq x z) refl
  where
    by : (c : Bool) → bytes_eq x z ≡ c → c ≡ false
    by true is = absurd (other ((bytes_eq-Decides x z).0 is))
    by false is = refl

module _ (p : ℕ) (x y : Text) where
  abbrev Sparing : List Occurrence → Type 0
  Sparing os = Each (Spares p x y) os

  long : (s : Scope) → length (all_rebound p y s) ≡ length s
  long [] = refl
  long (b ∷ s) = ap (λ n. suc n) (long s)

  next_level : (s : Scope) → by_level (all_rebound p y s) ≡ by_level s
  next_level s = λ i. record { at = 0; name = long s i ∷ [] }

  -- what means the binding at the place has the old name
  named_so : (z : Text) (s : Scope) → Sparing (map variable s) → is_place p (bound_to z s) ≡ true → z ≡ x
  named_so z [] all is = absurd (cc)
  named_so z (b ∷ s) all is = by (λ here. named_so z s all.1 here) (bytes_eq z b.name) refl is
    where
      by : (is_place p (bound_to z s) ≡ true → z ≡ x) → (c : Bool) → bytes_eq z b.name ≡ c →
          is_place p (cond c (Some b.at) (bound_to z s)) ≡ true → z ≡ x
      by outer true same here = (bytes_eq-Decides z b.name).0 same ∙ (all.0 refl).0 (ap (λ q. Some q) (eqb-true b.at p here))
      by outer false same here = outer here

  -- a variable has its level
  same_level : (z : Text) (s : Scope) → Sparing (map variable s) → (z ≡ y → ⊥) → level_of (respelled p y s z) (all_rebound p y s) ≡ level_of z s
  same_level z [] all free = refl
  same_level z (b ∷ s) all free = by (same_level z s all.1 free) (bytes_eq z b.name) refl
    where
      met : (n : Bool) → bytes_eq z b.name ≡ true → bytes_eq (cond n y z) (cond n y b.name) ≡ true
      met true same = bytes_same y
      met false same = same

      passed : bytes_eq z b.name ≡ false → (n : Bool) → nat_eq b.at p ≡ n → (q : Bool) → is_place p (bound_to z s) ≡ q →
          bytes_eq (cond q y z) (cond n y b.name) ≡ false
      passed other true at true is =
          let one : z ≡ b.name = named_so z s all.1 is ∙ sym ((all.0 refl).0 (ap (λ k. Some k) (eqb-true b.at p at))) in
          let same : true ≡ false = sym ((bytes_eq-Decides z b.name).1 one) ∙ other in
          absurd (cc)
      passed other true at false is = differs z y free
      passed other false at true is = differs y b.name (λ one. (all.0 refl).1 (sym one))
      passed other false at false is = other

      by : level_of (respelled p y s z) (all_rebound p y s) ≡ level_of z s → (c : Bool) → bytes_eq z b.name ≡ c →
          level_of (cond (is_place p (cond c (Some b.at) (bound_to z s))) y z) (all_rebound p y (b ∷ s)) ≡ cond c (Some (length s)) (level_of z s)
      by outer true same =
          ap (λ c. cond c (Some (length (all_rebound p y s))) (level_of (cond (nat_eq b.at p) y z) (all_rebound p y s))) (met (nat_eq b.at p) same)
          ∙ ap (λ n. Some n) (long s)
      by outer false other =
          ap (λ c. cond c (Some (length (all_rebound p y s))) (level_of (respelled p y s z) (all_rebound p y s)))
          (passed other (nat_eq b.at p) refl (is_place p (bound_to z s)) refl)
          ∙ outer

  -- a level has its place
  same_place : (s : Scope) (o : Option ℕ) → at_level (all_rebound p y s) o ≡ at_level s o
  same_place [] None = refl
  same_place (b ∷ s) None = refl
  same_place [] (Some k) = refl
  same_place (b ∷ s) (Some k) =
      ap (λ n. cond (nat_eq k n) (Some b.at) (at_level (all_rebound p y s) (Some k))) (long s)
      ∙ ap (λ o. cond (nat_eq k (length s)) (Some b.at) o) (same_place s (Some k))

  same_binding : (z : Text) (s : Scope) → Sparing (map variable s) → (z ≡ y → ⊥) → bound_to (respelled p y s z) (all_rebound p y s) ≡ bound_to z s
  same_binding z s all free =
      levels (respelled p y s z) (all_rebound p y s)
      ∙ ap (λ o. at_level (all_rebound p y s) o) (same_level z s all free)
      ∙ same_place s (level_of z s) ∙ sym (levels z s)

  module _ (rename : Text → Text) (functions : List Bound) where
    abbrev of : Scope → t.Term → List Occurrence
    of s e = names_in functions s e

    front : (s : Scope) (e : t.Term) (rest : List Occurrence) → Sparing (of s e ++ rest) → Sparing (of s e)
    front s e rest all = left_of (Spares p x y) (of s e) rest all

    back : (s : Scope) (e : t.Term) (rest : List Occurrence) → Sparing (of s e ++ rest) → Sparing rest
    back s e rest all = right_of (Spares p x y) (of s e) rest all

    mutual
      same : (s : Scope) (e : t.Term) → Sparing (map variable s) → Sparing (of s e) →
          leveled rename (all_rebound p y s) (renamed p y s e) ≡ leveled rename s e
      same s (t.Number q n) sc all = refl
      same s (t.Truth q b) sc all = refl
      same s (t.Nil q) sc all = refl
      same s (t.Leaf q) sc all = refl
      same s (t.Nothing q) sc all = refl
      same s (t.Var q z) sc all = λ i. t.Var 0 (level_name (same_level z s sc (all.0 refl).1 i))
      same s (t.Arith q op a b) sc all = λ i. t.Arith 0 op (same s a sc (front s a (of s b) all) i) (same s b sc (back s a (of s b) all) i)
      same s (t.Compare q op a b) sc all = λ i. t.Compare 0 op (same s a sc (front s a (of s b) all) i) (same s b sc (back s a (of s b) all) i)
      same s (t.Not q a) sc all = λ i. t.Not 0 (same s a sc all i)
      same s (t.Pair q a b) sc all = λ i. t.Pair 0 (same s a sc (front s a (of s b) all) i) (same s b sc (back s a (of s b) all) i)
      same s (t.Cons q a b) sc all = λ i. t.Cons 0 (same s a sc (front s a (of s b) all) i) (same s b sc (back s a (of s b) all) i)
      same s (t.Node q a b c) sc all =
          let rest = back s a (of s b ++ of s c) all in
          λ i. t.Node 0 (same s a sc (front s a (of s b ++ of s c) all) i) (same s b sc (front s b (of s c) rest) i) (same s c sc (back s b (of s c) rest) i)
      same s (t.Just q a) sc all = λ i. t.Just 0 (same s a sc all i)
      same s (t.Call q f args) sc all = λ i. t.Call 0 (rename f) (same_all s args sc all.1 i)
      same s (t.Let q v a b) sc all =
          λ i. t.Let 0 (next_level s i) (same s a sc (front s a (of (v ∷ s) b) all.1) i) (same (v ∷ s) b (all.0, sc) (back s a (of (v ∷ s) b) all.1) i)
      same s (t.LetPair q v w a b) sc all =
          let below = w ∷ v ∷ s in
          let rest = all.1.1 in
          λ i. t.LetPair 0 (next_level s i) (next_level (v ∷ s) i) (same s a sc (front s a (of below b) rest) i)
          (same below b (all.1.0, (all.0, sc)) (back s a (of below b) rest) i)
      same s (t.If q c a b) sc all =
          let rest = back s c (of s a ++ of s b) all in
          λ i. t.If 0 (same s c sc (front s c (of s a ++ of s b) all) i) (same s a sc (front s a (of s b) rest) i) (same s b sc (back s a (of s b) rest) i)
      same s (t.MatchList q c a v w b) sc all =
          let below = w ∷ v ∷ s in
          let bound = variable v ∷ variable w ∷ of below b in
          let rest = back s c (of s a ++ bound) all in
          let last = back s a bound rest in
          λ i. t.MatchList 0 (same s c sc (front s c (of s a ++ bound) all) i) (same s a sc (front s a bound rest) i)
          (next_level s i) (next_level (v ∷ s) i) (same below b (last.1.0, (last.0, sc)) last.1.1 i)
      same s (t.MatchTree q c a u v w b) sc all =
          let below = w ∷ v ∷ u ∷ s in
          let bound = variable u ∷ variable v ∷ variable w ∷ of below b in
          let rest = back s c (of s a ++ bound) all in
          let last = back s a bound rest in
          λ i. t.MatchTree 0 (same s c sc (front s c (of s a ++ bound) all) i) (same s a sc (front s a bound rest) i)
          (next_level s i) (next_level (u ∷ s) i) (next_level (v ∷ u ∷ s) i)
          (same below b (last.1.1.0, (last.1.0, (last.0, sc))) last.1.1.1 i)
      same s (t.MatchOption q c a v b) sc all =
          let bound = variable v ∷ of (v ∷ s) b in
          let rest = back s c (of s a ++ bound) all in
          let last = back s a bound rest in
          λ i. t.MatchOption 0 (same s c sc (front s c (of s a ++ bound) all) i) (same s a sc (front s a bound rest) i)
          (next_level s i) (same (v ∷ s) b (last.0, sc) last.1 i)
      same s (t.Tick q n a) sc all = λ i. t.Tick 0 n (same s a sc all i)
      same s (t.Typed q a A) sc all = λ i. t.Typed 0 (same s a sc all i) A

      same_all : (s : Scope) (args : t.Terms) → Sparing (map variable s) → Sparing (names_in_all functions s args) →
          leveled_all rename (all_rebound p y s) (renamed_all p y s args) ≡ leveled_all rename s args
      same_all s t.None sc all = refl
      same_all s (t.More a rest) sc all =
          let behind = names_in_all functions s rest in
          λ i. t.More (same s a sc (front s a behind all) i) (same_all s rest sc (back s a behind all) i)

  module _ (functions : List Bound) where
    abbrev spelled : List Occurrence → List Occurrence
    spelled os = map (respelled_name p y) os

    joined : (os qs us vs : List Occurrence) → us ≡ spelled os → vs ≡ spelled qs → us ++ vs ≡ spelled (os ++ qs)
    joined os qs us vs one other = (λ i. one i ++ other i) ∙ sym (map-append (respelled_name p y) os qs)

    abbrev here : Scope → t.Term → List Occurrence
    here s e = names_in functions s e

    abbrev there : Scope → t.Term → List Occurrence
    there s e = names_in functions (all_rebound p y s) (renamed p y s e)

    three : (os qs rs us vs ws : List Occurrence) → us ≡ spelled os → vs ≡ spelled qs → ws ≡ spelled rs → us ++ (vs ++ ws) ≡ spelled (os ++ (qs ++ rs))
    three os qs rs us vs ws one other last = joined os (qs ++ rs) us (vs ++ ws) one (joined qs rs vs ws other last)

    -- the third with what binds before it
    matched : (os qs bound rs us vs ws : List Occurrence) → us ≡ spelled os → vs ≡ spelled qs → ws ≡ spelled rs →
        us ++ (vs ++ (spelled bound ++ ws)) ≡ spelled (os ++ (qs ++ (bound ++ rs)))
    matched os qs bound rs us vs ws one other last =
        three os qs (bound ++ rs) us vs (spelled bound ++ ws) one other (joined bound rs (spelled bound) ws refl last)

    abbrev fore : (os qs : List Occurrence) → Sparing (os ++ qs) → Sparing os
    fore os qs all = left_of (Spares p x y) os qs all

    abbrev aft : (os qs : List Occurrence) → Sparing (os ++ qs) → Sparing qs
    aft os qs all = right_of (Spares p x y) os qs all

    mutual
      kept : (s : Scope) (e : t.Term) → Sparing (map variable s) → Sparing (here s e) → there s e ≡ spelled (here s e)
      kept s (t.Number q n) sc all = refl
      kept s (t.Truth q b) sc all = refl
      kept s (t.Nil q) sc all = refl
      kept s (t.Leaf q) sc all = refl
      kept s (t.Nothing q) sc all = refl
      kept s (t.Var q z) sc all = λ i. record { at = q; name = respelled p y s z; kind = k.Variable; binding = same_binding z s sc (all.0 refl).1 i } ∷ []
      kept s (t.Arith q op a b) sc all =
          joined (here s a) (here s b) (there s a) (there s b) (kept s a sc (fore (here s a) (here s b) all)) (kept s b sc (aft (here s a) (here s b) all))
      kept s (t.Compare q op a b) sc all =
          joined (here s a) (here s b) (there s a) (there s b) (kept s a sc (fore (here s a) (here s b) all)) (kept s b sc (aft (here s a) (here s b) all))
      kept s (t.Not q a) sc all = kept s a sc all
      kept s (t.Pair q a b) sc all =
          joined (here s a) (here s b) (there s a) (there s b) (kept s a sc (fore (here s a) (here s b) all)) (kept s b sc (aft (here s a) (here s b) all))
      kept s (t.Cons q a b) sc all =
          joined (here s a) (here s b) (there s a) (there s b) (kept s a sc (fore (here s a) (here s b) all)) (kept s b sc (aft (here s a) (here s b) all))
      kept s (t.Node q a b c) sc all =
          let rest = aft (here s a) (here s b ++ here s c) all in
          three (here s a) (here s b) (here s c) (there s a) (there s b) (there s c) (kept s a sc (fore (here s a) (here s b ++ here s c) all))
          (kept s b sc (fore (here s b) (here s c) rest)) (kept s c sc (aft (here s b) (here s c) rest))
      kept s (t.Just q a) sc all = kept s a sc all
      kept s (t.Call q f args) sc all = ap (λ os. respelled_name p y (means k.Function functions q f) ∷ os) (kept_all s args sc all.1)
      kept s (t.Let q v a b) sc all =
          let below = here (v ∷ s) b in
          ap (λ os. respelled_name p y (variable v) ∷ os) (joined (here s a) below (there s a) (there (v ∷ s) b)
          (kept s a sc (fore (here s a) below all.1)) (kept (v ∷ s) b (all.0, sc) (aft (here s a) below all.1)))
      kept s (t.LetPair q v w a b) sc all =
          let below = here (w ∷ v ∷ s) b in
          ap (λ os. respelled_name p y (variable v) ∷ respelled_name p y (variable w) ∷ os)
          (joined (here s a) below (there s a) (there (w ∷ v ∷ s) b)
          (kept s a sc (fore (here s a) below all.1.1)) (kept (w ∷ v ∷ s) b (all.1.0, (all.0, sc)) (aft (here s a) below all.1.1)))
      kept s (t.If q c a b) sc all =
          let rest = aft (here s c) (here s a ++ here s b) all in
          three (here s c) (here s a) (here s b) (there s c) (there s a) (there s b) (kept s c sc (fore (here s c) (here s a ++ here s b) all))
          (kept s a sc (fore (here s a) (here s b) rest)) (kept s b sc (aft (here s a) (here s b) rest))
      kept s (t.MatchList q c a v w b) sc all =
          let bound = variable v ∷ variable w ∷ [] in
          let below = here (w ∷ v ∷ s) b in
          let rest = aft (here s c) (here s a ++ (bound ++ below)) all in
          let last = aft (here s a) (bound ++ below) rest in
          matched (here s c) (here s a) bound below (there s c) (there s a) (there (w ∷ v ∷ s) b)
          (kept s c sc (fore (here s c) (here s a ++ (bound ++ below)) all)) (kept s a sc (fore (here s a) (bound ++ below) rest))
          (kept (w ∷ v ∷ s) b (last.1.0, (last.0, sc)) last.1.1)
      kept s (t.MatchTree q c a u v w b) sc all =
          let bound = variable u ∷ variable v ∷ variable w ∷ [] in
          let below = here (w ∷ v ∷ u ∷ s) b in
          let rest = aft (here s c) (here s a ++ (bound ++ below)) all in
          let last = aft (here s a) (bound ++ below) rest in
          matched (here s c) (here s a) bound below (there s c) (there s a) (there (w ∷ v ∷ u ∷ s) b)
          (kept s c sc (fore (here s c) (here s a ++ (bound ++ below)) all)) (kept s a sc (fore (here s a) (bound ++ below) rest))
          (kept (w ∷ v ∷ u ∷ s) b (last.1.1.0, (last.1.0, (last.0, sc))) last.1.1.1)
      kept s (t.MatchOption q c a v b) sc all =
          let bound = variable v ∷ [] in
          let below = here (v ∷ s) b in
          let rest = aft (here s c) (here s a ++ (bound ++ below)) all in
          let last = aft (here s a) (bound ++ below) rest in
          matched (here s c) (here s a) bound below (there s c) (there s a) (there (v ∷ s) b)
          (kept s c sc (fore (here s c) (here s a ++ (bound ++ below)) all)) (kept s a sc (fore (here s a) (bound ++ below) rest))
          (kept (v ∷ s) b (last.0, sc) last.1)
      kept s (t.Tick q n a) sc all = kept s a sc all
      kept s (t.Typed q a A) sc all = kept s a sc all

      kept_all : (s : Scope) (args : t.Terms) → Sparing (map variable s) → Sparing (names_in_all functions s args) →
          names_in_all functions (all_rebound p y s) (renamed_all p y s args) ≡ spelled (names_in_all functions s args)
      kept_all s t.None sc all = refl
      kept_all s (t.More a rest) sc all =
          let behind = names_in_all functions s rest in
          joined (here s a) behind (there s a) (names_in_all functions (all_rebound p y s) (renamed_all p y s rest))
          (kept s a sc (fore (here s a) behind all)) (kept_all s rest sc (aft (here s a) behind all))

pub renaming_is_meant : RenamingIsMeant
renaming_is_meant = record {
  levels = λ rename functions p x y s e sc all. same p x y rename functions s e sc all;
  names = λ functions p x y s e sc all. kept p x y functions s e sc all;
}
