-- A name's place is that of the function that it finds.
use Rattle.std.proofs.Common.{◌≡◌, ◌∙◌, ℕ, zero, suc, List, [], ◌∷◌, map, Bool, true, false, cond, Option, Some, None, refl, sym, ap, subst}
use Rattle.std.proofs.lemmas.List.Elements.{Contains-get_or}
use Rattle.std.proofs.lemmas.Option.{slice_get-map, slice_get_within, get_or_from_slice_get}
use Rattle.std.specs.Prelude.{slice_get}
use Rattle.std.specs.List.{Contains}
use Rattle.std.specs.Option.{option_map}
use Rattle.std.specs.Str.{bytes_eq}
use Rattle.std.specs.Cmp.Lexicographic.{bytes_decides}
use Rattle.raml_syntax.specs.Tree.{Text, Function, Prog}
use Rattle.raml_syntax.specs.Eval.{find}
use Rattle.raml_syntax.specs.Place.{place_of}
use Rattle.raml_syntax.specs.Types.{Differ}
use Rattle.raml_syntax.specs.Laws.{FunctionsHavePlaces}

abbrev names : Prog → List Text
names P = map (λ (g : Function). g.name) P

-- at this place of the program stands the function that is found for the name
abbrev IsAt : Text → Prog → ℕ → Type 0
IsAt f P k = (g : Function) × (slice_get P k ≡ Some g) × (g.name ≡ f) × (find f P ≡ Some g)

placed : (f : Text) (P : Prog) (k : ℕ) → place_of f P ≡ Some k → IsAt f P k
placed f [] k e = absurd (cc)
placed f (d ∷ P) k e = by (bytes_eq f d.name) refl (place_of f P) (placed f P) e
  where
    by : (c : Bool) → bytes_eq f d.name ≡ c → (o : Option ℕ) → ((j : ℕ) → o ≡ Some j → IsAt f P j) → cond c (Some zero) (option_map suc o) ≡ Some k → IsAt f (d ∷ P) k
    by true q o later e =
        let here : zero ≡ k = cc in
        subst (IsAt f (d ∷ P)) here (d, refl, sym ((bytes_decides f d.name).0 q), ap (λ c. cond c (Some d) (find f P)) q)
    by false q None later e = absurd (cc)
    by false q (Some j) later e =
        let there : suc j ≡ k = cc in
        let h = later j refl in
        subst (IsAt f (d ∷ P)) there (h.0, h.1, h.2, ap (λ c. cond c (Some d) (find f P)) q ∙ h.3)

absent : (f : Text) (P : Prog) → place_of f P ≡ None → find f P ≡ None
absent f [] e = refl
absent f (d ∷ P) e = by (bytes_eq f d.name) (place_of f P) (absent f P) e
  where
    by : (c : Bool) (o : Option ℕ) → (o ≡ None → find f P ≡ None) → cond c (Some zero) (option_map suc o) ≡ None → cond c (Some d) (find f P) ≡ None
    by true o later e = absurd (cc)
    by false None later e = later refl
    by false (Some j) later e = absurd (cc)

named_in : (P : Prog) (k : ℕ) (g : Function) → slice_get P k ≡ Some g → Contains (names P) g.name
named_in P k g e =
    let there : slice_get (names P) k ≡ Some g.name = slice_get-map (λ (g : Function). g.name) P k ∙ ap (option_map (λ (g : Function). g.name)) e in
    subst (Contains (names P)) (get_or_from_slice_get (names P) k g.name [] there) (Contains-get_or (names P) k [] (slice_get_within (names P) k g.name there))

own : (P : Prog) → Differ (names P) → (k : ℕ) (g : Function) → slice_get P k ≡ Some g → place_of g.name P ≡ Some k
own [] differ k g e = absurd (cc)
own (d ∷ P) differ zero g e =
    let same : d ≡ g = cc in
    subst (λ (f : Function). place_of f.name (d ∷ P) ≡ Some zero) same (ap (λ c. cond c (Some zero) (option_map suc (place_of d.name P))) ((bytes_decides d.name d.name).1 refl))
own (d ∷ P) differ (suc k) g e = by (bytes_eq g.name d.name) refl (own P differ.1 k g e)
  where
    by : (c : Bool) → bytes_eq g.name d.name ≡ c → place_of g.name P ≡ Some k → cond c (Some zero) (option_map suc (place_of g.name P)) ≡ Some (suc k)
    by true q rest = absurd (differ.0 (subst (Contains (names P)) ((bytes_decides g.name d.name).0 q) (named_in P k g e)))
    by false q rest = ap (option_map suc) rest

pub functions_have_places : FunctionsHavePlaces
functions_have_places P = record { placed = λ f. placed f P; absent = λ f. absent f P; own = own P }
