-- Changes of a variable that is not there, and the map of one that is taken apart.
use Rattle.std.proofs.Common.{◌≡◌, ◌≤◌, ◌<◌, ℕ, zero, suc, ◌+◌, ◌-◌, List, [], ◌∷◌, ◌++◌, map, length, take, drop, get_or, inl, inr, refl, ap, ◌∙◌, arith}
use Rattle.std.proofs.lemmas.List.{length-map}
use Rattle.raml_syntax.specs.declared.ty.Ty.{Ty}
use Rattle.raml_syntax.specs.Tree.{Type'}
use Rattle.raml_syntax.specs.Read.{ty_of}
use Rattle.base_poly.specs.Plain.{Plain, degrees}
use Rattle.base_poly.specs.Indices.{index_list, tuples_up_to}
use Rattle.base_poly.specs.Read.{context_of}
use Rattle.base_poly.proofs.Among.{Among, among_contains}
use Rattle.base_poly.proofs.Exact.{exact}
use Rattle.index_shift.specs.Parts.{type_parts}
use Rattle.index_shift.specs.Maps.{Carry, behind, opens, leaves, joins, none, twice, in_place, variable_type, placed, entries_from, entries, opening}
use Rattle.index_shift.specs.Local.{Alone, IsLocal, IsMapBetween}
use Rattle.index_shift.specs.declared.entry.Entry.{Entry}
use Rattle.index_shift.proofs.Carried.{as_long}
use Rattle.index_shift.proofs.Listed.{placed_map, opened}
use Rattle.rules_plan.specs.declared.change.Change.{Change}
use Rattle.rules_plan.specs.declared.change.Change.TheVariants.{Opening, Leaving, Sharing}
use Rattle.rules_plan.specs.Change.{changed}

nothing_behind : (c : Carry) → c [] ≡ [] → (at : ℕ) (t : List Plain) → length t ≤ at → behind at c t ≡ []
nothing_behind c none zero [] h = none
nothing_behind c none zero (i ∷ t) h = absurd (omega (arith, h))
nothing_behind c none (suc k) [] h = refl
nothing_behind c none (suc k) (i ∷ t) h = ap (map (λ e. (i ∷ e.0, e.1))) (nothing_behind c none k t (omega (arith, h)))

nothing_from : (c : Carry) (k : ℕ) (ts us : List (List Plain)) → ((t : List Plain) → Among t ts → c t ≡ []) → entries_from k c ts us ≡ []
nothing_from c k [] us h = refl
nothing_from c k (t ∷ ts) us h = λ i. placed us k (h t (inl refl) i) ++ nothing_from c (suc k) ts us (λ u m. h u (inr m)) i

no_place : {X : Type 0} (at : ℕ) (f : X → List X) (xs : List X) → length xs ≤ at → in_place at f xs ≡ xs
no_place at f [] h = refl
no_place zero f (x ∷ xs) h = absurd (omega (arith, h))
no_place (suc k) f (x ∷ xs) h = ap (λ l. x ∷ l) (no_place k f xs (omega (arith, h)))

no_entries : (c : Carry) → c [] ≡ [] → (As Bs : List Type') (at d : ℕ) → length As ≤ at → entries (behind at c) As Bs d ≡ []
no_entries c none As Bs at d h =
    nothing_from (behind at c) 0 (index_list As d) (index_list Bs d) (λ t m.
    let long = as_long t As (((exact As d).exactly t).0 (among_contains t (index_list As d) m)).0 in
    nothing_behind c none at t (omega (arith, h, long)))

pub unchanged : (change : Change) (As : List Ty) (at d : ℕ) → length As ≤ at → changed change (context_of As) at d ≡ []
unchanged Opening As at d h = let n = length-map As ty_of in no_entries (opens (variable_type (context_of As) at)) refl (context_of As) (in_place at type_parts (context_of As)) at d (omega (arith, h, n))
unchanged Leaving As at d h = let n = length-map As ty_of in no_entries leaves refl (context_of As) (in_place at none (context_of As)) at d (omega (arith, h, n))
unchanged Sharing As at d h =
    let n = length-map As ty_of in
    let few : length (context_of As) ≤ at = omega (arith, h, n) in
    ap (λ Bs. entries (behind at joins) Bs (context_of As) d) (no_place at twice (context_of As) few) ∙ no_entries joins refl (context_of As) (context_of As) at d few

-- the degrees on both sides and the map of the variable alone
pub opening_is : (As : List Ty) (at d : ℕ) (A : Ty) (there : at < length As) → A ≡ get_or As at A → (xs bs : List ℕ) (l : Alone) →
    xs ≡ map degrees (tuples_up_to (context_of (take at As)) d) → bs ≡ map degrees (tuples_up_to (context_of (take (length As - (at + 1)) (drop (at + 1) As))) d) →
    IsLocal (opens (ty_of A)) (ty_of A ∷ []) (type_parts (ty_of A)) d l → (es : List Entry) → IsMapBetween xs l bs es → es ≡ opening (context_of As) at d
opening_is As at d A there is xs bs l front back local es between =
    placed_map (opens (ty_of A)) (ty_of A ∷ []) (type_parts (ty_of A)) As at d there xs bs l front back local es between ∙ opened As at d A there is
