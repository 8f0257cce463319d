-- Operands that stand as their context does.
use Rattle.std.proofs.Common.{◌≡◌, ℕ, suc, true, cond, nat_eq, List, [], ◌∷◌, ◌++◌, length, refl, sym, ap, ◌∙◌, arith}
use Rattle.std.proofs.lemmas.Bool.Decides.{nat_tests}
use Rattle.raml_syntax.specs.Tree.{Type'}
use Rattle.base_poly.specs.Plain.{Plain}
use Rattle.base_poly.specs.Indices.{index_list}
use Rattle.index_shift.specs.declared.entry.Entry.{Entry}
use Rattle.index_shift.specs.Contexts.{permutation, permutes}
use Rattle.index_shift.proofs.Carried.{as_long}
use Rattle.normal_spec.specs.Free.{put}
use Rattle.normal_spec.specs.Context.{Context, types, place}
use Rattle.annot_types.specs.Carried.{to, operand_places}
use Rattle.rules_spec.specs.Planned.{entries_of, operand_entries}
use Rattle.tuple_ranks.proofs.Picked.{listed, all_same}
use Rattle.rules_plan.specs.Context.{AreInOrder}
use Rattle.rules_plan.specs.Entries.{spot, placed_at}
use Rattle.rules_plan.proofs.Entered.{to_placed}

equal : (m n : ℕ) → m ≡ n → nat_eq n m ≡ true
equal m n h = grind (arith, nat_tests, h)

-- a tuple stays as it is
same_order : (C : Context) (xs : List ℕ) (As : List Type') (t : List Plain) → AreInOrder C xs As → length t ≡ length As → permutation (operand_places C xs) t ≡ t
same_order [] [] [] [] h e = refl
same_order [] [] [] (i ∷ t) h e = absurd (omega (arith, e))
same_order (b ∷ C) (x ∷ xs) (A ∷ As) [] h e = absurd (omega (arith, e))
same_order (b ∷ C) (x ∷ xs) (A ∷ As) (i ∷ t) h e =
    let first = equal b.0 x h.0 in
    (λ k. permutation (cond (first k) 0 (suc (place x C)) ∷ operand_places (cond (first k) ([] ++ C) (b ∷ put x [] C)) xs) (i ∷ t))
    ∙ ap (λ l. i ∷ l) (same_order C xs As t h.2 (omega (arith, e)))
same_order _ _ _ _ h e = absurd h

types_are : (C : Context) (xs : List ℕ) (As : List Type') → AreInOrder C xs As → As ≡ types C
types_are [] [] [] h = refl
types_are (b ∷ C) (x ∷ xs) (A ∷ As) h = λ i. sym h.1 i ∷ types_are C xs As h.2 i
types_are _ _ _ h = absurd h

pub ordered_entered : (C : Context) (xs : List ℕ) (As : List Type') (d : ℕ) (found : List Entry) → AreInOrder C xs As → found ≡ entries_of (to (λ t. t)) As d As d → found ≡ operand_entries C xs As d d
ordered_entered C xs As d found h made =
    let ts = index_list As d in
    let order = operand_places C xs in
    made ∙ to_placed (λ t. t) 0 ts ts
    ∙ ap (placed_at (length ts) 0) (all_same (λ t. spot ts t) (λ t. spot ts (permutation order t)) ts (λ t m. ap (spot ts) (sym (same_order C xs As t h (as_long t As (listed As d t m).0)))))
    ∙ sym (to_placed (permutation order) 0 ts ts)
    ∙ ap (λ Ts. entries_of (permutes order) As d Ts d) (types_are C xs As h)
