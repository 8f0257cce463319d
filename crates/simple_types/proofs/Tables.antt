-- The types of a table, and its nodes.
use Rattle.std.proofs.Common.{◌≡◌, ◌∙◌, ℕ, zero, suc, ◌+◌, ◌<◌, ◌≤◌, List, [], ◌∷◌, ◌++◌, length, take, drop, get_or, Bool, true, false, cond, nat_lt, min, refl, sym, ap, arith, length-append}
use Rattle.std.specs.Prelude.{fold}
use Rattle.std.specs.List.{list_any, position_or_len}
use Rattle.std.proofs.lemmas.List.{get_or_append_left, get_or_past, take-append-drop, length-take}
use Rattle.std.proofs.lemmas.Bool.{ltb-true, ltb-false}
use Rattle.std.proofs.lemmas.List.Sums.{fold-append}
use Rattle.std.proofs.Math.Seq.{get_or-append_seam}
use Rattle.indexmap.specs.IndexSet.{insert_key}
use Rattle.raml_syntax.specs.Tree.{Type', Integer}
use Rattle.simple_types.specs.Table.{Table, same_node, node_at, placed, among, made_from, types_in, types_before, type_of}
use Rattle.simple_types.specs.declared.types.TypeId.{TypeId}
use Rattle.simple_types.specs.declared.types.Node.{Node}
use Rattle.simple_types.specs.declared.types.Node.TheVariants.{Int}

-- the types of a table behind others
abbrev pub behind : List Type' → Table → List Type'
behind As t = fold (λ (Bs : List Type') (n : Node). Bs ++ made_from Bs n ∷ []) As t

pub length_behind : (As : List Type') (t : Table) → length (behind As t) ≡ length As + length t
length_behind As [] = omega arith
length_behind As (n ∷ t) = omega (arith, length_behind (As ++ made_from As n ∷ []) t, length-append As (made_from As n ∷ []))

-- those before stay
pub stays_behind : (As : List Type') (t : Table) (k : ℕ) → k < length As → get_or (behind As t) k Integer ≡ get_or As k Integer
stays_behind As [] k h = refl
stays_behind As (n ∷ t) k h =
    stays_behind (As ++ made_from As n ∷ []) t k (omega (arith, h, length-append As (made_from As n ∷ [])))
    ∙ get_or_append_left As (made_from As n ∷ []) Integer k h

made_behind : (As : List Type') (t : Table) (j k : ℕ) → k ≡ length As + j → get_or (behind As t) k Integer ≡ made_from (behind As (take j t)) (get_or t j Int)
made_behind As [] zero k e = get_or_past As k Integer (omega (arith, e))
made_behind As [] (suc j) k e = get_or_past As k Integer (omega (arith, e))
made_behind As (n ∷ t) zero k e =
    ap (λ i. get_or (behind (As ++ made_from As n ∷ []) t) i Integer) here
    ∙ stays_behind (As ++ made_from As n ∷ []) t (length As) (omega (arith, length-append As (made_from As n ∷ [])))
    ∙ get_or-append_seam As (made_from As n) [] Integer
  where
    here : k ≡ length As
    here = omega (arith, e)
made_behind As (n ∷ t) (suc j) k e =
    made_behind (As ++ made_from As n ∷ []) t j k (omega (arith, e, length-append As (made_from As n ∷ [])))

-- a type is made from those before it
pub made_here : (t : Table) (i : TypeId) → type_of t i ≡ made_from (types_before t i) (node_at t i)
made_here t i = made_behind [] t i.0 i.0 (omega arith)

front_is : (t : Table) (i : TypeId) → behind (types_before t i) (drop i.0 t) ≡ types_in t
front_is t i =
    sym (fold-append (λ (Bs : List Type') (n : Node). Bs ++ made_from Bs n ∷ []) [] (take i.0 t) (drop i.0 t)) ∙ ap types_in (take-append-drop i.0 t)

-- a part that stands before its whole is the same among the types before it
pub among_before : (t : Table) (whole part : TypeId) → part.0 < whole.0 → among (types_before t whole) part ≡ type_of t part
among_before t whole part h = by (nat_lt part.0 (length t)) refl
  where
    size : length (types_before t whole) ≡ min whole.0 (length t)
    size = omega (arith, length_behind [] (take whole.0 t), length-take whole.0 t)

    all : length (types_in t) ≡ length t
    all = omega (arith, length_behind [] t)

    by : (b : Bool) → nat_lt part.0 (length t) ≡ b → among (types_before t whole) part ≡ type_of t part
    by true e =
        let inside : part.0 < length t = ltb-true part.0 (length t) e in
        sym (stays_behind (types_before t whole) (drop whole.0 t) part.0 (omega (arith, h, inside, size))) ∙ ap (λ (As : List Type'). get_or As part.0 Integer) (front_is t whole)
    by false e =
        let past : length t ≤ part.0 = ltb-false part.0 (length t) e in
        get_or_past (types_before t whole) part.0 Integer (omega (arith, past, size)) ∙ sym (get_or_past (types_in t) part.0 Integer (omega (arith, past, all)))

-- a part that stands nowhere before its whole
pub among_past : (t : Table) (whole part : TypeId) → whole.0 ≤ part.0 → among (types_before t whole) part ≡ Integer
among_past t whole part h =
    get_or_past (types_before t whole) part.0 Integer (omega (arith, h, length_behind [] (take whole.0 t), length-take whole.0 t))

-- what a set does with a node that is put in
pub placed_is : (eq : Node → Node → Bool) → ((a b : Node) → eq a b ≡ same_node a b) → (t u : Table) (n : Node) (i j : ℕ) → u ≡ insert_key eq t n → i ≡ position_or_len (eq n) t → j ≡ i → (u, record { 0 = j }) ≡ placed t n
placed_is eq same t u n i j keys place number =
    let e : eq ≡ same_node = λ k a b. same a b k in
    let p : u ≡ cond (list_any (same_node n) t) t (t ++ n ∷ []) = keys ∙ ap (λ (f : Node → Node → Bool). insert_key f t n) e in
    let q : j ≡ position_or_len (same_node n) t = number ∙ place ∙ ap (λ (f : Node → Node → Bool). position_or_len (f n) t) e in
    λ k. (p k, record { 0 = q k })
