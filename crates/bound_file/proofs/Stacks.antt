-- What stacks of goals come to.
use Rattle.std.proofs.Common.{◌≡◌, ◌<◌, ◌≤◌, ◌+◌, ℕ, suc, Bool, true, false, cond, List, [], ◌∷◌, ◌++◌, length, drop, drop-cons, get_or, Option, Some, None, refl, sym, ap, subst, ◌∙◌, arith, append_assoc, append-nil}
use Rattle.std.proofs.lemmas.List.{drop_all}
use Rattle.std.specs.Prelude.{nat_eq, option_map}
use Rattle.bound_file.specs.Tuples.{Goal, Index, Entries, More, Byte, begin_index, met, seen_by, after, reads, is_done, next_first, Meets}

pub next_first_both : (xs ys : List Goal) → next_first (xs ++ ys) ≡ next_first ys ++ next_first xs
next_first_both [] ys = sym (append-nil (next_first ys))
next_first_both (x ∷ xs) ys = ap (λ gs. gs ++ x ∷ []) (next_first_both xs ys) ∙ append_assoc (next_first ys) (next_first xs) (x ∷ [])

pub begins_pair : (byte : ℕ) (old new : List Goal) → byte ≡ 40 → new ≡ old ++ (Byte 41 ∷ Index ∷ Byte 32 ∷ Byte 44 ∷ Index ∷ []) → Meets true (begin_index byte) old new
begins_pair byte old new is e = subst (λ b. Meets true (begin_index b) old new) (sym is) (ap next_first e ∙ next_first_both old (Byte 41 ∷ Index ∷ Byte 32 ∷ Byte 44 ∷ Index ∷ []))

pub begins_list : (byte : ℕ) (old new : List Goal) → byte ≡ 91 → new ≡ old ++ Entries ∷ [] → Meets true (begin_index byte) old new
begins_list byte old new is e = subst (λ b. Meets true (begin_index b) old new) (sym is) (ap next_first e ∙ next_first_both old (Entries ∷ []))

pub goes_on : (byte close : ℕ) (old new : List Goal) → (byte ≡ close → ⊥) → byte ≡ 44 → new ≡ old ++ (More close ∷ Index ∷ Byte 32 ∷ []) → Meets true (met (More close) byte) old new
goes_on byte close old new apart is e = at (nat_eq byte close) (nat_eq byte 44) (λ q. apart (same byte close q)) (comma byte is)
  where
    same : (a b : ℕ) → nat_eq a b ≡ true → a ≡ b
    same a b q = grind (arith, q)

    comma : (a : ℕ) → a ≡ 44 → nat_eq a 44 ≡ true
    comma a q = grind (arith, q)

    at : (u v : Bool) → (u ≡ true → ⊥) → v ≡ true → Meets true (cond u (Some []) (cond v (Some (Byte 32 ∷ Index ∷ More close ∷ [])) None)) old new
    at true v f q = absurd (f refl)
    at false true f q = ap next_first e ∙ next_first_both old (More close ∷ Index ∷ Byte 32 ∷ [])
    at false false f q = absurd (cc)

-- an entry is begun above what goes on behind it
pub entry_met : (byte : ℕ) (can : Bool) (old between new : List Goal) → (byte ≡ 93 → ⊥) → between ≡ old ++ More 93 ∷ [] → Meets can (begin_index byte) between new → Meets can (met Entries byte) old new
entry_met byte can old between new apart e h = at (nat_eq byte 93) (λ q. apart (same byte 93 q))
  where
    same : (a b : ℕ) → nat_eq a b ≡ true → a ≡ b
    same a b q = grind (arith, q)

    above : (can : Bool) (o : Option (List Goal)) → Meets can o between new → Meets can (option_map (λ (gs : List Goal). gs ++ More 93 ∷ []) o) old new
    above true (Some gs) h = h ∙ ap (λ ws. gs ++ ws) (ap next_first e ∙ next_first_both old (More 93 ∷ [])) ∙ sym (append_assoc gs (More 93 ∷ []) (next_first old))
    above false None h = tt
    above true None h = h
    above false (Some gs) h = h

    at : (u : Bool) → (u ≡ true → ⊥) → Meets can (cond u (Some []) (option_map (λ (gs : List Goal). gs ++ More 93 ∷ []) (begin_index byte))) old new
    at true f = absurd (f refl)
    at false f = above can (begin_index byte) h

-- A step of the loop over the bytes of a tuple
pub stuck : (seen : Bool) (goals : List Goal) (text : List ℕ) (i : ℕ) → length goals ≡ 0 → i < length text → reads seen (next_first goals) (drop i text) ≡ false
stuck seen [] text i none low = ap (reads seen []) (drop-cons text i 0 low)
stuck seen (g ∷ goals) text i none low = absurd (omega (arith, none))

next_step : (seen : Bool) (goal : Goal) (old left : List Goal) (text : List ℕ) (i d : ℕ) → old ≡ left ++ goal ∷ [] → i < length text →
    reads seen (next_first old) (drop i text) ≡ after (met goal (get_or text i d)) (λ more. reads (seen_by goal (get_or text i d) seen) (more ++ next_first left) (drop (suc i) text))
next_step seen goal old left text i d are low = λ n. reads seen ((ap next_first are ∙ next_first_both left (goal ∷ [])) n) (drop-cons text i d low n)

pub met_none : (seen : Bool) (goal : Goal) (old left new : List Goal) (text : List ℕ) (i d : ℕ) (can : Bool) → old ≡ left ++ goal ∷ [] → i < length text → can ≡ false → Meets can (met goal (get_or text i d)) left new →
    reads seen (next_first old) (drop i text) ≡ false
met_none seen goal old left new text i d can are low none h = next_step seen goal old left text i d are low ∙ at can (met goal (get_or text i d)) none h
  where
    at : (can : Bool) (o : Option (List Goal)) → can ≡ false → Meets can o left new → after o (λ more. reads (seen_by goal (get_or text i d) seen) (more ++ next_first left) (drop (suc i) text)) ≡ false
    at false None e h = refl
    at false (Some more) e h = absurd h
    at true o e h = absurd (let p : true ≡ false = e in cc)

pub met_some : (seen : Bool) (goal : Goal) (old left new : List Goal) (text : List ℕ) (i d : ℕ) (can : Bool) → old ≡ left ++ goal ∷ [] → i < length text → can ≡ true → Meets can (met goal (get_or text i d)) left new →
    reads seen (next_first old) (drop i text) ≡ reads (seen_by goal (get_or text i d) seen) (next_first new) (drop (i + 1) text)
met_some seen goal old left new text i d can are low some h =
    next_step seen goal old left text i d are low ∙ at can (met goal (get_or text i d)) some h
    ∙ ap (λ n. reads (seen_by goal (get_or text i d) seen) (next_first new) (drop n text)) (let e : suc i ≡ i + 1 = omega arith in e)
  where
    at : (can : Bool) (o : Option (List Goal)) → can ≡ true → Meets can o left new →
        after o (λ more. reads (seen_by goal (get_or text i d) seen) (more ++ next_first left) (drop (suc i) text)) ≡ reads (seen_by goal (get_or text i d) seen) (next_first new) (drop (suc i) text)
    at true (Some more) e h = ap (λ gs. reads (seen_by goal (get_or text i d) seen) gs (drop (suc i) text)) (sym h)
    at true None e h = absurd h
    at false o e h = absurd (let p : false ≡ true = e in cc)

-- at the end of the text
pub done : (seen : Bool) (goals : List Goal) (text : List ℕ) (i : ℕ) → length text ≤ i → is_done seen goals ≡ reads seen (next_first goals) (drop i text)
done seen goals text i end = at goals ∙ ap (reads seen (next_first goals)) (sym (drop_all i text end))
  where
    last : (gs : List Goal) (g : Goal) → reads seen (gs ++ g ∷ []) [] ≡ false
    last [] g = refl
    last (x ∷ gs) g = refl

    at : (goals : List Goal) → is_done seen goals ≡ reads seen (next_first goals) []
    at [] = refl
    at (g ∷ goals) = sym (last (next_first goals) g)
