-- Names are distinct exactly where the walk finds none repeated.
use Rattle.std.proofs.Common.{◌≡◌, ◌∙◌, ℕ, List, [], ◌∷◌, ◌++◌, map, Bool, true, false, ◌||◌, cond, Option, Some, None, Ok, refl, sym, ap, subst}
use Rattle.std.proofs.lemmas.List.Elements.{All-from_recursion, All-contains, Contains-push, Contains-append_left, Contains-append_right}
use Rattle.std.specs.List.{Contains, AllByRecursion, list_any}
use Rattle.std.specs.Str.{bytes_eq}
use Rattle.std.specs.Cmp.Lexicographic.{bytes_decides}
use Rattle.raml_syntax.specs.Tree.{Text, Bound}
use Rattle.raml_syntax.specs.Types.{Differ}
use Rattle.simple_types.specs.Walk.{repeated, all_new, distinct}

abbrev names : List Bound → List Text
names xs = map (λ (b : Bound). b.name) xs

-- none of the names is among those seen
abbrev NoneSeen : List Text → List Text → Type 0
NoneSeen seen [] = Unit {0}
NoneSeen seen (x ∷ xs) = (list_any (bytes_eq x) seen ≡ false) × NoneSeen seen xs

abbrev Apart : Text → List Text → Type 0
Apart x = AllByRecursion (λ y. bytes_eq y x ≡ false)

apart_absent : (x : Text) (xs : List Text) → Apart x xs → Contains xs x → ⊥
apart_absent x xs h c =
    let no : bytes_eq x x ≡ false = All-contains (λ y. bytes_eq y x ≡ false) xs x (All-from_recursion _ xs h) c in
    let yes : bytes_eq x x ≡ true = (bytes_decides x x).1 refl in
    absurd (cc)

absent_apart : (x : Text) (xs : List Text) → (Contains xs x → ⊥) → Apart x xs
absent_apart x [] h = tt
absent_apart x (y ∷ ys) h = (by (bytes_eq y x) refl, absent_apart x ys (λ c. h (Contains-append_right (y ∷ []) ys x c)))
  where
    by : (b : Bool) → bytes_eq y x ≡ b → bytes_eq y x ≡ false
    by false e = e
    by true e = absurd (h (subst (λ z. Contains (z ∷ ys) x) (sym ((bytes_decides y x).0 e)) (Contains-append_left (x ∷ []) ys x (Contains-push [] x))))

or_false : (b : Bool) → (b || false) ≡ b
or_false true = refl
or_false false = refl

among_push : (y x : Text) (seen : List Text) → list_any (bytes_eq y) (seen ++ x ∷ []) ≡ (list_any (bytes_eq y) seen || bytes_eq y x)
among_push y x [] = or_false (bytes_eq y x)
among_push y x (z ∷ zs) = by (bytes_eq y z) (among_push y x zs)
  where
    by : (b : Bool) → list_any (bytes_eq y) (zs ++ x ∷ []) ≡ (list_any (bytes_eq y) zs || bytes_eq y x) → (b || list_any (bytes_eq y) (zs ++ x ∷ [])) ≡ ((b || list_any (bytes_eq y) zs) || bytes_eq y x)
    by true rest = refl
    by false rest = rest

seen_split : (x : Text) (seen xs : List Text) → NoneSeen (seen ++ x ∷ []) xs → NoneSeen seen xs × Apart x xs
seen_split x seen [] h = (tt, tt)
seen_split x seen (y ∷ ys) h =
    let rest = seen_split x seen ys h.1 in
    let both = by (list_any (bytes_eq y) seen) refl (sym (among_push y x seen) ∙ h.0) in
    ((both.0, rest.0), (both.1, rest.1))
  where
    by : (b : Bool) → list_any (bytes_eq y) seen ≡ b → (list_any (bytes_eq y) seen || bytes_eq y x) ≡ false → (list_any (bytes_eq y) seen ≡ false) × (bytes_eq y x ≡ false)
    by true e h = absurd (cc)
    by false e h = (e, sym (ap (λ b. b || bytes_eq y x) e) ∙ h)

seen_joined : (x : Text) (seen xs : List Text) → NoneSeen seen xs → Apart x xs → NoneSeen (seen ++ x ∷ []) xs
seen_joined x seen [] h k = tt
seen_joined x seen (y ∷ ys) h k = (among_push y x seen ∙ ap (λ b. b || bytes_eq y x) h.0 ∙ k.0, seen_joined x seen ys h.1 k.1)

repeated_none : (seen : List Text) (xs : List Bound) → repeated seen xs ≡ None → Differ (names xs) × NoneSeen seen (names xs)
repeated_none seen [] e = (tt, tt)
repeated_none seen (x ∷ xs) e = by (list_any (bytes_eq x.name) seen) refl (λ h. repeated_none (seen ++ x.name ∷ []) xs h) e
  where
    by : (b : Bool) → list_any (bytes_eq x.name) seen ≡ b → (repeated (seen ++ x.name ∷ []) xs ≡ None → Differ (names xs) × NoneSeen (seen ++ x.name ∷ []) (names xs)) → cond b (Some x.at) (repeated (seen ++ x.name ∷ []) xs) ≡ None → Differ (names (x ∷ xs)) × NoneSeen seen (names (x ∷ xs))
    by true p rest e = absurd (cc)
    by false p rest e =
        let r = rest e in
        let s = seen_split x.name seen (names xs) r.1 in
        ((apart_absent x.name (names xs) s.1, r.0), (p, s.0))

differ_repeated : (seen : List Text) (xs : List Bound) → Differ (names xs) → NoneSeen seen (names xs) → repeated seen xs ≡ None
differ_repeated seen [] h k = refl
differ_repeated seen (x ∷ xs) h k =
    ap (λ b. cond b (Some x.at) (repeated (seen ++ x.name ∷ []) xs)) k.0 ∙ differ_repeated (seen ++ x.name ∷ []) xs h.1 (seen_joined x.name seen (names xs) k.1 (absent_apart x.name (names xs) h.0))

none_seen : (xs : List Text) → NoneSeen [] xs
none_seen [] = tt
none_seen (x ∷ xs) = (refl, none_seen xs)

pub distinct_differ : (xs : List Bound) → distinct xs ≡ Ok tt → Differ (map (λ (b : Bound). b.name) xs)
distinct_differ xs e = (repeated_none [] xs (by (repeated [] xs) refl e)).0
  where
    by : (o : Option ℕ) → repeated [] xs ≡ o → all_new o ≡ Ok tt → repeated [] xs ≡ None
    by None p e = p
    by (Some at) p e = absurd (cc)

pub differ_distinct : (xs : List Bound) → Differ (map (λ (b : Bound). b.name) xs) → distinct xs ≡ Ok tt
differ_distinct xs h = ap all_new (differ_repeated [] xs h (none_seen (names xs)))
