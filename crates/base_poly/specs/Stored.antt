-- Indices can be told apart: each is stored as the list of its parts, every part behind those that it is made of.
use Rattle.std.specs.Prelude.{◌≡◌, ℕ, zero, suc, List, [], ◌∷◌, ◌++◌, refl}
use Rattle.std.specs.Coded.{Coded, code_by, coded_list, coded_ℕ}
use Rattle.std.proofs.Common.{ap, ◌∙◌, sym, append_assoc, append-nil}
use Rattle.base_poly.specs.Plain.{Plain, Unit', Pair, End, Then, NoEntry, OneEntry}

abbrev stored : Plain → List ℕ
stored Unit' = 0 ∷ []
stored End = 1 ∷ []
stored (Pair a b) = stored a ++ (stored b ++ 2 ∷ [])
stored (Then x r) = stored x ++ (stored r ++ 3 ∷ [])
stored NoEntry = 4 ∷ []
stored (OneEntry x) = stored x ++ 5 ∷ []

-- the parts read so far are kept, the newest first
abbrev read : List ℕ → List Plain → List Plain
read [] parts = parts
read (zero ∷ ns) parts = read ns (Unit' ∷ parts)
read (suc zero ∷ ns) parts = read ns (End ∷ parts)
read (suc (suc zero) ∷ ns) (b ∷ a ∷ parts) = read ns (Pair a b ∷ parts)
read (suc (suc (suc zero)) ∷ ns) (r ∷ x ∷ parts) = read ns (Then x r ∷ parts)
read (suc (suc (suc (suc zero))) ∷ ns) parts = read ns (NoEntry ∷ parts)
read (suc (suc (suc (suc (suc n)))) ∷ ns) (x ∷ parts) = read ns (OneEntry x ∷ parts)
read (n ∷ ns) parts = read ns parts

abbrev newest : List Plain → Plain
newest [] = Unit'
newest (x ∷ parts) = x

pub read_stored : (x : Plain) (ns : List ℕ) (parts : List Plain) → read (stored x ++ ns) parts ≡ read ns (x ∷ parts)
read_stored Unit' ns parts = refl
read_stored End ns parts = refl
read_stored (Pair a b) ns parts =
    ap (λ l. read l parts) (append_assoc (stored a) (stored b ++ 2 ∷ []) ns)
    ∙ read_stored a ((stored b ++ 2 ∷ []) ++ ns) parts
    ∙ ap (λ l. read l (a ∷ parts)) (append_assoc (stored b) (2 ∷ []) ns)
    ∙ read_stored b (2 ∷ ns) (a ∷ parts)
read_stored (Then x r) ns parts =
    ap (λ l. read l parts) (append_assoc (stored x) (stored r ++ 3 ∷ []) ns)
    ∙ read_stored x ((stored r ++ 3 ∷ []) ++ ns) parts
    ∙ ap (λ l. read l (x ∷ parts)) (append_assoc (stored r) (3 ∷ []) ns)
    ∙ read_stored r (3 ∷ ns) (x ∷ parts)
read_stored NoEntry ns parts = refl
read_stored (OneEntry x) ns parts = ap (λ l. read l parts) (append_assoc (stored x) (5 ∷ []) ns) ∙ read_stored x (5 ∷ ns) parts

abbrev pub coded_plain : Coded Plain
coded_plain =
    code_by (List ℕ) (coded_list coded_ℕ) stored (λ ns. newest (read ns []))
    (λ x. ap (λ l. newest (read l [])) (sym (append-nil (stored x))) ∙ ap newest (read_stored x [] []))
