-- Units, and places in lines.
use Rattle.std.proofs.Common.{◌≡◌, refl, ap, sym, ◌∙◌, subst, ℕ, zero, suc, ◌+◌, ◌-◌, ◌<◌, ◌≤◌, ◌⊎◌, inl, inr, Bool, true, false, cond, ◌&&◌, ◌||◌, List, [], ◌∷◌, ◌++◌, length, take, get_or, nat_le, arith}
use Rattle.std.proofs.lemmas.List.{take_all, take_more}
use Rattle.std.proofs.lemmas.Bool.{cases_lt}
use Rattle.lsp_positions.specs.Lines.{is_ending, before_ending}
use Rattle.lsp_positions.specs.Columns.{begins_character, units_of, units, is_boundary, last_below, is_within, at_column}
use Rattle.lsp_positions.specs.declared.position.Encoding.{Encoding}
use Rattle.lsp_positions.specs.declared.position.Encoding.TheVariants.{Utf16, Utf8}
use Rattle.lsp_positions.proofs.Starts.{is_le, is_more}

units_both : (encoding : Encoding) (xs ys : List ℕ) → units encoding (xs ++ ys) ≡ units encoding xs + units encoding ys
units_both encoding [] ys = let sum : 0 + units encoding ys ≡ units encoding ys = omega arith in sym sum
units_both encoding (x ∷ xs) ys = let later = units_both encoding xs ys in omega (arith, later)

-- the units of one byte more
pub units_more : (encoding : Encoding) (xs : List ℕ) (i : ℕ) → i < length xs → units encoding (take (i + 1) xs) ≡ units encoding (take i xs) + units_of encoding (get_or xs i 0)
units_more encoding xs i few =
    let one : units_of encoding (get_or xs i 0) + 0 ≡ units_of encoding (get_or xs i 0) = omega arith in
    ap (units encoding) (take_more xs i 0 few) ∙ units_both encoding (take i xs) (get_or xs i 0 ∷ []) ∙ ap (λ n. units encoding (take i xs) + n) one

pub units_grow : (encoding : Encoding) (xs : List ℕ) (i j : ℕ) → i ≤ j → units encoding (take i xs) ≤ units encoding (take j xs)
units_grow encoding xs zero j h = omega arith
units_grow encoding [] (suc i) zero h = absurd (omega (arith, h))
units_grow encoding [] (suc i) (suc j) h = omega arith
units_grow encoding (x ∷ xs) (suc i) zero h = absurd (omega (arith, h))
units_grow encoding (x ∷ xs) (suc i) (suc j) h = let later = units_grow encoding xs i j (omega (arith, h)) in omega (arith, later)

-- a character has a unit
some_unit : (encoding : Encoding) (byte : ℕ) → begins_character byte ≡ true → 1 ≤ units_of encoding byte
some_unit Utf8 byte e = omega arith
some_unit Utf16 byte e = subst (λ t. 1 ≤ cond t (cond (nat_le 0xF0 byte) 2 1) 0) (sym e) (go (nat_le 0xF0 byte))
  where
    go : (t : Bool) → 1 ≤ cond t 2 1
    go true = omega arith
    go false = omega arith

-- last places

pub last_is : (test : ℕ → Bool) (n k : ℕ) → k < n → test k ≡ true → ((j : ℕ) → k < j → j < n → test j ≡ false) → last_below test n ≡ k
last_is test zero k few passes fails = absurd (omega (arith, few))
last_is test (suc n) k few passes fails = go (cases_lt k n) (λ less. last_is test n k less passes (λ j more h. fails j more (omega (arith, h))))
  where
    go : (k < n) ⊎ (n ≤ k) → (k < n → last_below test n ≡ k) → last_below test (suc n) ≡ k
    go (inl less) before = ap (λ t. cond t n (last_below test n)) (fails n less (omega arith)) ∙ before less
    go (inr same) before =
        let e : k ≡ n = omega (arith, few, same) in
        ap (λ t. cond t n (last_below test n)) (ap test (sym e) ∙ passes) ∙ sym e

pub last_passes : (test : ℕ → Bool) (n : ℕ) → (last_below test n ≡ 0) ⊎ (test (last_below test n) ≡ true)
last_passes test zero = inl refl
last_passes test (suc n) = go (test n) refl (last_passes test n)
  where
    go : (t : Bool) → test n ≡ t → (last_below test n ≡ 0) ⊎ (test (last_below test n) ≡ true) →
        (cond t n (last_below test n) ≡ 0) ⊎ (test (cond t n (last_below test n)) ≡ true)
    go true e h = inr e
    go false e h = h

pub boundary_here : (line : List ℕ) (i : ℕ) → i < length line → is_boundary line i ≡ begins_character (get_or line i 0)
boundary_here line i few = ap (λ t. t || begins_character (get_or line i 0)) (is_more (length line) i few)

-- one place more of a line is looked at
pub last_more : (encoding : Encoding) (line : List ℕ) (column i used last next : ℕ) → i < length line → used ≡ units encoding (take i line) →
    last ≡ last_below (is_within encoding line column) i → next ≡ cond (begins_character (get_or line i 0) && nat_le used column) i last →
    next ≡ last_below (is_within encoding line column) (i + 1)
last_more encoding line column i used last next few e so_far chosen =
    let one : suc i ≡ i + 1 = omega arith in
    chosen
    ∙ (λ k. cond (sym (boundary_here line i few) k && nat_le (e k) column) i (so_far k))
    ∙ ap (last_below (is_within encoding line column)) one

-- the end of the line is looked at
pub last_at_end : (encoding : Encoding) (line : List ℕ) (column used last result : ℕ) → used ≡ units encoding (take (length line) line) →
    last ≡ last_below (is_within encoding line column) (length line) → result ≡ cond (nat_le used column) (length line) last → result ≡ at_column encoding line column
last_at_end encoding line column used last result e so_far chosen =
    let one : suc (length line) ≡ length line + 1 = omega arith in
    let all : is_boundary line (length line) ≡ true = ap (λ t. t || begins_character (get_or line (length line) 0)) (is_le (length line) (length line) (omega arith)) in
    chosen
    ∙ (λ k. cond (sym all k && nat_le (e k) column) (length line) (so_far k))
    ∙ ap (last_below (is_within encoding line column)) one

-- back from the column of a place to the place

and_false : (t : Bool) → (t && false) ≡ false
and_false true = refl
and_false false = refl

pub column_back : (encoding : Encoding) (line : List ℕ) (k : ℕ) → k ≤ length line → is_boundary line k ≡ true → at_column encoding line (units encoding (take k line)) ≡ k
column_back encoding line k few boundary = last_is (is_within encoding line (units encoding (take k line))) (length line + 1) k (omega (arith, few)) here later
  where
    here : is_within encoding line (units encoding (take k line)) k ≡ true
    here = (λ i. boundary i && is_le (units encoding (take k line)) (units encoding (take k line)) (omega arith) i)

    later : (j : ℕ) → k < j → j < length line + 1 → is_within encoding line (units encoding (take k line)) j ≡ false
    later j more less =
        let inside : k < length line = omega (arith, more, less) in
        let begins : begins_character (get_or line k 0) ≡ true = sym (boundary_here line k inside) ∙ boundary in
        let unit = some_unit encoding (get_or line k 0) begins in
        let step = units_more encoding line k inside in
        let grow = units_grow encoding line (k + 1) j (omega (arith, more)) in
        ap (λ t. is_boundary line j && t) (is_more (units encoding (take j line)) (units encoding (take k line)) (omega (arith, unit, step, grow)))
        ∙ and_false (is_boundary line j)

-- a column at or beyond the end of the line is its end
pub column_past : (encoding : Encoding) (line : List ℕ) (column : ℕ) → units encoding line ≤ column → at_column encoding line column ≡ length line
column_past encoding line column h =
    let all : take (length line) line ≡ line = take_all (length line) line (omega arith) in
    let same = ap (units encoding) all in
    last_is (is_within encoding line column) (length line + 1) (length line) (omega arith)
    (λ i. (is_le (length line) (length line) (omega arith) i || begins_character (get_or line (length line) 0)) && is_le (units encoding (take (length line) line)) column (omega (arith, same, h)) i)
    (λ j more less. absurd (omega (arith, more, less)))

-- lines before their endings

pub line_short : (xs : List ℕ) → length (before_ending xs) ≤ length xs
line_short [] = omega arith
line_short (x ∷ xs) = go (is_ending x) (line_short xs)
  where
    go : (t : Bool) → length (before_ending xs) ≤ length xs → length (cond t [] (x ∷ before_ending xs)) ≤ suc (length xs)
    go true h = omega arith
    go false h = omega (arith, h)

-- each byte of a line is that of the text
pub line_reads : (xs : List ℕ) (k : ℕ) → k < length (before_ending xs) → get_or (before_ending xs) k 0 ≡ get_or xs k 0
line_reads [] k few = absurd (omega (arith, few))
line_reads (x ∷ xs) k few = go (is_ending x) k few (λ j h. line_reads xs j h)
  where
    go : (t : Bool) (k : ℕ) → k < length (cond t [] (x ∷ before_ending xs)) → ((j : ℕ) → j < length (before_ending xs) → get_or (before_ending xs) j 0 ≡ get_or xs j 0) →
        get_or (cond t [] (x ∷ before_ending xs)) k 0 ≡ get_or (x ∷ xs) k 0
    go true k few others = absurd (omega (arith, few))
    go false zero few others = refl
    go false (suc k) few others = others k (omega (arith, few))

-- a part without an ending
pub record Starts (xs : List ℕ) (k : ℕ) : Type 0 where
  pub within : k ≤ length (before_ending xs)
  pub same : take k (before_ending xs) ≡ take k xs

pub unended : (xs : List ℕ) (k : ℕ) → k ≤ length xs → ((i : ℕ) → i < k → is_ending (get_or xs i 0) ≡ false) → Starts xs k
unended xs zero few none = record { within = omega arith; same = refl }
unended [] (suc k) few none = absurd (omega (arith, few))
unended (x ∷ xs) (suc k) few none =
    let both = at (is_ending x) (none 0 (omega arith)) (unended xs k (omega (arith, few)) (λ i h. none (suc i) (omega (arith, h)))) in
    record { within = both.0; same = both.1 }
  where
    at : (t : Bool) → t ≡ false → Starts xs k → (suc k ≤ length (cond t [] (x ∷ before_ending xs))) × (take (suc k) (cond t [] (x ∷ before_ending xs)) ≡ x ∷ take k xs)
    at true e h = absurd (cc e)
    at false e h = (omega (arith, h.within), ap (λ (l : List ℕ). x ∷ l) h.same)

-- a line up to its ending
pub ended : (xs : List ℕ) (k : ℕ) → k < length xs → ((i : ℕ) → i < k → is_ending (get_or xs i 0) ≡ false) → is_ending (get_or xs k 0) ≡ true → length (before_ending xs) ≡ k
ended [] k few none e = absurd (omega (arith, few))
ended (x ∷ xs) zero few none e = ap (λ t. length (cond t [] (x ∷ before_ending xs))) e
ended (x ∷ xs) (suc k) few none e =
    let later : length (before_ending xs) ≡ k = ended xs k (omega (arith, few)) (λ i h. none (suc i) (omega (arith, h))) e in
    ap (λ t. length (cond t [] (x ∷ before_ending xs))) (none 0 (omega arith)) ∙ ap suc later
