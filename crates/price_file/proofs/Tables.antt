-- What bytes are is what is read of them.
use Rattle.std.proofs.Common.{◌≡◌, ◌≢◌, ◌≤◌, ◌<◌, ◌+◌, ℕ, zero, suc, Bool, true, false, cond, List, [], ◌∷◌, ◌++◌, length, get_or, Result, Ok, Err, Option, Some, None, refl, sym, ap, subst, ◌∙◌, arith, append_assoc, append-nil, length-append, length-set, get_or-set_same, get_or-set_other}
use Rattle.std.specs.Prelude.{nat_eq, is_some, slice_set}
use Rattle.std.specs.Str.{IsUtf8, IsValidUpTo}
use Rattle.std.proofs.lemmas.Str.{utf8_valid_len-IsUtf8, utf8_valid_len-IsValidUpTo}
use Rattle.raml_syntax.specs.Tree.{Text}
use Rattle.price_file.specs.Construct.{Construct, place, Number, Truth, Var, Nil, Leaf, Nothing, Arith, Compare, Not, Pair, Cons, Node, Just, Call, Let, If, Match, Tick}
use Rattle.price_file.specs.Listed.{Listed, nothing_listed, listed_at, listing, or_free}
use Rattle.price_file.specs.Spelling.{lines_of, Sets, Table, listed, SetEach, EachOnce, AreTable, Spells, Reaches, SetsNothing, SetsAgain, FirstFault, HasOneAnswer}
use Rattle.price_file.specs.Reading.{entry_of, with_entry, read_lines}
use Rattle.price_file.specs.declared.fault.PriceFault.{PriceFault}
use Rattle.price_file.specs.declared.fault.PriceFault.TheVariants.{NotUtf8, Shape, Twice}
use Rattle.raml_syntax.proofs.Cuts.{nat_same}
use Rattle.price_file.proofs.Entries.{is_set, is_read}

-- what is listed, by places and by lines
pub record Holds (list : Listed) (table : Table) : Type 0 where
  pub size : length list ≡ 18
  pub at : (c : Construct) → listed_at list c ≡ listed table c

holds_nothing : Holds nothing_listed []
holds_nothing = record { size = refl; at = nothing_at }
  where
    nothing_at : (c : Construct) → listed_at nothing_listed c ≡ None
    nothing_at Number = refl
    nothing_at Truth = refl
    nothing_at Var = refl
    nothing_at Nil = refl
    nothing_at Leaf = refl
    nothing_at Nothing = refl
    nothing_at Arith = refl
    nothing_at Compare = refl
    nothing_at Not = refl
    nothing_at Pair = refl
    nothing_at Cons = refl
    nothing_at Node = refl
    nothing_at Just = refl
    nothing_at Call = refl
    nothing_at Let = refl
    nothing_at If = refl
    nothing_at Match = refl
    nothing_at Tick = refl

place_within : (c : Construct) → place c < 18
place_within Number = omega arith
place_within c = omega arith

abbrev or_else : Option ℕ → Option ℕ → Option ℕ
or_else None other = other
or_else (Some n) other = Some n

-- a table with one line more
listed_more : (table : Table) (c d : Construct) (n : ℕ) → listed (table ++ (c, n) ∷ []) d ≡ or_else (listed table d) (cond (nat_eq (place d) (place c)) (Some n) None)
listed_more [] c d n = refl
listed_more (e ∷ table) c d n = by (nat_eq (place d) (place e.0)) (listed_more table c d n)
  where
    by : (b : Bool) → listed (table ++ (c, n) ∷ []) d ≡ or_else (listed table d) (cond (nat_eq (place d) (place c)) (Some n) None) → cond b (Some e.1) (listed (table ++ (c, n) ∷ []) d) ≡ or_else (cond b (Some e.1) (listed table d)) (cond (nat_eq (place d) (place c)) (Some n) None)
    by true h = refl
    by false h = h

-- constructs at one place are listed alike
listed_by_place : (table : Table) (c d : Construct) → place c ≡ place d → listed table c ≡ listed table d
listed_by_place [] c d e = refl
listed_by_place (entry ∷ table) c d e = rw e (ap (cond (nat_eq (place d) (place entry.0)) (Some entry.1)) (listed_by_place table c d e))

nat_other : (a b : ℕ) → nat_eq a b ≡ false → a ≢ b
nat_other a b e = grind (arith, e)

nat_equal : (a b : ℕ) → a ≡ b → nat_eq a b ≡ true
nat_equal a b e = grind (arith, e)

nat_turned : (a b : ℕ) → nat_eq a b ≡ nat_eq b a
nat_turned a b = grind arith

holds_more : (list : Listed) (table : Table) (c : Construct) (n : ℕ) → Holds list table → listed table c ≡ None → Holds (listing list c n) (table ++ (c, n) ∷ [])
holds_more list table c n h fresh = record {
  size = length-set list (place c) (Some n) ∙ h.size;
  at = λ d. by d (nat_eq (place d) (place c)) refl;
}
  where
    by : (d : Construct) (b : Bool) → nat_eq (place d) (place c) ≡ b → listed_at (listing list c n) d ≡ listed (table ++ (c, n) ∷ []) d
    by d true q =
        let same : place d ≡ place c = nat_same (place d) (place c) q in
        let within : place c < length list = omega (arith, place_within c, h.size) in
        let there : get_or (slice_set list (place c) (Some n)) (place d) None ≡ Some n = ap (λ k. get_or (slice_set list (place c) (Some n)) k None) same ∙ get_or-set_same list (place c) (Some n) None within in
        let none : listed table d ≡ None = listed_by_place table d c same ∙ fresh in
        there ∙ sym (listed_more table c d n ∙ ap (λ o. or_else o (cond (nat_eq (place d) (place c)) (Some n) None)) none ∙ ap (λ b. cond b (Some n) None) q)
    by d false q =
        let differ : place d ≢ place c = nat_other (place d) (place c) q in
        let there : get_or (slice_set list (place c) (Some n)) (place d) None ≡ get_or list (place d) None = get_or-set_other list (place c) (place d) (Some n) None differ in
        there ∙ h.at d ∙ sym (listed_more table c d n ∙ ap (λ b. or_else (listed table d) (cond b (Some n) None)) q ∙ or_none (listed table d))
      where
        or_none : (o : Option ℕ) → or_else o None ≡ o
        or_none None = refl
        or_none (Some m) = refl

set_more : (before : List Text) (table : Table) (line : Text) (c : Construct) (n : ℕ) → SetEach before table → Sets line c n → SetEach (before ++ line ∷ []) (table ++ (c, n) ∷ [])
set_more [] [] line c n h s = (s, tt)
set_more [] (e ∷ table) line c n h s = absurd h
set_more (l ∷ before) [] line c n h s = absurd h
set_more (l ∷ before) (e ∷ table) line c n h s = (h.0, set_more before table line c n h.1 s)

-- where nothing is listed at a place, the place is another
other_place : (table : Table) (e : Construct × ℕ) (d : Construct) → listed (e ∷ table) d ≡ None → (nat_eq (place d) (place e.0) ≡ false) × (listed table d ≡ None)
other_place table e d h = by (nat_eq (place d) (place e.0)) h
  where
    by : (b : Bool) → cond b (Some e.1) (listed table d) ≡ None → (b ≡ false) × (listed table d ≡ None)
    by true h = absurd (cc)
    by false h = (refl, h)

once_more : (table : Table) (c : Construct) (n : ℕ) → EachOnce table → listed table c ≡ None → EachOnce (table ++ (c, n) ∷ [])
once_more [] c n h fresh = (refl, tt)
once_more (e ∷ table) c n h fresh =
    let p = other_place table e c fresh in
    let q : nat_eq (place e.0) (place c) ≡ false = nat_turned (place e.0) (place c) ∙ p.0 in
    (listed_more table c e.0 n ∙ ap (λ o. or_else o (cond (nat_eq (place e.0) (place c)) (Some n) None)) h.0 ∙ ap (λ b. cond b (Some n) None) q, once_more table c n h.1 p.1)

-- a line in the midst of a table is not listed before
fresh_in_middle : (table rest : Table) (e : Construct × ℕ) → EachOnce (table ++ e ∷ rest) → listed table e.0 ≡ None
fresh_in_middle [] rest e h = refl
fresh_in_middle (d ∷ table) rest e h =
    let q : nat_eq (place d.0) (place e.0) ≡ false = behind table h.0 in
    ap (λ b. cond b (Some d.1) (listed table e.0)) (nat_turned (place e.0) (place d.0) ∙ q) ∙ fresh_in_middle table rest e h.1
  where
    behind : (between : Table) → listed (between ++ e ∷ rest) d.0 ≡ None → nat_eq (place d.0) (place e.0) ≡ false
    behind [] h = (other_place rest e d.0 h).0
    behind (x ∷ between) h = behind between (other_place (between ++ e ∷ rest) x d.0 h).1

-- nothing is read after a fault
pub fault_stays : (fault : PriceFault) (number : ℕ) (lines : List Text) → read_lines (Err fault) number lines ≡ Err fault
fault_stays fault number [] = refl
fault_stays fault number (line ∷ lines) = fault_stays fault (suc number) lines

-- the lines of a table are read
record Reads (list : Listed) (number : ℕ) (lines rest : List Text) (table : Table) : Type 0 where
  out : Listed
  holds : Holds out table
  same : read_lines (Ok list) number (lines ++ rest) ≡ read_lines (Ok out) (number + length lines) rest

reads_table : (lines : List Text) (more : Table) (rest : List Text) (table : Table) (list : Listed) (number : ℕ) → Holds list table → SetEach lines more → EachOnce (table ++ more) → Reads list number lines rest (table ++ more)
reads_table [] [] rest table list number h s once = record {
  out = list;
  holds = subst (Holds list) (sym (append-nil table)) h;
  same = ap (λ k. read_lines (Ok list) k rest) (omega arith);
}
reads_table [] (e ∷ more) rest table list number h s once = absurd s
reads_table (line ∷ lines) [] rest table list number h s once = absurd s
reads_table (line ∷ lines) (e ∷ more) rest table list number h s once =
    let fresh : listed table e.0 ≡ None = fresh_in_middle table more e once in
    let entry : entry_of line ≡ Some e = is_read line e.0 e.1 s.0 in
    let again : is_some (listed_at list e.0) ≡ false = ap is_some (h.at e.0 ∙ fresh) in
    let step : with_entry list (suc number) (entry_of line) ≡ Ok (listing list e.0 e.1) =
    ap (with_entry list (suc number)) entry ∙ ap (λ b. cond b (Err (Twice (suc number))) (Ok (listing list e.0 e.1))) again in
    let joined : (table ++ e ∷ []) ++ more ≡ table ++ e ∷ more = append_assoc table (e ∷ []) more in
    let r = reads_table lines more rest (table ++ e ∷ []) (listing list e.0 e.1) (suc number)
    (holds_more list table e.0 e.1 h fresh) s.1 (subst EachOnce (sym joined) once) in
    record {
      out = r.out;
      holds = subst (Holds r.out) joined r.holds;
      same = ap (λ x. read_lines x (suc number) (lines ++ rest)) step ∙ r.same ∙ ap (λ k. read_lines (Ok r.out) k rest) (omega arith);
    }

-- what is read is what the bytes are
abbrev pub Told : Text → Result Listed PriceFault → Type 0
Told bytes (Ok list) = (table : Table) × Spells bytes table × Holds list table
Told bytes (Err fault) = FirstFault bytes fault

-- what is read of the lines behind those of a table
abbrev ToldBehind : Text → List Text → Type 0
ToldBehind bytes rest = (before : List Text) (table : Table) (list : Listed) (number : ℕ) → number ≡ length before → AreTable before table → Holds list table → lines_of bytes ≡ before ++ rest → Told bytes (read_lines (Ok list) number rest)

told_line : (bytes : Text) → IsUtf8 bytes → (line : Text) (rest : List Text) → ToldBehind bytes rest → ToldBehind bytes (line ∷ rest)
told_line bytes utf8 line rest more before table list number counted are holds is = at (entry_of line) refl
  where
    reached : Reaches bytes (suc number) table line
    reached = record { utf8 = utf8; before = before; behind = rest; are = is; counted = ap suc counted; lists = are }

    new : (c : Construct) (n : ℕ) → entry_of line ≡ Some (c, n) → (o : Option ℕ) → listed table c ≡ o → Told bytes (read_lines (cond (is_some o) (Err (Twice (suc number))) (Ok (listing list c n))) (suc number) rest)
    new c n e (Some m) again =
        subst (Told bytes) (sym (fault_stays (Twice (suc number)) (suc number) rest))
        (table, line, reached, record { construct = c; price = n; sets = is_set line c n e; again = ap is_some again })
    new c n e None fresh =
        more (before ++ line ∷ []) (table ++ (c, n) ∷ []) (listing list c n) (suc number)
        (omega (arith, counted, length-append before (line ∷ [])))
        (record { set = set_more before table line c n are.set (is_set line c n e); once = once_more table c n are.once fresh })
        (holds_more list table c n holds fresh)
        (is ∙ sym (append_assoc before (line ∷ []) rest))

    at : (o : Option (Construct × ℕ)) → entry_of line ≡ o → Told bytes (read_lines (with_entry list (suc number) o) (suc number) rest)
    at None e =
        subst (Told bytes) (sym (fault_stays (Shape (suc number)) (suc number) rest))
        (table, line, reached, (λ c n s. let x : Some (c, n) ≡ None = sym (is_read line c n s) ∙ e in absurd (cc)))
    at (Some entry) e =
        subst (λ o. Told bytes (read_lines (cond (is_some o) (Err (Twice (suc number))) (Ok (listing list entry.0 entry.1))) (suc number) rest)) (sym (holds.at entry.0))
        (new entry.0 entry.1 e (listed table entry.0) refl)

told_rest : (bytes : Text) → IsUtf8 bytes → (rest : List Text) → ToldBehind bytes rest
told_rest bytes utf8 [] before table list number counted are holds is =
    (table, record { utf8 = utf8; lines = subst (λ ls. AreTable ls table) (sym (is ∙ append-nil before)) are }, holds)
told_rest bytes utf8 (line ∷ rest) before table list number counted are holds is = told_line bytes utf8 line rest (told_rest bytes utf8 rest) before table list number counted are holds is

pub told : (bytes : Text) → IsUtf8 bytes → Told bytes (read_lines (Ok nothing_listed) 0 (lines_of bytes))
told bytes utf8 = told_rest bytes utf8 (lines_of bytes) [] [] nothing_listed 0 refl (record { set = tt; once = tt }) holds_nothing refl

none_of : {A : Type 0} (o : Option A) → ((x : A) → o ≡ Some x → ⊥) → o ≡ None
none_of (Some x) h = absurd (h x refl)
none_of None h = refl

-- all that is read of a text
abbrev pub whole : Text → Result Listed PriceFault
whole bytes = read_lines (Ok nothing_listed) 0 (lines_of bytes)

-- where a line is reached, it is read next
record Comes (bytes : Text) (number : ℕ) (table : Table) (line : Text) : Type 0 where
  out : Listed
  behind : List Text
  holds : Holds out table
  same : whole bytes ≡ read_lines (with_entry out number (entry_of line)) number behind

comes : (bytes : Text) (number : ℕ) (table : Table) (line : Text) → Reaches bytes number table line → Comes bytes number table line
comes bytes number table line r =
    let read = reads_table r.before table (line ∷ r.behind) [] nothing_listed 0 holds_nothing r.lists.set r.lists.once in
    let counted : suc (0 + length r.before) ≡ number = omega (arith, r.counted) in
    record {
      out = read.out;
      behind = r.behind;
      holds = read.holds;
      same = ap (read_lines (Ok nothing_listed) 0) r.are ∙ read.same
          ∙ ap (λ k. read_lines (with_entry read.out k (entry_of line)) k r.behind) counted;
    }

pub shape_read : (bytes : Text) (number : ℕ) (table : Table) (line : Text) → Reaches bytes number table line → SetsNothing line → whole bytes ≡ Err (Shape number)
shape_read bytes number table line r nothing =
    let k = comes bytes number table line r in
    let none : entry_of line ≡ None = none_of (entry_of line) (λ e q. nothing e.0 e.1 (is_set line e.0 e.1 q)) in
    k.same ∙ ap (λ o. read_lines (with_entry k.out number o) number k.behind) none ∙ fault_stays (Shape number) number k.behind

pub twice_read : (bytes : Text) (number : ℕ) (table : Table) (line : Text) → Reaches bytes number table line → SetsAgain table line → whole bytes ≡ Err (Twice number)
twice_read bytes number table line r s =
    let k = comes bytes number table line r in
    let entry : entry_of line ≡ Some (s.construct, s.price) = is_read line s.construct s.price s.sets in
    let again : is_some (listed_at k.out s.construct) ≡ true = ap is_some (k.holds.at s.construct) ∙ s.again in
    k.same ∙ ap (λ o. read_lines (with_entry k.out number o) number k.behind) entry
    ∙ ap (λ b. read_lines (cond b (Err (Twice number)) (Ok (listing k.out s.construct s.price))) number k.behind) again
    ∙ fault_stays (Twice number) number k.behind

record ReadTable (bytes : Text) (table : Table) : Type 0 where
  out : Listed
  same : whole bytes ≡ Ok out

table_read : (bytes : Text) (table : Table) → Spells bytes table → ReadTable bytes table
table_read bytes table s =
    let read = reads_table (lines_of bytes) table [] [] nothing_listed 0 holds_nothing s.lines.set s.lines.once in
    record { out = read.out; same = ap (read_lines (Ok nothing_listed) 0) (sym (append-nil (lines_of bytes))) ∙ read.same }

-- lines set one table
one_table : (lines : List Text) (t u : Table) → SetEach lines t → SetEach lines u → t ≡ u
one_table [] [] [] h k = refl
one_table [] [] (e ∷ u) h k = absurd k
one_table [] (d ∷ t) u h k = absurd h
one_table (line ∷ lines) [] u h k = absurd h
one_table (line ∷ lines) (d ∷ t) [] h k = absurd k
one_table (line ∷ lines) (d ∷ t) (e ∷ u) h k =
    let q : Some d ≡ Some e = sym (is_read line d.0 d.1 h.0) ∙ is_read line e.0 e.1 k.0 in
    let first : d ≡ e = cc in
    let rest : t ≡ u = one_table lines t u h.1 k.1 in
    λ i. first i ∷ rest i

abbrev err : PriceFault → Result Listed PriceFault
err fault = Err fault

-- what an answer says of how the bytes are read
abbrev ReadFault : Text → PriceFault → Type 0
ReadFault bytes (NotUtf8 at) = IsValidUpTo bytes at.0
ReadFault bytes (Shape number) = IsUtf8 bytes × (whole bytes ≡ Err (Shape number))
ReadFault bytes (Twice number) = IsUtf8 bytes × (whole bytes ≡ Err (Twice number))

fault_read : (bytes : Text) (fault : PriceFault) → FirstFault bytes fault → ReadFault bytes fault
fault_read bytes (NotUtf8 at) h = h
fault_read bytes (Shape number) h = (h.2.utf8, shape_read bytes number h.0 h.1 h.2 h.3)
fault_read bytes (Twice number) h = (h.2.utf8, twice_read bytes number h.0 h.1 h.2 h.3)

not_text : (bytes : Text) (n : ℕ) → IsUtf8 bytes → IsValidUpTo bytes n → ⊥
not_text bytes n utf8 up = omega (arith, utf8_valid_len-IsUtf8 bytes utf8, utf8_valid_len-IsValidUpTo bytes n up, up.short)

one_fault : (bytes : Text) (f g : PriceFault) → ReadFault bytes f → ReadFault bytes g → f ≡ g
one_fault bytes (NotUtf8 at) (NotUtf8 to) h k =
    let same : at.0 ≡ to.0 = sym (utf8_valid_len-IsValidUpTo bytes at.0 h) ∙ utf8_valid_len-IsValidUpTo bytes to.0 k in
    ap (λ n. NotUtf8 (record { 0 = n })) same
one_fault bytes (NotUtf8 at) (Shape n) h k = absurd (not_text bytes at.0 k.0 h)
one_fault bytes (NotUtf8 at) (Twice n) h k = absurd (not_text bytes at.0 k.0 h)
one_fault bytes (Shape m) (NotUtf8 at) h k = absurd (not_text bytes at.0 h.0 k)
one_fault bytes (Shape m) (Shape n) h k = let q : err (Shape m) ≡ Err (Shape n) = sym h.1 ∙ k.1 in cc
one_fault bytes (Shape m) (Twice n) h k = let q : err (Shape m) ≡ Err (Twice n) = sym h.1 ∙ k.1 in absurd (cc)
one_fault bytes (Twice m) (NotUtf8 at) h k = absurd (not_text bytes at.0 h.0 k)
one_fault bytes (Twice m) (Shape n) h k = let q : err (Twice m) ≡ Err (Shape n) = sym h.1 ∙ k.1 in absurd (cc)
one_fault bytes (Twice m) (Twice n) h k = let q : err (Twice m) ≡ Err (Twice n) = sym h.1 ∙ k.1 in cc

not_both : (bytes : Text) (table : Table) (fault : PriceFault) → Spells bytes table → ReadFault bytes fault → ⊥
not_both bytes table (NotUtf8 at) s k = not_text bytes at.0 s.utf8 k
not_both bytes table (Shape n) s k = let r = table_read bytes table s in let q : Ok r.out ≡ err (Shape n) = sym r.same ∙ k.1 in absurd (cc)
not_both bytes table (Twice n) s k = let r = table_read bytes table s in let q : Ok r.out ≡ err (Twice n) = sym r.same ∙ k.1 in absurd (cc)

pub one_answer : (bytes : Text) → HasOneAnswer bytes
one_answer bytes (Ok t) (Ok u) h k = ap Ok (one_table (lines_of bytes) t u h.lines.set k.lines.set)
one_answer bytes (Ok t) (Err g) h k = absurd (not_both bytes t g h (fault_read bytes g k))
one_answer bytes (Err f) (Ok u) h k = absurd (not_both bytes u f k (fault_read bytes f h))
one_answer bytes (Err f) (Err g) h k = ap Err (one_fault bytes f g (fault_read bytes f h) (fault_read bytes g k))

-- a small price more leaves all prices small
pub small_set : (list : Listed) (i j n : ℕ) → n ≤ 1000000 → or_free (get_or list j None) ≤ 1000000 → or_free (get_or (slice_set list i (Some n)) j None) ≤ 1000000
small_set [] i j n small h = h
small_set (x ∷ list) zero zero n small h = small
small_set (x ∷ list) zero (suc j) n small h = h
small_set (x ∷ list) (suc i) zero n small h = h
small_set (x ∷ list) (suc i) (suc j) n small h = small_set list i j n small h
