-- What is read of bytes is what they are.
use Rattle.std.proofs.Common.{◌≡◌, ◌+◌, ℕ, zero, suc, Bool, true, false, cond, List, [], ◌∷◌, ◌++◌, map, length, Result, Ok, Err, Option, Some, None, refl, sym, ap, subst, ◌∙◌, arith, append_assoc, append-nil, length-append}
use Rattle.std.specs.Prelude.{slice_get}
use Rattle.std.specs.List.{All}
use Rattle.std.specs.Str.{IsUtf8, IsValidUpTo}
use Rattle.std.proofs.lemmas.Str.{utf8_valid_len-IsUtf8, utf8_valid_len-IsValidUpTo}
use Rattle.raml_syntax.specs.Tree.{Text, Function, Prog}
use Rattle.raml_syntax.specs.Types.{types_of}
use Rattle.raml_syntax.specs.Place.{place_of}
use Rattle.raml_syntax.proofs.Places.{functions_have_places}
use Rattle.base_poly.specs.Indices.{index_list}
use Rattle.bound_file.specs.Lines.{Coefficient, Line, Declaration, AreBelow, IsProper}
use Rattle.bound_file.specs.Spelling.{Written, IsLine}
use Rattle.bound_file.specs.Declares.{AllInRange, IsBound, HaveNoPlaces, Names, Declares, DeclaresNothing}
use Rattle.bound_file.specs.Answers.{lines_in, is_declared, EachNew, DeclareEach, AreDeclared, Reaches, IsFaulty, FirstFault, Answers, HasOneAnswer}
use Rattle.bound_file.specs.Reading.{Counted, line_read, all_counted, bound_read, or_index, at_function, at_place, with_all, or_shape, text_read, with_line}
use Rattle.bound_file.specs.Lined.{Lines, numbered, read_lines}
use Rattle.bound_file.specs.declared.fault.LineFault.{LineFault}
use Rattle.bound_file.specs.declared.fault.LineFault.TheVariants.{Shape, Number, Unknown, Index, Twice}
use Rattle.bound_file.specs.declared.fault.DeclFault.{DeclFault}
use Rattle.bound_file.specs.declared.fault.DeclFault.TheVariants as f
use Rattle.bound_file.proofs.LineRead.{line_there, line_is}
use Rattle.bound_file.proofs.Counting.{counted_as, all_told, AreCounted, all_are}
use Rattle.bound_file.proofs.Bounds.{bound_is, bound_none, bound_there, no_bound, bound_numbers, bound_below}

-- Lines

module _ (P : Prog) (d : ℕ) where
  -- what is read of a line is what it is
  abbrev pub IsAs : Text → Result Line LineFault → Type 0
  IsAs text (Ok line) = Declares P d text line
  IsAs text (Err fault) = DeclaresNothing P d text fault

  pub line_told : (text : Text) → IsAs text (text_read P d text)
  line_told text = at (line_read text) (line_is text) (line_there text)
    where
      over : (w : Written) → IsLine text w → AllInRange w.terms → (place : ℕ) (fun : Function) → place_of w.name P ≡ Some place → slice_get P place ≡ Some fun →
          (o : Option (List Coefficient)) → ((b : List Coefficient) → o ≡ Some b → IsBound (types_of fun) d w.terms b) → (o ≡ None → HaveNoPlaces (types_of fun) d w.terms) → IsAs text (or_index place w.meter o)
      over w is range place fun named there None bound none = (w, place, fun, record { is = is; ranged = range; named = named; there = there }, none refl)
      over w is range place fun named there (Some b) bound none = record {
        written = w;
        fun = fun;
        names = record { is = is; ranged = range; named = named; there = there };
        meter = refl;
        bound = bound b refl;
      }

      function : (w : Written) → IsLine text w → (cs : List Counted) → AreCounted w.terms cs → (place : ℕ) → place_of w.name P ≡ Some place → (o : Option Function) → slice_get P place ≡ o → IsAs text (at_function P d place w.meter cs o)
      function w is cs h place named None there =
          let k = (functions_have_places P).placed w.name place named in
          absurd (none k.0 (sym there ∙ k.1))
        where
          none : (g : Function) → None ≡ Some g → ⊥
          none g e = cc
      function w is cs h place named (Some fun) there =
          subst (λ cs. IsAs text (or_index place w.meter (bound_read (types_of fun) d cs))) (sym h.same)
          (over w is h.range place fun named there (bound_read (types_of fun) d (map counted_as w.terms)) (bound_is (types_of fun) d w.terms is.once) (bound_none (types_of fun) d w.terms is.once))

      placed : (w : Written) → IsLine text w → (cs : List Counted) → AreCounted w.terms cs → (o : Option ℕ) → place_of w.name P ≡ o → IsAs text (at_place P d w.meter cs o)
      placed w is cs h None named = (w, is, h.range, named)
      placed w is cs h (Some place) named = function w is cs h place named (slice_get P place) refl

      numbers : (w : Written) → IsLine text w → (o : Option (List Counted)) → ((cs : List Counted) → o ≡ Some cs → AreCounted w.terms cs) → (AllInRange w.terms → o ≡ Some (map counted_as w.terms)) → IsAs text (with_all P d w o)
      numbers w is None are told = (w, is, λ r. none (map counted_as w.terms) (told r))
        where
          none : (cs : List Counted) → None ≡ Some cs → ⊥
          none cs e = cc
      numbers w is (Some cs) are told = placed w is cs (are cs refl) (place_of w.name P) refl

      at : (o : Option Written) → ((w : Written) → o ≡ Some w → IsLine text w) → ((w : Written) → IsLine text w → o ≡ Some w) → IsAs text (or_shape P d o)
      at None is there = λ w h. none w (there w h)
        where
          none : (w : Written) → None ≡ Some w → ⊥
          none w e = cc
      at (Some w) is there = numbers w (is w refl) (all_counted w.terms) (all_are w.terms) (all_told w.terms)

  -- and nothing else is
  read_as : (text : Text) (w : Written) → IsLine text w → AllInRange w.terms → text_read P d text ≡ at_place P d w.meter (map counted_as w.terms) (place_of w.name P)
  read_as text w is range = ap (or_shape P d) (line_there text w is) ∙ ap (with_all P d w) (all_told w.terms range)

  read_of : (text : Text) (w : Written) (place : ℕ) (fun : Function) → Names P d text w place fun → text_read P d text ≡ or_index place w.meter (bound_read (types_of fun) d (map counted_as w.terms))
  read_of text w place fun n =
      read_as text w n.is n.ranged ∙ ap (at_place P d w.meter (map counted_as w.terms)) n.named ∙ ap (at_function P d place w.meter (map counted_as w.terms)) n.there

  pub line_one : (text : Text) (r : Result Line LineFault) → IsAs text r → text_read P d text ≡ r
  line_one text (Ok line) h =
      read_of text h.written line.fun h.fun h.names
      ∙ ap (or_index line.fun h.written.meter) (bound_there (types_of h.fun) d h.written.terms h.names.is.once line.bound h.bound)
      ∙ (λ i. Ok (record { fun = line.fun; meter = sym h.meter i; bound = line.bound }))
  line_one text (Err Shape) h = at (line_read text) (line_is text)
    where
      at : (o : Option Written) → ((w : Written) → o ≡ Some w → IsLine text w) → or_shape P d o ≡ Err Shape
      at None is = refl
      at (Some w) is = absurd (h w (is w refl))
  line_one text (Err Number) h = ap (or_shape P d) (line_there text h.0 h.1) ∙ at (all_counted h.0.terms) (all_are h.0.terms)
    where
      at : (o : Option (List Counted)) → ((cs : List Counted) → o ≡ Some cs → AreCounted h.0.terms cs) → with_all P d h.0 o ≡ Err Number
      at None are = refl
      at (Some cs) are = absurd (h.2 (are cs refl).range)
  line_one text (Err Unknown) h = read_as text h.0 h.1 h.2 ∙ ap (at_place P d h.0.meter (map counted_as h.0.terms)) h.3
  line_one text (Err Index) h = read_of text h.0 h.1 h.2 h.3 ∙ ap (or_index h.1 h.0.meter) (no_bound (types_of h.2) d h.0.terms h.3.is.once h.4)
  line_one text (Err Twice) h = absurd h

  -- a bound that is declared lists its positions in order, with numbers in range, below those of the function
  pub declared_proper : (text : Text) (line : Line) → Declares P d text line → IsProper line
  declared_proper text line h = record {
    ascend = h.bound.ascend;
    numbers = bound_numbers (types_of h.fun) d h.written.terms h.names.ranged line.bound h.bound;
  }

  -- Files

  -- one line more
  each_more : (texts : List Text) (lines : List Line) (text : Text) (line : Line) → DeclareEach P d texts lines → Declares P d text line → DeclareEach P d (texts ++ text ∷ []) (lines ++ line ∷ [])
  each_more [] [] text line h g = (g, tt)
  each_more [] (l ∷ lines) text line h g = absurd h
  each_more (t ∷ texts) [] text line h g = absurd h
  each_more (t ∷ texts) (l ∷ lines) text line h g = (h.0, each_more texts lines text line h.1 g)

  new_more : (before lines : List Line) (line : Line) → EachNew before lines → is_declared (before ++ lines) line.fun line.meter ≡ false → EachNew before (lines ++ line ∷ [])
  new_more before [] line h e = (ap (λ ls. is_declared ls line.fun line.meter) (sym (append-nil before)) ∙ e, tt)
  new_more before (l ∷ lines) line h e = (h.0, new_more (before ++ l ∷ []) lines line h.1 (ap (λ ls. is_declared ls line.fun line.meter) (append_assoc before (l ∷ []) lines) ∙ e))

  -- nothing is read after a fault
  pub fault_stays : (fault : DeclFault) (number : ℕ) (texts : List Text) → read_lines P d (Err fault) number texts ≡ Err fault
  fault_stays fault number [] = refl
  fault_stays fault number (text ∷ texts) = fault_stays fault (suc number) texts

  -- what is read of a file
  abbrev pub IsFileAs : Text → Lines → Type 0
  IsFileAs bytes (Ok lines) = AreDeclared P d (lines_in bytes) lines
  IsFileAs bytes (Err fault) = FirstFault P d bytes fault

  abbrev pub whole : Text → Lines
  whole bytes = read_lines P d (Ok []) 0 (lines_in bytes)

  faulty : (lines : List Line) (text : Text) (fault : LineFault) → DeclaresNothing P d text fault → IsFaulty P d lines text fault
  faulty lines text Shape h = h
  faulty lines text Number h = h
  faulty lines text Unknown h = h
  faulty lines text Index h = h
  faulty lines text Twice h = absurd h

  module _ (bytes : Text) (utf8 : IsUtf8 bytes) where
    step_fault : (text : Text) (rest : List Text) (lines : List Line) (number : ℕ) → Reaches P d bytes (suc number) lines text → (fault : LineFault) → IsFaulty P d lines text fault → IsFileAs bytes (read_lines P d (Err (f.Line (suc number) fault)) (suc number) rest)
    step_fault text rest lines number reached fault g = subst (IsFileAs bytes) (sym (fault_stays (f.Line (suc number) fault) (suc number) rest)) (lines, text, reached, g)

    -- what is read of one line, over what is read behind it
    step : (text : Text) (rest : List Text) (lines : List Line) (number : ℕ) → Reaches P d bytes (suc number) lines text → (r : Result Line LineFault) → IsAs text r →
        ((line : Line) → Declares P d text line → is_declared lines line.fun line.meter ≡ false → IsFileAs bytes (read_lines P d (Ok (lines ++ line ∷ [])) (suc number) rest)) →
        IsFileAs bytes (read_lines P d (numbered (suc number) (with_line P d lines r)) (suc number) rest)
    step text rest lines number reached (Err fault) g more = step_fault text rest lines number reached fault (faulty lines text fault g)
    step text rest lines number reached (Ok line) g more = at (is_declared lines line.fun line.meter) refl
      where
        at : (b : Bool) → is_declared lines line.fun line.meter ≡ b → IsFileAs bytes (read_lines P d (numbered (suc number) (cond b (Err Twice) (Ok (lines ++ line ∷ [])))) (suc number) rest)
        at true e = step_fault text rest lines number reached Twice (line, g, e)
        at false e = more line g e

    told_behind : (rest before : List Text) (lines : List Line) (number : ℕ) → number ≡ length before → AreDeclared P d before lines → lines_in bytes ≡ before ++ rest → IsFileAs bytes (read_lines P d (Ok lines) number rest)
    told_behind [] before lines number count h are = subst (λ ts. AreDeclared P d ts lines) (sym (are ∙ append-nil before)) h
    told_behind (text ∷ rest) before lines number count h are =
        step text rest lines number reached (text_read P d text) (line_told text)
        (λ line g e. told_behind rest (before ++ text ∷ []) (lines ++ line ∷ []) (suc number) (let l = length-append before (text ∷ []) in omega (arith, count, l))
        (record { each = each_more before lines text line h.each g; new = new_more [] lines line h.new e })
        (are ∙ sym (append_assoc before (text ∷ []) rest)))
      where
        reached : Reaches P d bytes (suc number) lines text
        reached = record { utf8 = utf8; before = before; behind = rest; are = are; counted = ap suc count; declared = h }

    pub told : IsFileAs bytes (whole bytes)
    told = told_behind (lines_in bytes) [] [] 0 refl (record { each = tt; new = tt }) refl

  -- lines that are declared are read
  reads_declared : (texts : List Text) (more : List Line) (rest : List Text) (lines : List Line) (number : ℕ) → DeclareEach P d texts more → EachNew lines more → read_lines P d (Ok lines) number (texts ++ rest) ≡ read_lines P d (Ok (lines ++ more)) (number + length texts) rest
  reads_declared [] [] rest lines number h new = λ i. read_lines P d (Ok (sym (append-nil lines) i)) (here i) rest
    where
      here : number ≡ number + 0
      here = omega arith
  reads_declared [] (l ∷ more) rest lines number h new = absurd h
  reads_declared (text ∷ texts) [] rest lines number h new = absurd h
  reads_declared (text ∷ texts) (l ∷ more) rest lines number h new =
      let line : text_read P d text ≡ Ok l = line_one text (Ok l) h.0 in
      let step : numbered (suc number) (with_line P d lines (text_read P d text)) ≡ Ok (lines ++ l ∷ []) =
      ap (λ r. numbered (suc number) (with_line P d lines r)) line ∙ ap (λ b. numbered (suc number) (cond b (Err Twice) (Ok (lines ++ l ∷ [])))) new.0 in
      let count : suc number + length texts ≡ number + length (text ∷ texts) = omega arith in
      ap (λ r. read_lines P d r (suc number) (texts ++ rest)) step
      ∙ reads_declared texts more rest (lines ++ l ∷ []) (suc number) h.1 new.1
      ∙ (λ i. read_lines P d (Ok (append_assoc lines (l ∷ []) more i)) (count i) rest)

  pub declared_read : (bytes : Text) (lines : List Line) → AreDeclared P d (lines_in bytes) lines → whole bytes ≡ Ok lines
  declared_read bytes lines h = ap (read_lines P d (Ok []) 0) (sym (append-nil (lines_in bytes))) ∙ reads_declared (lines_in bytes) lines [] [] 0 h.each h.new

  -- a faulty line is found
  line_fault : (lines : List Line) (text : Text) (fault : LineFault) → IsFaulty P d lines text fault → with_line P d lines (text_read P d text) ≡ Err fault
  line_fault lines text Shape h = ap (with_line P d lines) (line_one text (Err Shape) h)
  line_fault lines text Number h = ap (with_line P d lines) (line_one text (Err Number) h)
  line_fault lines text Unknown h = ap (with_line P d lines) (line_one text (Err Unknown) h)
  line_fault lines text Index h = ap (with_line P d lines) (line_one text (Err Index) h)
  line_fault lines text Twice h = ap (with_line P d lines) (line_one text (Ok h.0) h.1) ∙ ap (λ b. cond b (Err Twice) (Ok (lines ++ h.0 ∷ []))) h.2

  fault_read : (bytes : Text) (number : ℕ) (fault : LineFault) (lines : List Line) (text : Text) → Reaches P d bytes number lines text → IsFaulty P d lines text fault → whole bytes ≡ Err (f.Line number fault)
  fault_read bytes number fault lines text r h =
      ap (read_lines P d (Ok []) 0) r.are ∙ reads_declared r.before lines (text ∷ r.behind) [] 0 r.declared.each r.declared.new
      ∙ ap (λ n. read_lines P d (Ok lines) n (text ∷ r.behind)) (let e : 0 + length r.before ≡ length r.before = omega arith in e)
      ∙ ap (λ x. read_lines P d (numbered (suc (length r.before)) x) (suc (length r.before)) r.behind) (line_fault lines text fault h)
      ∙ fault_stays (f.Line (suc (length r.before)) fault) (suc (length r.before)) r.behind
      ∙ ap (λ n. Err (f.Line n fault)) (sym r.counted)

  -- One answer

  abbrev answer : Lines → Result Declaration DeclFault
  answer (Ok lines) = Ok (record { degree = d; lines = lines })
  answer (Err fault) = Err fault

  abbrev ReadAs : Text → Result Declaration DeclFault → Type 0
  ReadAs bytes (Ok D) = IsUtf8 bytes × (answer (whole bytes) ≡ Ok D)
  ReadAs bytes (Err (f.NotUtf8 at)) = IsValidUpTo bytes at.0
  ReadAs bytes (Err (f.Line number fault)) = IsUtf8 bytes × (answer (whole bytes) ≡ Err (f.Line number fault))

  answered : (bytes : Text) (r : Result Declaration DeclFault) → Answers P d bytes r → ReadAs bytes r
  answered bytes (Ok D) h = (h.utf8, ap answer (declared_read bytes D.lines h.lines) ∙ (λ i. Ok (record { degree = sym h.degree i; lines = D.lines })))
  answered bytes (Err (f.NotUtf8 at)) h = h
  answered bytes (Err (f.Line number fault)) h = (h.2.utf8, ap answer (fault_read bytes number fault h.0 h.1 h.2 h.3))

  not_text : (bytes : Text) (n : ℕ) → IsUtf8 bytes → IsValidUpTo bytes n → ⊥
  not_text bytes n utf8 up = omega (arith, utf8_valid_len-IsUtf8 bytes utf8, utf8_valid_len-IsValidUpTo bytes n up, up.short)

  one : (bytes : Text) (a b : Result Declaration DeclFault) → ReadAs bytes a → ReadAs bytes b → a ≡ b
  one bytes (Ok D) (Ok E) h k = sym h.1 ∙ k.1
  one bytes (Ok D) (Err (f.NotUtf8 at)) h k = absurd (not_text bytes at.0 h.0 k)
  one bytes (Ok D) (Err (f.Line n g)) h k = sym h.1 ∙ k.1
  one bytes (Err (f.NotUtf8 at)) (Ok D) h k = absurd (not_text bytes at.0 k.0 h)
  one bytes (Err (f.NotUtf8 at)) (Err (f.NotUtf8 to)) h k =
      let same : at.0 ≡ to.0 = sym (utf8_valid_len-IsValidUpTo bytes at.0 h) ∙ utf8_valid_len-IsValidUpTo bytes to.0 k in
      ap (λ n. Err (f.NotUtf8 (record { 0 = n }))) same
  one bytes (Err (f.NotUtf8 at)) (Err (f.Line n g)) h k = absurd (not_text bytes at.0 k.0 h)
  one bytes (Err (f.Line m f')) (Ok D) h k = sym h.1 ∙ k.1
  one bytes (Err (f.Line m f')) (Err (f.NotUtf8 at)) h k = absurd (not_text bytes at.0 h.0 k)
  one bytes (Err (f.Line m f')) (Err (f.Line n g)) h k = sym h.1 ∙ k.1

  pub one_answer : (bytes : Text) → HasOneAnswer P d bytes
  one_answer bytes a b h k = one bytes a b (answered bytes a h) (answered bytes b k)

  -- What is true of lines that are declared
  pub all_declared : (F : Line → Type 0) → ((text : Text) (line : Line) → Declares P d text line → F line) → (texts : List Text) (lines : List Line) → DeclareEach P d texts lines → All F lines
  all_declared F g [] [] h k e low = absurd (omega (arith, low))
  all_declared F g [] (l ∷ lines) h k e low = absurd h
  all_declared F g (t ∷ texts) [] h k e low = absurd h
  all_declared F g (t ∷ texts) (l ∷ lines) h zero e low = g t l h.0
  all_declared F g (t ∷ texts) (l ∷ lines) h (suc k) e low = all_declared F g texts lines h.1 k e (omega (arith, low))

  pub declared_within : (text : Text) (line : Line) → Declares P d text line → (fun : Function) × (slice_get P line.fun ≡ Some fun) × AreBelow (length (index_list (types_of fun) d)) line.bound
  declared_within text line h = (h.fun, h.names.there, bound_below (types_of h.fun) d h.written.terms line.bound h.bound)
