-- Whole texts.
use Rattle.std.proofs.Common.{◌≡◌, ◌≤◌, ◌<◌, ◌+◌, ◌*◌, ℕ, zero, suc, List, [], ◌∷◌, ◌++◌, length, map, refl, sym, ap, subst, ◌∙◌, arith, append_assoc, length-append, Bool, true, false, drop, ◌-◌}
use Rattle.std.specs.Prelude.{if◌then◌else◌}
use Rattle.std.specs.Str.{IsUtf8}
use Rattle.raml_lex.specs.Lexemes.{is_space}
use Rattle.raml_syntax.specs.declared.tree.Pos.{Pos}
use Rattle.value_text.specs.declared.fault.DataFault.{DataFault}
use Rattle.value_text.specs.declared.fault.DataFault.TheVariants as g
use Rattle.std.proofs.lemmas.List.{append-nil}
use Rattle.raml_syntax.specs.Tree.{Type', Text}
use Rattle.raml_syntax.specs.Value.{Value, HaveTypes}
use Rattle.raml_syntax.specs.Read.{ty_of}
use Rattle.raml_syntax.specs.declared.ty.Ty.{Ty}
use Rattle.value_text.specs.declared.word.Word.{Word}
use Rattle.value_text.specs.declared.word.Cell.{Cell}
use Rattle.value_text.specs.declared.sign.Sign.TheVariants as k
use Rattle.value_text.specs.declared.goal.Goal as d
use Rattle.value_text.specs.declared.fault.Kind.{Kind}
use Rattle.value_text.specs.declared.fault.Kind.TheVariants.{Shape, TooDeep}
use Rattle.value_text.specs.declared.fault.Stop.{Stop}
use Rattle.value_text.specs.declared.fault.Stop.TheVariants as f
use Rattle.value_text.specs.Heap.{NameEarlier}
use Rattle.value_text.specs.Held.{Held, held, value_of}
use Rattle.value_text.specs.Stands.{StandForAll}
use Rattle.value_text.specs.Spelling.{Token, Key, spell, spell_more, AreWithin, most_height, sizes}
use Rattle.value_text.specs.Lexing.{Placed, begun_by, tokens_up_to, placed, kinds, left_of}
use Rattle.value_text.specs.Reading.{Spell, CanBegin, Faults, here, end, StopsAt, FirstFault, AreRead}
use Rattle.value_text.specs.Goals.{Goal, Run, Moves, Stops, pushed, AllFit, FitAll}
use Rattle.value_text.specs.State.{goal_of, goals_in, values_in, AllBelow, owed, all_owed, Turned, Fails, Grows}
use Rattle.value_text.specs.Ends.{StopsWith, IsRead, IsFault, start}
use Rattle.value_text.proofs.Stops.{ends, ends_fit, end_stops}
use Rattle.value_text.proofs.States.{goals_snoc, grows_more, length_goals}
use Rattle.value_text.proofs.Standing.{stands_word}
use Rattle.value_text.proofs.Lexed.{length_drop}

-- MOVES ONE AFTER THE OTHER

pub stay : (G : List Goal) (V : List Value) → Moves G V [] G V
stay G V = record { onward = λ i q fin r. r; back = λ i q fin le r. r }

pub after : (G G' G'' : List Goal) (V V' V'' : List Value) (c e : List Token) → Moves G V c G' V' → Moves G' V' e G'' V'' → Moves G V (c ++ e) G'' V''
after G G' G'' V V' V'' c e m n = record {
  onward = λ i q fin r. n.onward i q fin (m.onward i (e ++ q) fin (subst (λ s. Run i G V s fin) (append_assoc c e q) r));
  back = λ i q fin le r. subst (λ s. Run i G V s fin) (sym (append_assoc c e q)) (m.back i (e ++ q) fin le (n.back i q fin le r));
}

pub kinds_more : (a b : List Placed) → kinds (a ++ b) ≡ kinds a ++ kinds b
kinds_more [] b = refl
kinds_more (x ∷ a) b = ap (λ l. x.token ∷ l) (kinds_more a b)

-- ARGUMENTS

module _ (i : ℕ) where
  pub run_spell : (types : List Type') (s : List Token) (fin : List Value) → 1 ≤ length types → Run i (start types) [] s fin → (xs : List Value) × Spell types i s xs × (fin ≡ pushed xs [])
  run_spell [] s fin some r = absurd (omega (arith, some))
  run_spell (A ∷ []) s fin some r =
      let l = r.3 in
      (r.0 ∷ [], record { typed = (r.2, tt); low = (omega (arith, l), tt); tokens = r.4 ∙ ap (spell r.0 A) r.5.0 }, r.5.1)
  run_spell (A ∷ B ∷ As) s fin some r = go r.2.5.0 r.2.5.2 r.2.5.3 r.2.5.4 r.2.5.5.0 r.2.5.5.1
    where
      go : (xs : List Value) → HaveTypes xs (B ∷ As) → AreWithin i xs → r.2.1 ≡ spell_more xs (B ∷ As) r.2.5.1 → r.2.5.1 ≡ [] → fin ≡ pushed xs (r.2.0 ∷ []) → (xs : List Value) × Spell (A ∷ B ∷ As) i s xs × (fin ≡ pushed xs [])
      go [] h w e n g = absurd h
      go (x ∷ xs) h w e n g =
          let l = r.2.3 in
          (r.2.0 ∷ x ∷ xs, record { typed = (r.2.2, h); low = (omega (arith, l), w); tokens = r.1 ∙ ap (λ s. Key k.Open ∷ s) (r.2.4 ∙ ap (spell r.2.0 A) (e ∙ ap (spell_more (x ∷ xs) (B ∷ As)) n)) }, g)

  pub spell_run : (types : List Type') (s : List Token) (xs : List Value) → 1 ≤ length types → Spell types i s xs → Run i (start types) [] s (pushed xs [])
  spell_run [] s xs some h = absurd (omega (arith, some))
  spell_run (A ∷ []) s [] some h = absurd h.typed
  spell_run (A ∷ []) s (x ∷ []) some h = let l = h.low.0 in (x, [], h.typed.0, omega (arith, l), h.tokens, (refl, refl))
  spell_run (A ∷ []) s (x ∷ y ∷ xs) some h = absurd h.typed.1
  spell_run (A ∷ B ∷ As) s [] some h = absurd h.typed
  spell_run (A ∷ B ∷ As) s (x ∷ []) some h = absurd h.typed.1
  spell_run (A ∷ B ∷ As) s (x ∷ y ∷ xs) some h =
      let l = h.low.0 in
      (spell x A (spell_more (y ∷ xs) (B ∷ As) []), h.tokens, (x, spell_more (y ∷ xs) (B ∷ As) [], h.typed.0, omega (arith, l), refl, (y ∷ xs, [], h.typed.1, h.low.1, refl, (refl, refl))))

-- FAULTS

module _ (types : List Type') (some : 1 ≤ length types) (a : List Token) (G : List Goal) (V : List Value) (m : Moves (start types) [] a G V) where
  reaches : (i : ℕ) (q : List Token) (fin : List Value) → most_height ≤ i → Run i G V q fin → (xs : List Value) × Spell types i (a ++ q) xs
  reaches i q fin le r = let x = run_spell i types (a ++ q) fin some (m.back i q fin le r) in (x.0, x.1)

  can_begin : FitAll G → CanBegin types most_height a
  can_begin fits =
      let e = ends most_height G V (omega arith) (ends_fit most_height G (omega arith) fits) in
      let x = reaches most_height e.0 e.1 (omega arith) e.2 in
      record { more = e.0; values = x.0; spelled = x.1 }

  -- no tokens that begin so
  never : (i : ℕ) (t : Token) → ((q : List Token) (fin : List Value) → Run i G V (t ∷ q) fin → ⊥) → CanBegin types i (a ++ t ∷ []) → ⊥
  never i t refuse c =
      refuse c.more (pushed c.values []) (m.onward i (t ∷ c.more) (pushed c.values []) (subst (λ s. Run i (start types) [] s (pushed c.values [])) (append_assoc a (t ∷ []) c.more) (spell_run i types ((a ++ t ∷ []) ++ c.more) c.values some c.spelled)))

  pub faults : (j : Kind) (s u : List Token) → s ≡ a ++ u → FitAll G → Stops j G V u → Faults types most_height s j u
  faults Shape s [] e fits stops =
      let is : s ≡ a = e ∙ append-nil a in
      end
      (λ n. subst (CanBegin types most_height) (sym is) (can_begin fits))
      (λ xs h. stops most_height [] (pushed xs []) (m.onward most_height [] (pushed xs []) (subst (λ s. Run most_height (start types) [] s (pushed xs [])) e (spell_run most_height types s xs some h))))
  faults Shape s (t ∷ u) e fits stops =
      here e (λ n. can_begin fits) (never most_height t (stops most_height)) (λ i c. never i t (stops i) c)
  faults TooDeep s [] e fits stops = absurd (let x = stops.2 in cc)
  faults TooDeep s (t ∷ u) e fits stops =
      let same : t ≡ stops.0 = (let x = stops.2 in cc) in
      let run = stops.3 in
      let r = subst (λ t. Run run.0 G V (t ∷ run.1) run.2) (sym same) run.4 in
      let x = reaches run.0 (t ∷ run.1) run.2 run.3 r in
      here e (λ n. can_begin fits) (never most_height t (λ q fin h. stops.4 q fin (subst (λ t. Run most_height G V (t ∷ q) fin) same h)))
      (run.0, record { more = run.1; values = x.0; spelled = subst (λ s. Spell types run.0 s x.0) (sym (append_assoc a (t ∷ []) run.1)) x.1 })

-- READING

-- how far a text is read
pub record Reads (types : List Type') (base cells : List Cell) (data' rest : Text) (goals : List d.Goal) (words : List Word) : Type 0 where
  pub taken : List Placed
  pub split : placed data' ≡ taken ++ placed rest
  pub moves : Moves (start types) [] (kinds taken) (goals_in goals []) (values_in (held cells) words [])
  pub fits : FitAll (goals_in goals [])
  pub below : AllBelow (length cells) words
  pub grows : Grows base cells
  pub count : length cells ≡ length base + sizes (values_in (held cells) words [])
  pub room : all_owed (goals_in goals []) + sizes (values_in (held cells) words []) + length rest ≤ length data'

module _ (types : List Type') (some : 1 ≤ length types) (base cells : List Cell) (data' rest : Text) where
  pub reads_fails : (goals : List d.Goal) (words : List Word) (stop : Stop) → Reads types base cells data' rest goals words → Fails stop (goals_in goals []) (values_in (held cells) words []) (placed rest) → StopsWith data' types stop
  reads_fails goals words f.NoMemory r h = tt
  reads_fails goals words (f.Fault j left) r h = record {
    before = r.taken;
    rest = placed rest;
    split = r.split;
    fault = faults types some (kinds r.taken) (goals_in goals []) (values_in (held cells) words []) r.moves j (kinds (placed data')) (kinds (placed rest)) (ap kinds r.split ∙ kinds_more r.taken (placed rest)) r.fits h.0;
    place = h.1;
  }

  pub reads_turned : (goals before goals' : List d.Goal) (goal : d.Goal) (words words' : List Word) (cells' : List Cell) (rest' : Text) → goals ≡ before ++ goal ∷ [] → Reads types base cells data' rest goals words → Turned (goal_of goal) (goals_in before []) (values_in (held cells) words []) (placed rest) (length rest) (goals_in goals' []) (values_in (held cells') words' []) (placed rest') (length rest') → AllBelow (length cells') words' → length cells' + sizes (values_in (held cells) words []) ≡ length cells + sizes (values_in (held cells') words' []) → Grows cells cells' → Reads types base cells' data' rest' goals' words'
  reads_turned goals before goals' goal words words' cells' rest' is r t below count grows =
      let gs : goals_in goals [] ≡ goal_of goal ∷ goals_in before [] = ap (λ l. goals_in l []) is ∙ goals_snoc before goal [] in
      let c = t.cost in
      let m = r.room in
      let o = ap all_owed gs in
      let n = r.count in
      record {
        taken = r.taken ++ t.taken;
        split = r.split ∙ ap (λ l. r.taken ++ l) t.split ∙ sym (append_assoc r.taken t.taken (placed rest'));
        moves = subst (λ c. Moves (start types) [] c (goals_in goals' []) (values_in (held cells') words' [])) (sym (kinds_more r.taken t.taken)) (after _ _ _ _ _ _ _ _ r.moves (subst (λ G. Moves G (values_in (held cells) words []) (kinds t.taken) (goals_in goals' []) (values_in (held cells') words' [])) (sym gs) t.moves));
        fits = t.fits;
        below = below;
        grows = grows_more base cells cells' r.grows grows;
        count = omega (arith, count, n);
        room = omega (arith, c, m, o);
      }

pushed_twice : (xs ys zs : List Value) → pushed (pushed xs ys) zs ≡ pushed ys (xs ++ zs)
pushed_twice [] ys zs = refl
pushed_twice (x ∷ xs) ys zs = pushed_twice xs (x ∷ ys) zs

pushed_same : (xs ys : List Value) → pushed xs [] ≡ pushed ys [] → xs ≡ ys
pushed_same xs ys e = sym (append-nil xs) ∙ sym (pushed_twice xs [] []) ∙ ap (λ l. pushed l []) e ∙ pushed_twice ys [] [] ∙ append-nil ys

values_pushed : (hs : List Held) (ws : List Word) (vs : List Value) → values_in hs ws vs ≡ pushed (map (value_of hs) ws) vs
values_pushed hs [] vs = refl
values_pushed hs (w ∷ ws) vs = values_pushed hs ws (value_of hs w ∷ vs)

sizes_pushed : (xs ys : List Value) → sizes (pushed xs ys) ≡ sizes xs + sizes ys
sizes_pushed [] ys = omega arith
sizes_pushed (x ∷ xs) ys = let e = sizes_pushed xs (x ∷ ys) in omega (arith, e)

-- the end of a text
pub reads_all : (types : List Type') → 1 ≤ length types → (base cells : List Cell) (data' rest : Text) (goals : List d.Goal) (words : List Word) → Reads types base cells data' rest goals words → goals ≡ [] → placed rest ≡ [] → IsRead base cells data' types words
reads_all types some base cells data' rest goals words r none over =
    let hs = held cells in
    let V = values_in hs words [] in
    let run : Run most_height (goals_in goals []) V [] V = subst (λ l. Run most_height (goals_in l []) V [] V) (sym none) (refl, refl) in
    let x = run_spell most_height types (kinds r.taken ++ []) V some (r.moves.back most_height [] V (omega arith) run) in
    let s : kinds r.taken ++ [] ≡ kinds (placed data') = append-nil (kinds r.taken) ∙ ap kinds (sym (r.split ∙ ap (λ l. r.taken ++ l) over ∙ append-nil r.taken)) in
    let same : x.0 ≡ map (value_of hs) words = pushed_same x.0 (map (value_of hs) words) (sym x.2 ∙ values_pushed hs words []) in
    let n = ap sizes x.2 in
    let p = sizes_pushed x.0 [] in
    let c = r.count in
    record {
      values = x.0;
      spelled = subst (λ s. Spell types most_height s x.0) s x.1;
      same = same;
      below = r.below;
      grows = r.grows;
      count = omega (arith, n, p, c);
    }

pub reads_end_fails : (types : List Type') → 1 ≤ length types → (base cells : List Cell) (data' rest : Text) (goals : List d.Goal) (words : List Word) (left : ℕ) (t : Token) (behind : List Placed) → Reads types base cells data' rest goals words → goals ≡ [] → placed rest ≡ (record { left = left; token = t }) ∷ behind → StopsAt data' types Shape left
reads_end_fails types some base cells data' rest goals words left t behind r none is =
    let V = values_in (held cells) words [] in
    let stops : Stops Shape (goals_in goals []) V (kinds (placed rest)) = subst (λ g. Stops Shape (goals_in g []) V (kinds (placed rest))) (sym none) (subst (λ s. Stops Shape [] V (kinds s)) (sym is) (end_stops V t (kinds behind))) in
    reads_fails types some base cells data' rest goals words (f.Fault Shape left) r (stops, sym (ap left_of is))

pub all_stand : (cells : List Cell) (ws : List Word) → NameEarlier cells → AllBelow (length cells) ws → StandForAll cells ws (map (value_of (held cells)) ws)
all_stand cells [] e h = tt
all_stand cells (w ∷ ws) e h = (stands_word cells w e h.0, all_stand cells ws e h.1)

fits_start : (types : List Type') → AllFit types → FitAll (start types)
fits_start [] h = tt
fits_start (A ∷ []) h = let l = h.0 in (omega (arith, l), tt)
fits_start (A ∷ B ∷ As) h = let l = h.0 in (tt, (omega (arith, l), (h.1, tt)))

owed_start : (types : List Type') → all_owed (start types) ≡ 0
owed_start [] = refl
owed_start (A ∷ []) = refl
owed_start (A ∷ B ∷ As) = refl

pub reads_start : (types : List Type') (base : List Cell) (data' : Text) (goals : List d.Goal) (words : List Word) → AllFit types → goals_in goals [] ≡ start types → words ≡ [] → Reads types base base data' data' goals words
reads_start types base data' goals words fit is none =
    let hs = held base in
    let vs : values_in hs words [] ≡ [] = ap (λ l. values_in hs l []) none in
    let o = ap all_owed is ∙ owed_start types in
    let s = ap sizes vs in
    record {
      taken = [];
      split = refl;
      moves = subst (λ G. Moves (start types) [] [] G (values_in hs words [])) (sym is) (subst (Moves (start types) [] [] (start types)) (sym vs) (stay (start types) []));
      fits = subst FitAll (sym is) (fits_start types fit);
      below = subst (AllBelow (length base)) (sym none) tt;
      grows = ([], sym (append-nil base));
      count = omega (arith, s);
      room = omega (arith, o, s);
    }

module _ (types : List Type') (base cells : List Cell) (data' rest : Text) (goals before : List d.Goal) (goal : d.Goal) (words : List Word) (is : goals ≡ before ++ goal ∷ []) (r : Reads types base cells data' rest goals words) where
  all_goals : goals_in goals [] ≡ goal_of goal ∷ goals_in before []
  all_goals = ap (λ l. goals_in l []) is ∙ goals_snoc before goal []

  pub goal_fits : FitAll (goal_of goal ∷ goals_in before [])
  goal_fits = subst FitAll all_goals r.fits

  pub goal_room : length base + length data' + 1 < 4294967296 → length cells + owed (goal_of goal) + 1 < 4294967296
  goal_room room = let o = ap all_owed all_goals in let m = r.room in let n = r.count in omega (arith, room, o, m, n)

  pub goal_fails : 1 ≤ length types → (stop : Stop) → Fails stop (goal_of goal ∷ goals_in before []) (values_in (held cells) words []) (placed rest) → StopsWith data' types stop
  goal_fails some stop h = reads_fails types some base cells data' rest goals words stop r (subst (λ G. Fails stop G (values_in (held cells) words []) (placed rest)) (sym all_goals) h)

  pub goal_smaller : (goals' : List d.Goal) (V V' : List Value) (rest' : Text) → Turned (goal_of goal) (goals_in before []) V (placed rest) (length rest) (goals_in goals' []) V' (placed rest') (length rest') → 10 * length rest' + length goals' < 10 * length rest + length goals
  goal_smaller goals' V V' rest' t =
      let l = t.less in
      let a = length_goals goals' [] in
      let b = length_goals before [] in
      let c = ap length is in
      let e = length-append before (goal ∷ []) in
      omega (arith, l, a, b, c, e)

pub some_types : (ts : List Ty) → 1 ≤ length ts → 1 ≤ length (map ty_of ts)
some_types [] le = absurd (omega (arith, le))
some_types (x ∷ ts) le = omega arith

-- BYTES

abbrev tail_of : List Placed → List Placed
tail_of [] = []
tail_of (x ∷ l) = l

all_left : (n : ℕ) (s : Text) (a b : List Placed) → length s ≤ n → tokens_up_to n s ≡ a ++ b → left_of b ≤ length s
all_left zero s [] b le e = let l = ap left_of e in omega (arith, l)
all_left zero s (x ∷ a) b le e = absurd (cc)
all_left (suc n) [] [] b le e = let l = ap left_of e in omega (arith, l)
all_left (suc n) [] (x ∷ a) b le e = absurd (cc)
all_left (suc n) (c ∷ s) a b le e = go (λ t a l e. all_left n t a b l e) (is_space c) a e
  where
    k : ℕ
    k = (begun_by c s).1

    go : ((t : Text) (a : List Placed) → length t ≤ n → tokens_up_to n t ≡ a ++ b → left_of b ≤ length t) → (space : Bool) (a : List Placed) → (if space then tokens_up_to n s else ((record { left = suc (length s); token = (begun_by c s).0 }) ∷ tokens_up_to n (drop k s))) ≡ a ++ b → left_of b ≤ suc (length s)
    go rest true a e = let l = rest s a (omega (arith, le)) e in omega (arith, l)
    go rest false [] e = let l : suc (length s) ≡ left_of b = ap left_of e in omega (arith, l)
    go rest false (x ∷ a) e =
        let d : tokens_up_to n (drop k s) ≡ a ++ b = ap tail_of e in
        let m = length_drop k s in
        let l = rest (drop k s) a (omega (arith, le, m)) d in
        omega (arith, l, m)

pub left_small : (data' : Text) (types : List Type') (j : Kind) (left : ℕ) → StopsAt data' types j left → left ≤ length data'
unfolding placed
left_small data' types j left h = let l = all_left (length data') data' h.before h.rest (omega arith) h.split in let p = h.place in omega (arith, l, p)

pub fault_first : (data' : Text) (types : List Type') (j : Kind) (left : ℕ) (at : Pos) (fault : DataFault) → IsUtf8 data' → StopsAt data' types j left → at.0 ≡ length data' - left → IsFault j at fault → FirstFault data' types fault
fault_first data' types Shape left at (g.Shape p) utf8 h e is = let l = left_small data' types Shape left h in let q : p.0 ≡ at.0 = ap (λ (p : Pos). p.0) is in (utf8, (left, omega (arith, e, l, q), h))
fault_first data' types TooDeep left at (g.TooDeep p) utf8 h e is = let l = left_small data' types TooDeep left h in let q : p.0 ≡ at.0 = ap (λ (p : Pos). p.0) is in (utf8, (left, omega (arith, e, l, q), h))
fault_first data' types Shape left at (g.TooDeep p) utf8 h e is = absurd is
fault_first data' types Shape left at (g.NotUtf8 p) utf8 h e is = absurd is
fault_first data' types Shape left at g.TooManyCells utf8 h e is = absurd is
fault_first data' types Shape left at g.NoMemory utf8 h e is = absurd is
fault_first data' types TooDeep left at (g.Shape p) utf8 h e is = absurd is
fault_first data' types TooDeep left at (g.NotUtf8 p) utf8 h e is = absurd is
fault_first data' types TooDeep left at g.TooManyCells utf8 h e is = absurd is
fault_first data' types TooDeep left at g.NoMemory utf8 h e is = absurd is

pub are_read : (cells cells' : List Cell) (data' : Text) (types : List Type') (words : List Word) → IsUtf8 data' → NameEarlier cells' → IsRead cells cells' data' types words → length cells' - length cells ≤ 1048576 → AreRead cells cells' data' types words
are_read cells cells' data' types words utf8 earlier r few =
    let l = ap length r.grows.1 in
    let m = length-append cells r.grows.0 in
    let c = r.count in
    record {
      values = r.values;
      spelled = record { utf8 = utf8; spelled = r.spelled };
      stand = subst (StandForAll cells' words) (sym r.same) (all_stand cells' words earlier r.below);
      more = r.grows.0;
      grows = r.grows.1;
      count = omega (arith, l, m, c);
      few = omega (arith, l, m, few);
    }
