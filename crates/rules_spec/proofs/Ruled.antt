-- The rules hold exactly where the conditions do, form by form.
use Rattle.std.proofs.Common.{append-nil, ◌≡◌, refl, ap, sym, ◌∙◌, arith, subst}
use Rattle.std.specs.Prelude.{ℕ, zero, suc, ◌+◌, ◌-◌, ◌<◌, ◌≤◌, Bool, true, false, cond, List, [], ◌∷◌, ◌++◌, map, zip, length, nat_eq, slice_index_or, Option, None, Some, All}
use Rattle.std.proofs.lemmas.List.{map-append}
use Rattle.std.proofs.lemmas.List.Elements.{All-head, All-tail}
use Rattle.raml_syntax.specs.Tree.{Type', PairOf, ListOf, TreeOf, OptionOf}
use Rattle.base_poly.specs.Plain.{Plain, degrees}
use Rattle.base_poly.specs.Indices.{index_list}
use Rattle.base_poly.proofs.Exact.{each_listed}
use Rattle.index_shift.specs.Potential.{Annotation}
use Rattle.index_shift.specs.Potential as i
use Rattle.index_shift.specs.Parts.{type_parts}
use Rattle.index_shift.specs.Maps.{in_place, none, twice, Carry, opening, sharing, variable_type, behind, opens, leaves, joins}
use Rattle.normal_spec.specs.Norm as n
use Rattle.normal_spec.specs.Norm.{Norm, NormFun}
use Rattle.normal_spec.specs.One.{type_or}
use Rattle.normal_spec.specs.Free.{find, put, free_in}
use Rattle.index_shift.specs.Contexts.{marked_items, projects, permutes}
use Rattle.normal_spec.specs.Context.{Context, types, place, without, opened, parts_of, copies_of, IsIn, inners, others, type_in}
use Rattle.annot_types.specs.Carried as m
use Rattle.annot_types.specs.Carried.{Covers, less, more, to, operand_places, tuples, marks, part}
use Rattle.annot_types.specs.Certificate as cert
use Rattle.annot_types.specs.Certificate.{Entries, annotation, Annotates}
use Rattle.cost_free.specs.declared.task.Meter.{Meter}
use Rattle.cost_free.specs.declared.task.Meter.TheVariants.{Ticks}
use Rattle.annot_types.specs.Rules.{Mode, With, Own, Past, Setting, CallRule, Parts, Ann}
use Rattle.annot_types.specs.Rules as r
use Rattle.normal_spec.specs.Uses.{Takes, Uses}
use Rattle.annot_types.specs.Rows.{size as size_of}
use Rattle.rules_spec.specs.Plan as p
use Rattle.rules_spec.specs.Plan.{Plan, Step, Part, Called}
use Rattle.rules_spec.specs.Numbers.{Numbers, Known, Sides, Signature, Hint, Results, Copies, Multiples, Walked}
use Rattle.rules_spec.specs.Kinds.{Amount, amounts}
use Rattle.rules_spec.specs.Walk.{Walk, and_then, numbered, still, mode_at, charge, nothing, at_zero, moved, against, brought, joined, each, walk, walks}
use Rattle.rules_spec.specs.Asked.{Ask, ResultsOf, CopiesOf, MultiplesOf, asked, all_asked, each_asked, behind_asked}
use Rattle.rules_spec.specs.Planned.{entries_of, step, zero_alone, part_steps, operand_entries, lower, let_part, plan, called}
use Rattle.rules_spec.specs.Stand.{known_in, Within, Stands, StandForEach, Answered, Tells, Ranged}
use Rattle.rules_spec.proofs.Standing.{some_position, ranged, same_annotation, brought_stands, nothing_stands, moved_stands, less_stands, covers_to, covers_from}
use Rattle.rules_spec.proofs.Left.{left_of, each_left, all_left, behind_append}
use Rattle.rules_spec.proofs.Agreed.{Spends, meet_append, meet_front, meet_back, answered_front, answered_back, row_to, row_from, split_to, split_from, nodes_first, tick_price, begun_tells, ends_tells, then_tells}

-- types of contexts
types_zip : (x : ℕ) (new C : Context) (A : Type') (g : Type' → List Type') → find x C ≡ Some A → types new ≡ g A → types (put x new C) ≡ in_place (place x C) g (types C)
types_zip x new [] A g h e = let no : ◌≡◌ {A = Option Type'} None (Some A) = h in absurd (cc)
types_zip x new (v ∷ C) A g h e = by (types_zip x new C A g) (nat_eq x v.0) h where
  by : (find x C ≡ Some A → types new ≡ g A → types (put x new C) ≡ in_place (place x C) g (types C)) → (c : Bool) → cond c (Some v.1) (find x C) ≡ Some A →
      types (cond c (new ++ C) (v ∷ put x new C)) ≡ in_place (cond c 0 (suc (place x C))) g (v.1 ∷ types C)
  by go true k =
      let same : v.1 ≡ A = cc in
      map-append (λ (u : ℕ × Type'). u.1) new C ∙ ap (λ l. l ++ types C) (e ∙ ap g (sym same))
  by go false k = ap (λ l. v.1 ∷ l) (go k e)

pub types_without : (x : ℕ) (C : Context) → types (without x C) ≡ in_place (place x C) none (types C)
types_without x [] = refl
types_without x (v ∷ C) = by (types_without x C) (nat_eq x v.0) where
  by : types (without x C) ≡ in_place (place x C) none (types C) → (c : Bool) → types (cond c C (v ∷ without x C)) ≡ in_place (cond c 0 (suc (place x C))) none (v.1 ∷ types C)
  by go true = refl
  by go false = ap (λ l. v.1 ∷ l) go

pub takes_one : (C : Context) (x : ℕ) (A : Type') → Takes C (x ∷ []) (A ∷ []) → types C ≡ A ∷ []
takes_one [] x A h = let no : ◌≡◌ {A = Option Type'} None (Some A) = h.0 in absurd (cc)
takes_one (v ∷ C) x A h = by (nat_eq x v.0) h.0 h.1 where
  by : (c : Bool) → cond c (Some v.1) (find x C) ≡ Some A → cond c C (v ∷ without x C) ≡ [] → types (v ∷ C) ≡ A ∷ []
  by true e n = let same : v.1 ≡ A = cc in λ j. same j ∷ types (n j)
  by false e n = let no : ◌≡◌ {A = List (ℕ × Type')} (v ∷ without x C) [] = n in absurd (cc)

pub types_opened : (x : ℕ) (ys : List ℕ) (parts g : Type' → List Type') (C : Context) (A : Type') → IsIn x A C → types (zip ys (parts A)) ≡ g A → types (opened x ys parts C) ≡ in_place (place x C) g (types C)
types_opened x ys parts g C A h e =
    types_zip x (zip ys (parts (type_in x C))) C A g h (ap (λ B. types (zip ys (parts B))) (ap type_or h) ∙ e)

-- the bound form's variables
pub types_used : (a : Norm) (C : Context) → types (inners a C) ≡ marked_items (marks a C) (types C)
types_used a [] = refl
types_used a (v ∷ C) = by (types_used a C) (free_in v.0 a) where
  by : types (inners a C) ≡ marked_items (marks a C) (types C) → (c : Bool) → types (cond c (v ∷ inners a C) (inners a C)) ≡ marked_items (c ∷ marks a C) (v.1 ∷ types C)
  by go true = ap (λ l. v.1 ∷ l) go
  by go false = go

-- positions below the number of a context's tuples
pub annotates_within : (As : List Type') (d : ℕ) (es : Entries) → Annotates As d es → Within (size_of As d) es
annotates_within As d [] h = tt
annotates_within As d (e ∷ es) h = (h.0, annotates_within As d es h.1)

pub within_annotates : (As : List Type') (d : ℕ) (es : Entries) → Within (size_of As d) es → Annotates As d es
within_annotates As d [] h = tt
within_annotates As d (e ∷ es) h = (h.0, within_annotates As d es h.1)

zero_before : (j : ℕ) → 0 + j ≡ j
zero_before j = omega arith

-- entries to a context that has these types
pub ranged_to : (c : Carry) (As Bs Ds : List Type') (b d : ℕ) → Ds ≡ Bs → Ranged (size_of As b) (size_of Ds d) (entries_of c As b Bs d)
ranged_to c As Bs Ds b d e = subst (λ Ds. Ranged (size_of As b) (size_of Ds d) (entries_of c As b Bs d)) (sym e) (ranged c (index_list As b) (index_list Bs d))

-- the plans at lower budgets
pub lower_asked : (f : ℕ → Plan) (d g : ℕ) → g ≤ d → slice_index_or (all_asked (lower f d)) g [] ≡ asked (f (d - g))
lower_asked f zero zero h = ap (λ k. asked (f k)) (omega arith)
lower_asked f zero (suc g) h = absurd (omega (arith, h))
lower_asked f (suc d) zero h = ap (λ k. asked (f k)) (omega arith)
lower_asked f (suc d) (suc g) h = lower_asked f d g (omega (arith, h)) ∙ ap (λ k. asked (f k)) (omega arith)

pub lower_walks : {E : Type 0} (A : Numbers E) (K : Known E) (f : ℕ → Plan) (d g : ℕ) → g ≤ d → slice_index_or (walks A K (lower f d)) g still ≡ walk A K (f (d - g))
lower_walks A K f zero zero h = ap (λ k. walk A K (f k)) (omega arith)
lower_walks A K f zero (suc g) h = absurd (omega (arith, h))
lower_walks A K f (suc d) zero h = ap (λ k. walk A K (f k)) (omega arith)
lower_walks A K f (suc d) (suc g) h = lower_walks A K f d g (omega (arith, h)) ∙ ap (λ k. walk A K (f k)) (omega arith)

pub low_degrees : (As : List Type') (d : ℕ) → All (λ j. degrees j ≤ d) (index_list As d)
low_degrees As d = each_listed (λ j. degrees j ≤ d) As d (λ t h l. l)

module _ (S : Setting) (group : List (Sides Amount)) (free : ℕ → ℕ → Signature) (cost : Meter → ℕ → Option Signature) where
  abbrev P : Norm → Context → Type' → ℕ → Plan
  P = plan S.program S.group S.earlier S.budget

  abbrev W : Plan → Walk Amount
  W = walk (amounts 1) (known_in S group free cost)

  abbrev Ws : p.Plans → List (Walk Amount)
  Ws = walks (amounts 1) (known_in S group free cost)

  -- what is left of the hints by the rules
  abbrev pub Outs : Norm → Type 0
  Outs e = (mode : Mode) (d : ℕ) (C : Context) (q : Annotation) (T : Type') (s : Annotation) (hs out : List cert.Hint) → Ann S mode d C q e T s hs out → behind_asked (asked (P e C T d)) hs ≡ out

  abbrev child : Norm → Context → Type' → ℕ → Annotation → Mode → List Plain → Annotation → List cert.Hint → List cert.Hint → Type 0
  child a C A d q mode j s hs out = Ann S mode (d - degrees j) (inners a C) (part a C d j q) a A s hs out

  abbrev asks : Norm → Context → Type' → ℕ → List (List Plain) → List Ask
  asks a C A d js = each_asked (all_asked (lower (P a (inners a C) A) d)) (map (let_part a C A d) js)

  parts_out : (a : Norm) → Outs a → (C : Context) (A : Type') (d : ℕ) (q : Annotation) (mode : Mode) (js : List (List Plain)) (rs : List Entries) (hs out : List cert.Hint) →
      All (λ j. degrees j ≤ d) js → Parts A d (child a C A d q) mode js rs hs out → behind_asked (asks a C A d js) hs ≡ out
  parts_out a o C A d q mode [] [] hs out l h = h
  parts_out a o C A d q mode [] (s ∷ rs) hs out l h = absurd h
  parts_out a o C A d q mode (j ∷ js) [] hs out l h = absurd h
  parts_out a o C A d q mode (j ∷ js) (s ∷ rs) hs out l h =
      behind_append (slice_index_or (all_asked (lower (P a (inners a C) A) d)) (degrees j) []) (asks a C A d js) hs
      ∙ ap (λ ks. behind_asked (asks a C A d js) (behind_asked ks hs)) (lower_asked (P a (inners a C) A) d (degrees j) (All-head (λ j. degrees j ≤ d) j js l))
      ∙ ap (behind_asked (asks a C A d js)) (o mode (d - degrees j) (inners a C) (part a C d j q) A (annotation s) hs h.0 h.2)
      ∙ parts_out a o C A d q Past js rs h.0 out (All-tail (λ j. degrees j ≤ d) j js l) h.3

  call_out : (hs out : List cert.Hint) (ks : List ℕ) (rule : Entries → Type 0) → r.TakesCall hs (λ ms hs. rule ms × (hs ≡ out)) → behind_asked (MultiplesOf ks ∷ []) hs ≡ out
  call_out [] out ks rule h = absurd h
  call_out (cert.Let rs ∷ hs) out ks rule h = absurd h
  call_out (cert.Share s ∷ hs) out ks rule h = absurd h
  call_out (cert.Call ms ∷ hs) out ks rule h = h.1

  share_out : (hs out : List cert.Hint) (k : ℕ) (ks : List Ask) (place cover : Entries → Type 0) (rest : Entries → List cert.Hint → Type 0) → ((s : Entries) (hs : List cert.Hint) → rest s hs → behind_asked ks hs ≡ out) →
      r.TakesShare hs (λ s hs. place s × cover s × rest s hs) → behind_asked (CopiesOf k ∷ ks) hs ≡ out
  share_out [] out k ks place cover rest o h = absurd h
  share_out (cert.Let rs ∷ hs) out k ks place cover rest o h = absurd h
  share_out (cert.Share s ∷ hs) out k ks place cover rest o h = o s hs h.2
  share_out (cert.Call ms ∷ hs) out k ks place cover rest o h = absurd h

  let_out : (hs out : List cert.Hint) (k : Ask) (ks : List Ask) (rule : List Entries → List cert.Hint → Type 0) → ((rs : List Entries) (hs : List cert.Hint) → rule rs hs → behind_asked ks hs ≡ out) →
      r.TakesLet hs rule → behind_asked (k ∷ ks) hs ≡ out
  let_out [] out k ks rule o h = absurd h
  let_out (cert.Let rs ∷ hs) out k ks rule o h = o rs hs h
  let_out (cert.Share s ∷ hs) out k ks rule o h = absurd h
  let_out (cert.Call ms ∷ hs) out k ks rule o h = absurd h

  two_out : (ks ls : List Ask) (hs mid out : List cert.Hint) → behind_asked ks hs ≡ mid → behind_asked ls mid ≡ out → behind_asked (ks ++ ls) hs ≡ out
  two_out ks ls hs mid out e f = behind_append ks ls hs ∙ ap (behind_asked ls) e ∙ f

  outs : (e : Norm) → Outs e
  outs (n.Var w x) mode d C q T s hs out h = h.1
  outs (n.Number w k) mode d C q T s hs out h = h.1
  outs (n.Truth w k) mode d C q T s hs out h = h.1
  outs (n.Nil w) mode d C q T s hs out h = h.1
  outs (n.Leaf w) mode d C q T s hs out h = h.1
  outs (n.Nothing w) mode d C q T s hs out h = h.1
  outs (n.Arith w op x y) mode d C q T s hs out h = h.1
  outs (n.Compare w op x y) mode d C q T s hs out h = h.1
  outs (n.Not w x) mode d C q T s hs out h = h.1
  outs (n.Pair w x y) mode d C q T s hs out h = h.1
  outs (n.Cons w x y) mode d C q T s hs out h = h.1
  outs (n.Node w x y z) mode d C q T s hs out h = h.1
  outs (n.Just w x) mode d C q T s hs out h = h.1
  outs (n.Call w f xs) mode d C q T s hs out h = call_out hs out (called S.program S.group S.earlier S.budget C f xs T d).usable _ h.1
  outs (n.Let w x A a e) mode d C q T s hs out h =
      let_out hs out (ResultsOf (map (λ (part : Part). part.size) (map (let_part a C A d) (index_list (types (others a C)) d)))) (asks a C A d (index_list (types (others a C)) d) ++ asked (P e (others a C ++ (x, A) ∷ []) T d)) _
      (λ rs hs g. two_out (asks a C A d (index_list (types (others a C)) d)) (asked (P e (others a C ++ (x, A) ∷ []) T d)) hs g.0 out
      (parts_out a (outs a) C A d (less (r.price S mode w 0 0) q) mode (index_list (types (others a C)) d) rs hs g.0 (low_degrees (types (others a C)) d) g.1)
      (outs e mode d (others a C ++ (x, A) ∷ []) _ T s g.0 out g.2)) h.1
  outs (n.Split w x y z e) mode d C q T s hs out h = outs e mode d _ _ T s hs out h.1
  outs (n.If w x a e) mode d C q T s hs out h =
      two_out (asked (P a (without x C) T d)) (asked (P e (without x C) T d)) hs h.1.0 out (outs a mode d (without x C) _ T s hs h.1.0 h.1.1) (outs e mode d (without x C) _ T s h.1.0 out h.1.2)
  outs (n.CaseList w x a y z e) mode d C q T s hs out h =
      two_out (asked (P a (without x C) T d)) (asked (P e (opened x (y ∷ z ∷ []) parts_of C) T d)) hs h.1.0 out (outs a mode d (without x C) _ T s hs h.1.0 h.1.1) (outs e mode d _ _ T s h.1.0 out h.1.2)
  outs (n.CaseTree w x a y z u e) mode d C q T s hs out h =
      two_out (asked (P a (without x C) T d)) (asked (P e (opened x (y ∷ z ∷ u ∷ []) parts_of C) T d)) hs h.1.0 out (outs a mode d (without x C) _ T s hs h.1.0 h.1.1) (outs e mode d _ _ T s h.1.0 out h.1.2)
  outs (n.CaseOption w x a y e) mode d C q T s hs out h =
      two_out (asked (P a (without x C) T d)) (asked (P e (opened x (y ∷ []) parts_of C) T d)) hs h.1.0 out (outs a mode d (without x C) _ T s hs h.1.0 h.1.1) (outs e mode d _ _ T s h.1.0 out h.1.2)
  outs (n.Tick w k e) mode d C q T s hs out h = outs e mode d C _ T s hs out h.1
  outs (n.Share w x y z e) mode d C q T s hs out h =
      share_out hs out (size_of (types (opened x (y ∷ z ∷ []) copies_of C)) d) (asked (P e (opened x (y ∷ z ∷ []) copies_of C) T d)) _ _ _ (λ p hs g. outs e mode d (opened x (y ∷ z ∷ []) copies_of C) (annotation p) T s hs out g) h.1
  outs (n.Drop w x e) mode d C q T s hs out h = outs e mode d (without x C) _ T s hs out h.1

  -- the rules of a form hold exactly where its conditions do
  abbrev pub Agrees : Norm → Type 0
  Agrees e = (mode : Mode) (d : ℕ) (C : Context) (T : Type') (q s : Annotation) (a c : List Amount) (path : List ℕ) (hs out : List cert.Hint) (xs left : List (Hint Amount)) → Uses S.program.funs C e T →
      Stands (size_of (types C) d) a q → Stands (size_of (T ∷ []) d) c s → Answered (asked (P e C T d)) hs xs out left → Tells (W (P e C T d) mode path a c xs) (Ann S mode d C q e T s hs out)

  abbrev first_of : Annotation → Annotation
  first_of s = i.moved (record { from = 0; to = 0; times = 1 } ∷ []) s

  -- a form that has only its first entry compared
  first_tells : (mode : Mode) (w d : ℕ) (C : Context) (T : Type') (q s : Annotation) (a c : List Amount) (path : List ℕ) (hs out : List cert.Hint) (xs left : List (Hint Amount)) →
      Stands (size_of (types C) d) a q → Stands (size_of (T ∷ []) d) c s → Answered [] hs xs out left →
      Tells (W (p.Ends w 0 zero_alone) mode path a c xs) (Spends (r.price S mode w 0 0) q (λ p. s 0 ≤ p 0) × (hs ≡ out))
  first_tells mode w d C T q s a c path hs out xs left u v h =
      let st : Step = record { size = 1; entries = record { from = 0; to = 0; times = 1 } ∷ [] } in
      let t = ends_tells S group free cost mode w 0 (size_of (types C) d) 1 a (moved (amounts 1) st c) q (first_of s) path xs hs out (omega arith) (omega (arith, some_position (types C) d)) u
      (moved_stands (size_of (T ∷ []) d) c s st (some_position (T ∷ []) d, omega arith, tt) v) h.0 in
      record {
        to = λ g. t.to ((g.0.0, λ j b. up j b g.0.1), g.1);
        from = λ g. let k = t.from g in ((k.0.0, down (k.0.1 0 (omega arith))), k.1);
      } where
        up : (j : ℕ) → j < 1 → s 0 ≤ less (r.price S mode w 0 0) q 0 → first_of s j ≤ less (r.price S mode w 0 0) q j
        up zero b g = omega (arith, g)
        up (suc j) b g = absurd (omega (arith, b))

        down : first_of s 0 ≤ less (r.price S mode w 0 0) q 0 → s 0 ≤ less (r.price S mode w 0 0) q 0
        down g = omega (arith, g)

  -- a form that makes a cell of its parts
  parts_tell : (mode : Mode) (w d : ℕ) (C : Context) (vs : List ℕ) (T : Type') (q s : Annotation) (a c : List Amount) (path : List ℕ) (hs out : List cert.Hint) (xs left : List (Hint Amount)) →
      Stands (size_of (types C) d) a q → Stands (size_of (T ∷ []) d) c s → Answered [] hs xs out left →
      Tells (W (p.Ends w 1 (part_steps C vs T d)) mode path a c xs) (Spends (r.price S mode w 0 1) q (λ p. Covers (types C) d p (m.at_parts C vs T d s)) × (hs ≡ out))
  parts_tell mode w d C vs T q s a c path hs out xs left u v h =
      let one = step (type_parts T) d (opening (T ∷ []) 0 d) in let two = step (types C) d (operand_entries C vs (type_parts T) d d) in
      let first = moved_stands (size_of (T ∷ []) d) c s one (ranged_to (behind 0 (opens (variable_type (T ∷ []) 0))) (T ∷ []) (in_place 0 type_parts (T ∷ [])) (type_parts T) d d (sym (append-nil (type_parts T)))) v in
      let second = moved_stands (size_of (type_parts T) d) (moved (amounts 1) one c) (i.moved one.entries s) two (ranged (permutes (operand_places C vs)) (index_list (type_parts T) d) (index_list (types C) d)) first in
      ends_tells S group free cost mode w 1 (size_of (types C) d) (size_of (types C) d) a (moved (amounts 1) two (moved (amounts 1) one c)) q (m.at_parts C vs T d s) path xs hs out
      (some_position (types C) d) (omega arith) u second h.0

  -- a form that goes on with a moved annotation
  moves_tell : (mode : Mode) (w d : ℕ) (C : Context) (D : Context) (e : Norm) (T : Type') (q s : Annotation) (a c : List Amount) (path : List ℕ) (hs out : List cert.Hint) (xs left : List (Hint Amount))
      (carry : Carry) (Bs : List Type') → types D ≡ Bs → Agrees e → Uses S.program.funs D e T →
      Stands (size_of (types C) d) a q → Stands (size_of (T ∷ []) d) c s → Answered (asked (P e D T d)) hs xs out left →
      Tells (W (p.Moves w (step (types D) d (entries_of carry (types C) d Bs d)) (P e D T d)) mode path a c xs)
      (Spends (r.price S mode w 0 0) q (λ p. Ann S mode d D (i.moved (entries_of carry (types C) d Bs d) p) e T s hs out))
  moves_tell mode w d C D e T q s a c path hs out xs left carry Bs ty ih us u v h =
      let st = step (types D) d (entries_of carry (types C) d Bs d) in
      begun_tells S group free cost w mode path (size_of (types C) d) a q _ (λ p. Ann S mode d D (i.moved st.entries p) e T s hs out) (some_position (types C) d) u (λ j a' p s'.
      ih mode d D T (i.moved st.entries p) s (moved (amounts 1) st a') c (path ++ 0 ∷ []) hs out xs left us
      (moved_stands (size_of (types C) d) a' p st (ranged_to carry (types C) Bs (types D) d d ty) s') v h)

  -- a form with two branches
  forks_tell : (mode : Mode) (w d : ℕ) (C : Context) (D D' : Context) (e e' : Norm) (T : Type') (q s : Annotation) (a c : List Amount) (path : List ℕ) (hs out : List cert.Hint) (xs left : List (Hint Amount))
      (carry carry' : Carry) (Bs Bs' : List Type') → types D ≡ Bs → types D' ≡ Bs' → Agrees e → Agrees e' → Uses S.program.funs D e T → Uses S.program.funs D' e' T →
      Stands (size_of (types C) d) a q → Stands (size_of (T ∷ []) d) c s → Answered (asked (P e D T d) ++ asked (P e' D' T d)) hs xs out left →
      Tells (W (p.Forks w (step (types D) d (entries_of carry (types C) d Bs d)) (P e D T d) (step (types D') d (entries_of carry' (types C) d Bs' d)) (P e' D' T d)) mode path a c xs)
      (Spends (r.price S mode w 0 0) q (λ p. (mid : List cert.Hint)
      × Ann S mode d D (i.moved (entries_of carry (types C) d Bs d) p) e T s hs mid
      × Ann S mode d D' (i.moved (entries_of carry' (types C) d Bs' d) p) e' T s mid out))
  forks_tell mode w d C D D' e e' T q s a c path hs out xs left carry carry' Bs Bs' ty ty' ih ih' us us' u v h =
      let st = step (types D) d (entries_of carry (types C) d Bs d) in let st' = step (types D') d (entries_of carry' (types C) d Bs' d) in
      let ks = asked (P e D T d) in let ls = asked (P e' D' T d) in let mid = behind_asked ks hs in let rest = behind_asked ks xs in
      begun_tells S group free cost w mode path (size_of (types C) d) a q _ (λ p. (mid : List cert.Hint) × Ann S mode d D (i.moved st.entries p) e T s hs mid × Ann S mode d D' (i.moved st'.entries p) e' T s mid out) (some_position (types C) d) u (λ j a' p s'.
      let b1 = moved (amounts 1) st a' in let b2 = moved (amounts 1) st' a' in
      let t = then_tells S group free cost (W (P e D T d) mode (path ++ 0 ∷ []) b1 c xs) (λ l. W (P e' D' T d) mode (path ++ 1 ∷ []) b2 c l) rest
      (Ann S mode d D (i.moved st.entries p) e T s hs mid) (Ann S mode d D' (i.moved st'.entries p) e' T s mid out)
      (left_of (amounts 1) (known_in S group free cost) (P e D T d) mode (path ++ 0 ∷ []) b1 c xs)
      (ih mode d D T (i.moved st.entries p) s b1 c (path ++ 0 ∷ []) hs mid xs rest us (moved_stands (size_of (types C) d) a' p st (ranged_to carry (types C) Bs (types D) d d ty) s') v (answered_front ks ls hs xs out left h))
      (ih' mode d D' T (i.moved st'.entries p) s b2 c (path ++ 1 ∷ []) mid out rest left us' (moved_stands (size_of (types C) d) a' p st' (ranged_to carry' (types C) Bs' (types D') d d ty') s') v (answered_back ks ls hs xs out left h)) in
      record {
        to = λ g. t.to (
          subst (λ l. Ann S mode d D (i.moved st.entries p) e T s hs l) (sym (outs e mode d D (i.moved st.entries p) T s hs g.0 g.1)) g.1,
          subst (λ l. Ann S mode d D' (i.moved st'.entries p) e' T s l out) (sym (outs e mode d D (i.moved st.entries p) T s hs g.0 g.1)) g.2,
        );
        from = λ g. let k = t.from g in (mid, k.0, k.1);
      })

  -- a form that pays for ticks
  ticks_tell : (mode : Mode) (w k d : ℕ) (C : Context) (e : Norm) (T : Type') (q s : Annotation) (a c : List Amount) (path : List ℕ) (hs out : List cert.Hint) (xs left : List (Hint Amount)) →
      Agrees e → Uses S.program.funs C e T → Stands (size_of (types C) d) a q → Stands (size_of (T ∷ []) d) c s → Answered (asked (P e C T d)) hs xs out left →
      Tells (W (p.Pays w k (P e C T d)) mode path a c xs) (Spends (r.price S mode w k 0) q (λ p. Ann S mode d C p e T s hs out))
  ticks_tell mode w k d C e T q s a c path hs out xs left ih us u v h =
      let K = charge S.scale mode Ticks k in let rule = λ (p : Annotation). Ann S mode d C p e T s hs out in
      let t = begun_tells S group free cost w mode path (size_of (types C) d) a q _ (λ p. Spends K p rule) (some_position (types C) d) u (λ j a' p s'.
      let b = at_zero ((amounts 1).less K) a' in
      let next : K ≤ p 0 → Tells (W (P e C T d) mode (path ++ 0 ∷ []) b c xs) (rule (less K p)) =
      λ g. ih mode d C T (less K p) s b c (path ++ 0 ∷ []) hs out xs left us (less_stands (size_of (types C) d) a' p K s' g) v h in
      record {
        to = row_to a' p (size_of (types C) d) K path j (W (P e C T d) mode (path ++ 0 ∷ []) b c xs) (rule (less K p)) (some_position (types C) d) s' next;
        from = row_from a' p (size_of (types C) d) K path j (W (P e C T d) mode (path ++ 0 ∷ []) b c xs) (rule (less K p)) (some_position (types C) d) s' next;
      }) in
      let split : r.price S mode w k 0 ≡ r.price S mode w 0 0 + K = nodes_first S mode w k 0 ∙ ap (λ z. r.price S mode w 0 0 + z) (tick_price S mode k) in
      record { to = λ g. t.to (split_to S _ _ _ q rule split g); from = λ g. split_from S _ _ _ q rule split (t.from g) }

  -- a variable that is shared
  shares_tell : (mode : Mode) (w x y z d : ℕ) (C : Context) (e : Norm) (T : Type') (q s : Annotation) (a c : List Amount) (path : List ℕ) (hs out : List cert.Hint) (xs left : List (Hint Amount)) →
      types (opened x (y ∷ z ∷ []) copies_of C) ≡ in_place (place x C) twice (types C) →
      Agrees e → Uses S.program.funs (opened x (y ∷ z ∷ []) copies_of C) e T → Stands (size_of (types C) d) a q → Stands (size_of (T ∷ []) d) c s →
      Answered (asked (P (n.Share w x y z e) C T d)) hs xs out left →
      Tells (W (P (n.Share w x y z e) C T d) mode path a c xs) (Ann S mode d C q (n.Share w x y z e) T s hs out)
  shares_tell mode w x y z d C e T q s a c path [] out xs left ty ih us u v h = absurd h
  shares_tell mode w x y z d C e T q s a c path (g ∷ hs) out [] left ty ih us u v h = absurd h
  shares_tell mode w x y z d C e T q s a c path (cert.Let g ∷ hs) out (o ∷ xs) left ty ih us u v h = absurd h.0
  shares_tell mode w x y z d C e T q s a c path (cert.Call g ∷ hs) out (o ∷ xs) left ty ih us u v h = absurd h.0
  shares_tell mode w x y z d C e T q s a c path (cert.Share g ∷ hs) out (Results o ∷ xs) left ty ih us u v h = absurd h.0
  shares_tell mode w x y z d C e T q s a c path (cert.Share g ∷ hs) out (Multiples o ∷ xs) left ty ih us u v h = absurd h.0
  shares_tell mode w x y z d C e T q s a c path (cert.Share g ∷ hs) out (Copies o ∷ xs) left ty ih us u v h =
      let D = opened x (y ∷ z ∷ []) copies_of C in let es = sharing (types C) (place x C) d in let st = step (types C) d es in let g' = annotation g in
      let range : Ranged (size_of (types D) d) (size_of (types C) d) es =
      subst (λ Bs. Ranged (size_of Bs d) (size_of (types C) d) es) (sym ty) (ranged (behind (place x C) joins) (index_list (in_place (place x C) twice (types C)) d) (index_list (types C) d)) in
      let t = moved_stands (size_of (types D) d) o g' st range h.0.1 in
      begun_tells S group free cost w mode path (size_of (types C) d) a q _
      (λ p. Annotates (types D) d g × Covers (types C) d p (i.moved es g') × Ann S mode d D g' e T s hs out) (some_position (types C) d) u (λ j a' p s'.
      let k = ih mode d D T g' s o c (path ++ 0 ∷ []) hs out xs left us h.0.1 v h.1 in
      let cs = numbered path j (against (amounts 1) a' (moved (amounts 1) st o)) in let w' = W (P e D T d) mode (path ++ 0 ∷ []) o c xs in
      record {
        to = λ y. meet_append cs w'.found (covers_to (size_of (types C) d) (size_of (types C) d) a' (moved (amounts 1) st o) p (i.moved es g') path j (omega arith) s' t y.1) (k.to y.2);
        from = λ y. (
          within_annotates (types D) d g h.0.0,
          covers_from (size_of (types C) d) (size_of (types C) d) a' (moved (amounts 1) st o) p (i.moved es g') path j (omega arith) s' t (meet_front cs w'.found y),
          k.from (meet_back cs w'.found y),
        );
      })

  -- the bound expression of a Let, for each tuple from one on
  each_tells : (a₁ : Norm) → Agrees a₁ → (x : ℕ) (C : Context) (A : Type') (d : ℕ) → Uses S.program.funs (inners a₁ C) a₁ A → (q : Annotation) (a : List Amount) → Stands (size_of (types C) d) a q →
      (mode m₁ : Mode) (path : List ℕ) (all : List (List Amount)) (k : ℕ) → mode_at k mode ≡ m₁ → (js : List (List Plain)) (os : List (List Amount)) (rs : List Entries) (hs mid : List cert.Hint) (xs left : List (Hint Amount)) →
      ((j : ℕ) → slice_index_or all (k + j) [] ≡ slice_index_or os j []) → All (λ j. degrees j ≤ d) js → StandForEach (map (λ (part : Part). part.size) (map (let_part a₁ C A d) js)) os rs →
      Answered (asks a₁ C A d js) hs xs mid left →
      Tells (each (amounts 1) (known_in S group free cost) (Ws (lower (P a₁ (inners a₁ C) A) d)) k (map (let_part a₁ C A d) js) all a mode path xs) (Parts A d (child a₁ C A d q) m₁ js rs hs mid)
  each_tells a₁ ih x C A d us q a u mode m₁ path all k em [] [] [] hs mid xs left same low st h = record { to = λ g. tt; from = λ g. h.0 }
  each_tells a₁ ih x C A d us q a u mode m₁ path all k em [] (o ∷ os) rs hs mid xs left same low st h = absurd st
  each_tells a₁ ih x C A d us q a u mode m₁ path all k em [] [] (s ∷ rs) hs mid xs left same low st h = absurd st
  each_tells a₁ ih x C A d us q a u mode m₁ path all k em (j ∷ js) [] rs hs mid xs left same low st h = absurd st
  each_tells a₁ ih x C A d us q a u mode m₁ path all k em (j ∷ js) (o ∷ os) [] hs mid xs left same low st h = absurd st
  each_tells a₁ ih x C A d us q a u mode m₁ path all k em (j ∷ js) (o ∷ os) (s ∷ rs) hs mid xs left same low st h =
      let f = P a₁ (inners a₁ C) A in let g = degrees j in let e = f (d - g) in let lowj = All-head (λ j. degrees j ≤ d) j js low in
      let pt = let_part a₁ C A d j in let D = types (inners a₁ C) in
      let kse = lower_asked f d g lowj in
      let h' = subst (λ (ks : List Ask). Answered (ks ++ asks a₁ C A d js) hs xs mid left) kse h in
      let m' = behind_asked (asked e) hs in let l' = behind_asked (asked e) xs in
      let b = moved (amounts 1) pt.there a in let p = part a₁ C d j q in
      let walker = λ (w : Walk Amount) (mm : Mode) (r : List Amount). and_then (w mm (path ++ k ∷ []) b r xs) (λ rest. each (amounts 1) (known_in S group free cost) (Ws (lower f d)) (suc k) (map (let_part a₁ C A d) js) all a mode path rest) in
      let at_k : slice_index_or all k [] ≡ o = ap (λ z. slice_index_or all z []) (omega arith) ∙ same 0 in
      let t = then_tells S group free cost (W e m₁ (path ++ k ∷ []) b o xs)
      (λ rest. each (amounts 1) (known_in S group free cost) (Ws (lower f d)) (suc k) (map (let_part a₁ C A d) js) all a mode path rest) l'
      (child a₁ C A d q m₁ j (annotation s) hs m') (Parts A d (child a₁ C A d q) Past js rs m' mid)
      (left_of (amounts 1) (known_in S group free cost) e m₁ (path ++ k ∷ []) b o xs)
      (ih m₁ (d - g) (inners a₁ C) A p (annotation s) b o (path ++ k ∷ []) hs m' xs l' us
      (moved_stands (size_of (types C) d) a q pt.there (ranged_to (projects (marks a₁ C) j) (types C) (marked_items (marks a₁ C) (types C)) D d (d - g) (types_used a₁ C)) u) st.0.1 (answered_front (asked e) (asks a₁ C A d js) hs xs mid left h'))
      (each_tells a₁ ih x C A d us q a u mode Past path all (suc k) refl js os rs m' mid l' left (λ i. ap (λ z. slice_index_or all z []) (omega arith) ∙ same (suc i)) (All-tail (λ j. degrees j ≤ d) j js low) st.1
      (answered_back (asked e) (asks a₁ C A d js) hs xs mid left h')) in
      subst (λ (y : Walked Amount). Tells y (Parts A d (child a₁ C A d q) m₁ (j ∷ js) (s ∷ rs) hs mid))
      (λ i. walker (sym (lower_walks (amounts 1) (known_in S group free cost) f d g lowj) i) (sym em i) (sym at_k i))
      (record {
        to = λ z. let left_is = sym (outs a₁ m₁ (d - g) (inners a₁ C) p A (annotation s) hs z.0 z.2) in
            t.to (subst (λ l. child a₁ C A d q m₁ j (annotation s) hs l) left_is z.2, subst (λ l. Parts A d (child a₁ C A d q) Past js rs l mid) left_is z.3);
        from = λ z. let y = t.from z in (m', within_annotates (A ∷ []) (d - g) s st.0.0, y.0, y.1);
      })

  -- what stands at the context behind a Let
  joined_stands : (a₁ : Norm) (C : Context) (A : Type') (d : ℕ) (all : List (List Amount)) (k : ℕ) (js : List (List Plain)) (os : List (List Amount)) (rs : List Entries) (c : List Amount) (p : Annotation) →
      ((j : ℕ) → slice_index_or all (k + j) [] ≡ slice_index_or os j []) → StandForEach (map (λ (part : Part). part.size) (map (let_part a₁ C A d) js)) os rs → Stands (size_of (types (others a₁ C) ++ A ∷ []) d) c p →
      Stands (size_of (types (others a₁ C) ++ A ∷ []) d) (joined (amounts 1) c k (map (let_part a₁ C A d) js) all) (λ i. p i + m.joined (types (others a₁ C)) A d js (map annotation rs) i)
  joined_stands a₁ C A d all k [] os rs c p same st u = same_annotation _ c p _ u (λ i b. omega arith)
  joined_stands a₁ C A d all k (j ∷ js) [] rs c p same st u = absurd st
  joined_stands a₁ C A d all k (j ∷ js) (o ∷ os) [] c p same st u = absurd st
  joined_stands a₁ C A d all k (j ∷ js) (o ∷ os) (s ∷ rs) c p same st u =
      let Bs = types (others a₁ C) ++ A ∷ [] in let n = size_of Bs d in let pt = let_part a₁ C A d j in
      let one = brought_stands (size_of (A ∷ []) (d - degrees j)) n o (annotation s) pt.joins c p (ranged (to (λ t. j ++ t)) (index_list (A ∷ []) (d - degrees j)) (index_list Bs d)) st.0.1 u in
      let at_k : slice_index_or all k [] ≡ o = ap (λ z. slice_index_or all z []) (omega arith) ∙ same 0 in
      let next = joined_stands a₁ C A d all (suc k) js os rs (brought (amounts 1) c pt.joins o) (λ h. p h + i.moved pt.joins (annotation s) h) (λ i. ap (λ z. slice_index_or all z []) (omega arith) ∙ same (suc i)) st.1 one in
      let whole = same_annotation n (joined (amounts 1) (brought (amounts 1) c pt.joins o) (suc k) (map (let_part a₁ C A d) js) all) _ (λ i. p i + m.joined (types (others a₁ C)) A d (j ∷ js) (map annotation (s ∷ rs)) i) next (λ i b. omega arith) in
      subst (λ y. Stands n (joined (amounts 1) (brought (amounts 1) c pt.joins y) (suc k) (map (let_part a₁ C A d) js) all) (λ i. p i + m.joined (types (others a₁ C)) A d (j ∷ js) (map annotation (s ∷ rs)) i)) (sym at_k) whole

  lets_tell : (mode : Mode) (w x d : ℕ) (A : Type') (C : Context) (a₁ e : Norm) (T : Type') (q s : Annotation) (a c : List Amount) (path : List ℕ) (hs out : List cert.Hint) (xs left : List (Hint Amount)) →
      Agrees a₁ → Agrees e → Uses S.program.funs C (n.Let w x A a₁ e) T → Stands (size_of (types C) d) a q → Stands (size_of (T ∷ []) d) c s →
      Answered (asked (P (n.Let w x A a₁ e) C T d)) hs xs out left →
      Tells (W (P (n.Let w x A a₁ e) C T d) mode path a c xs) (Ann S mode d C q (n.Let w x A a₁ e) T s hs out)
  lets_tell mode w x d A C a₁ e T q s a c path [] out xs left ia ie us u v h = absurd h
  lets_tell mode w x d A C a₁ e T q s a c path (g ∷ hs) out [] left ia ie us u v h = absurd h
  lets_tell mode w x d A C a₁ e T q s a c path (cert.Share g ∷ hs) out (o ∷ xs) left ia ie us u v h = absurd h.0
  lets_tell mode w x d A C a₁ e T q s a c path (cert.Call g ∷ hs) out (o ∷ xs) left ia ie us u v h = absurd h.0
  lets_tell mode w x d A C a₁ e T q s a c path (cert.Let g ∷ hs) out (Copies o ∷ xs) left ia ie us u v h = absurd h.0
  lets_tell mode w x d A C a₁ e T q s a c path (cert.Let g ∷ hs) out (Multiples o ∷ xs) left ia ie us u v h = absurd h.0
  lets_tell mode w x d A C a₁ e T q s a c path (cert.Let rs ∷ hs) out (Results os ∷ xs) left ia ie us u v h =
      let js = index_list (types (others a₁ C)) d in let low = low_degrees (types (others a₁ C)) d in let D = others a₁ C ++ (x, A) ∷ [] in
      let Bs = types (others a₁ C) ++ A ∷ [] in let ks = asks a₁ C A d js in let ls = asked (P e D T d) in
      let parts = map (let_part a₁ C A d) js in let ws = Ws (lower (P a₁ (inners a₁ C) A) d) in
      let mid = behind_asked ks hs in let rest = behind_asked ks xs in
      let ty : types D ≡ Bs = map-append (λ (v : ℕ × Type'). v.1) (others a₁ C) ((x, A) ∷ []) in
      let size = size_of (types D) d in
      let both = joined (amounts 1) (nothing (amounts 1) size) 0 parts os in
      let ann = m.joined (types (others a₁ C)) A d js (map annotation rs) in
      let same = λ (j : ℕ). ap (λ z. slice_index_or os z []) (zero_before j) in
      let st : Stands size both ann = subst (λ Ds. Stands (size_of Ds d) (joined (amounts 1) (nothing (amounts 1) (size_of Ds d)) 0 parts os) ann) (sym ty)
      (same_annotation (size_of Bs d) _ (λ i. 0 + ann i) ann (joined_stands a₁ C A d os 0 js os rs (nothing (amounts 1) (size_of Bs d)) (λ i. 0) same h.0 (nothing_stands (size_of Bs d))) (λ i b. omega arith)) in
      begun_tells S group free cost w mode path (size_of (types C) d) a q _
      (λ p. (mid : List cert.Hint) × Parts A d (child a₁ C A d p) mode js rs hs mid × Ann S mode d D ann e T s mid out) (some_position (types C) d) u (λ j a' p s'.
      let first = each (amounts 1) (known_in S group free cost) ws 0 parts os a' mode path xs in
      let t = then_tells S group free cost first (λ l. W (P e D T d) mode (path ++ length parts ∷ []) both c l) rest
      (Parts A d (child a₁ C A d p) mode js rs hs mid) (Ann S mode d D ann e T s mid out)
      (each_left (amounts 1) (known_in S group free cost) ws (all_asked (lower (P a₁ (inners a₁ C) A) d)) (all_left (amounts 1) (known_in S group free cost) (lower (P a₁ (inners a₁ C) A) d)) 0 parts os a' mode path xs)
      (each_tells a₁ ia x C A d us.1 p a' s' mode mode path os 0 refl js os rs hs mid xs rest same low h.0 (answered_front ks ls hs xs out left h.1))
      (ie mode d D T ann s both c (path ++ length parts ∷ []) mid out rest left us.2 st v (answered_back ks ls hs xs out left h.1)) in
      record {
        to = λ z. t.to (
          subst (λ l. Parts A d (child a₁ C A d p) mode js rs hs l) (sym (parts_out a₁ (outs a₁) C A d p mode js rs hs z.0 low z.1)) z.1,
          subst (λ l. Ann S mode d D ann e T s l out) (sym (parts_out a₁ (outs a₁) C A d p mode js rs hs z.0 low z.1)) z.2,
        );
        from = λ z. let y = t.from z in (mid, y.0, y.1);
      })

  -- What calls tell is a premise here.
  abbrev pub CallsTell : Type 0
  CallsTell = (w f : ℕ) (vs : List ℕ) → Agrees (n.Call w f vs)

  pub agree : CallsTell → (e : Norm) → Agrees e
  agree calls (n.Var w x) mode d C T q s a c path hs out xs left us u v h =
      let same : types C ≡ T ∷ [] = takes_one C x T us in
      ends_tells S group free cost mode w 0 (size_of (types C) d) (size_of (types C) d) a c q s path xs hs out (some_position (types C) d) (omega arith) u
      (subst (λ As. Stands (size_of As d) c s) (sym same) v) h.0
  agree calls (n.Number w k) mode d C T q s a c path hs out xs left us u v h = first_tells mode w d C T q s a c path hs out xs left u v h
  agree calls (n.Truth w k) mode d C T q s a c path hs out xs left us u v h = first_tells mode w d C T q s a c path hs out xs left u v h
  agree calls (n.Nil w) mode d C T q s a c path hs out xs left us u v h = first_tells mode w d C T q s a c path hs out xs left u v h
  agree calls (n.Leaf w) mode d C T q s a c path hs out xs left us u v h = first_tells mode w d C T q s a c path hs out xs left u v h
  agree calls (n.Nothing w) mode d C T q s a c path hs out xs left us u v h = first_tells mode w d C T q s a c path hs out xs left u v h
  agree calls (n.Arith w op x y) mode d C T q s a c path hs out xs left us u v h = first_tells mode w d C T q s a c path hs out xs left u v h
  agree calls (n.Compare w op x y) mode d C T q s a c path hs out xs left us u v h = first_tells mode w d C T q s a c path hs out xs left u v h
  agree calls (n.Not w x) mode d C T q s a c path hs out xs left us u v h = first_tells mode w d C T q s a c path hs out xs left u v h
  agree calls (n.Pair w x y) mode d C T q s a c path hs out xs left us u v h = parts_tell mode w d C (x ∷ y ∷ []) T q s a c path hs out xs left u v h
  agree calls (n.Cons w x y) mode d C T q s a c path hs out xs left us u v h = parts_tell mode w d C (x ∷ y ∷ []) T q s a c path hs out xs left u v h
  agree calls (n.Node w x y z) mode d C T q s a c path hs out xs left us u v h = parts_tell mode w d C (x ∷ y ∷ z ∷ []) T q s a c path hs out xs left u v h
  agree calls (n.Just w x) mode d C T q s a c path hs out xs left us u v h = parts_tell mode w d C (x ∷ []) T q s a c path hs out xs left u v h
  agree calls (n.Call w f vs) mode d C T q s a c path hs out xs left us u v h = calls w f vs mode d C T q s a c path hs out xs left us u v h
  agree calls (n.Let w x A a₁ e) mode d C T q s a c path hs out xs left us u v h = lets_tell mode w x d A C a₁ e T q s a c path hs out xs left (agree calls a₁) (agree calls e) us u v h
  agree calls (n.Split w x y z e) mode d C T q s a c path hs out xs left us u v h =
      moves_tell mode w d C (opened x (y ∷ z ∷ []) parts_of C) e T q s a c path hs out xs left (behind (place x C) (opens (variable_type (types C) (place x C)))) (in_place (place x C) type_parts (types C))
      (types_opened x (y ∷ z ∷ []) parts_of type_parts C (PairOf us.0 us.1) us.2 refl) (agree calls e) us.4 u v h
  agree calls (n.If w x a₁ e) mode d C T q s a c path hs out xs left us u v h =
      forks_tell mode w d C (without x C) (without x C) a₁ e T q s a c path hs out xs left (behind (place x C) leaves) (behind (place x C) leaves) (in_place (place x C) none (types C)) (in_place (place x C) none (types C))
      (types_without x C) (types_without x C) (agree calls a₁) (agree calls e) us.1 us.2 u v h
  agree calls (n.CaseList w x a₁ y z e) mode d C T q s a c path hs out xs left us u v h =
      forks_tell mode w d C (without x C) (opened x (y ∷ z ∷ []) parts_of C) a₁ e T q s a c path hs out xs left (behind (place x C) leaves) (behind (place x C) (opens (variable_type (types C) (place x C))))
      (in_place (place x C) none (types C)) (in_place (place x C) type_parts (types C)) (types_without x C) (types_opened x (y ∷ z ∷ []) parts_of type_parts C (ListOf us.0) us.1 refl)
      (agree calls a₁) (agree calls e) us.3 us.4 u v h
  agree calls (n.CaseTree w x a₁ y z o e) mode d C T q s a c path hs out xs left us u v h =
      forks_tell mode w d C (without x C) (opened x (y ∷ z ∷ o ∷ []) parts_of C) a₁ e T q s a c path hs out xs left (behind (place x C) leaves) (behind (place x C) (opens (variable_type (types C) (place x C))))
      (in_place (place x C) none (types C)) (in_place (place x C) type_parts (types C)) (types_without x C) (types_opened x (y ∷ z ∷ o ∷ []) parts_of type_parts C (TreeOf us.0) us.1 refl)
      (agree calls a₁) (agree calls e) us.3 us.4 u v h
  agree calls (n.CaseOption w x a₁ y e) mode d C T q s a c path hs out xs left us u v h =
      forks_tell mode w d C (without x C) (opened x (y ∷ []) parts_of C) a₁ e T q s a c path hs out xs left (behind (place x C) leaves) (behind (place x C) (opens (variable_type (types C) (place x C))))
      (in_place (place x C) none (types C)) (in_place (place x C) type_parts (types C)) (types_without x C) (types_opened x (y ∷ []) parts_of type_parts C (OptionOf us.0) us.1 refl)
      (agree calls a₁) (agree calls e) us.3 us.4 u v h
  agree calls (n.Tick w k e) mode d C T q s a c path hs out xs left us u v h = ticks_tell mode w k d C e T q s a c path hs out xs left (agree calls e) us u v h
  agree calls (n.Share w x y z e) mode d C T q s a c path hs out xs left us u v h =
      shares_tell mode w x y z d C e T q s a c path hs out xs left (types_opened x (y ∷ z ∷ []) copies_of twice C us.0 us.1 refl) (agree calls e) us.3 u v h
  agree calls (n.Drop w x e) mode d C T q s a c path hs out xs left us u v h =
      moves_tell mode w d C (without x C) e T q s a c path hs out xs left (behind (place x C) leaves) (in_place (place x C) none (types C)) (types_without x C) (agree calls e) us.2 u v h
