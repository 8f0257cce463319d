-- What fits the rules fits them with all numbers times u.
use Rattle.std.proofs.Common.{◌≡◌, ◌≤◌, ℕ, ◌-◌, ◌*◌, ◌++◌, List, [], ◌∷◌, map, ap, sym, ◌∙◌, subst}
use Rattle.std.proofs.Math.Nat.{mul-le-mul_left}
use Rattle.raml_syntax.specs.Tree.{Type'}
use Rattle.base_poly.specs.Plain.{Plain, degrees}
use Rattle.index_shift.specs.Potential.{Annotation, moved}
use Rattle.index_shift.specs.Maps.{opening, leaving, sharing}
use Rattle.index_shift.specs.Contexts.{projection}
use Rattle.index_shift.specs.declared.entry.Entry.{Entry}
use Rattle.normal_spec.specs.Norm as n
use Rattle.normal_spec.specs.Norm.{Norm}
use Rattle.normal_spec.specs.Context.{Context, types, place, without, opened, parts_of, copies_of, inners, others}
use Rattle.annot_types.specs.Certificate.{Entries, annotation, Annotates, Hint, Block}
use Rattle.annot_types.specs.Carried.{Covers, at_parts, tuples, marks, part, joined}
use Rattle.annot_types.specs.Rules.{Mode, Past, Setting, TakesLet, TakesShare, TakesCall, Parts, Pays, CallRule, Ann}
use Rattle.annot_types.proofs.Linear.{mul, moved_mul, covers_mul, at_parts_mul, annotation_mul, annotates_mul, joined_mul}
use Rattle.annot_types.proofs.Times.{SettingTimes, times_setting, times_hints, past_times, pays_times, call_times, let_times, share_times}
use Rattle.annot_types.proofs.Times.{hint_times, parts_times}

module _ (u : ℕ) (S : Setting) (earlier : List Block) (scale : ℕ) where
  -- a rule with no parts and no hint
  abbrev alone : (m : Mode) → SettingTimes u m S earlier scale → (nodes ticks cells : ℕ) (q : Annotation) (rule made : Annotation → Type 0) (hs out : List Hint) →
      ((q : Annotation) → rule q → made (mul u q)) → Pays S m nodes ticks cells q rule × (hs ≡ out) →
      Pays (times_setting u S earlier scale) m nodes ticks cells (mul u q) made × (times_hints u hs ≡ times_hints u out)
  alone m h nodes ticks cells q rule made hs out go a = (pays_times u m S earlier scale h nodes ticks cells q rule made go a.0, ap (times_hints u) a.1)

  -- the zero index alone
  abbrev first : (m : Mode) → SettingTimes u m S earlier scale → (nodes ticks cells : ℕ) (q r : Annotation) (hs out : List Hint) →
      Pays S m nodes ticks cells q (λ q. r 0 ≤ q 0) × (hs ≡ out) →
      Pays (times_setting u S earlier scale) m nodes ticks cells (mul u q) (λ q. u * r 0 ≤ q 0) × (times_hints u hs ≡ times_hints u out)
  first m h nodes ticks cells q r hs out a = alone m h nodes ticks cells q (λ q. r 0 ≤ q 0) (λ q. u * r 0 ≤ q 0) hs out (λ q le. mul-le-mul_left u le) a

  -- a constructor
  abbrev made_of : (m : Mode) → SettingTimes u m S earlier scale →
      (nodes cells : ℕ) (q : Annotation) (C : Context) (xs : List ℕ) (T : Type') (d : ℕ) (r : Annotation) (hs out : List Hint) →
      Pays S m nodes 0 cells q (λ q. Covers (types C) d q (at_parts C xs T d r)) × (hs ≡ out) →
      Pays (times_setting u S earlier scale) m nodes 0 cells (mul u q) (λ q. Covers (types C) d q (at_parts C xs T d (mul u r))) × (times_hints u hs ≡ times_hints u out)
  made_of m h nodes cells q C xs T d r hs out a =
      alone m h nodes 0 cells q (λ q. Covers (types C) d q (at_parts C xs T d r)) (λ q. Covers (types C) d q (at_parts C xs T d (mul u r))) hs out
      (λ q c. subst (Covers (types C) d (mul u q)) (sym (at_parts_mul u C xs T d r)) (covers_mul u (types C) d q (at_parts C xs T d r) c)) a

  -- a rule with one part, whose annotation is moved
  abbrev onward : (m : Mode) → SettingTimes u m S earlier scale → (nodes : ℕ) (q : Annotation) (es : List Entry) (part made : Annotation → Type 0) →
      ((q : Annotation) → part q → made (mul u q)) → Pays S m nodes 0 0 q (λ q. part (moved es q)) →
      Pays (times_setting u S earlier scale) m nodes 0 0 (mul u q) (λ q. made (moved es q))
  onward m h nodes q es part made go a =
      pays_times u m S earlier scale h nodes 0 0 q (λ q. part (moved es q)) (λ q. made (moved es q)) (λ q c. subst made (sym (moved_mul u es q)) (go (moved es q) c)) a

  -- a rule with two branches
  abbrev branches : (m : Mode) → SettingTimes u m S earlier scale →
      (nodes : ℕ) (q : Annotation) (es ds : List Entry) (a a' b b' : Annotation → List Hint → List Hint → Type 0) (hs out : List Hint) →
      ((q : Annotation) (hs out : List Hint) → a q hs out → a' (mul u q) (times_hints u hs) (times_hints u out)) →
      ((q : Annotation) (hs out : List Hint) → b q hs out → b' (mul u q) (times_hints u hs) (times_hints u out)) →
      Pays S m nodes 0 0 q (λ q. (between : List Hint) × a (moved es q) hs between × b (moved ds q) between out) →
      Pays (times_setting u S earlier scale) m nodes 0 0 (mul u q) (λ q. (between : List Hint) × a' (moved es q) (times_hints u hs) between × b' (moved ds q) between (times_hints u out))
  branches m h nodes q es ds a a' b b' hs out go next p =
      pays_times u m S earlier scale h nodes 0 0 q (λ q. (between : List Hint) × a (moved es q) hs between × b (moved ds q) between out)
      (λ q. (between : List Hint) × a' (moved es q) (times_hints u hs) between × b' (moved ds q) between (times_hints u out))
      (λ q c. (
        times_hints u c.0,
        subst (λ q. a' q (times_hints u hs) (times_hints u c.0)) (sym (moved_mul u es q)) (go (moved es q) hs c.0 c.1),
        subst (λ q. b' q (times_hints u c.0) (times_hints u out)) (sym (moved_mul u ds q)) (next (moved ds q) c.0 out c.2),
      )) p

  pub derived : (m : Mode) → SettingTimes u m S earlier scale → (d : ℕ) (C : Context) (q : Annotation) (e : Norm) (T : Type') (r : Annotation) (hs out : List Hint) →
      Ann S m d C q e T r hs out → Ann (times_setting u S earlier scale) m d C (mul u q) e T (mul u r) (times_hints u hs) (times_hints u out)
  derived m h d C q (n.Var k x) T r hs out a =
      alone m h k 0 0 q (λ q. Covers (types C) d q r) (λ q. Covers (types C) d q (mul u r)) hs out (λ q c. covers_mul u (types C) d q r c) a
  derived m h d C q (n.Number k i) T r hs out a = first m h k 0 0 q r hs out a
  derived m h d C q (n.Truth k b) T r hs out a = first m h k 0 0 q r hs out a
  derived m h d C q (n.Nil k) T r hs out a = first m h k 0 0 q r hs out a
  derived m h d C q (n.Leaf k) T r hs out a = first m h k 0 0 q r hs out a
  derived m h d C q (n.Nothing k) T r hs out a = first m h k 0 0 q r hs out a
  derived m h d C q (n.Arith k op x y) T r hs out a = first m h k 0 0 q r hs out a
  derived m h d C q (n.Compare k op x y) T r hs out a = first m h k 0 0 q r hs out a
  derived m h d C q (n.Not k x) T r hs out a = first m h k 0 0 q r hs out a
  derived m h d C q (n.Pair k x y) T r hs out a = made_of m h k 1 q C (x ∷ y ∷ []) T d r hs out a
  derived m h d C q (n.Cons k x y) T r hs out a = made_of m h k 1 q C (x ∷ y ∷ []) T d r hs out a
  derived m h d C q (n.Node k x y z) T r hs out a = made_of m h k 1 q C (x ∷ y ∷ z ∷ []) T d r hs out a
  derived m h d C q (n.Just k x) T r hs out a = made_of m h k 1 q C (x ∷ []) T d r hs out a
  derived m h d C q (n.Call k f xs) T r hs out p =
      pays_times u m S earlier scale h k 0 0 q (λ q. TakesCall hs (λ hint rest. CallRule S m d C q f xs T r hint × (rest ≡ out)))
      (λ q. TakesCall (times_hints u hs) (λ hint rest. CallRule (times_setting u S earlier scale) m d C q f xs T (mul u r) hint × (rest ≡ times_hints u out)))
      (λ q. hint_times u hs (λ hint rest. CallRule S m d C q f xs T r hint × (rest ≡ out))
      (λ hint rest. CallRule (times_setting u S earlier scale) m d C (mul u q) f xs T (mul u r) hint × (rest ≡ times_hints u out))
      (λ hint rest c. (call_times u m S earlier scale h d C q f xs T r hint c.0, ap (times_hints u) c.1))) p
  derived m h d C q (n.Let k x A a b) T r hs out p =
      let js = tuples (others a C) d in
      let Bs = types (others a C) in
      let D = others a C ++ (x, A) ∷ [] in
      let made = times_setting u S earlier scale in
      let parts : Setting → Annotation → Mode → List Plain → Annotation → List Hint → List Hint → Type 0 =
      λ S q m j s hs out. Ann S m (d - degrees j) (inners a C) (part a C d j q) a A s hs out in
      let rule : Annotation → List Entries → List Hint → Type 0 =
      λ q rs rest. (between : List Hint) × Parts A d (parts S q) m js rs rest between × Ann S m d D (joined Bs A d js (map annotation rs)) b T r between out in
      let after : Annotation → List Entries → List Hint → Type 0 =
      λ q rs rest. (between : List Hint) × Parts A d (parts made q) m js rs rest between × Ann made m d D (joined Bs A d js (map annotation rs)) b T (mul u r) between (times_hints u out) in
      pays_times u m S earlier scale h k 0 0 q (λ q. TakesLet hs (rule q)) (λ q. TakesLet (times_hints u hs) (after q))
      (λ q. let_times u hs (rule q) (after (mul u q)) (λ rs rest c. (
        times_hints u c.0,
        parts_times u A d (parts S q) (parts made (mul u q)) m
            (λ j s hs out w. subst (λ q. Ann made m (d - degrees j) (inners a C) q a A (mul u s) (times_hints u hs) (times_hints u out))
            (sym (moved_mul u (projection (marks a C) (types C) d j) q))
            (derived m h (d - degrees j) (inners a C) (part a C d j q) a A s hs out w))
            (λ j s hs out w. subst (λ q. Ann made Past (d - degrees j) (inners a C) q a A (mul u s) (times_hints u hs) (times_hints u out))
            (sym (moved_mul u (projection (marks a C) (types C) d j) q))
            (derived Past (past_times u m S earlier scale h) (d - degrees j) (inners a C) (part a C d j q) a A s hs out w))
            js rs rest c.0 c.1,
        subst (λ q. Ann made m d D q b T (mul u r) (times_hints u c.0) (times_hints u out)) (sym (joined_mul u Bs A d js rs))
            (derived m h d D (joined Bs A d js (map annotation rs)) b T r c.0 out c.2),
      ))) p
  derived m h d C q (n.Split k x y z a) T r hs out p =
      let D = opened x (y ∷ z ∷ []) parts_of C in
      onward m h k q (opening (types C) (place x C) d) (λ q. Ann S m d D q a T r hs out)
      (λ q. Ann (times_setting u S earlier scale) m d D q a T (mul u r) (times_hints u hs) (times_hints u out)) (λ q c. derived m h d D q a T r hs out c) p
  derived m h d C q (n.If k x a b) T r hs out p =
      let D = without x C in
      branches m h k q (leaving (types C) (place x C) d) (leaving (types C) (place x C) d)
      (λ q hs out. Ann S m d D q a T r hs out) (λ q hs out. Ann (times_setting u S earlier scale) m d D q a T (mul u r) hs out)
      (λ q hs out. Ann S m d D q b T r hs out) (λ q hs out. Ann (times_setting u S earlier scale) m d D q b T (mul u r) hs out) hs out
      (λ q hs out c. derived m h d D q a T r hs out c) (λ q hs out c. derived m h d D q b T r hs out c) p
  derived m h d C q (n.CaseList k x a y z b) T r hs out p =
      let D = opened x (y ∷ z ∷ []) parts_of C in
      branches m h k q (leaving (types C) (place x C) d) (opening (types C) (place x C) d)
      (λ q hs out. Ann S m d (without x C) q a T r hs out) (λ q hs out. Ann (times_setting u S earlier scale) m d (without x C) q a T (mul u r) hs out)
      (λ q hs out. Ann S m d D q b T r hs out) (λ q hs out. Ann (times_setting u S earlier scale) m d D q b T (mul u r) hs out) hs out
      (λ q hs out c. derived m h d (without x C) q a T r hs out c) (λ q hs out c. derived m h d D q b T r hs out c) p
  derived m h d C q (n.CaseTree k x a e y z b) T r hs out p =
      let D = opened x (e ∷ y ∷ z ∷ []) parts_of C in
      branches m h k q (leaving (types C) (place x C) d) (opening (types C) (place x C) d)
      (λ q hs out. Ann S m d (without x C) q a T r hs out) (λ q hs out. Ann (times_setting u S earlier scale) m d (without x C) q a T (mul u r) hs out)
      (λ q hs out. Ann S m d D q b T r hs out) (λ q hs out. Ann (times_setting u S earlier scale) m d D q b T (mul u r) hs out) hs out
      (λ q hs out c. derived m h d (without x C) q a T r hs out c) (λ q hs out c. derived m h d D q b T r hs out c) p
  derived m h d C q (n.CaseOption k x a y b) T r hs out p =
      let D = opened x (y ∷ []) parts_of C in
      branches m h k q (leaving (types C) (place x C) d) (opening (types C) (place x C) d)
      (λ q hs out. Ann S m d (without x C) q a T r hs out) (λ q hs out. Ann (times_setting u S earlier scale) m d (without x C) q a T (mul u r) hs out)
      (λ q hs out. Ann S m d D q b T r hs out) (λ q hs out. Ann (times_setting u S earlier scale) m d D q b T (mul u r) hs out) hs out
      (λ q hs out c. derived m h d (without x C) q a T r hs out c) (λ q hs out c. derived m h d D q b T r hs out c) p
  derived m h d C q (n.Tick k i a) T r hs out p =
      pays_times u m S earlier scale h k i 0 q (λ q. Ann S m d C q a T r hs out) (λ q. Ann (times_setting u S earlier scale) m d C q a T (mul u r) (times_hints u hs) (times_hints u out))
      (λ q c. derived m h d C q a T r hs out c) p
  derived m h d C q (n.Share k x y z a) T r hs out p =
      let D = opened x (y ∷ z ∷ []) copies_of C in
      let es = sharing (types C) (place x C) d in
      let made = times_setting u S earlier scale in
      let rule : Annotation → Entries → List Hint → Type 0 =
      λ q p rest. Annotates (types D) d p × Covers (types C) d q (moved es (annotation p)) × Ann S m d D (annotation p) a T r rest out in
      let after : Annotation → Entries → List Hint → Type 0 =
      λ q p rest. Annotates (types D) d p × Covers (types C) d q (moved es (annotation p)) × Ann made m d D (annotation p) a T (mul u r) rest (times_hints u out) in
      pays_times u m S earlier scale h k 0 0 q (λ q. TakesShare hs (rule q)) (λ q. TakesShare (times_hints u hs) (after q))
      (λ q. share_times u hs (rule q) (after (mul u q)) (λ w rest c. (
        annotates_mul u (types D) d w c.0,
        subst (Covers (types C) d (mul u q)) (sym (ap (moved es) (annotation_mul u w) ∙ moved_mul u es (annotation w))) (covers_mul u (types C) d q (moved es (annotation w)) c.1),
        subst (λ q. Ann made m d D q a T (mul u r) (times_hints u rest) (times_hints u out)) (sym (annotation_mul u w)) (derived m h d D (annotation w) a T r rest out c.2),
      ))) p
  derived m h d C q (n.Drop k x a) T r hs out p =
      onward m h k q (leaving (types C) (place x C) d) (λ q. Ann S m d (without x C) q a T r hs out)
      (λ q. Ann (times_setting u S earlier scale) m d (without x C) q a T (mul u r) (times_hints u hs) (times_hints u out)) (λ q c. derived m h d (without x C) q a T r hs out c) p
