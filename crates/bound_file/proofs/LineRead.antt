-- What is read as a line is what is written in it.
use Rattle.std.proofs.Common.{◌≡◌, Bool, true, false, cond, not, List, [], ◌∷◌, ◌++◌, map, Option, Some, None, refl, ap, subst, ◌∙◌}
use Rattle.std.proofs.lemmas.Bool.{and_parts}
use Rattle.std.specs.Prelude.{codes, Contains, ◌&&◌}
use Rattle.std.specs.List.{list_any}
use Rattle.std.specs.Str.{bytes_eq}
use Rattle.std.specs.Cmp.Lexicographic.{bytes_decides}
use Rattle.std.proofs.lemmas.List.Folds.{list_any_at}
use Rattle.std.proofs.lemmas.Map.Views.{Contains-from_any}
use Rattle.raml_syntax.specs.Tree.{Text}
use Rattle.raml_syntax.specs.Types.{Differ}
use Rattle.raml_lex.specs.Lexemes.{IsLexeme}
use Rattle.raml_lex.specs.declared.token.TokenKind.TheVariants.{Name}
use Rattle.cost_free.specs.declared.task.Meter.{Meter}
use Rattle.cost_free.specs.declared.task.Meter.TheVariants.{Ticks, Cells, Work}
use Rattle.bound_file.specs.Spelling.{Term, meter_text, Written, IsLine}
use Rattle.raml_syntax.specs.Cut.{cut_at}
use Rattle.bound_file.specs.Reading.{and_then, meter_read, is_name, distinct, Parts, at_sign, parts_read, with_terms, sum_read, line_from, line_read}
use Rattle.raml_syntax.proofs.Cuts.{cut_is, cut_there}
use Rattle.bound_file.proofs.Sums.{sum_there, IsSumRead, sum_is}
use Rattle.bound_file.proofs.Words.{name_is, name_told, name_lacks}

no : {A : Type 0} → false ≡ true → A
no e = absurd (cc)

-- Texts that differ

among_told : (x : Text) (xs : List Text) → Contains xs x → list_any (bytes_eq x) xs ≡ true
among_told x xs has = list_any_at (bytes_eq x) xs has.0 x has.1 (ap (bytes_eq x) has.2 ∙ (bytes_decides x x).1 refl)

among_is : (x : Text) (xs : List Text) → list_any (bytes_eq x) xs ≡ true → Contains xs x
among_is x xs e = Contains-from_any {eq = bytes_eq} (λ x y e. (bytes_decides x y).0 e) x xs e

both : (a b : Bool) → (a ≡ true → ⊥) → b ≡ true → (not a && b) ≡ true
both true b e f = absurd (e refl)
both false b e f = f

distinct_told : (xs : List Text) → Differ xs → distinct xs ≡ true
distinct_told [] h = refl
distinct_told (x ∷ xs) h = both (list_any (bytes_eq x) xs) (distinct xs) (λ e. h.0 (among_is x xs e)) (distinct_told xs h.1)

distinct_is : (xs : List Text) → distinct xs ≡ true → Differ xs
distinct_is [] e = tt
distinct_is (x ∷ xs) e =
    let p = and_parts (not (list_any (bytes_eq x) xs)) (distinct xs) e in
    ((λ has. apart (list_any (bytes_eq x) xs) (among_told x xs has) p.0), distinct_is xs p.1)
  where
    apart : (b : Bool) → b ≡ true → not b ≡ true → ⊥
    apart true q f = no f
    apart false q f = no q

-- Meters

meter_there : (m : Meter) → meter_read (meter_text m) ≡ Some m
meter_there Ticks = refl
meter_there Cells = refl
meter_there Work = refl

meter_is : (w : Text) (m : Meter) → meter_read w ≡ Some m → w ≡ meter_text m
meter_is w m e =
    at (bytes_eq w (codes "ticks")) (bytes_eq w (codes "cells")) (bytes_eq w (codes "work")) (bytes_decides w (codes "ticks")).0 (bytes_decides w (codes "cells")).0 (bytes_decides w (codes "work")).0 e
  where
    same : (n : Meter) → Some n ≡ Some m → n ≡ m
    same n e = cc

    at : (a b c : Bool) → (a ≡ true → w ≡ codes "ticks") → (b ≡ true → w ≡ codes "cells") → (c ≡ true → w ≡ codes "work") →
        cond a (Some Ticks) (cond b (Some Cells) (cond c (Some Work) None)) ≡ Some m → w ≡ meter_text m
    at true b c f g h e = f refl ∙ ap meter_text (same Ticks e)
    at false true c f g h e = g refl ∙ ap meter_text (same Cells e)
    at false false true f g h e = h refl ∙ ap meter_text (same Work e)
    at false false false f g h e = absurd (cc)

-- Parts

abbrev parts_with : Text → Text → Text → Parts
parts_with name meter sum = record { name = name; meter = meter; sum = sum }

meter_cut : (m : Meter) (rest : Text) → cut_at 32 (meter_text m ++ 32 ∷ rest) ≡ Some (meter_text m, rest)
meter_cut Ticks rest = refl
meter_cut Cells rest = refl
meter_cut Work rest = refl

parts_there : (name sum : Text) (m : Meter) → cut_at 32 name ≡ None → parts_read (name ++ (codes " " ++ (meter_text m ++ (codes " <= " ++ sum)))) ≡ Some (parts_with name (meter_text m) (32 ∷ sum))
parts_there name sum m lacks =
    let behind : Text = meter_text m ++ (codes " <= " ++ sum) in
    ap (λ o. and_then o (λ p. and_then (cut_at 32 p.1) (λ q. and_then (cut_at 61 q.1) (at_sign p.0 q.0)))) (cut_there 32 name behind lacks)
    ∙ ap (λ o. and_then o (λ q. and_then (cut_at 61 q.1) (at_sign name q.0))) (meter_cut m (60 ∷ 61 ∷ 32 ∷ sum))

pub parts_is : (line : Text) (p : Parts) → parts_read line ≡ Some p → line ≡ p.name ++ 32 ∷ (p.meter ++ 32 ∷ 60 ∷ 61 ∷ p.sum)
parts_is line p e = at (cut_at 32 line) (cut_is 32 line) e
  where
    sign : (name meter : Text) (parts : Text × Text) (behind : Text) → behind ≡ parts.0 ++ 61 ∷ parts.1 → line ≡ name ++ 32 ∷ (meter ++ 32 ∷ behind) → (b : Bool) → (b ≡ true → parts.0 ≡ codes "<") → cond b (Some (parts_with name meter parts.1)) None ≡ Some p → line ≡ p.name ++ 32 ∷ (p.meter ++ 32 ∷ 60 ∷ 61 ∷ p.sum)
    sign name meter parts behind is whole true less e =
        let f : parts_with name meter parts.1 ≡ p = cc in
        whole ∙ ap (λ w. name ++ 32 ∷ (meter ++ 32 ∷ w)) (is ∙ ap (λ w. w ++ 61 ∷ parts.1) (less refl)) ∙ ap (λ (r : Parts). r.name ++ 32 ∷ (r.meter ++ 32 ∷ 60 ∷ 61 ∷ r.sum)) f
    sign name meter parts behind is whole false less e = absurd (cc)

    third : (name meter behind : Text) → line ≡ name ++ 32 ∷ (meter ++ 32 ∷ behind) → (o : Option (Text × Text)) → ((parts : Text × Text) → o ≡ Some parts → behind ≡ parts.0 ++ 61 ∷ parts.1) → and_then o (at_sign name meter) ≡ Some p → line ≡ p.name ++ 32 ∷ (p.meter ++ 32 ∷ 60 ∷ 61 ∷ p.sum)
    third name meter behind whole None is e = absurd (cc)
    third name meter behind whole (Some parts) is e = sign name meter parts behind (is parts refl) whole (bytes_eq parts.0 (codes "<")) (bytes_decides parts.0 (codes "<")).0 e

    second : (name behind : Text) → line ≡ name ++ 32 ∷ behind → (o : Option (Text × Text)) → ((parts : Text × Text) → o ≡ Some parts → behind ≡ parts.0 ++ 32 ∷ parts.1) → and_then o (λ q. and_then (cut_at 61 q.1) (at_sign name q.0)) ≡ Some p → line ≡ p.name ++ 32 ∷ (p.meter ++ 32 ∷ 60 ∷ 61 ∷ p.sum)
    second name behind whole None is e = absurd (cc)
    second name behind whole (Some parts) is e = third name parts.0 parts.1 (whole ∙ ap (λ w. name ++ 32 ∷ w) (is parts refl)) (cut_at 61 parts.1) (cut_is 61 parts.1) e

    at : (o : Option (Text × Text)) → ((parts : Text × Text) → o ≡ Some parts → line ≡ parts.0 ++ 32 ∷ parts.1) → and_then o (λ p. and_then (cut_at 32 p.1) (λ q. and_then (cut_at 61 q.1) (at_sign p.0 q.0))) ≡ Some p → line ≡ p.name ++ 32 ∷ (p.meter ++ 32 ∷ 60 ∷ 61 ∷ p.sum)
    at None is e = absurd (cc)
    at (Some parts) is e = second parts.0 parts.1 (is parts refl) (cut_at 32 parts.1) (cut_is 32 parts.1) e

-- Lines

abbrev tuples : List Term → List Text
tuples ts = map (λ (t : Term). t.tuple) ts

abbrev written : Text → Meter → List Term → Written
written name meter terms = record { name = name; meter = meter; terms = terms }

pub line_there : (line : Text) (w : Written) → IsLine line w → line_read line ≡ Some w
line_there line w h =
    ap line_read h.is ∙ ap (λ o. and_then o line_from) (parts_there w.name h.sum w.meter (name_lacks w.name h.name))
    ∙ ap (λ b. cond b (and_then (meter_read (meter_text w.meter)) (λ meter. and_then (sum_read (32 ∷ h.sum)) (with_terms w.name meter))) None) (name_told w.name h.name)
    ∙ ap (λ o. and_then o (λ meter. and_then (sum_read (32 ∷ h.sum)) (with_terms w.name meter))) (meter_there w.meter)
    ∙ ap (λ o. and_then o (with_terms w.name w.meter)) (sum_there h.sum w.terms h.spelled h.terms)
    ∙ ap (λ b. cond b (Some (written w.name w.meter w.terms)) None) (distinct_told (tuples w.terms) h.once)

pub line_is : (line : Text) (w : Written) → line_read line ≡ Some w → IsLine line w
line_is line w e = at (parts_read line) (parts_is line) e
  where
    last : (p : Parts) → line ≡ p.name ++ 32 ∷ (p.meter ++ 32 ∷ 60 ∷ 61 ∷ p.sum) → IsLexeme Name p.name → (m : Meter) → p.meter ≡ meter_text m → (ts : List Term) → IsSumRead p.sum ts → (b : Bool) → (b ≡ true → Differ (tuples ts)) → cond b (Some (written p.name m ts)) None ≡ Some w → IsLine line w
    last p whole name m meter ts s true differ e =
        let f : written p.name m ts ≡ w = cc in
        subst (IsLine line) f (record {
          sum = s.sum;
          is = whole ∙ (λ i. p.name ++ 32 ∷ (meter i ++ 32 ∷ 60 ∷ 61 ∷ s.spaced i));
          name = name;
          spelled = s.is;
          terms = s.terms;
          once = differ refl;
        })
    last p whole name m meter ts s false differ e = absurd (cc)

    third : (p : Parts) → line ≡ p.name ++ 32 ∷ (p.meter ++ 32 ∷ 60 ∷ 61 ∷ p.sum) → IsLexeme Name p.name → (m : Meter) → p.meter ≡ meter_text m → (o : Option (List Term)) → ((ts : List Term) → o ≡ Some ts → IsSumRead p.sum ts) → and_then o (with_terms p.name m) ≡ Some w → IsLine line w
    third p whole name m meter None is e = absurd (cc)
    third p whole name m meter (Some ts) is e = last p whole name m meter ts (is ts refl) (distinct (tuples ts)) (distinct_is (tuples ts)) e

    second : (p : Parts) → line ≡ p.name ++ 32 ∷ (p.meter ++ 32 ∷ 60 ∷ 61 ∷ p.sum) → IsLexeme Name p.name → (o : Option Meter) → ((m : Meter) → o ≡ Some m → p.meter ≡ meter_text m) → and_then o (λ meter. and_then (sum_read p.sum) (with_terms p.name meter)) ≡ Some w → IsLine line w
    second p whole name None is e = absurd (cc)
    second p whole name (Some m) is e = third p whole name m (is m refl) (sum_read p.sum) (sum_is p.sum) e

    first : (p : Parts) → line ≡ p.name ++ 32 ∷ (p.meter ++ 32 ∷ 60 ∷ 61 ∷ p.sum) → (b : Bool) → (b ≡ true → IsLexeme Name p.name) → cond b (and_then (meter_read p.meter) (λ meter. and_then (sum_read p.sum) (with_terms p.name meter))) None ≡ Some w → IsLine line w
    first p whole true name e = second p whole (name refl) (meter_read p.meter) (meter_is p.meter) e
    first p whole false name e = absurd (cc)

    at : (o : Option Parts) → ((p : Parts) → o ≡ Some p → line ≡ p.name ++ 32 ∷ (p.meter ++ 32 ∷ 60 ∷ 61 ∷ p.sum)) → and_then o line_from ≡ Some w → IsLine line w
    at None is e = absurd (cc)
    at (Some p) is e = first p (is p refl) (is_name p.name) (name_is p.name) e
