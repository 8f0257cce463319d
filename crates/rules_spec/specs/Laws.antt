-- What the walks are to the rules.
use Rattle.std.specs.Prelude.{ℕ, List, [], ◌∷◌, Option}
use Rattle.raml_syntax.specs.Tree.{Type'}
use Rattle.index_shift.specs.Potential.{Annotation}
use Rattle.normal_spec.specs.Norm.{Norm}
use Rattle.normal_spec.specs.Context.{Context, types}
use Rattle.normal_spec.specs.Uses.{Uses}
use Rattle.cost_free.specs.declared.task.Meter.{Meter}
use Rattle.annot_types.specs.Certificate as c
use Rattle.annot_types.specs.Rules.{Mode, Setting, Ann}
use Rattle.annot_types.specs.Rows.{size as size_of}
use Rattle.rules_spec.specs.Plan.{Plan}
use Rattle.rules_spec.specs.Numbers.{Sides, Signature, Hint}
use Rattle.rules_spec.specs.Kinds.{Amount, amounts}
use Rattle.rules_spec.specs.Walk.{walk}
use Rattle.rules_spec.specs.Asked.{asked}
use Rattle.rules_spec.specs.Planned.{plan}
use Rattle.rules_spec.specs.Stand.{Stands, Answered, Reads, Tells, known_in}

-- the plan of a form in a setting
abbrev pub plan_in : Setting → Norm → Context → Type' → ℕ → Plan
plan_in S = plan S.program S.group S.earlier S.budget

-- Where the hints are those that the plan asks for, the rules hold exactly where all conditions of the walk over amounts are met.
abbrev pub RulesAreConditions : Type 0
RulesAreConditions =
    (S : Setting) (group : List (Sides Amount)) (free : ℕ → ℕ → Signature) (cost : Meter → ℕ → Option Signature) →
    Reads S group free cost →
    (e : Norm) (mode : Mode) (d : ℕ) (C : Context) (T : Type') (q r : Annotation) (context result : List Amount) (path : List ℕ)
    (hs out : List c.Hint) (xs left : List (Hint Amount)) →
    Uses S.program.funs C e T →
    Stands (size_of (types C) d) context q →
    Stands (size_of (T ∷ []) d) result r →
    Answered (asked (plan_in S e C T d)) hs xs out left →
    Tells (walk (amounts 1) (known_in S group free cost) (plan_in S e C T d) mode path context result xs) (Ann S mode d C q e T r hs out)

-- Where the rules hold, the hints that they take are those that the plan asks for.
abbrev pub RulesAsk : Type 0
RulesAsk =
    (S : Setting) (e : Norm) (mode : Mode) (d : ℕ) (C : Context) (q : Annotation) (T : Type') (r : Annotation) (hs out : List c.Hint) →
    Ann S mode d C q e T r hs out →
    (left : List (Hint Amount)) →
    (xs : List (Hint Amount)) × Answered (asked (plan_in S e C T d)) hs xs out left
