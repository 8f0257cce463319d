-- Faults of other calls, as refusals of this one.
use Rattle.std.proofs.Common.{◌≡◌, ◌⊎◌, ℕ, List, Option, Some, None, Result, Ok, Err, refl, sym, ap, subst, ◌∙◌, inl, inr, arith}
use Rattle.std.specs.Prelude.{IfErr}
use Rattle.raml_syntax.specs.Tree.{Function, Prog}
use Rattle.raml_syntax.specs.Types.{types_of}
use Rattle.raml_parse.specs.Spelling.{FirstFault, Spells}
use Rattle.raml_parse.specs.declared.fault.ParseFault.{ParseFault}
use Rattle.raml_parse.specs.declared.fault.ParseFault.TheVariants as p
use Rattle.raml_lex.specs.declared.token.LexFault.TheVariants as l
use Rattle.simple_types.specs.Fault as types_fault
use Rattle.simple_types.specs.Walk.{walk_program}
use Rattle.simple_types.specs.Read.{EndsWith}
use Rattle.simple_types.specs.declared.fault.TypeFault.{TypeFault}
use Rattle.simple_types.specs.declared.fault.TypeFault.TheVariants as t
use Rattle.value_text.specs.Reading as reading
use Rattle.value_text.specs.declared.fault.DataFault.{DataFault}
use Rattle.value_text.specs.declared.fault.DataFault.TheVariants as d
use Rattle.cert_json.specs.Told.{Cause}
use Rattle.cert_json.specs.declared.whole.JsonFault.{JsonFault}
use Rattle.cert_json.specs.declared.whole.JsonFault.TheVariants as j
use Rattle.cost_free.specs.Read.{task_of}
use Rattle.cost_free.specs.declared.task.Task.{Task}
use Rattle.constraint_gen.specs.declared.fault.What.{What}
use Rattle.constraint_gen.specs.declared.fault.What.TheVariants as what
use Rattle.annot_types.specs.Program.{Program}
use Rattle.annot_types.specs.Certificate.{Certificate}
use Rattle.infer_spec.specs.Generator as g
use Rattle.infer_spec.specs.Generator.{Analysis}
use Rattle.infer_spec.specs.Verifying as v
use Rattle.cert_check.specs.Fault as f
use Rattle.cert_check.specs.Read.{fault_of}
use Rattle.cert_check.specs.Finds as check
use Rattle.cert_check.specs.declared.fault.CertFault.{CertFault}
use Rattle.bound_infer.specs.Inferred.{InferCause, LeavesVector, VerifyCause, VectorFault, TaskFault, what_of}
use Rattle.bound_infer.specs.declared.leaves.LeavesAt.{LeavesAt}
use Rattle.bound_infer.specs.declared.leaves.LeavesAt.TheVariants as at
use Rattle.bound_infer.specs.declared.refusal.InferFault.{InferFault}
use Rattle.bound_infer.specs.declared.refusal.InferFault.TheVariants as i
use Rattle.bound_infer.specs.declared.refusal.VerifyFault.TheVariants as r
use Rattle.refusals.specs.Ending as e
use Rattle.refusals.specs.Ending.{Ending, ending_of}
use Rattle.refusals.specs.Line.{Names, no_names, line_of}
use Rattle.refusals.specs.Refusals.{IsToldOr, source_status, ParseRefusal, TypeRefusal, DataRefusal, JsonRefusal, CheckRefusal, CourseRefusal, IsCheckAt}
use Rattle.refusals.specs.declared.answer.Refusal.{Refusal}
use Rattle.refusals.specs.declared.status.Status.{Status}
use Rattle.refusals.specs.declared.status.Status.TheVariants as s
use Rattle.refusals.specs.declared.status.CertAnswer.TheVariants as c
use Rattle.refusals.specs.declared.status.OverflowAt.TheVariants as o
use Rattle.raml_promise.specs.Steps.{SourceRefuses, RefusedOf}
use Rattle.raml_promise.specs.Prices.{PricesRefuse}
use Rattle.raml_promise.specs.DeclaredBounds.{BoundsRefuse}
use Rattle.raml_promise.specs.Analysis.{CourseRefuses, TextRefuses, CheckRefuses}
use Rattle.raml_promise.specs.Call.{DataRefuses}
use Rattle.raml_parts.specs.Parts.{Refuses, TypesRefuse}
use Rattle.raml_parts.proofs.Stepping.{refuses_map}
use Rattle.refusal_text.specs.declared.source.SourceFault.{SourceFault}
use Rattle.refusal_text.specs.declared.source.SourceFault.TheVariants as source
use Rattle.refusal_text.specs.declared.task.Analysed.{Analysed}
use Rattle.refusal_text.specs.declared.task.Analysed.TheVariants as analysed
use Rattle.price_file.specs.Spelling as prices
use Rattle.bound_file.specs.Answers as bounds
use Rattle.bound_file.specs.declared.fault.DeclFault.{DeclFault}
use Rattle.price_file.specs.declared.fault.PriceFault.{PriceFault}
use Rattle.std.specs.Option.{option_map}

-- a refusal of a status whose ending has a cause
pub told_refuses : (names : Names) (status : Status) (ending : Ending) (R : Ending → Type 0) → ending_of status ≡ Some ending → R ending →
    (refusal : Refusal) → IsToldOr names status refusal → Refuses names R refusal
told_refuses names status ending R is cause refusal (inl wanting) = inl wanting
told_refuses names status ending R is cause refusal (inr h) = inr (ending, ap ending_of h.0 ∙ is, h.1 ∙ ap (line_of names) (sym h.0), cause)

-- a refusal of a source, whose ending has a cause
source_told : (whose : Analysed) (fault : SourceFault) (ending : e.SourceEnding) (R : Ending → Type 0) → e.source_ending fault ≡ Some (e.Source ending) → R (e.Source ending) →
    (refusal : Refusal) → IsToldOr no_names (source_status whose fault) refusal → Refuses no_names (RefusedOf whose R) refusal
source_told analysed.Program fault ending R is cause refusal told = told_refuses no_names (s.Source fault) (e.Source ending) R is cause refusal told
source_told analysed.Other fault ending R is cause refusal told =
    told_refuses no_names (s.OtherSource fault) (e.OfOther (e.Source ending)) (RefusedOf analysed.Other R) (ap (option_map e.OfOther) is) cause refusal told

module _ (whose : Analysed) (bytes : List ℕ) where
  parse_told : (fault : ParseFault) → e.source_ending (source.Parse fault) ≡ Some (e.Source (e.Parse fault)) → FirstFault bytes fault →
      (refusal : Refusal) → IsToldOr no_names (source_status whose (source.Parse fault)) refusal → Refuses no_names (RefusedOf whose (SourceRefuses bytes)) refusal
  parse_told fault is h refusal told = source_told whose (source.Parse fault) (e.Parse fault) (SourceRefuses bytes) is h refusal told

  parse_cause : (fault : ParseFault) → FirstFault bytes fault → (refusal : Refusal) → ParseRefusal whose fault refusal → Refuses no_names (RefusedOf whose (SourceRefuses bytes)) refusal
  parse_cause (p.NotUtf8 a) h refusal told = parse_told (p.NotUtf8 a) refl h refusal told
  parse_cause (p.Lex (l.BadChar a)) h refusal told = parse_told (p.Lex (l.BadChar a)) refl h refusal told
  parse_cause (p.Lex (l.NumberTooWide a)) h refusal told = parse_told (p.Lex (l.NumberTooWide a)) refl h refusal told
  parse_cause (p.Lex (l.OpenComment a)) h refusal told = parse_told (p.Lex (l.OpenComment a)) refl h refusal told
  parse_cause (p.Lex l.NoMemory) h refusal told = absurd (h.1)
  parse_cause (p.Syntax a) h refusal told = parse_told (p.Syntax a) refl h refusal told
  parse_cause (p.TooDeep a) h refusal told = parse_told (p.TooDeep a) refl h refusal told
  parse_cause (p.TooMany a) h refusal told = parse_told (p.TooMany a) refl h refusal told
  parse_cause p.NoMemory h refusal told = absurd h

  pub parse_refuses : (fault : ParseFault) → (fault ≡ p.NoMemory) ⊎ FirstFault bytes fault → (refusal : Refusal) → ParseRefusal whose fault refusal →
      Refuses no_names (RefusedOf whose (SourceRefuses bytes)) refusal
  parse_refuses fault (inl same) refusal told = inl (subst (λ x. ParseRefusal whose x refusal) same told)
  parse_refuses fault (inr h) refusal told = parse_cause fault h refusal told

module _ (whose : Analysed) (P : Prog) where
  type_told : (fault : TypeFault) (first : types_fault.Fault) → e.source_ending (source.«Type» fault) ≡ Some (e.Source (e.Types first)) → walk_program P ≡ Err first →
      (refusal : Refusal) → IsToldOr no_names (source_status whose (source.«Type» fault)) refusal → Refuses no_names (RefusedOf whose (TypesRefuse P)) refusal
  type_told fault first is h refusal told = source_told whose (source.«Type» fault) (e.Types first) (TypesRefuse P) is h refusal told

  pub type_refuses : (fault : TypeFault) → EndsWith (walk_program P) fault → (refusal : Refusal) → TypeRefusal whose fault refusal → Refuses no_names (RefusedOf whose (TypesRefuse P)) refusal
  type_refuses (t.Unknown a) h refusal told = type_told (t.Unknown a) _ refl (h _ refl) refusal told
  type_refuses (t.Twice a) h refusal told = type_told (t.Twice a) _ refl (h _ refl) refusal told
  type_refuses (t.Wanted a want got) h refusal told = type_told (t.Wanted a want got) _ refl (h _ refl) refusal told
  type_refuses (t.NeedsType a) h refusal told = type_told (t.NeedsType a) _ refl (h _ refl) refusal told
  type_refuses (t.Arity a want got) h refusal told = type_told (t.Arity a want got) _ refl (h _ refl) refusal told
  type_refuses t.NoMemory h refusal told = inl told

-- a program that a source spells is not typed
types_cause : (bytes : List ℕ) (P : Prog) → Spells bytes P → (ending : Ending) → TypesRefuse P ending → SourceRefuses bytes ending
types_cause bytes P spells (e.Source (e.Types fault)) h = (P, spells, h)
types_cause bytes P spells (e.Source (e.Parse fault)) h = absurd h
types_cause bytes P spells ending h = absurd h

of_either : (whose : Analysed) (Q R : Ending → Type 0) → ((ending : Ending) → Q ending → R ending) → (ending : Ending) → RefusedOf whose Q ending → RefusedOf whose R ending
of_either analysed.Program Q R go ending h = go ending h
of_either analysed.Other Q R go (e.OfOther ending) h = go ending h
of_either analysed.Other Q R go ending h = absurd h

pub untyped_refused : {T : Type 0} (whose : Analysed) (bytes : List ℕ) (P : Prog) → Spells bytes P → (r : Result T Refusal) →
    IfErr r (Refuses no_names (RefusedOf whose (TypesRefuse P))) → IfErr r (Refuses no_names (RefusedOf whose (SourceRefuses bytes)))
untyped_refused whose bytes P spells (Ok t) h = tt
untyped_refused whose bytes P spells (Err refusal) h =
    refuses_map no_names (RefusedOf whose (TypesRefuse P)) (RefusedOf whose (SourceRefuses bytes)) (of_either whose (TypesRefuse P) (SourceRefuses bytes) (types_cause bytes P spells)) refusal h

module _ (bytes : List ℕ) (fun : Function) where
  data_told : (fault : DataFault) → ending_of (s.Data fault) ≡ Some (e.BadData fault) → reading.Answers bytes (types_of fun) (Err fault) →
      (refusal : Refusal) → IsToldOr no_names (s.Data fault) refusal → Refuses no_names (DataRefuses bytes fun) refusal
  data_told fault is h refusal told = told_refuses no_names _ (e.BadData fault) (DataRefuses bytes fun) is h refusal told

  pub data_refuses : (fault : DataFault) → reading.FirstFault bytes (types_of fun) fault → (refusal : Refusal) → DataRefusal fault refusal → Refuses no_names (DataRefuses bytes fun) refusal
  data_refuses (d.NotUtf8 a) h refusal told = data_told (d.NotUtf8 a) refl h refusal told
  data_refuses (d.Shape a) h refusal told = data_told (d.Shape a) refl h refusal told
  data_refuses (d.TooDeep a) h refusal told = data_told (d.TooDeep a) refl h refusal told
  data_refuses d.TooManyCells h refusal told = data_told d.TooManyCells refl h refusal told
  data_refuses d.NoMemory h refusal told = inl told

pub json_refuses : (bytes : List ℕ) (fault : JsonFault) → Cause bytes fault → (refusal : Refusal) → JsonRefusal fault refusal → Refuses no_names (TextRefuses bytes) refusal
json_refuses bytes j.NotJson h refusal told = told_refuses no_names _ _ (TextRefuses bytes) refl h refusal told
json_refuses bytes (j.Shape place) h refusal told = told_refuses no_names _ _ (TextRefuses bytes) refl h refusal told
json_refuses bytes (j.Number place) h refusal told = told_refuses no_names _ _ (TextRefuses bytes) refl h refusal told
json_refuses bytes j.NoMemory h refusal told = inl told

-- the refusal of a table of prices
pub prices_refuse : (bytes : List ℕ) (fault : PriceFault) → prices.FirstFault bytes fault → (refusal : Refusal) → IsToldOr no_names (s.Prices fault) refusal → Refuses no_names (PricesRefuse bytes) refusal
prices_refuse bytes fault h refusal told = told_refuses no_names (s.Prices fault) (e.BadPrices fault) (PricesRefuse bytes) refl h refusal told

-- the refusal of a file of declared bounds
pub bounds_refuse : (P : Prog) (degree : ℕ) (bytes : List ℕ) (fault : DeclFault) → bounds.FirstFault P degree bytes fault → (refusal : Refusal) → IsToldOr no_names (s.Declared fault) refusal →
    Refuses no_names (BoundsRefuse P degree bytes) refusal
bounds_refuse P degree bytes fault h refusal told = told_refuses no_names (s.Declared fault) (e.BadBounds fault) (BoundsRefuse P degree bytes) refl h refusal told

-- courses
module _ (whose : Analysed) (names : Names) (A : Analysis) where
  course_told : (fault : InferFault) (ending : Ending) → e.course_ending fault ≡ Some ending → CourseRefuses A ending → (refusal : Refusal) → CourseRefusal whose names fault refusal →
      Refuses names (RefusedOf whose (CourseRefuses A)) refusal
  course_told fault ending is h refusal told = by whose fault is told
    where
      by : (whose : Analysed) (fault : InferFault) → e.course_ending fault ≡ Some ending → CourseRefusal whose names fault refusal → Refuses names (RefusedOf whose (CourseRefuses A)) refusal
      by whose i.NoMemory is told = inl told
      by analysed.Program (i.TooLarge task what) is told = told_refuses names (s.TooLarge task what) ending (CourseRefuses A) is h refusal told
      by analysed.Program (i.Leaves place) is told = told_refuses names (s.Overflow (o.At place)) ending (CourseRefuses A) is h refusal told
      by analysed.Other (i.TooLarge task what) is told =
          told_refuses names (s.OtherFault (i.TooLarge task what)) (e.OfOther ending) (RefusedOf analysed.Other (CourseRefuses A)) (ap (option_map e.OfOther) is) h refusal told
      by analysed.Other (i.Leaves place) is told =
          told_refuses names (s.OtherFault (i.Leaves place)) (e.OfOther ending) (RefusedOf analysed.Other (CourseRefuses A)) (ap (option_map e.OfOther) is) h refusal told

  pub course_refuses : (fault : InferFault) → InferCause A fault → (refusal : Refusal) → CourseRefusal whose names fault refusal → Refuses names (RefusedOf whose (CourseRefuses A)) refusal
  course_refuses i.NoMemory h refusal told = inl told
  course_refuses (i.TooLarge task what) h refusal told = course_told (i.TooLarge task what) _ refl h refusal told
  course_refuses (i.Leaves (at.Solve task pivots row col)) h refusal told = course_told (i.Leaves (at.Solve task pivots row col)) _ refl (omega arith, h) refusal told
  course_refuses (i.Leaves (at.Row task row)) h refusal told = course_told (i.Leaves (at.Row task row)) _ refl (omega arith, h) refusal told
  course_refuses (i.Leaves (at.Scale task entry)) h refusal told = course_told (i.Leaves (at.Scale task entry)) _ refl (omega arith, h) refusal told
  course_refuses (i.Leaves (at.Rescale task block)) h refusal told = course_told (i.Leaves (at.Rescale task block)) _ refl (omega arith, h) refusal told
  course_refuses (i.Leaves (at.Check block path index)) h refusal told = course_told (i.Leaves (at.Check block path index)) _ refl h refusal told
  course_refuses (i.Leaves (at.Refute task column)) h refusal told = course_told (i.Leaves (at.Refute task column)) _ refl (omega arith, h) refusal told
  course_refuses (i.Leaves (at.Least task column)) h refusal told = course_told (i.Leaves (at.Least task column)) _ refl (omega arith, h) refusal told

-- certificates that are read
module _ (names : Names) (N : Program) (cert : Certificate) where
  abbrev Of : Ending → Type 0
  Of = CheckRefuses N cert

  first_of : (found : Option f.Fault) → ((found ≡ None) → ⊥) → check.FirstFault N cert found → (refusal : Refusal) → CheckRefusal names found refusal → Refuses names Of refusal
  first_of None some h refusal told = absurd (some refl)
  first_of (Some (f.Shape block)) some h refusal (inl wanting) = inl wanting
  first_of (Some (f.Shape block)) some h refusal (inr told) = told_refuses names (s.Certificate (c.Check told.0)) (e.Certified (e.Check (f.Shape block))) Of (ap e.check_ending told.1) h refusal (inr told.2)
  first_of (Some (f.Fails block path index)) some h refusal (inl wanting) = inl wanting
  first_of (Some (f.Fails block path index)) some h refusal (inr told) =
      told_refuses names (s.Certificate (c.Check told.0)) (e.Certified (e.Check (f.Fails block path index))) Of (ap e.check_ending told.1) h refusal (inr told.2)
  first_of (Some (f.Leaves block path index)) some h refusal (inl wanting) = inl wanting
  first_of (Some (f.Leaves block path index)) some h refusal (inr told) =
      told_refuses names (s.Overflow (o.At told.0)) (e.Overflows (e.InCheck block path index)) Of (place_of told.0 told.1) h refusal (inr told.2)
    where
      place_of : (place : LeavesAt) → IsCheckAt block path index place → ending_of (s.Overflow (o.At place)) ≡ Some (e.Overflows (e.InCheck block path index))
      place_of (at.Check b q k) is = λ x. Some (e.Overflows (e.InCheck (is.0 x) (is.1 x) (is.2 x)))
      place_of place is = absurd is
  first_of (Some (f.TooLarge task)) some h refusal (inl wanting) = inl wanting
  first_of (Some (f.TooLarge task)) some h refusal (inr told) =
      told_refuses names (s.TooLarge told.0 what.Indices) (e.TooLarge task g.Indices) Of (ap (λ t. Some (e.TooLarge t g.Indices)) told.1) (inl (h, refl)) refusal (inr told.2)

  pub check_refuses : (fault : CertFault) → VerifyCause N cert (r.Cert fault) → (refusal : Refusal) → CheckRefusal names (fault_of fault) refusal → Refuses names Of refusal
  check_refuses fault h refusal told = first_of (fault_of fault) (λ none. h.0 none) h.1 refusal told

  pub vector_refuses : (block : ℕ) → VectorFault N cert block v.NotRefuted → (refusal : Refusal) → IsToldOr names (s.Certificate (c.NotRefuted block)) refusal → Refuses names Of refusal
  vector_refuses block h refusal told = told_refuses names _ (e.Certified (e.NotRefuted block)) Of refl h refusal told

  pub task_refuses : (task : Task) (what : What) → TaskFault N cert (task_of task) (v.TooLarge (what_of what)) → (refusal : Refusal) → IsToldOr names (s.TooLarge task what) refusal → Refuses names Of refusal
  task_refuses task what h refusal told = told_refuses names _ (e.TooLarge (task_of task) (what_of what)) Of refl (inr h) refusal told

  pub place_refuses : (place : LeavesAt) → LeavesVector N cert place → (refusal : Refusal) → IsToldOr names (s.Overflow (o.At place)) refusal → Refuses names Of refusal
  place_refuses (at.Row task row) h refusal told = told_refuses names _ _ Of refl h refusal told
  place_refuses (at.Refute task column) h refusal told = told_refuses names _ _ Of refl h refusal told
  place_refuses place h refusal told = absurd h
