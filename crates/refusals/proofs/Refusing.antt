-- Refusals by the code's faults.
use Rattle.std.proofs.Common.{◌≢◌, refl}
use Rattle.value_text.specs.declared.fault.DataFault.{DataFault}
use Rattle.value_text.specs.declared.fault.DataFault.TheVariants as d
use Rattle.cert_json.specs.declared.whole.JsonFault.{JsonFault}
use Rattle.cert_json.specs.declared.whole.JsonFault.TheVariants as j
use Rattle.bound_infer.specs.declared.refusal.InferFault.{InferFault}
use Rattle.bound_infer.specs.declared.refusal.InferFault.TheVariants as i
use Rattle.refusal_text.specs.declared.task.Analysed.TheVariants.{Other}
use Rattle.refusals.specs.Line.{Names, no_names}
use Rattle.refusals.specs.Refusals.{IsToldOr, DataRefusal, JsonRefusal, CourseRefusal}
use Rattle.refusals.specs.declared.answer.Refusal.{Refusal}
use Rattle.refusals.specs.declared.status.Status.TheVariants as s
use Rattle.refusals.specs.declared.status.CertAnswer.TheVariants as c

pub data_refusal : (fault : DataFault) → (fault ≢ d.NoMemory) → (refusal : Refusal) → IsToldOr no_names (s.Data fault) refusal → DataRefusal fault refusal
data_refusal (d.NotUtf8 a) some refusal told = told
data_refusal (d.Shape a) some refusal told = told
data_refusal (d.TooDeep a) some refusal told = told
data_refusal d.TooManyCells some refusal told = told
data_refusal d.NoMemory some refusal told = absurd (some refl)

pub json_refusal : (fault : JsonFault) → (fault ≢ j.NoMemory) → (refusal : Refusal) → IsToldOr no_names (s.Certificate (c.Json fault)) refusal → JsonRefusal fault refusal
json_refusal j.NotJson some refusal told = told
json_refusal (j.Shape place) some refusal told = told
json_refusal (j.Number place) some refusal told = told
json_refusal j.NoMemory some refusal told = absurd (some refl)

pub other_refusal : (names : Names) (fault : InferFault) → (fault ≢ i.NoMemory) → (refusal : Refusal) → IsToldOr names (s.OtherFault fault) refusal → CourseRefusal Other names fault refusal
other_refusal names (i.TooLarge task what) some refusal told = told
other_refusal names (i.Leaves place) some refusal told = told
other_refusal names i.NoMemory some refusal told = absurd (some refl)
