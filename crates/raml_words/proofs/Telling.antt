-- The code's answers, passed on.
use Rattle.std.proofs.Common.{◌≡◌, Option, Some, None, refl, sym, ap, ◌∙◌}
use Rattle.std.specs.Prelude.{option_map, option_and_then}
use Rattle.raml_words.specs.Asked.{TellsFault}
use Rattle.raml_words.specs.declared.request.WordsFault.{WordsFault}
use Rattle.raml_words.specs.declared.request.WordsFault.TheVariants.{Usage, NoMemory}

pub fault_of_map : {A B : Type 0} (x : WordsFault) (f : A → B) (o : Option A) → TellsFault x o → TellsFault x (option_map f o)
fault_of_map Usage f o h = ap (option_map f) h
fault_of_map NoMemory f o h = tt

-- a fault is that of what stands for it
pub fault_by : {A B : Type 0} (x : WordsFault) (o : Option A) (p : Option B) → (o ≡ None → p ≡ None) → TellsFault x o → TellsFault x p
fault_by Usage o p f h = f h
fault_by NoMemory o p f h = tt

pub no_fault : {A : Type 0} (x : WordsFault) (o : Option A) → (x ≡ Usage → o ≡ None) → TellsFault x o
no_fault Usage o h = h refl
no_fault NoMemory o h = tt

-- what is made of what is there
pub made_of : {A B : Type 0} (o p : Option A) (a : A) (f : A → Option B) → o ≡ p → p ≡ Some a → f a ≡ option_and_then f o
made_of o p a f e q = sym (ap (option_and_then f) (e ∙ q))

pub fault_of_made : {A B : Type 0} (x : WordsFault) (o p : Option A) (f : A → Option B) → o ≡ p → TellsFault x p → TellsFault x (option_and_then f o)
fault_of_made x o p f e h = fault_by x p (option_and_then f o) (λ q. ap (option_and_then f) (e ∙ q)) h
