-- The next instruction.
use Rattle.std.proofs.Common.{◌≡◌, ℕ, zero, suc, ◌<◌, List, [], ◌∷◌, length, Option, Some, None, refl, sym, ap, ◌∙◌, subst, arith}
use Rattle.std.specs.Prelude.{slice_get, map}
use Rattle.raml_syntax.specs.Tree.{Prog}
use Rattle.stack_compile.specs.Code.{Body, body_of, bodies_of}
use Rattle.stack_compile.specs.Machine.{act, fetch, fetch_in, step, moved}
use Rattle.stack_compile.specs.Read.{code_in, code_at}
use Rattle.stack_compile.specs.Ready.{Finds, Ready}
use Rattle.stack_compile.specs.declared.instr.Instr.{Instr}
use Rattle.metered_vm.specs.declared.machine.Machine.{Machine}
use Rattle.metered_vm.specs.Running.{stack_in, locals_in, frames_in, state_of}
use Rattle.metered_vm.specs.Stepping.{body_at}

-- a function with an instruction is there
there_in : {A : Type 0} → (h : A → Body) (P : List A) (f p : ℕ) (i : Instr) → fetch (map h P) f p ≡ Some i → f < length P
there_in h [] f p i e = absurd (cc)
there_in h (g ∷ P) zero p i e = omega arith
there_in h (g ∷ P) (suc f) p i e = omega (arith, there_in h P f p i e)

-- an instruction is fetched from the body of its function
fetched : (code : List Body) (f p : ℕ) → fetch code f p ≡ slice_get (code_at code f) p
fetched code f p = by (slice_get code f)
  where
    by : (o : Option Body) → fetch_in o p ≡ slice_get (code_in o) p
    by None = refl
    by (Some b) = refl

pub fetch_is : (code : List Body) (body : List Instr) (x : Machine) (i : Instr) → body ≡ body_at code x → slice_get body x.place ≡ Some i → fetch code x.fun.0 x.place ≡ Some i
fetch_is code body x i b e = fetched code x.fun.0 x.place ∙ ap (λ l. slice_get l x.place) (sym b) ∙ e

-- a step whose instruction is known
pub step_is : (code : List Body) (body : List Instr) (x : Machine) (i : Instr) → body ≡ body_at code x → slice_get body x.place ≡ Some i → step code (state_of x) ≡ moved (state_of x) (act code (Some i) x.fun.0 x.place (stack_in x) (locals_in x) (frames_in x))
step_is code body x i b e = ap (λ o. moved (state_of x) (act code o x.fun.0 x.place (stack_in x) (locals_in x) (frames_in x))) (fetch_is code body x i b e)

pub finds_at : (code : List Body) (body : List Instr) (x : Machine) (i : Instr) → body ≡ body_at code x → slice_get body x.place ≡ Some i → Ready code (state_of x).at → Finds code (Some i) (stack_in x) (locals_in x)
finds_at code body x i b e h = subst (λ o. Finds code o (stack_in x) (locals_in x)) (fetch_is code body x i b e) h

-- where the next instruction finds what it takes, it is there
there : (code : List Body) (x : Machine) → Ready code (state_of x).at → (i : Instr) × (fetch code x.fun.0 x.place ≡ Some i)
there code x h = by (fetch code x.fun.0 x.place) refl h
  where
    by : (o : Option Instr) → fetch code x.fun.0 x.place ≡ o → Finds code o (stack_in x) (locals_in x) → (i : Instr) × (fetch code x.fun.0 x.place ≡ Some i)
    by None e h = absurd h
    by (Some i) e h = (i, e)

pub there_at : (code : List Body) (body : List Instr) (x : Machine) → body ≡ body_at code x → Ready code (state_of x).at → (i : Instr) × (slice_get body x.place ≡ Some i)
there_at code body x b h =
    let t = there code x h in
    (t.0, ap (λ l. slice_get l x.place) b ∙ sym (fetched code x.fun.0 x.place) ∙ t.1)

-- and so is its function
pub function_there : (P : Prog) (x : Machine) → Ready (bodies_of P) (state_of x).at → x.fun.0 < length P
function_there P x h =
    let t = there (bodies_of P) x h in
    there_in (body_of P) P x.fun.0 x.place t.0 t.1
