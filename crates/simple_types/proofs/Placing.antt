-- Functions at places.
use Rattle.std.proofs.Common.{◌≡◌, ◌<◌, ℕ, zero, suc, List, [], ◌∷◌, length, Some, refl, sym, subst, ap, ◌∙◌, arith}
use Rattle.std.specs.Prelude.{slice_get, slice_index_or, map}
use Rattle.std.specs.List.{All}
use Rattle.std.proofs.lemmas.List.Elements.{All-head, All-tail}
use Rattle.raml_syntax.specs.Tree.{Function, Prog}
use Rattle.raml_syntax.specs.Eval.{find}
use Rattle.raml_syntax.specs.Types.{Typed}
use Rattle.raml_syntax.specs.Read.{function_of, program_of}
use Rattle.raml_syntax.specs.declared.program.Program.{Program}
use Rattle.raml_syntax.specs.declared.program.Fun.{Fun}
use Rattle.raml_syntax.proofs.Places.{functions_have_places}

-- what holds of each function holds of the one at a place
pub each_at : (Q : Function → Type 0) (P : Prog) (k : ℕ) (g : Function) → All Q P → slice_get P k ≡ Some g → Q g
each_at Q [] k g all there = absurd (cc)
each_at Q (f ∷ P) zero g all there = let same : f ≡ g = cc in subst Q same (All-head Q f P all)
each_at Q (f ∷ P) (suc k) g all there = each_at Q P k g (All-tail Q f P all) there

-- what the code reads at a place is the function there
fun_at : (funs : List Fun) (k : ℕ) (item : Fun) (g : Function) → item ≡ slice_index_or funs k item → slice_get (map function_of funs) k ≡ Some g → function_of item ≡ g
fun_at [] k item g read there = absurd (cc)
fun_at (x ∷ funs) zero item g read there = let same : function_of x ≡ g = cc in ap function_of read ∙ same
fun_at (x ∷ funs) (suc k) item g read there = fun_at funs k item g read there

pub read_at : (program : Program) (P : Prog) (k : ℕ) (item : Fun) (g : Function) → program_of program ≡ P → item ≡ slice_index_or program.funs.items k item → slice_get P k ≡ Some g → function_of item ≡ g
read_at program P k item g same read there = fun_at program.funs.items k item g read (ap (λ Q. slice_get Q k) same ∙ there)

-- a place within the program has a function
pub some_at : (P : Prog) (k : ℕ) → k < length P → (fun : Function) × (slice_get P k ≡ Some fun)
some_at [] k below = absurd (omega (arith, below))
some_at (g ∷ P) zero below = (g, refl)
some_at (g ∷ P) (suc k) below = some_at P k (omega (arith, below))

-- the function at a place is found by its name
pub found : (P : Prog) → Typed P → (f : ℕ) (g : Function) → slice_get P f ≡ Some g → find g.name P ≡ Some g
found P typed f g there =
    let places = functions_have_places P in
    let placed = places.placed g.name f (places.own typed.functions f g there) in
    let same : placed.0 ≡ g = let e = sym placed.1 ∙ there in cc in
    subst (λ h. find g.name P ≡ Some h) same placed.3
