-- Locals and functions by their names.
use Rattle.std.proofs.Common.{◌≡◌, ◌∙◌, ℕ, ◌+◌, ◌-◌, ◌<◌, List, [], ◌∷◌, ◌++◌, length, map, slice_index_or, true, false, cond, refl, sym, ap, arith, length-append, Bor}
use Rattle.std.specs.Option.{option_map}
use Rattle.std.specs.Str.{bytes_eq}
use Rattle.raml_syntax.specs.Tree.{Text, Prog}
use Rattle.std.specs.Prelude.{slice_get}
use Rattle.std.proofs.lemmas.Option.{slice_get-map, slice_get_read}
use Rattle.raml_syntax.specs.Read.{function_of}
use Rattle.raml_syntax.specs.declared.program.Fun.{Fun}
use Rattle.stack_compile.specs.Code.{newest, local_of, body_of, bodies_of}
use Rattle.stack_compile.specs.Read.{names_in, scope_step, code_in, code_at}
use Rattle.stack_compile.specs.declared.scope.Scope.{Scope}
use Rattle.stack_compile.specs.declared.scope.Scope.TheVariants.{Bound, rolls-Bound}
use Rattle.stack_compile.specs.declared.scope.Scope.TheOpen as o
use Rattle.stack_compile.specs.declared.scope.Scope.TheFolds.{fold-roll-Scope}

pub newest_behind : (x y : Text) (xs : List Text) (i found : ℕ) → newest x (xs ++ y ∷ []) i found ≡ cond (bytes_eq x y) (i + length xs) (newest x xs i found)
newest_behind x y [] i found = ap (λ n. cond (bytes_eq x y) n found) (omega arith)
newest_behind x y (z ∷ xs) i found =
    newest_behind x y xs (i + 1) (cond (bytes_eq x z) i found)
    ∙ ap (λ n. cond (bytes_eq x y) n (newest x xs (i + 1) (cond (bytes_eq x z) i found))) (omega arith)

-- the last of the locals is looked at first
pub local_behind : (x y : Text) (xs : List Text) → local_of x (xs ++ y ∷ []) ≡ cond (bytes_eq x y) (length xs) (local_of x xs)
local_behind x y xs = newest_behind x y xs 0 0 ∙ ap (λ n. cond (bytes_eq x y) n (local_of x xs)) (omega arith)

pub names_bound : (scope : Scope) (name : Bor Text) (outer : Bor Scope) → scope ≡ Bound name outer → names_in scope ≡ names_in outer.now ++ name.now ∷ []
names_bound scope name outer e = ap names_in (e ∙ sym (rolls-Bound name outer)) ∙ fold-roll-Scope (List Text) scope_step (o.Bound name outer)

-- the newest local has this name
pub found_here : (scope : Scope) (name : Bor Text) (outer : Bor Scope) (x : Text) (depth : ℕ) → scope ≡ Bound name outer → depth ≡ length (names_in scope) → bytes_eq x name.now ≡ true → depth - 1 ≡ local_of x (names_in scope)
found_here scope name outer x depth e numbered same =
    let names = names_bound scope name outer e in
    let one : depth - 1 ≡ length (names_in outer.now) = omega (arith, numbered, ap length names, length-append (names_in outer.now) (name.now ∷ [])) in
    one
    ∙ sym (ap (λ b. cond b (length (names_in outer.now)) (local_of x (names_in outer.now))) same)
    ∙ sym (local_behind x name.now (names_in outer.now))
    ∙ ap (local_of x) (sym names)

-- it has another
pub found_behind : (scope : Scope) (name : Bor Text) (outer : Bor Scope) (x : Text) (place : ℕ) → scope ≡ Bound name outer → place ≡ local_of x (names_in outer.now) → bytes_eq x name.now ≡ false → place ≡ local_of x (names_in scope)
found_behind scope name outer x place e found other =
    found
    ∙ sym (ap (λ b. cond b (length (names_in outer.now)) (local_of x (names_in outer.now))) other)
    ∙ sym (local_behind x name.now (names_in outer.now))
    ∙ ap (local_of x) (sym (names_bound scope name outer e))

-- the code of a function that was read
pub code_read : (P : Prog) (funs : List Fun) (place : ℕ) (fun : Fun) → P ≡ map function_of funs → place < length funs → fun ≡ slice_index_or funs place fun → code_at (bodies_of P) place ≡ (body_of P (function_of fun)).code
code_read P funs place fun all inside read =
    let there = slice_get-map function_of funs place ∙ ap (option_map function_of) (slice_get_read funs (length funs) place fun refl inside read) in
    ap code_in (slice_get-map (body_of P) P place ∙ ap (option_map (body_of P)) (ap (λ l. slice_get l place) all ∙ there))
