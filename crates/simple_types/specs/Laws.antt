-- The walk and the types of programs.
use Rattle.std.specs.Prelude.{◌≡◌, ◌↔◌, Ok, Err}
use Rattle.raml_syntax.specs.Tree as t
use Rattle.raml_syntax.specs.Tree.{Type', Prog}
use Rattle.raml_syntax.specs.Types.{Context, Finds, Checks, Typed}
use Rattle.simple_types.specs.Fault.{Fault}
use Rattle.simple_types.specs.Walk.{finds, checks, walk_program}

-- what the walk says of a program is what its types are, and it ends with a fault where there are none
pub record WalkIsTyping (P : Prog) : Type 0 where
  pub found : (G : Context) (e : t.Term) (T : Type') → (finds P G e ≡ Ok T) ↔ Finds P G e T
  pub checked : (G : Context) (e : t.Term) (T : Type') → (checks P G e T ≡ Ok T) ↔ Checks P G e T
  pub same : (G : Context) (e : t.Term) (T A : Type') → checks P G e T ≡ Ok A → A ≡ T
  pub whole : (walk_program P ≡ Ok tt) ↔ Typed P
  pub faulty : ((fault : Fault) × (walk_program P ≡ Err fault)) ↔ (Typed P → ⊥)

abbrev pub WalksAreTypings : Type 0
WalksAreTypings = (P : Prog) → WalkIsTyping P
