-- What a tried task's system asks for is there, since blocks that hold have the right shape.
use Rattle.std.proofs.Common.{◌≡◌, ℕ, List, [], ◌∷◌, length, refl, ap}
use Rattle.std.specs.Prelude.{suc}
use Rattle.cost_free.specs.Task.{Task}
use Rattle.annot_types.specs.Program.{Program, members}
use Rattle.annot_types.specs.Certificate as c
use Rattle.annot_types.specs.Certificate.{Sig, Hint, Body, Solved, Block}
use Rattle.annot_types.specs.Rules.{Mode, Setting}
use Rattle.annot_types.specs.Holds.{FunctionsHold}
use Rattle.annot_types.specs.Held.{IfSolved}
use Rattle.rules_systems_laws.specs.Shaped.{IsSigned, AreSigned, ShapedAreTasks}
use Rattle.infer_spec.specs.States.{State, scale_at}
use Rattle.infer_spec.specs.Good.{HoldsAt, AllHold}
use Rattle.infer_systems_laws.specs.Tried.{TriedAreTasks}

as_many : (S : Setting) (mode : Mode) (fs : List ℕ) (ss : List Sig) (hss : List (List Hint)) → FunctionsHold S mode fs ss hss → length ss ≡ length fs
as_many S mode [] [] [] h = refl
as_many S mode [] [] (hs ∷ hss) h = absurd h
as_many S mode [] (s ∷ ss) hss h = absurd h
as_many S mode (f ∷ fs) [] hss h = absurd h
as_many S mode (f ∷ fs) (s ∷ ss) [] h = absurd h
as_many S mode (f ∷ fs) (s ∷ ss) (hs ∷ hss) h = ap suc (as_many S mode fs ss hss h.1)

-- blocks that hold have a signature for each function of their groups
signed : (P : Program) (d : ℕ) (st : State) → AllHold P d st → AreSigned P st.blocks
signed P d st hold place block there = by block.task block.body _ (hold place block there)
  where
    by : (task : Task) (body : Body) (earlier : List Block) → IfSolved body (HoldsAt P d st.scales earlier (record { task = task; body = body })) → IsSigned P (record { task = task; body = body })
    by task (Solved sigs hints) earlier h = as_many _ _ (members P task.group) sigs hints h.holds.functions
    by task (c.Refuted farkas) earlier h = tt
    by task (c.Calls fun) earlier h = tt

pub tried_are_tasks : ShapedAreTasks → TriedAreTasks
tried_are_tasks tasks A ordered st task stands =
    (tasks A.program A.degree A.work st.blocks task (scale_at st.scales task.kind) ordered (signed A.program A.degree st stands.hold) stands.next stands.tried).0
