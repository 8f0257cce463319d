-- There is one first fault.
use Rattle.std.proofs.Common.{◌≡◌, sym, ◌∙◌, inl, inr}
use Rattle.std.specs.Prelude.{List, [], ◌∷◌, ◌++◌, Option, None, Some}
use Rattle.std.proofs.lemmas.Option.{none-some}
use Rattle.cost_free.specs.Task.{Task}
use Rattle.annot_types.specs.Program.{Program}
use Rattle.annot_types.specs.Certificate.{Body, Solved, Refuted, Calls, Block, Certificate}
use Rattle.cert_check.specs.Fault.{Fault, Unless}
use Rattle.cert_check.specs.Finds.{BodyFinds, BlockFinds, EndFinds, BlocksFind}
use Rattle.cert_check.specs.Laws.{OneFirstFault}

pub unless_one : (good : Type 0) (fault x y : Option Fault) (A B : Type 0) → (A → B → x ≡ y) → Unless good fault x A → Unless good fault y B → x ≡ y
unless_one good fault x y A B h (inl a) (inl b) = h a.1 b.1
unless_one good fault x y A B h (inl a) (inr b) = absurd (b.0 a.0)
unless_one good fault x y A B h (inr a) (inl b) = absurd (a.0 b.0)
unless_one good fault x y A B h (inr a) (inr b) = a.1 ∙ sym b.1

module _ (P : Program) (c : Certificate) where
  pub body_one : (earlier : List Block) (task : Task) (body : Body) (x y : Option Fault) → BodyFinds P c earlier task body x → BodyFinds P c earlier task body y → x ≡ y
  body_one earlier task (Solved sigs hints) x y =
      unless_one _ _ x y _ _ (unless_one _ _ x y _ _ (unless_one _ _ x y _ _ (λ e h. e ∙ sym h)))
  body_one earlier task (Refuted farkas) x y = unless_one _ _ x y _ _ (λ e h. e ∙ sym h)
  body_one earlier task (Calls f) x y = λ e h. e ∙ sym h

  block_one : (earlier : List Block) (b : Block) (x y : Option Fault) → BlockFinds P c earlier b x → BlockFinds P c earlier b y → x ≡ y
  block_one earlier b x y = unless_one _ _ x y _ _ (unless_one _ _ x y _ _ (body_one earlier b.task b.body x y))

  end_one : (earlier : List Block) (x y : Option Fault) → EndFinds P c earlier x → EndFinds P c earlier y → x ≡ y
  end_one earlier x y = unless_one _ _ x y _ _ (unless_one _ _ x y _ _ (λ e h. e ∙ sym h))

  blocks_one : (earlier bs : List Block) (x y : Option Fault) → BlocksFind P c earlier bs x → BlocksFind P c earlier bs y → x ≡ y
  blocks_one earlier [] x y g h = end_one earlier x y g h
  blocks_one earlier (b ∷ bs) x y (inl g) (inl h) = blocks_one (earlier ++ b ∷ []) bs x y g.1 h.1
  blocks_one earlier (b ∷ bs) x y (inl g) (inr h) = absurd (none-some h.0 (block_one earlier b None (Some h.0) g.0 h.1))
  blocks_one earlier (b ∷ bs) x y (inr g) (inl h) = absurd (none-some g.0 (block_one earlier b None (Some g.0) h.0 g.1))
  blocks_one earlier (b ∷ bs) x y (inr g) (inr h) = g.2 ∙ block_one earlier b (Some g.0) (Some h.0) g.1 h.1 ∙ sym h.2

pub one_first_fault : OneFirstFault
one_first_fault P c x y = unless_one _ _ x y _ _ (blocks_one P c [] c.blocks x y)
