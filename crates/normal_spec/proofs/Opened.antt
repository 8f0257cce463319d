-- New variables in place of one whose type is known.
use Rattle.std.proofs.Common.{◌≡◌, ℕ, List, sym, ap, subst}
use Rattle.std.specs.Prelude.{zip}
use Rattle.raml_syntax.specs.Tree.{Type'}
use Rattle.normal_spec.specs.Norm as n
use Rattle.normal_spec.specs.Norm.{NormProg}
use Rattle.normal_spec.specs.One.{type_or}
use Rattle.normal_spec.specs.Free.{put}
use Rattle.normal_spec.specs.Context.{Context, IsIn, opened}
use Rattle.normal_spec.specs.Uses.{Uses}

pub opened_is : (x : ℕ) (ys : List ℕ) (parts : Type' → List Type') (A : Type') (C : Context) → IsIn x A C → opened x ys parts C ≡ put x (zip ys (parts A)) C
opened_is x ys parts A C e = ap (λ o. put x (zip ys (parts (type_or o))) C) e

module _ (N : NormProg) (x : ℕ) (ys : List ℕ) (parts : Type' → List Type') (A : Type') (C : Context) (e : IsIn x A C) (m : n.Norm) (T : Type') where
  pub as_put : Uses N (opened x ys parts C) m T → Uses N (put x (zip ys (parts A)) C) m T
  as_put h = subst (λ D. Uses N D m T) (opened_is x ys parts A C e) h

  pub as_opened : Uses N (put x (zip ys (parts A)) C) m T → Uses N (opened x ys parts C) m T
  as_opened h = subst (λ D. Uses N D m T) (sym (opened_is x ys parts A C e)) h
