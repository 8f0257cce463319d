-- A let beside a list that it does not use, and a cell of an option.
use Rattle.std.proofs.Common.{pos, [], ◌∷◌, refl, arith, subst, sym}
use Rattle.std.proofs.lemmas.Option.{same_Some}
use Rattle.std.proofs.lemmas.Bool.{leb-true, ltb-true}
use Rattle.normal_spec.specs.Norm.{NormFun}
use Rattle.annot_types.specs.Certificate.{annotation, Let}
use Rattle.annot_types.specs.Rules.{Own, Ann}
use Rattle.annot_types.specs.Holds.{setting, Holds}
use Rattle.annot_types.specs.Example.{program, beside, product_left, first, one_cell}
use Rattle.annot_types.proofs.Small.{covered}
use Rattle.annot_types.proofs.Each.{one_holds}

pub product_kept : Holds (program beside) 2 [] 1 (product_left ((1, pos 1) ∷ [])) 1
product_kept =
    one_holds beside _ _ _ _ _ _ _ (ltb-true 4 6 refl, tt) (ltb-true 4 6 refl, tt)
    (leb-true 0 0 refl, (_, (_, tt, ((leb-true 0 0 refl, covered 3 _ _ refl), refl), (_, (ltb-true 1 2 refl, tt), ((leb-true 0 0 refl, covered 2 _ _ refl), refl), (_, tt, ((leb-true 0 0 refl, covered 1 _ _ refl), refl), refl))), ((leb-true 0 0 refl, covered 6 _ _ refl), refl)))
    (record { fun = beside; there = refl; target = _; numbered = refl; sig = _; signed = refl; covers = (leb-true 1 1 refl, tt) })

-- Where the part at one entry of y is lost, the pair has no such product.
pub product_lost : Holds (program beside) 2 [] 1 (product_left []) 1 → ⊥
product_lost h =
    let of_beside = h.functions.0 in
    let S = setting (program beside) 2 [] 1 (product_left []) 1 in
    let fits = subst (λ (g : NormFun). Ann S Own 2 g.params (annotation ((4, pos 1) ∷ [])) g.body g.result (annotation ((4, pos 1) ∷ [])) (Let ([] ∷ [] ∷ [] ∷ []) ∷ []) [])
    (sym (same_Some beside of_beside.fun of_beside.there)) of_beside.fits in
    let asked = fits.1.2.0.1 4 (ltb-true 4 6 refl) in
    omega (arith, asked)

pub option_cell : Holds (program first) 1 [] 1 one_cell 1
option_cell =
    one_holds first _ _ _ _ _ _ _ (ltb-true 0 2 refl, tt) tt
    (leb-true 0 1 refl, (_, ((leb-true 0 1 refl, leb-true 0 1 refl), refl), (leb-true 0 1 refl, ((leb-true 1 1 refl, covered 1 _ _ refl), refl))))
    tt
