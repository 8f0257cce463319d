-- The certificates of three ticks.
use Rattle.std.proofs.Common.{pos, List, [], ◌∷◌, refl, arith, subst, sym}
use Rattle.std.proofs.lemmas.Option.{same_Some}
use Rattle.std.proofs.lemmas.Bool.{leb-true, ltb-true}
use Rattle.cost_free.specs.declared.task.Meter.TheVariants.{Ticks, Cells, Work}
use Rattle.cost_free.specs.Task as k
use Rattle.normal_spec.specs.Norm.{NormFun}
use Rattle.annot_types.specs.Certificate.{annotation, Block}
use Rattle.annot_types.specs.Rules.{With, Ann}
use Rattle.annot_types.specs.Holds.{setting, Holds}
use Rattle.annot_types.specs.Held.{Held, before}
use Rattle.annot_types.specs.Example.{program, block, three_ticks, constant, ticks_of_three, two_of_three, work_of_three}
use Rattle.annot_types.proofs.Small.{covered}
use Rattle.annot_types.proofs.Each.{all_in_place, one_entry, scales_positive, work_positive, one_holds}

constant_holds : Holds (program three_ticks) 1 [] 1 constant 1
constant_holds =
    one_holds three_ticks _ _ _ _ _ _ _ (ltb-true 0 1 refl, tt) (ltb-true 0 1 refl, tt)
    (leb-true 0 1 refl, ((leb-true 0 1 refl, covered 1 _ _ refl), refl))
    (record { fun = three_ticks; there = refl; target = _; numbered = refl; sig = _; signed = refl; covers = (leb-true 1 1 refl, tt) })

ticks_hold : (earlier : List Block) → Holds (program three_ticks) 1 earlier 1 (block (k.With Ticks) ((0, pos 3) ∷ []) [] []) 1
ticks_hold earlier =
    one_holds three_ticks _ _ _ _ _ _ _ (ltb-true 0 1 refl, tt) tt
    (leb-true 3 3 refl, ((leb-true 0 0 refl, covered 1 _ _ refl), refl))
    tt

cells_hold : (earlier : List Block) → Holds (program three_ticks) 1 earlier 1 (block (k.With Cells) [] [] []) 1
cells_hold earlier =
    one_holds three_ticks _ _ _ _ _ _ _ tt tt
    (leb-true 0 0 refl, ((leb-true 0 0 refl, covered 1 _ _ refl), refl))
    tt

work_holds : (earlier : List Block) → Holds (program three_ticks) 1 earlier 1 (block (k.With Work) ((0, pos 3) ∷ []) [] []) 1
work_holds earlier =
    one_holds three_ticks _ _ _ _ _ _ _ (ltb-true 0 1 refl, tt) tt
    (leb-true 2 3 refl, ((leb-true 1 1 refl, covered 1 _ _ refl), refl))
    tt

pub tick_held : Held (program three_ticks) ticks_of_three
tick_held = record {
  least_degree = leb-true 1 1 refl;
  most_degree = leb-true 1 4 refl;
  scales = scales_positive ticks_of_three.blocks;
  blocks = all_in_place (program three_ticks) ticks_of_three (
    record { task = refl; waits = tt; shape = ((one_entry 0 0, one_entry 0 0, tt), (tt, tt)); holds = record { t = 1; one = tt; holds = constant_holds } },
    (
      record { task = refl; waits = tt; shape = ((one_entry 0 2, tt, tt), (tt, tt)); holds = record { t = 1; one = refl; holds = ticks_hold (before ticks_of_three 1) } },
      (record { task = refl; waits = tt; shape = ((tt, tt, tt), (tt, tt)); holds = record { t = 1; one = refl; holds = cells_hold (before ticks_of_three 2) } }, tt),
    ),
  );
  ended = refl;
}

-- with a tick less the price is not paid
pub tick_missing : Held (program three_ticks) two_of_three → ⊥
tick_missing h =
    let less_ticks = block (k.With Ticks) ((0, pos 2) ∷ []) [] [] in
    let ticks = h.blocks 1 less_ticks refl in
    let main = ticks.holds.holds.functions.0 in
    let S = setting (program three_ticks) 1 (before two_of_three 1) 1 less_ticks ticks.holds.t in
    let fits = subst (λ (g : NormFun). Ann S (With Ticks) 1 g.params (annotation ((0, pos 2) ∷ [])) g.body g.result (annotation []) [] [])
    (sym (same_Some three_ticks main.fun main.there)) main.fits in
    omega (arith, fits.0, ticks.holds.holds.positive)

pub work_held : Held (program three_ticks) work_of_three
work_held = record {
  least_degree = leb-true 1 1 refl;
  most_degree = leb-true 1 4 refl;
  scales = work_positive work_of_three.blocks;
  blocks = all_in_place (program three_ticks) work_of_three (
    record { task = refl; waits = tt; shape = ((one_entry 0 0, one_entry 0 0, tt), (tt, tt)); holds = record { t = 1; one = tt; holds = constant_holds } },
    (
      record { task = refl; waits = tt; shape = ((one_entry 0 2, tt, tt), (tt, tt)); holds = record { t = 1; one = refl; holds = ticks_hold (before work_of_three 1) } },
      (
        record { task = refl; waits = tt; shape = ((tt, tt, tt), (tt, tt)); holds = record { t = 1; one = refl; holds = cells_hold (before work_of_three 2) } },
        (record { task = refl; waits = tt; shape = ((one_entry 0 2, tt, tt), (tt, tt)); holds = record { t = 1; one = refl; holds = work_holds (before work_of_three 3) } }, tt),
      ),
    ),
  );
  ended = refl;
}
