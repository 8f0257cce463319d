-- A certificate over scales is held.
use Rattle.std.proofs.Common.{◌≡◌, ◌≤◌, ◌<◌, ◌<ℤ◌, ℕ, zero, suc, pos, [], ◌∷◌, slice_get, nat_le, nat_lt, Some, true, refl, arith, subst, sym}
use Rattle.std.proofs.lemmas.Bool.{leb-true, ltb-true}
use Rattle.std.proofs.lemmas.Int.{ints}
use Rattle.cost_free.specs.declared.task.Meter.{Meter}
use Rattle.cost_free.specs.declared.task.Meter.TheVariants.{Ticks, Cells, Work}
use Rattle.normal_spec.specs.Norm.{NormFun}
use Rattle.annot_types.specs.Certificate.{annotation, Rise, Block}
use Rattle.annot_types.specs.Rules.{With, Ann}
use Rattle.annot_types.specs.Holds.{setting, Holds}
use Rattle.annot_types.specs.Held.{Held, IsInPlace, scale_of, before}
use Rattle.annot_types.specs.Example.{program}
use Rattle.tests_analysis.specs.Scaled.{ticking, zero_left, entry_left, ticks, cells, scaled, ScaledExamples}

at_most : (a b : ℕ) → nat_le a b ≡ true → a ≤ b
at_most = leb-true

below : (a b : ℕ) → nat_lt a b ≡ true → a < b
below = ltb-true

-- at the only position
covered : (r q : ℕ → ℕ) → nat_le (r 0) (q 0) ≡ true → (k : ℕ) → k < 1 → r k ≤ q k
covered r q e zero l = at_most (r 0) (q 0) e
covered r q e (suc k) l = absurd (omega (arith, l))

positive : (n : ℕ) → pos 0 <ℤ pos (suc n)
positive n = grind (arith, ints)

rises : (k n : ℕ) → Rise ((k, pos (suc n)) ∷ [])
rises k n = (omega arith, positive n, tt)

zero_holds : Holds (program ticking) 1 [] 1 zero_left 1
zero_holds = record {
  positive = below 0 1 refl;
  solved = tt;
  functions = (
    record {
      fun = ticking;
      there = refl;
      args = (below 0 1 refl, tt);
      result = (below 0 1 refl, tt);
      fits = (at_most 0 1 refl, ((at_most 0 1 refl, covered _ _ refl), refl));
    },
    tt,
  );
  reaches = record { fun = ticking; there = refl; target = _; numbered = refl; sig = _; signed = refl; covers = (at_most 1 1 refl, tt) };
}

entry_holds : Holds (program ticking) 1 (zero_left ∷ []) 1 entry_left 1
entry_holds = record {
  positive = below 0 1 refl;
  solved = tt;
  functions = (
    record {
      fun = ticking;
      there = refl;
      args = (below 0 1 refl, tt);
      result = (below 1 2 refl, tt);
      fits = (at_most 0 1 refl, ((at_most 0 1 refl, covered _ _ refl), refl));
    },
    tt,
  );
  reaches = record { fun = ticking; there = refl; target = _; numbered = refl; sig = _; signed = refl; covers = (at_most 1 1 refl, tt) };
}

ticks_hold : Holds (program ticking) 1 (before (scaled 6) 2) 2 (ticks 6) 1
ticks_hold = record {
  positive = below 0 1 refl;
  solved = tt;
  functions = (
    record { fun = ticking; there = refl; args = (below 0 1 refl, tt); result = tt; fits = (at_most 6 6 refl, ((at_most 0 0 refl, covered _ _ refl), refl)) },
    tt,
  );
  reaches = tt;
}

cells_hold : Holds (program ticking) 1 (before (scaled 6) 3) 3 cells 1
cells_hold = record {
  positive = below 0 1 refl;
  solved = tt;
  functions = (
    record { fun = ticking; there = refl; args = (below 0 1 refl, tt); result = tt; fits = (at_most 0 3 refl, ((at_most 3 3 refl, covered _ _ refl), refl)) },
    tt,
  );
  reaches = tt;
}

some_is : (x y : Block) → Some x ≡ Some y → x ≡ y
some_is x y e = cc

in_place : (place : ℕ) (b : Block) → slice_get (scaled 6).blocks place ≡ Some b → IsInPlace (program ticking) (scaled 6) place b
in_place zero b there =
    subst (IsInPlace (program ticking) (scaled 6) 0) (some_is zero_left b there)
    (record { task = refl; waits = tt; shape = ((rises 0 0, rises 0 0, tt), (tt, tt)); holds = record { t = 1; one = tt; holds = zero_holds } })
in_place (suc zero) b there =
    subst (IsInPlace (program ticking) (scaled 6) 1) (some_is entry_left b there)
    (record { task = refl; waits = tt; shape = ((rises 0 0, rises 1 0, tt), (tt, tt)); holds = record { t = 1; one = tt; holds = entry_holds } })
in_place (suc (suc zero)) b there =
    subst (IsInPlace (program ticking) (scaled 6) 2) (some_is (ticks 6) b there)
    (record { task = refl; waits = tt; shape = ((rises 0 5, tt, tt), (tt, tt)); holds = record { t = 1; one = refl; holds = ticks_hold } })
in_place (suc (suc (suc zero))) b there =
    subst (IsInPlace (program ticking) (scaled 6) 3) (some_is cells b there)
    (record { task = refl; waits = tt; shape = ((rises 0 2, tt, tt), (tt, tt)); holds = record { t = 1; one = refl; holds = cells_hold } })
in_place (suc (suc (suc (suc place)))) b there = absurd (cc)

scales : (meter : Meter) → pos 0 <ℤ scale_of (scaled 6) meter
scales Ticks = positive 1
scales Cells = positive 2
scales Work = positive 0

-- with 5 the three ticks are not paid
unpaid : Held (program ticking) (scaled 5) → ⊥
unpaid h =
    let placed = h.blocks 2 (ticks 5) refl in
    let main = placed.holds.holds.functions.0 in
    let S = setting (program ticking) 1 (before (scaled 5) 2) 2 (ticks 5) placed.holds.t in
    let same : ticking ≡ main.fun = let p = main.there in cc in
    let fits = subst (λ (g : NormFun). Ann S (With Ticks) 1 g.params (annotation ((0, pos 5) ∷ [])) g.body g.result (annotation []) [] []) (sym same) main.fits in
    omega (arith, fits.0, placed.holds.holds.positive)

pub scales_are_paid : ScaledExamples
scales_are_paid = record {
  held = record { least_degree = at_most 1 1 refl; most_degree = at_most 1 4 refl; scales = scales; blocks = in_place; ended = refl };
  unpaid = unpaid;
  over_scales = refl;
  rows = refl;
  in_order = refl;
}
