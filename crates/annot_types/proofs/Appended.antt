-- The certificates of a list appended to another.
use Rattle.std.proofs.Common.{◌≡◌, ◌≤◌, pos, List, [], ◌∷◌, slice_get, Some, refl, arith, subst, sym}
use Rattle.std.proofs.lemmas.Option.{same_Some}
use Rattle.std.proofs.lemmas.Bool.{leb-true, ltb-true}
use Rattle.cost_free.specs.declared.task.Meter.TheVariants.{Cells}
use Rattle.index_shift.specs.Potential.{Annotation, moved}
use Rattle.index_shift.specs.Maps.{opening}
use Rattle.normal_spec.specs.Norm as n
use Rattle.normal_spec.specs.Norm.{Norm, NormFun}
use Rattle.normal_spec.specs.Context.{Context, types, place, opened, parts_of}
use Rattle.raml_syntax.specs.Tree.{Integer, ListOf}
use Rattle.annot_types.specs.Certificate.{annotation, Block, Sig, Let, Call}
use Rattle.annot_types.specs.Signature.{free_budget, sig_in}
use Rattle.annot_types.specs.Carried.{less}
use Rattle.annot_types.specs.Rules.{Setting, With, Ann, price, Taken, TakesOnce, IsMultiple, AreMultiples, asked, all_taken}
use Rattle.annot_types.specs.Holds.{setting, Holds}
use Rattle.annot_types.specs.Held.{Held, before}
use Rattle.annot_types.specs.Example.{program, append, one_left, length_left, no_ticks, cells, append_with}
use Rattle.annot_types.proofs.Small.{covered}
use Rattle.annot_types.proofs.Each.{all_in_place, one_entry, two_entries, scales_positive, one_holds}

constant_holds : Holds (program append) 1 [] 1 one_left 1
constant_holds =
    one_holds append _ _ _ _ _ _ _ (ltb-true 0 1 refl, tt) (ltb-true 0 1 refl, tt) (
      leb-true 0 1 refl,
      (
        _,
        ((leb-true 0 1 refl, covered 1 _ _ refl), refl),
        (
          leb-true 0 1 refl,
          (
            _,
            (
              _,
              (ltb-true 0 1 refl, tt),
              (
                leb-true 0 1 refl,
                (record { fun = append; there = refl; once = _; takes = refl; multiples = []; named = tt; args = covered 1 _ _ refl; result = covered 1 _ _ refl }, refl),
              ),
              refl,
            ),
            ((leb-true 0 1 refl, covered 1 _ _ refl), refl),
          ),
        ),
      ),
    )
    (record { fun = append; there = refl; target = _; numbered = refl; sig = _; signed = refl; covers = (leb-true 1 1 refl, tt) })

-- the first block, taken once
abbrev one_taken : Taken
one_taken = record { budget = 0; sig = record { args = (0, pos 1) ∷ []; result = (0, pos 1) ∷ [] }; times = 1 }

length_holds : Holds (program append) 1 (one_left ∷ []) 1 length_left 1
length_holds =
    one_holds append _ _ _ _ _ _ _ (ltb-true 1 3 refl, (ltb-true 2 3 refl, tt)) (ltb-true 1 2 refl, tt) (
      leb-true 0 0 refl,
      (
        _,
        ((leb-true 0 0 refl, covered 2 _ _ refl), refl),
        (
          leb-true 0 1 refl,
          (
            _,
            (
              _,
              (ltb-true 0 2 refl, (ltb-true 1 2 refl, tt)),
              (
                leb-true 0 1 refl,
                (record { fun = append; there = refl; once = _; takes = refl; multiples = one_taken ∷ []; named = (record { block = one_left; there = refl; free = refl; low = leb-true 0 1 refl; sig = refl; times = refl }, tt); args = covered 3 _ _ refl; result = covered 2 _ _ refl }, refl),
              ),
              refl,
            ),
            ((leb-true 0 1 refl, covered 2 _ _ refl), refl),
          ),
        ),
      ),
    )
    (record { fun = append; there = refl; target = _; numbered = refl; sig = _; signed = refl; covers = (leb-true 1 1 refl, tt) })

ticks_hold : Holds (program append) 1 (one_left ∷ length_left ∷ []) 1 no_ticks 1
ticks_hold =
    one_holds append _ _ _ _ _ _ _ tt tt (
      leb-true 0 0 refl,
      (
        _,
        ((leb-true 0 0 refl, covered 2 _ _ refl), refl),
        (
          leb-true 0 0 refl,
          (
            _,
            (
              _,
              tt,
              (
                leb-true 0 0 refl,
                (record { fun = append; there = refl; once = _; takes = (_, refl, refl); multiples = []; named = tt; args = covered 3 _ _ refl; result = covered 2 _ _ refl }, refl),
              ),
              refl,
            ),
            ((leb-true 0 0 refl, covered 2 _ _ refl), refl),
          ),
        ),
      ),
    )
    tt

cells_hold : Holds (program append) 1 (one_left ∷ length_left ∷ no_ticks ∷ []) 1 (cells ((2, pos 1) ∷ [])) 1
cells_hold =
    one_holds append _ _ _ _ _ _ _ (ltb-true 2 3 refl, tt) tt (
      leb-true 0 0 refl,
      (
        _,
        ((leb-true 0 0 refl, covered 2 _ _ refl), refl),
        (
          leb-true 0 1 refl,
          (
            _,
            (
              _,
              (ltb-true 0 2 refl, tt),
              (
                leb-true 0 1 refl,
                (record { fun = append; there = refl; once = _; takes = (_, refl, refl); multiples = one_taken ∷ []; named = (record { block = one_left; there = refl; free = refl; low = leb-true 0 1 refl; sig = refl; times = refl }, tt); args = covered 3 _ _ refl; result = covered 2 _ _ refl }, refl),
              ),
              refl,
            ),
            ((leb-true 1 1 refl, covered 2 _ _ refl), refl),
          ),
        ),
      ),
    )
    tt

pub append_held : Held (program append) (append_with ((2, pos 1) ∷ []))
append_held = record {
  least_degree = leb-true 1 1 refl;
  most_degree = leb-true 1 4 refl;
  scales = scales_positive (append_with ((2, pos 1) ∷ [])).blocks;
  blocks = all_in_place (program append) (append_with ((2, pos 1) ∷ [])) (
    record { task = refl; waits = tt; shape = ((one_entry 0 0, one_entry 0 0, tt), (((one_entry 0 0, tt), (tt, tt)), tt)); holds = record { t = 1; one = tt; holds = constant_holds } },
    (
      record {
        task = refl;
        waits = tt;
        shape = ((two_entries 1, one_entry 1 0, tt), (((two_entries 0, tt), (one_entry 0 0, tt)), tt));
        holds = record { t = 1; one = tt; holds = length_holds };
      },
      (
        record { task = refl; waits = tt; shape = ((tt, tt, tt), (((tt, tt), (tt, tt)), tt)); holds = record { t = 1; one = refl; holds = ticks_hold } },
        (
          record { task = refl; waits = tt; shape = ((one_entry 2 0, tt, tt), (((one_entry 0 0, tt), (one_entry 0 0, tt)), tt)); holds = record { t = 1; one = refl; holds = cells_hold } },
          tt,
        ),
      ),
    ),
  );
  ended = refl;
}

-- Without the cell for an element, the call asks for one that is not there.
abbrev less_cells : Block
less_cells = cells []

abbrev at_cells : Setting
at_cells = setting (program append) 1 (before (append_with []) 3) 1 less_cells 1

abbrev tail_and_second : Context
tail_and_second = (4, ListOf Integer) ∷ (2, ListOf Integer) ∷ []

takes_first : (u : Taken) → IsMultiple at_cells 1 0 (0, pos 1) u → u ≡ one_taken
takes_first u m =
    let same : one_left ≡ m.block = same_Some one_left m.block m.there in
    let budget : 0 ≡ u.budget = same_Some 0 u.budget (subst (λ (b : Block). free_budget b.task.kind ≡ Some u.budget) (sym same) m.free) in
    let sig : one_taken.sig ≡ u.sig = same_Some one_taken.sig u.sig (subst (λ (b : Block). sig_in (program append) b 0 ≡ Some u.sig) (sym same) m.sig) in
    λ i. record { budget = sym budget i; sig = sym sig i; times = m.times i }

abbrev no_sig : Sig
no_sig = record { args = []; result = [] }

asks_one : (once : List Sig) → TakesOnce at_cells (With Cells) 0 once → (us : List Taken) → AreMultiples at_cells 1 0 ((0, pos 1) ∷ []) us →
    (g : NormFun) → slice_get (append ∷ []) 0 ≡ Some g →
    1 ≤ asked at_cells tail_and_second (4 ∷ 2 ∷ []) (types g.params) 1 (all_taken at_cells once us) 0
asks_one once takes [] named g there = absurd named
asks_one once takes (u ∷ v ∷ us) named g there = absurd named.1
asks_one once takes (u ∷ []) named g there =
    subst (λ (g : NormFun). 1 ≤ asked at_cells tail_and_second (4 ∷ 2 ∷ []) (types g.params) 1 (all_taken at_cells once (u ∷ [])) 0) (same_Some append g there)
    (subst (λ ss. 1 ≤ asked at_cells tail_and_second (4 ∷ 2 ∷ []) (types append.params) 1 (all_taken at_cells ss (u ∷ [])) 0) (sym takes.2)
    (subst (λ s. 1 ≤ asked at_cells tail_and_second (4 ∷ 2 ∷ []) (types append.params) 1 (all_taken at_cells (s ∷ []) (u ∷ [])) 0) (same_Some no_sig takes.0 takes.1)
    (subst (λ u. 1 ≤ asked at_cells tail_and_second (4 ∷ 2 ∷ []) (types append.params) 1 (all_taken at_cells (no_sig ∷ []) (u ∷ [])) 0) (sym (takes_first u named.0)) (leb-true 1 _ refl))))

-- the branch of a list with elements, and the annotation of its context
abbrev bound_call : Norm
bound_call = n.Let 2 5 (ListOf Integer) (n.Call 3 0 (4 ∷ 2 ∷ [])) (n.Cons 0 3 5)

abbrev after_match : Annotation
after_match = moved (opening (types append.params) (place 1 append.params) 1) (less (price at_cells (With Cells) 3 0 0) (annotation []))

pub cell_missing : Held (program append) (append_with []) → ⊥
cell_missing h =
    let placed = h.blocks 3 less_cells refl in
    let holds = subst (λ t. Holds (program append) 1 (before (append_with []) 3) 1 less_cells t) placed.holds.one placed.holds.holds in
    let of_append = holds.functions.0 in
    let fits = subst (λ (g : NormFun). Ann at_cells (With Cells) 1 g.params (annotation []) g.body g.result (annotation []) (Let (((0, pos 1) ∷ []) ∷ []) ∷ Call ((0, pos 1) ∷ []) ∷ []) [])
    (sym (same_Some append of_append.fun of_append.there)) of_append.fits in
    let bound = subst (λ hs. Ann at_cells (With Cells) 1 (opened 1 (3 ∷ 4 ∷ []) parts_of append.params) after_match bound_call (ListOf Integer) (annotation []) hs [])
    (sym fits.1.1.1) fits.1.2 in
    let rule = bound.1.1.2.1.0 in
    let few = asks_one rule.once rule.takes rule.multiples rule.named rule.fun rule.there in
    omega (arith, few, rule.args 0 (ltb-true 0 3 refl))
