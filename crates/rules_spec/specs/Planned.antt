-- The plan of a form: its rules at the positions of its contexts.
use Rattle.std.specs.Prelude.{ℕ, zero, suc, ◌-◌, nat_eq, nat_le, cond, Bool, false, List, [], ◌∷◌, ◌++◌, map, slice_get, max, Option, None}
use Rattle.std.specs.Prelude.{Some, option_map}
use Rattle.std.specs.List.{range_with_len}
use Rattle.raml_syntax.specs.Tree.{Type'}
use Rattle.base_poly.specs.Plain.{Plain, degrees}
use Rattle.base_poly.specs.Indices.{index_list}
use Rattle.index_shift.specs.declared.entry.Entry.{Entry}
use Rattle.index_shift.specs.Parts.{type_parts}
use Rattle.index_shift.specs.Maps.{Carry, entries_from, opening, leaving, sharing}
use Rattle.index_shift.specs.Contexts.{permutes, projection}
use Rattle.normal_spec.specs.Norm as n
use Rattle.normal_spec.specs.Norm.{Norm, NormFun}
use Rattle.normal_spec.specs.Context.{Context, types, place, without, opened, parts_of, copies_of, inners, others}
use Rattle.annot_types.specs.Program.{Program}
use Rattle.annot_types.specs.Certificate.{Sig, Block}
use Rattle.annot_types.specs.Signature.{sig_in, free_budget}
use Rattle.annot_types.specs.Carried.{to, operand_places, tuples, marks}
use Rattle.annot_types.specs.Rows.{size as size_of}
use Rattle.annot_types.specs.System.{args_of}
use Rattle.rules_spec.specs.Plan.{Plan, Plans, NoPlans, More, Ends, Pays, Moves, Forks, Shares, Calls, Lets, Step, Part, Called}

-- the entries from the context As at budget b to the context Bs at budget d, tuple by tuple
abbrev pub entries_of : Carry → List Type' → ℕ → List Type' → ℕ → List Entry
entries_of c As b Bs d = entries_from 0 c (index_list As b) (index_list Bs d)

-- a map to the context Bs at budget d
abbrev pub step : List Type' → ℕ → List Entry → Step
step Bs d es = record { size = size_of Bs d; entries = es }

-- from operands that are the whole context to the context
abbrev pub operand_entries : Context → List ℕ → List Type' → ℕ → ℕ → List Entry
operand_entries C xs As b d = entries_of (permutes (operand_places C xs)) As b (types C) d

-- the zero index alone
abbrev pub zero_alone : List Step
zero_alone = record { size = 1; entries = record { from = 0; to = 0; times = 1 } ∷ [] } ∷ []

-- from the result of a constructor to its parts, and from these to the context
abbrev pub part_steps : Context → List ℕ → Type' → ℕ → List Step
part_steps C xs T d = step (type_parts T) d (opening (T ∷ []) 0 d) ∷ step (types C) d (operand_entries C xs (type_parts T) d d) ∷ []

-- the context without a variable, with its parts, and with two copies of it
abbrev pub leaving_step : Context → ℕ → ℕ → Step
leaving_step C x d = step (types (without x C)) d (leaving (types C) (place x C) d)

abbrev pub opening_step : Context → ℕ → List ℕ → ℕ → Step
opening_step C x ys d = step (types (opened x ys parts_of C)) d (opening (types C) (place x C) d)

abbrev pub sharing_step : Context → ℕ → ℕ → Step
sharing_step C x d = step (types C) d (sharing (types C) (place x C) d)

-- the plans at a budget and at all lower ones, that of the greatest first
abbrev pub lower : (ℕ → Plan) → ℕ → Plans
lower f zero = More (f zero) NoPlans
lower f (suc d) = More (f (suc d)) (lower f d)

-- a tuple of the variables that the bound form, of type A, does not use
abbrev pub let_part : Norm → Context → Type' → ℕ → List Plain → Part
let_part a C A d j = record {
  there = step (types (inners a C)) (d - degrees j) (projection (marks a C) (types C) d j);
  size = size_of (A ∷ []) (d - degrees j);
  joins = entries_of (to (λ t. j ++ t)) (A ∷ []) (d - degrees j) (types (others a C) ++ A ∷ []) d;
  degree = degrees j;
}

-- the place of a function in a group
abbrev pub place_in : List ℕ → ℕ → Option ℕ
place_in [] f = None
place_in (g ∷ gs) f = cond (nat_eq f g) (Some 0) (option_map suc (place_in gs f))

-- a cost-free block with this budget and this signature of the function
abbrev pub is_usable : ℕ → Option ℕ → Option Sig → Bool
is_usable d (Some budget) (Some s) = nat_le budget d
is_usable d _ _ = false

-- the numbers of the blocks, the first of which has this one, whose signatures may be taken at budget d
abbrev pub usable_from : ℕ → Program → ℕ → ℕ → List Block → List ℕ
usable_from k P d f [] = []
usable_from k P d f (b ∷ bs) =
    cond (is_usable d (free_budget b.task.kind) (sig_in P b f)) (k ∷ usable_from (suc k) P d f bs) (usable_from (suc k) P d f bs)

-- the budgets at which signatures may stand, for a call at budget d in a block of another budget
abbrev pub budgets : ℕ → ℕ → List ℕ
budgets budget d = range_with_len 0 (suc (max budget d))

module _ (P : Program) (group : List ℕ) (earlier : List Block) (budget : ℕ) where
  abbrev pub called : Context → ℕ → List ℕ → Type' → ℕ → Called
  called C f xs T d = record {
    function = f;
    own = place_in group f;
    usable = usable_from 0 P d f earlier;
    args = size_of (types C) d;
    result = size_of (T ∷ []) d;
    args_from = map (λ b. operand_entries C xs (args_of (slice_get P.funs f)) b d) (budgets budget d);
    result_from = map (λ b. entries_of (to (λ t. t)) (T ∷ []) b (T ∷ []) d) (budgets budget d);
  }

  -- of a form with this context, whose result has the type T, at budget d
  abbrev pub plan : Norm → Context → Type' → ℕ → Plan
  plan (n.Var k x) C T d = Ends k 0 []
  plan (n.Number k i) C T d = Ends k 0 zero_alone
  plan (n.Truth k b) C T d = Ends k 0 zero_alone
  plan (n.Nil k) C T d = Ends k 0 zero_alone
  plan (n.Leaf k) C T d = Ends k 0 zero_alone
  plan (n.Nothing k) C T d = Ends k 0 zero_alone
  plan (n.Arith k op x y) C T d = Ends k 0 zero_alone
  plan (n.Compare k op x y) C T d = Ends k 0 zero_alone
  plan (n.Not k x) C T d = Ends k 0 zero_alone
  plan (n.Pair k x y) C T d = Ends k 1 (part_steps C (x ∷ y ∷ []) T d)
  plan (n.Cons k x y) C T d = Ends k 1 (part_steps C (x ∷ y ∷ []) T d)
  plan (n.Node k x y z) C T d = Ends k 1 (part_steps C (x ∷ y ∷ z ∷ []) T d)
  plan (n.Just k x) C T d = Ends k 1 (part_steps C (x ∷ []) T d)
  plan (n.Call k f xs) C T d = Calls k (called C f xs T d)
  plan (n.Let k x A a b) C T d = Lets k
      (map (let_part a C A d) (tuples (others a C) d)) (lower (plan a (inners a C) A) d)
      (size_of (types (others a C ++ (x, A) ∷ [])) d) (plan b (others a C ++ (x, A) ∷ []) T d)
  plan (n.Split k x y z a) C T d = Moves k (opening_step C x (y ∷ z ∷ []) d) (plan a (opened x (y ∷ z ∷ []) parts_of C) T d)
  plan (n.If k x a b) C T d = Forks k
      (leaving_step C x d) (plan a (without x C) T d)
      (leaving_step C x d) (plan b (without x C) T d)
  plan (n.CaseList k x a h t b) C T d = Forks k
      (leaving_step C x d) (plan a (without x C) T d)
      (opening_step C x (h ∷ t ∷ []) d) (plan b (opened x (h ∷ t ∷ []) parts_of C) T d)
  plan (n.CaseTree k x a e y z b) C T d = Forks k
      (leaving_step C x d) (plan a (without x C) T d)
      (opening_step C x (e ∷ y ∷ z ∷ []) d) (plan b (opened x (e ∷ y ∷ z ∷ []) parts_of C) T d)
  plan (n.CaseOption k x a y b) C T d = Forks k
      (leaving_step C x d) (plan a (without x C) T d)
      (opening_step C x (y ∷ []) d) (plan b (opened x (y ∷ []) parts_of C) T d)
  plan (n.Tick k i a) C T d = Pays k i (plan a C T d)
  plan (n.Share k x y z a) C T d = Shares k
      (size_of (types (opened x (y ∷ z ∷ []) copies_of C)) d)
      (sharing_step C x d) (plan a (opened x (y ∷ z ∷ []) copies_of C) T d)
  plan (n.Drop k x a) C T d = Moves k (leaving_step C x d) (plan a (without x C) T d)
