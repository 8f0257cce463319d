-- The linear system of a task, and certificates whose refuted blocks are proved to be so.
use Rattle.std.specs.Prelude.{◌≡◌, ◌<◌, ◌==◌, if◌then◌else◌, ℕ, ◌+◌, ◌-◌, ◌^◌, ℤ, pos, ◌-ℤ◌, int_le, Bool, not, ◌&&◌, List, [], ◌∷◌, ◌++◌}
use Rattle.std.specs.Prelude.{map, filter, length, replicate, slice_get, slice_index_or, Option, None, Some}
use Rattle.std.specs.List.{list_all, range_with_len}
use Rattle.std.specs.Ordering.{int_eq}
use Rattle.raml_syntax.specs.Tree.{Type'}
use Rattle.base_poly.specs.Plain.{degrees}
use Rattle.base_poly.specs.Indices.{index_list}
use Rattle.linear_rows.specs.Terms.{Terms, SparseRow}
use Rattle.linear_rows.specs.Systems.{LinearSystem, Refutes}
use Rattle.normal_spec.specs.Norm.{NormFun}
use Rattle.normal_spec.specs.Context.{types}
use Rattle.cost_free.specs.Task.{Task}
use Rattle.annot_types.specs.Program.{Program, members}
use Rattle.annot_types.specs.Certificate.{Entries, number_at, Refuted, Block, Certificate}
use Rattle.annot_types.specs.Rules.{Setting}
use Rattle.annot_types.specs.Holds.{budget_of}
use Rattle.annot_types.specs.Held.{Held, before, scale_for}
use Rattle.annot_types.specs.Rows.{Assignment, Row, Unsolved, size, task_rows}

-- a function's types of arguments, and of its result; none where there is no such function
abbrev pub args_of : Option NormFun → List Type'
args_of None = []
args_of (Some g) = types g.params

abbrev pub result_of : Option NormFun → List Type'
result_of None = []
result_of (Some g) = g.result ∷ []

-- The unknowns of the signatures come first, from this one on: for each function of the group, the positions of its
-- arguments and then those of its result.
abbrev pub unsolved : Program → ℕ → List ℕ → ℕ → List Unsolved
unsolved P budget [] next = []
unsolved P budget (f ∷ fs) next =
    let result = next + size (args_of (slice_get P.funs f)) budget in
    record { fun = f; args = next; result = result } ∷ unsolved P budget fs (result + size (result_of (slice_get P.funs f)) budget)

-- their weights: ten to the degree for an entry of the arguments, and 0 for one of the result
abbrev pub sig_weights : Program → ℕ → List ℕ → List ℤ
sig_weights P budget [] = []
sig_weights P budget (f ∷ fs) =
    map (λ t. pos (10 ^ degrees t)) (index_list (args_of (slice_get P.funs f)) budget)
    ++ (replicate (size (result_of (slice_get P.funs f)) budget) (pos 0) ++ sig_weights P budget fs)

-- the walk of a task has no signatures of its own yet
abbrev pub unsigned : Program → ℕ → List Block → Task → ℕ → Setting
unsigned P d earlier task scale = record {
  program = P;
  earlier = earlier;
  group = members P task.group;
  sigs = [];
  budget = budget_of d task.kind;
  scale = scale;
}

-- A row is left out where it has no negative coefficient and its right side is at most 0.
abbrev pub is_kept : SparseRow → Bool
is_kept row = not (list_all (λ (t : ℕ × ℤ). int_le (pos 0) t.1) row.terms && int_le row.right (pos 0))

module _ (P : Program) (d : ℕ) (earlier : List Block) (task : Task) (scale : ℕ) where
  abbrev pub weights_of_sigs : List ℤ
  weights_of_sigs = sig_weights P (budget_of d task.kind) (members P task.group)

  -- the rows at numbers for the unknowns, and how many unknowns there are
  abbrev pub made : Assignment → List Row × ℕ
  made x =
      task_rows (unsigned P d earlier task scale)
      (unsolved P (budget_of d task.kind) (members P task.group) 0) x d task.kind (length weights_of_sigs)

  abbrev pub at_zero : List Row × ℕ
  at_zero = made (λ u. 0)

  -- the row at a place where one unknown is 1 and all others are 0
  abbrev pub row_at : ℕ → ℕ → Row
  row_at place unknown = slice_index_or (made (λ u. if u == unknown then 1 else 0)).0 place (record { has = 0; asks = 0; right = pos 0 })

  -- A row is linear: this is its coefficient.
  abbrev pub coefficient : ℕ → ℕ → ℤ
  coefficient place unknown = let r = row_at place unknown in pos r.has -ℤ pos r.asks

  abbrev pub terms : ℕ → Terms
  terms place = filter (λ (t : ℕ × ℤ). not (int_eq t.1 (pos 0))) (map (λ u. (u, coefficient place u)) (range_with_len 0 at_zero.1))

  abbrev pub sparse_rows : ℕ → List Row → List SparseRow
  sparse_rows place [] = []
  sparse_rows place (r ∷ rs) = record { terms = terms place; right = r.right } ∷ sparse_rows (place + 1) rs

  abbrev pub system : LinearSystem
  system = record {
    unknowns = at_zero.1;
    rows = filter is_kept (sparse_rows 0 at_zero.0);
    weights = weights_of_sigs ++ replicate (at_zero.1 - length weights_of_sigs) (pos 0);
  }

-- The vector has no entry at a number that is no row.
abbrev pub AreRows : ℕ → Entries → Type 0
AreRows count [] = Unit {0}
AreRows count (e ∷ es) = (e.0 < count) × AreRows count es

-- it refutes the system
pub record IsRefutedBy (s : LinearSystem) (farkas : Entries) : Type 0 where
  pub rows : AreRows (length s.rows) farkas
  pub refutes : Refutes s (map (λ k. number_at k farkas) (range_with_len 0 (length s.rows)))

-- The certificate is held, and the vector of each refuted block refutes the system of its task over the blocks before it.
pub record Valid (P : Program) (c : Certificate) : Type 0 where
  pub held : Held P c
  pub refuted : (place : ℕ) (block : Block) (farkas : Entries) → slice_get c.blocks place ≡ Some block → block.body ≡ Refuted farkas →
      IsRefutedBy (system P c.degree (before c place) block.task (scale_for c block.task.kind)) farkas
