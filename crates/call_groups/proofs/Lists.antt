-- Lists of functions and sets as they are read.
use Rattle.std.proofs.Common.{◌≡◌, ◌<◌, ◌≤◌, ◌+◌, ◌++◌, ◌∷◌, [], ℕ, zero, suc, List, map, length, take, drop, append_assoc, Bool, true, false, cond, slice_index_or, slice_set, refl, sym, ap, ◌∙◌, arith}
use Rattle.std.specs.List.{filter, range_with_len}
use Rattle.std.specs.Global.{Vec}
use Rattle.std.proofs.Math.Seq.{drop-cons}
use Rattle.raml_syntax.specs.Tree as t
use Rattle.raml_syntax.specs.Tree.{Function}
use Rattle.raml_syntax.specs.Read.{term_of, terms_of, function_of}
use Rattle.raml_syntax.specs.declared.tree.Expr.{Expr}
use Rattle.raml_syntax.specs.declared.program.Fun.{Fun}
use Rattle.raml_syntax.specs.declared.program.FunId.{FunId}
use Rattle.call_groups.specs.declared.function_set.FunctionSet.{FunctionSet}
use Rattle.call_groups.specs.Read.{ids_of, lists_of, rows_of}
use Rattle.call_groups.specs.Sets.{Members, has, none, below}
use Rattle.call_groups.specs.Table.{Table, row_at}

pub lists_push : (gs : List (Vec FunId)) (g : Vec FunId) → lists_of (gs ++ g ∷ []) ≡ lists_of gs ++ ids_of g.items ∷ []
lists_push [] g = refl
lists_push (h ∷ gs) g = ap (λ xs. ids_of h.items ∷ xs) (lists_push gs g)

pub ids_push : (fs : List FunId) (f : FunId) → ids_of (fs ++ f ∷ []) ≡ ids_of fs ++ f.0 ∷ []
ids_push [] f = refl
ids_push (g ∷ fs) f = ap (λ xs. g.0 ∷ xs) (ids_push fs f)

pub rows_push : (rows : List FunctionSet) (r : FunctionSet) → rows_of (rows ++ r ∷ []) ≡ rows_of rows ++ has r ∷ []
rows_push [] r = refl
rows_push (s ∷ rows) r = ap (λ xs. has s ∷ xs) (rows_push rows r)

pub rows_length : (rows : List FunctionSet) → length (rows_of rows) ≡ length rows
rows_length [] = refl
rows_length (r ∷ rows) = ap suc (rows_length rows)

pub row_read : (rows : List FunctionSet) (k : ℕ) (d : FunctionSet) → k < length rows → row_at (rows_of rows) k ≡ has (slice_index_or rows k d)
row_read [] k d lt = absurd (omega arith)
row_read (s ∷ rows) zero d lt = refl
row_read (s ∷ rows) (suc k) d lt = row_read rows k d (omega arith)

pub rows_set : (rows : List FunctionSet) (k : ℕ) (r : FunctionSet) → rows_of (slice_set rows k r) ≡ slice_set (rows_of rows) k (has r)
rows_set [] k r = refl
rows_set (s ∷ rows) zero r = refl
rows_set (s ∷ rows) (suc k) r = ap (λ xs. has s ∷ xs) (rows_set rows k r)

-- the list, where the function was applied to the first k elements
module _ {A : Type 0} (f : A → A) where
  abbrev pub front_mapped : ℕ → List A → List A
  front_mapped zero xs = xs
  front_mapped (suc k) [] = []
  front_mapped (suc k) (x ∷ xs) = f x ∷ front_mapped k xs

  pub front_mapped_all : (xs : List A) (k : ℕ) → length xs ≤ k → front_mapped k xs ≡ map f xs
  front_mapped_all [] zero le = refl
  front_mapped_all [] (suc k) le = refl
  front_mapped_all (x ∷ xs) zero le = absurd (omega arith)
  front_mapped_all (x ∷ xs) (suc k) le = ap (λ ys. f x ∷ ys) (front_mapped_all xs k (omega arith))

  front_mapped_at : (k : ℕ) (xs : List A) (d : A) → slice_index_or (front_mapped k xs) k d ≡ slice_index_or xs k d
  front_mapped_at zero xs d = refl
  front_mapped_at (suc k) [] d = refl
  front_mapped_at (suc k) (x ∷ xs) d = front_mapped_at k xs d

  front_mapped_more : (k : ℕ) (xs : List A) (d : A) → k < length xs → slice_set (front_mapped k xs) k (f (slice_index_or xs k d)) ≡ front_mapped (suc k) xs
  front_mapped_more k [] d lt = absurd (omega arith)
  front_mapped_more zero (x ∷ xs) d lt = refl
  front_mapped_more (suc k) (x ∷ xs) d lt = ap (λ ys. f x ∷ ys) (front_mapped_more k xs d (omega arith))

  pub front_mapped_length : (k : ℕ) (xs : List A) → length (front_mapped k xs) ≡ length xs
  front_mapped_length zero xs = refl
  front_mapped_length (suc k) [] = refl
  front_mapped_length (suc k) (x ∷ xs) = ap suc (front_mapped_length k xs)

  -- one more element is changed
  pub front_mapped_set : (ys xs : List A) (k : ℕ) (y d : A) → ys ≡ front_mapped k xs → k < length ys → y ≡ f (slice_index_or ys k d) → slice_set ys k y ≡ front_mapped (k + 1) xs
  front_mapped_set ys xs k y d e lt is =
      let within : k < length xs = let l = ap length e ∙ front_mapped_length k xs in omega arith in
      let one : suc k ≡ k + 1 = omega arith in
      (λ i. slice_set (e i) k ((is ∙ ap (λ zs. f (slice_index_or zs k d)) e ∙ ap f (front_mapped_at k xs d)) i))
      ∙ front_mapped_more k xs d within ∙ ap (λ z. front_mapped z xs) one

-- one more set of a table is changed
pub rows_changed : (f : Members → Members) (start rows : List FunctionSet) (k : ℕ) (d after : FunctionSet) → rows_of rows ≡ front_mapped f k (rows_of start) → k < length rows → has after ≡ f (has (slice_index_or rows k d)) → rows_of (slice_set rows k after) ≡ front_mapped f (k + 1) (rows_of start)
rows_changed f start rows k d after e lt changed =
    rows_set rows k after
    ∙ front_mapped_set f (rows_of rows) (rows_of start) k (has after) none e (let l = rows_length rows in omega arith) (changed ∙ ap f (sym (row_read rows k d lt)))

-- the functions of a set below one more number
filter_more : (a : Members) (k n : ℕ) → filter a (range_with_len k (suc n)) ≡ filter a (range_with_len k n) ++ cond (a (k + n)) ((k + n) ∷ []) []
filter_more a k zero = ap (λ j. cond (a j) (j ∷ []) []) (omega arith)
filter_more a k (suc n) = by (a k) (filter_more a (k + 1) n) ∙ ap (λ j. filter a (range_with_len k (suc n)) ++ cond (a j) (j ∷ []) []) (omega arith)
  where
    by : (b : Bool) → filter a (range_with_len (k + 1) (suc n)) ≡ filter a (range_with_len (k + 1) n) ++ cond (a (k + 1 + n)) ((k + 1 + n) ∷ []) [] → cond b (k ∷ filter a (range_with_len (k + 1) (suc n))) (filter a (range_with_len (k + 1) (suc n))) ≡ cond b (k ∷ filter a (range_with_len (k + 1) n)) (filter a (range_with_len (k + 1) n)) ++ cond (a (k + 1 + n)) ((k + 1 + n) ∷ []) []
    by true e = ap (λ xs. k ∷ xs) e
    by false e = e

below_more : (a : Members) (k : ℕ) → below (k + 1) a ≡ below k a ++ cond (a k) (k ∷ []) []
below_more a k = ap (λ n. below n a) one ∙ filter_more a 0 k ∙ ap (λ j. below k a ++ cond (a j) (j ∷ []) []) start
  where
    one : k + 1 ≡ suc k
    one = omega arith

    start : 0 + k ≡ k
    start = omega arith

pub below_in : (a : Members) (k : ℕ) → a k ≡ true → below (k + 1) a ≡ below k a ++ k ∷ []
below_in a k h = below_more a k ∙ ap (λ b. below k a ++ cond b (k ∷ []) []) h

pub below_out : (a : Members) (k : ℕ) → a k ≡ false → below (k + 1) a ≡ below k a
below_out a k h = below_more a k ∙ ap (λ b. below k a ++ cond b (k ∷ []) []) h ∙ append_nil (below k a)
  where
    append_nil : (xs : List ℕ) → xs ++ [] ≡ xs
    append_nil [] = refl
    append_nil (x ∷ xs) = ap (λ ys. x ∷ ys) (append_nil xs)

-- what is lent as a slice comes back
pub written_back : (new old : List FunctionSet) (n : ℕ) → length new ≡ n → take n (new ++ drop (length new) old) ≡ new
written_back new old n e = ap (λ k. take k (new ++ drop (length new) old)) (sym e) ∙ front new (drop (length new) old)
  where
    front : (xs ys : List FunctionSet) → take (length xs) (xs ++ ys) ≡ xs
    front [] [] = refl
    front [] (y ∷ ys) = refl
    front (x ∷ xs) ys = ap (λ zs. x ∷ zs) (front xs ys)

-- Steps of the loops

step : (k : ℕ) → suc k ≡ k + 1
step k = omega arith

pub args_front : (args : List Expr) (k : ℕ) (arg : Expr) → k < length args → arg ≡ slice_index_or args k arg → terms_of (drop k args) ≡ t.More (term_of arg) (terms_of (drop (k + 1) args))
args_front args k arg lt read = ap terms_of (drop-cons args k arg lt) ∙ (λ i. t.More (term_of (sym read i)) (terms_of (drop (step k i) args)))

pub rows_next : (row : Function → Members) (funs : List Fun) (rows new : List FunctionSet) (k : ℕ) (fun : Fun) (set : FunctionSet) (all : Table) → k < length funs → fun ≡ slice_index_or funs k fun → has set ≡ row (function_of fun) → new ≡ rows ++ set ∷ [] → rows_of rows ++ map row (map function_of (drop k funs)) ≡ all → rows_of new ++ map row (map function_of (drop (k + 1) funs)) ≡ all
rows_next row funs rows new k fun set all lt read made pushed before =
    ap (λ rs. rows_of rs ++ map row (map function_of (drop (k + 1) funs))) pushed
    ∙ ap (λ rs. rs ++ map row (map function_of (drop (k + 1) funs))) (rows_push rows set)
    ∙ append_assoc (rows_of rows) (has set ∷ []) (map row (map function_of (drop (k + 1) funs)))
    ∙ ap (λ r. rows_of rows ++ r ∷ map row (map function_of (drop (k + 1) funs))) made
    ∙ ap (λ fs. rows_of rows ++ map row (map function_of fs)) (sym (drop-cons funs k fun lt ∙ (λ i. sym read i ∷ drop (step k i) funs)))
    ∙ before

pub args_end : (args : List Expr) (k : ℕ) → length args ≤ k → terms_of (drop k args) ≡ t.None
args_end [] zero le = refl
args_end [] (suc k) le = refl
args_end (a ∷ args) zero le = absurd (omega arith)
args_end (a ∷ args) (suc k) le = args_end args k (omega arith)
