-- The code of an expression follows its evaluation.
use Rattle.std.proofs.Common.{◌≡◌, ℕ, ◌+◌, List, [], ◌∷◌, ◌++◌, length, true, false, Option, Some, refl, ap, subst, arith}
use Rattle.raml_syntax.specs.Tree as t
use Rattle.raml_syntax.specs.Tree.{Text, Prog}
use Rattle.raml_syntax.specs.declared.tree.ArithOp.{ArithOp}
use Rattle.raml_syntax.specs.declared.tree.ArithOp.TheVariants as op
use Rattle.raml_syntax.specs.Value.{Value, Number, Truth, Both, Empty, Cons, Node, Just}
use Rattle.raml_syntax.specs.Eval.{Run, done, costs, and_then, node, cut, Env, look, arith as result_of, compare, negation, branch, pair_case, list_case, tree_case, option_case, Calls, walk, walk_all}
use Rattle.raml_syntax.specs.Default.{IsNumber, Taken, TakenPair, TakenList, TakenTree, TakenOption, Asked, NoDefault, NoDefaults}
use Rattle.stack_compile.specs.Code.{Code, one, seq, fork, local_of, fun_of, arith_code, bind_one, code_of, codes_of, Body}
use Rattle.stack_compile.specs.Machine.{Config, Going, Frame, goes, act, fetch}
use Rattle.stack_compile.specs.Ready.{Finds}
use Rattle.stack_compile.specs.declared.instr.Instr.{Instr}
use Rattle.stack_compile.specs.declared.instr.Instr.TheVariants as i
use Rattle.stack_compile.proofs.Stands.{Stands, stands_front, stands_back, ForkStands, fork_stands, names, values, look_is, push_all, append_all, length_appended, unbound}
use Rattle.stack_compile.proofs.Follows.{Comes, Follows, comes_one, follows_owing, follows_done, follows_none, follows_node, follows_tick, follows_first, follows_then, follows_last}

-- from each state at a call's instruction, with its arguments on the stack, the machine follows the call's run
pub record CallsFollow (code : List Body) (P : Prog) (call : Calls) (asked : Asked) (n : ℕ) : Type 0 where
  pub by : (g : Text) (vs : List Value) → asked g vs → (f p : ℕ) (st ls : List Value) (fs : List Frame) → fetch code f p ≡ Some (i.Call (fun_of g P)) → Follows code 2 n (Going f p (push_all vs st) ls fs) (call g vs) (λ v. Going f (p + 1) (v ∷ st) ls fs)

-- in one function, with the frames under it
module _ (code : List Body) (P : Prog) (call : Calls) (asked : Asked) (n : ℕ) (calls : CallsFollow code P call asked n) (f : ℕ) (fs : List Frame) where
  abbrev pub get : ℕ → Option Instr
  get p = fetch code f p

  abbrev pub here : ℕ → List Value → List Value → Config
  here p st ls = Going f p st ls fs

  -- wherever this code stands, and whatever the stack, the machine follows the run and pushes its value
  abbrev pub CodeFollows : Code → Run Value → List Value → Type 0
  CodeFollows c r ls = (p q : ℕ) (st : List Value) → Stands get p (c p) q → Follows code 0 n (here p st ls) r (λ v. here q (v ∷ st) ls)

  -- one instruction, and on at the next place
  comes_next : (i : Instr) (p q : ℕ) (st ls st' ls' : List Value) (u : ℕ) → Stands get p (i ∷ []) q → Finds code (Some i) st ls → act code (Some i) f p st ls fs ≡ record { next = here (p + 1) st' ls'; ticks = 0; cells = u; made = 1 } → Comes code (here p st ls) 1 0 u (here q st' ls')
  comes_next i p q st ls st' ls' u h finds does =
      subst (λ m. Comes code (here p st ls) 1 0 u (here m st' ls')) h.1 (comes_one code i f p st ls fs 0 u (here (p + 1) st' ls') h.0 finds does)

  -- an instruction that pushes a value
  pushes : (i : Instr) (v : Value) (ls : List Value) → ((st : List Value) → Finds code (Some i) st ls) → ((p : ℕ) (st : List Value) → act code (Some i) f p st ls fs ≡ goes (here (p + 1) (v ∷ st) ls)) → CodeFollows (one i) (node (done v)) ls
  pushes i v ls finds does p q st h = follows_node code 1 n _ _ _ (omega arith) (follows_done code n _ v 0 0 _ (comes_next i p q st ls (v ∷ st) ls 0 h (finds st) (does p st)))

  -- code in two parts, of which the first gives a value
  seq_follows : (k : ℕ) (a b : Code) (r : Run Value) (next : Value → Run Value) (p q : ℕ) (st ls : List Value) (go : Value → Config) → Stands get p (seq a b p) q → CodeFollows a r ls → ((m : ℕ) (v : Value) → r.out ≡ Some v → Stands get m (b m) q → Follows code k n (here m (v ∷ st) ls) (next v) go) → Follows code k n (here p st ls) (and_then r next) go
  seq_follows k a b r next p q st ls go h first rest =
      let m = p + length (a p) in
      follows_owing code (0 + k) k n _ (and_then r next) go (omega arith)
      (follows_then code 0 k n _ r next (λ v. here m (v ∷ st) ls) go (first p m st (stands_front get p q (a p) _ h)) (λ v e. rest m v e (stands_back get p q (a p) _ h)))

  -- two operands and the instruction that joins them
  join_follows : (a b : Code) (i : Instr) (ra rb : Run Value) (u : ℕ) (join : Value → Value → Value) (ls : List Value) → CodeFollows a ra ls → CodeFollows b rb ls → ((v w : Value) → ra.out ≡ Some v → rb.out ≡ Some w → (p q : ℕ) (st : List Value) → Stands get p (i ∷ []) q → Comes code (here p (w ∷ v ∷ st) ls) 1 0 u (here q (join v w ∷ st) ls)) → CodeFollows (seq a (seq b (one i))) (node (and_then ra (λ v. and_then rb (λ w. costs 0 u 0 (done (join v w)))))) ls
  join_follows a b i ra rb u join ls fa fb comes p q st h =
      follows_node code 1 n _ _ _ (omega arith)
      (seq_follows 1 a (seq b (one i)) ra _ p q st ls _ h fa (λ m v ev hb.
      seq_follows 1 b (one i) rb _ m q (v ∷ st) ls _ hb fb (λ k w ew hi.
      follows_done code n _ (join v w) 0 u _ (comes v w ev ew k q st hi))))

  arith_comes : (o : ArithOp) (v w : Value) (p q : ℕ) (st ls : List Value) → Stands get p (arith_code o ∷ []) q → IsNumber v × IsNumber w → Comes code (here p (w ∷ v ∷ st) ls) 1 0 0 (here q (result_of o v w ∷ st) ls)
  arith_comes op.Add v w p q st ls h both = comes_next i.Add p q (w ∷ v ∷ st) ls (result_of op.Add v w ∷ st) ls 0 h both refl
  arith_comes op.Sub v w p q st ls h both = comes_next i.Sub p q (w ∷ v ∷ st) ls (result_of op.Sub v w ∷ st) ls 0 h both refl
  arith_comes op.Mul v w p q st ls h both = comes_next i.Mul p q (w ∷ v ∷ st) ls (result_of op.Mul v w ∷ st) ls 0 h both refl
  arith_comes op.Div v w p q st ls h both = comes_next i.Div p q (w ∷ v ∷ st) ls (result_of op.Div v w ∷ st) ls 0 h both refl
  arith_comes op.Mod v w p q st ls h both = comes_next i.Mod p q (w ∷ v ∷ st) ls (result_of op.Mod v w ∷ st) ls 0 h both refl

  -- code under more locals, which are unbound behind it
  unbind_follows : (c : Code) (r : Run Value) (ls vs : List Value) → CodeFollows c r (append_all ls vs) → (p q : ℕ) (st : List Value) → Stands get p (seq c (one (i.Unbind (length vs))) p) q → Follows code 1 n (here p st (append_all ls vs)) r (λ v. here q (v ∷ st) ls)
  unbind_follows c r ls vs fc p q st h =
      let m = p + length (c p) in
      let more = append_all ls vs in
      follows_last code 0 n _ r (λ v. here m (v ∷ st) more) (λ v. here q (v ∷ st) ls) (fc p m st (stands_front get p q (c p) _ h)) (λ v.
      comes_next (i.Unbind (length vs)) m q (v ∷ st) more (v ∷ st) ls 0 (stands_back get p q (c p) _ h) (length_appended ls vs) (ap (λ l. goes (here (m + 1) (v ∷ st) l)) (unbound ls vs)))

  -- a pair taken apart
  pair_follows : (v : Value) (S : Value → Value → Type 0) (c : Code) (r : Value → Value → Run Value) (ls : List Value) → TakenPair v S → ((a b : Value) → S a b → CodeFollows c (r a b) ((ls ++ a ∷ []) ++ b ∷ [])) → (p q : ℕ) (st : List Value) → Stands get p (seq (one i.Unpair) (seq c (one (i.Unbind 2))) p) q → Follows code 2 n (here p (v ∷ st) ls) (pair_case v cut r) (λ w. here q (w ∷ st) ls)
  pair_follows (Both a b) S c r ls taken fc p q st h =
      follows_first code 1 n _ (here (p + 1) st ((ls ++ a ∷ []) ++ b ∷ [])) (r a b) _ (comes_one code i.Unpair f p (Both a b ∷ st) ls fs 0 0 _ h.0 tt refl)
      (unbind_follows c (r a b) ls (a ∷ b ∷ []) (fc a b taken) (p + 1) q st h.1)
  pair_follows _ S c r ls taken fc p q st h = absurd taken

  -- the part of a fork that is taken, to the jump over the other
  part_follows : (c : Config) (k : ℕ) (r : Run Value) (j q : ℕ) (st ls : List Value) → get j ≡ Some (i.Jump q) → Follows code k n c r (λ v. here j (v ∷ st) ls) → Follows code (k + 1) n c r (λ v. here q (v ∷ st) ls)
  part_follows c k r j q st ls jumps h =
      follows_last code k n c r (λ v. here j (v ∷ st) ls) (λ v. here q (v ∷ st) ls) h (λ v. comes_one code (i.Jump q) f j (v ∷ st) ls fs 0 0 _ jumps tt refl)

  -- the two ways from a fork's subject
  if_follows : (v : Value) (S T : Type 0) (subject a b : Code) (ra rb : Run Value) (ls : List Value) → Taken v S T → (S → CodeFollows a ra ls) → (T → CodeFollows b rb ls) → (p m j q : ℕ) (st : List Value) → ForkStands get subject i.Branch a b p m j q → Follows code 3 n (here m (v ∷ st) ls) (branch v ra rb) (λ w. here q (w ∷ st) ls)
  if_follows (Truth true) S T subject a b ra rb ls taken fa fb p m j q st h =
      follows_owing code 2 3 n _ ra _ (omega arith)
      (follows_first code 1 n _ (here (m + 1) st ls) ra _ (comes_one code (i.Branch (j + 1)) f m (Truth true ∷ st) ls fs 0 0 _ h.leaves tt refl)
      (part_follows _ 0 ra j q st ls h.jumps (fa taken (m + 1) j st h.at_part)))
  if_follows (Truth false) S T subject a b ra rb ls taken fa fb p m j q st h =
      follows_owing code 1 3 n _ rb _ (omega arith)
      (follows_first code 0 n _ (here (j + 1) st ls) rb _ (comes_one code (i.Branch (j + 1)) f m (Truth false ∷ st) ls fs 0 0 _ h.leaves tt refl)
      (fb taken (j + 1) q st h.at_other))
  if_follows _ S T subject a b ra rb ls taken fa fb p m j q st h = absurd taken

  list_follows : (v : Value) (S : Type 0) (T : Value → Value → Type 0) (subject a b : Code) (ra : Run Value) (rb : Value → Value → Run Value) (ls : List Value) → TakenList v S T → (S → CodeFollows a ra ls) → ((x y : Value) → T x y → CodeFollows b (rb x y) ((ls ++ x ∷ []) ++ y ∷ [])) → (p m j q : ℕ) (st : List Value) → ForkStands get subject i.CaseList (seq b (one (i.Unbind 2))) a p m j q → Follows code 3 n (here m (v ∷ st) ls) (list_case v ra rb) (λ w. here q (w ∷ st) ls)
  list_follows Empty S T subject a b ra rb ls taken fa fb p m j q st h =
      follows_owing code 1 3 n _ ra _ (omega arith)
      (follows_first code 0 n _ (here (j + 1) st ls) ra _ (comes_one code (i.CaseList (j + 1)) f m (Empty ∷ st) ls fs 0 0 _ h.leaves tt refl)
      (fa taken (j + 1) q st h.at_other))
  list_follows (Cons x y) S T subject a b ra rb ls taken fa fb p m j q st h =
      follows_first code 2 n _ (here (m + 1) st ((ls ++ x ∷ []) ++ y ∷ [])) (rb x y) _ (comes_one code (i.CaseList (j + 1)) f m (Cons x y ∷ st) ls fs 0 0 _ h.leaves tt refl)
      (part_follows _ 1 (rb x y) j q st ls h.jumps (unbind_follows b (rb x y) ls (x ∷ y ∷ []) (fb x y taken) (m + 1) j st h.at_part))
  list_follows _ S T subject a b ra rb ls taken fa fb p m j q st h = absurd taken

  tree_follows : (v : Value) (S : Type 0) (T : Value → Value → Value → Type 0) (subject a b : Code) (ra : Run Value) (rb : Value → Value → Value → Run Value) (ls : List Value) → TakenTree v S T → (S → CodeFollows a ra ls) → ((x y z : Value) → T x y z → CodeFollows b (rb x y z) (((ls ++ x ∷ []) ++ y ∷ []) ++ z ∷ [])) → (p m j q : ℕ) (st : List Value) → ForkStands get subject i.CaseTree (seq b (one (i.Unbind 3))) a p m j q → Follows code 3 n (here m (v ∷ st) ls) (tree_case v ra rb) (λ w. here q (w ∷ st) ls)
  tree_follows Empty S T subject a b ra rb ls taken fa fb p m j q st h =
      follows_owing code 1 3 n _ ra _ (omega arith)
      (follows_first code 0 n _ (here (j + 1) st ls) ra _ (comes_one code (i.CaseTree (j + 1)) f m (Empty ∷ st) ls fs 0 0 _ h.leaves tt refl)
      (fa taken (j + 1) q st h.at_other))
  tree_follows (Node x y z) S T subject a b ra rb ls taken fa fb p m j q st h =
      follows_first code 2 n _ (here (m + 1) st (((ls ++ x ∷ []) ++ y ∷ []) ++ z ∷ [])) (rb x y z) _ (comes_one code (i.CaseTree (j + 1)) f m (Node x y z ∷ st) ls fs 0 0 _ h.leaves tt refl)
      (part_follows _ 1 (rb x y z) j q st ls h.jumps (unbind_follows b (rb x y z) ls (x ∷ y ∷ z ∷ []) (fb x y z taken) (m + 1) j st h.at_part))
  tree_follows _ S T subject a b ra rb ls taken fa fb p m j q st h = absurd taken

  option_follows : (v : Value) (S : Type 0) (T : Value → Type 0) (subject a b : Code) (ra : Run Value) (rb : Value → Run Value) (ls : List Value) → TakenOption v S T → (S → CodeFollows a ra ls) → ((x : Value) → T x → CodeFollows b (rb x) (ls ++ x ∷ [])) → (p m j q : ℕ) (st : List Value) → ForkStands get subject i.CaseOption (seq b (one (i.Unbind 1))) a p m j q → Follows code 3 n (here m (v ∷ st) ls) (option_case v ra rb) (λ w. here q (w ∷ st) ls)
  option_follows Empty S T subject a b ra rb ls taken fa fb p m j q st h =
      follows_owing code 1 3 n _ ra _ (omega arith)
      (follows_first code 0 n _ (here (j + 1) st ls) ra _ (comes_one code (i.CaseOption (j + 1)) f m (Empty ∷ st) ls fs 0 0 _ h.leaves tt refl)
      (fa taken (j + 1) q st h.at_other))
  option_follows (Just x) S T subject a b ra rb ls taken fa fb p m j q st h =
      follows_first code 2 n _ (here (m + 1) st (ls ++ x ∷ [])) (rb x) _ (comes_one code (i.CaseOption (j + 1)) f m (Just x ∷ st) ls fs 0 0 _ h.leaves tt refl)
      (part_follows _ 1 (rb x) j q st ls h.jumps (unbind_follows b (rb x) ls (x ∷ []) (fb x taken) (m + 1) j st h.at_part))
  option_follows _ S T subject a b ra rb ls taken fa fb p m j q st h = absurd taken

  -- a fork, from its subject on
  fork_follows : (subject : Code) (leave : ℕ → Instr) (part other : Code) (r : Run Value) (next : Value → Run Value) (ls : List Value) → CodeFollows subject r ls → ((v : Value) → r.out ≡ Some v → (p m j q : ℕ) (st : List Value) → ForkStands get subject leave part other p m j q → Follows code 3 n (here m (v ∷ st) ls) (next v) (λ w. here q (w ∷ st) ls)) → CodeFollows (fork subject leave part other) (node (and_then r next)) ls
  fork_follows subject leave part other r next ls first ways p q st h =
      let m = p + length (subject p) in
      let j = m + 1 + length (part (m + 1)) in
      let forks = fork_stands get subject leave part other p q h in
      follows_node code 3 n _ _ _ (omega arith)
      (follows_then code 0 3 n _ r next (λ v. here m (v ∷ st) ls) _ (first p m st forks.at_subject) (λ v e. ways v e p m j q st forks))

  mutual
    pub walk_follows : (e : t.Term) (env : Env) → NoDefault call asked e env → CodeFollows (code_of P (names env) e) (walk call e env) (values env)
    walk_follows (t.Number _ m) env s = pushes (i.Int m) (Number m) (values env) (λ st. tt) (λ p st. refl)
    walk_follows (t.Truth _ b) env s = pushes (i.Bool b) (Truth b) (values env) (λ st. tt) (λ p st. refl)
    walk_follows (t.Nil _) env s = pushes i.Empty Empty (values env) (λ st. tt) (λ p st. refl)
    walk_follows (t.Leaf _) env s = pushes i.Empty Empty (values env) (λ st. tt) (λ p st. refl)
    walk_follows (t.Nothing _) env s = pushes i.Empty Empty (values env) (λ st. tt) (λ p st. refl)
    walk_follows (t.Var _ x) env s =
        let l = look_is x env s in
        pushes (i.Load (local_of x (names env))) (look x env) (values env) (λ st. l.0) (λ p st. ap (λ v. goes (here (p + 1) (v ∷ st) (values env))) l.1)
    walk_follows (t.Arith _ o a b) env s =
        join_follows (code_of P (names env) a) (code_of P (names env) b) (arith_code o) (walk call a env) (walk call b env) 0 (result_of o) (values env) (walk_follows a env s.0) (walk_follows b env s.1) (λ v w ev ew p q st h.
        arith_comes o v w p q st (values env) h (s.2 v ev, s.3 w ew))
    walk_follows (t.Compare _ o a b) env s =
        join_follows (code_of P (names env) a) (code_of P (names env) b) (i.Compare o) (walk call a env) (walk call b env) 0 (compare o) (values env) (walk_follows a env s.0) (walk_follows b env s.1) (λ v w ev ew p q st h.
        comes_next (i.Compare o) p q (w ∷ v ∷ st) (values env) (compare o v w ∷ st) (values env) 0 h (s.2 v ev, s.3 w ew) refl)
    walk_follows (t.Not _ a) env s = λ p q st h.
        follows_node code 1 n _ _ _ (omega arith)
        (seq_follows 1 (code_of P (names env) a) (one i.Not) (walk call a env) _ p q st (values env) _ h (walk_follows a env s.0) (λ m v ev hi.
        follows_done code n _ (negation v) 0 0 _ (comes_next i.Not m q (v ∷ st) (values env) (negation v ∷ st) (values env) 0 hi (s.1 v ev) refl)))
    walk_follows (t.Pair _ a b) env s =
        join_follows (code_of P (names env) a) (code_of P (names env) b) i.Pair (walk call a env) (walk call b env) 1 Both (values env) (walk_follows a env s.0) (walk_follows b env s.1) (λ v w ev ew p q st h.
        comes_next i.Pair p q (w ∷ v ∷ st) (values env) (Both v w ∷ st) (values env) 1 h (omega arith) refl)
    walk_follows (t.Cons _ a b) env s =
        join_follows (code_of P (names env) a) (code_of P (names env) b) i.Cons (walk call a env) (walk call b env) 1 Cons (values env) (walk_follows a env s.0) (walk_follows b env s.1) (λ v w ev ew p q st h.
        comes_next i.Cons p q (w ∷ v ∷ st) (values env) (Cons v w ∷ st) (values env) 1 h (omega arith) refl)
    walk_follows (t.Node _ a b c) env s = λ p q st h.
        let ca = code_of P (names env) a in
        let cb = code_of P (names env) b in
        let cs = code_of P (names env) c in
        follows_node code 1 n _ _ _ (omega arith)
        (seq_follows 1 ca (seq cb (seq cs (one i.Node))) (walk call a env) _ p q st (values env) _ h (walk_follows a env s.0) (λ l u eu hb.
        seq_follows 1 cb (seq cs (one i.Node)) (walk call b env) _ l q (u ∷ st) (values env) _ hb (walk_follows b env s.1) (λ m v ev hc.
        seq_follows 1 cs (one i.Node) (walk call c env) _ m q (v ∷ u ∷ st) (values env) _ hc (walk_follows c env s.2) (λ k w ew hi.
        follows_done code n _ (Node u v w) 0 1 _ (comes_next i.Node k q (w ∷ v ∷ u ∷ st) (values env) (Node u v w ∷ st) (values env) 1 hi (omega arith) refl)))))
    walk_follows (t.Just _ a) env s = λ p q st h.
        follows_node code 1 n _ _ _ (omega arith)
        (seq_follows 1 (code_of P (names env) a) (one i.Some) (walk call a env) _ p q st (values env) _ h (walk_follows a env s) (λ m v ev hi.
        follows_done code n _ (Just v) 0 1 _ (comes_next i.Some m q (v ∷ st) (values env) (Just v ∷ st) (values env) 1 hi (omega arith) refl)))
    walk_follows (t.Call _ g es) env s = λ p q st h.
        let m = p + length (codes_of P (names env) es p) in
        let hi = stands_back get p q (codes_of P (names env) es p) _ h in
        follows_node code 2 n _ _ _ (omega arith)
        (follows_then code 0 2 n _ (walk_all call es env) (call g) (λ vs. here m (push_all vs st) (values env)) _ (all_follow es env s.0 p m st (stands_front get p q (codes_of P (names env) es p) _ h)) (λ vs ev.
        subst (λ q. Follows code 2 n (here m (push_all vs st) (values env)) (call g vs) (λ v. here q (v ∷ st) (values env))) hi.1 (calls.by g vs (s.1 vs ev) f m st (values env) fs hi.0)))
    walk_follows (t.Let _ x a b) env s = λ p q st h.
        let body = code_of P (bind_one (names env) x) b in
        follows_node code 2 n _ _ _ (omega arith)
        (seq_follows 2 (code_of P (names env) a) (seq (one i.Bind) (seq body (one (i.Unbind 1)))) (walk call a env) _ p q st (values env) _ h (walk_follows a env s.0) (λ m v ev hi.
        follows_first code 1 n _ (here (m + 1) st (values env ++ v ∷ [])) (walk call b ((x.name, v) ∷ env)) _ (comes_one code i.Bind f m (v ∷ st) (values env) fs 0 0 _ hi.0 (omega arith) refl)
        (unbind_follows body (walk call b ((x.name, v) ∷ env)) (values env) (v ∷ []) (walk_follows b ((x.name, v) ∷ env) (s.1 v ev)) (m + 1) q st hi.1)))
    walk_follows (t.LetPair _ x y a b) env s = λ p q st h.
        let body = code_of P (bind_one (bind_one (names env) x) y) b in
        follows_node code 2 n _ _ _ (omega arith)
        (seq_follows 2 (code_of P (names env) a) (seq (one i.Unpair) (seq body (one (i.Unbind 2)))) (walk call a env) _ p q st (values env) _ h (walk_follows a env s.0) (λ m v ev hi.
        pair_follows v _ body (λ s r. walk call b ((y.name, r) ∷ (x.name, s) ∷ env)) (values env) (s.1 v ev) (λ s r. walk_follows b ((y.name, r) ∷ (x.name, s) ∷ env)) m q st hi))
    walk_follows (t.If _ c a b) env s =
        let cs = code_of P (names env) c in
        let ca = code_of P (names env) a in
        let cb = code_of P (names env) b in
        fork_follows cs i.Branch ca cb (walk call c env) _ (values env) (walk_follows c env s.0) (λ v ev.
        if_follows v _ _ cs ca cb (walk call a env) (walk call b env) (values env) (s.1 v ev) (walk_follows a env) (walk_follows b env))
    walk_follows (t.MatchList _ c a x y b) env s =
        let cs = code_of P (names env) c in
        let ca = code_of P (names env) a in
        let cb = code_of P (bind_one (bind_one (names env) x) y) b in
        fork_follows cs i.CaseList (seq cb (one (i.Unbind 2))) ca (walk call c env) _ (values env) (walk_follows c env s.0) (λ v ev.
        list_follows v _ _ cs ca cb (walk call a env) (λ h r. walk call b ((y.name, r) ∷ (x.name, h) ∷ env)) (values env) (s.1 v ev) (walk_follows a env) (λ h r. walk_follows b ((y.name, r) ∷ (x.name, h) ∷ env)))
    walk_follows (t.MatchTree _ c a x y z b) env s =
        let cs = code_of P (names env) c in
        let ca = code_of P (names env) a in
        let cb = code_of P (bind_one (bind_one (bind_one (names env) x) y) z) b in
        fork_follows cs i.CaseTree (seq cb (one (i.Unbind 3))) ca (walk call c env) _ (values env) (walk_follows c env s.0) (λ v ev.
        tree_follows v _ _ cs ca cb (walk call a env) (λ e l r. walk call b ((z.name, r) ∷ (y.name, l) ∷ (x.name, e) ∷ env)) (values env) (s.1 v ev) (walk_follows a env) (λ e l r. walk_follows b ((z.name, r) ∷ (y.name, l) ∷ (x.name, e) ∷ env)))
    walk_follows (t.MatchOption _ c a x b) env s =
        let cs = code_of P (names env) c in
        let ca = code_of P (names env) a in
        let cb = code_of P (bind_one (names env) x) b in
        fork_follows cs i.CaseOption (seq cb (one (i.Unbind 1))) ca (walk call c env) _ (values env) (walk_follows c env s.0) (λ v ev.
        option_follows v _ _ cs ca cb (walk call a env) (λ w. walk call b ((x.name, w) ∷ env)) (values env) (s.1 v ev) (walk_follows a env) (λ w. walk_follows b ((x.name, w) ∷ env)))
    walk_follows (t.Tick _ k a) env s = λ p q st h.
        follows_node code 1 n _ _ _ (omega arith)
        (follows_tick code 0 n k _ (here (p + 1) st (values env)) (walk call a env) _ (comes_one code (i.Tick k) f p st (values env) fs k 0 _ h.0 tt refl) (walk_follows a env s (p + 1) q st h.1))
    walk_follows (t.Typed _ a T) env s = walk_follows a env s

    all_follow : (es : t.Terms) (env : Env) → NoDefaults call asked es env → (p q : ℕ) (st : List Value) → Stands get p (codes_of P (names env) es p) q → Follows code 0 n (here p st (values env)) (walk_all call es env) (λ vs. here q (push_all vs st) (values env))
    all_follow t.None env s p q st h = subst (λ q. Follows code 0 n (here p st (values env)) (done []) (λ vs. here q (push_all vs st) (values env))) h (follows_none code n [] (λ vs. here p (push_all vs st) (values env)))
    all_follow (t.More a es) env s p q st h =
        let ca = code_of P (names env) a p in
        let m = p + length ca in
        follows_then code 0 0 n _ (walk call a env) _ (λ v. here m (v ∷ st) (values env)) _ (walk_follows a env s.0 p m st (stands_front get p q ca _ h)) (λ v ev.
        follows_then code 0 0 n _ (walk_all call es env) _ (λ vs. here q (push_all vs (v ∷ st)) (values env)) _ (all_follow es env s.1 m q (v ∷ st) (stands_back get p q ca _ h)) (λ vs ew.
        follows_none code n (v ∷ vs) (λ vs. here q (push_all vs st) (values env))))
