-- What an expression of each form is as a term.
use Rattle.std.proofs.Common.{◌≡◌, ◌∙◌, ◌≤◌, ◌<◌, ◌+◌, ◌-◌, ◌*◌, ℕ, List, [], ◌∷◌, length, take, drop, refl, sym, ap, subst, Box, Vec, Global, arith}
use Rattle.raml_syntax.specs.Node.{count, nodes, nodes_of_all, AllOf, FewArguments}
use Rattle.std.proofs.lemmas.List.{take_all}
use Rattle.raml_syntax.specs.Tree as t
use Rattle.raml_syntax.specs.declared.tree.ArithOp.{ArithOp}
use Rattle.raml_syntax.specs.declared.tree.CompareOp.{CompareOp}
use Rattle.raml_syntax.specs.Read.{form_of, form_step, expr_step, term_of, terms_of, bound_of}
use Rattle.simple_types.specs.Walk.{place}
use Rattle.raml_syntax.specs.declared.tree.Binder.{Binder}
use Rattle.raml_syntax.specs.declared.tree.Expr.{Expr}
use Rattle.raml_syntax.specs.declared.tree.Form.{Form}
use Rattle.raml_syntax.specs.declared.tree.Form.TheVariants.{Arith, Compare, Just, Pair, Cons, Node, Call, Let, LetPair, If, MatchList, MatchTree, MatchOption, rolls-Arith, rolls-Compare, rolls-Just, rolls-Pair, rolls-Cons, rolls-Node, rolls-Call, rolls-Let, rolls-LetPair, rolls-If, rolls-MatchList, rolls-MatchTree, rolls-MatchOption}
use Rattle.raml_syntax.specs.declared.tree.Form.TheOpen as o
use Rattle.raml_syntax.specs.declared.tree.Form.TheFolds.{fold-roll-Form, fold_out-Form, fold_out-Expr}

pub term_is : (e : Expr) (f : Form) → e.form ≡ f → term_of e ≡ form_of f e.at.0
term_is e f h = fold_out-Expr (ℕ → t.Term) t.Term form_step expr_step e ∙ ap (λ g. form_of g e.at.0) h

step_place : (f : o.Form-F (ℕ → t.Term) t.Term) (p : ℕ) → place (form_step f p) ≡ p
step_place (o.Number n) p = refl
step_place (o.Truth b) p = refl
step_place o.Nil p = refl
step_place o.Leaf p = refl
step_place o.Nothing p = refl
step_place (o.Var x) p = refl
step_place (o.Arith k a b) p = refl
step_place (o.Compare k a b) p = refl
step_place (o.Not a) p = refl
step_place (o.Pair a b) p = refl
step_place (o.Cons a b) p = refl
step_place (o.Node a b c) p = refl
step_place (o.Just a) p = refl
step_place (o.Call f es) p = refl
step_place (o.Let x a b) p = refl
step_place (o.LetPair x y a b) p = refl
step_place (o.If a b c) p = refl
step_place (o.MatchList a b x y c) p = refl
step_place (o.MatchTree a b x y z c) p = refl
step_place (o.MatchOption a b x c) p = refl
step_place (o.Tick k a) p = refl
step_place (o.Typed a A) p = refl

-- an expression stands at its place
pub term_place : (e : Expr) → place (term_of e) ≡ e.at.0
term_place e =
    ap place (term_is e e.form refl ∙ ap (λ (f : ℕ → t.Term). f e.at.0) (fold_out-Form (ℕ → t.Term) t.Term form_step expr_step e.form)) ∙ step_place _ e.at.0

pub term_pair : (e : Expr) (a b : Box Expr Global) (c d : Expr) → e.form ≡ Pair a b → c ≡ a.value → d ≡ b.value → t.Pair e.at.0 (term_of c) (term_of d) ≡ term_of e
term_pair e a b c d h p q =
    let eq : term_of e ≡ t.Pair e.at.0 (term_of a.value) (term_of b.value) =
    term_is e _ h ∙ ap (λ g. form_of g e.at.0) (sym (rolls-Pair a b)) ∙ ap (λ g. g e.at.0) (fold-roll-Form (ℕ → t.Term) t.Term form_step expr_step (o.Pair a b)) in
    (λ i. t.Pair e.at.0 (term_of (p i)) (term_of (q i))) ∙ sym eq

pub term_cons : (e : Expr) (a b : Box Expr Global) (c d : Expr) → e.form ≡ Cons a b → c ≡ a.value → d ≡ b.value → t.Cons e.at.0 (term_of c) (term_of d) ≡ term_of e
term_cons e a b c d h p q =
    let eq : term_of e ≡ t.Cons e.at.0 (term_of a.value) (term_of b.value) =
    term_is e _ h ∙ ap (λ g. form_of g e.at.0) (sym (rolls-Cons a b)) ∙ ap (λ g. g e.at.0) (fold-roll-Form (ℕ → t.Term) t.Term form_step expr_step (o.Cons a b)) in
    (λ i. t.Cons e.at.0 (term_of (p i)) (term_of (q i))) ∙ sym eq

pub term_node : (e : Expr) (a b c : Box Expr Global) (u v w : Expr) → e.form ≡ Node a b c → u ≡ a.value → v ≡ b.value → w ≡ c.value → t.Node e.at.0 (term_of u) (term_of v) (term_of w) ≡ term_of e
term_node e a b c u v w h p q r =
    let eq : term_of e ≡ t.Node e.at.0 (term_of a.value) (term_of b.value) (term_of c.value) =
    term_is e _ h ∙ ap (λ g. form_of g e.at.0) (sym (rolls-Node a b c)) ∙ ap (λ g. g e.at.0) (fold-roll-Form (ℕ → t.Term) t.Term form_step expr_step (o.Node a b c)) in
    (λ i. t.Node e.at.0 (term_of (p i)) (term_of (q i)) (term_of (r i))) ∙ sym eq

pub term_just : (e : Expr) (a : Box Expr Global) (c : Expr) → e.form ≡ Just a → c ≡ a.value → t.Just e.at.0 (term_of c) ≡ term_of e
term_just e a c h p =
    let eq : term_of e ≡ t.Just e.at.0 (term_of a.value) =
    term_is e _ h ∙ ap (λ g. form_of g e.at.0) (sym (rolls-Just a)) ∙ ap (λ g. g e.at.0) (fold-roll-Form (ℕ → t.Term) t.Term form_step expr_step (o.Just a)) in
    (λ i. t.Just e.at.0 (term_of (p i))) ∙ sym eq

pub term_arith : (e : Expr) (op : ArithOp) (a b : Box Expr Global) (c d : Expr) → e.form ≡ Arith op a b → c ≡ a.value → d ≡ b.value → t.Arith e.at.0 op (term_of c) (term_of d) ≡ term_of e
term_arith e op a b c d h p q =
    let eq : term_of e ≡ t.Arith e.at.0 op (term_of a.value) (term_of b.value) =
    term_is e _ h ∙ ap (λ g. form_of g e.at.0) (sym (rolls-Arith op a b)) ∙ ap (λ g. g e.at.0) (fold-roll-Form (ℕ → t.Term) t.Term form_step expr_step (o.Arith op a b)) in
    (λ i. t.Arith e.at.0 op (term_of (p i)) (term_of (q i))) ∙ sym eq

pub term_compare : (e : Expr) (op : CompareOp) (a b : Box Expr Global) (c d : Expr) → e.form ≡ Compare op a b → c ≡ a.value → d ≡ b.value → t.Compare e.at.0 op (term_of c) (term_of d) ≡ term_of e
term_compare e op a b c d h p q =
    let eq : term_of e ≡ t.Compare e.at.0 op (term_of a.value) (term_of b.value) =
    term_is e _ h ∙ ap (λ g. form_of g e.at.0) (sym (rolls-Compare op a b)) ∙ ap (λ g. g e.at.0) (fold-roll-Form (ℕ → t.Term) t.Term form_step expr_step (o.Compare op a b)) in
    (λ i. t.Compare e.at.0 op (term_of (p i)) (term_of (q i))) ∙ sym eq

pub term_let : (e : Expr) (x : Binder) (a b : Box Expr Global) (c d : Expr) → e.form ≡ Let x a b → c ≡ a.value → d ≡ b.value → t.Let e.at.0 (bound_of x) (term_of c) (term_of d) ≡ term_of e
term_let e x a b c d h p q =
    let eq : term_of e ≡ t.Let e.at.0 (bound_of x) (term_of a.value) (term_of b.value) =
    term_is e _ h ∙ ap (λ g. form_of g e.at.0) (sym (rolls-Let x a b)) ∙ ap (λ g. g e.at.0) (fold-roll-Form (ℕ → t.Term) t.Term form_step expr_step (o.Let x a b)) in
    (λ i. t.Let e.at.0 (bound_of x) (term_of (p i)) (term_of (q i))) ∙ sym eq

pub term_let_pair : (e : Expr) (x y : Binder) (a b : Box Expr Global) (c d : Expr) → e.form ≡ LetPair x y a b → c ≡ a.value → d ≡ b.value → t.LetPair e.at.0 (bound_of x) (bound_of y) (term_of c) (term_of d) ≡ term_of e
term_let_pair e x y a b c d h p q =
    let eq : term_of e ≡ t.LetPair e.at.0 (bound_of x) (bound_of y) (term_of a.value) (term_of b.value) =
    term_is e _ h ∙ ap (λ g. form_of g e.at.0) (sym (rolls-LetPair x y a b)) ∙ ap (λ g. g e.at.0) (fold-roll-Form (ℕ → t.Term) t.Term form_step expr_step (o.LetPair x y a b)) in
    (λ i. t.LetPair e.at.0 (bound_of x) (bound_of y) (term_of (p i)) (term_of (q i))) ∙ sym eq

pub term_if : (e : Expr) (a b c : Box Expr Global) (u v w : Expr) → e.form ≡ If a b c → u ≡ a.value → v ≡ b.value → w ≡ c.value → t.If e.at.0 (term_of u) (term_of v) (term_of w) ≡ term_of e
term_if e a b c u v w h p q r =
    let eq : term_of e ≡ t.If e.at.0 (term_of a.value) (term_of b.value) (term_of c.value) =
    term_is e _ h ∙ ap (λ g. form_of g e.at.0) (sym (rolls-If a b c)) ∙ ap (λ g. g e.at.0) (fold-roll-Form (ℕ → t.Term) t.Term form_step expr_step (o.If a b c)) in
    (λ i. t.If e.at.0 (term_of (p i)) (term_of (q i)) (term_of (r i))) ∙ sym eq

pub term_match_list : (e : Expr) (a b c : Box Expr Global) (x y : Binder) (u v w : Expr) → e.form ≡ MatchList a b x y c → u ≡ a.value → v ≡ b.value → w ≡ c.value → t.MatchList e.at.0 (term_of u) (term_of v) (bound_of x) (bound_of y) (term_of w) ≡ term_of e
term_match_list e a b c x y u v w h p q r =
    let eq : term_of e ≡ t.MatchList e.at.0 (term_of a.value) (term_of b.value) (bound_of x) (bound_of y) (term_of c.value) =
    term_is e _ h ∙ ap (λ g. form_of g e.at.0) (sym (rolls-MatchList a b x y c)) ∙ ap (λ g. g e.at.0) (fold-roll-Form (ℕ → t.Term) t.Term form_step expr_step (o.MatchList a b x y c)) in
    (λ i. t.MatchList e.at.0 (term_of (p i)) (term_of (q i)) (bound_of x) (bound_of y) (term_of (r i))) ∙ sym eq

pub term_match_tree : (e : Expr) (a b c : Box Expr Global) (x y z : Binder) (u v w : Expr) → e.form ≡ MatchTree a b x y z c → u ≡ a.value → v ≡ b.value → w ≡ c.value → t.MatchTree e.at.0 (term_of u) (term_of v) (bound_of x) (bound_of y) (bound_of z) (term_of w) ≡ term_of e
term_match_tree e a b c x y z u v w h p q r =
    let eq : term_of e ≡ t.MatchTree e.at.0 (term_of a.value) (term_of b.value) (bound_of x) (bound_of y) (bound_of z) (term_of c.value) =
    term_is e _ h ∙ ap (λ g. form_of g e.at.0) (sym (rolls-MatchTree a b x y z c)) ∙ ap (λ g. g e.at.0) (fold-roll-Form (ℕ → t.Term) t.Term form_step expr_step (o.MatchTree a b x y z c)) in
    (λ i. t.MatchTree e.at.0 (term_of (p i)) (term_of (q i)) (bound_of x) (bound_of y) (bound_of z) (term_of (r i))) ∙ sym eq

pub term_match_option : (e : Expr) (a b c : Box Expr Global) (x : Binder) (u v w : Expr) → e.form ≡ MatchOption a b x c → u ≡ a.value → v ≡ b.value → w ≡ c.value → t.MatchOption e.at.0 (term_of u) (term_of v) (bound_of x) (term_of w) ≡ term_of e
term_match_option e a b c x u v w h p q r =
    let eq : term_of e ≡ t.MatchOption e.at.0 (term_of a.value) (term_of b.value) (bound_of x) (term_of c.value) =
    term_is e _ h ∙ ap (λ g. form_of g e.at.0) (sym (rolls-MatchOption a b x c)) ∙ ap (λ g. g e.at.0) (fold-roll-Form (ℕ → t.Term) t.Term form_step expr_step (o.MatchOption a b x c)) in
    (λ i. t.MatchOption e.at.0 (term_of (p i)) (term_of (q i)) (bound_of x) (term_of (r i))) ∙ sym eq

pub term_call : (e : Expr) (f : List ℕ) (v : Vec Expr Global) (es : List Expr) → e.form ≡ Call f v → es ≡ v.items → t.Call e.at.0 f (terms_of es) ≡ term_of e
term_call e f v es h q =
    let eq : term_of e ≡ t.Call e.at.0 f (terms_of v.items) =
    term_is e _ h ∙ ap (λ g. form_of g e.at.0) (sym (rolls-Call f v)) ∙ ap (λ g. g e.at.0) (fold-roll-Form (ℕ → t.Term) t.Term form_step expr_step (o.Call f v)) in
    ap (λ xs. t.Call e.at.0 f (terms_of xs)) q ∙ sym eq

-- as many terms as expressions
pub count_terms : (es : List Expr) → count (terms_of es) ≡ length es
count_terms [] = refl
count_terms (e ∷ es) = omega (arith, count_terms es)

pub nodes_positive : (e : t.Term) → 1 ≤ nodes e
nodes_positive (t.Number p n) = omega arith
nodes_positive (t.Truth p b) = omega arith
nodes_positive (t.Nil p) = omega arith
nodes_positive (t.Leaf p) = omega arith
nodes_positive (t.Nothing p) = omega arith
nodes_positive (t.Var p x) = omega arith
nodes_positive (t.Arith p op a b) = omega arith
nodes_positive (t.Compare p op a b) = omega arith
nodes_positive (t.Not p a) = omega arith
nodes_positive (t.Pair p a b) = omega arith
nodes_positive (t.Cons p a b) = omega arith
nodes_positive (t.Node p a b c) = omega arith
nodes_positive (t.Just p a) = omega arith
nodes_positive (t.Call p f es) = omega arith
nodes_positive (t.Let p x a b) = omega arith
nodes_positive (t.LetPair p x y a b) = omega arith
nodes_positive (t.If p c a b) = omega arith
nodes_positive (t.MatchList p c a x y b) = omega arith
nodes_positive (t.MatchTree p c a x y z b) = omega arith
nodes_positive (t.MatchOption p c a x b) = omega arith
nodes_positive (t.Tick p k a) = omega arith
nodes_positive (t.Typed p a A) = omega arith

rest_is : (e : Expr) (es : List Expr) → take (length (e ∷ es) - 1) (drop 1 (e ∷ es)) ≡ es
rest_is e es = take_all (length (e ∷ es) - 1) es (omega arith)

-- what is left of some arguments has fewer nodes, and no more arguments in any call
pub rest_falls : (es : List Expr) → 1 ≤ length es → 8 * nodes_of_all (terms_of (take (length es - 1) (drop 1 es))) + 4 < 8 * nodes_of_all (terms_of es) + 4
rest_falls [] h = absurd (omega (arith, h))
rest_falls (e ∷ es) h =
    subst (λ (xs : List Expr). 8 * nodes_of_all (terms_of xs) + 4 < 8 * nodes_of_all (terms_of (e ∷ es)) + 4) (sym (rest_is e es)) (omega (arith, nodes_positive (term_of e)))

pub rest_few : (es : List Expr) → 1 ≤ length es → AllOf FewArguments (terms_of es) → AllOf FewArguments (terms_of (take (length es - 1) (drop 1 es)))
rest_few [] h few = absurd (omega (arith, h))
rest_few (e ∷ es) h few = subst (λ (xs : List Expr). AllOf FewArguments (terms_of xs)) (sym (rest_is e es)) few.1
