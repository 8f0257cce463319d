-- Expressions of the code, and the terms that they are.
use Rattle.std.proofs.Common.{◌≡◌, ◌∙◌, ℕ, zero, suc, nat_eq, List, [], ◌∷◌, map, length, ◌<◌, ◌≤◌, slice_get, slice_index_or, Some, None, option_map, refl, sym, ap, Vec, Box, Global, arith}
use Rattle.std.specs.declared.rc.Rc.{Rc}
use Rattle.std.proofs.lemmas.List.{length-map}
use Rattle.raml_syntax.specs.Tree as t
use Rattle.raml_syntax.specs.Read.{terms_of, form_step, expr_step, form_of, term_of}
use Rattle.raml_syntax.specs.declared.tree.Expr.{Expr}
use Rattle.raml_syntax.specs.declared.tree.Form.{Form}
use Rattle.raml_syntax.specs.declared.tree.Form.TheVariants.{Call, rolls-Call}
use Rattle.raml_syntax.specs.declared.tree.Form.TheOpen as o
use Rattle.raml_syntax.specs.declared.tree.Form.TheFolds.{fold-roll-Form}
use Rattle.normal_spec.specs.Read.{const_form, op_form}
use Rattle.normal_spec.specs.declared.form.Const.{Const}
use Rattle.normal_spec.specs.declared.form.Const.TheVariants as const
use Rattle.normal_spec.specs.declared.form.NormOp.{NormOp}
use Rattle.normal_spec.specs.declared.form.NormOp.TheVariants as op
use Rattle.simple_types.specs.Walk.{place}
use Rattle.simple_types.proofs.Forms.{term_is, term_place as placed}
use Rattle.rules_spec.specs.Plan as p
use Rattle.rules_walk.specs.Read.{plan_of, plans_of, plan_step}
use Rattle.rules_walk.specs.Steps.{part_of}
use Rattle.rules_walk.specs.declared.plan.Part.{Part}
use Rattle.rules_walk.specs.declared.plan.Plan.{Plan}
use Rattle.rules_walk.specs.declared.plan.Plan.TheVariants.{Lets, rolls-Lets}
use Rattle.rules_walk.specs.declared.plan.Plan.TheOpen as f
use Rattle.rules_walk.specs.declared.plan.Plan.TheFolds.{fold-roll-Plan}
use Rattle.explain_origins.specs.Origins.{Origins}
use Rattle.explain_origins.specs.Paths.{plan_at, degree_at, let_turn, below, form_at, in_turn, origins_at}
use Rattle.explain_origins.specs.declared.turn.Turn.{Turn}
use Rattle.explain_origins.specs.Cursors.{operands}
use Rattle.explain_origins.proofs.Operands.{listed_terms}

call_operands : (e : Expr) (f : List ℕ) (args : Vec Expr Global) → e.form ≡ Call f args → operands (term_of e) ≡ map term_of args.items
call_operands e f args h =
    let is : term_of e ≡ t.Call e.at.0 f (terms_of args.items) =
    term_is e _ h ∙ ap (λ g. form_of g e.at.0) (sym (rolls-Call f args)) ∙ ap (λ g. g e.at.0) (fold-roll-Form (ℕ → t.Term) t.Term form_step expr_step (o.Call f args)) in
    ap operands is ∙ listed_terms (map term_of args.items)

-- how many arguments a call has
pub call_count : (e : Expr) (f : List ℕ) (args : Vec Expr Global) → e.form ≡ Call f args → length args.items ≡ length (operands (term_of e))
call_count e f args h = sym (ap length (call_operands e f args h) ∙ length-map args.items term_of)

-- and the one at a place
pub call_at : (e : Expr) (f : List ℕ) (args : Vec Expr Global) (k : ℕ) → e.form ≡ Call f args → slice_get (map term_of args.items) k ≡ slice_get (operands (term_of e)) k
call_at e f args k h = sym (ap (λ as'. slice_get as' k) (call_operands e f args h))

-- an expression stands at its place
pub term_place : (e : Expr) → e.at.0 ≡ place (term_of e)
term_place e = sym (placed e)

-- Constants and operators have no parts.
pub const_part : (v : Const) (k : ℕ) (turn : Turn) → None ≡ form_at (const_form v k) turn
const_part (const.Number i) k turn = refl
const_part (const.Truth b) k turn = refl

pub op_part : (o : NormOp) (k : ℕ) (turn : Turn) → None ≡ form_at (op_form o k) turn
op_part (op.Arith o x y) k turn = refl
op_part (op.Compare o x y) k turn = refl
op_part (op.Not x) k turn = refl

pub const_origins : (v : Const) (k : ℕ) (turn : Turn) (o : Origins) → in_turn turn o ≡ origins_at (const_form v k) turn o
const_origins (const.Number i) k turn o = refl
const_origins (const.Truth b) k turn o = refl

pub op_origins : (o : NormOp) (k : ℕ) (turn : Turn) (q : Origins) → in_turn turn q ≡ origins_at (op_form o k) turn q
op_origins (op.Arith o x y) k turn q = refl
op_origins (op.Compare o x y) k turn q = refl
op_origins (op.Not x) k turn q = refl

-- the tuples and the bound forms of a Let
pub degree_is : (parts : List Part) (k : ℕ) → option_map (λ (part : Part). part.degree) (slice_get parts k) ≡ degree_at (map part_of parts) k
degree_is [] k = refl
degree_is (part ∷ parts) zero = refl
degree_is (part ∷ parts) (suc k) = degree_is parts k

pub count_is : (parts : List Part) → length parts ≡ length (map part_of parts)
count_is parts = sym (length-map parts part_of)

pub bound_there : (es : List (Rc Plan Global)) (k : ℕ) (e : Rc Plan Global) (plan : Plan) → k < length es → e ≡ slice_index_or es k e → plan ≡ e.value → Some (plan_of plan) ≡ plan_at (plans_of es) k
bound_there [] k e plan h is same = absurd (omega (arith, h))
bound_there (d ∷ es) zero e plan h is same = ap (λ plan. Some (plan_of plan)) (same ∙ ap (λ (e : Rc Plan Global). e.value) is)
bound_there (d ∷ es) (suc k) e plan h is same = bound_there es k e plan (omega (arith, h)) is same

pub bound_none : (es : List (Rc Plan Global)) (k : ℕ) → length es ≤ k → None ≡ plan_at (plans_of es) k
bound_none [] k h = refl
bound_none (d ∷ es) zero h = absurd (omega (arith, h))
bound_none (d ∷ es) (suc k) h = bound_none es k (omega (arith, h))

pub lets_below : (plan : Plan) (n size : ℕ) (parts : List p.Part) (firsts : Vec (Rc Plan Global) Global) (rest : Box Plan Global) (j : ℕ) → plan ≡ Lets n parts firsts size rest →
    let_turn (degree_at parts j) (nat_eq j (length parts)) (plans_of firsts.items) (plan_of rest.value) ≡ below (plan_of plan) j
lets_below plan n size parts firsts rest j h =
    ap (λ t. below t j) (sym (ap plan_of (h ∙ sym (rolls-Lets n parts firsts size rest)) ∙ fold-roll-Plan p.Plan plan_step (f.Lets n parts firsts size rest)))
