-- Plans of a form from those of its parts.
use Rattle.std.proofs.Common.{◌≡◌, ℕ, List, [], ◌∷◌, map, ap, ◌∙◌, subst}
use Rattle.raml_syntax.specs.Tree.{Type'}
use Rattle.normal_spec.specs.Norm as n
use Rattle.normal_spec.specs.Norm.{Norm}
use Rattle.normal_spec.specs.Context.{Context, types, opened, copies_of}
use Rattle.annot_types.specs.Rows.{size as size_of}
use Rattle.rules_spec.specs.Plan as p
use Rattle.rules_spec.specs.Planned.{sharing_step}
use Rattle.rules_plan.specs.Down.{reached, each_down, both_down}
use Rattle.rules_plan.specs.Change.{step_at}
use Rattle.rules_plan.specs.declared.change.Move.{Move}
use Rattle.rules_plan.specs.Given.{Given, planned, AreReached, ArePlans, IsBranch}
use Rattle.rules_plan.proofs.Downed.{map_reached, each_reached, both_reached, reached_same}

pub plain : (G : Given) (F : ℕ → p.Plan) (made : List p.Plan) → made ≡ reached G.reach F G.top → AreReached G (λ P. F) made
plain G F made h = record { are = λ P e. h }

pub tick_is : (G : Given) (k i : ℕ) (a : Norm) (C : Context) (T : Type') (rests made : List p.Plan) → made ≡ map (λ e. p.Pays k i e) rests → ArePlans G a C T rests → ArePlans G (n.Tick k i a) C T made
tick_is G k i a C T rests made h r = record {
  are = λ P e. h ∙ ap (map (λ e. p.Pays k i e)) (r.are P e) ∙ map_reached G.reach (λ e. p.Pays k i e) (planned G a C T P) G.top;
}

pub branch_is : (G : Given) (S : Context → ℕ → p.Step) (a : Norm) (N M C : Context) (T : Type') (m : Move) (rests : List p.Plan) → N ≡ C → M ≡ C → ((d : ℕ) → step_at m d ≡ S N d) → ArePlans G a M T rests →
    IsBranch G (S C) a C T m rests
branch_is G S a N M C T m rests e f s r = record { step = λ d. s d ∙ ap (λ C. S C d) e; plans = subst (λ C. ArePlans G a C T rests) f r }

pub moves_are : (G : Given) (k : ℕ) (S : ℕ → p.Step) (a : Norm) (C : Context) (T : Type') (m : Move) (rests made : List p.Plan) →
    made ≡ each_down (λ d e. p.Moves k (step_at m d) e) G.top rests → IsBranch G S a C T m rests → AreReached G (λ P d. p.Moves k (S d) (planned G a C T P d)) made
moves_are G k S a C T m rests made h b = record {
  are = λ P e.
      let F : ℕ → p.Plan → p.Plan = λ d e. p.Moves k (step_at m d) e in
      let f = planned G a C T P in
      h ∙ ap (each_down F G.top) (b.plans.are P e) ∙ each_reached G.reach F f G.top ∙ reached_same G.reach (λ d. F d (f d)) (λ d. p.Moves k (S d) (f d)) G.top (λ d l. ap (λ s. p.Moves k s (f d)) (b.step d));
}

pub forks_are : (G : Given) (k : ℕ) (S U : ℕ → p.Step) (a b : Norm) (C D : Context) (T : Type') (m o : Move) (firsts seconds made : List p.Plan) →
    made ≡ both_down (λ d a b. p.Forks k (step_at m d) a (step_at o d) b) G.top seconds firsts → IsBranch G S a C T m firsts → IsBranch G U b D T o seconds →
    AreReached G (λ P d. p.Forks k (S d) (planned G a C T P d) (U d) (planned G b D T P d)) made
forks_are G k S U a b C D T m o firsts seconds made h x y = record {
  are = λ P e.
      let F : ℕ → p.Plan → p.Plan → p.Plan = λ d a b. p.Forks k (step_at m d) a (step_at o d) b in
      let f = planned G a C T P in
      let g = planned G b D T P in
      h ∙ (λ i. both_down F G.top (y.plans.are P e i) (x.plans.are P e i)) ∙ both_reached G.reach F f g G.top
      ∙ reached_same G.reach (λ d. F d (f d) (g d)) (λ d. p.Forks k (S d) (f d) (U d) (g d)) G.top (λ d l i. p.Forks k (x.step d i) (f d) (y.step d i) (g d));
}

pub shares_are : (G : Given) (k x y z : ℕ) (a : Norm) (C N M : Context) (T : Type') (m : Move) (Ts : List Type') (rests made : List p.Plan) →
    made ≡ each_down (λ d e. p.Shares k (size_of Ts d) (step_at m d) e) G.top rests → Ts ≡ types N → N ≡ opened x (y ∷ z ∷ []) copies_of C → M ≡ opened x (y ∷ z ∷ []) copies_of C →
    ((d : ℕ) → step_at m d ≡ sharing_step C x d) → ArePlans G a M T rests → ArePlans G (n.Share k x y z a) C T made
shares_are G k x y z a C N M T m Ts rests made h t o o' s q = record {
  are = λ P e.
      let F : ℕ → p.Plan → p.Plan = λ d e. p.Shares k (size_of Ts d) (step_at m d) e in
      let f = planned G a M T P in
      h ∙ ap (each_down F G.top) (q.are P e) ∙ each_reached G.reach F f G.top
      ∙ reached_same G.reach (λ d. F d (f d)) (λ d. p.Shares k (size_of (types (opened x (y ∷ z ∷ []) copies_of C)) d) (sharing_step C x d) (planned G a (opened x (y ∷ z ∷ []) copies_of C) T P d)) G.top
      (λ d l i. p.Shares k (size_of ((t ∙ ap types o) i) d) (s d i) (planned G a (o' i) T P d));
}
