use Rattle.std.proofs.Common.{[], ◌∷◌, ◌-◌, take, drop, length, refl, sym, subst, map}
use Rattle.raml_syntax.specs.Read.{ty_of}
use Rattle.value_text.specs.Goals.{More, FitAll}
use Rattle.value_text.specs.Tokens.{token_of}
use Rattle.value_text.specs.State.{goals_in, Taken}
use Rattle.value_text.specs.declared.goal.Verdict.TheVariants as a
use Rattle.value_text.proofs.Takings.{more_taken, more_ended, more_refused}
use Rattle.value_text.proofs.Returned.{more_put, types_cut, types_none}
use Rattle.value_text.proofs.taking.take_more.Goals as goal

pub returns-then-is_sign-2 : goal.returns-then-is_sign-2
returns-then-is_sign-2 c =
    let ts = c.args.types.now in
    let G = goals_in c.args.goals.now.items [] in
    let G' = goals_in c.extend_from_slice.new.self.items [] in
    let A = ty_of c.first-item.result in
    let As = map ty_of (take (length ts - 1) (drop 1 ts)) in
    let is = types_cut ts c.first-item.result c.in-len1-up.len_at_least c.first-item.is in
    let fits : FitAll (More (A ∷ As) ∷ G) = subst (λ As. FitAll (More As ∷ G)) is c.requires.fits in
    record { taken = λ vs. subst (λ As. Taken a.Fits (More As) (token_of c.args.token) G vs G' vs) (sym is) (more_taken A As (token_of c.args.token) G vs G' c.if-is_sign-2.ensures fits (more_put c.args.goals.now.items c.extend_from_slice.new.self.items _ _ c.in_ok-extend_from_slice-in-len1-up.ensures.items)) }

pub returns-then-is_sign : goal.returns-then-is_sign
returns-then-is_sign c =
    let none = types_none c.args.types.now c.in-empty.len_below in
    let fits = subst (λ As. FitAll (More As ∷ goals_in c.args.goals.now.items [])) none c.requires.fits in
    record { taken = λ vs. subst (λ As. Taken a.Fits (More As) (token_of c.args.token) (goals_in c.args.goals.now.items []) vs (goals_in c.args.goals.now.items []) vs) (sym none) (more_ended (token_of c.args.token) _ vs _ c.if-is_sign.ensures fits.1 refl) }

pub returns-else-is_sign : goal.returns-else-is_sign
returns-else-is_sign c =
    let none = types_none c.args.types.now c.in-empty.len_below in
    record { taken = λ vs. subst (λ As. Taken a.Shape (More As) (token_of c.args.token) (goals_in c.args.goals.now.items []) vs (goals_in c.args.goals.now.items []) vs) (sym none) (more_refused [] (token_of c.args.token) (goals_in c.args.goals.now.items []) vs (goals_in c.args.goals.now.items []) c.if-is_sign.ensures) }

pub returns-else-is_sign-2 : goal.returns-else-is_sign-2
returns-else-is_sign-2 c =
    let ts = c.args.types.now in
    let G = goals_in c.args.goals.now.items [] in
    let A = ty_of c.first-item.result in
    let As = map ty_of (take (length ts - 1) (drop 1 ts)) in
    let is = types_cut ts c.first-item.result c.in-len1-up.len_at_least c.first-item.is in
    record { taken = λ vs. subst (λ As. Taken a.Shape (More As) (token_of c.args.token) G vs G vs) (sym is) (more_refused (A ∷ As) (token_of c.args.token) G vs G c.if-is_sign-2.ensures) }
