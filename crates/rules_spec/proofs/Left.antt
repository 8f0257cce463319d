-- A walk leaves the hints behind those that its plan asks for.
use Rattle.std.proofs.Common.{◌≡◌, refl, ap, sym, ◌∙◌}
use Rattle.std.specs.Prelude.{ℕ, zero, suc, List, [], ◌∷◌, ◌++◌, map, slice_index_or}
use Rattle.cost_free.specs.declared.task.Meter.TheVariants.{Ticks, Cells, Work}
use Rattle.annot_types.specs.Rules.{Mode, With, Own, Past}
use Rattle.rules_spec.specs.Plan as p
use Rattle.rules_spec.specs.Plan.{Plan, Part, Called}
use Rattle.rules_spec.specs.Numbers.{Numbers, Known, Hint, Walked}
use Rattle.rules_spec.specs.Walk.{Walk, later, still, mode_at, moved, begun, each, walk, walks}
use Rattle.rules_spec.specs.Asked.{Ask, ResultsOf, CopiesOf, MultiplesOf, asked, all_asked, each_asked, behind_asked}

pub behind_append : {H : Type 0} (ks ls : List Ask) (hs : List H) → behind_asked (ks ++ ls) hs ≡ behind_asked ls (behind_asked ks hs)
behind_append [] ls hs = refl
behind_append (k ∷ ks) ls [] = behind_append ks ls []
behind_append (k ∷ ks) ls (h ∷ hs) = behind_append ks ls hs

behind_later : {E : Type 0} (k : Ask) (ks : List Ask) (hs : List (Hint E)) → behind_asked (k ∷ ks) hs ≡ behind_asked ks (later hs)
behind_later k ks [] = refl
behind_later k ks (h ∷ hs) = refl

module _ {E : Type 0} (A : Numbers E) (G : Known E) where
  begun_left : (n : ℕ) (mode : Mode) (path : List ℕ) (q : List E) (go : ℕ → List E → Walked E) (l : List (Hint E)) → ((i : ℕ) (s : List E) → (go i s).left ≡ l) →
      (begun A G n mode path q go).left ≡ l
  begun_left zero mode path q go l h = h 0 q
  begun_left (suc n) (With Ticks) path q go l h = h 0 q
  begun_left (suc n) (With Cells) path q go l h = h 0 q
  begun_left (suc n) (With Work) path q go l h = h 1 _
  begun_left (suc n) Own path q go l h = h 0 q
  begun_left (suc n) Past path q go l h = h 0 q

  abbrev pub Leaves : Walk E → List Ask → Type 0
  Leaves w ks = (mode : Mode) (path : List ℕ) (q r : List E) (hs : List (Hint E)) → (w mode path q r hs).left ≡ behind_asked ks hs

  abbrev pub AllLeave : List (Walk E) → List (List Ask) → Type 0
  AllLeave [] [] = Unit {0}
  AllLeave (w ∷ ws) (ks ∷ kss) = Leaves w ks × AllLeave ws kss
  AllLeave _ _ = ⊥

  leave_at : (ws : List (Walk E)) (kss : List (List Ask)) → AllLeave ws kss → (k : ℕ) → Leaves (slice_index_or ws k still) (slice_index_or kss k [])
  leave_at [] [] h k = λ mode path q r hs. refl
  leave_at [] (ks ∷ kss) h k = absurd h
  leave_at (w ∷ ws) [] h k = absurd h
  leave_at (w ∷ ws) (ks ∷ kss) h zero = h.0
  leave_at (w ∷ ws) (ks ∷ kss) h (suc k) = leave_at ws kss h.1 k

  pub each_left : (ws : List (Walk E)) (kss : List (List Ask)) → AllLeave ws kss → (j : ℕ) (parts : List Part) (rs : List (List E)) (q : List E) (mode : Mode) (path : List ℕ) (hs : List (Hint E)) →
      (each A G ws j parts rs q mode path hs).left ≡ behind_asked (each_asked kss parts) hs
  each_left ws kss a j [] rs q mode path hs = refl
  each_left ws kss a j (part ∷ parts) rs q mode path hs =
      each_left ws kss a (suc j) parts rs q mode path _
      ∙ ap (behind_asked (each_asked kss parts)) (leave_at ws kss a part.degree (mode_at j mode) (path ++ j ∷ []) (moved A part.there q) (slice_index_or rs j []) hs)
      ∙ sym (behind_append (slice_index_or kss part.degree []) (each_asked kss parts) hs)

  mutual
    pub left_of : (e : Plan) (mode : Mode) (path : List ℕ) (q r : List E) (hs : List (Hint E)) → (walk A G e mode path q r hs).left ≡ behind_asked (asked e) hs
    left_of (p.Ends n cells steps) mode path q r hs = begun_left n mode path q _ hs (λ i s. refl)
    left_of (p.Pays n ticks e) mode path q r hs = begun_left n mode path q _ _ (λ i s. left_of e mode _ _ r hs)
    left_of (p.Moves n step e) mode path q r hs = begun_left n mode path q _ _ (λ i s. left_of e mode _ _ r hs)
    left_of (p.Forks n step a step' b) mode path q r hs =
        begun_left n mode path q _ _ (λ i s.
        left_of b mode _ _ r _ ∙ ap (behind_asked (asked b)) (left_of a mode _ (moved A step s) r hs) ∙ sym (behind_append (asked a) (asked b) hs))
    left_of (p.Shares n size step e) mode path q r hs = begun_left n mode path q _ _ (λ i s. left_of e mode _ _ r (later hs) ∙ sym (behind_later (CopiesOf size) (asked e) hs))
    left_of (p.Calls n c) mode path q r hs = begun_left n mode path q _ _ (λ i s. sym (behind_later (MultiplesOf c.usable) [] hs))
    left_of (p.Lets n parts firsts size e) mode path q r hs =
        begun_left n mode path q _ _ (λ i s.
        left_of e mode _ _ r _
        ∙ ap (behind_asked (asked e)) (each_left (walks A G firsts) (all_asked firsts) (all_left firsts) 0 parts _ s mode path (later hs))
        ∙ sym (behind_append (each_asked (all_asked firsts) parts) (asked e) (later hs))
        ∙ sym (behind_later (ResultsOf (map (λ (part : Part). part.size) parts)) (each_asked (all_asked firsts) parts ++ asked e) hs))

    pub all_left : (es : p.Plans) → AllLeave (walks A G es) (all_asked es)
    all_left p.NoPlans = tt
    all_left (p.More e es) = (left_of e, all_left es)
