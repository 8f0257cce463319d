-- What the code hears is what a job has.
use Rattle.std.proofs.Common.{◌≡◌, refl, ap, sym, ◌∙◌}
use Rattle.std.specs.Prelude.{ℕ, suc, List, [], ◌∷◌, ◌++◌, map, slice_index_or, Option}
use Rattle.std.specs.Option.{option_map}
use Rattle.std.proofs.lemmas.List.{map-append}
use Rattle.std.proofs.Math.ListN.{get_or-map}
use Rattle.cost_free.specs.declared.task.Meter.{Meter}
use Rattle.cost_free.specs.Task as k
use Rattle.cost_free.specs.Task.{Task, Kind, Free}
use Rattle.annot_types.specs.Program.{Program}
use Rattle.annot_types.specs.Certificate.{Sig, Hint, Block}
use Rattle.annot_types.specs.Rules.{Mode}
use Rattle.annot_types.specs.Holds.{mode_of, budget_of}
use Rattle.rules_spec.specs.Numbers as n
use Rattle.rules_spec.specs.Numbers.{Signature, Known, Condition, Walked}
use Rattle.rules_spec.specs.Kinds.{Amount, amounts}
use Rattle.rules_spec.specs.Walk.{walk}
use Rattle.rules_spec.specs.Capped.{cap, capped, capped_amount}
use Rattle.rules_spec.specs.Carried.{sides_to, known_to, hint_to, condition_to}
use Rattle.rules_spec.specs.Tasks.{Body, Job, known_by, of_bodies}
use Rattle.rules_spec.specs.Jobs.{job_of}
use Rattle.rules_spec.specs.Faults.{first_fault}
use Rattle.rules_spec.proofs.Capping.{capped_walks, capped_faults}
use Rattle.rules_walk.specs.Laws.{IsFree}
use Rattle.rules_walk.specs.Remembers.{Tables, free_at, cost_at, capped_signature, Knows}
use Rattle.rules_walk.proofs.Unpaid.{walks_without_cost}
use Rattle.cert_check.specs.Finds.{sides_at, all_hints_at, job_fault}
use Rattle.cert_check.specs.Judging.{bodies_walked}
use Rattle.cert_check.proofs.Knowing.{as_heard, walk_same}

-- capped conditions
capped_bodies : (J : Job) (group : List (n.Sides Amount)) (place : ℕ) (bs : List Body) (hss : List (List (n.Hint Amount))) →
    bodies_walked (known_to capped_amount (known_by J group)) J.mode place bs (map (map (hint_to capped_amount)) hss)
    ≡ map (condition_to capped_amount) (of_bodies (amounts 1) J group place bs hss)
capped_bodies J group place [] hss = refl
capped_bodies J group place (b ∷ bs) [] = refl
capped_bodies J group place (b ∷ bs) (hs ∷ hss) =
    let K = known_by J group in
    let s = slice_index_or group place (record { args = []; result = [] }) in
    (λ i. (walk capped (known_to capped_amount K) b.plan J.mode (place ∷ [])
    (get_or-map (sides_to capped_amount) group place (record { args = []; result = [] }) i).args
    (get_or-map (sides_to capped_amount) group place (record { args = []; result = [] }) i).result
    (map (hint_to capped_amount) hs)).found ++ capped_bodies J group (suc place) bs hss i)
    ∙ ap (λ (w : Walked Amount). w.found ++ map (condition_to capped_amount) (of_bodies (amounts 1) J group (suc place) bs hss))
    (capped_walks K b.plan J.mode (place ∷ []) s.args s.result hs)
    ∙ sym (map-append (condition_to capped_amount) (walk (amounts 1) K b.plan J.mode (place ∷ []) s.args s.result hs).found
    (of_bodies (amounts 1) J group (suc place) bs hss))

-- where no prices are paid the signatures that pay are not read
unpaid_bodies : (G : Known Amount) (cost : Meter → ℕ → Option Signature) (mode : Mode) → IsFree mode → (place : ℕ) (bs : List Body) (hss : List (List (n.Hint Amount))) →
    bodies_walked G mode place bs hss
    ≡ bodies_walked (record { scale = G.scale; budget = G.budget; group = G.group; free = G.free; cost = cost }) mode place bs hss
unpaid_bodies G cost mode free place [] hss = refl
unpaid_bodies G cost mode free place (b ∷ bs) [] = refl
unpaid_bodies G cost mode free place (b ∷ bs) (hs ∷ hss) =
    let s = slice_index_or G.group place (record { args = []; result = [] }) in
    λ i. (walks_without_cost.capped G cost b.plan mode free (place ∷ []) s.args s.result hs i).found ++ unpaid_bodies G cost mode free (suc place) bs hss i

-- numbers that are capped before are heard the same
heard_bodies : (G : Known Amount) (mode : Mode) (place : ℕ) (bs : List Body) (hss : List (List (n.Hint Amount))) →
    bodies_walked G mode place bs hss ≡ bodies_walked (as_heard G) mode place bs hss
heard_bodies G mode place [] hss = refl
heard_bodies G mode place (b ∷ bs) [] = refl
heard_bodies G mode place (b ∷ bs) (hs ∷ hss) =
    let s = slice_index_or G.group place (record { args = []; result = [] }) in
    λ i. (walk_same G b.plan mode (place ∷ []) s.args s.result hs i).found ++ heard_bodies G mode (suc place) bs hss i

module _ (budget : ℕ) (group : List (n.Sides Amount)) where
  abbrev told : ℕ → (ℕ → ℕ → Signature) → (Meter → ℕ → Option Signature) → Known Amount
  told scale free cost = record { scale = scale; budget = budget; group = group; free = free; cost = cost }

  same_bodies : (scale other : ℕ) → cap scale ≡ cap other → (free free' : ℕ → ℕ → Signature) → ((k f : ℕ) → free k f ≡ free' k f) →
      (cost cost' : Meter → ℕ → Option Signature) → ((m : Meter) (f : ℕ) → option_map capped_signature (cost m f) ≡ option_map capped_signature (cost' m f)) →
      (mode : Mode) (place : ℕ) (bs : List Body) (hss : List (List (n.Hint Amount))) →
      bodies_walked (told scale free cost) mode place bs hss ≡ bodies_walked (told other free' cost') mode place bs hss
  same_bodies scale other e free free' g cost cost' h mode place bs hss =
      heard_bodies (told scale free cost) mode place bs hss
      ∙ (λ i. bodies_walked (told (e i) (λ k f. g k f i) (λ m f. h m f i)) mode place bs hss)
      ∙ sym (heard_bodies (told other free' cost') mode place bs hss)

module _ (P : Program) (d : ℕ) (earlier : List Block) (t : Tables) (r : Knows P d earlier t) (known scale : ℕ) (e : cap known ≡ cap scale) (group : List (n.Sides Amount)) where
  -- what the tables tell is what the rules find
  known_is : (task : Task) (place : ℕ) (bs : List Body) (hss : List (List (n.Hint Amount))) →
      bodies_walked (told (budget_of d task.kind) group known (free_at t) (cost_at t)) (mode_of task.kind) place bs hss
      ≡ bodies_walked (told (budget_of d task.kind) group scale (job_of P d earlier task scale).free (job_of P d earlier task scale).cost) (mode_of task.kind) place bs hss
  known_is task place bs hss = by task.kind where
    by : (kind : Kind) → bodies_walked (told (budget_of d kind) group known (free_at t) (cost_at t)) (mode_of kind) place bs hss
        ≡ bodies_walked (told (budget_of d kind) group scale (job_of P d earlier (record { group = task.group; kind = kind }) scale).free (job_of P d earlier (record { group = task.group; kind = kind }) scale).cost) (mode_of kind) place bs hss
    by (Free budget f target) =
        let j = job_of P d earlier (record { group = task.group; kind = Free budget f target }) scale in
        unpaid_bodies (told budget group known (free_at t) (cost_at t)) j.cost (mode_of (Free budget f target)) tt place bs hss
        ∙ same_bodies budget group known scale e (free_at t) j.free r.free j.cost j.cost (λ m f. refl) (mode_of (Free budget f target)) place bs hss
    by (k.With meter) =
        let j = job_of P d earlier (record { group = task.group; kind = k.With meter }) scale in
        same_bodies d group known scale e (free_at t) j.free r.free (cost_at t) j.cost r.cost (mode_of (k.With meter)) place bs hss

-- So the first condition with trouble is that of the job.
pub walked_fault : (P : Program) (d : ℕ) (earlier : List Block) (t : Tables) → Knows P d earlier t → (task : Task) (known scale : ℕ) → cap known ≡ cap scale →
    (sigs : List Sig) (hints : List (List Hint)) →
    let j = job_of P d earlier task scale in
    first_fault (bodies_walked (record {
      scale = known;
      budget = budget_of d task.kind;
      group = map (sides_to capped_amount) (sides_at j.bodies sigs);
      free = free_at t;
      cost = cost_at t;
    }) (mode_of task.kind) 0 j.bodies (map (map (hint_to capped_amount)) (all_hints_at j.bodies hints)))
    ≡ job_fault j sigs hints
walked_fault P d earlier t r task known scale e sigs hints =
    let j = job_of P d earlier task scale in
    let group = sides_at j.bodies sigs in
    ap first_fault (known_is P d earlier t r known scale e (map (sides_to capped_amount) group) task 0 j.bodies (map (map (hint_to capped_amount)) (all_hints_at j.bodies hints))
    ∙ capped_bodies j group 0 j.bodies (all_hints_at j.bodies hints))
    ∙ capped_faults (of_bodies (amounts 1) j group 0 j.bodies (all_hints_at j.bodies hints))
