use Rattle.std.proofs.Common.{rules, inl, inr}
use Rattle.raml_io.proofs.mem_store.MemStoreStore.read.Goals as goal
use Rattle.raml_io.proofs.mem_store.MemStoreStore.read.Goals.{then-contains, else-contains}

pub returns-in-None-clause-fails : goal.returns-in-None-clause-fails
returns-in-None-clause-fails c =
    elim c.if-contains.branch [
      | then-contains w ↦ (λ _. inl (search rules), λ _. search rules)
      | else-contains w ↦ (λ _. inr (search rules), λ _. search rules)
    ]
