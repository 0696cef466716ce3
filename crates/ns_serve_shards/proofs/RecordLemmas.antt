-- What a record leaves are sixteen shards, each at its place.
use Rattle.std.proofs.Common.{◌≡◌, ℕ, List, Option, vec_len, ◌∙◌, IfOk, subst, Result}
use Rattle.std.proofs.lemmas.Result.{IfOk-weaker}
use Rattle.ns_types.specs.Identity.{shard_count}
use Rattle.ns_roster.specs.Network.{Network}
use Rattle.ns_server.specs.Begun.{ArePlaced}
use Rattle.ns_resume.specs.declared.run.Resumed.{Resumed}
use Rattle.ns_resume.specs.Resumed.{IsAllOf, IsResumed}

in_place : (net : Network) (known ups : Option (List ℕ)) (r : Resumed)
    → ((text : List ℕ) × (there : List ℕ) × IsAllOf known text × IsAllOf ups there × IsResumed net text there r)
    → ArePlaced net r.shards.items × (vec_len r.shards ≡ shard_count)
in_place net known ups r (text, there, all, all_ups, is) =
    ((λ k s at. let placed = is.run.shards.each k s at in (placed.roster, placed.index)), r.shards.ok.0 ∙ is.run.shards.sixteen)

pub resumed_in_place : {E : Type 0} (net other : Network) (known ups : Option (List ℕ)) (result : Result Resumed E)
    → IfOk result (λ r. (text : List ℕ) × (there : List ℕ) × IsAllOf known text × IsAllOf ups there × IsResumed other text there r) → other ≡ net
    → IfOk result (λ r. ArePlaced net r.shards.items × (vec_len r.shards ≡ shard_count))
resumed_in_place net other known ups result left same =
    IfOk-weaker result _ _ (λ r is. subst (λ n. ArePlaced n r.shards.items × (vec_len r.shards ≡ shard_count)) same (in_place other known ups r is)) left
