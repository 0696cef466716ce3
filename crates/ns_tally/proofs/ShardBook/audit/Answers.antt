use Rattle.std.proofs.Common.{◌≡◌, ℕ, List, ap₂, arith}
use Rattle.std.proofs.lemmas.List.{set-get_or}
use Rattle.ns_tally.specs.Tally.{Held, shard_of_book}
use Rattle.ns_tally.proofs.ShardBook.audit.Goals as goal

abbrev held : ℕ → List ℕ → Held
held n amounts = record { parts = n; amounts = amounts }

-- an amount that is put where it was
pub returns-clause-same : goal.returns-clause-same
returns-clause-same g c =
    let none = set-get_or c.args.all.now.amounts (shard_of_book c.args.self.now) 0 in
    let same : c.count.new.shares.amounts ≡ c.args.all.now.amounts = grind (arith, c.count.ensures.amounts, none) in
    ap₂ held c.count.ensures.parts same
