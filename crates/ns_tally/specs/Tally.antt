-- One ledger for each shard.
use Rattle.std.specs.Prelude.{ℕ, ◌≡◌, ◌+◌, slice_index, List, [], ◌∷◌}
use Rattle.ns_tally.specs.declared.ShardBook.{ShardBook}
use Rattle.ns_tally.specs.declared.ShardBook.TheVariants.{Q0, Q1, Q2, Q3}
use Rattle.ns_tally.specs.declared.quarter.QuarterBook.{QuarterBook}
use Rattle.ns_tally.specs.declared.quarter.QuarterBook.TheVariants.{First, Second, Third, Fourth}

-- the parts that a share has of each ledger, and its amount in each
pub record Held : Type 0 where
  pub parts : ℕ
  pub amounts : List ℕ

-- the names of the ledgers, and the parts of each
pub record Unnamed : Type 0 where
  pub names : List ℕ
  pub parts : ℕ

-- the same of a quarter of the ledgers, place by place
pub record QuarterHeld : Type 0 where
  pub parts : ℕ
  pub a0 : ℕ
  pub a1 : ℕ
  pub a2 : ℕ
  pub a3 : ℕ

-- the amounts in a list
abbrev pub quarter_amounts : QuarterHeld → List ℕ
quarter_amounts h = h.a0 ∷ h.a1 ∷ h.a2 ∷ h.a3 ∷ []

-- the names of a quarter of the ledgers, and the parts of each
pub record QuarterUnnamed : Type 0 where
  pub n0 : ℕ
  pub n1 : ℕ
  pub n2 : ℕ
  pub n3 : ℕ
  pub parts : ℕ

-- the names in a list
abbrev pub quarter_names : QuarterUnnamed → List ℕ
quarter_names b = b.n0 ∷ b.n1 ∷ b.n2 ∷ b.n3 ∷ []

-- this many parts of a quarter of the ledgers, with which nothing was counted
abbrev pub new_share : ℕ → QuarterHeld
new_share parts = record { parts = parts; a0 = 0; a1 = 0; a2 = 0; a3 = 0 }

-- two shares of a quarter of the ledgers, put together
abbrev pub with_both : QuarterHeld → QuarterHeld → QuarterHeld
with_both h g = record { parts = h.parts + g.parts; a0 = h.a0 + g.a0; a1 = h.a1 + g.a1; a2 = h.a2 + g.a2; a3 = h.a3 + g.a3 }

-- the ledgers have these names, shard by shard
abbrev pub AreNamed : (ℕ → ℕ) → List ℕ → Type 0
AreNamed ledger names = (k : ℕ) → slice_index names k ≡ ledger k

-- the place of a book's shard in its quarter
abbrev pub place_of_book : {B : Type 0} {Q : ℕ} → QuarterBook B Q → ℕ
place_of_book (First b) = 0
place_of_book (Second b) = 1
place_of_book (Third b) = 2
place_of_book (Fourth b) = 3

-- the shard of a book
abbrev pub shard_of_book : {B : Type 0} → ShardBook B → ℕ
shard_of_book (Q0 b) = place_of_book b
shard_of_book (Q1 b) = 4 + place_of_book b
shard_of_book (Q2 b) = 8 + place_of_book b
shard_of_book (Q3 b) = 12 + place_of_book b

-- how many entries a book of a quarter counts
abbrev pub total_in_quarter : {B : Type 0} {Q : ℕ} → QuarterBook B Q → ℕ
total_in_quarter (First b) = b.total
total_in_quarter (Second b) = b.total
total_in_quarter (Third b) = b.total
total_in_quarter (Fourth b) = b.total

-- how many entries a book counts
abbrev pub total_of_book : {B : Type 0} → ShardBook B → ℕ
total_of_book (Q0 b) = total_in_quarter b
total_of_book (Q1 b) = total_in_quarter b
total_of_book (Q2 b) = total_in_quarter b
total_of_book (Q3 b) = total_in_quarter b

-- the amounts of a share with which nothing was counted
abbrev pub none_made : List ℕ
none_made = 0 ∷ 0 ∷ 0 ∷ 0 ∷ 0 ∷ 0 ∷ 0 ∷ 0 ∷ 0 ∷ 0 ∷ 0 ∷ 0 ∷ 0 ∷ 0 ∷ 0 ∷ 0 ∷ []

-- two lists of amounts, added place by place
abbrev pub added : List ℕ → List ℕ → List ℕ
added [] ys = ys
added (x ∷ xs) [] = x ∷ xs
added (x ∷ xs) (y ∷ ys) = (x + y) ∷ added xs ys
