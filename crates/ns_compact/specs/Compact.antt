-- A checkpoint that serves as well as a record.
use Rattle.std.specs.Prelude.{◌≡◌, ℕ, ◌<◌, List, [], ◌∷◌, ◌++◌}
use Rattle.std.specs.List.{AllByRecursion}
use Rattle.ns_types.specs.Identity.{shard_count}
use Rattle.ns_roster.specs.Network.{Network}
use Rattle.ns_calls.specs.declared.call.Call.{Call}
use Rattle.ns_calls.specs.declared.call.Entry.{Entry}
use Rattle.ns_calls.specs.Runs.{answers_after}
use Rattle.ns_calls.specs.Shards.{shard_of_call}
use Rattle.ns_acts.specs.declared.step.Step.{Step}
use Rattle.ns_shard.specs.State.{State, Keeps}
use Rattle.ns_shard.specs.Tables.{TellTheSame}
use Rattle.ns_resume.specs.declared.head.RecordHead.{RecordHead}
use Rattle.ns_resume.specs.Head.{head_text, AreStarts}
use Rattle.ns_resume.specs.Resumed.{IsCut, AreStepsOf, AllFitFrom}

-- the text begins with this head, before which the shards have these histories, and its lines are these steps, which all fit
pub record TellsSteps (net : Network) (text : List ℕ) (starts : ℕ → List Entry) (steps : List Step) : Type 0 where
  pub head : RecordHead
  pub begun : AreStarts net head starts
  pub rest : List ℕ
  pub is_text : text ≡ head_text head ++ rest
  pub lines : List (List ℕ)
  pub torn : List ℕ
  pub cut : IsCut rest lines torn
  pub are_steps : AreStepsOf lines steps
  pub fit : AllFitFrom net starts steps

-- the histories of two shards tell the same tables
abbrev pub HaveSameTables : State → State → Type 0
HaveSameTables s t = s.roster ≡ t.roster → s.index ≡ t.index → (g h : List Entry) → Keeps g s → Keeps h t → TellTheSame s.roster s.index g h

-- so do those of shards, each as the one of its place
abbrev pub AllTellTheSame : List State → List State → Type 0
AllTellTheSame [] [] = Unit {0}
AllTellTheSame (s ∷ ss) (t ∷ ts) = HaveSameTables s t × AllTellTheSame ss ts
AllTellTheSame [] (t ∷ ts) = ⊥
AllTellTheSame (s ∷ ss) [] = ⊥

-- The two histories of each shard tell the same tables, and have the same answers to all later calls of the shard.
pub record GoOnTheSame (net : Network) (g h : ℕ → List Entry) : Type 0 where
  pub tables : (shard : ℕ) → shard < shard_count → TellTheSame net shard (g shard) (h shard)
  pub answers : (shard : ℕ) → shard < shard_count → (calls : List Call) → AllByRecursion (λ c. shard_of_call c ≡ shard) calls
      → answers_after net (g shard) calls ≡ answers_after net (h shard) calls
