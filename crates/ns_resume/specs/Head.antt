-- How a record begins: what is before its first step line, and the histories that the shards have there.
use Rattle.std.specs.Prelude.{◌≡◌, ℕ, ◌+◌, List, [], length, slice_get, Some}
use Rattle.ns_types.specs.Identity.{shard_count}
use Rattle.ns_roster.specs.Network.{Network}
use Rattle.ns_calls.specs.declared.call.Entry.{Entry}
use Rattle.ns_steps.specs.StepLines.{ended}
use Rattle.ns_checkpoint.specs.declared.tables.Tables.{Tables}
use Rattle.ns_checkpoint.specs.Text.{checkpoint_text, shards_lines}
use Rattle.ns_restore.specs.Tables.{tables_of}
use Rattle.ns_shard.specs.Tables.{devices_in, windows_in}
use Rattle.ns_runs.specs.KeptSteps.{AreHistories}
use Rattle.ns_runs.specs.Steps.{no_starts}
use Rattle.ns_resume.specs.Base.{base_text}
use Rattle.ns_resume.specs.declared.head.RecordHead.{RecordHead}
use Rattle.ns_resume.specs.declared.head.RecordHead.TheVariants.{Steps, Compacted, Tabled}

-- what is before the first step line
abbrev pub head_text : RecordHead → List ℕ
head_text Steps = []
head_text (Compacted base) = ended (base_text base)
head_text (Tabled checkpoint) = checkpoint_text checkpoint

-- the number of the first step line: lines are numbered from 1
abbrev pub first_number : RecordHead → ℕ
first_number Steps = 1
first_number (Compacted base) = 2
first_number (Tabled checkpoint) = length (shards_lines 0 checkpoint.shards.items) + 3

-- how many step lines imply no `up` line: those that a compaction left
abbrev pub lines_before : RecordHead → ℕ
lines_before (Compacted base) = base.lines
lines_before _ = 0

-- how many bytes of the `up` lines were written before
abbrev pub ups_before : RecordHead → ℕ
ups_before Steps = 0
ups_before (Compacted base) = base.ups
ups_before (Tabled checkpoint) = checkpoint.ups

-- a checkpoint has the tables of sixteen shards
abbrev pub HasSixteen : RecordHead → Type 0
HasSixteen (Tabled checkpoint) = length checkpoint.shards.items ≡ shard_count
HasSixteen _ = Unit {0}

-- these tables of a shard are those that its history tells
pub record AreToldBy (net : Network) (index : ℕ) (h : List Entry) (t : Tables) : Type 0 where
  pub devices : t.devices.items ≡ tables_of (devices_in net index h)
  pub windows : t.windows.items ≡ windows_in h

-- there are tables of sixteen shards, and those of each are told by its history
pub record AreTablesOf (net : Network) (starts : ℕ → List Entry) (tables : List Tables) : Type 0 where
  pub sixteen : length tables ≡ shard_count
  pub each : (shard : ℕ) (t : Tables) → slice_get tables shard ≡ Some t → AreToldBy net shard (starts shard) t

-- the histories tell the tables of the checkpoint; without one no shard has an entry
abbrev pub TellHead : Network → (ℕ → List Entry) → RecordHead → Type 0
TellHead net starts (Tabled checkpoint) = AreTablesOf net starts checkpoint.shards.items
TellHead net starts _ = starts ≡ no_starts

-- the shards can have these histories before the first step line
pub record AreStarts (net : Network) (head : RecordHead) (starts : ℕ → List Entry) : Type 0 where
  pub histories : AreHistories net starts
  pub tell : TellHead net starts head
