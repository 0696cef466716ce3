use Rattle.std.proofs.Common.{◌≡◌, drop}
use Rattle.serde_json.specs.Data.{no_members}
use Rattle.serde_json.specs.View.{members_view}
use Rattle.ns_roster.specs.Object.{with_fields}
use Rattle.ns_roster.proofs.object.members_of.Given as goal

-- the members so far, with the fields that are left, are the whole
abbrev pub invariant-loop-field : goal.invariant-loop-field
invariant-loop-field l = with_fields (drop l.field-index l.fields) (members_view l.members.entries) ≡ with_fields l.fields no_members
