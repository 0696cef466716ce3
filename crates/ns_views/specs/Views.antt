-- What a view of bytes says of them.
use Rattle.std.specs.Prelude.{◌≡◌, ℕ, List}
use Rattle.ns_views.specs.Grammar.{IsDataUplink, IsJoinRequest}
use Rattle.ns_views.specs.Frame.{data_fields, join_fields}
use Rattle.ns_views.specs.declared.phy.PhyView.{PhyView}
use Rattle.ns_views.specs.declared.phy.PhyView.TheVariants.{Frame, Join}

-- the view lends these bytes, which are a frame of its kind
abbrev pub IsViewOf : List ℕ → PhyView → Type 0
IsViewOf bytes (Frame view) = (view ≡ bytes) × IsDataUplink bytes (data_fields bytes)
IsViewOf bytes (Join view) = (view ≡ bytes) × IsJoinRequest bytes (join_fields bytes)
