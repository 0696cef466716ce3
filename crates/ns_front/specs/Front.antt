-- Which gateway and which frame a datagram names.
use Rattle.std.specs.Prelude.{◌≡◌, ⊤, ℕ, ◌&&◌, nat_le, is_none, List, length, drop, Option, None, Some, IfSome, IsSome, Result, Ok, Err}
use Rattle.std.specs.Int.{w32, from_le_bytes}
use Rattle.ns_types.specs.Cases.{when}
use Rattle.ns_types.specs.declared.heard.Heard.{Heard}
use Rattle.ns_views.specs.Grammar.{DataFields}
use Rattle.ns_views.specs.Frame.{data_fields, is_data_type, view_fault}
use Rattle.ns_link.specs.declared.LinkFault.{LinkFault}
use Rattle.ns_link.specs.Datagram.{datagram_of, heard_of}
use Rattle.ns_front.specs.declared.front.FrameName.{FrameName}
use Rattle.ns_front.specs.declared.front.Seen.{Seen}

-- the name of a data frame: its address, the low half of its counter, and its MIC
abbrev pub name_of : DataFields → FrameName
name_of d = record { addr = d.addr; fcnt = d.fcnt16; mic = from_le_bytes w32 d.mic }

-- the name of a frame, where it is a data uplink
abbrev pub name_of_frame : List ℕ → Option FrameName
name_of_frame frame = when (is_none (view_fault frame) && is_data_type frame) (name_of (data_fields frame))

-- the gateway and the frame that a datagram names, where its layout is right
abbrev pub seen_in : Result (Heard × List ℕ) LinkFault → Option Seen
seen_in (Ok read) = Some (record { gateway = read.0.gateway.0; frame = name_of_frame read.1 })
seen_in (Err fault) = None

abbrev pub seen_of : List ℕ → Option Seen
seen_of datagram = seen_in (datagram_of datagram)

-- the name of the data frame that it names, where it names one
abbrev pub frame_in : Option Seen → Option FrameName
frame_in None = None
frame_in (Some seen) = seen.frame

abbrev pub NamesFrame : List ℕ → Type 0
NamesFrame datagram = IsSome (frame_in (seen_of datagram))

-- the same by the places alone, of bytes that are no fewer than those of a datagram with the shortest data frame
abbrev pub front : List ℕ → Option (ℕ × FrameName)
front datagram = when (nat_le 40 (length datagram)) ((heard_of datagram).gateway.0, name_of (data_fields (drop 28 datagram)))

-- what is read by the places alone is what the datagram names, where it names it
abbrev pub Agree : Option (ℕ × FrameName) → Option Seen → Type 0
Agree front None = ⊤
Agree None (Some seen) = seen.frame ≡ None
Agree (Some front) (Some seen) = (front.0 ≡ seen.gateway) × IfSome seen.frame (λ name. name ≡ front.1)
