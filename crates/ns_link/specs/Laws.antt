-- A law of the layout.
use Rattle.std.specs.Prelude.{◌≡◌, ℕ, List, ◌↔◌, Ok}
use Rattle.ns_types.specs.Bytes.{AreBytes}
use Rattle.ns_types.specs.declared.heard.Heard.{Heard}
use Rattle.ns_link.specs.Datagram.{IsUpDatagram, datagram_of}

-- bytes hold a frame, heard so, exactly where they are its datagram
abbrev pub ReadsExactly : Type 0
ReadsExactly = (bytes : List ℕ) (heard : Heard) (frame : List ℕ) → AreBytes bytes → (datagram_of bytes ≡ Ok (heard, frame)) ↔ IsUpDatagram bytes heard frame
