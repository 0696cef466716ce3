-- The lines of an answer, as bytes without line feeds.
use Rattle.std.specs.Prelude.{ℕ, Bool, ◌&&◌, ◌==◌, nat_lt, List, [], ◌∷◌, ◌++◌, length, flat_map, codes, decimal, Option, Some, None, option_map, if◌then◌else◌}
use Rattle.std.specs.List.{list_any}
use Rattle.std.specs.Option.{option_to_list}
use Rattle.std.specs.Int.{w32, w64, to_be_bytes}
use Rattle.hex.specs.Hex.{encode_lower}
use Rattle.ns_types.specs.declared.identity.WindowName.{WindowName}
use Rattle.ns_types.specs.declared.heard.Heard.{Heard}
use Rattle.ns_calls.specs.declared.answer.Uplink.{Uplink}
use Rattle.ns_calls.specs.declared.answer.Downlink.{Downlink}
use Rattle.ns_calls.specs.declared.answer.Answer.{Answer}
use Rattle.ns_calls.specs.declared.call.Reply.{Reply}
use Rattle.ns_calls.specs.declared.call.Reply.TheVariants.{Opened, Copied, Crowded, Old, NoSession, Busy, Ask, JoinCopied, JoinCrowded, NonceOld, NoDevice, JoinBusy, Accepted, JoinRefused, JoinStale, NoTicket, Closed, NoWindow, Again}

-- an identity in lower-case hex of full width, the highest byte first
unfoldable pub wide : ℕ → List ℕ
wide n = encode_lower (to_be_bytes w64 n)

-- an address, in the same way
unfoldable pub address_text : ℕ → List ℕ
address_text n = encode_lower (to_be_bytes w32 n)

-- a space and a number
abbrev pub number_text : ℕ → List ℕ
number_text n = codes " " ++ decimal n

-- a space and an identity
abbrev pub id_text : ℕ → List ℕ
id_text n = codes " " ++ wide n

-- a colon and a round above 1
abbrev pub round_text : ℕ → List ℕ
round_text round = if nat_lt 1 round then codes ":" ++ decimal round else []

-- the name of a window: device, session, and counter with its round
unfoldable pub window_text : WindowName → List ℕ
window_text w = id_text w.eui.0 ++ number_text w.session ++ number_text w.fcnt ++ round_text w.round

-- a space and a number, or a dash where there is none
abbrev pub optional_text : Option ℕ → List ℕ
optional_text None = codes " -"
optional_text (Some n) = number_text n

-- the line of a reply
unfoldable pub reply_text : Reply → List ℕ
reply_text (Opened w) = codes "opened" ++ window_text w
reply_text (Copied w place) = codes "copied" ++ window_text w ++ number_text place
reply_text (Crowded w) = codes "crowded" ++ window_text w
reply_text (Old eui session fcnt) = codes "old" ++ id_text eui.0 ++ number_text session ++ number_text fcnt
reply_text NoSession = codes "nosession"
reply_text (Busy eui) = codes "busy" ++ id_text eui.0
reply_text (Ask ticket) = codes "ask " ++ encode_lower ticket.0
reply_text (JoinCopied place) = codes "joincopied" ++ number_text place
reply_text JoinCrowded = codes "joincrowded"
reply_text (NonceOld greatest) = codes "nonceold" ++ number_text greatest.0
reply_text NoDevice = codes "nodevice"
reply_text JoinBusy = codes "joinbusy"
reply_text (Accepted eui session addr) = codes "accepted" ++ id_text eui.0 ++ number_text session ++ codes " " ++ address_text addr.0
reply_text JoinRefused = codes "joinrefused"
reply_text (JoinStale greatest) = codes "joinstale" ++ number_text greatest.0
reply_text NoTicket = codes "noticket"
reply_text (Closed w ack) = codes "closed" ++ window_text w ++ optional_text ack
reply_text NoWindow = codes "nowindow"
reply_text (Again w) = codes "again" ++ window_text w

-- a space and bytes in hex, or a dash where there are none
unfoldable pub bytes_text : List ℕ → List ℕ
bytes_text [] = codes " -"
bytes_text (b ∷ bs) = codes " " ++ encode_lower (b ∷ bs)

-- the gateways of copies, parted by commas
unfoldable pub gateways_text : List Heard → List ℕ
gateways_text [] = []
gateways_text (h ∷ hs) = wide h.gateway.0 ++ flat_map (λ c. codes "," ++ wide c.gateway.0) hs

-- `sealed` where a payload is as received
abbrev pub kind_text : Uplink → List ℕ
kind_text u = if u.sealed && nat_lt 0 (length u.payload) then codes " sealed" else codes " plain"

-- the line of an uplink: window, port, whether the payload is as received, options, payload, copies, and the gateways of those
unfoldable pub up_text : Uplink → List ℕ
up_text u =
    codes "up" ++ window_text u.window ++ optional_text u.port ++ kind_text u ++ bytes_text u.fopts ++ bytes_text u.payload
    ++ number_text (length u.copies.items) ++ codes " " ++ gateways_text u.copies.items

-- the line of a downlink: gateway, moment, frequency, data rate, frame
unfoldable pub down_text : Downlink → List ℕ
down_text d =
    codes "down" ++ id_text d.target.gateway.0 ++ number_text d.target.moment ++ number_text d.target.freq ++ number_text d.target.dr ++ bytes_text d.frame

-- whether a text has a line feed
abbrev pub has_line_feed : List ℕ → Bool
has_line_feed line = list_any (λ b. b == 10) line

-- the line of the reply, then those of what goes out
abbrev pub text : Answer → List (List ℕ)
text a = reply_text a.reply ∷ option_to_list (option_map up_text a.uplink) ++ option_to_list (option_map down_text a.downlink)
