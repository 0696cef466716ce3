-- Frames as they are written: an uplink, acknowledgements, a Join-Request, and Join-Accepts with and without a CFList. They were made
-- by AES and CMAC in Python, and by OpenSSL where AES is to decipher.
use Rattle.std.specs.Prelude.{◌≡◌, ℕ, true, List, [], ◌∷◌, Option, None, Some}
use Rattle.ns_secure.specs.declared.Dir.TheVariants.{Up}
use Rattle.ns_creator.specs.declared.keys.Keys.{Keys}
use Rattle.ns_creator.specs.declared.join.JoinAcceptCreator.{JoinAcceptCreator}
use Rattle.ns_creator.specs.DataFrame.{data_frame, ack}
use Rattle.ns_creator.specs.JoinFrame.{join_request_frame, join_accept_frame}
use Rattle.ns_calls.specs.Out.{ack_frame}
use Rattle.example_runs.specs.OneDevice.{device, network, address, nwk_1, nwk_2, app_1}

-- the AppKey is the key nwk_2
abbrev pub keys : Keys
keys = record { nwk = nwk_1; app = app_1; root = nwk_2 }

-- a Confirmed Data Up of counter 5 on port 0
abbrev pub DataFrames : Type 0
DataFrames =
    data_frame keys (record { dir = Up; confirmed = true; addr = address.0; flags = 0; counter = 5; fopts = []; port = Some 0; payload = (0x02 ∷ []) })
    ≡ (0x80 ∷ 0xf1 ∷ 0x7d ∷ 0xbe ∷ 0x49 ∷ 0x00 ∷ 0x05 ∷ 0x00 ∷ 0x00 ∷ 0x5d ∷ 0x25 ∷ 0x68 ∷ 0x92 ∷ 0x78 ∷ [])

-- of numbers 0 and 65537; the plain server's are the same
abbrev pub Acknowledgements : Type 0
Acknowledgements =
    (data_frame keys (ack address.0 0) ≡ (0x60 ∷ 0xf1 ∷ 0x7d ∷ 0xbe ∷ 0x49 ∷ 0x20 ∷ 0x00 ∷ 0x00 ∷ 0x1c ∷ 0x02 ∷ 0x17 ∷ 0xfb ∷ []))
    × (data_frame keys (ack address.0 65537) ≡ (0x60 ∷ 0xf1 ∷ 0x7d ∷ 0xbe ∷ 0x49 ∷ 0x20 ∷ 0x01 ∷ 0x00 ∷ 0x93 ∷ 0x95 ∷ 0xb3 ∷ 0x76 ∷ []))
    × (ack_frame nwk_1.0 address.0 65537 ≡ (0x60 ∷ 0xf1 ∷ 0x7d ∷ 0xbe ∷ 0x49 ∷ 0x20 ∷ 0x01 ∷ 0x00 ∷ 0x93 ∷ 0x95 ∷ 0xb3 ∷ 0x76 ∷ []))

-- of nonce 1
abbrev pub JoinRequests : Type 0
JoinRequests =
    join_request_frame nwk_2.0 (record { join_eui = device.join_eui; dev_eui = device.eui; nonce = record { 0 = 1 } })
    ≡ (0x00 ∷ 0x04 ∷ 0x03 ∷ 0x02 ∷ 0x01 ∷ 0x04 ∷ 0x03 ∷ 0x02 ∷ 0x01 ∷ 0x0d ∷ 0x00 ∷ 0x00 ∷ 0x00 ∷ 0x00 ∷ 0x00 ∷ 0x00 ∷ 0x00 ∷ 0x01 ∷ 0x00 ∷ 0xe4 ∷ 0xb6 ∷ 0x74 ∷ 0x5f ∷ [])

-- of JoinNonce 01 02 03, RX1DROffset 5 and RxDelay 1
abbrev pub accept : Option (List ℕ) → JoinAcceptCreator
accept cflist = record { join_nonce = (0x01 ∷ 0x02 ∷ 0x03 ∷ []); net_id = network.net_id; addr = address; dl_settings = 0x50; rx_delay = 1; cflist = cflist }

abbrev pub JoinAccepts : Type 0
JoinAccepts =
    (join_accept_frame nwk_2.0 (accept None) ≡ (0x20 ∷ 0x47 ∷ 0x95 ∷ 0xe0 ∷ 0x70 ∷ 0xc4 ∷ 0x94 ∷ 0x3f ∷ 0xb9 ∷ 0xbb ∷ 0x6e ∷ 0xcd ∷ 0xf8 ∷ 0x4f ∷ 0x1c ∷ 0x9b ∷ 0xf7 ∷ []))
    × (join_accept_frame nwk_2.0 (accept (Some (0xc0 ∷ 0xc1 ∷ 0xc2 ∷ 0xc3 ∷ 0xc4 ∷ 0xc5 ∷ 0xc6 ∷ 0xc7 ∷ 0xc8 ∷ 0xc9 ∷ 0xca ∷ 0xcb ∷ 0xcc ∷ 0xcd ∷ 0xce ∷ 0xcf ∷ []))) ≡ (0x20 ∷ 0x17 ∷ 0xfa ∷ 0x90 ∷ 0x77 ∷ 0xc1 ∷ 0x73 ∷ 0xb8 ∷ 0xab ∷ 0x42 ∷ 0xd4 ∷ 0x41 ∷ 0xa9 ∷ 0x2e ∷ 0x03 ∷ 0x37 ∷ 0x0e ∷ 0x5e ∷ 0x79 ∷ 0x29 ∷ 0xc5 ∷ 0xb1 ∷ 0x38 ∷ 0x5b ∷ 0x6c ∷ 0xc8 ∷ 0x52 ∷ 0x93 ∷ 0xc8 ∷ 0xc4 ∷ 0x00 ∷ 0xc7 ∷ 0xc5 ∷ []))
