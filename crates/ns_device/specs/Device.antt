-- What a device knows, and the frames that it sends (LoRaWAN L2 1.0.4, 4 and 6.2).
use Rattle.std.specs.Prelude.{ℕ, Bool, List, [], Option, None, Some}
use Rattle.ns_types.specs.declared.identity.DevEui.{DevEui}
use Rattle.ns_types.specs.declared.identity.JoinEui.{JoinEui}
use Rattle.ns_types.specs.declared.identity.DevNonce.{DevNonce}
use Rattle.ns_types.specs.declared.identity.Key.{Key}
use Rattle.ns_views.specs.Grammar.{IsDataUplink}
use Rattle.ns_secure.specs.declared.Dir.TheVariants.{Up}
use Rattle.ns_creator.specs.declared.keys.Keys.{Keys}
use Rattle.ns_creator.specs.declared.join.JoinRequestCreator.{JoinRequestCreator}
use Rattle.ns_creator.specs.declared.fault.CreateFault.{CreateFault}
use Rattle.ns_creator.specs.DataFrame.{PlainFrame, data_fault, data_frame, written_fields}
use Rattle.ns_device.specs.declared.fault.DeviceFault.{DeviceFault}
use Rattle.ns_device.specs.declared.fault.DeviceFault.TheVariants.{NoSession, Create}
use Rattle.ns_device.specs.declared.device.TestDevice.{TestDevice}
use Rattle.ns_device.specs.declared.session.Session.{Session}

-- a device, as contracts see it: its identity, AppKey, and the session that it has, if any
pub record Device : Type 0 where
  pub dev_eui : DevEui
  pub join_eui : JoinEui
  pub app_key : Key
  pub session : Option Session

abbrev pub device_of : TestDevice → Device
device_of d = record { dev_eui = d.dev_eui; join_eui = d.join_eui; app_key = d.app_key; session = d.session }

-- the Join-Request with this nonce
abbrev pub request : Device → DevNonce → JoinRequestCreator
request d nonce = record { join_eui = d.join_eui; dev_eui = d.dev_eui; nonce = nonce }

-- the keys of its frames in a session
abbrev pub session_keys_of : Device → Session → Keys
session_keys_of d s = record { nwk = s.nwk; app = s.app; root = d.app_key }

-- an uplink without options or flags
abbrev pub uplink_of : Session → ℕ → Bool → Option ℕ → List ℕ → PlainFrame
uplink_of s counter confirmed port plain = record { dir = Up; confirmed = confirmed; addr = s.addr.0; flags = 0; counter = counter; fopts = []; port = port; payload = plain }

-- its frame is a data uplink of the grammar, with these fields
abbrev pub IsSent : Keys → PlainFrame → Type 0
IsSent keys p = IsDataUplink (data_frame keys p) (written_fields keys p)

-- a creator's fault as the device's
abbrev pub create_fault : Option CreateFault → Option DeviceFault
create_fault None = None
create_fault (Some fault) = Some (Create fault)

-- the fault of an uplink that can't be sent from here into a buffer with this room
abbrev pub uplink_fault : Device → ℕ → Bool → Option ℕ → List ℕ → ℕ → Option DeviceFault
uplink_fault d counter confirmed port plain room = session_fault d.session
  where
    session_fault : Option Session → Option DeviceFault
    session_fault None = Some NoSession
    session_fault (Some s) = create_fault (data_fault (uplink_of s counter confirmed port plain) room)
