-- A written frame is one of the grammar, with the fields that were written.
use Rattle.std.proofs.Common.{◌≡◌, ℕ, ◌%◌, ◌^◌, ◌<◌, ◌≤◌, Bool, true, false, List, [], ◌∷◌, ◌++◌, length, Option, None, Some, IfSome, IfNone, refl, ap, sym, subst, ◌∙◌, arith}
use Rattle.std.proofs.lemmas.List.Elements.{All-head, All-tail}
use Rattle.std.specs.Int.{w16, w32, to_le_bytes}
use Rattle.ns_types.proofs.ByteLemmas.{AreBytes-front, AreBytes-back}
use Rattle.ns_types.specs.Bytes.{AreBytes}
use Rattle.ns_aes_cmac.specs.Aes.{xor_bytes}
use Rattle.ns_views.specs.Grammar.{DataFields, IsDataFrame, IsJoinRequest, frame_before_mic, mhdr, ported}
use Rattle.ns_secure.specs.Integrity.{mic, join_mic}
use Rattle.ns_secure.specs.declared.Dir.{Dir}
use Rattle.ns_secure.specs.declared.Dir.TheVariants.{Up, Down}
use Rattle.ns_secure.specs.Cipher.{cipher}
use Rattle.ns_creator.specs.declared.keys.Keys.{Keys}
use Rattle.ns_creator.specs.declared.join.JoinRequestCreator.{JoinRequestCreator}
use Rattle.ns_creator.specs.JoinFrame.{request_before_mic, request_fields}
use Rattle.ns_creator.specs.DataFrame.{PlainFrame, AreFlags, data_type, written_fields, data_mic, data_before_mic, lacks_port}

-- an empty payload stays empty
cipher-empty : (key : List ℕ) (dir : Dir) (addr counter : ℕ) → cipher key dir addr counter [] ≡ []
unfolding xor_bytes
cipher-empty key dir addr counter = refl

no_payload : (port : Option ℕ) (payload : List ℕ) (key : List ℕ) (dir : Dir) (addr counter : ℕ) → lacks_port port payload ≡ false → IfNone port (cipher key dir addr counter payload ≡ [])
no_payload None [] key dir addr counter h = cipher-empty key dir addr counter
no_payload None (b ∷ payload) key dir addr counter h = absurd (cc h)
no_payload (Some port) payload key dir addr counter h = tt

data_type-range : (dir : Dir) (confirmed : Bool) → (2 ≤ data_type dir confirmed) × (data_type dir confirmed ≤ 5)
data_type-range Up false = (omega arith, omega arith)
data_type-range Up true = (omega arith, omega arith)
data_type-range Down false = (omega arith, omega arith)
data_type-range Down true = (omega arith, omega arith)

port-fits : (port : Option ℕ) (payload : List ℕ) → AreBytes (ported port payload) → IfSome port (λ n. n < 256)
port-fits None payload h = tt
port-fits (Some port) payload h = All-head (λ b. b < 256) port payload h

payload-fits : (port : Option ℕ) (payload : List ℕ) → IfNone port (payload ≡ []) → AreBytes (ported port payload) → AreBytes payload
payload-fits None payload e h = subst AreBytes (sym e) h
payload-fits (Some port) payload e h = All-tail (λ b. b < 256) port payload h

-- the frame with these fields, where they fit
IsDataFrame-parts : (d : DataFields) → (2 ≤ d.ftype) × (d.ftype ≤ 5) → d.addr < 2 ^ 32 → d.fcnt16 < 2 ^ 16 → length d.fopts ≡ d.fctrl % 16 → IfNone d.port (d.payload ≡ []) → length d.mic ≡ 4 → AreBytes (frame_before_mic 0 d ++ d.mic) → length (frame_before_mic 0 d ++ d.mic) ≤ 255 → IsDataFrame (frame_before_mic 0 d ++ d.mic) d
IsDataFrame-parts d ftype addr fcnt fopts no_port mic bytes size =
    let head = mhdr d.ftype 0 ∷ to_le_bytes w32 d.addr in
    let counted = d.fctrl ∷ to_le_bytes w16 d.fcnt16 in
    let before : AreBytes (frame_before_mic 0 d) = AreBytes-front (frame_before_mic 0 d) d.mic bytes in
    let behind : AreBytes (counted ++ d.fopts ++ ported d.port d.payload) = AreBytes-back head (counted ++ d.fopts ++ ported d.port d.payload) before in
    let up_to_options : AreBytes (counted ++ d.fopts) = AreBytes-front (counted ++ d.fopts) (ported d.port d.payload) behind in
    let with_port : AreBytes (ported d.port d.payload) = AreBytes-back (counted ++ d.fopts) (ported d.port d.payload) behind in
    record {
      parts = (0, omega arith, refl);
      ftype = ftype;
      addr = addr;
      fctrl = All-head (λ b. b < 256) d.fctrl (to_le_bytes w16 d.fcnt16) (AreBytes-front counted d.fopts up_to_options);
      fcnt16 = fcnt;
      fopts = fopts;
      fopts_bytes = AreBytes-back counted d.fopts up_to_options;
      port = port-fits d.port d.payload with_port;
      no_port = no_port;
      payload_bytes = payload-fits d.port d.payload no_port with_port;
      mic = mic;
      mic_bytes = AreBytes-back (frame_before_mic 0 d) d.mic bytes;
      size = size;
    }

-- a written data frame, made of what is before its MIC and of its MIC
pub IsDataFrame-written : (keys : Keys) (p : PlainFrame) (before written_mic : List ℕ) → before ≡ data_before_mic keys p → written_mic ≡ mic keys.nwk.0 p.dir p.addr p.counter before →
    AreFlags p.dir p.flags → length p.fopts ≤ 15 → lacks_port p.port p.payload ≡ false → p.addr < 2 ^ 32 → length written_mic ≡ 4 → AreBytes (before ++ written_mic) → length (before ++ written_mic) ≤ 255 →
    IsDataFrame (before ++ written_mic) (written_fields keys p)
IsDataFrame-written keys p before written_mic e f flags options has_port addr four bytes size =
    let mic_is : written_mic ≡ data_mic keys p = f ∙ ap (mic keys.nwk.0 p.dir p.addr p.counter) e in
    let Frame : List ℕ → List ℕ → Type 0 = λ b m. IsDataFrame (b ++ m) (written_fields keys p) in
    let four' : length (data_mic keys p) ≡ 4 = subst (λ m. length m ≡ 4) mic_is four in
    let bytes' : AreBytes (data_before_mic keys p ++ data_mic keys p) = subst (λ b. AreBytes (b ++ data_mic keys p)) e (subst (λ m. AreBytes (before ++ m)) mic_is bytes) in
    let size' : length (data_before_mic keys p ++ data_mic keys p) ≤ 255 = subst (λ b. length (b ++ data_mic keys p) ≤ 255) e (subst (λ m. length (before ++ m) ≤ 255) mic_is size) in
    rw (mic_is, e) (IsDataFrame-parts (written_fields keys p) (data_type-range p.dir p.confirmed) addr (omega arith) (omega (arith, flags.0))
    (no_payload p.port p.payload _ p.dir p.addr p.counter has_port) four' bytes' size')

-- a written Join-Request, made likewise
pub IsJoinRequest-written : (app_key : List ℕ) (r : JoinRequestCreator) (before written_mic : List ℕ) → before ≡ request_before_mic r → written_mic ≡ join_mic app_key before →
    r.join_eui.0 < 2 ^ 64 → r.dev_eui.0 < 2 ^ 64 → r.nonce.0 < 2 ^ 16 → length written_mic ≡ 4 → AreBytes (before ++ written_mic) →
    IsJoinRequest (before ++ written_mic) (request_fields app_key r)
IsJoinRequest-written app_key r before written_mic e f join_eui dev_eui nonce four bytes =
    let mic_is : written_mic ≡ join_mic app_key (request_before_mic r) = f ∙ ap (join_mic app_key) e in
    record {
      parts = (0, omega arith, rw (mic_is, e) refl);
      join_eui = join_eui;
      dev_eui = dev_eui;
      nonce = nonce;
      mic = rw (← mic_is) four;
      mic_bytes = rw (← mic_is) (AreBytes-back before written_mic bytes);
    }
