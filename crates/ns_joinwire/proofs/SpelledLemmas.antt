-- A text is an answer exactly where it spells one.
use Rattle.std.proofs.Common.{◌≡◌, ℕ, ◌<◌, List, [], ◌∷◌, Bool, true, false, ◌&&◌, Option, Some, None, Ok, option_map, length, refl, ◌∙◌, ap, subst, inl, inr, arith, bytes_eq}
use Rattle.std.specs.Prelude.{Result, if◌then◌else◌, ◌==◌, codes, option_and_then}
use Rattle.std.specs.Option.{ok_or, option_map_or}
use Rattle.std.proofs.lemmas.Bool.{eqb-true}
use Rattle.std.proofs.lemmas.Bool.Decides.{nat_tests}
use Rattle.std.proofs.lemmas.Slice.Eq.{bytes_eq-Decides}
use Rattle.serde_json.specs.Data.{Data}
use Rattle.serde_json.specs.Find.{get}
use Rattle.ns_types.specs.declared.identity.Key.{Key}
use Rattle.ns_types.specs.Results.{unless}
use Rattle.ns_types.proofs.ResultLemmas.{bind-ok, ok_or-ok, unless-ok, bind-some}
use Rattle.ns_calls.specs.declared.call.JoinAns.{JoinAns}
use Rattle.ns_roster.specs.Field.{value_of, text_at, hex_bytes}
use Rattle.ns_exchange.specs.declared.answer.AnsFault.{AnsFault}
use Rattle.ns_exchange.specs.declared.answer.AnsFault.TheVariants.{NotJson, Field, AnotherMessage, Refused, NoJoinAccept, NwkSKey}
use Rattle.ns_exchange.specs.Front.{code_of}
use Rattle.ns_joinwire.specs.JoinAns.{joinans}
use Rattle.ns_joinwire.specs.Parts.{Head, Body, KeyEnvelope, field, transaction_of, result_code_of, head_of, label_of, envelope_of, app_envelope, body_of, is_plain, key_of, nwk_key, app_key, join_accept_of}
use Rattle.ns_joinwire.specs.Spelled.{SpellsKey, SpellsAppSKey, SpellsAnswer, Spells}

Ok-same : (x y : JoinAns) → ◌≡◌ {A = Result JoinAns AnsFault} (Ok x) (Ok y) → x ≡ y
Ok-same x y h = cc

both : (a b : Bool) → (a && b) ≡ true → (a ≡ true) × (b ≡ true)
both true b h = (refl, h)
both false b h = cc

no_label : (label : List ℕ) → (length label == 0) ≡ true → label ≡ []
no_label [] h = refl
no_label (x ∷ xs) h = (let is : length (x ∷ xs) ≡ 0 = eqb-true (length (x ∷ xs)) 0 h in absurd (omega (arith, is)))

some_label : (label : List ℕ) → (length label == 0) ≡ false → 0 < length label
some_label [] h = absurd (cc h)
some_label (x ∷ xs) h = omega arith

-- ---- the parts of a message that are there are what it says

head-says : (message : Data) (h : Head) → head_of message ≡ Some h → (text_at (codes "MessageType") message ≡ Some h.message_type) × (transaction_of message ≡ Some h.transaction) × (result_code_of message ≡ Some h.result_code)
head-says message h is =
    let a = bind-some (text_at (codes "MessageType") message) _ h is in
    let b = bind-some (transaction_of message) _ h a.2 in
    let c = bind-some (result_code_of message) _ h b.2 in
    let made : Head = record { message_type = a.0; transaction = b.0; result_code = c.0 } in
    let same : made ≡ h = cc in
    (a.1 ∙ ap (λ (x : Head). Some x.message_type) same, b.1 ∙ ap (λ (x : Head). Some x.transaction) same, c.1 ∙ ap (λ (x : Head). Some x.result_code) same)

envelope-says : (e : Data) (k : KeyEnvelope) → envelope_of e ≡ Some k → (text_at (codes "AESKey") e ≡ Some k.key) × (label_of e ≡ Some k.label)
envelope-says e k is =
    let a = bind-some (text_at (codes "AESKey") e) _ k is in
    let b = bind-some (label_of e) _ k a.2 in
    let made : KeyEnvelope = record { key = a.0; label = b.0 } in
    let same : made ≡ k = cc in
    (a.1 ∙ ap (λ (x : KeyEnvelope). Some x.key) same, b.1 ∙ ap (λ (x : KeyEnvelope). Some x.label) same)

body-says : (message : Data) (b : Body) → body_of message ≡ Some b → (text_at (codes "PHYPayload") message ≡ Some b.phy_payload) × (option_and_then envelope_of (get (codes "NwkSKey") message) ≡ Some b.nwk) × (app_envelope message ≡ Some b.app)
body-says message b is =
    let p = bind-some (text_at (codes "PHYPayload") message) _ b is in
    let q = bind-some (option_and_then envelope_of (get (codes "NwkSKey") message)) _ b p.2 in
    let r = bind-some (app_envelope message) _ b q.2 in
    let made : Body = record { phy_payload = p.0; nwk = q.0; app = r.0 } in
    let same : made ≡ b = cc in
    (p.1 ∙ ap (λ (x : Body). Some x.phy_payload) same, q.1 ∙ ap (λ (x : Body). Some x.nwk) same, r.1 ∙ ap (λ (x : Body). Some x.app) same)

-- ---- keys

key-says : (text : List ℕ) (k : Key) → key_of text ≡ Some k → hex_bytes 16 text ≡ Some k.0
key-says text k is = step (hex_bytes 16 text) is
  where
    step : (o : Option (List ℕ)) → option_map (λ (bytes : List ℕ). let x : Key = record { 0 = bytes } in x) o ≡ Some k → o ≡ Some k.0
    step None h = cc
    step (Some bytes) h =
        let made : Key = record { 0 = bytes } in
        let same : made ≡ k = cc in
        ap (λ (x : Key). Some x.0) same

key-spelled : (e : Data) (k : KeyEnvelope) (key : Key) → envelope_of e ≡ Some k → is_plain k ≡ true → key_of k.key ≡ Some key → SpellsKey e key
key-spelled e k key is plain spelled =
    let says = envelope-says e k is in
    record { text = k.key; aes_key = says.0; bytes = key-says k.key key spelled; plain = says.1 ∙ ap Some (no_label k.label plain) }

nwk-spelled : (e : Data) (k : KeyEnvelope) (key : Key) → envelope_of e ≡ Some k → nwk_key k ≡ Some key → SpellsKey e key
nwk-spelled e k key is found = step (is_plain k) refl found
  where
    step : (b : Bool) → is_plain k ≡ b → (if b then key_of k.key else None) ≡ Some key → SpellsKey e key
    step true plain h = key-spelled e k key is plain h
    step false wrapped h = cc

app-spelled : (message : Data) (o : Option KeyEnvelope) (key : Option Key) → app_envelope message ≡ Some o → app_key o ≡ Some key → SpellsAppSKey message key
app-spelled message o key is found = step (field (codes "AppSKey") message) refl is
  where
    wrapped_or_plain : (e : Data) (k : KeyEnvelope) → field (codes "AppSKey") message ≡ Some e → envelope_of e ≡ Some k → (b : Bool) → is_plain k ≡ b → (p : Option Key) → key_of k.key ≡ p
        → (if b then option_map Some p else Some None) ≡ Some key → SpellsAppSKey message key
    wrapped_or_plain e k there envelope true plain None spelled h = cc
    wrapped_or_plain e k there envelope true plain (Some app) spelled h =
        let same : Some app ≡ key = cc in
        subst (SpellsAppSKey message) same (e, there, key-spelled e k app envelope plain spelled)
    wrapped_or_plain e k there envelope false wrapped p spelled h =
        let same : None ≡ key = cc in
        let says = envelope-says e k envelope in
        subst (SpellsAppSKey message) same (inr (e, there, record { text = k.key; aes_key = says.0; label = k.label; wrapped = says.1; named = some_label k.label wrapped }))

    in_envelope : (e : Data) → field (codes "AppSKey") message ≡ Some e → (p : Option KeyEnvelope) → envelope_of e ≡ p → option_map Some p ≡ Some o → SpellsAppSKey message key
    in_envelope e there None envelope h = cc
    in_envelope e there (Some k) envelope h =
        let same : Some k ≡ o = cc in
        wrapped_or_plain e k there envelope (is_plain k) refl (key_of k.key) refl (ap app_key same ∙ found)

    step : (f : Option Data) → field (codes "AppSKey") message ≡ f → option_map_or (λ e. option_map Some (envelope_of e)) f (Some None) ≡ Some o → SpellsAppSKey message key
    step None missing h =
        let same : None ≡ o = cc in
        let none : None ≡ key = (let given : app_key None ≡ Some key = ap app_key same ∙ found in cc) in
        subst (SpellsAppSKey message) none (inl missing)
    step (Some e) there h = in_envelope e there (envelope_of e) refl h

-- ---- an answer is spelled

pub answer-spelled : (bytes : List ℕ) (transaction : ℕ) (answer : JoinAns) → joinans bytes transaction ≡ Ok answer → Spells bytes transaction answer
unfolding joinans
answer-spelled bytes transaction answer is =
    let m = bind-ok (ok_or (value_of bytes) NotJson) _ answer is in
    let message : Data = m.0 in
    let h = bind-ok (ok_or (head_of message) Field) _ answer m.2 in
    let head : Head = h.0 in
    let t = bind-ok (unless AnotherMessage (bytes_eq head.message_type (codes "JoinAns") && (head.transaction == transaction))) _ answer h.2 in
    let r = bind-ok (unless (Refused (code_of head.result_code)) (bytes_eq head.result_code (codes "Success"))) _ answer t.2 in
    let b = bind-ok (ok_or (body_of message) Field) _ answer r.2 in
    let body : Body = b.0 in
    let a = bind-ok (ok_or (join_accept_of body.phy_payload) NoJoinAccept) _ answer b.2 in
    let n = bind-ok (ok_or (nwk_key body.nwk) NwkSKey) _ answer a.2 in
    let p = bind-ok (ok_or (app_key body.app) Field) _ answer n.2 in
    let made : JoinAns = record { accept = a.0; nwk = n.0; app = p.0 } in
    let same : made ≡ answer = Ok-same made answer p.2 in
    let says = head-says message head (ok_or-ok (head_of message) Field head h.1) in
    let tests = both (bytes_eq head.message_type (codes "JoinAns")) (head.transaction == transaction) (unless-ok AnotherMessage _ t.0 t.1) in
    let parts = body-says message body (ok_or-ok (body_of message) Field body b.1) in
    let nwk = bind-some (get (codes "NwkSKey") message) envelope_of body.nwk parts.1 in (
      message,
      ok_or-ok (value_of bytes) NotJson message m.1,
      record {
        message_type = says.0 ∙ ap Some ((bytes_eq-Decides head.message_type (codes "JoinAns")).0 tests.0);
        transaction_id = says.1 ∙ ap Some (eqb-true head.transaction transaction tests.1);
        result_code = says.2 ∙ ap Some ((bytes_eq-Decides head.result_code (codes "Success")).0 (unless-ok (Refused (code_of head.result_code)) _ r.0 r.1));
        frame = body.phy_payload;
        phy_payload = parts.0;
        accept = ok_or-ok (join_accept_of body.phy_payload) NoJoinAccept a.0 a.1 ∙ ap (λ (x : JoinAns). Some x.accept) same;
        nwk_envelope = nwk.0;
        nwk_s_key = nwk.1;
        nwk = nwk-spelled nwk.0 body.nwk answer.nwk nwk.2 (ok_or-ok (nwk_key body.nwk) NwkSKey n.0 n.1 ∙ ap (λ (x : JoinAns). Some x.nwk) same);
        app = app-spelled message body.app answer.app parts.2 (ok_or-ok (app_key body.app) Field p.0 p.1 ∙ ap (λ (x : JoinAns). Some x.app) same);
      },
    )

-- ---- what is spelled is an answer

envelope-from : (e : Data) (text label : List ℕ) → text_at (codes "AESKey") e ≡ Some text → label_of e ≡ Some label → envelope_of e ≡ Some (record { key = text; label = label })
envelope-from e text label key labelled = rw (key, labelled) refl

key-from : (text : List ℕ) (k : Key) → hex_bytes 16 text ≡ Some k.0 → key_of text ≡ Some k
key-from text k is = rw is refl

app-from : (message : Data) (key : Option Key) → SpellsAppSKey message key → (o : Option KeyEnvelope) × (app_envelope message ≡ Some o) × (app_key o ≡ Some key)
app-from message (Some key) (e, there, spelled) =
    let k : KeyEnvelope = record { key = spelled.text; label = [] } in
    (Some k, rw (there, envelope-from e spelled.text [] spelled.aes_key spelled.plain) refl, ap (option_map Some) (key-from spelled.text key spelled.bytes))
app-from message None (inl missing) = (None, rw missing refl, refl)
app-from message None (inr (e, there, spelled)) =
    let k : KeyEnvelope = record { key = spelled.text; label = spelled.label } in
    (Some k, rw (there, envelope-from e spelled.text spelled.label spelled.aes_key spelled.wrapped) refl, wrapped spelled.label spelled.named)
  where
    wrapped : (label : List ℕ) → 0 < length label → (if length label == 0 then option_map Some (key_of spelled.text) else Some None) ≡ Some None
    wrapped label named = (let apart : (length label == 0) ≡ false = grind (arith, nat_tests, named) in ap (λ b. if b then option_map Some (key_of spelled.text) else Some None) apart)

head-from : (message : Data) (transaction : ℕ) (answer : JoinAns) → SpellsAnswer message transaction answer → head_of message ≡ Some (record { message_type = codes "JoinAns"; transaction = transaction; result_code = codes "Success" })
head-from message transaction answer spelled = rw (spelled.message_type, spelled.transaction_id, spelled.result_code) refl

body-from : (message : Data) (transaction : ℕ) (answer : JoinAns) → (spelled : SpellsAnswer message transaction answer) → (o : Option KeyEnvelope) → app_envelope message ≡ Some o
    → body_of message ≡ Some (record { phy_payload = spelled.frame; nwk = record { key = spelled.nwk.text; label = [] }; app = o })
body-from message transaction answer spelled o app =
    rw (spelled.phy_payload, spelled.nwk_s_key, envelope-from spelled.nwk_envelope spelled.nwk.text [] spelled.nwk.aes_key spelled.nwk.plain, app) refl

pub spelled-answer : (bytes : List ℕ) (transaction : ℕ) (answer : JoinAns) → Spells bytes transaction answer → joinans bytes transaction ≡ Ok answer
unfolding joinans
spelled-answer bytes transaction answer (message, value, spelled) =
    let app = app-from message answer.app spelled.app in
    let same : (transaction == transaction) ≡ true = grind (arith, nat_tests) in
    rw (value, head-from message transaction answer spelled, same, body-from message transaction answer spelled app.0 app.1, spelled.accept, key-from spelled.nwk.text answer.nwk spelled.nwk.bytes, app.2) refl
