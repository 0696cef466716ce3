-- What is read in a reply.
use Rattle.std.proofs.Common.{◌≡◌, ℕ, ◌^◌, ◌<◌, ◌≤◌, List, Some, true, refl, eq-eqb, nat_lt, slice_index, codes, arith}
use Rattle.std.specs.Str.{IsUtf8}
use Rattle.std.proofs.lemmas.Str.{is_utf8-from_IsUtf8}
use Rattle.std.proofs.lemmas.Bool.Decides.{nat_tests}
use Rattle.serde_json.specs.Data.{Data, depth}
use Rattle.serde_json.specs.Read.{read, max_depth}
use Rattle.ns_roster.specs.Field.{value_of}
use Rattle.ns_joinwire.specs.JoinAns.{joinans}
use Rattle.ns_device.specs.declared.answer.Grant.{Grant}
use Rattle.ns_device.specs.declared.answer.Answer.{Answer}
use Rattle.ns_device.specs.declared.answer.Answer.TheVariants.{Success, MicFailed, Other}
use Rattle.ns_device.specs.Reply.{failed, handed_over, message}
use Rattle.ns_device.specs.Joins.{read_of, BeginsAccept, GrantReadsBack, ReadsBack}

pub value_of-read : (text : List ℕ) (d : Data) → IsUtf8 text → read text ≡ Some d → value_of text ≡ Some d
value_of-read text d utf8 found = rw (is_utf8-from_IsUtf8 text utf8) found

small : (t : ℕ) → t < 2 ^ 32 → nat_lt t (2 ^ 32) ≡ true
small t h = grind (arith, nat_tests)

read-handed_over : (text : List ℕ) (grant : Grant) (t : ℕ) → t < 2 ^ 32 → value_of text ≡ Some (handed_over grant t) → slice_index grant.accept 0 ≡ 0x20 → GrantReadsBack grant
    → joinans text t ≡ read_of (Success grant)
unfolding joinans
read-handed_over text grant t fits value first back =
    rw (value, small t fits, eq-eqb t t refl, back.0.1, back.0.0, first, back.1.1, back.2.1) refl

read-mic_failed : (text : List ℕ) (t : ℕ) → t < 2 ^ 32 → value_of text ≡ Some (failed (codes "MICFailed") t) → joinans text t ≡ read_of MicFailed
unfolding joinans
read-mic_failed text t fits value = rw (value, small t fits, eq-eqb t t refl) refl

read-other : (text : List ℕ) (t : ℕ) → t < 2 ^ 32 → value_of text ≡ Some (failed (codes "Other") t) → joinans text t ≡ read_of Other
unfolding joinans
read-other text t fits value = rw (value, small t fits, eq-eqb t t refl) refl

pub read-message : (answer : Answer) (text : List ℕ) (t : ℕ) → t < 2 ^ 32 → value_of text ≡ Some (message answer t) → BeginsAccept answer → ReadsBack answer → joinans text t ≡ read_of answer
read-message (Success grant) text t fits value first back = read-handed_over text grant t fits value first back
read-message MicFailed text t fits value first back = read-mic_failed text t fits value
read-message Other text t fits value first back = read-other text t fits value

-- a reply nests no deeper than a text that is read may
pub depth-message : (answer : Answer) (t : ℕ) → depth (message answer t) ≤ max_depth
depth-message (Success grant) t = omega arith
depth-message MicFailed t = omega arith
depth-message Other t = omega arith
