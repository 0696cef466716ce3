-- Every merge of the shards' histories is a history of the plain server.
use Rattle.std.proofs.Common.{◌≡◌, ℕ, zero, suc, ◌==◌, cond, List, [], ◌∷◌, ◌++◌, length, take, drop, option_map, Some, IfSome, slice_get, slice_set, refl, ap, sym, ◌∙◌, subst, arith, inl, inr}
use Rattle.std.specs.List.{AllByRecursion, Contains}
use Rattle.std.proofs.lemmas.List.Elements.{filter-append}
use Rattle.std.proofs.lemmas.Bool.{eq-eqb, cases_eq}
use Rattle.ns_types.specs.Identity.{shard_of}
use Rattle.ns_roster.specs.Network.{Network}
use Rattle.ns_roster.specs.Valid.{IsRoster}
use Rattle.ns_roster.proofs.DeviceLemmas.{shard_of_device}
use Rattle.ns_calls.specs.declared.call.Call.{Call}
use Rattle.ns_calls.specs.declared.call.Reply.{Reply}
use Rattle.ns_calls.specs.declared.answer.Answer.{Answer}
use Rattle.ns_calls.specs.declared.call.Entry.{Entry}
use Rattle.ns_calls.specs.Reply.{reply_to}
use Rattle.ns_calls.specs.Out.{uplink_out, downlink_out, answer}
use Rattle.ns_calls.specs.Shards.{shard_of_call, of_shard, IsMerge, AreOfTheirShard, NamesOwnDevice}
use Rattle.ns_calls.specs.Legal.{IsLegal, IsHistory}
use Rattle.ns_calls.specs.Queries.{first}
use Rattle.ns_calls.specs.Entries.{Opening, open_windows}
use Rattle.ns_calls.specs.Headline.{oldest}
use Rattle.ns_calls.specs.Merges.{AreHistories, MergesAreLegal, Sent, out}
use Rattle.ns_calls.proofs.Induction.{get_seam}
use Rattle.ns_calls.proofs.MergeLemmas.{filter-merge, own_rest, slice_get-set_other}
use Rattle.ns_calls.proofs.ShardLemmas.{Housed, AllHoused, InShard, IsOwn, open_windows-mine}
use Rattle.ns_calls.proofs.PartLemmas.{legal-housed, reply-own, out-own}

split_at : (xs : List Entry) (n : ℕ) (e : Entry) → slice_get xs n ≡ Some e → xs ≡ take n xs ++ e ∷ drop (suc n) xs
split_at [] n e at = absurd (cc at)
split_at (x ∷ xs) zero e at = cc
split_at (x ∷ xs) (suc n) e at = ap (λ l. x ∷ l) (split_at xs n e at)

-- of a list by its places
pub by_place : (P : Entry → Type 0) (xs : List Entry) → ((n : ℕ) (e : Entry) → slice_get xs n ≡ Some e → P e) → AllByRecursion P xs
by_place P [] each = tt
by_place P (x ∷ xs) each = (each zero x refl, by_place P xs (λ n e at. each (suc n) e at))

pub at_place : (P : Entry → Type 0) (xs : List Entry) → AllByRecursion P xs → (n : ℕ) (e : Entry) → slice_get xs n ≡ Some e → P e
at_place P [] all n e at = absurd (cc at)
at_place P (x ∷ xs) all zero e at = (let same : x ≡ e = cc in subst P same all.0)
at_place P (x ∷ xs) all (suc n) e at = at_place P xs all.1 n e at

pub All-take : (P : Entry → Type 0) (n : ℕ) (xs : List Entry) → AllByRecursion P xs → AllByRecursion P (take n xs)
All-take P zero xs all = tt
All-take P (suc n) [] all = tt
All-take P (suc n) (x ∷ xs) all = (all.0, All-take P n xs all.1)

-- what holds of all that a list contains
All-contained : {X : Type 0} (P : X → Type 0) (xs : List X) → ((x : X) → Contains xs x → P x) → AllByRecursion P xs
All-contained P [] each = tt
All-contained P (x ∷ xs) each = (each x (0, omega arith, refl), All-contained P xs (λ y has. each y (suc has.0, omega (arith, has.1), has.2)))

of_their_shard : (net : Network) (lists : List (List Entry)) → AreHistories net lists → AreOfTheirShard (λ e. shard_of_call e.call) lists
of_their_shard net lists all k part at = by_place (λ e. shard_of_call e.call ≡ k) part (all k part at).own

-- each entry of a merge is of one of the shards
home_of : (merged : List Entry) (lists : List (List Entry)) → AreOfTheirShard (λ (e : Entry). shard_of_call e.call) lists → IsMerge lists merged → (n : ℕ) (e : Entry) → slice_get merged n ≡ Some e → (h : List Entry) × (slice_get lists (shard_of_call e.call) ≡ Some h)
home_of [] lists own merge n e at = absurd (cc at)
home_of (x ∷ xs) lists own merge zero e at =
    let same : x ≡ e = cc in
    let of : shard_of_call x.call ≡ merge.0 = (own merge.0 (x ∷ merge.1) merge.2).0 in
    (x ∷ merge.1, subst (λ (y : Entry). slice_get lists (shard_of_call y.call) ≡ Some (x ∷ merge.1)) same (subst (λ i. slice_get lists i ≡ Some (x ∷ merge.1)) (sym of) merge.2))
home_of (x ∷ xs) lists own merge (suc n) e at =
    let found = home_of xs (slice_set lists merge.0 merge.1) (own_rest (λ (y : Entry). shard_of_call y.call) lists merge.0 x merge.1 merge.2 own) merge.3 n e at in
    elim (cases_eq (shard_of_call e.call) merge.0) [
      | inl same ↦ (x ∷ merge.1, subst (λ i. slice_get lists i ≡ Some (x ∷ merge.1)) (sym same) merge.2)
      | inr differs ↦ (found.0, sym (slice_get-set_other lists merge.0 (shard_of_call e.call) merge.1 differs) ∙ found.1)
    ]

-- an entry of a merge stands in its own shard's history at its number, and before it stands there what the merge has of the shard before it
record StandsAt (lists : List (List Entry)) (merged : List Entry) (n : ℕ) (e : Entry) (h : List Entry) : Type 0 where
  home : slice_get lists (shard_of_call e.call) ≡ Some h
  here : slice_get h e.number ≡ Some e
  before : take e.number h ≡ of_shard (shard_of_call e.call) (take n merged)

stands : (net : Network) (lists : List (List Entry)) (merged : List Entry) → AreHistories net lists → IsMerge lists merged → (n : ℕ) (e : Entry) → slice_get merged n ≡ Some e → (h : List Entry) × StandsAt lists merged n e h
stands net lists merged all merge n e at =
    let k : ℕ = shard_of_call e.call in
    let own = of_their_shard net lists all in
    let home = home_of merged lists own merge n e at in
    let h : List Entry = home.0 in
    let whole : of_shard k merged ≡ h = filter-merge (λ (x : Entry). shard_of_call x.call) merged lists merge own k h home.1 in
    let front : List Entry = of_shard k (take n merged) in
    let back : List Entry = of_shard k (drop (suc n) merged) in
    let seam : of_shard k (e ∷ drop (suc n) merged) ≡ e ∷ back = ap (λ b. cond {A = List Entry} b (e ∷ back) back) (eq-eqb k k refl) in
    let cut : of_shard k merged ≡ front ++ e ∷ back = ap (of_shard k) (split_at merged n e at) ∙ (filter-append (λ (x : Entry). shard_of_call x.call == k) (take n merged) (e ∷ drop (suc n) merged) ∙ ap (λ l. front ++ l) seam) in
    let is : h ≡ front ++ e ∷ back = sym whole ∙ cut in
    let there : slice_get h (length front) ≡ Some e = ap (λ l. slice_get l (length front)) is ∙ (get_seam front back e).0 in
    let number : e.number ≡ length front = (all k h home.1).numbered (length front) e there in (
      h,
      record {
        home = home.1;
        here = ap (slice_get h) number ∙ there;
        before = ap (λ i. take i h) number ∙ (ap (take (length front)) is ∙ (get_seam front back e).1);
      },
    )

-- each entry of a merge names a device of its own shard, since it does in its own history
housed : (net : Network) → AllByRecursion (InShard net) net.devices → (lists : List (List Entry)) (merged : List Entry) → AreHistories net lists → IsMerge lists merged → AllHoused merged
housed net own lists merged all merge =
    by_place Housed merged
    (λ n e at.
    let s = stands net lists merged all merge n e at in
    at_place Housed s.0 (legal-housed net own s.0 (all (shard_of_call e.call) s.0 s.1.home).legal) e.number e s.1.here)

pub merges_legal : (net : Network) → AllByRecursion (InShard net) net.devices → (lists : List (List Entry)) → AreHistories net lists → MergesAreLegal net lists
merges_legal net own lists all merged merge = (
  (λ n e at.
      let s = stands net lists merged all merge n e at in
      let before : AllHoused (take n merged) = All-take Housed n merged (housed net own lists merged all merge) in
      (all (shard_of_call e.call) s.0 s.1.home).legal e.number e s.1.here
      ∙ (ap (λ l. reply_to net l e.call) s.1.before
      ∙ reply-own net own (take n merged) before e.call)),
  (λ n e at.
      let s = stands net lists merged all merge n e at in
      let before : AllHoused (take n merged) = All-take Housed n merged (housed net own lists merged all merge) in
      (s.0, s.1.home, s.1.here, sym (out-own net (take n merged) before e) ∙ ap (λ l. out net l e) (sym s.1.before))),
)

-- ---- of a valid roster

pub in_shards : (net : Network) → IsRoster net → AllByRecursion (InShard net) net.devices
in_shards net valid = All-contained (InShard net) net.devices (λ d has. shard_of_device net valid d has)

pub merges_are_legal : (net : Network) → IsRoster net → (lists : List (List Entry)) → AreHistories net lists → MergesAreLegal net lists
merges_are_legal net valid lists all = merges_legal net (in_shards net valid) lists all

pub replies_name_own_devices : (net : Network) → IsRoster net → (h : List Entry) → IsLegal net h → (n : ℕ) (e : Entry) → slice_get h n ≡ Some e → NamesOwnDevice e.call e.reply
replies_name_own_devices net valid h legal n e at = at_place Housed h (legal-housed net (in_shards net valid) h legal) n e at

first_own : (k : ℕ) (os : List Opening) → AllByRecursion (IsOwn k) os → IfSome (option_map (λ o. o.window) (first os)) (λ w. shard_of w.eui ≡ k)
first_own k [] all = tt
first_own k (o ∷ os) all = all.0

-- the window of a shard that was opened first is of that shard
pub oldest_own : (net : Network) → IsRoster net → (k : ℕ) (h : List Entry) → IsHistory net k h → IfSome (oldest h) (λ w. shard_of w.eui ≡ k)
oldest_own net valid k h history =
    let mine : (n : ℕ) (e : Entry) → slice_get h n ≡ Some e → Housed e × (shard_of_call e.call ≡ k) = λ n e at. (replies_name_own_devices net valid h history.legal n e at, history.own n e at) in
    first_own k (open_windows h) (open_windows-mine k h (by_place (λ e. Housed e × (shard_of_call e.call ≡ k)) h mine))

pub a_shard_answers_alone : (net : Network) → IsRoster net → (h : List Entry) → IsLegal net h → (c : Call) → answer net (of_shard (shard_of_call c) h) c ≡ answer net h c
a_shard_answers_alone net valid h legal c =
    let own = in_shards net valid in
    let housed = legal-housed net own h legal in
    let part : List Entry = of_shard (shard_of_call c) h in
    let reply = reply-own net own h housed c in
    let with_reply : List Entry → Reply → Answer = λ g r. record { reply = r; uplink = uplink_out g c r; downlink = downlink_out net g c r } in
    let sent = out-own net h housed (record { number = 0; call = c; reply = reply_to net h c }) in
    ap (with_reply part) reply ∙ ap (λ (s : Sent). let a : Answer = record { reply = reply_to net h c; uplink = s.uplink; downlink = s.downlink } in a) sent
