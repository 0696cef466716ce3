-- What a gateway worker has done, turn by turn.
use Rattle.std.proofs.Common.{◌≡◌, ◌≢◌, ℕ, ◌+◌, ◌^◌, ◌<◌, ◌≤◌, true, false, List, [], ◌∷◌, ◌++◌, take, Option, None, Some, Ok, Err, refl, sym, ap, ◌∙◌, subst, arith, length-append, append-nil}
use Rattle.std.specs.Prelude.{is_some, count_by, flat_map}
use Rattle.std.proofs.lemmas.List.Concat.{flat_map-append}
use Rattle.ns_calls.specs.declared.call.Call.{Call}
use Rattle.ns_calls.specs.declared.call.Reply.{Reply}
use Rattle.ns_calls.specs.declared.call.Reply.TheVariants as reply
use Rattle.ns_roster.specs.Network.{Network}
use Rattle.ns_output.specs.declared.output.Output.{Output}
use Rattle.ns_outside.specs.declared.receipt.Receipt.{Receipt}
use Rattle.ns_outside.specs.declared.fault.Refused.{Refused}
use Rattle.ns_workers.specs.declared.gateway.Served.{Served}
use Rattle.ns_outside.specs.declared.job.Job.{Job}
use Rattle.ns_outside.specs.declared.traits.Received.TheVariants.{Got, Idle, End, Failed}
use Rattle.ns_outside.specs.declared.fault.WorkerFault.{WorkerFault}
use Rattle.ns_outside.specs.declared.fault.WorkerFault.TheVariants.{NoMemory, SourceFailed, SinkFailed}
use Rattle.ns_outside.specs.Given.{Given, Gave}
use Rattle.ns_outside.specs.Datagrams.{TakesDatagram}
use Rattle.ns_workers.specs.Effects.{Effects, Does}
use Rattle.ns_outside.specs.Job.{job_of}
use Rattle.ns_workers.specs.Job.{call_at_once}
use Rattle.ns_outside.specs.Notice.{Notice, datagram_refused, call_dropped}
use Rattle.ns_workers.specs.Serving.{call_in, refused, dropped, called, nothing, put, done_itself, undone, Follows, IsDue, IsTurn, Serves, ServesAll, none_served, undone_at, was_refused, was_dropped, left_undone, receipts_of, own_of, put_by, own_in, put_in}
use Rattle.ns_workers.proofs.Counting.{count_by_both}
use Rattle.ns_workers.proofs.Doings.{zip_both, none_is_no_fault, does_none, does_both, does_with}
use Rattle.ns_workers.proofs.Sources.{Holds, holds_none, holds_more, holds_same, gave_end, gave_full, gave_broken, gave_fault}

-- ---- what follows a call

pub follows_put : (net : Network) (out : Output) (h : Notice → Type 0) (job : Job) (e f : Effects) → Does net out h None e f [] [] (job ∷ []) → Follows net out h job None e f
follows_put net out h job e f did = record { followed = put job; job_is = refl; right = tt; undone = refl; does = did }

pub follows_itself : (net : Network) (out : Output) (h : Notice → Type 0) (job : Job) (own : Receipt) (e f : Effects)
    → own.entry.call ≡ call_at_once job → Does net out h None e f (own ∷ []) (own ∷ []) [] → Follows net out h job None e f
follows_itself net out h job own e f call did = record { followed = done_itself job own; job_is = refl; right = call; undone = refl; does = did }

pub follows_unsent : (net : Network) (out : Output) (h : Notice → Type 0) (job : Job) (own : Receipt) (e f : Effects)
    → own.entry.call ≡ call_at_once job → Does net out h (Some SinkFailed) e f (own ∷ []) (own ∷ []) [] → Follows net out h job (Some SinkFailed) e f
follows_unsent net out h job own e f call did = record { followed = done_itself job own; job_is = refl; right = call; undone = refl; does = did }

pub follows_undone : (net : Network) (out : Output) (h : Notice → Type 0) (job : Job) (e f : Effects)
    → Does net out h (Some NoMemory) e f [] [] [] → Follows net out h job (Some NoMemory) e f
follows_undone net out h job e f did = record { followed = undone job; job_is = refl; right = tt; undone = refl; does = did }

-- ---- one datagram

does_same : (net : Network) (out : Output) (h : Notice → Type 0) (f : Option WorkerFault) (a b : Effects) (rs rs' own own' : List Receipt) (js js' : List Job)
    → rs ≡ rs' → own ≡ own' → js ≡ js' → Does net out h f a b rs own js → Does net out h f a b rs' own' js'
does_same net out h f a b rs rs' own own' js js' same same' same'' did =
    subst (λ l. Does net out h f a b rs' own' l) same'' (subst (λ l. Does net out h f a b rs' l js) same' (subst (λ l. Does net out h f a b l own js) same did))

-- how the counts of a worker change with a turn
abbrev pub Counts : Served → Served → ℕ → ℕ → Type 0
Counts old new refusals drops = (new.read ≡ old.read + 1) × (new.refused ≡ old.refused + refusals) × (new.dropped ≡ old.dropped + drops)

pub serves_refused : (net : Network) (out : Output) (h : Notice → Type 0) (t : ℕ → Type 0) (w : ℕ) (s s' : Served) (e : Effects) (bytes : List ℕ) (why : Refused)
    → Counts s s' 1 0 → s'.fault ≡ None → call_in bytes ≡ Err why → h (datagram_refused why) → Serves net out h t w s s' e e (bytes ∷ [])
serves_refused net out h t w s s' e bytes why counts none call told = record {
  turns = refused why ∷ [];
  each = ((call, told), tt);
  read = counts.0;
  refused = counts.1;
  dropped = counts.2;
  undone = sym (ap undone_at none);
  does = does_none net out h s'.fault e;
}

pub serves_dropped : (net : Network) (out : Output) (h : Notice → Type 0) (t : ℕ → Type 0) (w : ℕ) (s s' : Served) (e : Effects) (bytes : List ℕ) (call : Call)
    → Counts s s' 0 1 → s'.fault ≡ None → call_in bytes ≡ Ok call → h call_dropped → Serves net out h t w s s' e e (bytes ∷ [])
serves_dropped net out h t w s s' e bytes call counts none is told = record {
  turns = dropped ∷ [];
  each = (((call, is), told), tt);
  read = counts.0;
  refused = counts.1;
  dropped = counts.2;
  undone = sym (ap undone_at none);
  does = does_none net out h s'.fault e;
}

-- a job follows a reply at each time or at none
none_at_any : (reply : Reply) (w told : ℕ) → job_of reply told w ≡ None → (now : ℕ) → job_of reply now w ≡ None
none_at_any (reply.Opened window) w told none now = absurd cc
none_at_any (reply.Again window) w told none now = absurd cc
none_at_any (reply.Ask ticket) w told none now = absurd cc
none_at_any _ w told none now = none

pub due_at_told : (t : ℕ → Type 0) (w : ℕ) (reply : Reply) (now : ℕ) (job : Option Job) → t now → job ≡ job_of reply now w → IsDue t w reply job
due_at_told t w reply now None told is = none_at_any reply w now (sym is)
due_at_told t w reply now (Some job) told is = (now, told, sym is)

pub serves_called : (net : Network) (out : Output) (h : Notice → Type 0) (t : ℕ → Type 0) (w : ℕ) (s s' : Served) (e f : Effects) (bytes : List ℕ) (r : Receipt)
    → Counts s s' 0 0 → s'.fault ≡ None → call_in bytes ≡ Ok r.entry.call → IsDue t w r.entry.reply None
    → Does net out h None e f (r ∷ []) [] [] → Serves net out h t w s s' e f (bytes ∷ [])
serves_called net out h t w s s' e f bytes r counts none is due did = record {
  turns = called r nothing ∷ [];
  each = ((is, due, tt), tt);
  read = counts.0;
  refused = counts.1;
  dropped = counts.2;
  undone = sym (ap undone_at none);
  does = does_with net out h s'.fault e f (r ∷ []) [] [] did;
}

pub serves_followed : (net : Network) (out : Output) (h : Notice → Type 0) (t : ℕ → Type 0) (w : ℕ) (s s' : Served) (e f g : Effects) (bytes : List ℕ) (r : Receipt) (job : Job)
    → Counts s s' 0 0 → call_in bytes ≡ Ok r.entry.call → IsDue t w r.entry.reply (Some job)
    → Does net out h None e f (r ∷ []) [] [] → Follows net out h job s'.fault f g → Serves net out h t w s s' e g (bytes ∷ [])
serves_followed net out h t w s s' e f g bytes r job counts is due did follows =
    let own = own_in follows.followed in
    let js = put_in follows.followed in
    let u = follows.undone in
    record {
      turns = called r follows.followed ∷ [];
      each = ((is, subst (λ j. IsDue t w r.entry.reply j) (sym follows.job_is) due, follows.right), tt);
      read = counts.0;
      refused = counts.1;
      dropped = counts.2;
      undone = omega (arith, u);
      does = does_same net out h s'.fault e g (r ∷ own) ((r ∷ own) ++ []) own (own ++ []) js (js ++ [])
          (sym (append-nil (r ∷ own))) (sym (append-nil own)) (sym (append-nil js))
          (does_both net out h s'.fault e f g (r ∷ []) own [] own [] js did follows.does);
    }

-- ---- datagrams after datagrams

serves_none : (net : Network) (out : Output) (h : Notice → Type 0) (t : ℕ → Type 0) (w : ℕ) (s : Served) (e : Effects) → s.fault ≡ None → Serves net out h t w s s e e []
serves_none net out h t w s e none = record {
  turns = [];
  each = tt;
  read = omega arith;
  refused = omega arith;
  dropped = omega arith;
  undone = sym (ap undone_at none);
  does = does_none net out h s.fault e;
}

serves_both : (net : Network) (out : Output) (h : Notice → Type 0) (t : ℕ → Type 0) (w : ℕ) (s s' s'' : Served) (e f g : Effects) (xs ys : List (List ℕ))
    → s'.fault ≡ None → Serves net out h t w s s' e f xs → Serves net out h t w s' s'' f g ys → Serves net out h t w s s'' e g (xs ++ ys)
serves_both net out h t w s s' s'' e f g xs ys none first second =
    let ts = first.turns in
    let us = second.turns in
    let long = length-append xs ys in
    let refusals = count_by_both was_refused ts us in
    let drops = count_by_both was_dropped ts us in
    let left = count_by_both left_undone ts us in
    let r1 = first.read in
    let r2 = second.read in
    let f1 = first.refused in
    let f2 = second.refused in
    let d1 = first.dropped in
    let d2 = second.dropped in
    let u1 : count_by left_undone ts ≡ 0 = first.undone ∙ ap undone_at none in
    let u2 = second.undone in
    let did = subst (λ o. Does net out h o e f (flat_map receipts_of ts) (flat_map own_of ts) (flat_map put_by ts)) none first.does in
    record {
      turns = ts ++ us;
      each = zip_both (IsTurn h t w) xs ys ts us first.each second.each;
      read = omega (arith, long, r1, r2);
      refused = omega (arith, refusals, f1, f2);
      dropped = omega (arith, drops, d1, d2);
      undone = omega (arith, left, u1, u2);
      does = does_same net out h s''.fault e g _ _ _ _ _ _ (sym (flat_map-append receipts_of ts us)) (sym (flat_map-append own_of ts us)) (sym (flat_map-append put_by ts us))
          (does_both net out h s''.fault e f g (flat_map receipts_of ts) (flat_map receipts_of us) (flat_map own_of ts) (flat_map own_of us)
          (flat_map put_by ts) (flat_map put_by us) did second.does);
    }

-- so far these datagrams were served
pub record Heard (net : Network) (out : Output) (h : Notice → Type 0) (t : ℕ → Type 0) (w : ℕ) (old now : Option (Given (List ℕ))) (before after : Effects) (s : Served) : Type 0 where
  pub datagrams : List (List ℕ)
  pub holds : Holds old now datagrams
  pub serves : Serves net out h t w none_served s before after datagrams

pub heard_first : (net : Network) (out : Output) (h : Notice → Type 0) (t : ℕ → Type 0) (w : ℕ) (old : Option (Given (List ℕ))) (e : Effects) → Heard net out h t w old old e e none_served
heard_first net out h t w old e = record { datagrams = []; holds = holds_none old; serves = serves_none net out h t w none_served e refl }

pub heard_idle : (net : Network) (out : Output) (h : Notice → Type 0) (t : ℕ → Type 0) (w : ℕ) (old now new : Option (Given (List ℕ))) (e f : Effects) (s : Served) (buf : List ℕ)
    → Heard net out h t w old now e f s → TakesDatagram now new Idle buf → Heard net out h t w old new e f s
heard_idle net out h t w old now new e f s buf so takes = record {
  datagrams = so.datagrams;
  holds = holds_same old now new so.datagrams so.holds takes;
  serves = so.serves;
}

pub heard_more : (net : Network) (out : Output) (h : Notice → Type 0) (t : ℕ → Type 0) (w : ℕ) (old now new : Option (Given (List ℕ))) (e f g : Effects) (s s' : Served) (n : ℕ) (buf : List ℕ)
    → Heard net out h t w old now e f s → s.fault ≡ None → TakesDatagram now new (Got n) buf → Serves net out h t w s s' f g (take n buf ∷ [])
    → Heard net out h t w old new e g s'
heard_more net out h t w old now new e f g s s' n buf so none takes serves = record {
  datagrams = so.datagrams ++ take n buf ∷ [];
  holds = holds_more old now new so.datagrams (take n buf) so.holds takes;
  serves = serves_both net out h t w none_served s s' e f g so.datagrams (take n buf ∷ []) none so.serves serves;
}

pub serves_to_end : (net : Network) (out : Output) (h : Notice → Type 0) (t : ℕ → Type 0) (w : ℕ) (old now new : Option (Given (List ℕ))) (e f : Effects) (s : Served) (buf : List ℕ)
    → Heard net out h t w old now e f s → s.fault ≡ None → TakesDatagram now new End buf → ServesAll net out h t w old new e f s
serves_to_end net out h t w old now new e f s buf so none takes = record {
  datagrams = so.datagrams;
  gave = subst (λ o. Gave (s.read ≡ 2 ^ 63) old new so.datagrams o) (sym none) (gave_end (s.read ≡ 2 ^ 63) old now new so.datagrams so.holds takes);
  serves = so.serves;
}

pub serves_broken : (net : Network) (out : Output) (h : Notice → Type 0) (t : ℕ → Type 0) (w : ℕ) (old now new : Option (Given (List ℕ))) (e f : Effects) (s s' : Served) (buf : List ℕ)
    → Heard net out h t w old now e f s → s.fault ≡ None → TakesDatagram now new Failed buf → s' ≡ record { read = s.read; refused = s.refused; dropped = s.dropped; fault = Some SourceFailed }
    → ServesAll net out h t w old new e f s'
serves_broken net out h t w old now new e f s s' buf so none takes is =
    subst (λ o. ServesAll net out h t w old new e f o) (sym is) (record {
      datagrams = so.datagrams;
      gave = gave_broken (s.read ≡ 2 ^ 63) old now new so.datagrams so.holds takes;
      serves = with_fault net out h t w s e f so.datagrams none so.serves;
    })
  where
    with_fault : (net : Network) (out : Output) (h : Notice → Type 0) (t : ℕ → Type 0) (w : ℕ) (s : Served) (e f : Effects) (xs : List (List ℕ)) → s.fault ≡ None → Serves net out h t w none_served s e f xs
        → Serves net out h t w none_served (record { read = s.read; refused = s.refused; dropped = s.dropped; fault = Some SourceFailed }) e f xs
    with_fault net out h t w s e f xs none serves = record {
      turns = serves.turns;
      each = serves.each;
      read = serves.read;
      refused = serves.refused;
      dropped = serves.dropped;
      undone = serves.undone ∙ ap undone_at none;
      does = does_with net out h (Some SourceFailed) e f _ _ _ (subst (λ o. Does net out h o e f (flat_map receipts_of serves.turns) (flat_map own_of serves.turns) (flat_map put_by serves.turns)) none serves.does);
    }

pub serves_fault : (net : Network) (out : Output) (h : Notice → Type 0) (t : ℕ → Type 0) (w : ℕ) (old now : Option (Given (List ℕ))) (e f : Effects) (s : Served)
    → Heard net out h t w old now e f s → s.fault ≢ Some SourceFailed → (s.fault ≡ None → s.read ≡ 2 ^ 63) → ServesAll net out h t w old now e f s
serves_fault net out h t w old now e f s so other full = record {
  datagrams = so.datagrams;
  gave = gave s.fault (s.read ≡ 2 ^ 63) so.holds other full;
  serves = so.serves;
}
  where
    gave : (o : Option WorkerFault) (P : Type 0) → Holds old now so.datagrams → o ≢ Some SourceFailed → (o ≡ None → P) → Gave P old now so.datagrams o
    gave None P holds other full = gave_full P old now so.datagrams holds (full refl)
    gave (Some fault) P holds other full = gave_fault P old now so.datagrams fault holds (λ same. other (ap Some same))

-- one more than fewer that is not fewer is all
pub all_read : (read read' : ℕ) → read < 2 ^ 63 → read' ≡ read + 1 → 2 ^ 63 ≤ read' → read' ≡ 2 ^ 63
all_read read read' few more many = omega (arith, few, more, many)

-- what grows by one at most is no more than what grows by one
pub still_few : (n n' k k' : ℕ) → n ≤ k → n' ≤ n + 1 → k' ≡ k + 1 → n' ≤ k'
still_few n n' k k' few one more = omega (arith, few, one, more)

-- there is no fault where there is one
pub has_fault : (fault : Option WorkerFault) (P : Type 0) → is_some fault ≡ true → fault ≡ None → P
has_fault None P some none = absurd (let other : false ≢ true = λ q. cc in other some)
has_fault (Some fault) P some none = absurd (none_is_no_fault fault (sym none))
