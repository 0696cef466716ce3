-- What calls do, one after the other.
use Rattle.std.proofs.Common.{◌≡◌, ◌≢◌, ℕ, List, [], ◌∷◌, ◌++◌, Option, None, Some, is_some, false, refl, sym, ap, ◌∙◌, subst, append_assoc, append-nil}
use Rattle.std.specs.Prelude.{All, IfSome, MatchOption, option_to_list}
use Rattle.std.specs.List.{AllZip}
use Rattle.std.proofs.KnownBytes.{Appends-nil, Appends-trans}
use Rattle.std.proofs.lemmas.List.Concat.{flat_map-append}
use Rattle.std.proofs.lemmas.List.Elements.{All-nil, All-append, All-push}
use Rattle.ns_calls.specs.declared.answer.Downlink.{Downlink}
use Rattle.ns_calls.specs.declared.call.Call.{Call}
use Rattle.ns_calls.specs.Shards.{shard_of_call}
use Rattle.ns_roster.specs.Network.{Network}
use Rattle.ns_output.specs.declared.output.Output.{Output}
use Rattle.ns_output.specs.declared.times.Times.{Times}
use Rattle.ns_outside.specs.declared.receipt.Receipt.{Receipt}
use Rattle.ns_outside.specs.Answered.{HasHistory, RisesAt}
use Rattle.ns_outside.specs.declared.job.Job.{Job}
use Rattle.ns_outside.specs.declared.fault.WorkerFault.{WorkerFault}
use Rattle.ns_outside.specs.declared.fault.WorkerFault.TheVariants.{SinkFailed}
use Rattle.ns_workers.specs.Closing.{HasAnswer, AreAnswered}
use Rattle.ns_workers.specs.Effects.{Effects, Does, effects}
use Rattle.ns_outside.specs.Grown.{Grows}
use Rattle.ns_workers.specs.Lines.{uplink_line, AreLines, AppendsLine, AppendsLineFront, AppendsLines, AppendsLinesFront, downlinks_of}
use Rattle.ns_outside.specs.Notice.{Notice, call_replied}
use Rattle.ns_workers.proofs.Counting.{rises_none, rises_more, rises_both}

pub grows_none : {X : Type 0} (a : Option (List X)) → Grows a a []
grows_none None = tt
grows_none (Some xs) = ap Some (sym (append-nil xs))

pub grows_both : {X : Type 0} (a b c : Option (List X)) (xs ys : List X) → Grows a b xs → Grows b c ys → Grows a c (xs ++ ys)
grows_both None b c xs ys first second = tt
grows_both (Some ws) b c xs ys first second =
    subst (λ o. IfSome o (λ l. c ≡ Some (l ++ ys))) first second ∙ ap Some (append_assoc ws xs ys)

pub zip_both : {A B : Type 0} (R : A → B → Type 0) (xs us : List A) (ys vs : List B) → AllZip R xs ys → AllZip R us vs → AllZip R (xs ++ us) (ys ++ vs)
zip_both R [] us [] vs first second = second
zip_both R [] us (y ∷ ys) vs first second = absurd first
zip_both R (x ∷ xs) us [] vs first second = absurd first
zip_both R (x ∷ xs) us (y ∷ ys) vs first second = (first.0, zip_both R xs us ys vs first.1 second)

pub zip_more : {A B : Type 0} (R : A → B → Type 0) (xs : List A) (ys : List B) (x : A) (y : B) → AllZip R xs ys → R x y → AllZip R (xs ++ x ∷ []) (ys ++ y ∷ [])
zip_more R xs ys x y first second = zip_both R xs (x ∷ []) ys (y ∷ []) first (second, tt)

-- no receipt, one more, and more
pub answered_none : (net : Network) → AreAnswered net []
answered_none net = record { each = All-nil (λ (q : Receipt). HasAnswer net q) }

pub answered_more : (net : Network) (rs : List Receipt) (r : Receipt) → AreAnswered net rs → HasAnswer net r → AreAnswered net (rs ++ r ∷ [])
answered_more net rs r before now = record { each = All-push (λ (q : Receipt). HasAnswer net q) rs r before.each now }

answered_both : (net : Network) (rs qs : List Receipt) → AreAnswered net rs → AreAnswered net qs → AreAnswered net (rs ++ qs)
answered_both net rs qs before now = record { each = All-append (λ (q : Receipt). HasAnswer net q) rs qs before.each now.each }

pub told_more : (h : Notice → Type 0) (rs : List Receipt) (r : Receipt) → All (λ q. h (call_replied q)) rs → h (call_replied r) → All (λ q. h (call_replied q)) (rs ++ r ∷ [])
told_more h rs r before now = All-push (λ (q : Receipt). h (call_replied q)) rs r before now

-- the answer of a call
pub counted_answer : (net : Network) (r : Receipt) (call : Call)
    → (r.shard ≡ shard_of_call call) × (r.entry.call ≡ call) → HasHistory net (shard_of_call call) r → HasAnswer net r
counted_answer net r call named history = record {
  shard = named.0 ∙ ap shard_of_call (sym named.1);
  history = subst (λ c. HasHistory net (shard_of_call c) r) (sym named.1) history;
}

-- ---- lines and downlinks

are_lines_both : (out : Output) (rs qs : List Receipt) (text more : List ℕ) → AreLines out rs text → AreLines out qs more → AreLines out (rs ++ qs) (text ++ more)
are_lines_both out [] qs text more first second = subst (λ l. AreLines out qs (l ++ more)) (sym first) second
are_lines_both out (r ∷ rs) qs text more first second =
    let (times, rest, split, others) = first in
    (times, rest ++ more, ap (λ l. l ++ more) split ∙ append_assoc (uplink_line out times r.uplink) rest more, are_lines_both out rs qs rest more others second)

are_lines_more : (out : Output) (rs : List Receipt) (r : Receipt) (text : List ℕ) (times : Option Times) → AreLines out rs text
    → AreLines out (rs ++ r ∷ []) (text ++ uplink_line out times r.uplink)
are_lines_more out rs r text times before =
    are_lines_both out rs (r ∷ []) text (uplink_line out times r.uplink) before (times, [], sym (append-nil (uplink_line out times r.uplink)), refl)

pub lines_none : (out : Output) (a : Option (List ℕ)) → AppendsLines out a a []
lines_none out a = ([], refl, Appends-nil a)

pub lines_more : (out : Output) (a b c : Option (List ℕ)) (rs : List Receipt) (r : Receipt) → AppendsLines out a b rs → AppendsLine out b c r.uplink → AppendsLines out a c (rs ++ r ∷ [])
lines_more out a b c rs r before now =
    let (text, are, appended) = before in
    let (times, also) = now in
    (text ++ uplink_line out times r.uplink, are_lines_more out rs r text times are, Appends-trans a b c _ _ appended also)

pub lines_front : (out : Output) (a b c : Option (List ℕ)) (rs : List Receipt) (r : Receipt) → AppendsLines out a b rs → AppendsLineFront out b c r.uplink
    → AppendsLinesFront out a c (rs ++ r ∷ [])
lines_front out a b c rs r before now =
    let (text, are, appended) = before in
    let (times, (front, rest, split, also)) = now in (
      text ++ uplink_line out times r.uplink,
      are_lines_more out rs r text times are,
      (text ++ front, rest, ap (λ l. text ++ l) split ∙ sym (append_assoc text front rest), Appends-trans a b c _ _ appended also),
    )

pub lines_whole : (out : Output) (a b : Option (List ℕ)) (rs : List Receipt) → AppendsLines out a b rs → AppendsLinesFront out a b rs
lines_whole out a b rs before =
    let (text, are, appended) = before in
    (text, are, (text, [], sym (append-nil text), appended))

lines_both : (out : Output) (a b c : Option (List ℕ)) (rs qs : List Receipt) → AppendsLines out a b rs → AppendsLines out b c qs → AppendsLines out a c (rs ++ qs)
lines_both out a b c rs qs first second =
    let (text, are, appended) = first in
    let (more, also, behind) = second in
    (text ++ more, are_lines_both out rs qs text more are also, Appends-trans a b c _ _ appended behind)

lines_front_both : (out : Output) (a b c : Option (List ℕ)) (rs qs : List Receipt) → AppendsLines out a b rs → AppendsLinesFront out b c qs → AppendsLinesFront out a c (rs ++ qs)
lines_front_both out a b c rs qs first second =
    let (text, are, appended) = first in
    let (more, also, (front, rest, split, now)) = second in (
      text ++ more,
      are_lines_both out rs qs text more are also,
      (text ++ front, rest, ap (λ l. text ++ l) split ∙ sym (append_assoc text front rest), Appends-trans a b c _ _ appended now),
    )

downlinks_both : (a b c : Option (List Downlink)) (rs qs : List Receipt) → Grows a b (downlinks_of rs) → Grows b c (downlinks_of qs) → Grows a c (downlinks_of (rs ++ qs))
downlinks_both a b c rs qs first second =
    subst (Grows a c) (sym (flat_map-append (λ (q : Receipt). option_to_list q.downlink) rs qs)) (grows_both a b c (downlinks_of rs) (downlinks_of qs) first second)

downlinks_one : (a b : Option (List Downlink)) (r : Receipt) → Grows a b (option_to_list r.downlink) → Grows a b (downlinks_of (r ∷ []))
downlinks_one a b r now = subst (Grows a b) (sym (append-nil (option_to_list r.downlink))) now

pub downlinks_more : (a b c : Option (List Downlink)) (rs : List Receipt) (r : Receipt) → Grows a b (downlinks_of rs) → Grows b c (option_to_list r.downlink) → Grows a c (downlinks_of (rs ++ r ∷ []))
downlinks_more a b c rs r first second = downlinks_both a b c rs (r ∷ []) first (downlinks_one b c r second)

-- ---- nothing, one call, and calls after calls

pub none_is_no_fault : {X : Type 0} (x : X) → None ≢ Some x
none_is_no_fault x same = subst (λ o. MatchOption o (Unit {0}) (λ _. ⊥)) same tt

pub no_fault : {X : Type 0} (o : Option X) → is_some o ≡ false → o ≡ None
no_fault None none = refl
no_fault (Some x) none = absurd cc

-- with no fault there is not this one
pub not_that : {X : Type 0} (o : Option X) (x : X) → o ≡ None → o ≢ Some x
not_that o x none same = none_is_no_fault x (sym none ∙ same)

pub does_none : (net : Network) (out : Output) (h : Notice → Type 0) (f : Option WorkerFault) (e : Effects) → Does net out h f e e [] [] []
does_none net out h f e = record {
  answered = answered_none net;
  told = All-nil (λ (q : Receipt). h (call_replied q));
  counted = rises_none e.pass;
  put = grows_none e.jobs;
  down = grows_none e.downlinks;
  text = λ _. lines_none out e.text;
  front = lines_whole out e.text e.text [] (lines_none out e.text);
}

pub does_both : (net : Network) (out : Output) (h : Notice → Type 0) (f : Option WorkerFault) (a b c : Effects) (rs qs own own' : List Receipt) (js ks : List Job)
    → Does net out h None a b rs own js → Does net out h f b c qs own' ks → Does net out h f a c (rs ++ qs) (own ++ own') (js ++ ks)
does_both net out h f a b c rs qs own own' js ks first second =
    let lines = first.text (none_is_no_fault SinkFailed) in
    record {
      answered = answered_both net rs qs first.answered second.answered;
      told = All-append (λ (q : Receipt). h (call_replied q)) rs qs first.told second.told;
      counted = rises_both a.pass b.pass c.pass rs qs first.counted second.counted;
      put = grows_both a.jobs b.jobs c.jobs js ks first.put second.put;
      down = downlinks_both a.downlinks b.downlinks c.downlinks own own' first.down second.down;
      text = λ other. lines_both out a.text b.text c.text own own' lines (second.text other);
      front = lines_front_both out a.text b.text c.text own own' lines second.front;
    }

-- without a fault is as with one, but that the lines are whole
pub does_with : (net : Network) (out : Output) (h : Notice → Type 0) (f : Option WorkerFault) (a b : Effects) (rs own : List Receipt) (js : List Job)
    → Does net out h None a b rs own js → Does net out h f a b rs own js
does_with net out h f a b rs own js did = record {
  answered = did.answered;
  told = did.told;
  counted = did.counted;
  put = did.put;
  down = did.down;
  text = λ _. did.text (none_is_no_fault SinkFailed);
  front = did.front;
}

-- a call with which nothing goes out
pub does_call : (net : Network) (out : Output) (h : Notice → Type 0) (pass pass' : List ℕ) (jobs : Option (List Job)) (down : Option (List Downlink)) (text : Option (List ℕ)) (r : Receipt)
    → HasAnswer net r → RisesAt r.shard pass pass' → h (call_replied r) → Does net out h None (effects pass jobs down text) (effects pass' jobs down text) (r ∷ []) [] []
does_call net out h pass pass' jobs down text r answer rises told = record {
  answered = answered_more net [] r (answered_none net) answer;
  told = told_more h [] r (All-nil (λ (q : Receipt). h (call_replied q))) told;
  counted = rises_more pass pass pass' [] r (rises_none pass) rises;
  put = grows_none jobs;
  down = grows_none down;
  text = λ _. lines_none out text;
  front = lines_whole out text text [] (lines_none out text);
}

-- a call with what goes out with it
pub does_own : (net : Network) (out : Output) (h : Notice → Type 0) (f : Option WorkerFault) (pass pass' : List ℕ) (jobs jobs' : Option (List Job))
    (down down' : Option (List Downlink)) (text text' : Option (List ℕ)) (r : Receipt)
    → HasAnswer net r → RisesAt r.shard pass pass' → h (call_replied r) → Grows jobs jobs' [] → Grows down down' (option_to_list r.downlink)
    → (f ≢ Some SinkFailed → AppendsLine out text text' r.uplink) → AppendsLineFront out text text' r.uplink
    → Does net out h f (effects pass jobs down text) (effects pass' jobs' down' text') (r ∷ []) (r ∷ []) []
does_own net out h f pass pass' jobs jobs' down down' text text' r answer rises told put sent lines front = record {
  answered = answered_more net [] r (answered_none net) answer;
  told = told_more h [] r (All-nil (λ (q : Receipt). h (call_replied q))) told;
  counted = rises_more pass pass pass' [] r (rises_none pass) rises;
  put = put;
  down = downlinks_one down down' r sent;
  text = λ other. lines_more out text text text' [] r (lines_none out text) (lines other);
  front = lines_front out text text text' [] r (lines_none out text) front;
}

-- the same where neither jobs nor lines are known
pub does_reply : (net : Network) (out : Output) (h : Notice → Type 0) (pass pass' : List ℕ) (down down' : Option (List Downlink)) (r : Receipt)
    → HasAnswer net r → RisesAt r.shard pass pass' → h (call_replied r) → Grows down down' (option_to_list r.downlink)
    → Does net out h None (effects pass None down None) (effects pass' None down' None) (r ∷ []) (r ∷ []) []
does_reply net out h pass pass' down down' r answer rises told sent =
    does_own net out h None pass pass' None None down down' None None r answer rises told tt sent (λ _. (None, tt)) (None, ([], uplink_line out None r.uplink, refl, tt))

-- a job that is put
pub does_put : (net : Network) (out : Output) (h : Notice → Type 0) (f : Option WorkerFault) (pass : List ℕ) (jobs jobs' : Option (List Job)) (down : Option (List Downlink))
    (text : Option (List ℕ)) (js : List Job) → Grows jobs jobs' js → Does net out h f (effects pass jobs down text) (effects pass jobs' down text) [] [] js
does_put net out h f pass jobs jobs' down text js put = record {
  answered = answered_none net;
  told = All-nil (λ (q : Receipt). h (call_replied q));
  counted = rises_none pass;
  put = put;
  down = grows_none down;
  text = λ _. lines_none out text;
  front = lines_whole out text text [] (lines_none out text);
}
