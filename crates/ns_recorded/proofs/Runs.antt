-- Runs of what a history says.
use Rattle.std.proofs.Common.{◌≡◌, Bool, true, false, cond, List, [], ◌∷◌, ◌++◌, filter, map, length, refl, sym, ap, subst, ◌∙◌, inl, inr}
use Rattle.std.proofs.lemmas.List.{append_assoc, append-nil}
use Rattle.std.proofs.lemmas.List.Elements.{filter-append}
use Rattle.ns_roster.specs.Network.{Network}
use Rattle.ns_calls.specs.declared.call.Call.{Call}
use Rattle.ns_calls.specs.declared.call.Reply.{Reply}
use Rattle.ns_calls.specs.declared.call.Entry.{Entry}
use Rattle.ns_calls.specs.declared.answer.Answer.{Answer}
use Rattle.ns_calls.specs.Out.{answer}
use Rattle.ns_calls.specs.Reply.{reply_to}
use Rattle.ns_calls.specs.Runs.{answers_after, answers_of, history_after, history_of}
use Rattle.ns_calls.specs.Legal.{IsLegal, entry_for}
use Rattle.ns_calls.specs.Headline.{IsLegalAfter}
use Rattle.ns_calls.proofs.LocalLemmas.{bool_tells}
use Rattle.ns_calls.proofs.LegalLemmas.{after-by_place, by_place-after, IsLegal-push}
use Rattle.ns_kept.proofs.Alike.{reply-alike, answer-alike}
use Rattle.ns_recorded.specs.Recorded.{matters, said, recorded, answers_told, AreLives, all_of}
use Rattle.ns_recorded.proofs.Said.{alike}

abbrev Said : Type 0
Said = Call × Reply

pub answer_same : (net : Network) (g h : List Entry) → said g ≡ said h → (c : Call) → answer net g c ≡ answer net h c
answer_same net g h same c = answer-alike net g h (alike net g h same) c

reply_same : (net : Network) (g h : List Entry) → said g ≡ said h → (c : Call) → reply_to net g c ≡ reply_to net h c
reply_same net g h same c = reply-alike net g h (alike net g h same) c

map-push : (h : List Entry) (e : Entry) → map {B = Said} (λ (x : Entry). (x.call, x.reply)) (h ++ e ∷ []) ≡ map {B = Said} (λ (x : Entry). (x.call, x.reply)) h ++ (e.call, e.reply) ∷ []
map-push [] e = refl
map-push (x ∷ h) e = ap (λ (ys : List Said). (x.call, x.reply) ∷ ys) (map-push h e)

-- what one more entry says
abbrev one : Call → Reply → List Said
one c r = cond (matters r) ((c, r) ∷ []) []

said-push : (h : List Entry) (e : Entry) → said (h ++ e ∷ []) ≡ said h ++ one e.call e.reply
said-push h e =
    ap (filter (λ (s : Said). matters s.1)) (map-push h e)
    ∙ filter-append (λ (s : Said). matters s.1) (map (λ (x : Entry). (x.call, x.reply)) h) ((e.call, e.reply) ∷ [])

-- the same one more of both
push_same : (g h : List Entry) → said g ≡ said h → (d e : Entry) → d.call ≡ e.call → d.reply ≡ e.reply → said (g ++ d ∷ []) ≡ said (h ++ e ∷ [])
push_same g h same d e call reply =
    said-push g d
    ∙ (ap (λ (ss : List Said). ss ++ one d.call d.reply) same
    ∙ (ap (λ (c : Call). said h ++ one c d.reply) call
    ∙ (ap (λ (r : Reply). said h ++ one e.call r) reply ∙ sym (said-push h e))))

pub answers_same : (net : Network) (g h : List Entry) → said g ≡ said h → (calls : List Call) → answers_after net g calls ≡ answers_after net h calls
answers_same net g h same [] = refl
answers_same net g h same (c ∷ calls) =
    let d : Entry = entry_for net g (length g) c in
    let e : Entry = entry_for net h (length h) c in
    let next : said (g ++ d ∷ []) ≡ said (h ++ e ∷ []) = push_same g h same d e refl (reply_same net g h same c) in
    ap (λ (a : Answer). a ∷ answers_after net (g ++ d ∷ []) calls) (answer_same net g h same c)
    ∙ ap (λ (xs : List Answer). answer net h c ∷ xs) (answers_same net (g ++ d ∷ []) (h ++ e ∷ []) next calls)

-- entries that are legal after a history are legal after one that says the same
legal_after : (net : Network) (g h more : List Entry) → said g ≡ said h → IsLegalAfter net g more → IsLegalAfter net h more
legal_after net g h [] same legal = tt
legal_after net g h (e ∷ more) same legal = (
  legal.0 ∙ reply_same net g h same e.call,
  legal_after net (g ++ e ∷ []) (h ++ e ∷ []) more (push_same g h same e e refl refl) legal.1,
)

legal_more : (net : Network) (h more : List Entry) → IsLegal net h → IsLegalAfter net h more → IsLegal net (h ++ more)
legal_more net h [] legal after = subst (IsLegal net) (sym (append-nil h)) legal
legal_more net h (e ∷ more) legal after =
    subst (IsLegal net) (append_assoc h (e ∷ []) more)
    (legal_more net (h ++ e ∷ []) more (IsLegal-push net h e legal after.0) after.1)

pub one_run : (net : Network) (g h more : List Entry) → said g ≡ said h → IsLegal net h → IsLegalAfter net g more → IsLegal net (h ++ more)
one_run net g h more same legal after = legal_more net h more legal (legal_after net g h more same after)

-- ---- recorded calls, run again

-- what a record has of one more entry, in front
abbrev front : Call → Reply → List Call → List Call
front c r calls = cond (matters r) (c ∷ calls) calls

recorded-front : (e : Entry) (h : List Entry) → recorded (e ∷ h) ≡ front e.call e.reply (recorded h)
recorded-front e h = by (matters e.reply)
  where
    by : (b : Bool) → map (λ (s : Said). s.0) (cond b ((e.call, e.reply) ∷ said h) (said h)) ≡ cond b (e.call ∷ recorded h) (recorded h)
    by true = refl
    by false = refl

-- an entry that is left out
left_out : (g before : List Entry) (e : Entry) → said g ≡ said before → matters e.reply ≡ false → said g ≡ said (before ++ e ∷ [])
left_out g before e same outside =
    same ∙ (sym (append-nil (said before)) ∙ (ap (λ (b : Bool). said before ++ cond {A = List Said} b ((e.call, e.reply) ∷ []) []) (sym outside) ∙ sym (said-push before e)))

again : (net : Network) (g before more : List Entry) → said g ≡ said before → IsLegalAfter net before more → said (history_after net g (recorded more)) ≡ said (before ++ more)
again net g before [] same legal = same ∙ ap said (sym (append-nil before))
again net g before (e ∷ more) same legal =
    let part = λ (b : Bool). said (history_after net g (cond b (e.call ∷ recorded more) (recorded more))) in
    let d : Entry = entry_for net g (length g) e.call in
    let reply : d.reply ≡ e.reply = reply_same net g before same e.call ∙ sym legal.0 in
    let together : said ((before ++ e ∷ []) ++ more) ≡ said (before ++ e ∷ more) = ap said (append_assoc before (e ∷ []) more) in
    ap (λ (calls : List Call). said (history_after net g calls)) (recorded-front e more)
    ∙ (elim (bool_tells (matters e.reply)) [
      | inl inside ↦ ap part inside ∙ (again net (g ++ d ∷ []) (before ++ e ∷ []) more (push_same g before same d e refl reply) legal.1)
      | inr outside ↦
          ap part outside
          ∙ (again net g (before ++ e ∷ []) more (left_out g before e same outside) legal.1)
    ] ∙ together)

pub run_again : (net : Network) (h : List Entry) → IsLegal net h → said (history_of net (recorded h)) ≡ said h
run_again net h legal = again net [] [] h refl (by_place-after net [] h legal)

answers-again : (net : Network) (g before more : List Entry) → said g ≡ said before → IsLegalAfter net before more → answers_after net g (recorded more) ≡ answers_told net before more
answers-again net g before [] same legal = refl
answers-again net g before (e ∷ more) same legal =
    let part = λ (b : Bool). answers_after net g (cond b (e.call ∷ recorded more) (recorded more)) in
    let d : Entry = entry_for net g (length g) e.call in
    let reply : d.reply ≡ e.reply = reply_same net g before same e.call ∙ sym legal.0 in
    let later : List Answer = answers_told net (before ++ e ∷ []) more in
    let told = λ (b : Bool). cond b (answer net before e.call ∷ later) later in
    ap (λ (calls : List Call). answers_after net g calls) (recorded-front e more)
    ∙ elim (bool_tells (matters e.reply)) [
      | inl inside ↦
          ap part inside
          ∙ (ap (λ (a : Answer). a ∷ answers_after net (g ++ d ∷ []) (recorded more)) (answer_same net g before same e.call)
          ∙ (ap (λ (xs : List Answer). answer net before e.call ∷ xs) (answers-again net (g ++ d ∷ []) (before ++ e ∷ []) more (push_same g before same d e refl reply) legal.1)
          ∙ sym (ap told inside)))
      | inr outside ↦
          ap part outside
          ∙ (answers-again net g (before ++ e ∷ []) more (left_out g before e same outside) legal.1 ∙ sym (ap told outside))
    ]

pub answers_again : (net : Network) (h : List Entry) → IsLegal net h → answers_of net (recorded h) ≡ answers_told net [] h
answers_again net h legal = answers-again net [] [] h refl (by_place-after net [] h legal)

-- ---- lives of the program

pub lives-legal : (net : Network) (before : List Entry) (lives : List (List Entry)) → IsLegal net before → AreLives net before lives → IsLegal net (before ++ all_of lives)
lives-legal net before [] legal are = subst (IsLegal net) (sym (append-nil before)) legal
lives-legal net before (life ∷ lives) legal are =
    subst (IsLegal net) (append_assoc before life (all_of lives))
    (lives-legal net (before ++ life) lives (one_run net (history_of net (recorded before)) before life (run_again net before legal) legal are.0) are.1)

none-legal : (net : Network) → IsLegal net []
none-legal net = after-by_place net [] [] tt

pub all-legal : (net : Network) (lives : List (List Entry)) → AreLives net [] lives → IsLegal net (all_of lives)
all-legal net lives are = lives-legal net [] lives (none-legal net) are
