-- A line is a step line exactly where it spells a step.
use Rattle.std.proofs.Common.{◌≡◌, ℕ, suc, ◌+◌, ◌-◌, ◌<◌, ◌==◌, Bool, true, false, not, ◌&&◌, cond, List, [], ◌∷◌, ◌++◌, length, take, drop, Option, Some, None, option_map, refl, sym, ap, ap₂, ◌∙◌, subst, arith, inl, inr, length-append, bytes_eq}
use Rattle.std.specs.Prelude.{Result, Ok, Err, if◌then◌else◌, codes, option_and_then, slice_index, position, nat_lt, ◌^◌}
use Rattle.std.specs.List.{AllPass, list_any, list_all, position_or_len}
use Rattle.std.specs.Result.{result_ok}
use Rattle.std.proofs.lemmas.Bool.{eqb-true, and_parts, or_parts, cond_both, false_from_ne_true}
use Rattle.std.proofs.lemmas.Bool.Decides.{nat_tests}
use Rattle.std.proofs.lemmas.Option.{same_Some}
use Rattle.std.proofs.lemmas.Slice.Eq.{bytes_eq-Decides}
use Rattle.std.proofs.lemmas.List.Elements.{All-weaker}
use Rattle.std.proofs.lemmas.List.Folds.{list_any_none}
use Rattle.std.proofs.lemmas.List.Sums.{AllPass-from_list_all}
use Rattle.std.proofs.Math.Seq.{take-append_seam, drop-append-add}
use Rattle.hex.specs.Hex.{decode_of, decode_sized, is_hex_digit}
use Rattle.hex.proofs.HexLemmas.{decode_of-ok, decode_sized-ok, decode_sized-twice}
use Rattle.hex.specs.declared.error.FromHexError.{FromHexError}
use Rattle.ns_types.specs.Cases.{when}
use Rattle.ns_types.proofs.ResultLemmas.{bind-some}
use Rattle.ns_types.specs.declared.identity.DevEui.{DevEui}
use Rattle.ns_types.specs.declared.identity.WindowName.{WindowName}
use Rattle.ns_types.specs.declared.ticket.Ticket.{Ticket}
use Rattle.ns_acts.specs.declared.step.Act.{Act}
use Rattle.ns_acts.specs.declared.step.Act.TheVariants.{Datagram, Answer, Lost, Close}
use Rattle.ns_steps.specs.StepLines.{without_return, split_by, split_words, is_digit, decimal_value, number, eui, ticket, datagram_step, answer_step, lost_step, later_round, counter_by, counter, window, close_step, act, step}
use Rattle.ns_steps.specs.Spelled.{Says, SpellsTicket, SpellsCounter, SpellsWindow, SpellsStep, Spells}
use Rattle.ns_steps.proofs.LineLemmas.{byte_at}

-- whether a byte stands in a text, and whether a space does
abbrev has : ℕ → List ℕ → Bool
has byte text = list_any (λ b. b == byte) text

abbrev has_space : List ℕ → Bool
has_space text = has 32 text

-- ---- words

first_place : (byte : ℕ) (word rest : List ℕ) → has byte word ≡ false → position_or_len (λ b. b == byte) (word ++ byte ∷ rest) ≡ length word
first_place byte [] rest none =
    let same : (byte == byte) ≡ true = grind (arith, nat_tests) in
    ap (λ t. cond (not t) (1 + position_or_len (λ b. b == byte) rest) 0) same
first_place byte (b ∷ word) rest none =
    let parts = or_parts (b == byte) (has byte word) none in
    let ih = first_place byte word rest parts.1 in
    ap (λ t. cond (not t) (1 + position_or_len (λ c. c == byte) (word ++ byte ∷ rest)) 0) parts.0 ∙ omega (arith, ih)

-- the texts before and behind the first such byte
parted-from : (byte : ℕ) (word rest : List ℕ) → has byte word ≡ false → split_by byte (word ++ byte ∷ rest) ≡ Some (word, rest)
unfolding split_by
parted-from byte word rest none =
    let whole : List ℕ = word ++ byte ∷ rest in
    let first = first_place byte word rest none in
    let long : length whole ≡ length word + length (byte ∷ rest) = length-append word (byte ∷ rest) in
    let some : 0 < length (byte ∷ rest) = omega arith in
    let inside : nat_lt (length word) (length whole) ≡ true = grind (arith, nat_tests, long, some) in
    ap (λ n. option_map (λ i. (take i whole, drop (i + 1) whole)) (cond (nat_lt n (length whole)) (Some n) None)) first
    ∙ (ap (λ t. option_map (λ i. (take i whole, drop (i + 1) whole)) (cond t (Some (length word)) None)) inside
    ∙ ap₂ (λ front behind. Some (front, behind)) (take-append_seam word (byte ∷ rest)) (drop-append-add word (byte ∷ rest) 1))

map-some : {A B : Type 0} (o : Option A) (f : A → B) (y : B) → option_map f o ≡ Some y → (x : A) × (o ≡ Some x) × (f x ≡ y)
map-some None f y h = cc
map-some (Some x) f y h = (x, refl, same_Some (f x) y h)

parted-is : (byte : ℕ) (text : List ℕ) (p : List ℕ × List ℕ) → split_by byte text ≡ Some p → text ≡ p.0 ++ byte ∷ p.1
unfolding split_by
parted-is byte text p is =
    let (i, at, same) = map-some (position (λ b. b == byte) text) (λ n. (take n text, drop (n + 1) text)) p is in
    byte_at byte text i at ∙ ap (λ (q : List ℕ × List ℕ). q.0 ++ byte ∷ q.1) same

-- a text in which the byte does not stand is not split
unparted : (byte : ℕ) (text : List ℕ) → has byte text ≡ false → split_by byte text ≡ None
unfolding split_by
unparted byte text none =
    let first = nowhere text none in
    let outside : nat_lt (length text) (length text) ≡ false = grind (arith, nat_tests) in
    ap (λ n. option_map (λ i. (take i text, drop (i + 1) text)) (cond (nat_lt n (length text)) (Some n) None)) first
    ∙ ap (λ t. option_map (λ i. (take i text, drop (i + 1) text)) (cond t (Some (length text)) None)) outside
  where
    nowhere : (bytes : List ℕ) → has byte bytes ≡ false → position_or_len (λ b. b == byte) bytes ≡ length bytes
    nowhere [] is = refl
    nowhere (b ∷ bytes) is =
        let parts = or_parts (b == byte) (has byte bytes) is in
        let ih = nowhere bytes parts.1 in
        ap (λ t. cond (not t) (1 + position_or_len (λ c. c == byte) bytes) 0) parts.0 ∙ omega (arith, ih)

-- ---- the end of a line

last_of : (words : List ℕ) (b : ℕ) → slice_index (words ++ b ∷ []) (length (words ++ b ∷ []) - 1) ≡ b
last_of [] b = refl
last_of (w ∷ words) b =
    let long : length (words ++ b ∷ []) ≡ length words + 1 = length-append words (b ∷ []) in
    let at : length (w ∷ (words ++ b ∷ [])) - 1 ≡ suc (length (words ++ b ∷ []) - 1) = omega (arith, long) in
    ap (slice_index (w ∷ (words ++ b ∷ []))) at ∙ last_of words b

front_of : (words : List ℕ) (b : ℕ) → take (length (words ++ b ∷ []) - 1) (words ++ b ∷ []) ≡ words
front_of words b =
    let long : length (words ++ b ∷ []) ≡ length words + 1 = length-append words (b ∷ []) in
    let at : length (words ++ b ∷ []) - 1 ≡ length words = omega (arith, long) in
    ap (λ n. take n (words ++ b ∷ [])) at ∙ take-append_seam words (b ∷ [])

split_last : (line : List ℕ) → (slice_index line (length line - 1) == 13) ≡ true → line ≡ take (length line - 1) line ++ 13 ∷ []
split_last [] is = absurd (cc is)
split_last (x ∷ []) is = ap (λ n. n ∷ []) (eqb-true x 13 is)
split_last (x ∷ y ∷ more) is =
    let at : length (x ∷ y ∷ more) - 1 ≡ suc (length (y ∷ more) - 1) = omega arith in
    let inner : (slice_index (y ∷ more) (length (y ∷ more) - 1) == 13) ≡ true = sym (ap (λ n. slice_index (x ∷ y ∷ more) n == 13) at) ∙ is in
    ap (λ l. x ∷ l) (split_last (y ∷ more) inner) ∙ ap (λ n. take n (x ∷ y ∷ more) ++ 13 ∷ []) (sym at)

says-without : (line : List ℕ) → Says line (without_return line)
unfolding without_return
says-without line =
    cond_both (slice_index line (length line - 1) == 13) (take (length line - 1) line) line (Says line) (λ is. inl (split_last line is)) (λ is. inr (refl, is))

without-says : (line words : List ℕ) → Says line words → without_return line ≡ words
unfolding without_return
without-says line words (inl is) = rw (is, last_of words 13) (front_of words 13)
without-says line words (inr (is, other)) = rw (is, other) refl

-- ---- hex digits and decimal digits are no spaces

-- a byte that fails a test doesn't stand in a text whose bytes all pass it
without : (test : ℕ → Bool) (byte : ℕ) → test byte ≡ false → (text : List ℕ) → AllPass test text → has byte text ≡ false
without test byte none text all =
    list_any_none (λ b. b == byte) text (All-weaker (λ b. test b ≡ true) (λ b. (b == byte) ≡ false) apart text all)
  where
    apart : (b : ℕ) → test b ≡ true → (b == byte) ≡ false
    apart b passes = false_from_ne_true (b == byte) (λ same. cc (none, passes, eqb-true b byte same))

sized-no_space : (text : List ℕ) (n : ℕ) (bytes : List ℕ) → decode_sized text n ≡ Ok bytes → has_space text ≡ false
sized-no_space text n bytes is =
    let long = decode_sized-ok text n bytes is in
    without is_hex_digit 32 refl text (decode_of-ok text bytes (sym (decode_sized-twice text n long) ∙ is)).1

when-is : {X : Type 0} (b : Bool) (x y : X) → when b x ≡ Some y → (b ≡ true) × (x ≡ y)
when-is true x y h = (refl, same_Some x y h)
when-is false x y h = absurd (cc h)

number-without : (byte : ℕ) → is_digit byte ≡ false → (text : List ℕ) (n : ℕ) → number text ≡ Some n → has byte text ≡ false
unfolding number
number-without byte none text n is =
    let w = when-is (nat_lt 0 (length text) && list_all is_digit text && nat_lt (decimal_value text) (2 ^ 32)) (decimal_value text) n is in
    let p = and_parts (nat_lt 0 (length text) && list_all is_digit text) (nat_lt (decimal_value text) (2 ^ 32)) w.0 in
    without is_digit byte none text (AllPass-from_list_all is_digit text (and_parts (nat_lt 0 (length text)) (list_all is_digit text) p.0).1)

-- ---- what is read is spelled

pub ok-is : {A : Type 0} (r : Result A FromHexError) (x : A) → result_ok r ≡ Some x → r ≡ Ok x
ok-is (Ok y) x h = ap Ok (same_Some y x h)
ok-is (Err e) x h = absurd (cc h)

ticket-spelled : (text : List ℕ) (t : Ticket) → ticket text ≡ Some t → SpellsTicket text t
ticket-spelled text t is =
    let m = map-some (result_ok (decode_sized text 23)) _ t is in
    ok-is (decode_sized text 23) m.0 m.1 ∙ ap (λ (x : Ticket). Ok x.0) m.2

heard-spelled : (rest : List ℕ) (a : Act) → datagram_step rest ≡ Some a → SpellsStep (codes "heard " ++ rest) a
unfolding datagram_step
heard-spelled rest a is =
    let b = bind-some (result_ok (decode_of rest)) _ a is in
    let w = when-is (nat_lt 0 (length b.0)) (Datagram b.0) a b.2 in
    let some : 0 < length b.0 = grind (arith, nat_tests, w.0) in
    subst (SpellsStep (codes "heard " ++ rest)) w.1 (rest, refl, ok-is (decode_of rest) b.0 b.1, some)

answered-spelled : (rest : List ℕ) (a : Act) → answer_step rest ≡ Some a → SpellsStep (codes "answer " ++ rest) a
unfolding answer_step
answered-spelled rest a is =
    let p = bind-some (split_words rest) _ a is in
    let m = map-some (ticket p.0.0) _ a p.2 in
    subst (SpellsStep (codes "answer " ++ rest)) m.2 (p.0.0, ap (λ r. codes "answer " ++ r) (parted-is 32 rest p.0 p.1), ticket-spelled p.0.0 m.0 m.1)

lost-spelled : (rest : List ℕ) (a : Act) → lost_step rest ≡ Some a → SpellsStep (codes "lost " ++ rest) a
unfolding lost_step
lost-spelled rest a is =
    let m = map-some (ticket rest) Lost a is in
    subst (SpellsStep (codes "lost " ++ rest)) m.2 (rest, refl, ticket-spelled rest m.0 m.1)

counter-spelled : (text : List ℕ) (c : ℕ × ℕ) → counter text ≡ Some c → SpellsCounter text c.0 c.1
unfolding counter later_round
counter-spelled text c is = by (split_by 58 text) refl is
  where
    by : (o : Option (List ℕ × List ℕ)) → split_by 58 text ≡ o → counter_by text o ≡ Some c → SpellsCounter text c.0 c.1
    by None at h =
        let n = map-some (number text) _ c h in
        inl (n.1 ∙ ap (λ (x : ℕ × ℕ). Some x.0) n.2, sym (ap (λ (x : ℕ × ℕ). x.1) n.2))
    by (Some p) at h =
        let f = bind-some (number p.0) _ c h in
        let r = bind-some (later_round p.1) _ c f.2 in
        let n = bind-some (number p.1) _ r.0 r.1 in
        let w = when-is (nat_lt 1 n.0) n.0 r.0 n.2 in
        let same : (f.0, r.0) ≡ c = same_Some _ c r.2 in
        let above : 1 < n.0 = grind (arith, nat_tests, w.0) in
        let round : n.0 ≡ c.1 = w.1 ∙ ap (λ (x : ℕ × ℕ). x.1) same in
        inr (p.0, p.1, parted-is 58 text p at, f.1 ∙ ap (λ (x : ℕ × ℕ). Some x.0) same, n.1 ∙ ap Some round, subst (λ m. 1 < m) round above)

closed-spelled : (rest : List ℕ) (a : Act) → close_step rest ≡ Some a → SpellsStep (codes "close " ++ rest) a
unfolding close_step window
closed-spelled rest a is =
    let p = bind-some (split_words rest) _ a is in
    let e = bind-some (eui p.0.0) _ a p.2 in
    let c = map-some (window e.0 p.0.1) _ a e.2 in
    let q = bind-some (split_words p.0.1) _ c.0 c.1 in
    let s = bind-some (number q.0.0) _ c.0 q.2 in
    let f = map-some (counter q.0.1) _ c.0 s.2 in
    let b = map-some (result_ok (decode_sized p.0.0 8)) _ e.0 e.1 in
    subst (SpellsStep (codes "close " ++ rest)) c.2 (
      rest,
      refl,
      record {
        eui = p.0.0;
        session = q.0.0;
        fcnt = q.0.1;
        are = parted-is 32 rest p.0 p.1 ∙ ap (λ r. p.0.0 ++ 32 ∷ r) (parted-is 32 p.0.1 q.0 q.1);
        bytes = b.0;
        hex = ok-is (decode_sized p.0.0 8) b.0 b.1;
        is_eui = ap (λ (d : DevEui). d.0) b.2 ∙ ap (λ (w : WindowName). w.eui.0) f.2;
        is_session = s.1 ∙ ap (λ (w : WindowName). Some w.session) f.2;
        is_fcnt = subst (λ (w : WindowName). SpellsCounter q.0.1 w.fcnt w.round) f.2 (counter-spelled q.0.1 f.0 f.1);
      },
    )

act-spelled : (word rest : List ℕ) (a : Act) → act word rest ≡ Some a → SpellsStep (word ++ 32 ∷ rest) a
unfolding act
act-spelled word rest a is = by (bytes_eq word (codes "heard")) refl (bytes_eq word (codes "answer")) refl (bytes_eq word (codes "lost")) refl (bytes_eq word (codes "close")) refl is
  where
    under : (known : List ℕ) → bytes_eq word known ≡ true → SpellsStep (known ++ 32 ∷ rest) a → SpellsStep (word ++ 32 ∷ rest) a
    under known same spelled = subst (λ w. SpellsStep (w ++ 32 ∷ rest) a) (sym ((bytes_eq-Decides word known).0 same)) spelled

    by : (h : Bool) → bytes_eq word (codes "heard") ≡ h → (n : Bool) → bytes_eq word (codes "answer") ≡ n → (l : Bool) → bytes_eq word (codes "lost") ≡ l → (c : Bool) → bytes_eq word (codes "close") ≡ c
        → (if h then datagram_step rest else if n then answer_step rest else if l then lost_step rest else if c then close_step rest else None) ≡ Some a → SpellsStep (word ++ 32 ∷ rest) a
    by true same n _ l _ c _ x = under (codes "heard") same (heard-spelled rest a x)
    by false _ true same l _ c _ x = under (codes "answer") same (answered-spelled rest a x)
    by false _ false _ true same c _ x = under (codes "lost") same (lost-spelled rest a x)
    by false _ false _ false _ true same x = under (codes "close") same (closed-spelled rest a x)
    by false _ false _ false _ false _ x = absurd (cc x)

pub step-spelled : (line : List ℕ) (a : Act) → step line ≡ Some a → Spells line a
unfolding step
step-spelled line a is =
    let p = bind-some (split_words (without_return line)) _ a is in
    (without_return line, says-without line, subst (λ words. SpellsStep words a) (sym (parted-is 32 (without_return line) p.0 p.1)) (act-spelled p.0.0 p.0.1 a p.2))

-- ---- what is spelled is read

abbrev reads : List ℕ → Option Act
reads words = option_and_then (λ (p : List ℕ × List ℕ). act p.0 p.1) (split_words words)

ticket-from : (hex : List ℕ) (t : Ticket) → SpellsTicket hex t → ticket hex ≡ Some t
ticket-from hex t is = ap (λ (r : Result (List ℕ) FromHexError). option_map (λ (bytes : List ℕ). let x : Ticket = record { 0 = bytes } in x) (result_ok r)) is

counter-from : (text : List ℕ) (fcnt round : ℕ) → SpellsCounter text fcnt round → counter text ≡ Some (fcnt, round)
unfolding counter later_round
counter-from text fcnt round (inl (is, first)) = rw (unparted 58 text (number-without 58 refl text fcnt is), is, first) refl
counter-from text fcnt round (inr (before, behind, is, is_fcnt, is_round, above)) =
    let whole : split_by 58 text ≡ Some (before, behind) = ap (split_by 58) is ∙ parted-from 58 before behind (number-without 58 refl before fcnt is_fcnt) in
    let later : nat_lt 1 round ≡ true = grind (arith, nat_tests, above) in
    rw (whole, is_fcnt, is_round, later) refl

closed-from : (rest : List ℕ) (w : WindowName) → SpellsWindow rest w → close_step rest ≡ Some (Close w)
unfolding close_step window
closed-from rest w spelled =
    let tail : List ℕ = spelled.session ++ (32 ∷ spelled.fcnt) in
    let whole : split_words rest ≡ Some (spelled.eui, tail) = ap split_words spelled.are ∙ parted-from 32 spelled.eui tail (sized-no_space spelled.eui 8 spelled.bytes spelled.hex) in
    let inner : split_words tail ≡ Some (spelled.session, spelled.fcnt) = parted-from 32 spelled.session spelled.fcnt (number-without 32 refl spelled.session w.session spelled.is_session) in
    rw (whole, spelled.hex, inner, spelled.is_session, counter-from spelled.fcnt w.fcnt w.round spelled.is_fcnt, spelled.is_eui) refl

reads-from : (words : List ℕ) (a : Act) → SpellsStep words a → reads words ≡ Some a
unfolding act datagram_step answer_step lost_step
reads-from words (Datagram bytes) (hex, is, decoded, some) =
    let is_some : nat_lt 0 (length bytes) ≡ true = grind (arith, nat_tests, some) in
    rw (is, parted-from 32 (codes "heard") hex refl, decoded, is_some) refl
reads-from words (Answer t text) (hex, is, spelled) =
    rw (is, parted-from 32 (codes "answer") (hex ++ (32 ∷ text)) refl, parted-from 32 hex text (sized-no_space hex 23 t.0 spelled), ticket-from hex t spelled) refl
reads-from words (Lost t) (hex, is, spelled) =
    rw (is, parted-from 32 (codes "lost") hex refl, ticket-from hex t spelled) refl
reads-from words (Close w) (rest, is, spelled) =
    rw (is, parted-from 32 (codes "close") rest refl) (closed-from rest w spelled)

pub spelled-step : (line : List ℕ) (a : Act) → Spells line a → step line ≡ Some a
unfolding step
spelled-step line a (words, says, spelled) = ap reads (without-says line words says) ∙ reads-from words a spelled
