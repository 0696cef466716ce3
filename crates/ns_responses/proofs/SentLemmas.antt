-- What is given in the place of a response that a server sends in chunks.
use Rattle.std.proofs.Common.{◌≡◌, ℕ, suc, ◌+◌, ◌-◌, ◌<◌, ◌≤◌, ◌==◌, true, false, not, cond, List, [], ◌∷◌, ◌++◌, length, take, drop, map, Option, None, Some, refl, sym, ap, ◌∙◌, arith, append_assoc}
use Rattle.std.specs.Prelude.{All, nat_eq, flat_map, is_some}
use Rattle.std.specs.Option.{option_map}
use Rattle.std.specs.List.{list_any, filter, starts_with}
use Rattle.std.proofs.lemmas.Bool.{and_parts, or_left, or_parts}
use Rattle.std.proofs.lemmas.List.{length-append, map-append, take_all, drop_all, take-append-drop}
use Rattle.std.proofs.lemmas.List.Elements.{All-head, All-tail, filter-append}
use Rattle.std.proofs.lemmas.List.Folds.{flat_map-map, list_any-append}
use Rattle.std.proofs.lemmas.Grind.{flat_map-append}
use Rattle.http1.specs.ChunkedBody.{Chunks, AreChunks, print_chunks, content}
use Rattle.http1.specs.ChunkedDecoder.{start}
use Rattle.http1.proofs.ChunksComplete.{run_chunks}
use Rattle.ns_responses.specs.Lines.{lines_of, onto_line, section_length, section_of}
use Rattle.ns_responses.specs.Head.{is_framing, is_chunked, is_chunked_alone, framing_lines, is_chunked_head, unframed, is_transfer_encoding}
use Rattle.ns_responses.specs.Plain.{version_text, interim_text, unchanged, with_front, content_of, has_trailers, dechunked, chunked_body, plain_of}
use Rattle.ns_responses.specs.Sent.{line, section, Sent, sent_head, sent_bytes, plain_bytes, IsText, IsInterim, IsSent}
use Rattle.ns_responses.proofs.LinesLemmas.{ended_section, room_taken}
use Rattle.ns_responses.proofs.PlainLemmas.{plain_interim, plain_chunked}

-- no byte of a text is LF
abbrev HasNoFeed : List ℕ → Type 0
HasNoFeed text = list_any (λ b. b == 10) text ≡ false

more_text : (n : ℕ) (found : Option ℕ) → option_map suc (option_map (λ k. n + k) found) ≡ option_map (λ k. suc n + k) found
more_text n None = refl
more_text n (Some k) = ap Some (omega arith)

-- a line that has text goes on
text_on : (text tail : List ℕ) → HasNoFeed text → section_length true (text ++ tail) ≡ option_map (λ n. length text + n) (section_length true tail)
text_on [] tail none = same (section_length true tail)
  where
    same : (found : Option ℕ) → found ≡ option_map (λ n. 0 + n) found
    same None = refl
    same (Some n) = ap Some (omega arith)
text_on (b ∷ text) tail none =
    let parts = or_parts (b == 10) _ none in
    rw parts.0 (ap (option_map suc) (text_on text tail parts.1) ∙ more_text (length text) (section_length true tail))

line_on : (text tail : List ℕ) → IsText text → section_length false (text ++ tail) ≡ option_map (λ n. length text + n) (section_length true tail)
line_on [] tail is = absurd (omega (arith, is.some))
line_on (b ∷ text) tail is =
    let parts = or_parts (b == 10) _ is.one_line in
    rw (parts.0, is.no_return) (ap (option_map suc) (text_on text tail parts.1) ∙ more_text (length text) (section_length true tail))

-- the first line, and those behind it
section_cons : (text : List ℕ) (texts : List (List ℕ)) → section (text ∷ texts) ≡ text ++ (13 ∷ 10 ∷ section texts)
section_cons text texts = append_assoc (line text) (flat_map line texts) (line []) ∙ append_assoc text (13 ∷ 10 ∷ []) (section texts)

-- a section ends with its empty line
pub section_ends : (texts : List (List ℕ)) → All IsText texts → (rest : List ℕ) → section_length false (section texts ++ rest) ≡ Some (length (section texts))
section_ends [] all rest = refl
section_ends (text ∷ texts) all rest =
    let count : length (section (text ∷ texts)) ≡ length text + suc (suc (length (section texts))) =
    ap length (section_cons text texts) ∙ length-append text (13 ∷ 10 ∷ section texts) in
    ap (section_length false) (ap (λ l. l ++ rest) (section_cons text texts) ∙ append_assoc text (13 ∷ 10 ∷ section texts) rest)
    ∙ line_on text (13 ∷ 10 ∷ (section texts ++ rest)) (All-head IsText text texts all)
    ∙ ap (λ o. option_map (λ n. length text + n) (option_map suc (option_map suc o))) (section_ends texts (All-tail IsText text texts all) rest)
    ∙ ap Some (sym count)

-- its lines
line_first : (text rest : List ℕ) → HasNoFeed text → lines_of (text ++ (13 ∷ 10 ∷ rest)) ≡ line text ∷ lines_of rest
line_first [] rest none = refl
line_first (b ∷ text) rest none =
    let parts = or_parts (b == 10) _ none in
    rw parts.0 (ap (onto_line b) (line_first text rest parts.1))

section_lines : (texts : List (List ℕ)) → All IsText texts → lines_of (section texts) ≡ map line texts ++ (line [] ∷ [])
section_lines [] all = refl
section_lines (text ∷ texts) all =
    ap lines_of (section_cons text texts)
    ∙ line_first text (section texts) (All-head IsText text texts all).one_line
    ∙ ap (λ l. line text ∷ l) (section_lines texts (All-tail IsText text texts all))

-- lines that do not frame the body
lines_apart : (texts : List (List ℕ)) → list_any (λ text. is_framing (line text)) texts ≡ false
    → (filter is_framing (map line texts) ≡ []) × (filter (λ l. not (is_framing l)) (map line texts) ≡ map line texts)
lines_apart [] none = (refl, refl)
lines_apart (text ∷ texts) none =
    let parts = or_parts (is_framing (line text)) _ none in
    let rest = lines_apart texts parts.1 in
    rw parts.0 (rest.0, ap (λ l. line text ∷ l) rest.1)

-- a head in which one line names the coding
module _ (xs : List (List ℕ)) (coding : List ℕ) (ys : List (List ℕ)) (texts : All IsText (xs ++ (coding ∷ ys)))
    (chunked : is_chunked (line coding) ≡ true) (others : list_any (λ text. is_framing (line text)) (xs ++ ys) ≡ false) where
  abbrev head : List ℕ
  head = section (xs ++ (coding ∷ ys))

  apart : (list_any (λ text. is_framing (line text)) xs ≡ false) × (list_any (λ text. is_framing (line text)) ys ≡ false)
  apart = or_parts _ _ (sym (list_any-append (λ text. is_framing (line text)) xs ys) ∙ others)

  framing : is_framing (line coding) ≡ true
  framing = or_left _ _ (and_parts (is_transfer_encoding (line coding)) _ chunked).0

  lines_are : lines_of head ≡ map line xs ++ (line coding ∷ (map line ys ++ (line [] ∷ [])))
  lines_are = section_lines (xs ++ (coding ∷ ys)) texts
      ∙ ap (λ l. l ++ (line [] ∷ [])) (map-append line xs (coding ∷ ys))
      ∙ append_assoc (map line xs) (line coding ∷ map line ys) (line [] ∷ [])

  framing_are : framing_lines head ≡ line coding ∷ []
  framing_are = ap (filter is_framing) lines_are
      ∙ filter-append is_framing (map line xs) (line coding ∷ (map line ys ++ (line [] ∷ [])))
      ∙ ap (λ l. l ++ filter is_framing (line coding ∷ (map line ys ++ (line [] ∷ [])))) (lines_apart xs apart.0).0
      ∙ ap (λ t. cond t (line coding ∷ filter is_framing (map line ys ++ (line [] ∷ []))) (filter is_framing (map line ys ++ (line [] ∷ [])))) framing
      ∙ ap (λ l. line coding ∷ l) (filter-append is_framing (map line ys) (line [] ∷ []) ∙ ap (λ l. l ++ []) (lines_apart ys apart.1).0)

  pub head_is_chunked : is_chunked_head head ≡ true
  head_is_chunked = ap is_chunked_alone framing_are ∙ chunked

  pub head_unframed : unframed head ≡ section (xs ++ ys)
  head_unframed =
      let kept = λ (l : List ℕ). not (is_framing l) in
      let rest = map line ys ++ (line [] ∷ []) in
      let lines : filter kept (lines_of head) ≡ map line xs ++ rest =
      ap (filter kept) lines_are
      ∙ filter-append kept (map line xs) (line coding ∷ rest)
      ∙ ap (λ l. l ++ filter kept (line coding ∷ rest)) (lines_apart xs apart.0).1
      ∙ ap (λ t. map line xs ++ cond (not t) (line coding ∷ filter kept rest) (filter kept rest)) framing
      ∙ ap (λ l. map line xs ++ l) (filter-append kept (map line ys) (line [] ∷ []) ∙ ap (λ l. l ++ (line [] ∷ [])) (lines_apart ys apart.1).1) in
      ap (flat_map (λ l. l)) (lines ∙ sym (append_assoc (map line xs) (map line ys) (line [] ∷ [])) ∙ ap (λ l. l ++ (line [] ∷ [])) (sym (map-append line xs ys)))
      ∙ flat_map-append (λ (l : List ℕ). l) (map line (xs ++ ys)) (line [] ∷ [])
      ∙ ap (λ l. l ++ line []) (flat_map-map (λ (l : List ℕ). l) line (xs ++ ys))

-- a text that bytes begin with is one with a shorter one
shorter_start : (text more bytes : List ℕ) → starts_with nat_eq bytes (text ++ more) ≡ true → starts_with nat_eq bytes text ≡ true
shorter_start [] more bytes e = refl
shorter_start (t ∷ text) more [] e = cc
shorter_start (t ∷ text) more (b ∷ bytes) e =
    let parts = and_parts (nat_eq t b) _ e in
    rw parts.0 (shorter_start text more bytes parts.1)

-- a head of lines ends where it does
pub head_ends : (texts : List (List ℕ)) → All IsText texts → length (section texts) ≤ 4096 → starts_with nat_eq (section texts) version_text ≡ true
    → (more : List ℕ) → section_of version_text (section texts ++ more) ≡ Some (length (section texts))
head_ends texts all short version = ended_section version_text (section texts) (length (section texts)) (long version_text (section texts) version) short version (section_ends texts all)
  where
    long : (text bytes : List ℕ) → starts_with nat_eq bytes text ≡ true → length text ≤ length bytes
    long [] bytes e = omega arith
    long (t ∷ text) [] e = cc
    long (t ∷ text) (b ∷ bytes) e = let rest = long text bytes (and_parts (nat_eq t b) _ e).1 in omega (arith, rest)

-- interim heads are passed over
pub interim_passed : (heads : ℕ) (interim : List (List (List ℕ))) → All IsInterim interim → length interim < heads → (rest : List ℕ)
    → plain_of heads (flat_map section interim ++ rest) ≡ plain_of (heads - length interim) rest
interim_passed heads [] all few rest = let e : heads ≡ heads - 0 = omega arith in ap (λ n. plain_of n rest) e
interim_passed heads (texts ∷ interim) all few rest =
    let is = All-head IsInterim texts interim all in
    let head = section texts in
    let n = length head in
    let whole : take n head ≡ head = take_all n head (omega arith) in
    let none : drop n head ≡ [] = drop_all n head (omega arith) in
    let version = shorter_start version_text (49 ∷ []) head is.status in
    let later = flat_map section interim ++ rest in
    let count : heads - 1 - length interim ≡ heads - suc (length interim) = omega arith in
    ap (plain_of heads) (append_assoc head (flat_map section interim) rest)
    ∙ plain_interim heads head n (omega (arith, few)) (omega arith) (head_ends texts is.texts is.short version) (ap (λ l. starts_with nat_eq l interim_text) whole ∙ is.status) later
    ∙ ap (λ l. plain_of (heads - 1) (l ++ later)) none
    ∙ interim_passed (heads - 1) interim (All-tail IsInterim texts interim all) (omega (arith, few)) rest
    ∙ ap (λ n. plain_of n rest) count

-- trailers that stand there
trailers_there : (texts : List (List ℕ)) → All IsText texts → length (section texts) ≤ 4096 → (more : List ℕ) → has_trailers (section texts ++ more) ≡ true
trailers_there texts all short more = ap is_some (ended_section [] (section texts) (length (section texts)) (omega arith) short refl (section_ends texts all) more)

-- a chunked body that is whole
pub body_whole : (chunks : Chunks) (trailers : List (List ℕ)) (more : List ℕ) → AreChunks 65536 chunks → length (print_chunks chunks) ≤ 65536 → All IsText trailers → length (section trailers) ≤ 4096
    → chunked_body (print_chunks chunks ++ (section trailers ++ more)) ≡ unchanged (content chunks)
body_whole chunks trailers more are fits all short =
    let text = print_chunks chunks in
    let rest = section trailers ++ more in
    let k = 65536 - length text in
    let taken = room_taken text rest 65536 (length text) refl fits in
    let ran = run_chunks 65536 (text ++ take k rest) chunks (take k rest) (are, refl) in
    let there : has_trailers (take k rest ++ drop k rest) ≡ true = ap has_trailers (take-append-drop k rest) ∙ trailers_there trailers all short more in
    (λ i. dechunked (start 65536) (taken.0 i) (taken.1 i))
    ∙ ap (λ r. content_of r (drop k rest)) ran
    ∙ (λ i. record { bytes = content chunks; whole = there i })

-- all of it
pub sent_plain : (s : Sent) (more : List ℕ) → IsSent s → plain_of 16 (sent_bytes s ++ more) ≡ unchanged (plain_bytes s)
sent_plain s more is =
    let xs = s.start ∷ s.before in
    let head = sent_head s in
    let n = length head in
    let body = print_chunks s.chunks ++ section s.trailers in
    let later = print_chunks s.chunks ++ (section s.trailers ++ more) in
    let heads = 16 - length s.interim in
    let whole : take n head ≡ head = take_all n head (omega arith) in
    let none : drop n head ≡ [] = drop_all n head (omega arith) in
    let regrouped : sent_bytes s ++ more ≡ flat_map section s.interim ++ (head ++ later) =
    append_assoc (flat_map section s.interim) (head ++ body) more
    ∙ ap (λ l. flat_map section s.interim ++ l) (append_assoc head body more ∙ ap (λ l. head ++ l) (append_assoc (print_chunks s.chunks) (section s.trailers) more)) in
    ap (plain_of 16) regrouped
    ∙ interim_passed 16 s.interim is.interim (omega (arith, is.few)) (head ++ later)
    ∙ plain_chunked heads head n (omega (arith, is.few)) (omega arith) (head_ends (xs ++ (s.coding ∷ s.after)) is.texts is.short is.version)
    (ap (λ l. starts_with nat_eq l interim_text) whole ∙ is.final)
    (ap is_chunked_head whole ∙ head_is_chunked xs s.coding s.after is.texts is.coding is.others)
    later
    ∙ ap (λ l. with_front (unframed l) (chunked_body (drop n head ++ later))) whole
    ∙ ap (λ l. with_front (unframed head) (chunked_body (l ++ later))) none
    ∙ ap (with_front (unframed head)) (body_whole s.chunks s.trailers more is.chunks is.few_coded is.trailers is.short_trailers)
    ∙ ap (λ l. with_front l (unchanged (content s.chunks))) (head_unframed xs s.coding s.after is.texts is.coding is.others)
