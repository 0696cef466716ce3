-- Lemmas on values that an option cannot have.
use Rattle.std.proofs.Common.{◌≡◌, ◌≢◌, ◌<◌, ◌≤◌, ◌^◌, ℕ, List, [], true, Option, Some, None, Ok, Err, Result, option_map, is_some, refl, sym, ap, subst, ◌∙◌, arith, inl, inr}
use Rattle.std.specs.Prelude.{IfErr, IfOk, codes, find}
use Rattle.std.specs.Result.{IsErrAnd}
use Rattle.std.specs.Str.{bytes_eq}
use Rattle.std.specs.Option.{ok_or}
use Rattle.std.specs.Net.Grammar.{IsSocketText, Parses}
use Rattle.std.specs.Str.Parse.{IsNumeral, ParsesUnsigned, digits_value, without_leading_plus}
use Rattle.std.specs.declared.net.socket_addr.SocketAddr.{SocketAddr}
use Rattle.clap.specs.Words.{ReadsOne, HasKind, IsAmong, Row, Text, fault_of, first_of, first_value, matched_of, one_of, one_text, rows_of, subcommand_of}
use Rattle.clap.specs.Values.{kind_of}
use Rattle.clap.specs.declared.error.Error.{Error}
use Rattle.clap.specs.declared.parser.matches.Found.{Found}
use Rattle.clap.specs.Facts.{Entry}
use Rattle.clap.specs.Walk.{row_of}
use Rattle.clap.proofs.WalkLemmas.{find_row, first_value-rows, one_text-rows}
use Rattle.ns_words.specs.declared.options.BadWords.{BadWords}
use Rattle.ns_words.specs.declared.options.BadWords.TheVariants.{NoMemory, NotText, BadValue, Shown}
use Rattle.ns_words.specs.declared.options.OptionName.{OptionName}
use Rattle.ns_words.specs.declared.options.OptionName.TheVariants.{Output}
use Rattle.ns_words.specs.Asked.{IsAddrIfGiven, IsAsked, IsCount, IsDoable, IsNumber}
use Rattle.ns_words.specs.declared.options.Asked.{Asked}
use Rattle.clap.specs.declared.error.kind.ErrorKind.TheVariants.{OutOfMemory}
use Rattle.ns_words.specs.Refused.{HasBadValue, IsAddress, HasNoAddr, HasNoCount, IsNoOutput, IsOfClap, IsRead, IsReadBehind, IsRefusal, IsRefused, IsRefusedBehind, IsThere, IsTold}
use Rattle.ns_words.specs.Commands.{program}

-- no value was read: what the option's text says is none
pub none_read : {T E : Type 0} (G : Text → Result T E → Type 0) (f : Found) (id : Text) (r : Option T) (P : Text → Type 0)
    → ((t : Text) → one_text f id ≡ Some t → ReadsOne G t r) → r ≡ None → ((t : Text) (e : E) → G t (Err e) → ¬ P t)
    → (t : Text) → one_of id (rows_of f) ≡ Some t → ¬ P t
none_read G f id r P value none bad t is p =
    let read : ReadsOne G t None = subst (ReadsOne G t) none (value t (one_text-rows f id ∙ is)) in
    bad t read.0 read.1 p

pub HasNoAddr-read : (E : Type 0) (f : Found) (id : Text) (r : Option SocketAddr)
    → ((t : Text) → one_text f id ≡ Some t → ReadsOne {E = E} (Parses IsSocketText) t r) → r ≡ None → HasNoAddr id (rows_of f)
HasNoAddr-read E f id r value none addr has =
    none_read (Parses IsSocketText) f id r (λ t. IsSocketText t addr) value none (λ t e h. h addr) has.0 has.1 has.2

pub HasNoCount-read : (E : Type 0) (Q R : Text → Result ℕ E → Type 0) (f : Found) (id : Text) (r : Option ℕ) (most : ℕ) → most < 2 ^ 32
    → ((t : Text) → one_text f id ≡ Some t → ReadsOne (λ t r. ParsesUnsigned 32 10 t r × Q t r × R t r) t r) → r ≡ None
    → HasNoCount id most (rows_of f)
HasNoCount-read E Q R f id r most below value none n has =
    let number = has.0 in
    let small : digits_value 10 (without_leading_plus number.0) < 2 ^ 32 = subst (λ k. k < 2 ^ 32) number.3 (omega arith) in
    none_read (λ t r. ParsesUnsigned 32 10 t r × Q t r × R t r) f id r
    (λ t. IsNumeral 10 (without_leading_plus t) × (digits_value 10 (without_leading_plus t) < 2 ^ 32)) value none (λ t e h. h.0) number.0 number.1
    (number.2, small)

pub some_same : {A : Type 0} (x y : A) → Some x ≡ Some y → x ≡ y
some_same x y same = cc

-- an option's value is one number
pub one_number : (id : Text) (rows : List Row) (m n : ℕ) → IsNumber id rows m → IsNumber id rows n → m ≡ n
one_number id rows m n a b =
    let same : a.0 ≡ b.0 = some_same a.0 b.0 (sym a.1 ∙ b.1) in
    a.3 ∙ (ap (λ (t : Text). digits_value 10 (without_leading_plus t)) same ∙ sym b.3)

-- an option with an entry is there
pub is_there : (f : Found) (id : Text) → is_some (matched_of f id) ≡ true → IsThere id (rows_of f)
is_there f id has =
    ap (λ o. is_some (option_map (λ (r : Row). r.values) o)) (find_row f.entries.items id) ∙ go (find (λ e. bytes_eq e.0.now id) f.entries.items) has
  where
    go : (o : Option Entry) → is_some (option_map (λ (e : Entry). e.1) o) ≡ true → is_some (option_map (λ (r : Row). r.values) (option_map row_of o)) ≡ true
    go None h = h
    go (Some e) h = refl

pub IfErr-ok_or : {A E : Type 0} (r : Option A) (e : E) (P : E → Type 0) → (r ≡ None → P e) → IfErr (ok_or r e) P
IfErr-ok_or None e P h = h refl
IfErr-ok_or (Some x) e P h = tt

-- what the words are refused for, by clap and behind a command's name
pub refusal_by_clap : (words : List Text) (error : Error) (bad : BadWords) → HasKind (fault_of program words) error → IsOfClap error bad → IsRefusal words bad
refusal_by_clap words error NoMemory kinds h = tt
refusal_by_clap words error NotText kinds h = absurd h
refusal_by_clap words error (BadValue option) kinds h = absurd h
refusal_by_clap words error (Shown shown) (inl memory) h = absurd (h.1 memory)
refusal_by_clap words error (Shown shown) (inr among) h = subst (λ (e : Error). IsAmong (kind_of e) (fault_of program words)) (sym h.0) among

pub refusal_behind : (words : List Text) (name : Text) (rows : List Row) (bad : BadWords) → fault_of program words ≡ []
    → subcommand_of program words ≡ Some (name, rows) → IsRefusedBehind name rows bad → IsRefusal words bad
refusal_behind words name rows NoMemory none named h = tt
refusal_behind words name rows NotText none named h = absurd h
refusal_behind words name rows (BadValue option) none named h = (none, (name, rows, named, h.0, h.1))
refusal_behind words name rows (Shown error) none named h = absurd h

-- an option without a first value has none in its row
pub no_first : (f : Found) (id t : Text) → None ≡ first_value f id → first_of id (rows_of f) ≡ Some t → ⊥
no_first f id t none is = let bad : None ≡ Some t = none ∙ (first_value-rows f id ∙ is) in cc

-- the error that a `?` made of another
pub made_err : {T E : Type 0} (r : Result T E) (P Q : E → Type 0) → ((e : E) → Q e → P e) → IsErrAnd r Q → IfErr r P
made_err (Ok x) P Q f is = absurd is
made_err (Err x) P Q f is = f x is

-- and one that it passes on
pub from_err : {T E : Type 0} (r : Result T E) (P : E → Type 0) (e : E) → P e → IsErrAnd r (λ x. x ≡ e) → IfErr r P
from_err r P e p is = made_err r P (λ x. x ≡ e) (λ x is. subst P (sym is) p) is

-- an error that a `?` passes on, and one of a value that an option cannot have
pub read_on : {T : Type 0} (r : Result T BadWords) (rows : List Row) (P : T → Type 0) (bad : BadWords) → IsRefused rows bad → IsErrAnd r (λ x. x ≡ bad)
    → IsRead rows P r
read_on (Ok x) rows P bad h made = absurd made
read_on (Err x) rows P bad h made = subst (IsRefused rows) (sym made) h

pub refused_for : {T : Type 0} (r : Result T BadWords) (rows : List Row) (P : T → Type 0) (name : OptionName) (bad : BadWords) → bad ≡ BadValue name
    → HasBadValue name rows → IsErrAnd r (λ x. x ≡ bad) → IsRead rows P r
refused_for r rows P name bad is has made = read_on r rows P bad (subst (IsRefused rows) (sym is) has) made

-- and behind a command's name
pub behind_on : (r : Result Asked BadWords) (name : Text) (rows : List Row) (bad : BadWords) → IsRefusedBehind name rows bad → IsErrAnd r (λ x. x ≡ bad)
    → IsReadBehind name rows r
behind_on (Ok x) name rows bad h made = absurd made
behind_on (Err x) name rows bad h made = subst (IsRefusedBehind name rows) (sym made) h

-- what was read behind a command's name can be done, and what was refused is told
pub behind_doable : (r : Result Asked BadWords) (name : Text) (rows : List Row) → IsReadBehind name rows r → IfOk r IsDoable
behind_doable (Ok asked) name rows h = h.0
behind_doable (Err bad) name rows h = tt

pub behind_told : (r : Result Asked BadWords) (name : Text) (rows : List Row) → IsReadBehind name rows r → IfErr r IsTold
behind_told (Ok asked) name rows h = tt
behind_told (Err NoMemory) name rows h = tt
behind_told (Err NotText) name rows h = h
behind_told (Err (BadValue option)) name rows h = tt
behind_told (Err (Shown error)) name rows h = absurd h

pub behind_refused : (r : Result Asked BadWords) (words : List Text) (name : Text) (rows : List Row) → fault_of program words ≡ []
    → subcommand_of program words ≡ Some (name, rows) → IsReadBehind name rows r → IfErr r (IsRefusal words)
behind_refused (Ok asked) words name rows none named h = tt
behind_refused (Err bad) words name rows none named h = refusal_behind words name rows bad none named h

pub behind_asked : (r : Result Asked BadWords) (words : List Text) (name : Text) (rows : List Row) → fault_of program words ≡ []
    → subcommand_of program words ≡ Some (name, rows) → IsReadBehind name rows r → IfOk r (IsAsked words)
behind_asked (Ok asked) words name rows none named h = (none, (rows, named ∙ ap (λ (n : Text). Some (n, rows)) h.1, h.2))
behind_asked (Err bad) words name rows none named h = tt

-- what clap refuses is told, and asks for nothing
pub told_of_clap : (error : Error) (bad : BadWords) → IsOfClap error bad → IsTold bad
told_of_clap error NoMemory h = tt
told_of_clap error NotText h = h
told_of_clap error (BadValue option) h = tt
told_of_clap error (Shown shown) h = subst (λ (e : Error). kind_of e ≢ OutOfMemory) (sym h.0) h.1

pub no_ok : {T E : Type 0} (r : Result T E) (P : T → Type 0) (Q : E → Type 0) → IsErrAnd r Q → IfOk r P
no_ok (Ok x) P Q made = absurd made
no_ok (Err x) P Q made = tt

-- what is refused behind `serve`, and behind `replay`
pub refused_serve : (name : Text) (rows : List Row) (bad : BadWords) → name ≡ codes "serve" → IsRefused rows bad → IsRefusedBehind name rows bad
refused_serve name rows NoMemory named h = absurd h
refused_serve name rows NotText named h = absurd h
refused_serve name rows (BadValue option) named h = (inl named, h)
refused_serve name rows (Shown error) named h = absurd h

pub refused_replay : (name : Text) (rows : List Row) (bad : BadWords) → name ≡ codes "replay" → bad ≡ BadValue Output → IsNoOutput rows
    → IsRefusedBehind name rows bad
refused_replay name rows bad named is other = subst (IsRefusedBehind name rows) (sym is) (inr (named, refl), other)

pub is_some-map : {A B : Type 0} (f : A → B) (o : Option A) → is_some (option_map f o) ≡ is_some o
is_some-map f None = refl
is_some-map f (Some x) = refl

-- an option with an address has it, and one with one worker at most has one
pub is_address : (id : Text) (rows : List Row) (o : Option SocketAddr) → IsAddrIfGiven id rows o → is_some o ≡ true → IsAddress id rows
is_address id rows None is there = cc
is_address id rows (Some addr) is there = (addr, is)

pub one_worker : (rows : List Row) (n : ℕ) → IsCount (codes "workers") 16 rows n → n ≤ 1 → IsCount (codes "workers") 16 rows (1)
one_worker rows n is most =
    let above : 0 < n = is.1 in
    let one : n ≡ 1 = omega arith in
    subst (λ (k : ℕ). IsCount (codes "workers") 16 rows k) one is
