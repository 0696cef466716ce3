-- Lemmas on what is read of an option's value.
use Rattle.std.proofs.Common.{◌≡◌, ◌<◌, ◌^◌, ℕ, List, Bool, true, false, Option, Some, None, Ok, Result, option_map, is_some, refl, sym, ap, ap₂, subst, ◌∙◌}
use Rattle.std.specs.Prelude.{IfOk, codes, unwrap_or}
use Rattle.std.specs.Option.{ok_or}
use Rattle.std.specs.Net.Grammar.{IsSocketText, Parses}
use Rattle.std.specs.Str.Parse.{IsNumeral, ParsesBool, ParsesUnsigned, digits_value, without_leading_plus}
use Rattle.std.specs.declared.net.socket_addr.SocketAddr.{SocketAddr}
use Rattle.clap.specs.Words.{ReadsOne, Row, Text, first_of, first_value, matched_of, one_of, one_text, rows_of}
use Rattle.clap.specs.declared.parser.matches.Found.{Found}
use Rattle.clap.specs.declared.parser.matches.MatchedArg.{MatchedArg}
use Rattle.clap.proofs.WalkLemmas.{first_value-rows, one_text-rows}
use Rattle.ns_words.specs.Asked.{IsAddr, IsFlag, IsNumber}

-- what a value's text was read to
one_read : {T E : Type 0} (G : Text → Result T E → Type 0) (f : Found) (id : Text) (r : Option T) (x : T)
    → (one_text f id ≡ None → r ≡ None) → ((t : Text) → one_text f id ≡ Some t → ReadsOne G t r) → r ≡ Some x
    → (t : Text) × (one_of id (rows_of f) ≡ Some t) × G t (Ok x)
one_read G f id r x none value is = go (one_text f id) refl
  where
    go : (o : Option Text) → one_text f id ≡ o → (t : Text) × (one_of id (rows_of f) ≡ Some t) × G t (Ok x)
    go None e = let bad : None ≡ Some x = sym (none e) ∙ is in cc
    go (Some t) e = (t, sym (one_text-rows f id) ∙ e, subst (ReadsOne G t) is (value t e))

pub IsNumber-read : (E : Type 0) (Q R : Text → Result ℕ E → Type 0) (f : Found) (id : Text) (r : Option ℕ) (n : ℕ)
    → (one_text f id ≡ None → r ≡ None)
    → ((t : Text) → one_text f id ≡ Some t → ReadsOne (λ t r. ParsesUnsigned 32 10 t r × Q t r × R t r) t r) → r ≡ Some n
    → IsNumber id (rows_of f) n
IsNumber-read E Q R f id r n none value is =
    let got = one_read (λ t r. ParsesUnsigned 32 10 t r × Q t r × R t r) f id r n none value is in
    let parsed : (IsNumeral 10 (without_leading_plus got.0) × (digits_value 10 (without_leading_plus got.0) < 2 ^ 32)) × (n ≡ digits_value 10 (without_leading_plus got.0)) = got.2.0 in
    (got.0, got.1, parsed.0.0, parsed.1)

pub IsAddr-read : (E : Type 0) (f : Found) (id : Text) (r : Option SocketAddr) (a : SocketAddr)
    → (one_text f id ≡ None → r ≡ None) → ((t : Text) → one_text f id ≡ Some t → ReadsOne {E = E} (Parses IsSocketText) t r) → r ≡ Some a
    → IsAddr id (rows_of f) a
IsAddr-read E f id r a none value is = one_read (Parses IsSocketText) f id r a none value is

pub IfOk-ok_or : {A E : Type 0} (r : Option A) (e : E) (P : A → Type 0) → ((x : A) → r ≡ Some x → P x) → IfOk (ok_or r e) P
IfOk-ok_or None e P h = tt
IfOk-ok_or (Some x) e P h = h x refl

-- an option with no entry has no value
pub no_value : (f : Found) (id : Text) → is_some (matched_of f id) ≡ false → one_of id (rows_of f) ≡ None
no_value f id absent = sym (one_text-rows f id) ∙ go (matched_of f id) refl absent
  where
    go : (o : Option MatchedArg) → matched_of f id ≡ o → is_some o ≡ false → one_text f id ≡ None
    go None e h = rw e refl
    go (Some m) e h = cc

pub first_of-got : (f : Found) (id t : Text) → first_value f id ≡ Some t → first_of id (rows_of f) ≡ Some t
first_of-got f id t got = sym (first_value-rows f id) ∙ got

pub IsFlag-read : (E : Type 0) (f : Found) (id : Text) (r : Option Bool) → (one_text f id ≡ None → r ≡ None)
    → ((t : Text) → one_text f id ≡ Some t → ReadsOne {E = E} ParsesBool t r) → IsFlag id (rows_of f) (unwrap_or r false)
IsFlag-read E f id r none value = go (one_text f id) refl r (λ e. none e) value
  where
    given : (t : Text) (r : Option Bool) → one_text f id ≡ Some t → ReadsOne {E = E} ParsesBool t r → IsFlag id (rows_of f) (unwrap_or r false)
    given t (Some true) e h = sym (one_text-rows f id) ∙ (e ∙ ap Some h)
    given t (Some false) e h = λ is.
        let same : Some t ≡ Some (codes "true") = sym e ∙ (one_text-rows f id ∙ is) in
        let other : t ≡ codes "false" = h in
        cc
    given t None e h = λ is.
        let same : Some t ≡ Some (codes "true") = sym e ∙ (one_text-rows f id ∙ is) in
        h.1.0 cc

    go : (o : Option Text) → one_text f id ≡ o → (r : Option Bool) → (one_text f id ≡ None → r ≡ None)
        → ((t : Text) → one_text f id ≡ Some t → ReadsOne {E = E} ParsesBool t r) → IsFlag id (rows_of f) (unwrap_or r false)
    go (Some t) e r none value = given t r e (value t e)
    go None e r none value = rw (none e) (λ is. let bad : None ≡ Some (codes "true") = sym e ∙ (one_text-rows f id ∙ is) in cc)

some_same : {A : Type 0} (x y : A) → Some x ≡ Some y → x ≡ y
some_same x y same = cc

-- what was met, of the name and of the rows that the getters give
pub both_met : {B : Type 0} (sub : Option B) (f : B → Text) (g : B → List Row) (name : Text) (rows : List Row)
    → Some name ≡ option_map f sub → Some rows ≡ option_map (λ (p : Text × List Row). p.1) (option_map {U = Text × List Row} (λ b. (f b, g b)) sub)
    → option_map {U = Text × List Row} (λ b. (f b, g b)) sub ≡ Some (name, rows)
both_met None f g name rows n r = cc
both_met (Some b) f g name rows n r = ap₂ {C = Option (Text × List Row)} (λ x y. Some (x, y)) (some_same (f b) name (sym n)) (some_same (g b) rows (sym r))
