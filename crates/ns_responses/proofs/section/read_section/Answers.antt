use Rattle.std.proofs.Common.{◌≡◌, ℕ, List, ◌++◌, length, Option, inl, inr, refl, ap, sym, subst, ◌∙◌, append_assoc, append-nil, length-append, arith}
use Rattle.std.proofs.KnownBytes.{Consumes-trans, Consumes-kept}
use Rattle.std.proofs.lemmas.List.{nil_from_length}
use Rattle.std.specs.Io.KnownBytes.{Consumes}
use Rattle.ns_responses.specs.Held.{HeldBytes, unready}
use Rattle.ns_responses.specs.Lines.{section_of}
use Rattle.ns_responses.specs.Finding.{IsSearchOf, HasSection}
use Rattle.ns_responses.proofs.LinesLemmas.{search-append}
use Rattle.ns_responses.proofs.section.read_section.Goals as goal

-- two reads, one after the other
more_read : (unread : List ℕ) (held new : HeldBytes) (a b c : Option (List ℕ)) (piece more : List ℕ) → held ≡ unready (unread ++ piece) → new ≡ unready (held.unread ++ more)
    → Consumes a b piece → Consumes b c more → (both : List ℕ) × (new ≡ unready (unread ++ both)) × Consumes a c both
more_read unread held new a b c piece more is grown first second = (
  piece ++ more,
  grown ∙ ap (λ (h : HeldBytes). unready (h.unread ++ more)) is ∙ ap unready (append_assoc unread piece more),
  Consumes-trans a b c piece more first second,
)

pub returns-in-Some-clause-read : goal.returns-in-Some-clause-read
returns-in-Some-clause-read g c = c.loop-found.invariant.read

pub returns-in-Some-clause-found : goal.returns-in-Some-clause-found
returns-in-Some-clause-found g c = inl (subst (λ l. HasSection c.args.text.now l c.in-Some.found) c.unread.ensures.value c.in-Some.ensures.known)

pub returns-in_err-fill-clause-read : goal.returns-in_err-fill-clause-read
returns-in_err-fill-clause-read g c =
    let before = c.loop-found.invariant.read in
    let kept = c.in_err-fill.ensures.piece in
    (before.0, kept.0 ∙ before.1, Consumes-kept _ _ _ _ before.2 kept.1)

pub returns-then-branch-eq0-clause-read : goal.returns-then-branch-eq0-clause-read
returns-then-branch-eq0-clause-read g c =
    let before = c.loop-found.invariant.read in
    let filled = c.in_ok-fill.ensures.piece in
    more_read c.args.held.now.unread c.loop-found.held c.fill.new.self _ _ _ before.0 filled.0 before.1 filled.1 before.2 filled.2

pub returns-then-branch-eq0-clause-found : goal.returns-then-branch-eq0-clause-found
returns-then-branch-eq0-clause-found g c =
    let filled = c.in_ok-fill.ensures.piece in
    let none = c.if-branch-eq0.true in
    let same = ap (λ (h : HeldBytes). h.unread) filled.1
    ∙ ap (λ l. c.loop-found.held.unread ++ l) (nil_from_length filled.0 (filled.3 ∙ none))
    ∙ append-nil c.loop-found.held.unread ∙ sym c.unread.ensures.value in
    inr (filled.5 none, ap (section_of c.args.text.now) same ∙ c.in_default.ensures.none, refl)

pub loop-found-smaller : goal.loop-found-smaller
loop-found-smaller g c =
    let filled = c.in_ok-fill.ensures.piece in
    let longer = ap (λ (h : HeldBytes). length h.unread) filled.1 in
    let short = ap length c.unread.ensures.value in
    omega (arith, longer, length-append c.loop-found.held.unread filled.0, filled.3, short, c.if-branch-eq0.false, c.in_default.ensures.room)

pub loop-found-preserved : goal.loop-found-preserved
loop-found-preserved g c =
    let before = c.loop-found.invariant.read in
    let filled = c.in_ok-fill.ensures.piece in
    let searched : IsSearchOf c.section_in.new.search c.loop-found.held.unread = rw (sym c.unread.ensures.value) c.in_default.ensures.searched in
    record {
      read = more_read c.args.held.now.unread c.loop-found.held c.fill.new.self _ _ _ before.0 filled.0 before.1 filled.1 before.2 filled.2;
      ready = ap (λ (h : HeldBytes). h.ready) filled.1;
      sound = c.in_ok-fill.ensures.failed;
      searched = rw (ap (λ (h : HeldBytes). h.unread) filled.1) (search-append c.section_in.new.search c.loop-found.held.unread filled.0 searched);
    }
