use Rattle.std.proofs.Common.{◌≡◌, ◌++◌, [], rules, refl, sym, ap, ◌∙◌, subst, append_assoc, append-nil, take-append-drop}
use Rattle.std.proofs.KnownBytes.{Appends-trans}
use Rattle.std.proofs.lemmas.List.{nil_from_length}
use Rattle.std.specs.Io.KnownBytes.{Appends}
use Rattle.ns_replay.proofs.FrontLemmas.{front_behind}
use Rattle.ns_replay.proofs.run.write_text.Goals as goal

pub returns-in_err-write_all-clause-front : goal.returns-in_err-write_all-clause-front
returns-in_err-write_all-clause-front g c =
    let (written, appended, whole) = c.pieces.invariant.whole in
    let piece = c.split_at.result.0.now in
    let others = c.split_at.result.1.now in
    let cut : piece ++ others ≡ c.pieces.rest.now = rw (c.split_at.ensures.front, c.split_at.ensures.back) (take-append-drop _ c.pieces.rest.now) in
    front_behind _ _ _ written piece piece others _ appended (ap (λ l. written ++ l) cut ∙ whole) refl c.in_err-write_all.ensures.front

pub pieces-preserved : goal.pieces-preserved
pieces-preserved g c =
    let (written, appended, whole) = c.pieces.invariant.whole in
    let piece = c.split_at.result.0.now in
    let others = c.split_at.result.1.now in
    let cut : piece ++ others ≡ c.pieces.rest.now = rw (c.split_at.ensures.front, c.split_at.ensures.back) (take-append-drop _ c.pieces.rest.now) in
    record {
      sound = search rules;
      whole = (written ++ piece, Appends-trans _ _ _ _ _ appended c.in_ok-write_all.ensures.ok, append_assoc written piece others ∙ (ap (λ l. written ++ l) cut ∙ whole));
    }

pub returns-clause-ok : goal.returns-clause-ok
returns-clause-ok g c =
    let (written, appended, whole) = c.pieces.invariant.whole in
    let nothing : c.pieces.rest.now ≡ [] = nil_from_length _ (search rules) in
    let all : written ≡ c.args.text.now = sym (append-nil written) ∙ ap (λ l. written ++ l) (sym nothing) ∙ whole in
    subst (Appends _ _) all appended

pub returns-clause-front : goal.returns-clause-front
returns-clause-front g c =
    let (written, appended, whole) = c.pieces.invariant.whole in
    let nothing : c.pieces.rest.now ≡ [] = nil_from_length _ (search rules) in
    let all : written ≡ c.args.text.now = sym (append-nil written) ∙ ap (λ l. written ++ l) (sym nothing) ∙ whole in
    (c.args.text.now, [], sym (append-nil c.args.text.now), subst (Appends _ _) all appended)
