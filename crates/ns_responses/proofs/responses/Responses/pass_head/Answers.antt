use Rattle.std.proofs.Common.{◌≡◌, ◌≤◌, ◌-◌, [], ◌++◌, ap, sym, subst, ◌∙◌, false, true, length, take, drop}
use Rattle.std.specs.Prelude.{nat_eq}
use Rattle.std.specs.List.{starts_with}
use Rattle.ns_responses.specs.declared.part.Part.TheVariants.{Head, Chunks, Unchanged}
use Rattle.ns_responses.specs.Held.{HeldBytes}
use Rattle.ns_responses.specs.Head.{is_chunked_head, unframed}
use Rattle.ns_responses.specs.Plain.{interim_text, with_front, dechunked}
use Rattle.ns_responses.proofs.PlainLemmas.{plain_interim, plain_chunked, plain_other}
use Rattle.ns_responses.proofs.StepLemmas.{given_by, given_unready, given_held, gives_same, cut_ready, cut_unread, body_behind}
use Rattle.ns_responses.proofs.responses.Responses.pass_head.Goals as goal

pub returns-then-starts_with-clause-gives : goal.returns-then-starts_with-clause-gives
returns-then-starts_with-clause-gives g c =
    let now = c.args.self.now in
    let u = now.held.unread in
    let n = c.args.end in
    let heads = c.args.heads in
    let begins : starts_with nat_eq (take n u) interim_text ≡ true = ap (λ l. starts_with nat_eq (take n l) interim_text) (sym c.unread-unread.ensures.value) ∙ sym c.starts_with.ensures.value ∙ c.if-starts_with.true in
    gives_same (g.S.Source.left now.stream) _ (given_by (Head (heads - 1)) c.skip.new.self) [] (λ more.
    given_unready now.part (Head heads) now.held c.requires.part.1 c.requires.unready more
    ∙ plain_interim heads u n c.requires.part.0 c.requires.head.0 c.requires.head.1 begins more
    ∙ sym (given_held (Head (heads - 1)) c.skip.new.self (drop n u) c.skip.ensures more))

pub returns-in_default-clause-gives : goal.returns-in_default-clause-gives
returns-in_default-clause-gives g c =
    let now = c.args.self.now in
    let u = now.held.unread in
    let n = c.args.end in
    let heads = c.args.heads in
    let begins : starts_with nat_eq (take n u) interim_text ≡ false = ap (λ l. starts_with nat_eq (take n l) interim_text) (sym c.unread-unread.ensures.value) ∙ sym c.starts_with.ensures.value ∙ c.if-starts_with.false in
    let unchunked : is_chunked_head (take n u) ≡ false = ap (λ l. is_chunked_head (take n l)) (sym c.unread-unread.ensures.value) ∙ sym c.in_default.ensures.found in
    gives_same (g.S.Source.left now.stream) _ (given_by Unchanged now.held) [] (λ more.
    given_unready now.part (Head heads) now.held c.requires.part.1 c.requires.unready more
    ∙ plain_other heads u n c.requires.part.0 c.requires.head.0 c.requires.head.1 begins unchunked more
    ∙ sym (given_unready Unchanged Unchanged now.held (λ i. Unchanged) c.requires.unready more))

pub returns-in-Some-clause-gives : goal.returns-in-Some-clause-gives
returns-in-Some-clause-gives g c =
    let now = c.args.self.now in
    let u = now.held.unread in
    let n = c.args.end in
    let s = c.in-Some.line.start in
    let e = c.in-Some.line.end in
    let heads = c.args.heads in
    let value = c.unread-unread.ensures.value in
    let begins : starts_with nat_eq (take n u) interim_text ≡ false = ap (λ l. starts_with nat_eq (take n l) interim_text) (sym value) ∙ sym c.starts_with.ensures.value ∙ c.if-starts_with.false in
    let chunked : is_chunked_head (take n u) ≡ true = ap (λ l. is_chunked_head (take n l)) (sym value) ∙ sym c.in-Some.ensures.found in
    let inside : e ≤ length (take n u) = subst (λ l. e ≤ length (take n l)) value c.in-Some.ensures.within.1 in
    let others : unframed (take n u) ≡ take s (take n u) ++ drop e (take n u) = subst (λ l. unframed (take n l) ≡ take s (take n l) ++ drop e (take n l)) value c.in-Some.ensures.others in
    let ordered = c.in-Some.ensures.within.0 in
    let held : c.release.new.self ≡ record { ready = unframed (take n u); unread = drop n u } =
    c.release.ensures ∙ ap (λ (h : HeldBytes). record { ready = take (n - (e - s)) h.unread; unread = drop (n - (e - s)) h.unread }) c.cut.ensures
    ∙ (λ i. record { ready = (cut_ready u n s e c.requires.head.0 ordered inside ∙ sym others) i; unread = cut_unread u n s e c.requires.head.0 ordered inside i }) in
    let room = 65536 - (length c.unread-unread.result.now - n) in
    let room_is : room ≡ 65536 - (length u - n) = ap (λ l. 65536 - (length l - n)) value in
    gives_same (g.S.Source.left now.stream) _ (given_by (Chunks c.new.result room) c.release.new.self) [] (λ more.
    given_unready now.part (Head heads) now.held c.requires.part.1 c.requires.unready more
    ∙ plain_chunked heads u n c.requires.part.0 c.requires.head.0 c.requires.head.1 begins chunked more
    ∙ ap (with_front (unframed (take n u))) (body_behind u n room more c.unread-unread.ensures.bound room_is
    ∙ ap (λ d. dechunked d (drop n u ++ take room more) (drop room more)) (sym c.new.ensures))
    ∙ sym (ap (λ h. given_by (Chunks c.new.result room) h more) held))
