use Rattle.std.proofs.Common.{◌≡◌, ◌∙◌, length, inl, refl, sym, eqb-true}
use Rattle.std.proofs.BufReadLemmas.{Consumes_shown}
use Rattle.lsp_message.proofs.Shown.{kept_shown}
use Rattle.lsp_session.proofs.Driver.{on_ok, on_err, reads_bytes, reads_end, reads_none, room}
use Rattle.lsp_session.proofs.loops.stream_session.read_some.Goals as goal

pub returns-in-Err-clause-read : goal.returns-in-Err-clause-read
returns-in-Err-clause-read g c =
    on_ok c.unless_interrupted.result (reads_none g.S.Service.behavior c.args.session.now c.requires.waits
    c.requires.sent _ _ c.fill_buf.follows.holds-at-none.0)

pub returns-then-is_empty-clause-read : goal.returns-then-is_empty-clause-read
returns-then-is_empty-clause-read g c =
    let kept = kept_shown _ _ _ _ _ c.in-Ok.is c.fill_buf.follows.holds-at-none in
    let none : length c.in-Ok.shown.now ≡ 0 = eqb-true _ _ (sym c.is_empty.ensures ∙ c.if-is_empty.true) in
    reads_end g.S.Service.behavior c.args.session.now c.requires.waits c.requires.sent c.closed.new.self _ _
    c.in-Ok.shown.now kept.0 c.in-Ok.ensures.end none c.closed.ensures.comes c.closed.ensures.unread
    (c.closed.ensures.end c.requires.waits)

pub returns-clause-read : goal.returns-clause-read
returns-clause-read g c =
    let kept = kept_shown _ _ _ _ _ c.in-Ok.is c.fill_buf.follows.holds-at-none in
    let taken = Consumes_shown _ _ _ _ _ c.receive-count.result c.receive-count.ensures.within c.in-Ok.ensures.front
    c.in-Ok.ensures.end kept.0 kept.1 c.consume.ensures.bytes in
    reads_bytes g.S.Service.behavior c.args.session.now c.requires.waits c.requires.sent c.receive-count.new.self _ _ _
    taken.0 c.receive-count.ensures.goes (c.receive-count.ensures.frame (λ over. absurd (c.requires.waits over)))
    (c.receive-count.ensures.paused (room g.S.Service.behavior c.args.session.now c.requires.waits c.requires.sent))

pub returns-in-Err-clause-kept : goal.returns-in-Err-clause-kept
returns-in-Err-clause-kept g c = on_err c.unless_interrupted.result (refl, c.fill_buf.follows.holds-at-none.0)

pub returns-then-is_empty-clause-served : goal.returns-then-is_empty-clause-served
returns-then-is_empty-clause-served g c = λ served. inl c.closed.ensures.over
