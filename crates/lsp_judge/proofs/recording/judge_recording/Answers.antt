use Rattle.std.proofs.Common.{◌≡◌, ◌≢◌, ◌⊎◌, inl, inr, ℕ, ◌+◌, ◌≤◌, List, [], ◌++◌, length, refl, sym, ap, ◌∙◌, arith}
use Rattle.std.proofs.Common.{true}
use Rattle.std.specs.Io.BufRead.{take_through, drop_through}
use Rattle.lsp_judge.proofs.EachLine.{at_start, goes_on, still_first, now_first, bound, nonempty, some_of}
use Rattle.lsp_judge.proofs.EachLine.{is_read_then, emptied, unread_at_end}
use Rattle.lsp_judge.proofs.recording.judge_recording.Goals as goal
use Rattle.lsp_judge.proofs.recording.judge_recording.Goals.{else-not-is_read-via-then-not-is_read+else-unread-eq0}
use Rattle.lsp_judge.proofs.recording.judge_recording.Goals.{else-not-is_read-via-else-not-is_read}

pub loop-rest-init : goal.loop-rest-init
loop-rest-init g c = (
  refl,
  λ judges ignored none. at_start c.args.report.now.choice.now c.args.report.now.may_begin_late c.args.text.now
      c.args.judged.now judges,
  omega arith,
)

pub loop-rest-preserved-then-unread-eq0 : goal.loop-rest-preserved-then-unread-eq0
loop-rest-preserved-then-unread-eq0 g c =
    let some : length c.loop-rest.rest.now ≢ 0 = nonempty _ c.is_empty.result c.is_empty.ensures
    c.loop-rest-test.true in
    let less : c.read_until.new.self.now ≡ drop_through 10 c.loop-rest.rest.now = some_of _ _
    c.in_ok-read_until.ensures.rest in
    let line : c.as_slice.result.now ≡ take_through 10 c.loop-rest.rest.now =
    c.as_slice.ensures.value ∙ c.in_ok-read_until.ensures.bytes ∙ ap (λ l. l ++ take_through 10 c.loop-rest.rest.now)
    c.clear.ensures.items in (
      now_first c.args.text.now c.loop-rest.number c.loop-rest.rest.now c.read_until.new.self.now
          c.as_slice.result.now some line less
          c.loop-rest.unread c.in_ok-is_read.is_read c.in_ok-is_read.ensures.read c.if-not-is_read.true
          c.if-unread-eq0.true c.loop-rest.invariant.0,
      λ judges ignored none. absurd (omega (arith, none)),
      bound c.loop-rest.number (length c.args.text.now) c.loop-rest.rest.now c.read_until.new.self.now some less
          c.loop-rest.invariant.2,
    )

pub loop-rest-preserved : goal.loop-rest-preserved
loop-rest-preserved g c =
    let some : length c.loop-rest.rest.now ≢ 0 = nonempty _ c.is_empty.result c.is_empty.ensures
    c.loop-rest-test.true in
    let less : c.read_until.new.self.now ≡ drop_through 10 c.loop-rest.rest.now = some_of _ _
    c.in_ok-read_until.ensures.rest in
    let line : c.as_slice.result.now ≡ take_through 10 c.loop-rest.rest.now =
    c.as_slice.ensures.value ∙ c.in_ok-read_until.ensures.bytes ∙ ap (λ l. l ++ take_through 10 c.loop-rest.rest.now)
    c.clear.ensures.items in
    let read : (c.in_ok-is_read.is_read ≡ true) ⊎ (c.loop-rest.unread ≢ 0) = elim c.else-not-is_read.branch [
      | else-not-is_read-via-then-not-is_read+else-unread-eq0 w ↦ inr w.if-unread-eq0.false
      | else-not-is_read-via-else-not-is_read w ↦ inl w.if-not-is_read.false
    ] in (
      still_first c.args.text.now c.loop-rest.number c.loop-rest.rest.now c.read_until.new.self.now
          c.as_slice.result.now some line less
          c.loop-rest.unread c.in_ok-is_read.is_read c.in_ok-is_read.ensures.read read c.loop-rest.invariant.0,
      λ judges ignored none. goes_on c.args.text.now c.loop-rest.number c.loop-rest.rest.now
          c.read_until.new.self.now c.as_slice.result.now
          some line less c.args.report.now.choice.now c.args.report.now.may_begin_late c.loop-rest.judged
          c.see_from.new.judged
          (c.loop-rest.invariant.1 judges ignored none)
          (λ at seen. c.in_ok-is_read.ensures.seen at seen ignored
          (is_read_then c.in_ok-is_read.is_read c.loop-rest.unread read none)),
      bound c.loop-rest.number (length c.args.text.now) c.loop-rest.rest.now c.read_until.new.self.now some less
          c.loop-rest.invariant.2,
    )

pub returns-clause-unread : goal.returns-clause-unread
returns-clause-unread g c = unread_at_end c.args.text.now c.loop-rest.number c.loop-rest.rest.now c.loop-rest.unread
    (emptied c.loop-rest.rest.now c.is_empty.result c.is_empty.ensures c.loop-rest-test.false) c.loop-rest.invariant.0
