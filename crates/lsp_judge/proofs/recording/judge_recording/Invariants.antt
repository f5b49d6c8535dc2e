use Rattle.std.proofs.Common.{◌≡◌, [], ◌+◌, ◌≤◌, length, None}
use Rattle.lsp_message.specs.HeaderPart.{lines}
use Rattle.lsp_judge.specs.Judged.{Judges, nothing}
use Rattle.lsp_judge.specs.Recording.{first_unread}
use Rattle.lsp_judge.proofs.EachLine.{IsAt, found_or}
use Rattle.lsp_judge.proofs.recording.judge_recording.Given as goal

abbrev pub invariant-loop-rest : goal.invariant-loop-rest
invariant-loop-rest g l =
    (found_or l.unread (first_unread (l.number + 1) (lines l.rest)) ≡ first_unread 1 (lines l.text))
    × (Judges l.initial.judged (nothing l.report.choice.now.capabilities None)
    → l.report.choice.now.ignored.items ≡ [] → l.unread ≡ 0
    → IsAt l.report.choice.now l.report.may_begin_late l.text l.number l.rest l.judged)
    × (l.number + length l.rest ≤ length l.text)

abbrev pub decreases-loop-rest : goal.decreases-loop-rest
decreases-loop-rest g l = length l.rest
