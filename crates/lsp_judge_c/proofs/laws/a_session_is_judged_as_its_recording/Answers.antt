use Rattle.std.proofs.Common.{◌≡◌, ap, arith, refl, subst, sym, None}
use Rattle.lsp_message.specs.HeaderPart.{lines}
use Rattle.lsp_judge.specs.Judged.{Judges, nothing}
use Rattle.lsp_judge.specs.Recording.{judged_of}
use Rattle.lsp_judge.specs.declared.choice.Choice.{Choice}
use Rattle.lsp_judge_c.specs.Messages.{last_of}
use Rattle.lsp_judge_c.specs.Statuses.{Picks, is_late}
use Rattle.lsp_judge_c.proofs.OneByOne.{Keeps, all_keep, all_read, one_by_one}
use Rattle.lsp_judge_c.proofs.laws.a_session_is_judged_as_its_recording.Goals as goal

pub returns-clause-choice : goal.returns-clause-choice
returns-clause-choice c = λ options text s is.
    let first = is.first in
    let keeps = all_keep first.choice (is_late options) is.begins.picks.all 1 first (lines text) is.later
    (record { choice_is = refl; late_is = ap is_late is.begins.options }) is.passes in
    subst (λ it. Picks options it.choice) is.last (subst (Picks options) (sym keeps.choice_is) is.begins.picks)

pub returns-clause-judged : goal.returns-clause-judged
returns-clause-judged c = λ options text s is.
    let first = is.first in
    let starts : Keeps first.choice (is_late options) is.begins.picks.all first = record {
      choice_is = refl;
      late_is = ap is_late is.begins.options;
    } in
    let keeps = all_keep first.choice (is_late options) is.begins.picks.all 1 first (lines text) is.later starts
    is.passes in
    subst (λ it. Judges it.judgement (judged_of it.choice (is_late options) text)) is.last
    (subst (λ (choice : Choice). Judges (last_of first is.later).judgement (judged_of choice (is_late options) text))
    (sym keeps.choice_is)
    (one_by_one first.choice (is_late options) is.begins.picks.all 1 (omega arith)
    (nothing first.choice.capabilities None) first (lines text) is.later starts is.begins.nothing_is is.passes is.read))

pub returns-clause-read : goal.returns-clause-read
returns-clause-read c = λ options text s is. subst (λ it. it.unread ≡ 0) is.last
    (all_read 1 (omega arith) is.first (lines text) is.later is.begins.read is.passes is.read)
