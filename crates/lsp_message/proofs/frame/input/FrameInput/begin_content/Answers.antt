use Rattle.std.proofs.Common.{refl, [], None}
use Rattle.std.specs.List.{concat}
use Rattle.lsp_message.proofs.FrameInputs.{awaits_line, awaits_part, content_begins, header_leaves, none_seen}
use Rattle.lsp_message.proofs.FrameInputs.{start_header}
use Rattle.lsp_message.proofs.frame.input.FrameInput.begin_content.Goals as goal

pub returns-in-Err-clause-read : goal.returns-in-Err-clause-read
returns-in-Err-clause-read c =
    let self = c.args.self.now in
    (refl, header_leaves self.limits (concat self.seen.parts) c.args.size c.requires.header)

pub returns-in-Ok-clause-awaits : goal.returns-in-Ok-clause-awaits
returns-in-Ok-clause-awaits c =
    let limits = c.args.self.now.limits in
    awaits_line limits _ [] limits.header None (start_header limits _ [] (none_seen _ _ c.replace-bytes.ensures.after
    c.new.ensures.parts) refl)

pub returns-in-Ok-2-clause-awaits : goal.returns-in-Ok-2-clause-awaits
returns-in-Ok-2-clause-awaits c =
    let self = c.args.self.now in
    awaits_part self.limits (concat self.seen.parts) [] [] c.args.size
    (content_begins self.limits (concat self.seen.parts) [] [] c.args.size c.requires.header refl refl
    c.if-size-eq0.false)
