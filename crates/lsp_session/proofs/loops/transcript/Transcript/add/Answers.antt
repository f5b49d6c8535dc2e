use Rattle.std.proofs.Common.{ap, ◌∙◌}
use Rattle.std.specs.List.{flat_map}
use Rattle.lsp_session.proofs.Noting.{failed_more}
use Rattle.lsp_session.specs.Transcripts.{reader_failed, writer_failed}
use Rattle.lsp_session.proofs.loops.transcript.Transcript.add.Goals as goal

pub returns-clause-reads : goal.returns-clause-reads
returns-clause-reads c = ap (λ acts. flat_map reader_failed acts) c.add.ensures ∙ failed_more reader_failed
    c.args.self.now.acts c.args.noted

pub returns-clause-writes : goal.returns-clause-writes
returns-clause-writes c = ap (λ acts. flat_map writer_failed acts) c.add.ensures ∙ failed_more writer_failed
    c.args.self.now.acts c.args.noted
