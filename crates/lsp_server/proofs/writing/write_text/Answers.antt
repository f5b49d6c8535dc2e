use Rattle.lsp_server.proofs.Gathering.{text_begun, text_written}
use Rattle.lsp_server.proofs.writing.write_text.Goals as goal

pub returns-clause-ok : goal.returns-clause-ok
returns-clause-ok g c = text_written _ c.args.given.now c.write_frames_traced.new.given _ _
    c.write_frames_traced.result (rw c.as_str.ensures.value at c.write_frames_traced.ensures.told)

pub returns-clause-begun : goal.returns-clause-begun
returns-clause-begun g c =
    text_begun _ c.args.given.now c.write_frames_traced.new.given _ _ c.write_frames_traced.result
    c.write_frames_traced.ensures.fault
    (rw c.as_str.ensures.value at c.write_frames_traced.ensures.told)
