use Rattle.std.proofs.Common.{arith}
use Rattle.lsp_json_write.proofs.Writing.{ended_array}
use Rattle.lsp_json_write.proofs.json_writer.JsonWriterJsonSink.end_array.Goals as goal

pub returns : goal.returns
returns c =
    let done = c.in_ok-end_array.ensures in
    ended_array c.args.self.now c.end_array.new.self c.saturating_add-self.result done.ok
    (λ few. omega (arith, few, c.saturating_add-self.ensures)) done.room.0
