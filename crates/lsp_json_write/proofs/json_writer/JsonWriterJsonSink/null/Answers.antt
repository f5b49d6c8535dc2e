use Rattle.std.proofs.Common.{refl, arith}
use Rattle.json.specs.Json as json
use Rattle.lsp_json_write.proofs.Writing.{took}
use Rattle.lsp_json_write.proofs.json_writer.JsonWriterJsonSink.null.Goals as goal

pub returns : goal.returns
returns c =
    let done = c.in_ok-null.ensures in
    took _ c.args.self.now c.null.new.self (json.null, done.ok, refl, omega arith, refl) refl done.room.0
