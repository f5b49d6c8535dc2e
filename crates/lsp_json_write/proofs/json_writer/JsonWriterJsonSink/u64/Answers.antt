use Rattle.std.proofs.Common.{refl, arith}
use Rattle.serde_json.specs.Data.{unsigned}
use Rattle.serde_json.proofs.Numbers.{number_of-decimal}
use Rattle.serde_json.proofs.Texts.{unless_float-number_of}
use Rattle.lsp_json_write.proofs.Writing.{took}
use Rattle.lsp_json_write.proofs.WrittenNumbers.{number_written}
use Rattle.lsp_json_write.proofs.json_writer.JsonWriterJsonSink.u64.Goals as goal

pub returns : goal.returns
returns c =
    let done = c.in_ok-u64.ensures in
    let read = number_of-decimal c.args.value (omega arith) in
    let text = unless_float-number_of _ _ read in
    took _ c.args.self.now c.u64.new.self (number_written (unsigned c.args.value) _ _ _ done.ok read text)
    refl done.room.0
