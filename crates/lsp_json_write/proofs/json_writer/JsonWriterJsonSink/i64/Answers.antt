use Rattle.std.proofs.Common.{◌≡◌, [], ◌∷◌, ◌++◌, refl, arith, rules, to_z-of_z}
use Rattle.std.specs.Fmt.{signed_decimal}
use Rattle.json.specs.Token.{Token}
use Rattle.lsp_json_write.proofs.Writing.{took}
use Rattle.lsp_json_write.proofs.WrittenNumbers.{integer_written}
use Rattle.lsp_json_write.proofs.json_writer.JsonWriterJsonSink.i64.Goals as goal

pub returns : goal.returns
returns c =
    let done = c.in_ok-i64.ensures in
    let old = c.args.self.now.out.tokens in
    let text : c.i64.new.self.tokens ≡ old ++ Token.number (signed_decimal c.args.value) ∷ [] =
    first_of (search rules, search (rules, to_z-of_z), cc) in
    took _ c.args.self.now c.i64.new.self (integer_written c.args.value _ _ c.ranges.value text) refl done.room.0
