use Rattle.std.proofs.Common.{◌≡◌, true, refl, ap, arith, rules}
use Rattle.std.specs.Float.{float_is_finite}
use Rattle.serde_json.specs.Data.{depth}
use Rattle.serde_json.proofs.Numbers.{number_of-plus}
use Rattle.lsp_json_write.proofs.Writing.{took}
use Rattle.lsp_json_write.proofs.WrittenNumbers.{finite_data, float_written}
use Rattle.lsp_json_write.proofs.json_writer.JsonWriterJsonSink.f64.Goals as goal

pub returns : goal.returns
returns c =
    let done = c.in_ok-float_with_plus.ensures in
    let x = c.args.value in
    let w = done.layout in
    let finite : float_is_finite x ≡ true = search rules in
    let read = number_of-plus 16 4 w.0 x w.2 w.3 finite in
    took _ c.args.self.now c.float_with_plus.new.self (float_written x w.0 _ _ finite w.1 read)
    (ap depth (finite_data x finite)) done.room.1.0
