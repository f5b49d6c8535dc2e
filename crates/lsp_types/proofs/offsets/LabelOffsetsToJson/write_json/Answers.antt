use Rattle.std.proofs.lemmas.Result.{on_ok_weaker}
use Rattle.serde_json.specs.Data.{Data, item, no_items, number, unsigned}
use Rattle.lsp_json_write.specs.Taken.{open_array}
use Rattle.lsp_types.proofs.offsets.LabelOffsetsToJson.write_json.Goals as goal

pub returns : goal.returns
returns g c =
    let first : Data = number (unsigned c.args.self.now.start) in
    let second : Data = number (unsigned c.args.self.now.end) in
    on_ok_weaker c.end_array.result (λ ended outer held. ended (open_array (item first (item second no_items)) outer)
    (c.in_ok-write_json-2.ensures (open_array (item first no_items) outer)
    (c.in_ok-write_json.ensures (open_array no_items outer) (c.in_ok-begin_array.ensures outer held))))
    c.end_array.ensures
