use Rattle.std.proofs.Common.{◌<◌, arith, ap, length}
use Rattle.lsp_text.specs.Lines.{starts_of}
use Rattle.lsp_text.proofs.ColumnLemmas.{past_reached}
use Rattle.lsp_text.proofs.text.Text.is_past.Goals as goal

pub returns-then-line-len : goal.returns-then-line-len
returns-then-line-len c =
    let r = c.requires in
    let n : c.args.position.line < length (starts_of c.args.self.now) = (let a = ap length (c.self.invariant) in let
    v = c.self.view_is in let l = c.len.ensures in let t = c.if-line-len.true in grind arith) in
    past_reached c.args.encoding c.args.self.now c.self.inside.ends c.as_bytes.result.now c.args.position
    c.args.reached.place c.args.reached.left c.is_past.result
    (cc (c.as_bytes.ensures.value, c.self.view_is)) n r.place r.left c.is_past.ensures
