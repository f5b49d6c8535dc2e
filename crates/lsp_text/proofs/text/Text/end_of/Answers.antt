use Rattle.std.proofs.Common.{◌<◌, arith, ap, length}
use Rattle.lsp_text.specs.Lines.{starts_of}
use Rattle.lsp_text.proofs.ColumnLemmas.{end_reached, end_left}
use Rattle.lsp_text.proofs.text.Text.end_of.Goals as goal

pub returns-then-behind-clause-value : goal.returns-then-behind-clause-value
returns-then-behind-clause-value c =
    let r = c.requires in
    let n : c.args.range.end.line < length (starts_of c.args.self.now) = (let a = ap length (c.self.invariant) in let
    v = c.self.view_is in let l = c.len.ensures in let t = c.if-line-len.true in grind arith) in
    end_reached c.args.encoding c.args.self.now c.self.inside.ends c.as_bytes-text.result.now c.args.range.start.line
    c.args.range.end.line c.args.range.start.character c.args.range.end.character c.args.start.place
    c.args.start.left c.reach_in.result.place
    (cc (c.as_bytes-text.ensures.value, c.self.view_is)) c.if-range.true n c.if-behind.true r.place r.left
    c.reach_in.ensures.value

pub returns-then-behind-clause-left : goal.returns-then-behind-clause-left
returns-then-behind-clause-left c = λ lt.
    let r = c.requires in
    end_left c.args.encoding c.args.self.now c.self.inside.ends c.as_bytes-text.result.now c.args.range.start.line
    c.args.range.end.line c.args.range.start.character c.args.range.end.character c.args.start.place
    c.args.start.left c.reach_in.result.left
    (cc (c.as_bytes-text.ensures.value, c.self.view_is)) c.if-range.true lt c.if-behind.true r.place r.left
    c.reach_in.ensures.left
