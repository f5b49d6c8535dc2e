use Rattle.std.proofs.Common.{arith}
use Rattle.lsp_text.proofs.LineLemmas.{begins_at, line_is}
use Rattle.lsp_text.proofs.text.Text.line.Goals as goal

pub range-requires-clause-start_boundary : goal.range-requires-clause-start_boundary
range-requires-clause-start_boundary c = λ p.
    begins_at c.self.inside.ends c.as_bytes-text.result.now c.as_str.result.now c.as_slice-starts.result.now c.args.line
    c.start_of-start.result c.as_str.utf8 (cc (c.as_bytes-text.ensures.value, c.as_str.ensures.value)) (cc (
      c.as_slice-starts.ensures.value,
      c.as_bytes-text.ensures.value,
      c.self.invariant,
    ))
    (let f = c.if-line-starts.false in omega (arith, f)) c.start_of-start.ensures.value

pub returns : goal.returns
returns c =
    line_is c.args.self.now c.self.inside.ends c.as_bytes-text.result.now c.as_str.result.now
    c.as_slice-starts.result.now
    c.range.result.now c.args.line c.start_of-start.result c.line_end-end.result
    (cc (c.as_bytes-text.ensures.value, c.self.view_is)) c.as_str.utf8
    (cc (c.as_bytes-text.ensures.value, c.as_str.ensures.value)) (cc (
      c.as_slice-starts.ensures.value,
      c.as_bytes-text.ensures.value,
      c.self.invariant,
    ))
    (let f = c.if-line-starts.false in omega (arith, f))
    c.start_of-start.ensures.value c.line_end-end.ensures.line c.range.ensures.value
