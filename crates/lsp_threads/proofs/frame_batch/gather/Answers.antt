use Rattle.std.proofs.Common.{inl, refl, sym, string_bytes}
use Rattle.lsp_threads.specs.Passing.{noted}
use Rattle.lsp_threads.proofs.Frames.{all_gathered, first_gathered}
use Rattle.lsp_threads.proofs.Taken.{gives_nothing}
use Rattle.lsp_threads.proofs.frame_batch.gather.Goals as goal

pub returns-then-joins-clause-gathered : goal.returns-then-joins-clause-gathered
returns-then-joins-clause-gathered g c = all_gathered c.args.before _ _ (noted c.args.given.now) (rw c.deref.ensures at
    c.if-joins.ensures)

pub returns-then-joins-clause-given : goal.returns-then-joins-clause-given
returns-then-joins-clause-given g c = gives_nothing c.args.given.now.parts (g.W.Write.contents c.args.writer.now)

pub returns-clause-gathered : goal.returns-clause-gathered
returns-clause-gathered g c =
    rw (sym c.if-joins.ensures) (first_gathered noted c.args.given.now c.write_after-fault.new.given
    (string_bytes c.joins.new.pending) (string_bytes c.args.text) c.args.before c.write_after-fault.result
    (rw c.as_str.ensures.value at c.write_after-fault.ensures.none) c.write_after-fault.ensures.some)

pub returns-then-joins-clause-order : goal.returns-then-joins-clause-order
returns-then-joins-clause-order g c = inl (refl, refl)

pub returns-clause-order : goal.returns-clause-order
returns-clause-order g c = rw (sym c.if-joins.ensures) (rw c.as_str.ensures.value at
    c.write_after-fault.ensures.order)
