use Rattle.lsp_threads.proofs.Taken.{gives_nothing, gives_then}
use Rattle.lsp_threads.specs.Passing.{noted}
use Rattle.lsp_server.proofs.Gathering.{none_written, some_more, up_to_fault, written_to_end}
use Rattle.lsp_server.specs.Taken.{taken_of}
use Rattle.lsp_server.proofs.writing.write_messages.Goals as goal

pub loop-init : goal.loop-init
loop-init g c = record {
  written = none_written _ (noted c.args.given.now) c.requires;
  given = gives_nothing c.args.given.now.parts (g.W.Write.contents c.args.writer.now);
}

pub loop-preserved : goal.loop-preserved
loop-preserved g c = record {
  written = some_more _ _ _ _ (noted c.args.given.now) (noted c.loop.given) (noted c.write_message.new.given)
      c.loop.invariant.written c.in-Some-next.ensures.some
      (rw c.in_default.is at c.write_message.ensures.written);
  given = gives_then _ _ _ _ _ _ c.loop.invariant.given c.write_message.ensures.given;
}

pub returns-in-None-next-clause-written : goal.returns-in-None-next-clause-written
returns-in-None-next-clause-written g c =
    written_to_end (taken_of c.loop.outgoing.taken) _ (noted c.args.given.now) (noted c.loop.given)
    c.in-None-next.ensures.none c.loop.invariant.written

pub returns-in-Err-clause-written : goal.returns-in-Err-clause-written
returns-in-Err-clause-written g c =
    up_to_fault _ _ _ _ (noted c.args.given.now) (noted c.loop.given) (noted c.write_message.new.given)
    c.loop.invariant.written c.in-Some-next.ensures.some _ c.in-Err.ensures.written

pub returns-in-Err-clause-given : goal.returns-in-Err-clause-given
returns-in-Err-clause-given g c = gives_then _ _ _ _ _ _ c.loop.invariant.given c.write_message.ensures.given
