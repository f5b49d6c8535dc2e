use Rattle.std.proofs.Common.{◌++◌, sym, subst}
use Rattle.lsp_relay.specs.Relay.{IsOpen}
use Rattle.lsp_threads.specs.Contents.{bytes_of, contents_of}
use Rattle.lsp_threads.proofs.ContentReads.{begins_none}
use Rattle.lsp_threads.proofs.content_batch.ContentBatch.new.Goals as goal

pub invariant_of-result : goal.invariant_of-result
invariant_of-result g c = (
  subst IsOpen (sym c.requires) tt,
  λ still. begins_none c.args.tx.source _ _ (λ i. contents_of (c.requires i)
      ++ bytes_of (c.new.ensures.items i)) c.new-2.ensures.parts,
)
