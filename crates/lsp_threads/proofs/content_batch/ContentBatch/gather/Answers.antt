use Rattle.std.proofs.Common.{◌≡◌, ◌∷◌, ◌++◌, [], false, sym, subst}
use Rattle.lsp_threads.specs.Contents.{BeginsAny, contents_of, Gathering}
use Rattle.lsp_threads.proofs.ContentReads.{begins_same, bytes_push}
use Rattle.lsp_threads.proofs.content_batch.ContentBatch.gather.Goals as goal

pub invariant_of-self-2 : goal.invariant_of-self-2
invariant_of-self-2 g c =
    let may = subst (λ (f : Gathering). f.closed ≡ false → BeginsAny f.relay.1 (f.contents ++ c.args.content.items ∷ [])
    c.args.taken.now.parts) (sym c.self.view_is) c.requires in (
      c.self.invariant.0,
      λ still. rw c.so_far-self-inside.ensures.parts (begins_same c.self.inside.tx.source _ _
          c.args.taken.now.parts (bytes_push (contents_of c.self.inside.tx.sent) c.self.inside.pending.items _
          c.args.content c.in_ok-push.ensures.items) (may still)),
    )
