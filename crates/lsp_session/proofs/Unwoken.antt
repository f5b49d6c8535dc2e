-- An inbox that was lent as one that may also give wakes: its waits, and a session over it.
use Rattle.lsp_session.specs.Boxes.{Sends, Receives, WaitsFor}
use Rattle.lsp_session.specs.Event.{Event}
use Rattle.lsp_session.proofs.Histories.{history_as}
use Rattle.lsp_session.specs.Prompt.{any_wait}
use Rattle.lsp_session.specs.Session.{SessionAnswer, SessionPart, starting}
use Rattle.lsp_session.specs.SessionRun.{sends_nothing, Runs}
use Rattle.lsp_session.specs.Unwoken.{UnwokenReceives}
use Rattle.lsp_session.specs.declared.loops.unwoken.Unwoken.{Unwoken}
use Rattle.std.proofs.Common.{◌≡◌, refl, sym, ◌∙◌, subst, List, [], ◌∷◌, ◌++◌}
use Rattle.std.specs.List.{FoldsTo}

module _ {I : Type 0} (receives : Receives I) where
  received_by : (passed : List Event) (event : Event) (old new : Unwoken I) → FoldsTo receives old.inbox.now (passed
      ++ event ∷ []) new.inbox.now
      → new.inbox.ghost_name ≡ old.inbox.ghost_name → FoldsTo (UnwokenReceives receives) old (passed ++ event ∷ []) new
  received_by [] event old new run same = let last : run.0 ≡ new.inbox.now = run.2 in (
    new,
    (
      rw last at run.1,
      same,
    ),
    refl,
  )
  received_by (e ∷ es) event old new run same =
      let mid : Unwoken I = record old { inbox = record old.inbox { now = run.0 } } in
      (mid, (run.1, refl), received_by es event mid new run.2 same)

  -- the inbox waited
  pub waits_unwoken : (event : Event) (old new : Unwoken I) → WaitsFor receives old.inbox.now event new.inbox.now
      → new.inbox.ghost_name ≡ old.inbox.ghost_name
      → WaitsFor (UnwokenReceives receives) old event new
  waits_unwoken event old new waits same = record {
    passed = waits.passed;
    only_timeouts = waits.only_timeouts;
    received = received_by waits.passed event old new waits.received same;
  }

  -- a session over it is one over the inbox that was lent
  pub unwoken_run : {O : Type 0} (sends : Sends O) (P : SessionPart) (old new : Unwoken I) (before after : O)
      (answer : SessionAnswer) (first last : I)
      → old.inbox.now ≡ first → (new.inbox.ghost_name ≡ old.inbox.ghost_name → last ≡ new.inbox.now)
      → Runs (UnwokenReceives receives) sends P (old, before) answer (new, after) → Runs receives sends P (
        first,
        before,
      ) answer (last, after)
  unwoken_run sends P old new before after answer first last is named run =
      let came = history_as (UnwokenReceives receives) any_wait sends_nothing receives sends_nothing
      (λ (u : Unwoken I) (i : I). (u.inbox.now ≡ i) × (u.inbox.ghost_name ≡ old.inbox.ghost_name))
      (λ a event b gives i same. (
        b.inbox.now,
        subst (λ (j : I). receives j event b.inbox.now) same.0 gives.0,
        (refl, gives.1 ∙ same.1),
      ))
      (λ a m outcome b nothing i same. (
        i,
        refl,
        subst (λ (u : Unwoken I). (u.inbox.now ≡ i) × (u.inbox.ghost_name
            ≡ old.inbox.ghost_name)) (sym nothing) same,
      ))
      starting run.exchanges run.stop answer old new run.came first (is, refl) in
      let last_is : last ≡ came.0 = named came.2.1 ∙ came.2.0 in
      record {
        exchanges = run.exchanges;
        stop = run.stop;
        came = rw last_is came.1;
        went = run.went;
        part = run.part;
      }
