-- Over a transport that keeps an account, a session acts in order: what it sends for a message stands before what it
-- reads next.
use Rattle.lsp_session.proofs.Histories.{history_as}
use Rattle.lsp_session.specs.Account.{Act, gave, sending, NotesReceive, NotesSend, InOrder}
use Rattle.lsp_session.specs.KeptAccount.{KeepsAccount}
use Rattle.lsp_session.specs.Boxes.{Sends, Receives}
use Rattle.lsp_session.specs.Prompt.{Talks}
use Rattle.lsp_session.specs.Session.{SessionAnswer, SessionPart, starting}
use Rattle.lsp_session.specs.SessionLaws.{Both}
use Rattle.std.proofs.Common.{◌≡◌, refl, sym, ◌∙◌, ap, List, [], ◌∷◌, ◌++◌, append_assoc, append-nil}

module _ {L : Type 0} (receives listens : Receives L) (sends : Sends L) (account : L → List Act)
    (keeps : KeepsAccount receives sends account) where
  -- these acts were added to the account
  abbrev Added : L → L → List Act → Type 0
  Added start now acts = account now ≡ account start ++ acts

  added : (start old new : L) (acts : List Act) (act : Act) → Added start old acts → account new ≡ account old ++ act
      ∷ [] → Added start new (acts ++ act ∷ [])
  added start old new acts act so_far one = one ∙ ap (λ (l : List Act). l ++ act ∷ []) so_far
      ∙ append_assoc (account start) acts (act ∷ [])

  -- A session's acts are added to the account, and they are those of its exchanges, in order.
  pub talks_in_order : (P : SessionPart) (old new : L) (answer : SessionAnswer)
      → Talks receives listens sends starting P old answer new
      → (acts : List Act) × (account new ≡ account old ++ acts)
      × Talks receives listens sends starting (Both P (InOrder acts)) old answer new
  talks_in_order P old new answer talks =
      let run = history_as receives listens sends NotesReceive NotesSend (λ (l : L) (acts : List Act). Added old l acts)
      (λ a event b gives acts so_far. (
        acts ++ gave event ∷ [],
        refl,
        added old a b acts (gave event) so_far (keeps.receiving a event b gives),
      ))
      (λ a m outcome b takes acts so_far. (
        acts ++ sending m outcome ∷ [],
        refl,
        added old a b acts (sending m outcome) so_far (keeps.offering a m outcome b takes),
      ))
      starting talks.exchanges talks.stop answer old new talks.history [] (sym (append-nil (account old))) in (
        run.0,
        run.2,
        record {
          exchanges = talks.exchanges;
          stop = talks.stop;
          history = talks.history;
          part = (talks.part, run.1);
        },
      )
