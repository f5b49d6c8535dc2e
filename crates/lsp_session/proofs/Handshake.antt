-- Laws of the waits for `initialize` and for `initialized`.
use Rattle.lsp_message.specs.Id.{Id}
use Rattle.lsp_message.specs.Message.{Message, request}
use Rattle.lsp_session.proofs.Waiting.{FoldsTo-append, list_all-push}
use Rattle.lsp_session.specs.Boxes.{Sends, Receives}
use Rattle.lsp_session.specs.Event.{message, timeout}
use Rattle.lsp_session.specs.Finish.{FinishAnswer, is_idle, Finishes, AwaitsWithin}
use Rattle.lsp_session.specs.Start.{StartAnswer, is_undecided, request_of, IsEarlyReply, fault_of_refusal, PassesOver}
use Rattle.lsp_session.specs.Start.{StartsWithin, Ends}
use Rattle.lsp_session.specs.Turns.{Turn, got, TakesTurn}
use Rattle.lsp_session.specs.declared.lifecycle.SendFault.{SendFault}
use Rattle.serde_json.specs.Data.{Data}
use Rattle.std.proofs.Common.{◌≡◌, refl, inl, inr, ℕ, Bool, true, false, List, [], ◌∷◌, ◌++◌, length, arith, Some}
use Rattle.std.proofs.Common.{codes, ◌+◌, ◌<◌, length-append}
use Rattle.std.proofs.lemmas.Fn.{FoldsTo-push}
use Rattle.std.proofs.lemmas.List.Elements.{filter_map-append}
use Rattle.std.proofs.lemmas.List.Folds.{list_all-append}
use Rattle.std.specs.List.{FoldsTo, AllZip, list_all}
use Rattle.std.specs.Prelude.{Ok, Err}
use Rattle.std.specs.Str.{bytes_eq}

-- a relation place by place, of two lists each
pub AllZip-append : {A B : Type 0} (R : A → B → Type 0) (xs xs' : List A) (ys ys' : List B) → AllZip R xs ys
    → AllZip R xs' ys' → AllZip R (xs ++ xs') (ys ++ ys')
AllZip-append R [] xs' [] ys' first second = second
AllZip-append R [] xs' (y ∷ ys) ys' first second = absurd first
AllZip-append R (x ∷ xs) xs' [] ys' first second = absurd first
AllZip-append R (x ∷ xs) xs' (y ∷ ys) ys' first second = (first.0, AllZip-append R xs xs' ys ys' first.1 second)

module _ {O : Type 0} (sends : Sends O) where
  module _ (old : O) (i : Id) (method : List ℕ) (params : Data) (reply : Message) (new : O) (other : bytes_eq method
      (codes "initialize") ≡ false)
      (answers : IsEarlyReply i reply) where
    -- an early request whose reply the outbox took
    pub passes_request : sends old reply (Ok tt) new → PassesOver sends old (got (message (request i method params))
        ∷ []) (reply ∷ []) new
    passes_request took = record { undecided = rw other refl; each_replied = (answers, tt); taken = (new, took, refl) }

    -- an early request whose reply the outbox refused
    pub refuses_request : (fault : SendFault) → sends old reply (Err fault) new
        → Ends sends old (got (message (request i method params))) (Err (fault_of_refusal fault)) new
    refuses_request fault refuses = inr (inl (
      fault,
      record { id = i; brings = refl; undecided = rw other refl; reply = reply; replies = answers; refuses = refuses },
      refl,
    ))

  passes_none : (old : O) → PassesOver sends old [] [] old
  passes_none old = record { undecided = refl; each_replied = tt; taken = refl }

  passes_both : (old mid new : O) (turns turns' : List Turn) (replies replies' : List Message)
      → PassesOver sends old turns replies mid → PassesOver sends mid turns' replies' new → PassesOver sends old (turns
      ++ turns') (replies ++ replies') new
  passes_both old mid new turns turns' replies replies' first second = record {
    undecided = rw (list_all-append is_undecided turns turns', first.undecided, second.undecided) refl;
    each_replied = rw (filter_map-append request_of turns turns') (AllZip-append IsEarlyReply _ _ _ _ first.each_replied
        second.each_replied);
    taken = FoldsTo-append _ replies replies' old mid new first.taken second.taken;
  }

module _ {G I O : Type 0} (asks : G → Bool → G → Type 0) (receives : Receives I) (sends : Sends O) where
  -- so many turns were taken, and left the handshake undecided
  pub record Undecided (count : ℕ) (old new : G × I × O) : Type 0 where
    pub turns : List Turn
    pub count_is : length turns ≡ count
    pub taken : FoldsTo (TakesTurn asks receives) (old.0, old.1) turns (new.0, new.1)
    pub replies : List Message
    pub passed : PassesOver sends old.2 turns replies new.2

  pub undecided_none : (old : G × I × O) → Undecided 0 old old
  undecided_none old = record {
    turns = [];
    count_is = refl;
    taken = refl;
    replies = [];
    passed = passes_none
        sends old.2;
  }

  pub undecided_more : (count : ℕ) (old mid new : G × I × O) (turn : Turn)
      → Undecided count old mid → TakesTurn asks receives (mid.0, mid.1) turn (new.0, new.1)
      → (replies : List Message) × PassesOver sends mid.2 (turn ∷ []) replies new.2
      → Undecided (count + 1) old new
  undecided_more count old mid new turn so_far step passed = record {
    turns = so_far.turns ++ turn ∷ [];
    count_is = rw (length-append so_far.turns (turn ∷ [])) (omega (arith, so_far.count_is));
    taken = FoldsTo-push _ (old.0, old.1) so_far.turns (mid.0, mid.1) turn (new.0, new.1) so_far.taken step;
    replies = so_far.replies ++ passed.0;
    passed = passes_both sends old.2 mid.2 new.2 so_far.turns (turn ∷ []) so_far.replies passed.0 so_far.passed
        passed.1;
  }

  -- the next turn ended the handshake
  pub starts_answered : (limit count : ℕ) (old mid new : G × I × O) (turn : Turn) (answer : StartAnswer)
      → Undecided count old mid → count < limit → TakesTurn asks receives (mid.0, mid.1) turn (new.0, new.1)
      → Ends sends mid.2 turn answer new.2
      → StartsWithin asks receives sends limit old (Some answer) new
  starts_answered limit count old mid new turn answer so_far within step ends = record {
    turns = so_far.turns ++ turn ∷ [];
    taken = FoldsTo-push _ (old.0, old.1) so_far.turns (mid.0, mid.1) turn (new.0, new.1) so_far.taken step;
    few = rw (length-append so_far.turns (turn ∷ [])) (omega (arith, so_far.count_is));
    none_after_all = λ n. cc;
    replies = so_far.replies;
    starts = record { before = so_far.turns; mid = mid.2; passed = so_far.passed; end = (turn, refl, ends) };
  }

module _ {G I : Type 0} (asks : G → Bool → G → Type 0) (receives : Receives I) where
  -- so many turns were taken, and nothing came
  pub record Idles (count : ℕ) (old new : G × I) : Type 0 where
    pub turns : List Turn
    pub count_is : length turns ≡ count
    pub taken : FoldsTo (TakesTurn asks receives) old turns new
    pub idle : list_all is_idle turns ≡ true

  pub idles_more : (count : ℕ) (old mid new : G × I) → Idles count old mid → asks mid.0 true new.0
      → receives mid.1 timeout new.1 → Idles (count + 1) old new
  idles_more count old mid new so_far go_on nothing = record {
    turns = so_far.turns ++ got timeout ∷ [];
    count_is = rw (length-append so_far.turns (got timeout ∷ [])) (omega (arith, so_far.count_is));
    taken = FoldsTo-push _ old so_far.turns mid (got timeout) new so_far.taken (go_on, nothing);
    idle = list_all-push is_idle so_far.turns (got timeout) so_far.idle refl;
  }

  pub awaits_answered : (limit count : ℕ) (old mid new : G × I) (turn : Turn) (answer : FinishAnswer)
      → Idles count old mid → count < limit → TakesTurn asks receives mid turn new → Finishes turn answer
      → AwaitsWithin asks receives limit old (Some answer) new
  awaits_answered limit count old mid new turn answer so_far within step finishes = record {
    turns = so_far.turns ++ turn ∷ [];
    taken = FoldsTo-push _ old so_far.turns mid turn new so_far.taken step;
    few = rw (length-append so_far.turns (turn ∷ [])) (omega (arith, so_far.count_is));
    none_after_all = λ n. cc;
    awaits = record { before = so_far.turns; idle = so_far.idle; end = (turn, refl, finishes) };
  }
