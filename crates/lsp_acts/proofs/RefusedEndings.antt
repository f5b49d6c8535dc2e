-- Endings of a server's session that are none: runs that `ServerEndsWell` refuses.
use Rattle.lsp_message.specs.Frame.{Begins, reading_within}
use Rattle.lsp_message.specs.Id.{Id}
use Rattle.lsp_message.specs.Message.{Message}
use Rattle.lsp_message.specs.Written.{frame_text}
use Rattle.lsp_message.specs.declared.frame.limits.Limits.{Limits}
use Rattle.lsp_acts.specs.Law.{how_many, is_reply_under, is_request_under}
use Rattle.lsp_acts.specs.ServerEndsWell.{ServerEndsWell}
use Rattle.lsp_session.proofs.RefusedEndings.{one_reading}
use Rattle.lsp_session.proofs.WellEnded.{nothing_left}
use Rattle.lsp_session.specs.EndsWell.{AreWritten}
use Rattle.lsp_session.specs.Replies.{null_reply}
use Rattle.lsp_session.specs.declared.loops.handler.SessionEnd.{SessionEnd}
use Rattle.lsp_session.specs.declared.loops.handler.SessionEnd.TheVariants.{ShutDown}
use Rattle.std.proofs.Common.{◌≡◌, sym, ◌∙◌, ap, subst, ℕ, List, [], ◌∷◌, ◌++◌, arith}
use Rattle.std.specs.List.{FoldsTo}

-- a list with one in it is not empty
some_first : (early rest : List Message) (m : Message) → ◌≡◌ {A = List Message} [] (early ++ m ∷ rest) → ⊥
some_first [] rest m e = cc (e)
some_first (n ∷ early) rest m e = cc (e)

-- frames of messages are some bytes
written_some : (m : Message) (early rest : List Message) (text : List ℕ) → text ≡ [] → AreWritten (early ++ m ∷ rest)
    text
    → ⊥
written_some m [] rest text none (body, more, is, later, cut) = let e : [] ≡ frame_text body ++ more = sym none
    ∙ cut in absurd (cc (e))
written_some m (n ∷ early) rest text none (body, more, is, later, cut) = let e : [] ≡ frame_text body ++ more = sym none
    ∙ cut in absurd (cc (e))

module _ (limit : Limits) (taken given : List ℕ) where
  abbrev Ends : SessionEnd → Type 0
  Ends end = ServerEndsWell limit taken [] given end

  -- nothing was read, and it says that the client asked for `shutdown`
  pub reads_nothing : taken ≡ [] → Ends ShutDown → ⊥
  reads_nothing none e =
      let (before, id, params, late, gone, came, replies, others, sent, once, rest) = e.ends in
      let read : FoldsTo (Begins limit) taken [] [] = none in
      let no_messages : e.messages ≡ [] = one_reading limit e.messages [] taken e.rest [] e.came read
      (ap (reading_within limit) rest ∙ nothing_left limit) (nothing_left limit) in
      some_first before _ _ (sym no_messages ∙ came)

  -- nothing was written: `shutdown` has no reply
  pub writes_nothing : given ≡ [] → Ends ShutDown → ⊥
  writes_nothing none e =
      let (before, id, params, late, gone, came, replies, others, sent, once, rest) = e.ends in
      written_some (null_reply id) others [] given none (subst (λ ms. AreWritten ms given) sent e.went)

  -- a request whose id was used once has no reply when the session was shut down
  pub leaves_a_request : (e : Ends ShutDown) (i : Id) → how_many (is_request_under i) e.messages ≡ 1
      → how_many (is_reply_under i) e.sent ≡ 0 → ⊥
  leaves_a_request e i one none =
      let (before, id, params, late, gone, came, replies, others, sent, once, rest) = e.ends in
      let never : 1 ≡ 0 = sym (once i one) ∙ none in
      cc (never)

  -- a request has two replies
  pub replies_twice : (end : SessionEnd) (e : Ends end) (i : Id) → how_many (is_request_under i) e.messages ≡ 1
      → how_many (is_reply_under i) e.sent ≡ 2 → ⊥
  replies_twice end e i one two = let most = e.never_more i in omega (arith, most, one, two)

  -- a reply goes to nobody
  pub replies_to_nobody : (end : SessionEnd) (e : Ends end) (i : Id) → how_many (is_request_under i) e.messages ≡ 0
      → how_many (is_reply_under i) e.sent ≡ 1 → ⊥
  replies_to_nobody end e i none one = let most = e.never_more i in omega (arith, most, one, none)

  -- bytes were taken behind `exit`
  pub takes_behind_exit : (e : Ends ShutDown) (byte : ℕ) (more : List ℕ) → e.rest ≡ byte ∷ more → ⊥
  takes_behind_exit e byte more some =
      let (before, id, params, late, gone, came, replies, others, sent, once, rest) = e.ends in
      let never = sym some ∙ rest in
      cc (never)
