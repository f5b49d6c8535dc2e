-- The reply to a request among the messages of a server.
use Rattle.std.proofs.Common.{◌≡◌, refl, sym, ap, subst, ◌∙◌, ℕ, ◌<◌, ◌+◌, List, ◌∷◌, ◌++◌, length, take, drop, Some}
use Rattle.std.proofs.Common.{true, suc, arith}
use Rattle.std.proofs.Math.Seq.{split_at}
use Rattle.std.specs.List.{HoldsAt}
use Rattle.std.specs.Prelude.{slice_index_or}
use Rattle.lsp_message.proofs.Ids.{same_is}
use Rattle.lsp_message.specs.Id.{Id}
use Rattle.lsp_message.specs.declared.msg.Message as msg
use Rattle.lsp_message.specs.declared.msg.Message.TheVariants.{Response}
use Rattle.lsp_message.specs.declared.msg.Response as resp
use Rattle.lsp_testing.specs.Client.{is_reply_to, TakesReply}

module _ (id : Id) (old : List msg.Message) (place : ℕ) (removed : msg.Message) (inside : place < length old)
    (holds : HoldsAt (λ m. is_reply_to id m ≡ true) old place) (value : removed ≡ slice_index_or old place
    removed) where
  -- what was removed is a reply to the request
  pub is_reply : is_reply_to id removed ≡ true
  is_reply = subst (λ m. is_reply_to id m ≡ true) (sym value) (holds removed)

  pub takes_reply : (reply : resp.Response) (new : List msg.Message) → removed ≡ Response reply
      → new ≡ take place old ++ drop (place + 1) old → TakesReply id old (Some reply.response_result) new
  takes_reply reply new is rest =
      let at : slice_index_or old place removed ≡ Response reply = sym value ∙ is in
      let next : place + 1 ≡ suc place = omega arith in (
        take place old,
        drop (suc place) old,
        reply,
        split_at old place removed inside ∙ ap (λ m. take place old ++ m ∷ drop (suc place) old) at,
        rest ∙ ap (λ n. take place old ++ drop n old) next,
        same_is reply.id id (subst (λ m. is_reply_to id m ≡ true) is is_reply),
        refl,
      )
