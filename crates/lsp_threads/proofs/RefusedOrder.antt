-- What a thread that writes may not do: give a byte when no message had been taken yet.
use Rattle.std.proofs.Common.{◌≡◌, refl, ap, sym, subst, ◌∙◌, inl, inr, ℕ, true, false, List, [], ◌∷◌, ◌++◌, Option}
use Rattle.std.proofs.Common.{Some, None, Ok}
use Rattle.std.specs.List.{FoldsTo}
use Rattle.lsp_message.specs.Frame.{of_content}
use Rattle.lsp_message.specs.Message.{Message}
use Rattle.lsp_message.specs.Reading.{Reading}
use Rattle.lsp_message.specs.Written.{AreFramesOf}
use Rattle.lsp_session.specs.Session.{came_of, Exchange, sends_of}
use Rattle.lsp_threads.specs.Order.{Answers, SkipsNone}
use Rattle.lsp_threads.specs.Threads.{ReadsFrameOrWakes}

no_first : {A : Type 0} (xs ys : List A) → xs ++ ys ≡ [] → xs ≡ []
no_first [] ys none = refl
no_first (x ∷ xs) ys none = absurd (cc (none))

module _ (most : ℕ) where
  -- nothing comes of no bytes, if nobody wakes the session
  none_came : (came : Option Message) (next : List ℕ × Unit {0})
      → ReadsFrameOrWakes false SkipsNone (of_content most) ([], tt) came next → ⊥
  none_came (Some m) next reads =
      let e : Ok None ≡ Ok (Some m) = ap (λ (r : Reading Message). r.outcome) reads.0 in
      cc (e)
  none_came None next (inl others) = let e : false ≡ true = others.0 in cc (e)
  none_came None next (inr passed) = passed.3

  no_exchange : (xs : List Exchange) (at : List ℕ × Unit {0})
      → FoldsTo (ReadsFrameOrWakes false SkipsNone (of_content most)) ([], tt) (came_of xs) at → xs ≡ []
  no_exchange [] at run = refl
  no_exchange (x ∷ xs) at run = absurd (none_came x.came run.0 run.1)

  -- a frame is given before any message was taken
  pub refuses_a_frame_before_a_message : (known : Option (List ℕ)) (xs : List Exchange) (byte : ℕ) (bytes : List ℕ)
      → Answers false SkipsNone (of_content most) known tt xs [] (byte ∷ bytes) → ⊥
  refuses_a_frame_before_a_message known xs byte bytes is =
      let none : is.0 ≡ [] = no_exchange is.0 is.3.1 is.3.2 in
      let unsent : is.4 ≡ [] = no_first is.4 is.5 (sym is.6 ∙ ap sends_of none) in
      let empty : is.7 ≡ [] = subst (λ ms. AreFramesOf ms is.7) unsent is.8 in
      let given : byte ∷ bytes ≡ [] = no_first (byte ∷ bytes) is.9.0 (is.9.1 ∙ empty) in
      cc (given)
