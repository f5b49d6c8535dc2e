-- Logs that are not lawful.
use Rattle.std.proofs.Common.{◌≡◌, List, [], ◌∷◌, ◌++◌, Some, Ok, true, false, codes, pos, refl, sym, ap, ◌∙◌}
use Rattle.std.proofs.Common.{true≢false, ⊎_elim}
use Rattle.serde_json.specs.Data.{Data, null, string, object, member, no_members}
use Rattle.lsp_message.specs.Id.{Id, number, text}
use Rattle.lsp_message.specs.Message.{Message, request, notification, response}
use Rattle.lsp_watch.specs.Lawful.{IsLawful, MayPass, with}
use Rattle.lsp_watch.specs.Log.{Open, passed, request_of}
use Rattle.lsp_watch.specs.declared.direction.Direction.TheVariants.{ToServer, ToClient}

none_is_open : (xs : List Open) (o : Open) (ys : List Open) → [] ≡ xs ++ o ∷ ys → ⊥
none_is_open [] o ys is = cc
none_is_open (x ∷ xs) o ys is = cc

none_is_live : (xs : List Id) (name : Id) (ys : List Id) → [] ≡ xs ++ name ∷ ys → ⊥
none_is_live [] name ys is = cc
none_is_live (x ∷ xs) name ys is = cc

-- a reply that nobody asked for
unasked : (asked : List Open) (live : List Id)
    → IsLawful (passed ToClient 1 (response (number (pos 7)) (Ok null)) ∷ []) asked live → ⊥
unasked asked live is = none_is_open is.3.1 is.3.0 is.3.2 (sym is.2.0 ∙ is.3.3)

abbrev tells : Data → Message
tells value = notification (codes "$/progress") (object (member (codes "token") (string (codes "t"))
    (member (codes "value") value no_members)))

abbrev ends : Message
ends = tells (object (member (codes "kind") (string (codes "end")) no_members))

-- progress under a token that nobody gave
ungiven : (asked : List Open) (live : List Id) → IsLawful (passed ToClient 1 (tells null) ∷ []) asked live → ⊥
ungiven asked live is =
    ⊎_elim (λ given. none_is_open given.1 given.0 given.2 (sym is.2.0 ∙ given.3))
    (λ made. none_is_live made.0 (text (codes "t")) made.1 (sym is.2.1 ∙ made.2)) is.3.0

-- progress ends its token
ended : (new : List Open) (live : List Id) → MayPass ToClient 3 ends [] new (text (codes "t") ∷ []) live → live ≡ []
ended new live may = may.2

-- a refusal accepts no token, and a result does
refused : with false (Some (text (codes "t"))) [] ≡ []
refused = refl

accepted : with true (Some (text (codes "t"))) [] ≡ text (codes "t") ∷ []
accepted = refl

-- an id that is in use
in_use : (asked : List Open) (live : List Id) → IsLawful (passed ToServer 2 (request (number (pos 7)) (codes "b") null)
    ∷ (passed ToServer 1 (request (number (pos 7)) (codes "a") null) ∷ [])) asked live → ⊥
in_use asked live is =
    let first : Open = request_of ToServer 1 (number (pos 7)) (codes "a") null in
    true≢false (is.3.0 first [] [] (is.2.3.1 ∙ ap (λ l. l ++ first ∷ []) is.2.2.0))
