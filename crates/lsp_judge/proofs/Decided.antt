-- A breach that is decided in an order that is not known is one in each order.
use Rattle.std.proofs.Common.{◌≡◌, ℕ, Bool, true, false, cond, ◌||◌, ◌⊎◌, inl, inr, ⊎_elim, List, [], ◌∷◌, ◌++◌, Option}
use Rattle.std.proofs.Common.{Some, None, is_some, option_map, refl, codes}
use Rattle.std.specs.List.{list_any}
use Rattle.std.specs.Option.{option_or}
use Rattle.std.specs.Prelude.{option_and_then, option_to_list}
use Rattle.lsp_message.specs.Id.{Id}
use Rattle.lsp_message.specs.Message.{Message, request, notification, response}
use Rattle.lsp_watch.specs.Documents.{deed_in, params_in, uri_in, version_in, document_of, deed_finding, is_not_higher}
use Rattle.lsp_watch.specs.Documents.{document_finding}
use Rattle.lsp_watch.specs.Log.{Log, Passed, Open, Finding, asks, tells, is_some_such, open_of, waiting, other}
use Rattle.lsp_watch.specs.Log.{progress_token}
use Rattle.lsp_watch.specs.Orders.{AreOrders, IsBehindAll, is_sure, is_late, any_finding, breaks}
use Rattle.lsp_watch.specs.Progress.{gives, progress_finding, token_of, token_finding, created_finding}
use Rattle.lsp_watch.specs.Rules.{lifecycle_of, initializing, broken_by, client_finding, opening_finding}
use Rattle.lsp_watch.specs.Rules.{opened_finding, server_finding, tells_opening, reply_finding}
use Rattle.lsp_watch.specs.Rules.{session_finding}
use Rattle.lsp_watch.specs.Verdicts.{findings_of}
use Rattle.lsp_watch.specs.declared.direction.Direction.{Direction}
use Rattle.lsp_watch.specs.declared.direction.Direction.TheVariants.{ToServer, ToClient}
use Rattle.lsp_watch.specs.declared.documents.Deed.{Deed}
use Rattle.lsp_watch.specs.declared.documents.Deed.TheVariants.{Opens, Changes, Closes}
use Rattle.lsp_watch.specs.declared.documents.Document.{Document}
use Rattle.lsp_watch.specs.declared.lifecycle.Lifecycle.{Lifecycle}
use Rattle.lsp_watch.specs.declared.progress.Token.{Token}
use Rattle.lsp_watch.specs.declared.progress.Token.TheVariants.{Live, Ended}
use Rattle.lsp_watch.specs.declared.rule.Rule.TheVariants.{AfterExit, AfterShutdown, SentAgain, BeforeResult}
use Rattle.lsp_watch.specs.declared.rule.Rule.TheVariants.{BeforeInitialized, IdStillOpen, VersionNotHigher}
use Rattle.lsp_watch.specs.declared.rule.Rule.{Rule}
use Rattle.lsp_judge.specs.Choice.{decides, is_known, is_of_shape}
use Rattle.lsp_judge.specs.declared.passed.Order.TheVariants.{Known, BehindAll, Unknown}
use Rattle.lsp_judge.specs.declared.passed.Order.{Order}

-- ---- no finding of a session is about the shape of a message

abbrev shaped : Finding → Bool
shaped found = is_of_shape found.0

abbrev Shaped : Option Finding → Type 0
Shaped found = is_some_such shaped found ≡ true

shaped_or : (a b : Option Finding) → (Shaped a → ⊥) → (Shaped b → ⊥) → Shaped (option_or a b) → ⊥
shaped_or None b f g e = g e
shaped_or (Some a) b f g e = f e

shaped_cond : (b : Bool) (x y : Option Finding) → (Shaped x → ⊥) → (Shaped y → ⊥) → Shaped (cond b x y) → ⊥
shaped_cond true x y f g e = f e
shaped_cond false x y f g e = g e

nothing_shaped : Shaped None → ⊥
nothing_shaped e = cc

shaped_by : (rule : Rule) (at : Option ℕ) → is_of_shape rule ≡ false → Shaped (broken_by rule at) → ⊥
shaped_by rule None not_it e = cc
shaped_by rule (Some place) not_it e = cc

some_shaped : (rule : Rule) (at : Option ℕ) → is_of_shape rule ≡ false → Shaped (Some (rule, at)) → ⊥
some_shaped rule at not_it e = cc

shaped_opened : (s : Lifecycle) (v : Option ℕ) (m : Message) (result : Option ℕ)
    → Shaped (opened_finding s v result m) → ⊥
shaped_opened s v m None e = some_shaped BeforeResult v refl e
shaped_opened s v m (Some place) e = shaped_cond (tells (codes "initialized") m) (broken_by SentAgain s.initialized) _
    (shaped_by SentAgain s.initialized refl)
    (shaped_cond (is_some s.initialized) None (Some (BeforeInitialized, Some place)) nothing_shaped
    (some_shaped BeforeInitialized (Some place) refl)) e

shaped_client : (s : Lifecycle) (v : Option ℕ) (m : Message) → Shaped (client_finding s v m) → ⊥
shaped_client s v m e = shaped_cond (tells (codes "exit") m) (broken_by AfterExit s.exit) _
    (shaped_by AfterExit s.exit refl)
    (shaped_or (option_or (broken_by AfterExit s.exit) (broken_by AfterShutdown s.shutdown)) (opening_finding s v m)
    (shaped_or (broken_by AfterExit s.exit) (broken_by AfterShutdown s.shutdown) (shaped_by AfterExit s.exit refl)
    (shaped_by AfterShutdown s.shutdown refl))
    (shaped_cond (asks (codes "initialize") m) (option_or (broken_by SentAgain s.result) (broken_by BeforeResult v))
    (opened_finding s v s.result m)
    (shaped_or (broken_by SentAgain s.result) (broken_by BeforeResult v) (shaped_by SentAgain s.result refl)
    (shaped_by BeforeResult v refl)) (shaped_opened s v m s.result))) e

shaped_server : (s : Lifecycle) (v : Option ℕ) (may_tell : Bool) (m : Message)
    → Shaped (server_finding s v may_tell m) → ⊥
shaped_server s v may_tell m e = shaped_cond _ None (Some (BeforeResult, v)) nothing_shaped
    (some_shaped BeforeResult v refl) e

shaped_id : (o : Option Open) → Shaped (option_map (λ (asked : Open). (IdStillOpen, Some asked.place)) o) → ⊥
shaped_id None e = cc
shaped_id (Some asked) e = cc

shaped_reply : (o : Option Open) → Shaped (reply_finding o) → ⊥
shaped_reply None e = cc
shaped_reply (Some asked) e = cc

shaped_session : (before : Log) (direction : Direction) (m : Message) → Shaped (session_finding before direction m) → ⊥
shaped_session before ToServer (request i method params) e = shaped_or _ _
    (shaped_client (lifecycle_of before) (initializing before) (request i method params))
    (shaped_id (waiting ToServer i before)) e
shaped_session before ToClient (request i method params) e = shaped_or _ _
    (shaped_server (lifecycle_of before) (initializing before) (tells_opening before (request i method params))
    (request i method params)) (shaped_id (waiting ToClient i before)) e
shaped_session before ToServer (notification method params) e = shaped_or _ _
    (shaped_client (lifecycle_of before) (initializing before) (notification method params)) nothing_shaped e
shaped_session before ToClient (notification method params) e = shaped_or _ _
    (shaped_server (lifecycle_of before) (initializing before) (tells_opening before (notification method params))
    (notification method params)) nothing_shaped e
shaped_session before direction (response i outcome) e = shaped_reply (waiting (other direction) i before) e

shaped_deed : (deed : Deed) (version : _) (d : Option Document) → Shaped (deed_finding deed version d) → ⊥
shaped_deed Opens version None e = cc
shaped_deed Opens version (Some d) e = cc
shaped_deed Changes version None e = cc
shaped_deed Closes version None e = cc
shaped_deed Closes version (Some d) e = cc
shaped_deed Changes version (Some d) e = shaped_cond (is_not_higher version d.version)
    (Some (VersionNotHigher, Some d.reported)) None (some_shaped VersionNotHigher (Some d.reported) refl)
    nothing_shaped e

shaped_document : (before : Log) (direction : Direction) (m : Message) → Shaped (document_finding before direction m)
    → ⊥
shaped_document before direction m e = by (deed_in direction m) e
  where
    at : (deed : Deed) (uri : Option (List ℕ)) → Shaped (option_and_then (λ uri.
        deed_finding deed (version_in (params_in m)) (document_of uri before)) uri) → ⊥
    at deed None e = cc
    at deed (Some uri) e = shaped_deed deed (version_in (params_in m)) (document_of uri before) e

    by : (deed : Option Deed) → Shaped (option_and_then (λ deed. option_and_then (λ uri.
        deed_finding deed (version_in (params_in m)) (document_of uri before)) (uri_in (params_in m))) deed) → ⊥
    by None e = cc
    by (Some deed) e = at deed (uri_in (params_in m)) e

shaped_created : (b : Bool) (direction : Direction) (token : Option Token)
    → Shaped (cond b None (created_finding direction token)) → ⊥
shaped_created true direction token e = cc
shaped_created false ToServer token e = cc
shaped_created false ToClient None e = cc
shaped_created false ToClient (Some Live) e = cc
shaped_created false ToClient (Some (Ended place)) e = cc

shaped_progress : (before : Log) (direction : Direction) (m : Message) → Shaped (progress_finding before direction m)
    → ⊥
shaped_progress before direction m e = by (progress_token m) e
  where
    by : (name : Option Id) → Shaped (option_and_then (λ name.
        token_finding (open_of before) (token_of name before) direction name) name) → ⊥
    by None e = cc
    by (Some name) e = shaped_created (list_any (gives direction name) (open_of before)) direction
        (token_of name before) e

any_of : (o : Option Finding) (more : List Finding) → (Shaped o → ⊥) → (list_any shaped more ≡ true → ⊥)
    → list_any shaped (option_to_list o ++ more) ≡ true → ⊥
any_of None more f g e = g e
any_of (Some found) more f g e = at (shaped found) refl e
  where
    at : (b : Bool) → shaped found ≡ b → (b || list_any shaped more) ≡ true → ⊥
    at true is e = f is
    at false is e = g e

any_last : (o : Option Finding) → (Shaped o → ⊥) → list_any shaped (option_to_list o) ≡ true → ⊥
any_last None f e = cc
any_last (Some found) f e = at (shaped found) refl e
  where
    at : (b : Bool) → shaped found ≡ b → (b || false) ≡ true → ⊥
    at true is e = f is
    at false is e = cc

none_shaped : (before : Log) (direction : Direction) (m : Message) → list_any shaped (findings_of before direction m)
    ≡ true → ⊥
none_shaped before direction m = any_of (session_finding before direction m) _ (shaped_session before direction m)
    (any_of (document_finding before direction m) _ (shaped_document before direction m)
    (any_last (progress_finding before direction m) (shaped_progress before direction m)))

-- ---- what is decided

or_cases : (a b : Bool) → (a || b) ≡ true → (a ≡ true) ⊎ (b ≡ true)
or_cases true b e = inl refl
or_cases false b e = inr e

either : (p q : Finding → Bool) (xs : List Finding) → list_any (λ x. p x || q x) xs ≡ true
    → (list_any p xs ≡ true) ⊎ (list_any q xs ≡ true)
either p q [] e = cc
either p q (x ∷ xs) e = ⊎_elim
    (λ at. ⊎_elim (λ is. inl (first (p x) (list_any p xs) is)) (λ is. inr (first (q x) (list_any q xs) is))
    (or_cases (p x) (q x) at))
    (λ more. ⊎_elim (λ is. inl (second (p x) (list_any p xs) is)) (λ is. inr (second (q x) (list_any q xs) is))
    (either p q xs more))
    (or_cases (p x || q x) _ e)
  where
    first : (a b : Bool) → a ≡ true → (a || b) ≡ true
    first true b e = refl
    first false b e = cc

    second : (a b : Bool) → b ≡ true → (a || b) ≡ true
    second true b e = refl
    second false b e = e

breaks_here : (such : Finding → Bool) (after before : Log) (p : Passed)
    → list_any such (findings_of before p.direction p.message) ≡ true → breaks such (after ++ p ∷ before) ≡ true
breaks_here such [] before p e = at (list_any such (findings_of before p.direction p.message)) e
  where
    at : (a : Bool) → a ≡ true → (a || breaks such before) ≡ true
    at true e = refl
    at false e = cc
breaks_here such (q ∷ after) before p e = at (list_any such (findings_of (after ++ p ∷ before) q.direction q.message))
    (breaks_here such after before p e)
  where
    at : (a : Bool) → breaks such (after ++ p ∷ before) ≡ true → (a || breaks such (after ++ p ∷ before)) ≡ true
    at true e = refl
    at false e = e

module _ (sure : (log other : Log) → AreOrders log other → breaks is_sure log ≡ true → breaks any_finding other ≡ true)
    (late : (after before other : Log) (p : Passed) → IsBehindAll after p before → AreOrders (after ++ p ∷ before) other
    → list_any is_late (findings_of before p.direction p.message) ≡ true → breaks any_finding other ≡ true) where
  pub decided : (known : Order) → is_known known ≡ false → (after before other : Log) (p : Passed)
      → (known ≡ BehindAll → IsBehindAll after p before) → AreOrders (after ++ p ∷ before) other
      → list_any (λ found. decides known found.0) (findings_of before p.direction p.message) ≡ true
      → breaks any_finding other ≡ true
  decided Known unknown after before other p behind orders e = cc
  decided Unknown unknown after before other p behind orders e = ⊎_elim
      (λ is. sure (after ++ p ∷ before) other orders (breaks_here is_sure after before p is))
      (λ is. absurd (none_shaped before p.direction p.message is))
      (either is_sure shaped (findings_of before p.direction p.message) e)
  decided BehindAll unknown after before other p behind orders e = ⊎_elim
      (λ is. ⊎_elim
      (λ is. sure (after ++ p ∷ before) other orders (breaks_here is_sure after before p is))
      (λ is. late after before other p (behind refl) orders is)
      (either is_sure is_late (findings_of before p.direction p.message) is))
      (λ is. absurd (none_shaped before p.direction p.message is))
      (either (λ found. is_sure found || is_late found) shaped (findings_of before p.direction p.message) e)
