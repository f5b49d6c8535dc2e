-- Runs that keep no order, whatever follows them and however the session ends; and wakes that no text brings.
use Rattle.lsp_message.specs.ErrorCode.{number_of}
use Rattle.lsp_message.specs.Id.{Id}
use Rattle.lsp_message.specs.Message.{Message, ErrorObject, request, notification, response}
use Rattle.lsp_message.specs.Methods.{is_initialize, is_exit}
use Rattle.lsp_message.specs.declared.msg.code.ErrorCode.TheVariants.{ServerNotInitialized}
use Rattle.lsp_session.specs.ProtocolError.{expected_initialized, fault_of_refusal}
use Rattle.lsp_session.specs.Replies.{null_reply}
use Rattle.lsp_session.specs.Session.{Exchange, messages_of, offered, sends_of, SessionAnswer, Stop, decided, no_more}
use Rattle.lsp_session.specs.Session.{timed_out, refused as cut_off, exhausted, Phase, starting, replied as awaiting}
use Rattle.lsp_session.specs.Session.{serving, asked as shut, is_reply, is_served, is_shutdown}
use Rattle.lsp_session.specs.SessionBytes.{ReadsMessage, Ends, Wrote, lost_of}
use Rattle.lsp_session.specs.declared.loops.stream_session.SessionFault.TheVariants.{Write, Memory as NoMemory}
use Rattle.lsp_message.specs.declared.frame.WriteFault.{WriteFault}
use Rattle.lsp_message.specs.Written.{GetsFrames}
use Rattle.lsp_message.specs.declared.frame.limits.Limits.{Limits}
use Rattle.lsp_session.specs.SessionLaws.{IsInvited, IsUnopened, AfterShutdown, EndsWithShutdown, HasNoShutdown}
use Rattle.lsp_session.specs.SessionLaws.{KeepsOrder, IsOpened, IsUnstarted, StopsAt, comes_early, AllEarly}
use Rattle.lsp_session.specs.SessionLaws.{IsRefusedEarly, is_refusal, AllRefused}
use Rattle.serde_json.specs.Data.{Data, null as null_data}
use Rattle.std.proofs.Common.{◌≡◌, refl, sym, ◌∙◌, ap, subst, inl, inr, ◌⊎◌, ℕ, Bool, true, false, List, [], ◌∷◌, ◌++◌}
use Rattle.std.proofs.Common.{Option, Some, None, append_assoc}
use Rattle.std.proofs.lemmas.List.Folds.{list_all-append}
use Rattle.std.specs.List.{FoldsTo, list_all}
use Rattle.std.specs.Prelude.{Ok, Err, IsSome, IsSomeAnd, codes, is_some, ◌&&◌}
use Rattle.lsp_session.specs.declared.lifecycle.SendFault.{SendFault}
use Rattle.lsp_session.specs.declared.lifecycle.SendFault.TheVariants.{Closed as Lost, Memory}
use Rattle.lsp_session.specs.declared.loops.handler.SessionEnd.{SessionEnd}
use Rattle.lsp_session.specs.declared.loops.handler.SessionEnd.TheVariants.{ShutDown}

-- a request that gets a result
abbrev granted : Id → List ℕ → Data → Data → Exchange
granted i method params result = record {
  came = Some (request i method params);
  sent = response i (Ok result) ∷ [];
  not_sent = None;
}

-- a request that gets an error
abbrev turned : Id → List ℕ → Data → ErrorObject → Exchange
turned i method params error = record {
  came = Some (request i method params);
  sent = response i (Err error) ∷ [];
  not_sent = None;
}

-- `initialize` gets its result
abbrev begun : Id → Data → Data → Exchange
begun i params result = granted i (codes "initialize") params result

-- `initialized`, for which this is sent
abbrev invited : Data → List Message → Exchange
invited params output = record {
  came = Some (notification (codes "initialized") params);
  sent = output;
  not_sent =
      None;
}

-- `shutdown`, for which this is sent
abbrev shutting : Id → Data → List Message → Exchange
shutting i params output = record { came = Some (request i (codes "shutdown") params); sent = output; not_sent = None }

-- `exit`, for which this is sent
abbrev leaving : Data → List Message → Exchange
leaving params output = record { came = Some (notification (codes "exit") params); sent = output; not_sent = None }

-- a session ends well only while it serves, or by a message
none_ends_well : (p : Phase) (stop : Stop) (end : SessionEnd) → (p ≡ starting) ⊎ (p ≡ awaiting)
    → StopsAt p stop (Ok end) → ⊥
none_ends_well starting decided end is stops = stops
none_ends_well starting no_more end is stops = cc (stops)
none_ends_well starting timed_out end is stops = stops
none_ends_well starting (cut_off fault) end is stops = cc (stops)
none_ends_well starting exhausted end is stops = cc (stops)
none_ends_well awaiting decided end is stops = stops
none_ends_well awaiting no_more end is stops = cc (stops)
none_ends_well awaiting timed_out end is stops = stops
none_ends_well awaiting (cut_off fault) end is stops = cc (stops)
none_ends_well awaiting exhausted end is stops = cc (stops)
none_ends_well serving stop end is stops = elim is [ inl e ↦ cc (e) | inr e ↦ cc (e) ]
none_ends_well (shut i) stop end is stops = elim is [ inl e ↦ cc (e) | inr e ↦ cc (e) ]
none_ends_well p stop end is stops = elim is [ inl e ↦ cc (e) | inr e ↦ cc (e) ]

-- while it serves no message is awaited in the place of `initialized`, and it is not shut down
serves_on : (stop : Stop) (answer : SessionAnswer) (shown : List ℕ) → (answer ≡ Ok ShutDown)
    ⊎ (answer ≡ Err (expected_initialized shown)) → StopsAt serving stop answer → ⊥
serves_on decided answer shown is stops = stops
serves_on no_more answer shown is stops = elim is [ inl e ↦ cc (sym e ∙ stops) | inr e ↦ cc (sym e ∙ stops) ]
serves_on timed_out answer shown is stops = stops
serves_on (cut_off (Lost m)) answer shown is stops = elim is [ inl e ↦ cc (sym e ∙ stops) | inr e ↦ cc (sym e ∙ stops) ]
serves_on (cut_off (Memory m)) answer shown is stops = elim is [
  | inl e ↦ cc (sym e ∙ stops)
  | inr e ↦ cc (sym e
      ∙ stops)
]
serves_on exhausted answer shown is stops = elim is [ inl e ↦ cc (sym e ∙ stops) | inr e ↦ cc (sym e ∙ stops) ]

-- after the reply to `shutdown` it is shut down by a message alone
waits_for_exit : (i : Id) (stop : Stop) → StopsAt (shut i) stop (Ok ShutDown) → ⊥
waits_for_exit i decided stops = stops
waits_for_exit i no_more stops = cc (stops)
waits_for_exit i timed_out stops = cc (stops)
waits_for_exit i (cut_off fault) stops = stops
waits_for_exit i exhausted stops = cc (stops)

-- a refusal does not shut the session down
no_refusal : (fault : SendFault) → ◌≡◌ {A = SessionAnswer} (Ok ShutDown) (Err (fault_of_refusal fault)) → ⊥
no_refusal fault e = cc (e)

-- no exchanges have a last one
never_last : (before : List Exchange) (y : Exchange) → ◌≡◌ {A = List Exchange} [] (before ++ y ∷ []) → ⊥
never_last [] y e = cc (e)
never_last (b ∷ before) y e = cc (e)

-- nor have no messages
no_message : (part : List Message) (m : Message) → ◌≡◌ {A = List Message} [] (part ++ m ∷ []) → ⊥
no_message [] m e = cc (e)
no_message (n ∷ part) m e = cc (e)

-- not all are errors
mixed : (x : Exchange) (xs : List Exchange) → list_all is_refusal (offered x) ≡ false → AllRefused (x ∷ xs) → ⊥
mixed x xs served all =
    let both : (list_all is_refusal (offered x) && list_all is_refusal (sends_of xs))
    ≡ true = sym (list_all-append is_refusal (offered x) (sends_of xs)) ∙ all in
    let e = (rw served at both) in
    cc (e)

module _ (passes_late speaks_last : Bool) (stop : Stop) (answer : SessionAnswer) where
  -- what is sent after the result of `initialize`
  abbrev Later : List Exchange → Type 0
  Later more = (IsInvited more × (HasNoShutdown passes_late speaks_last more stop answer
      ⊎ EndsWithShutdown passes_late speaks_last more stop answer)) ⊎ IsUnopened more stop answer

  -- If more than errors is sent for the first message, it is `initialize`.
  record Starts (x : Exchange) (more : List Exchange) : Type 0 where
    id : Id
    method : List ℕ
    params : Data
    asks : is_initialize (request id method params) ≡ true
    came : x.came ≡ Some (request id method params)
    later : Later more

  starts : (x : Exchange) (more : List Exchange) → list_all is_refusal (offered x) ≡ false → KeepsOrder passes_late
      speaks_last (x ∷ more) stop answer → Starts x more
  starts x more served order = at order.early order.rest order.cut order.opened
    where
      last : (e : Exchange) (early rest before : List Exchange) (l : Exchange) (i : Id) (method : List ℕ)
          (params : Data) → x ≡ e → more ≡ early ++ rest → is_initialize (request i method params) ≡ true
          → e ∷ early ≡ before ++ l ∷ [] → l.came ≡ Some (request i method params)
          → AllRefused before → Later rest → Starts x more
      last e early rest [] l i method params same tail asks cut came refused later =
          let is : e ≡ l = cc (cut) in
          let none : early ≡ [] = cc (cut) in
          let all : more ≡ rest = rw none at tail in
          record {
            id = i;
            method = method;
            params = params;
            asks = asks;
            came = ap (λ (y : Exchange). y.came) (same ∙ is) ∙ came;
            later = rw all later;
          }
      last e early rest (b ∷ before) l i method params same tail asks cut came refused later =
          let is : e ≡ b = cc (cut) in
          absurd (mixed b before (ap (λ (y : Exchange). list_all is_refusal (offered y)) (sym (same ∙ is)) ∙ served)
          refused)

      at : (early rest : List Exchange) → x ∷ more ≡ early ++ rest → IsOpened passes_late speaks_last early rest stop
          answer ⊎ (AllRefused early × AllEarly early × IsUnstarted rest stop answer) → Starts x more
      at [] rest cut (inl opened) = absurd (never_last opened.ends.before _ opened.ends.cut)
      at [] rest cut (inr unopened) =
          let unstarted : IsUnstarted (x ∷ more) stop answer = subst (λ (xs : List Exchange). IsUnstarted xs stop
          answer) (sym cut) unopened.2 in
          let e : true ≡ false = (rw unstarted.2 at served) in
          absurd (cc (e))
      at (e ∷ early) rest cut (inl opened) =
          let same : x ≡ e = cc (cut) in
          let tail : more ≡ early ++ rest = cc (cut) in
          let ends = opened.ends in
          last e early rest ends.before ends.last ends.id ends.method ends.params same tail ends.asks ends.cut ends.came
          opened.refused opened.later
      at (e ∷ early) rest cut (inr unopened) =
          let same : x ≡ e = cc (cut) in
          absurd (mixed e early (ap (λ (y : Exchange). list_all is_refusal (offered y)) (sym same) ∙ served) unopened.0)

  -- a request but `initialize` gets a result first: a hover, or the reply to `shutdown`
  pub served_first : (i : Id) (method : List ℕ) (params result : Data) (more : List Exchange)
      → is_initialize (request i method params) ≡ false
      → KeepsOrder passes_late speaks_last (granted i method params result ∷ more) stop answer → ⊥
  served_first i method params result more other order =
      let begins = starts (granted i method params result) more refl order in
      let same : request i method params ≡ request begins.id begins.method begins.params = cc (begins.came) in
      let both : true ≡ false = sym begins.asks ∙ ap (λ (m : Message). is_initialize m) (sym same) ∙ other in
      cc (both)

  -- Between the result of `initialize` and `initialized` a request is answered: a hover, or a second `initialize`.
  pub served_uninvited : (i j : Id) (params result given : Data) (method : List ℕ) (reply : Message) (others : List
      Message) (more : List Exchange)
      → KeepsOrder passes_late speaks_last (begun i params result ∷ record {
        came = Some (request j method given);
        sent = reply ∷ others;
        not_sent = None;
      } ∷ more) stop answer → ⊥
  served_uninvited i j params result given method reply others more order = at (starts (begun i params result) _ refl
      order).later
    where
      at : Later (record { came = Some (request j method given); sent = reply ∷ others; not_sent = None } ∷ more) → ⊥
      at (inl invites) = let e : false ≡ true = invites.0 in cc (e)
      at (inr unopened) = let e : reply ∷ others ≡ [] = unopened.2 in cc (e)

  -- What a `shutdown` that comes first after `initialized` gets, and what follows. Or a message was refused there, and
  -- it is the last.
  abbrev Shuts : Id → List Message → List Exchange → Type 0
  Shuts k output more = ((parting : List Message) × (output ≡ parting ++ null_reply k ∷ []) × (speaks_last ≡ false
      → parting ≡ []) × AfterShutdown passes_late speaks_last k more stop answer)
      ⊎ ((more ≡ []) × (speaks_last ≡ true) × (fault : SendFault) × (stop ≡ cut_off fault)
      × (answer ≡ Err (fault_of_refusal fault)))

  -- what comes before `shutdown` is `initialized` alone
  shut_second : (k : Id) (given asked : Data) (opening output : List Message) (more before after : List Exchange)
      (y : Exchange) → invited given opening ∷ shutting k asked output ∷ more ≡ before ++ y ∷ after
      → list_all is_served (messages_of before) ≡ true → (invited given opening ≡ y)
      ⊎ ((shutting k asked output ≡ y) × (more ≡ after))
  shut_second k given asked opening output more [] after y cut passed = inl (cc (cut))
  shut_second k given asked opening output more (a ∷ []) after y cut passed = inr (cc (cut), cc (cut))
  shut_second k given asked opening output more (a ∷ b ∷ before) after y cut passed =
      let first : a ≡ invited given opening = cc (cut) in
      let second : b ≡ shutting k asked output = cc (cut) in
      let e : false ≡ true = (rw (first, second) at passed) in
      absurd (cc (e))

  shuts : (k : Id) (given asked : Data) (opening output : List Message) (more : List Exchange)
      → Later (invited given opening ∷ shutting k asked output ∷ more) → Shuts k output more
  shuts k given asked opening output more (inr unopened) = let e : shutting k asked output ∷ more ≡ [] = unopened.0 in
      absurd (cc (e))
  shuts k given asked opening output more (inl (invites, inl (inl all))) = let e : false ≡ true = all.0 in absurd
      (cc (e))
  shuts k given asked opening output more (inl (invites, inl (inr (inl left)))) =
      absurd (elim (shut_second k given asked opening output more left.before [] _ left.cut left.none_before) [
        | inl first ↦ (let came : Some (notification (codes "initialized") given) ≡ Some left.last = ap
            (λ (x : Exchange). x.came) first in
            let same : notification (codes "initialized") given ≡ left.last = cc (came) in
            let e : false ≡ true = ap (λ (m : Message). is_exit m) same ∙ left.leaves in
            cc (e))
        | inr second ↦ (let came : Some (request k (codes "shutdown") asked) ≡ Some left.last = ap
            (λ (x : Exchange). x.came) second.0 in
            let same : request k (codes "shutdown") asked ≡ left.last = cc (came) in
            let e : false ≡ true = ap (λ (m : Message). is_exit m) same ∙ left.leaves in
            cc (e))
      ])
  shuts k given asked opening output more (inl (invites, inl (inr (inr broken)))) = inr (
    elim (shut_second k given asked opening output more broken.before [] broken.breaking broken.cut
        broken.none_before) [
          | inl first ↦ (let came : Some (notification (codes "initialized") given) ≡ Some broken.last = ap
              (λ (x : Exchange). x.came) first ∙ broken.came in
              let same : notification (codes "initialized") given ≡ broken.last = cc (came) in
              let e : false ≡ true = ap (λ (m : Message). is_shutdown m) same ∙ broken.asks in
              absurd (cc (e)))
          | inr second ↦ second.1
        ],
    broken.speaks,
    broken.fault,
    broken.refuses,
    broken.fails,
  )
  shuts k given asked opening output more (inl (invites, inr last)) =
      elim (shut_second k given asked opening output more last.before last.after last.asking last.cut
      last.none_before) [
        | inl first ↦ (let came : Some (notification (codes "initialized") given) ≡ Some (request last.id last.method
            last.params) = ap (λ (x : Exchange). x.came) first ∙ last.came in
            absurd (cc (came)))
        | inr second ↦ (let came : Some (request k (codes "shutdown") asked) ≡ Some (request last.id last.method
            last.params) = ap (λ (x : Exchange). x.came) second.0 ∙ last.came in
            let named : k ≡ last.id = cc (came) in
            inl (
              last.parting,
              rw named (ap (λ (x : Exchange). offered x) second.0 ∙ last.gets),
              last.silent,
              rw (named, second.1) last.after_shutdown,
            ))
      ]

  -- if something came after it, no message was refused
  shuts_on : (k : Id) (output : List Message) (y : Exchange) (more : List Exchange) → Shuts k output (y ∷ more)
      → AfterShutdown passes_late speaks_last k (y ∷ more) stop answer
  shuts_on k output y more (inl gone) = gone.3
  shuts_on k output y more (inr broken) = absurd (cc (broken.0))

  -- The first `shutdown` does not get null last: an error, or nothing, or a message comes after it.
  pub shut_otherwise : (i k : Id) (params result given asked : Data) (opening output : List Message)
      (more : List Exchange) → ((fault : SendFault) → stop ≡ cut_off fault → ⊥)
      → ((parting : List Message) → output ≡ parting ++ null_reply k ∷ [] → ⊥)
      → KeepsOrder passes_late speaks_last (begun i params result ∷ invited given opening ∷ shutting k asked output
      ∷ more) stop answer → ⊥
  shut_otherwise i k params result given asked opening output more whole other order = at (shuts k given asked
      opening output more (starts (begun i params result) _ refl order).later)
    where
      at : Shuts k output more → ⊥
      at (inl gone) = other gone.0 gone.1
      at (inr broken) = whole broken.2 broken.3

  -- Of a service that is silent there the first `shutdown` gets something else than null: an error, nothing, or two
  -- messages.
  pub handler_shut_otherwise : (i k : Id) (params result given asked : Data) (opening output : List Message)
      (more : List Exchange) → speaks_last ≡ false → (output ≡ null_reply k ∷ [] → ⊥)
      → KeepsOrder passes_late speaks_last (begun i params result ∷ invited given opening ∷ shutting k asked output
      ∷ more) stop answer → ⊥
  handler_shut_otherwise i k params result given asked opening output more silent other order = at (shuts k given asked
      opening output more (starts (begun i params result) _ refl order).later)
    where
      at : Shuts k output more → ⊥
      at (inl gone) = other (gone.1 ∙ ap (λ (ms : List Message). ms ++ null_reply k ∷ []) (gone.2 silent))
      at (inr broken) = cc (sym silent ∙ broken.1)

  -- After the reply to `shutdown` a message is sent: a result, a second reply to `shutdown`, or a whole second session.
  pub speaks_after_shutdown : (i k : Id) (params result given asked : Data) (opening output : List Message)
      (arrived : Option Message) (sent : Message)
      (others : List Message) (more : List Exchange)
      → KeepsOrder passes_late speaks_last (begun i params result ∷ invited given opening ∷ shutting k asked output
      ∷ record { came = arrived; sent = sent ∷ others; not_sent = None } ∷ more) stop answer
      → ⊥
  speaks_after_shutdown i k params result given asked opening output arrived sent others more order =
      let follows = shuts_on k output _ more (shuts k given asked opening output _ (starts (begun i params result) _
      refl order).later) in
      let e : sent ∷ others ≡ [] = follows.0 in
      cc (e)

  -- After the reply to `shutdown` a message is passed over that is no response, or a response where none is passed
  -- over.
  pub passes_over_after_shutdown : (i k : Id) (params result given asked : Data) (opening output : List Message)
      (m : Message) (y : Exchange) (more : List Exchange)
      → (passes_late && is_reply m) ≡ false
      → KeepsOrder passes_late speaks_last (begun i params result ∷ invited given opening ∷ shutting k asked output
      ∷ record { came = Some m; sent = []; not_sent = None } ∷ y ∷ more) stop answer
      → ⊥
  passes_over_after_shutdown i k params result given asked opening output m y more other order =
      let follows = shuts_on k output _ (y ∷ more) (shuts k given asked opening output _ (starts (begun i params result)
      _ refl order).later) in
      elim follows.1 [
        | inl passed ↦ (let e : true ≡ false = sym passed.0 ∙ other in cc (e))
        | inr last ↦ (let e : y ∷ more ≡ [] = last.0 in cc (e))
      ]

  -- a message comes after `exit`
  pub goes_on_after_exit : (i : Id) (params result given asked : Data) (opening output : List Message) (x : Exchange)
      (more : List Exchange)
      → KeepsOrder passes_late speaks_last (begun i params result ∷ invited given opening ∷ leaving asked output ∷ x
      ∷ more) stop answer
      → ⊥
  goes_on_after_exit i params result given asked opening output x more order = at (starts (begun i params result) _ refl
      order).later
    where
      left : (before : List Exchange) (l : Exchange) → invited given opening ∷ leaving asked output ∷ x ∷ more ≡ before
          ++ l ∷ [] → list_all is_served (messages_of before) ≡ true → ⊥
      left [] l cut passed = let e : leaving asked output ∷ x ∷ more ≡ [] = cc (cut) in cc (e)
      left (a ∷ []) l cut passed = let e : x ∷ more ≡ [] = cc (cut) in cc (e)
      left (a ∷ b ∷ before) l cut passed =
          let first : a ≡ invited given opening = cc (cut) in
          let second : b ≡ leaving asked output = cc (cut) in
          let e : false ≡ true = (rw (first, second) at passed) in
          cc (e)

      after_reply : (before : List Exchange) (l : Exchange) (id : Id) (method : List ℕ) (params : Data)
          (after : List Exchange) → invited given opening ∷ leaving asked output ∷ x ∷ more ≡ before ++ l ∷ after
          → l.came ≡ Some (request id method params) → list_all is_served (messages_of before) ≡ true → ⊥
      after_reply [] l id method params after cut came passed =
          let first : invited given opening ≡ l = cc (cut) in
          let both : Some (notification (codes "initialized") given) ≡ Some (request id method params) = ap
          (λ (y : Exchange). y.came) first ∙ came in
          cc (both)
      after_reply (a ∷ []) l id method params after cut came passed =
          let second : leaving asked output ≡ l = cc (cut) in
          let both : Some (notification (codes "exit") asked) ≡ Some (request id method params) = ap
          (λ (y : Exchange). y.came) second ∙ came in
          cc (both)
      after_reply (a ∷ b ∷ before) l id method params after cut came passed =
          let first : a ≡ invited given opening = cc (cut) in
          let second : b ≡ leaving asked output = cc (cut) in
          let e : false ≡ true = (rw (first, second) at passed) in
          cc (e)

      at : Later (invited given opening ∷ leaving asked output ∷ x ∷ more) → ⊥
      at (inl (invites, inl (inl all))) = let e : false ≡ true = all.0 in cc (e)
      at (inl (invites, inl (inr (inl last)))) = left last.before _ last.cut last.none_before
      at (inl (invites, inl (inr (inr broken)))) = left broken.before broken.breaking broken.cut broken.none_before
      at (inl (invites, inr last)) = after_reply last.before last.asking last.id last.method last.params last.after
          last.cut last.came last.none_before
      at (inr unopened) = let e : leaving asked output ∷ x ∷ more ≡ [] = unopened.0 in cc (e)

  -- after the reply to `shutdown` the session is shut down without an `exit`
  pub shut_down_without_exit : (i k : Id) (params result given asked : Data) (opening output : List Message) → answer
      ≡ Ok ShutDown
      → KeepsOrder passes_late speaks_last (begun i params result ∷ invited given opening ∷ shutting k asked output
      ∷ []) stop answer → ⊥
  shut_down_without_exit i k params result given asked opening output is order =
      at (shuts k given asked opening output [] (starts (begun i params result) _ refl order).later)
    where
      at : Shuts k output [] → ⊥
      at (inl gone) = waits_for_exit k stop (subst (λ (a : SessionAnswer). StopsAt (shut k) stop a) is gone.3)
      at (inr broken) = no_refusal broken.2 (sym is ∙ broken.4)

  -- what holds of the first message: it may come before `initialize` got its result, or it decided
  abbrev Begins : Exchange → List Exchange → Type 0
  Begins x more = IsSomeAnd x.came (λ m. comes_early m ≡ true) ⊎ IsUnstarted (x ∷ more) stop answer

  begins : (x : Exchange) (more : List Exchange) → KeepsOrder passes_late speaks_last (x ∷ more) stop answer
      → Begins x more
  begins x more order = at order.early order.rest order.cut order.opened
    where
      early_one : (e : Exchange) (early before : List Exchange) (l : Exchange) (i : Id) (method : List ℕ)
          (params : Data) → x ≡ e → e ∷ early ≡ before ++ l ∷ [] → l.came ≡ Some (request i method params)
          → AllEarly before → IsSomeAnd x.came (λ m. comes_early m ≡ true)
      early_one e early [] l i method params same cut is_request came =
          let is : e ≡ l = cc (cut) in
          rw (ap (λ (y : Exchange). y.came) (same ∙ is) ∙ is_request) refl
      early_one e early (b ∷ before) l i method params same cut is_request came =
          let is : e ≡ b = cc (cut) in
          subst (λ (y : Exchange). IsSomeAnd y.came (λ m. comes_early m ≡ true)) (sym (same ∙ is)) came.0

      at : (early rest : List Exchange) → x ∷ more ≡ early ++ rest
          → IsOpened passes_late speaks_last early rest stop answer ⊎ (AllRefused early × AllEarly early
          × IsUnstarted rest stop answer) → Begins x more
      at [] rest cut (inl opened) = absurd (never_last opened.ends.before _ opened.ends.cut)
      at [] rest cut (inr unopened) = inr (subst (λ (xs : List Exchange). IsUnstarted xs stop answer) (sym cut)
          unopened.2)
      at (e ∷ early) rest cut (inl opened) =
          let same : x ≡ e = cc (cut) in
          let ends = opened.ends in
          inl (early_one e early ends.before ends.last ends.id ends.method ends.params same ends.cut ends.came
          opened.came)
      at (e ∷ early) rest cut (inr unopened) =
          let same : x ≡ e = cc (cut) in
          inl (subst (λ (y : Exchange). IsSomeAnd y.came (λ m. comes_early m ≡ true)) (sym same) unopened.1.0)

  -- a message comes after an `exit` or a response that came first
  pub goes_on_after_early : (m : Message) (output : List Message) (x : Exchange) (more : List Exchange)
      → comes_early m ≡ false
      → KeepsOrder passes_late speaks_last (record { came = Some m; sent = output; not_sent = None } ∷ x ∷ more) stop
      answer → ⊥
  goes_on_after_early m output x more late order = at (begins (record {
    came = Some m;
    sent = output;
    not_sent = None;
  }) (x
      ∷ more) order)
    where
      at : Begins (record { came = Some m; sent = output; not_sent = None }) (x ∷ more) → ⊥
      at (inl early) = let e : true ≡ false = sym early ∙ late in cc (e)
      at (inr unstarted) = let e : x ∷ more ≡ [] = unstarted.0 in cc (e)

  -- a request that comes before `initialize` gets an error with another code than -32002
  pub refused_otherwise : (i : Id) (method : List ℕ) (params : Data) (error : ErrorObject) (more : List Exchange)
      → is_initialize (request i method params) ≡ false
      → (error.code ≡ number_of ServerNotInitialized → ⊥)
      → KeepsOrder passes_late speaks_last (turned i method params error ∷ more) stop answer → ⊥
  refused_otherwise i method params error more other wrong order = at order.early order.rest order.cut order.opened
    where
      coded : (e : Exchange) → turned i method params error ≡ e → IsRefusedEarly e.came (offered e) → ⊥
      coded e same early = wrong ((subst (λ (y : Exchange). IsRefusedEarly y.came (offered y)) (sym same) early)
          other).0

      early_one : (e : Exchange) (early before : List Exchange) (l : Exchange) (j : Id) (result : Data)
          → turned i method params error ≡ e → e ∷ early ≡ before ++ l ∷ [] → offered l ≡ response j (Ok result) ∷ []
          → AllEarly before → ⊥
      early_one e early [] l j result same cut gets came =
          let is : e ≡ l = cc (cut) in
          let sent : response i (Err error) ∷ [] ≡ response j (Ok result) ∷ [] = ap (λ (y : Exchange). offered y) (same
          ∙ is) ∙ gets in
          cc (sent)
      early_one e early (b ∷ before) l j result same cut gets came =
          let is : e ≡ b = cc (cut) in
          coded b (same ∙ is) came.1

      at : (early rest : List Exchange) → turned i method params error ∷ more ≡ early ++ rest
          → IsOpened passes_late speaks_last early rest stop answer ⊎ (AllRefused early × AllEarly early
          × IsUnstarted rest stop answer) → ⊥
      at [] rest cut (inl opened) = never_last opened.ends.before _ opened.ends.cut
      at [] rest cut (inr unopened) =
          let unstarted : IsUnstarted (turned i method params error ∷ more) stop answer = subst
          (λ (xs : List Exchange). IsUnstarted xs stop answer) (sym cut) unopened.2 in
          let e : response i (Err error) ∷ [] ≡ [] = unstarted.2 in
          cc (e)
      at (e ∷ early) rest cut (inl opened) =
          let same : turned i method params error ≡ e = cc (cut) in
          let ends = opened.ends in
          early_one e early ends.before ends.last ends.id ends.result same ends.cut ends.gets opened.came
      at (e ∷ early) rest cut (inr unopened) =
          let same : turned i method params error ≡ e = cc (cut) in
          coded e same unopened.1.1

  -- a wake comes first
  pub woken_first : (output : List Message) (more : List Exchange) → KeepsOrder passes_late speaks_last
      (record { came = None; sent = output; not_sent = None } ∷ more) stop answer → ⊥
  woken_first output more order = at (begins (record { came = None; sent = output; not_sent = None }) more order)
    where
      at : Begins (record { came = None; sent = output; not_sent = None }) more → ⊥
      at (inl early) = early
      at (inr unstarted) = unstarted.1

  -- what holds if no message came
  unstarted_at : KeepsOrder passes_late speaks_last [] stop answer → StopsAt starting stop answer
  unstarted_at order = at order.early order.rest order.cut order.opened
    where
      at : (early rest : List Exchange) → [] ≡ early ++ rest
          → IsOpened passes_late speaks_last early rest stop answer ⊎ (AllRefused early × AllEarly early
          × IsUnstarted rest stop answer) → StopsAt starting stop answer
      at [] rest cut (inl opened) = absurd (never_last opened.ends.before _ opened.ends.cut)
      at [] rest cut (inr unopened) = subst (λ (xs : List Exchange). IsUnstarted xs stop answer) (sym cut) unopened.2
      at (e ∷ early) rest cut opened = absurd (cc (cut))

  -- no message came, and one decided
  pub decides_unasked : stop ≡ decided → KeepsOrder passes_late speaks_last [] stop answer → ⊥
  decides_unasked is order = subst (λ (s : Stop). StopsAt starting s answer) is (unstarted_at order)

  -- no message came, and the session ended well
  pub ends_unopened : (end : SessionEnd) → answer ≡ Ok end → KeepsOrder passes_late speaks_last [] stop answer → ⊥
  ends_unopened end is order = none_ends_well starting stop end (inl refl) (subst (λ (a : SessionAnswer). StopsAt
      starting stop a) is (unstarted_at order))

  -- `initialize` came alone, and the session ended well
  pub ends_uninvited : (i : Id) (params result : Data) (end : SessionEnd) → answer ≡ Ok end → KeepsOrder passes_late
      speaks_last (begun i params result ∷ []) stop answer → ⊥
  ends_uninvited i params result end is order = at (starts (begun i params result) [] refl order).later
    where
      at : Later [] → ⊥
      at (inl invites) = invites.0
      at (inr unopened) = none_ends_well awaiting stop end (inr refl) (subst (λ (a : SessionAnswer). StopsAt awaiting
          stop a) is unopened)

  -- the session is shut down, and no `shutdown` came
  pub shut_down_unasked : (xs : List Exchange) → ((before after : List Exchange) (x : Exchange) (i : Id)
      (method : List ℕ) (params : Data) → xs ≡ before ++ x ∷ after → x.came ≡ Some (request i method params)
      → is_shutdown (request i method params) ≡ true → ⊥) → answer ≡ Ok ShutDown → KeepsOrder passes_late speaks_last xs
      stop answer → ⊥
  shut_down_unasked xs none is order = at order.rest order.cut order.opened
    where
      unstarted : (rest : List Exchange) → IsUnstarted rest stop answer → ⊥
      unstarted [] stops = none_ends_well starting stop ShutDown (inl refl) (subst (λ (a : SessionAnswer). StopsAt
          starting stop a) is stops)
      unstarted (x ∷ rest) stops = (rw is at stops.4)

      unopened : (rest : List Exchange) → IsUnopened rest stop answer → ⊥
      unopened [] stops = none_ends_well awaiting stop ShutDown (inr refl) (subst (λ (a : SessionAnswer). StopsAt
          awaiting stop a) is stops)
      unopened (x ∷ rest) stops = (rw is at stops.4)

      later : (rest : List Exchange) → xs ≡ order.early ++ rest → Later rest → ⊥
      later rest cut (inl (invites, inl (inl all))) = serves_on stop answer [] (inl is) all.1
      later rest cut (inl (invites, inl (inr (inl left)))) = let e = sym is ∙ left.closes in cc (e)
      later rest cut (inl (invites, inl (inr (inr broken)))) = no_refusal broken.fault (sym is ∙ broken.fails)
      later rest cut (inl (invites, inr last)) = none (order.early ++ last.before) last.after last.asking last.id
          last.method last.params (cut ∙ ap (λ (l : List Exchange). order.early ++ l) last.cut ∙ sym (append_assoc
          order.early last.before (last.asking ∷ last.after))) last.came last.asks
      later rest cut (inr stops) = unopened rest stops

      at : (rest : List Exchange) → xs ≡ order.early ++ rest → IsOpened passes_late speaks_last order.early rest stop
          answer ⊎ (AllRefused order.early × AllEarly order.early × IsUnstarted rest stop answer) → ⊥
      at rest cut (inl opened) = later rest cut opened.later
      at rest cut (inr stops) = unstarted rest stops.2

-- a refusal shows no message
refusal_shows : (fault : SendFault) (shown : List ℕ) → ◌≡◌ {A = SessionAnswer} (Err (expected_initialized shown))
    (Err (fault_of_refusal fault)) → ⊥
refusal_shows (Lost m) shown e = cc (e)
refusal_shows (Memory m) shown e = cc (e)

-- The answer is that the outbox refused a message, and it refused none of the last exchange: a request was dropped.
pub drops_request : (passes_late speaks_last : Bool) (before : List Exchange) (came : Option Message)
    (output : List Message) (fault : SendFault) (answer : SessionAnswer)
    → KeepsOrder passes_late speaks_last (before ++ record { came = came; sent = output; not_sent = None } ∷ [])
    (cut_off fault) answer → ⊥
drops_request passes_late speaks_last before came output fault answer order =
    let off = order.offered in
    refused_one before off.0 off.1 off.2 off.3
  where
    refused_one : (xs ys : List Exchange) (l : Exchange) → xs ++ record {
      came = came;
      sent = output;
      not_sent = None;
    } ∷ [] ≡ ys ++ l ∷ [] → IsSome l.not_sent → ⊥
    refused_one [] [] l e some =
        let one : record { came = came; sent = output; not_sent = None } ≡ l = cc (e) in
        cc (subst (λ (y : Exchange). IsSome y.not_sent) (sym one) some)
    refused_one [] (y ∷ ys) l e some = let rest : [] ≡ ys ++ l ∷ [] = cc (e) in never_last ys l rest
    refused_one (x ∷ xs) [] l e some =
        let rest : xs ++ record { came = came; sent = output; not_sent = None } ∷ [] ≡ [] = cc (e) in
        never_last xs _ (sym rest)
    refused_one (x ∷ xs) (y ∷ ys) l e some =
        let rest : xs ++ record { came = came; sent = output; not_sent = None } ∷ [] ≡ ys ++ l ∷ [] = cc (e) in
        refused_one xs ys l rest some

-- After a whole handshake a request that the lifecycle allows gets no reply, and the answer is that it came in the
-- place of `initialized`.
pub refuses_allowed : (passes_late speaks_last : Bool) (i k : Id) (params result given asked : Data) (method : List ℕ)
    (opening : List Message) (stop : Stop) (shown : List ℕ)
    → KeepsOrder passes_late speaks_last (begun i params result ∷ invited given opening
    ∷ record { came = Some (request k method asked); sent = []; not_sent = None } ∷ []) stop
    (Err (expected_initialized shown)) → ⊥
refuses_allowed passes_late speaks_last i k params result given asked method opening stop shown order =
    at (starts passes_late speaks_last stop (Err (expected_initialized shown)) (begun i params result) _ refl
    order).later
  where
    none_in : (before after : List Exchange) (l : Exchange) → ◌≡◌ {A = List Exchange} [] (before ++ l ∷ after) → ⊥
    none_in [] after l e = cc (e)
    none_in (b ∷ before) after l e = cc (e)

    unanswered : (before after : List Exchange) (l : Exchange) (id : Id) (asks : List ℕ) (with_ : Data)
        (parting : List Message) → invited given opening ∷ record {
          came = Some (request k method asked);
          sent = [];
          not_sent = None;
        } ∷ [] ≡ before ++ l ∷ after
        → l.came ≡ Some (request id asks with_) → offered l ≡ parting ++ null_reply id ∷ [] → ⊥
    unanswered [] after l id asks with_ parting cut came gets =
        let first : invited given opening ≡ l = cc (cut) in
        let both : Some (notification (codes "initialized") given) ≡ Some (request id asks with_) = ap (λ
        (y : Exchange). y.came) first ∙ came in
        cc (both)
    unanswered (a ∷ []) after l id asks with_ parting cut came gets =
        let second : (record { came = Some (request k method asked); sent = []; not_sent = None }) ≡ l = cc (cut) in
        no_message parting (null_reply id) (ap (λ (y : Exchange). offered y) second ∙ gets)
    unanswered (a ∷ b ∷ before) after l id asks with_ parting cut came gets =
        let e : [] ≡ before ++ l ∷ after = cc (cut) in none_in before after l e

    at : Later passes_late speaks_last stop (Err (expected_initialized shown)) (invited given opening ∷ record {
      came
          = Some (request k method asked);
      sent = [];
      not_sent = None;
    } ∷ [])
        → ⊥
    at (inl (invites, inl (inl all))) = serves_on stop _ shown (inr refl) all.1
    at (inl (invites, inl (inr (inl left)))) = let e = left.closes in cc (e)
    at (inl (invites, inl (inr (inr broken)))) = refusal_shows broken.fault shown broken.fails
    at (inl (invites, inr last)) = unanswered last.before last.after last.asking last.id last.method last.params
        last.parting last.cut last.came last.gets
    at (inr unopened) = let e = unopened.0 in cc (e)

-- no `initialize` comes; `shutdown` gets its reply, then a request gets a result and another `shutdown` another reply
pub goes_on_after_shutdown : (passes_late speaks_last : Bool) (i j k : Id) (asked given result : Data) (method : List ℕ)
    (stop : Stop) (answer : SessionAnswer)
    → KeepsOrder passes_late speaks_last (shutting i asked (null_reply i ∷ []) ∷ granted j method given result
    ∷ shutting k asked (null_reply k ∷ []) ∷ []) stop answer → ⊥
goes_on_after_shutdown passes_late speaks_last i j k asked given result method stop answer order =
    served_first passes_late speaks_last stop answer i (codes "shutdown") asked null_data (granted j method given
    result ∷ shutting k asked (null_reply k ∷ []) ∷ []) refl order

-- a whole session comes before the `initialize` of another
pub second_session : (passes_late speaks_last : Bool) (i j k : Id) (params result given asked : Data) (stop : Stop)
    (answer : SessionAnswer) (more : List Exchange)
    → KeepsOrder passes_late speaks_last (begun i params result ∷ invited given [] ∷ shutting k asked (null_reply k
    ∷ []) ∷ begun j params result ∷ more) stop answer → ⊥
second_session passes_late speaks_last i j k params result given asked stop answer more order =
    speaks_after_shutdown passes_late speaks_last stop answer i k params result given asked [] (null_reply k ∷ [])
    _ (response j (Ok result)) [] more order

-- The write of the last message failed, the session was decided, and something behind the message that decided was
-- taken; the same if memory ran out.
pub eats_past_exit : (limit : Limits) (fault : WriteFault) (answer : SessionAnswer) (at rest : List ℕ) → (rest ≡ at → ⊥)
    → Ends limit (Some rest) (Err (Write fault)) answer decided at ⊎ Ends limit (Some rest) (Err NoMemory) answer
    decided at → ⊥
eats_past_exit limit fault answer at rest other (inl left) = let same : rest ≡ at = cc (left) in other same
eats_past_exit limit fault answer at rest other (inr left) = let same : rest ≡ at = cc (left) in other same

-- memory ran out, and two messages were not written
pub loses_two : (a b : Option (List ℕ)) (stop : Stop) (xs : List Exchange) → (GetsFrames (sends_of xs) a b → ⊥)
    → ((whole : List Message) (last : Message) → sends_of xs ≡ whole ++ last ∷ [] → GetsFrames whole a b → ⊥)
    → Wrote a b (Err NoMemory) stop xs → ⊥
loses_two a b stop xs all most (inl wrote) = all wrote
loses_two a b stop xs all most (inr wrote) = most wrote.0 wrote.1 wrote.3 wrote.4

-- memory ran out for a reply that the outbox took
pub loses_a_reply : (a b : Option (List ℕ)) (stop : Stop) (xs : List Exchange) → lost_of xs ≡ None
    → (GetsFrames (sends_of xs) a b → ⊥) → Wrote a b (Err NoMemory) stop xs → ⊥
loses_a_reply a b stop xs none lost (inl all) = lost all
loses_a_reply a b stop xs none lost (inr most) = let e : None ≡ Some most.1 = sym none ∙ most.2 in cc (e)

-- a wake among what was read of a text
pub woken_by_nobody : (limit : Limits) (came : List (Option Message)) (text at : List ℕ) → FoldsTo (ReadsMessage limit)
    text came at
    → list_all (λ (c : Option Message). is_some c) came ≡ false → ⊥
woken_by_nobody limit [] text at run woken = cc (woken)
woken_by_nobody limit (Some m ∷ came) text at run woken = woken_by_nobody limit came run.0 at run.2 woken
woken_by_nobody limit (None ∷ came) text at run woken = run.1
