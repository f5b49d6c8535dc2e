-- A session of a server that ended well: how its client left, and its replies.
use Rattle.lsp_message.specs.Frame.{reading_within}
use Rattle.lsp_message.specs.Id.{Id, id_cmp}
use Rattle.lsp_message.specs.Message.{Message, ErrorObject, request, notification, response}
use Rattle.lsp_message.specs.Methods.{is_early, is_initialize, is_initialized, is_shutdown, is_exit}
use Rattle.lsp_message.specs.declared.frame.limits.Limits.{Limits}
use Rattle.lsp_acts.proofs.Counting.{used_once}
use Rattle.lsp_acts.proofs.Taking.{keeps_laws}
use Rattle.lsp_acts.specs.ServerEndsWell.{EndsSo, ServerEndsWell}
use Rattle.lsp_acts.specs.Law.{GetsShutdownReply, IsWhole, KeepsLaws, OnceOrEnded, WasToSend, held_under, how_many}
use Rattle.lsp_acts.specs.Law.{is_reply_under, is_request_under, one_if}
use Rattle.lsp_acts.specs.ServerApplication.{ServerSession, held_by, with_queues}
use Rattle.lsp_acts.specs.declared.server.Server.{Ghosts as Stated}
use Rattle.lsp_queue.specs.Queue.{Pending}
use Rattle.lsp_session.proofs.Ran.{messages_both, sends_both}
use Rattle.lsp_session.proofs.WellEnded.{as_written, well_told}
use Rattle.lsp_session.proofs.WellNoted.{AllTaken}
use Rattle.lsp_session.proofs.WellServed.{failed, is_method, more_messages, more_sends, not_false, not_true, over}
use Rattle.lsp_session.proofs.WellServed.{stops_well, whole_step}
use Rattle.lsp_session.specs.ActBytes.{SkipsNothing, ToldSession}
use Rattle.lsp_session.specs.EndsWell.{all_given, all_taken}
use Rattle.lsp_session.specs.ProtocolError.{expected_initialize, expected_initialized, unexpected_in_shutdown}
use Rattle.lsp_session.specs.Replies.{null_reply, IsEarlyReply}
use Rattle.lsp_session.specs.Session.{Behavior, Exchange, Fails, Leaves, Phase, Step, Steps, Stop, Stops, asked}
use Rattle.lsp_session.specs.Session.{decided, ended, exhausted, is_reply, is_served, messages_of, no_more, offered}
use Rattle.lsp_session.specs.Session.{phase_after, refused, replied, sends_of, serving, starting, timed_out}
use Rattle.lsp_session.specs.Transcripts.{notes_of}
use Rattle.lsp_session.specs.declared.loops.handler.SessionEnd.{SessionEnd}
use Rattle.lsp_session.specs.declared.loops.handler.SessionEnd.TheVariants.{ShutDown, Closed}
use Rattle.lsp_session.specs.declared.loops.stream_session.SessionFault.{SessionFault}
use Rattle.lsp_session.specs.declared.loops.transcript.Transcript.{Transcript}
use Rattle.serde_json.specs.Data.{Data}
use Rattle.std.proofs.Common.{◌≡◌, refl, sym, ◌∙◌, ap, subst, inl, inr, ◌⊎◌, ℕ, Bool, true, false}
use Rattle.std.proofs.Common.{◌&&◌, codes, List, [], ◌∷◌, ◌++◌, append-nil, append_assoc, Option, Some, None}
use Rattle.std.specs.Bool.{MatchBool}
use Rattle.std.specs.FinMap.{get-empty}
use Rattle.std.specs.List.{cons_option, list_all}
use Rattle.std.specs.Prelude.{Result, Ok, Err, IfOk, is_some}

cons_both : (c : Option Message) (xs ys : List Message) → cons_option c (xs ++ ys) ≡ cons_option c xs ++ ys
cons_both None xs ys = refl
cons_both (Some m) xs ys = refl

-- `shutdown` came, and got its reply last; then nothing but replies came, and then `exit`
record ShutsDown (xs : List Exchange) : Type 0 where
  before : List Exchange
  asking : Exchange
  after : List Exchange
  id : Id
  params : Data
  parting : List Message
  late : List Message
  gone : Data
  cut : xs ≡ before ++ asking ∷ after
  came : asking.came ≡ Some (request id (codes "shutdown") params)
  gets : offered asking ≡ parting ++ null_reply id ∷ []
  exits : messages_of after ≡ late ++ notification (codes "exit") gone ∷ []
  replies : list_all is_reply late ≡ true
  silent : sends_of after ≡ []

-- how a session ended well, by its exchanges
abbrev ClosesSo : SessionEnd → Stop → List Exchange → Type 0
ClosesSo ShutDown stop xs = ShutsDown xs × (stop ≡ decided)
ClosesSo Closed stop xs =
    ((before : List Message) × (gone : Data) × (messages_of xs ≡ before ++ notification (codes "exit") gone ∷ [])
    × (stop ≡ decided))
    ⊎ (stop ≡ no_more)

one_more : (end : SessionEnd) (stop : Stop) (x : Exchange) (xs : List Exchange) → ClosesSo end stop xs
    → ClosesSo end stop (x ∷ xs)
one_more ShutDown stop x xs (shuts, is) = (
  record {
    before = x ∷ shuts.before;
    asking = shuts.asking;
    after = shuts.after;
    id = shuts.id;
    params = shuts.params;
    parting = shuts.parting;
    late = shuts.late;
    gone = shuts.gone;
    cut = ap (λ l. x ∷ l) shuts.cut;
    came = shuts.came;
    gets = shuts.gets;
    exits = shuts.exits;
    replies = shuts.replies;
    silent = shuts.silent;
  },
  is,
)
one_more Closed stop x xs (inl (before, gone, came, is)) = inl (
  cons_option x.came before,
  gone,
  ap (λ ms. cons_option x.came ms) came ∙ cons_both x.came before (notification (codes "exit") gone ∷ []),
  is,
)
one_more Closed stop x xs (inr is) = inr is

module _ {H : Type 0} (plain : Behavior H) where
  -- after `shutdown`
  record Gone (xs : List Exchange) (stop : Stop) (end : SessionEnd) : Type 0 where
    late : List Message
    gone : Data
    came : messages_of xs ≡ late ++ notification (codes "exit") gone ∷ []
    replies : list_all is_reply late ≡ true
    sent : sends_of xs ≡ []
    shut : end ≡ ShutDown
    decides : stop ≡ decided

  goes : (i : Id) (h h' h'' : H) (q : Phase) (xs : List Exchange) (stop : Stop) (end : SessionEnd) → AllTaken xs
      → Steps plain (asked i) h xs q h' → Stops plain q h' stop (Ok end) h'' → Gone xs stop end
  goes i h h' h'' q [] stop end all run stops = absurd (at stop (subst (λ (p : Phase × H). Stops plain p.0 p.1 stop
      (Ok end) h'') (sym run) stops))
    where
      at : (stop : Stop) → Stops plain (asked i) h stop (Ok end) h'' → ⊥
      at decided stops = stops
      at no_more stops = cc (stops.0)
      at timed_out stops = cc (stops.0)
      at (refused fault) stops = stops
      at exhausted stops = cc (stops.0)
  goes i h h' h'' q (x ∷ xs) stop end all run stops = at (λ is. goes i run.0.1 h' h'' q xs stop end all.1
      (subst (λ (p : Phase). Steps plain p run.0.1 xs q h') is run.2) stops) x.came refl
      (whole_step plain (asked i) run.0.0 h run.0.1 x all.0 run.1)
    where
      skips : (run.0.0 ≡ asked i → Gone xs stop end) → (m : Message) → x.came ≡ Some m → (b : Bool)
          → (plain.passes_late && is_reply m) ≡ b
          → MatchBool b ((x.sent ≡ []) × (run.0.0 ≡ asked i)) (Fails unexpected_in_shutdown x.sent run.0.0)
          → Gone (x ∷ xs) stop end
      skips onward m came true is step =
          let rest = onward step.1 in
          record {
            late = m ∷ rest.late;
            gone = rest.gone;
            came = more_messages x xs (Some m) came ∙ ap (λ ms. m ∷ ms) rest.came;
            replies = rw (second plain.passes_late (is_reply m) is) rest.replies;
            sent = more_sends x xs [] all.0 step.0 ∙ rest.sent;
            shut = rest.shut;
            decides = rest.decides;
          }
        where
          second : (a b : Bool) → (a && b) ≡ true → b ≡ true
          second true b e = e
          second false b e = absurd (cc (e))
      skips onward m came false is step = absurd (failed plain (Err (unexpected_in_shutdown step.0)) run.0.1 h' h'' q
          xs stop end run.0.0 step.2 (λ e. cc (e)) run.2 stops)

      exits : (run.0.0 ≡ asked i → Gone xs stop end) → (m : Message) → x.came ≡ Some m → (b : Bool) → is_exit m ≡ b
          → MatchBool b ((x.sent ≡ []) × (run.0.0 ≡ ended (Ok ShutDown)))
          (MatchBool (plain.passes_late && is_reply m) ((x.sent ≡ []) × (run.0.0 ≡ asked i))
          (Fails unexpected_in_shutdown x.sent run.0.0)) → Gone (x ∷ xs) stop end
      exits onward (notification method params) came true is step =
          let last = over plain (Ok ShutDown) run.0.1 h' h'' q xs stop (Ok end) (subst (λ (p : Phase). Steps plain p
          run.0.1 xs q h') step.1 run.2) stops in
          let none : messages_of xs ≡ [] = ap messages_of last.0 in
          let named = is_method method (codes "exit") is in
          record {
            late = [];
            gone = params;
            came = more_messages x xs (Some (notification method params)) came ∙ rw (named, none) refl;
            replies = refl;
            sent = more_sends x xs [] all.0 step.0 ∙ ap sends_of last.0;
            shut = cc (last.2);
            decides = last.1;
          }
      exits onward (request j method params) came true is step = absurd (cc (is))
      exits onward (response j outcome) came true is step = absurd (cc (is))
      exits onward m came false is step = skips onward m came (plain.passes_late && is_reply m) refl step

      at : (run.0.0 ≡ asked i → Gone xs stop end) → (c : Option Message) → x.came ≡ c
          → Step plain (asked i) h c x.sent run.0.0 run.0.1 → Gone (x ∷ xs) stop end
      at onward None came step = absurd step
      at onward (Some m) came step = exits onward m came (is_exit m) refl step.0

  -- from `initialized` on
  serves : (h h' h'' : H) (q : Phase) (xs : List Exchange) (stop : Stop) (end : SessionEnd) → AllTaken xs
      → Steps plain serving h xs q h' → Stops plain q h' stop (Ok end) h'' → ClosesSo end stop xs
  serves h h' h'' q [] stop end all run stops = at stop (subst (λ (p : Phase × H). Stops plain p.0 p.1 stop (Ok end)
      h'') (sym run) stops)
    where
      at : (stop : Stop) → Stops plain serving h stop (Ok end) h'' → ClosesSo end stop []
      at no_more stops =
          let is : end ≡ Closed = cc (stops.0) in
          subst (λ (e : SessionEnd). ClosesSo e no_more []) (sym is) (inr refl)
      at decided stops = absurd stops
      at timed_out stops = absurd stops
      at (refused fault) stops = absurd stops
      at exhausted stops = absurd (cc (stops))
  serves h h' h'' q (x ∷ xs) stop end all run stops = at (λ is. one_more end stop x xs (serves run.0.1 h' h'' q xs stop
      end all.1 (subst (λ (p : Phase). Steps plain p run.0.1 xs q h') is run.2) stops)) x.came refl
      (whole_step plain serving run.0.0 h run.0.1 x all.0 run.1)
    where
      left : (m : Message) → x.came ≡ Some m → is_served m ≡ false → Leaves plain h m x.sent run.0.0 run.0.1
          → ClosesSo end stop (x ∷ xs)
      left (request i method params) came other step =
          let gone = goes i run.0.1 h' h'' q xs stop end all.1 (subst (λ (p : Phase). Steps plain p run.0.1 xs q h')
          step.3 run.2) stops in
          let named = is_method method (codes "shutdown") (not_true (is_shutdown (request i method params)) other) in
          subst (λ (e : SessionEnd). ClosesSo e stop (x ∷ xs)) (sym gone.shut) (
            record {
              before = [];
              asking = x;
              after = xs;
              id = i;
              params = params;
              parting = step.0;
              late = gone.late;
              gone = gone.gone;
              cut = refl;
              came = came ∙ ap (λ name. Some (request i name params)) named;
              gets = rw all.0 step.2;
              exits = gone.came;
              replies = gone.replies;
              silent = gone.sent;
            },
            gone.decides,
          )
      left (notification method params) came other step =
          let last = over plain (Ok Closed) run.0.1 h' h'' q xs stop (Ok end) (subst (λ (p : Phase). Steps plain p
          run.0.1 xs q h') step.1 run.2) stops in
          let none : messages_of xs ≡ [] = ap messages_of last.0 in
          let named = is_method method (codes "exit") (not_false (is_exit (notification method params)) other) in
          let shut : end ≡ Closed = cc (last.2) in
          subst (λ (e : SessionEnd). ClosesSo e stop (x ∷ xs)) (sym shut) (inl (
            [],
            params,
            more_messages x xs (Some (notification method params)) came ∙ rw (named, none) refl,
            last.1,
          ))
      left (response i outcome) came other step = absurd (cc (other))

      served_or : (run.0.0 ≡ serving → ClosesSo end stop (x ∷ xs)) → (m : Message) → x.came ≡ Some m → (b : Bool)
          → is_served m ≡ b
          → MatchBool b (plain.outputs h m x.sent run.0.1 × (run.0.0 ≡ serving))
          (Leaves plain h m x.sent run.0.0 run.0.1) → ClosesSo end stop (x ∷ xs)
      served_or onward m came true is step = onward step.1
      served_or onward m came false is step = left m came is step

      at : (run.0.0 ≡ serving → ClosesSo end stop (x ∷ xs)) → (c : Option Message) → x.came ≡ c
          → Step plain serving h c x.sent run.0.0 run.0.1 → ClosesSo end stop (x ∷ xs)
      at onward (Some m) came step = served_or onward m came (is_served m) refl step
      at onward None came step = onward step.1

  -- after the result of `initialize`
  opens : (h h' h'' : H) (q : Phase) (xs : List Exchange) (stop : Stop) (end : SessionEnd) → AllTaken xs
      → Steps plain replied h xs q h' → Stops plain q h' stop (Ok end) h'' → ClosesSo end stop xs
  opens h h' h'' q [] stop end all run stops = absurd (at stop (subst (λ (p : Phase × H). Stops plain p.0 p.1 stop
      (Ok end) h'') (sym run) stops))
    where
      at : (stop : Stop) → Stops plain replied h stop (Ok end) h'' → ⊥
      at decided stops = stops
      at no_more stops = cc (stops.0)
      at timed_out stops = stops
      at (refused fault) stops = stops
      at exhausted stops = cc (stops.0)
  opens h h' h'' q (x ∷ xs) stop end all run stops = at x.came (whole_step plain replied run.0.0 h run.0.1 x all.0
      run.1)
    where
      by : (m : Message) (b : Bool) → MatchBool b (plain.at_initialized h x.sent run.0.1 × (run.0.0 ≡ serving))
          (Fails expected_initialized x.sent run.0.0 × (run.0.1 ≡ h)) → ClosesSo end stop (x ∷ xs)
      by m true step = one_more end stop x xs (serves run.0.1 h' h'' q xs stop end all.1 (subst (λ (p : Phase). Steps
          plain p run.0.1 xs q h') step.1 run.2) stops)
      by m false step = absurd (failed plain (Err (expected_initialized step.0.0)) run.0.1 h' h'' q xs stop end run.0.0
          step.0.2 (λ e. cc (e)) run.2 stops)

      at : (c : Option Message) → Step plain replied h c x.sent run.0.0 run.0.1 → ClosesSo end stop (x ∷ xs)
      at None step = absurd step
      at (Some m) step = by m (is_initialized m) step

  -- a whole session
  begins : (h h' h'' : H) (q : Phase) (xs : List Exchange) (stop : Stop) (end : SessionEnd) → AllTaken xs
      → Steps plain starting h xs q h' → Stops plain q h' stop (Ok end) h'' → ClosesSo end stop xs
  begins h h' h'' q [] stop end all run stops = absurd (at stop (subst (λ (p : Phase × H). Stops plain p.0 p.1 stop
      (Ok end) h'') (sym run) stops))
    where
      at : (stop : Stop) → Stops plain starting h stop (Ok end) h'' → ⊥
      at decided stops = stops
      at no_more stops = cc (stops.0)
      at timed_out stops = stops
      at (refused fault) stops = stops
      at exhausted stops = cc (stops.0)
  begins h h' h'' q (x ∷ xs) stop end all run stops = at (λ is. one_more end stop x xs (begins run.0.1 h' h'' q xs stop
      end all.1 (subst (λ (p : Phase). Steps plain p run.0.1 xs q h') is run.2) stops)) x.came
      (whole_step plain starting run.0.0 h run.0.1 x all.0 run.1)
    where
      after : (run.0.0 ≡ starting → ClosesSo end stop (x ∷ xs)) → (outcome : Result Data ErrorObject)
          → run.0.0 ≡ phase_after outcome → ClosesSo end stop (x ∷ xs)
      after onward (Ok result) is = one_more end stop x xs (opens run.0.1 h' h'' q xs stop end all.1 (subst
          (λ (p : Phase). Steps plain p run.0.1 xs q h') is run.2) stops)
      after onward (Err error) is = onward is

      asks : (run.0.0 ≡ starting → ClosesSo end stop (x ∷ xs)) → (i : Id) (params : Data) (b : Bool)
          → MatchBool b
          ((outcome : Result Data ErrorObject) × plain.initializes h params outcome run.0.1
          × (x.sent ≡ response i outcome ∷ []) × (run.0.0 ≡ phase_after outcome))
          ((reply : Message) × IsEarlyReply i reply × (x.sent ≡ reply ∷ []) × (run.0.0 ≡ starting) × (run.0.1 ≡ h))
          → ClosesSo end stop (x ∷ xs)
      asks onward i params true step = after onward step.0 step.3
      asks onward i params false step = onward step.3

      early : (run.0.0 ≡ starting → ClosesSo end stop (x ∷ xs)) → (b : Bool)
          → MatchBool b ((x.sent ≡ []) × (run.0.0 ≡ starting)) (Fails expected_initialize x.sent run.0.0)
          → ClosesSo end stop (x ∷ xs)
      early onward true step = onward step.1
      early onward false step = absurd (failed plain (Err (expected_initialize step.0)) run.0.1 h' h'' q xs stop end
          run.0.0 step.2 (λ e. cc (e)) run.2 stops)

      at : (run.0.0 ≡ starting → ClosesSo end stop (x ∷ xs)) → (c : Option Message)
          → Step plain starting h c x.sent run.0.0 run.0.1 → ClosesSo end stop (x ∷ xs)
      at onward None step = absurd step
      at onward (Some (request i method params)) step = asks onward i params (is_initialize (request i method params))
          step
      at onward (Some (notification method params)) step = early onward (is_early (notification method params)) step.0
      at onward (Some (response i outcome)) step = early onward false step.0

module _ {S P : Type 0} (may : Stated S P) (first last : S) where
  -- after `shutdown` each request whose id was used once has its reply
  once_at_shutdown : (xs : List Exchange) (stop : Stop) (end : SessionEnd) (held : Pending (Unit {0}))
      → KeepsLaws may first last held xs stop (Ok end) → ShutsDown xs → stop ≡ decided → (i : Id)
      → how_many (is_request_under i) (messages_of xs) ≡ 1 → how_many (is_reply_under i) (sends_of xs) ≡ 1
  once_at_shutdown xs stop end held laws shuts is i one =
      let whole : IsWhole stop = subst IsWhole (sym is) tt in
      let lasts : stop ≡ exhausted → ⊥ = λ e. cc (sym is ∙ e) in
      let all : laws.all ≡ xs = subst (λ s. WasToSend s xs laws.all) is laws.to_send in
      let replied : GetsShutdownReply xs = record {
        before = shuts.before;
        asking = shuts.asking;
        after = shuts.after;
        id = shuts.id;
        method = codes "shutdown";
        params = shuts.params;
        parting = shuts.parting;
        cut = shuts.cut;
        came = shuts.came;
        asks = refl;
        gets = shuts.gets;
      } in
      let none : held_under i held ≡ 0 = ap (held_under i) (laws.none_held (subst GetsShutdownReply (sym all) replied))
      ∙ ap (λ o. one_if (is_some o)) (get-empty id_cmp i) in
      at none (used_once i xs laws.all stop held (Ok end) laws.to_send whole (laws.never_more i) (laws.once lasts i)
      one)
    where
      at : held_under i held ≡ 0 → OnceOrEnded i xs stop held (Ok end)
          → how_many (is_reply_under i) (sends_of xs) ≡ 1
      at none (inl one) = one
      at none (inr (silent, inl kept)) = let never : 1 ≡ 0 = sym kept ∙ none in absurd (cc (never))
      at none (inr (silent, inr ends)) = absurd ends.2

  ends_so : (limit : Limits) (end : SessionEnd) (xs : List Exchange) (stop : Stop) (held : Pending (Unit {0}))
      (rest left : List ℕ) → KeepsLaws may first last held xs stop (Ok end) → (stop ≡ decided → rest ≡ left)
      → (stop ≡ no_more → reading_within limit rest ≡ record { outcome = Ok None; rest = left })
      → ClosesSo end stop xs → EndsSo limit end (messages_of xs) (sends_of xs) rest left
  ends_so limit ShutDown xs stop held rest left laws at_message at_end (shuts, is) =
      let asks = request shuts.id (codes "shutdown") shuts.params in
      let exits = notification (codes "exit") shuts.gone in (
        messages_of shuts.before,
        shuts.id,
        shuts.params,
        shuts.late,
        shuts.gone,
        ap messages_of shuts.cut ∙ messages_both shuts.before (shuts.asking ∷ shuts.after)
            ∙ ap (λ ms. messages_of shuts.before ++ ms) (more_messages shuts.asking shuts.after (Some asks) shuts.came
            ∙ ap (λ ms. asks ∷ ms) shuts.exits),
        shuts.replies,
        sends_of shuts.before ++ shuts.parting,
        ap sends_of shuts.cut ∙ sends_both shuts.before (shuts.asking ∷ shuts.after)
            ∙ ap (λ ms. sends_of shuts.before ++ ms) (ap (λ ms. offered shuts.asking ++ ms) shuts.silent
            ∙ append-nil (offered shuts.asking) ∙ shuts.gets)
            ∙ sym (append_assoc (sends_of shuts.before) shuts.parting (null_reply shuts.id ∷ [])),
        once_at_shutdown xs stop ShutDown held laws shuts is,
        at_message is,
      )
  ends_so limit Closed xs stop held rest left laws at_message at_end (inl (before, gone, came, is)) = inl (
    before,
    gone,
    came,
    at_message is,
  )
  ends_so limit Closed xs stop held rest left laws at_message at_end (inr is) = inr (at_end is)

  -- a session over a transport that skipped nothing, whatever it returns
  pub over_transport : (limit : Limits) (t : Transcript) (result : Result SessionEnd SessionFault)
      → SkipsNothing (notes_of t) → ToldSession limit (ServerSession may first last) (notes_of t) result
      → IfOk result (λ end. ServerEndsWell limit (all_taken t) [] (all_given t) end)
  over_transport limit t (Err fault) skips told = tt
  over_transport limit t (Ok end) skips told =
      let well = well_told limit (ServerSession may first last) t end (λ xs stop session. stops_well (with_queues may)
      session.old session.new xs stop end session.out) skips told in
      let xs = well.exchanges in
      let session = well.part in
      let laws = keeps_laws may first last xs well.stop (Ok end) session in
      record {
        messages = messages_of xs;
        sent = sends_of xs;
        rest = well.rest;
        came = well.came;
        went = as_written (sends_of xs) (all_given t) well.went;
        never_more = λ id. laws.never_more id xs [] (sym (append-nil xs));
        ends = ends_so limit end xs well.stop (held_by may session) well.rest [] laws well.at_message well.at_end
            (begins (with_queues may) session.old session.out.after session.new session.out.last xs well.stop end
            well.all session.out.reached session.out.stopped);
      }
