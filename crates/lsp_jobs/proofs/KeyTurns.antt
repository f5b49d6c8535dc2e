-- The turns of a server with jobs, and which job of a key, and of a request, has a say in each.
use Rattle.serde_json.specs.Data.{Data}
use Rattle.std.proofs.Common.{◌≡◌, ◌⊎◌, refl, sym, ◌∙◌, ap, subst, inl, inr, ℕ, Bool, true, false, List, [], ◌∷◌}
use Rattle.std.proofs.Common.{◌++◌, append_assoc, append-nil, Option, Some, None}
use Rattle.std.specs.Bool.{MatchBool}
use Rattle.std.specs.Prelude.{map as map_list, is_some, IsSome, IsSomeAnd}
use Rattle.lsp_message.specs.Id.{Id}
use Rattle.lsp_message.specs.Message.{Message, request, notification, response}
use Rattle.lsp_message.specs.Methods.{is_initialize, is_initialized}
use Rattle.lsp_session.specs.Session.{Exchange, offered}
use Rattle.lsp_acts.specs.Acts.{Act, TakesBack, cancelled_by, unsent}
use Rattle.lsp_acts.specs.Law.{AnswersInitialize, Call, Handed, Initializes, TakesCalls, TakesPart, ids_after_all}
use Rattle.lsp_acts.specs.declared.server.Server.{Ghosts as Plain}
use Rattle.lsp_jobs.proofs.Answering.{back_pending, does_jobs, requests_then, FromCall}
use Rattle.lsp_jobs.proofs.KeyChanges.{after-append, fewer_keys, under_keys, moves_all, turns-append, unanswered_key}
use Rattle.lsp_jobs.proofs.KeyChanges.{unanswered_keys, went_all, Changed}
use Rattle.lsp_jobs.specs.Asking.{by_server, ByServers}
use Rattle.lsp_jobs.specs.Ends.{end_of}
use Rattle.lsp_jobs.specs.JobSession.{seen_with_jobs}
use Rattle.lsp_jobs.specs.PendingJobs.{PendingJobs, no_jobs, without}
use Rattle.lsp_jobs.specs.PoolView.{pending_jobs}
use Rattle.lsp_jobs.specs.Pooled.{reply_at, unanswered, without_cancelled, ChangesJobs, Does, Finishes, TakesLong}
use Rattle.lsp_jobs.specs.Seen.{seen}
use Rattle.lsp_jobs.specs.KeyedJobLaw.{AllLeaveAlone, AllQuiet, AreTurns, Becomes, IsCalled, IsGiven, IsTurn}
use Rattle.lsp_jobs.specs.KeyedJobLaw.{LeavesAlone}
use Rattle.lsp_jobs.specs.KeyedJobLaw.{IsIn, LastStart, Left, KeyEvent, TakeTurns, after_events, events_of, heard_in}
use Rattle.lsp_jobs.specs.KeyedJobLaw.{lefts_of, keys_after, MayPass, SeesLeft, KeyHistory, Spares, Stands}
use Rattle.lsp_jobs.specs.KeyedJobLaw.{StartsLast}
use Rattle.lsp_jobs.specs.KeyedJobLaw.{Turn, WakeDoes, at_ends, concerns}
use Rattle.lsp_jobs.specs.declared.asking.RequestOrigin.{RequestOrigin}
use Rattle.lsp_jobs.specs.declared.asking.RequestOrigin.TheVariants.{ByJob, ByServer}
use Rattle.lsp_jobs.specs.Stated.{SeesEnd, StatedJobs}
use Rattle.lsp_jobs.specs.declared.job_server.JobCommand.{JobCommand}
use Rattle.lsp_jobs.specs.declared.names.JobName.{JobName}
use Rattle.lsp_jobs.specs.declared.names.JobName.TheVariants.{Request, Keyed}
use Rattle.lsp_jobs.specs.declared.pooled_server.PooledServer.{PooledServer}

module _ {S J F P : Type 0} (plain : Plain S P) (may : StatedJobs S J F P) where
  -- what becomes of the jobs under keys
  abbrev pub MovesTo : List (JobCommand J) → PendingJobs J → PendingJobs J → Type 0
  MovesTo changes old new = (key : Id) (e : J) → new (Keyed key) ≡ Some e
      → ((old (Keyed key) ≡ Some e) × LeavesAlone key changes) ⊎ StartsLast changes key e

  -- the server changed its keys, and saw which jobs that ended
  record Made (asked : S) (old : PendingJobs J) (acts all : List (Act P)) (new : S × PendingJobs J)
      : Type 0 where
    changes : List (JobCommand J)
    mid : S
    gives : may.take_commands_post asked changes mid
    became : List (KeyEvent may)
    becomes : Becomes may changes became
    linked : SeesLeft plain may mid (lefts_of may became) new.0
    done : all ≡ acts ++ at_ends may (lefts_of may became)
    moves : MovesTo changes old new.1
    keys : under_keys new.1 ≡ after_events may (under_keys old) became
    turns : TakeTurns may (under_keys old) became

  made : (asked : S) (old : PendingJobs J) (acts all : List (Act P)) (new : S × PendingJobs J)
      → ChangesJobs may (asked, old) acts all new → Made asked old acts all new
  made asked old acts all new c = record {
    changes = c.changes;
    mid = c.mid;
    gives = c.gives;
    became = went.0.events;
    becomes = went.1;
    linked = went.0.linked;
    done = went.0.acts;
    moves = λ key e has. elim (moves_all plain may c.changes (c.mid, unanswered acts old, acts) (new.0, new.1, all)
        c.made key e has) [
          | inl was ↦ inl (sym (unanswered_key acts old key) ∙ was.0, was.1)
          | inr last ↦ inr last
        ];
    keys = went.0.keys ∙ ap (λ (s : Id → Option J). after_events may s went.0.events) same;
    turns = subst (λ (s : Id → Option J). TakeTurns may s went.0.events) same went.0.turns;
  }
    where
      went : Changed plain may c.changes (c.mid, unanswered acts old, acts) (new.0, new.1, all)
      went = went_all plain may c.changes (c.mid, unanswered acts old, acts) (new.0, new.1, all) c.made

      same : under_keys (unanswered acts old) ≡ under_keys old
      same = unanswered_keys acts old

  -- the job that is pending for a request that came
  abbrev given_at : Option Message → PendingJobs J → Option J
  given_at (Some (request id method params)) pending = pending (Request id)
  given_at came pending = None

  -- where the jobs come from that are pending for requests after this turn
  abbrev Comes : Turn plain may → PendingJobs J → PendingJobs J → Type 0
  Comes t old new = (id : Id) (e : J) → new (Request id) ≡ Some e
      → FromCall (IsGiven plain may t.old t.call.acts) old t.call.came id e × Spares id t.call.acts

  -- what becomes of keys in a turn
  abbrev pub events_at : Turn plain may → List (KeyEvent may)
  events_at t = heard_in plain may t.heard ++ t.became

  -- each job that is pending under a key is the last that was started there, and each other the one given for
  -- its request
  abbrev pub AllStand : List (Turn plain may) → PendingJobs J → Type 0
  AllStand earlier pending = ((name : JobName) (e : J) → pending name ≡ Some e → Stands plain may earlier name e)
      × (under_keys pending ≡ keys_after plain may earlier)

  events-append : (xs ys : List (Turn plain may)) → events_of plain may (xs ++ ys)
      ≡ events_of plain may xs ++ events_of plain may ys
  events-append [] ys = refl
  events-append (t ∷ xs) ys = ap (λ (l : List (KeyEvent may)). events_at t ++ l) (events-append xs ys)
      ∙ sym (append_assoc (events_at t) (events_of plain may xs) (events_of plain may ys))

  -- the jobs under keys after one turn more
  pub keys_more : (earlier : List (Turn plain may)) (t : Turn plain may) → keys_after plain may (earlier ++ t ∷ [])
      ≡ after_events may (keys_after plain may earlier) (events_at t)
  keys_more earlier t =
      ap (after_events may (λ key. None)) (events-append earlier (t ∷ [])
      ∙ ap (λ (l : List (KeyEvent may)). events_of plain may earlier ++ l) (append-nil (events_at t)))
      ∙ after-append may (λ key. None) (events_of plain may earlier) (events_at t)

  alone_more : (key : Id) (turns : List (Turn plain may)) (t : Turn plain may) → AllLeaveAlone plain may key turns
      → LeavesAlone key t.changes → AllLeaveAlone plain may key (turns ++ t ∷ [])
  alone_more key [] t all one = (one, tt)
  alone_more key (x ∷ turns) t all one = (all.0, alone_more key turns t all.1 one)

  quiet_more : (id : Id) (turns : List (Turn plain may)) (t : Turn plain may) → AllQuiet plain may id turns
      → concerns id t.call.came ≡ false → Spares id t.call.acts → AllQuiet plain may id (turns ++ t ∷ [])
  quiet_more id [] t all calm spares = (calm, spares, tt)
  quiet_more id (x ∷ turns) t all calm spares = (all.0, all.1, quiet_more id turns t all.2 calm spares)

  stand_on : (earlier : List (Turn plain may)) (t : Turn plain may) (old new : PendingJobs J)
      → AllStand earlier old → MovesTo t.changes old new → t.given ≡ given_at t.call.came new → Comes t old new
      → under_keys new ≡ after_events may (under_keys old) (events_at t) → AllStand (earlier ++ t ∷ []) new
  stand_on earlier t old new before moves given comes keys = (stands_so, keys_now)
    where
      keys_now : under_keys new ≡ keys_after plain may (earlier ++ t ∷ [])
      keys_now = keys ∙ ap (λ (s : Id → Option J). after_events may s (events_at t)) before.1 ∙ sym
          (keys_more earlier t)

      starts_at : (key : Id) (e : J) → new (Keyed key) ≡ Some e → LastStart plain may (earlier ++ t ∷ []) key e
      starts_at key e has = elim (moves key e has) [
        | inl was ↦
            let stood : IsIn plain may earlier key e = before.0 (Keyed key) e was.0 in
            let l = stood.last in record {
              before = l.before;
              turn = l.turn;
              since = l.since ++ t ∷ [];
              cut = ap (λ (ts : List (Turn plain may)). ts ++ t ∷ []) l.cut
                  ∙ append_assoc l.before (l.turn ∷ l.since) (t ∷ []);
              started = l.started;
              alone = alone_more key l.since t l.alone was.1;
            }
        | inr started ↦ record {
          before = earlier;
          turn = t;
          since = [];
          cut = refl;
          started = started;
          alone = tt;
        }
      ]

      stands_so : (name : JobName) (e : J) → new name ≡ Some e → Stands plain may (earlier ++ t ∷ []) name e
      stands_so (Keyed key) e has = record {
        last = starts_at key e has;
        there = ap (λ (s : Id → Option J). s key) (sym keys_now) ∙ has;
      }
      stands_so (Request id) e has =
          let own = comes id e has in
          elim own.0 [
            | inl was ↦
                let l = before.0 (Request id) e was.0 in record {
                  before = l.before;
                  turn = l.turn;
                  since = l.since ++ t ∷ [];
                  cut = ap (λ (ts : List (Turn plain may)). ts ++ t ∷ []) l.cut
                      ∙ append_assoc l.before (l.turn ∷ l.since) (t ∷ []);
                  method = l.method;
                  params = l.params;
                  came = l.came;
                  given = l.given;
                  is_given = l.is_given;
                  quiet = quiet_more id l.since t l.quiet was.1 own.1;
                }
            | inr now ↦ record {
              before = earlier;
              turn = t;
              since = [];
              cut = refl;
              method = now.0;
              params = now.1;
              came = now.2;
              given = given ∙ ap (λ (c : Option Message). given_at c new) now.2 ∙ has;
              is_given = now.3;
              quiet = tt;
            }
          ]

module _ (T : Type 0) {S J F P : Type 0} (plain : Plain S P) (may : StatedJobs S J F P) where
  abbrev W : Plain (PooledServer T S J F) (RequestOrigin P)
  W = seen_with_jobs T plain may

  abbrev pended : PooledServer T S J F → PendingJobs J
  pended p = pending_jobs p.pool

  -- a call as a turn
  pub record TurnOf (old did : PooledServer T S J F) (call : Call (RequestOrigin P)) : Type 0 where
    pub turn : Turn plain may
    pub of_call : turn.call ≡ call
    pub from : turn.old ≡ old.server
    pub to : turn.new ≡ did.server
    pub gave : turn.given ≡ given_at plain may call.came (pended did)
    pub is_turn : IsTurn plain may turn
    pub moves : MovesTo plain may turn.changes (pended old) (pended did)
    pub keys : under_keys (pended did) ≡ after_events may (under_keys (pended old)) (events_at plain may turn)
    pub turns : TakeTurns may (under_keys (pended old)) (events_at plain may turn)
    pub wake : (earlier : List (Turn plain may)) → AllStand plain may earlier (pended old) → call.came ≡ None
        → WakeDoes plain may earlier turn

  -- the server did nothing
  passes : (old did : PooledServer T S J F) (call : Call (RequestOrigin P))
      → MayPass plain may old.server call.came call.acts → did.server ≡ old.server
      → ((key : Id) → pended did (Keyed key) ≡ pended old (Keyed key))
      → ((turn : Turn plain may) → turn.call ≡ call → turn.heard ≡ None → (earlier : List (Turn plain may))
      → AllStand plain may earlier (pended old) → call.came ≡ None → WakeDoes plain may earlier turn)
      → TurnOf old did call
  passes old did call may_pass same keys does =
      let turn : Turn plain may = record {
        call = call;
        old = old.server;
        given = given_at plain may call.came (pended did);
        heard = None;
        asked = old.server;
        changes = [];
        made = old.server;
        became = [];
        left = [];
        new = did.server;
      } in record {
        turn = turn;
        of_call = refl;
        from = refl;
        to = refl;
        gave = refl;
        is_turn = inr (may_pass, refl, refl, same, refl, refl);
        moves = λ key e has. inl (sym (keys key) ∙ has, tt);
        keys = λ k key. keys key k;
        turns = tt;
        wake = does turn refl refl;
      }

  -- at a wake, or at a reply, nothing changed
  stays : (old did : PooledServer T S J F) (call : Call (RequestOrigin P))
      → MayPass plain may old.server call.came call.acts → seen did ≡ seen old
      → ((turn : Turn plain may) → turn.call ≡ call → turn.heard ≡ None → (earlier : List (Turn plain may))
      → AllStand plain may earlier (pended old) → call.came ≡ None → WakeDoes plain may earlier turn)
      → TurnOf old did call
  stays old did call may_pass same =
      passes old did call may_pass (ap (λ (x : S × PendingJobs J). x.0) same)
      (λ key. ap (λ (x : S × PendingJobs J). x.1 (Keyed key)) same)

  -- the server was called, and then asked for changes
  called : (old did : PooledServer T S J F) (call : Call (RequestOrigin P)) (heard : Option JobName) (asked : S)
      (mid : PendingJobs J) (acts own : List (Act P)) → call.acts ≡ map_list by_server own
      → IsCalled plain may old.server call.came heard acts asked
      → ((key : Id) (e : J) → mid (Keyed key) ≡ Some e → pended old (Keyed key) ≡ Some e)
      → under_keys mid ≡ after_events may (under_keys (pended old)) (heard_in plain may heard)
      → TakeTurns may (under_keys (pended old)) (heard_in plain may heard)
      → (m : Made plain may asked mid acts own (seen did))
      → ((turn : Turn plain may) → turn.call ≡ call → turn.old ≡ old.server → turn.heard ≡ heard → turn.asked ≡ asked
      → turn.left ≡ lefts_of may m.became
      → (earlier : List (Turn plain may)) → AllStand plain may earlier (pended old) → call.came ≡ None
      → WakeDoes plain may earlier turn) → TurnOf old did call
  called old did call heard asked mid acts own by_own is_called same gone fits m does =
      let turn : Turn plain may = record {
        call = call;
        old = old.server;
        given = given_at plain may call.came (pended did);
        heard = heard;
        asked = asked;
        changes = m.changes;
        made = m.mid;
        became = m.became;
        left = lefts_of may m.became;
        new = did.server;
      } in record {
        turn = turn;
        of_call = refl;
        from = refl;
        to = refl;
        gave = refl;
        is_turn = inl (
          acts,
          is_called,
          m.gives,
          m.linked,
          by_own ∙ ap (map_list by_server) m.done,
          m.becomes,
          refl,
        );
        moves = λ key e has. elim (m.moves key e has) [
          | inl was ↦ inl (same key e was.0, was.1)
          | inr last ↦ inr last
        ];
        keys = m.keys ∙ ap (λ (s : Id → Option J). after_events may s m.became) gone
            ∙ sym (after-append may (under_keys (pended old)) (heard_in plain may heard) m.became);
        turns = turns-append may (under_keys (pended old)) (heard_in plain may heard) m.became fits
            (subst (λ (s : Id → Option J). TakeTurns may s m.became) gone m.turns);
        wake = does turn refl refl refl refl refl;
      }

  -- a call of the server, in which it did what it stated
  does_turn : (old did : PooledServer T S J F) (call : Call (RequestOrigin P)) (pending : PendingJobs J)
      (stated : List (Act P) → S → Type 0) → ByServers (λ own. Does may stated pending own (seen did)) call.acts
      → ((acts : List (Act P)) (mid : S) → stated acts mid → IsCalled plain may old.server call.came None acts mid)
      → under_keys pending ≡ under_keys (pended old)
      → (call.came ≡ None → ⊥) → TurnOf old did call
  does_turn old did call pending stated b is_called same message =
      let d = b.2 in
      called old did call None d.1 pending d.0 b.0 b.1 (is_called d.0 d.1 d.2)
      (λ key e has. ap (λ (s : Id → Option J). s key) (sym same) ∙ has) same tt
      (made plain may d.1 pending d.0 b.0 (seen did) d.3) (λ turn a b c d e earlier stand none. absurd (message none))

  keys_cancelled : (cancelled : Option Id) (pending : PendingJobs J)
      → under_keys (without_cancelled cancelled pending) ≡ under_keys pending
  keys_cancelled None pending = refl
  keys_cancelled (Some id) pending = refl

  -- the key of a job that came to something is free
  keys_heard : (name : JobName) (pending : PendingJobs J) → under_keys (without name pending)
      ≡ after_events may (under_keys pending) (heard_in plain may (Some name))
  keys_heard (Request id) pending = refl
  keys_heard (Keyed key) pending = refl

  fits_heard : (name : JobName) (pending : PendingJobs J) (job : J) → pending name ≡ Some job
      → TakeTurns may (under_keys pending) (heard_in plain may (Some name))
  fits_heard (Request id) pending job waits = tt
  fits_heard (Keyed key) pending job waits = (ap (λ (o : Option J). is_some o) waits, tt)

  -- a long request came
  long_turn : (old did : PooledServer T S J F) (id : Id) (method : List ℕ) (params : Data)
      (payload : Option (RequestOrigin P)) (acts : List (Act (RequestOrigin P)))
      → may.is_long_post old.server method params true
      → TakesLong may (seen old) id method params acts (seen did)
      → TurnOf old did (record { came = Some (request id method params); payload = payload; acts = acts })
  long_turn old did id method params payload acts long (inl j) =
      passes old did (record { came = Some (request id method params); payload = payload; acts = acts })
      (inl (j.job, (long, j.gives, j.is_for, j.acts))) (ap (λ (x : S × PendingJobs J). x.0) j.started)
      (λ key. ap (λ (x : S × PendingJobs J). x.1 (Keyed key)) j.started)
      (λ turn is silent earlier stand none. absurd (cc (none)))
  long_turn old did id method params payload acts long (inr a) =
      passes old did (record { came = Some (request id method params); payload = payload; acts = acts })
      (inr (long, a.outcome, a.is, a.acts)) (ap (λ (x : S × PendingJobs J). x.0) a.left)
      (λ key. ap (λ (x : S × PendingJobs J). x.1 (Keyed key)) a.left)
      (λ turn is silent earlier stand none. absurd (cc (none)))

  -- a job came to something
  finishes_turn : (old did : PooledServer T S J F) (payload : Option (RequestOrigin P))
      (acts : List (Act (RequestOrigin P))) (own : List (Act P)) → acts ≡ map_list by_server own
      → Finishes may (seen old) own (seen did)
      → TurnOf old did (record { came = None; payload = payload; acts = acts })
  finishes_turn old did payload acts own by_own f =
      called old did (record { came = None; payload = payload; acts = acts }) (Some f.name) f.did.0 f.did.1 f.acts own
      by_own (f.name, f.came, f.ended.0, f.ended.1, f.ended.2, refl) same gone (fits_heard f.name (pended old) f.job
      f.waits) m does
    where
      m : Made plain may f.did.0 f.did.1 f.acts own (seen did)
      m = made plain may f.did.0 f.did.1 f.acts own (seen did) f.others

      same : (key : Id) (e : J) → f.did.1 (Keyed key) ≡ Some e → pended old (Keyed key) ≡ Some e
      same key e has =
          fewer_keys f.name (pended old) key e (sym (unanswered_key f.acts (without f.name (pended old)) key)
          ∙ ap (λ (p : PendingJobs J). p (Keyed key)) (sym f.ended.3) ∙ has)

      gone : under_keys f.did.1 ≡ after_events may (under_keys (pended old)) (heard_in plain may (Some f.name))
      gone = ap (λ (p : PendingJobs J). under_keys p) f.ended.3 ∙ unanswered_keys f.acts (without f.name (pended old))
          ∙ keys_heard f.name (pended old)

      all : own ≡ (f.ended.0 ++ reply_at f.name f.came) ++ at_ends may (lefts_of may m.became)
      all = m.done ∙ ap (λ (l : List (Act P)). l ++ at_ends may (lefts_of may m.became)) f.ended.2

      does : (turn : Turn plain may) → turn.call ≡ record { came = None; payload = payload; acts = acts }
          → turn.old ≡ old.server → turn.heard ≡ Some f.name → turn.asked ≡ f.did.0
          → turn.left ≡ lefts_of may m.became → (earlier : List (Turn plain may))
          → AllStand plain may earlier (pended old) → ◌≡◌ {A = Option Message} None None
          → WakeDoes plain may earlier turn
      does turn is from heard asked left earlier stand none = inr (inl (
        f.name,
        f.job,
        stand.0 f.name f.job f.waits,
        inr (inr (
          f.came,
          f.ended.0,
          f.comes,
          subst (λ (x : S × S). SeesEnd may x.0 f.name (end_of f.came) f.ended.0 x.1)
              (λ k. (sym from k, sym asked k)) f.ended.1,
          ap (λ (c : Call (RequestOrigin P)). c.acts) is ∙ by_own ∙ ap (map_list by_server) all
              ∙ ap (λ (ls : List (Left may)). map_list by_server ((f.ended.0 ++ reply_at f.name f.came)
              ++ at_ends may ls)) (sym left),
          heard,
        )),
      ))

  pub handed_turn : (old did : PooledServer T S J F) (arrived : Option Message) (payload : Option (RequestOrigin P))
      (acts : List (Act (RequestOrigin P))) → Handed W old arrived payload acts did
      → TurnOf old did (record { came = arrived; payload = payload; acts = acts })
  handed_turn old did (Some (request id method params)) payload acts h = elim h.0 [
    | inl long ↦ long_turn old did id method params payload acts long.0 long.1
    | inr own ↦ does_turn old did (record { came = Some (request id method params); payload = payload; acts = acts })
        (without (Request id) (pended old)) (plain.request_post old.server id method params) own.1
        (λ did mid does. (own.0, does, refl)) refl (λ none. absurd (cc (none)))
  ]
  handed_turn old did (Some (notification method params)) payload acts h =
      does_turn old did (record { came = Some (notification method params); payload = payload; acts = acts })
      (without_cancelled (cancelled_by method params) (pended old)) (plain.notification_post old.server method params)
      h.0
      (λ did mid does. (inl does, refl)) (keys_cancelled (cancelled_by method params) (pended old))
      (λ none. absurd (cc (none)))
  handed_turn old did (Some (response id outcome)) (Some (ByServer payload)) acts h =
      does_turn old did (record {
        came = Some (response id outcome);
        payload = Some (ByServer payload);
        acts = acts;
      }) (pended old) (plain.response_post old.server payload outcome) h (λ did mid does. (payload, does, refl))
      refl (λ none. absurd (cc (none)))
  handed_turn old did (Some (response id outcome)) (Some (ByJob n)) acts h =
      stays old did (record { came = Some (response id outcome); payload = Some (ByJob n); acts = acts }) h.0 h.1
      (λ turn is silent earlier stand none. absurd (cc (none)))
  handed_turn old did (Some (response id outcome)) None acts h =
      stays old did (record { came = Some (response id outcome); payload = None; acts = acts }) h.1 (ap seen h.0)
      (λ turn is silent earlier stand none. absurd (cc (none)))
  handed_turn old did None payload acts h = woken h.0
    where
      now : Call (RequestOrigin P)
      now = record { came = None; payload = payload; acts = acts }

      woken : W.woken_post old acts did → TurnOf old did now
      woken (inl nothing) = stays old did now tt nothing.1 (λ turn is silent earlier stand none.
          inl (ap (λ (c : Call (RequestOrigin P)). c.acts) is ∙ nothing.0, silent))
      woken (inr (inl r)) = stays old did now tt r.same (λ turn is silent earlier stand none. inr (inl (
        r.name,
        r.job,
        stand.0 r.name r.job r.waits,
        inl (r.method, r.params, r.reports, ap (λ (c : Call (RequestOrigin P)). c.acts) is ∙ r.acts, silent),
      )))
      woken (inr (inr (inl a))) = stays old did now tt a.same (λ turn is silent earlier stand none. inr (inl (
        a.name,
        a.job,
        stand.0 a.name a.job a.waits,
        inr (inl (
          a.method,
          a.params,
          a.number,
          a.may_send_request,
          ap (λ (c : Call (RequestOrigin P)). c.acts) is ∙ a.acts,
          silent,
        )),
      )))
      woken (inr (inr (inr (inl b)))) = finishes_turn old did payload acts b.0 b.1 b.2
      woken (inr (inr (inr (inr w)))) = stays old did now tt w.same (λ turn is silent earlier stand none.
          inr (inr (w.number, ap (λ (c : Call (RequestOrigin P)). c.acts) is ∙ w.acts, silent)))

  -- what the server took back
  pub took_back : (payloads : List (RequestOrigin P)) (old new : PooledServer T S J F)
      → TakesBack W.ids_exhausted_post old payloads new → (own : List P) × TakesBack plain.ids_exhausted_post
      old.server own new.server
  took_back [] old new same = ([], ap (λ (p : PooledServer T S J F). p.server) same)
  took_back (ByServer payload ∷ payloads) old new back =
      let rest = took_back payloads back.0 new back.2 in
      (payload ∷ rest.0, (back.0.server, back.1.0, rest.1))
  took_back (ByJob n ∷ payloads) old new back =
      let rest = took_back payloads back.0 new back.2 in (
        rest.0,
        subst (λ (s : S). TakesBack plain.ids_exhausted_post s rest.0 new.server)
            (ap (λ (x : S × PendingJobs J). x.0) back.1) rest.1,
      )

  -- each job that is pending for a request then was before, or is given in this turn
  comes_at : (old did : PooledServer T S J F) (call : Call (RequestOrigin P)) (turn : Turn plain may) → turn.call ≡ call
      → turn.old ≡ old.server → ((id : Id) (e : J) → pended did (Request id) ≡ Some e
      → FromCall (IsGiven plain may old.server call.acts) (pended old) call.came id e × Spares id call.acts)
      → Comes plain may turn (pended old) (pended did)
  comes_at old did call turn is from comes id e has =
      subst (λ (x : Call (RequestOrigin P) × S). FromCall (IsGiven plain may x.1 x.0.acts) (pended old) x.0.came id e
      × Spares id x.0.acts) (λ k. (sym is k, sym from k)) (comes id e has)

  -- and each job that is pending then stands
  pub stands_after : (old did : PooledServer T S J F) (earlier : List (Turn plain may)) (call : Call (RequestOrigin P))
      (t : TurnOf old did call) → AllStand plain may earlier (pended old)
      → ((id : Id) (e : J) → pended did (Request id) ≡ Some e
      → FromCall (IsGiven plain may old.server call.acts) (pended old) call.came id e × Spares id call.acts)
      → AllStand plain may (earlier ++ t.turn ∷ []) (pended did)
  stands_after old did earlier call t stand comes =
      stand_on plain may earlier t.turn (pended old) (pended did) stand t.moves
      (t.gave ∙ ap (λ (c : Call (RequestOrigin P)). given_at plain may c.came (pended did)) (sym t.of_call))
      (comes_at old did call t.turn t.of_call t.from comes) t.keys

  record Turns (start : S) (earlier : List (Turn plain may)) (calls : List (Call (RequestOrigin P))) : Type 0 where
    turns : List (Turn plain may)
    are : map_list (λ (t : Turn plain may). t.call) turns ≡ calls
    last : S
    linked : AreTurns plain may start turns last
    wakes : (before later : List (Turn plain may)) (t : Turn plain may) → turns ≡ before ++ t ∷ later
        → t.call.came ≡ None → WakeDoes plain may (earlier ++ before) t
    once : TakeTurns may (keys_after plain may earlier) (events_of plain may turns)

  no_turns : (start now : S) (earlier : List (Turn plain may))
      → ((own : List P) × TakesBack plain.ids_exhausted_post start own now) → Turns start earlier []
  no_turns start now earlier between = record {
    turns = [];
    are = refl;
    last = now;
    linked = between;
    wakes = never;
    once = tt;
  }
    where
      never : (before later : List (Turn plain may)) (t : Turn plain may) → [] ≡ before ++ t ∷ later
          → t.call.came ≡ None → WakeDoes plain may (earlier ++ before) t
      never [] later t e = absurd (cc (e))
      never (x ∷ before) later t e = absurd (cc (e))

  one_turn : (start : S) (old did : PooledServer T S J F) (earlier : List (Turn plain may))
      (call : Call (RequestOrigin P)) (calls : List (Call (RequestOrigin P)))
      → ((own : List P) × TakesBack plain.ids_exhausted_post start own old.server)
      → (t : TurnOf old did call) → AllStand plain may earlier (pended old)
      → Turns did.server (earlier ++ t.turn ∷ []) calls → Turns start earlier (call ∷ calls)
  one_turn start old did earlier call calls between t stand rest = record {
    turns = t.turn ∷ rest.turns;
    are = λ k. t.of_call k ∷ rest.are k;
    last = rest.last;
    linked = (
      subst (λ (s : S). (own : List P) × TakesBack plain.ids_exhausted_post start own s) (sym t.from) between,
      t.is_turn,
      subst (λ (s : S). AreTurns plain may s rest.turns rest.last) (sym t.to) rest.linked,
    );
    wakes = at;
    once = turns-append may (keys_after plain may earlier) (events_at plain may t.turn)
        (events_of plain may rest.turns)
        (subst (λ (s : Id → Option J). TakeTurns may s (events_at plain may t.turn)) stand.1 t.turns)
        (subst (λ (s : Id → Option J). TakeTurns may s (events_of plain may rest.turns))
        (keys_more plain may earlier t.turn) rest.once);
  }
    where
      at : (before later : List (Turn plain may)) (x : Turn plain may) → t.turn ∷ rest.turns ≡ before ++ x ∷ later
          → x.call.came ≡ None → WakeDoes plain may (earlier ++ before) x
      at [] later x e none =
          let same : t.turn ≡ x = cc (e) in
          let came : call.came ≡ None = ap (λ (c : Call (RequestOrigin P)). c.came) (sym t.of_call)
          ∙ ap (λ (y : Turn plain may). y.call.came) same ∙ none in
          subst (λ (y : List (Turn plain may) × Turn plain may). WakeDoes plain may y.0 y.1)
          (λ k. (sym (append-nil earlier) k, same k)) (t.wake earlier stand came)
      at (b ∷ before) later x e none =
          let same : t.turn ≡ b = cc (e) in
          let more : rest.turns ≡ before ++ x ∷ later = cc (e) in
          subst (λ (ts : List (Turn plain may)). WakeDoes plain may ts x)
          (append_assoc earlier (t.turn ∷ []) before
          ∙ ap (λ (y : Turn plain may). earlier ++ y ∷ before) same) (rest.wakes before later x more none)

  all_turns : (count : ℕ) (calls : List (Call (RequestOrigin P))) (start : S) (old last : PooledServer T S J F)
      (earlier : List (Turn plain may)) → ((own : List P) × TakesBack plain.ids_exhausted_post start own old.server)
      → AllStand plain may earlier (pended old) → TakesCalls W count old calls last → Turns start earlier calls
  all_turns count [] start old last earlier between stand same = no_turns start old.server earlier between
  all_turns count (call ∷ calls) start old last earlier between stand run =
      let did = run.0 in
      let mid = run.1 in
      let t = handed_turn old did call.came call.payload call.acts run.2 in
      let stands = stands_after old did earlier call t stand
      (requests_then T plain may old did call.came call.payload call.acts run.2) in
      one_turn start old did earlier call calls between t stand
      (all_turns (ids_after_all count call.acts) calls did.server mid last (earlier ++ t.turn ∷ [])
      (took_back (unsent count call.acts) did mid run.3)
      (subst (AllStand plain may (earlier ++ t.turn ∷ []))
      (sym (back_pending T plain may (unsent count call.acts) did mid run.3)) stands) run.4)

  -- no job is pending at first
  no_job : (start : PooledServer T S J F) → pended start ≡ no_jobs → (name : JobName) (e : J)
      → pended start name ≡ Some e → ⊥
  no_job start none name e has = let no = ap (λ (p : PendingJobs J). p name) (sym none) ∙ has in absurd (cc (no))

  none_stands : (start : PooledServer T S J F) → pended start ≡ no_jobs → AllStand plain may [] (pended start)
  none_stands start none = (
    λ name e has. absurd (no_job start none name e has),
    ap (λ (p : PendingJobs J). under_keys p) none,
  )

  -- `initialized` came
  pub opened : (start did : PooledServer T S J F) (m : Message) (acts : List (Act (RequestOrigin P)))
      → is_initialized m ≡ true → W.initialized_post start acts did
      → TurnOf start did (record { came = Some m; payload = None; acts = acts })
  opened start did m acts begins began = does_turn start did (record { came = Some m; payload = None; acts = acts })
      (pended start) (plain.initialized_post start.server) began (is_called m begins) refl
      (λ none. absurd (cc (none)))
    where
      is_called : (m : Message) → is_initialized m ≡ true → (acts : List (Act P)) (mid : S)
          → plain.initialized_post start.server acts mid → IsCalled plain may start.server (Some m) None acts mid
      is_called (notification method params) begins acts mid does = (inr (begins, does), refl)
      is_called (request id method params) begins acts mid does = absurd (cc (begins))
      is_called (response id outcome) begins acts mid does = absurd (cc (begins))

  pub stands_opened : (start did : PooledServer T S J F) (call : Call (RequestOrigin P)) → pended start ≡ no_jobs
      → W.initialized_post start call.acts did → (t : TurnOf start did call)
      → AllStand plain may (t.turn ∷ []) (pended did)
  stands_opened start did call none began t =
      stands_after start did [] call t (none_stands start none)
      (λ id e has. absurd (none_given id e has))
    where
      none_given : (id : Id) (e : J) → pended did (Request id) ≡ Some e → ⊥
      none_given id e has =
          (does_jobs plain may (λ id e. ⊥) (plain.initialized_post start.server) (pended start) began.0 (seen did)
          (λ id e has. absurd (no_job start none (Request id) e has)) began.2 id e has).0

  pub key_history : (start last : PooledServer T S J F) (opening : Exchange) (later : List Exchange) (m : Message)
      → pended start ≡ no_jobs → opening.came ≡ Some m → is_initialized m ≡ true
      → (part : TakesPart W start last opening later)
      → KeyHistory plain may start.server opening part.begun part.calls
  key_history start last opening later m none came begins part =
      let t : TurnOf start part.did now = subst (λ (o : Option Message). TurnOf start part.did (record {
        came = o;
        payload = None;
        acts = part.begun;
      })) (sym came) (opened start part.did m part.begun begins part.began) in
      let all = one_turn start.server start part.did [] now part.calls ([], refl) t (none_stands start none)
      (all_turns (ids_after_all 0 part.begun) part.calls part.did.server part.first part.called (t.turn ∷ [])
      (took_back (unsent 0 part.begun) part.did part.first part.took_back)
      (subst (AllStand plain may (t.turn ∷ []))
      (sym (back_pending T plain may (unsent 0 part.begun) part.did part.first part.took_back))
      (stands_opened start part.did now none part.began t))
      part.took_calls) in
      record {
        turns = all.turns;
        are = all.are;
        last = all.last;
        linked = all.linked;
        wakes = all.wakes;
        once = all.once;
      }
    where
      now : Call (RequestOrigin P)
      now = record { came = opening.came; payload = None; acts = part.begun }

  -- up to the result of `initialize` no job is started
  pub early_pending : (early : List Exchange) (old start : PooledServer T S J F) → AnswersInitialize W old early start
      → pended start ≡ pended old
  early_pending [] old start same = ap pended same
  early_pending (x ∷ early) old start run = early_pending early run.0 start run.2 ∙ at x.came run.1
    where
      by : (b : Bool) (m : Message) → MatchBool b (Initializes W old m (offered x) run.0) (run.0 ≡ old)
          → pended run.0 ≡ pended old
      by true m i = i.gave.1
      by false m same = ap pended same

      at : (came : Option Message) → IsSomeAnd came (λ m. MatchBool (is_initialize m) (Initializes W old m (offered
          x) run.0)
          (run.0 ≡ old)) → pended run.0 ≡ pended old
      at None none = absurd none
      at (Some m) answered = by (is_initialize m) m answered
