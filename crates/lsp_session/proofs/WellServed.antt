-- The messages of a session of a handler that ended well, and the replies, part by part.
use Rattle.lsp_message.specs.Id.{Id}
use Rattle.lsp_message.specs.Message.{Message, ErrorObject, request, notification, response}
use Rattle.lsp_message.specs.Methods.{is_early, is_initialize, is_initialized, is_shutdown, is_exit}
use Rattle.lsp_session.proofs.WellNoted.{AllTaken, StopsWell}
use Rattle.lsp_session.specs.Answered.{requests_of}
use Rattle.lsp_session.specs.EndsWell.{Handled}
use Rattle.lsp_session.specs.HandlerSession.{initialize_result, of_handler, Handles}
use Rattle.lsp_session.specs.ProtocolError.{expected_initialize, expected_initialized, unexpected_in_shutdown}
use Rattle.lsp_session.specs.Replies.{null_reply, IsEarlyReply}
use Rattle.lsp_session.specs.Session.{Behavior, Exchange, messages_of, sends_of, SessionAnswer, Stop, decided, no_more}
use Rattle.lsp_session.specs.Session.{timed_out, refused, exhausted, Phase, starting, replied, serving, asked, broken}
use Rattle.lsp_session.specs.Session.{ended, is_served, Fails, IsOffered, Leaves, phase_after, SessionOut, Step, Steps}
use Rattle.lsp_session.specs.Session.{Stops, TakesTurn}
use Rattle.lsp_session.specs.declared.loops.handler.SessionEnd.{SessionEnd}
use Rattle.lsp_session.specs.declared.loops.handler.SessionEnd.TheVariants.{ShutDown, Closed}
use Rattle.serde_json.specs.Data.{Data}
use Rattle.std.proofs.Common.{◌≡◌, refl, sym, ◌∙◌, ap, subst, inl, inr, ◌⊎◌, ℕ, Bool, true, false, not, ◌&&◌, codes}
use Rattle.std.proofs.Common.{List, [], ◌∷◌, ◌++◌, append_assoc, Option, Some, None}
use Rattle.std.proofs.lemmas.Slice.Eq.{bytes_eq-Decides}
use Rattle.std.specs.Bool.{MatchBool}
use Rattle.std.specs.List.{AllZip, list_all, cons_option}
use Rattle.std.specs.Prelude.{Result, Ok, Err}
use Rattle.std.specs.Str.{bytes_eq}

-- the messages of one more exchange
pub more_messages : (x : Exchange) (xs : List Exchange) (c : Option Message) → x.came ≡ c → messages_of (x ∷ xs)
    ≡ cons_option c (messages_of xs)
more_messages x xs c is = ap (λ (o : Option Message). cons_option o (messages_of xs)) is

pub more_sends : (x : Exchange) (xs : List Exchange) (sent : List Message) → x.not_sent ≡ None → x.sent ≡ sent
    → sends_of (x ∷ xs) ≡ sent ++ sends_of xs
more_sends x xs sent none is = rw (none, is) refl

pub is_method : (method name : List ℕ) → bytes_eq method name ≡ true → method ≡ name
is_method method name is = (bytes_eq-Decides method name).0 is

pub not_true : (b : Bool) → (not b && true) ≡ false → b ≡ true
not_true true e = refl
not_true false e = absurd (cc (e))

pub not_false : (b : Bool) → not b ≡ false → b ≡ true
not_false true e = refl
not_false false e = absurd (cc (e))

-- How a client left: after `shutdown`, by `exit` alone, or as no more came.
abbrev pub LeavesSo : SessionEnd → Stop → List Message → List Message → Type 0
LeavesSo ShutDown stop last parting =
    (id : Id) × (params : Data) × (gone : Data)
    × (last ≡ request id (codes "shutdown") params ∷ notification (codes "exit") gone ∷ [])
    × (parting ≡ null_reply id ∷ []) × (stop ≡ decided)
LeavesSo Closed stop last parting = (parting ≡ [])
    × (((gone : Data) × (last ≡ notification (codes "exit") gone ∷ []) × (stop ≡ decided))
    ⊎ ((last ≡ []) × (stop ≡ no_more)))

-- where a session stopped that ended well
pub stops_well : {S : Type 0} (may : Behavior S) (h h'' : S) (xs : List Exchange) (stop : Stop) (end : SessionEnd)
    → SessionOut may h h'' xs stop (Ok end) → StopsWell stop
stops_well may h h'' xs stop end out = at out.last stop out.stopped
  where
    at : (p : Phase) (stop : Stop) → Stops may p out.after stop (Ok end) h'' → StopsWell stop
    at p decided stops = tt
    at p no_more stops = tt
    at (asked i) timed_out stops = absurd (cc (stops.0))
    at starting timed_out stops = absurd stops
    at replied timed_out stops = absurd stops
    at serving timed_out stops = absurd stops
    at (broken fault) timed_out stops = absurd stops
    at (ended by) timed_out stops = absurd stops
    at (broken by) (refused fault) stops = absurd (cc (stops.1))
    at starting (refused fault) stops = absurd stops
    at replied (refused fault) stops = absurd stops
    at serving (refused fault) stops = absurd stops
    at (asked i) (refused fault) stops = absurd stops
    at (ended by) (refused fault) stops = absurd stops
    at (asked i) exhausted stops = absurd (cc (stops.0))
    at starting exhausted stops = absurd (cc (stops.0))
    at replied exhausted stops = absurd (cc (stops.0))
    at serving exhausted stops = absurd (cc (stops))
    at (broken by) exhausted stops = absurd stops
    at (ended by) exhausted stops = absurd stops

-- of any service
module _ {H : Type 0} (plain : Behavior H) where
  pub whole_step : (p q : Phase) (s s' : H) (x : Exchange) → x.not_sent ≡ None → TakesTurn plain (p, s) x (q, s')
      → Step plain p s x.came x.sent q s'
  whole_step p q s s' x none turn =
      let offers : IsOffered turn.given x.sent None turn.next q = subst (λ (n : Option Message). IsOffered turn.given
      x.sent n turn.next q) none turn.offers in
      rw (offers.0, offers.1) turn.step

  -- a message decided
  pub over : (by : SessionAnswer) (h h' h'' : H) (q : Phase) (xs : List Exchange) (stop : Stop) (answer : SessionAnswer)
      → Steps plain (ended by) h xs q h' → Stops plain q h' stop answer h''
      → (xs ≡ []) × (stop ≡ decided) × (answer ≡ by) × (h'' ≡ h)
  over by h h' h'' q [] stop answer run stops = at stop (subst (λ (p : Phase × H). Stops plain p.0 p.1 stop answer h'')
      (sym run) stops)
    where
      at : (stop : Stop) → Stops plain (ended by) h stop answer h'' → (◌≡◌ {A = List Exchange} [] []) × (stop ≡ decided)
          × (answer ≡ by) × (h'' ≡ h)
      at decided stops = (refl, refl, stops.0, stops.1)
      at no_more stops = absurd stops
      at timed_out stops = absurd stops
      at (refused fault) stops = absurd stops
      at exhausted stops = absurd stops
  over by h h' h'' q (x ∷ xs) stop answer run stops = absurd (at x.came run.1.step)
    where
      at : (c : Option Message) → Step plain (ended by) h c run.1.given run.1.next run.0.1 → ⊥
      at None step = step
      at (Some m) step = step

  pub failed : (by : SessionAnswer) (h h' h'' : H) (q : Phase) (xs : List Exchange) (stop : Stop) (end : SessionEnd)
      (next : Phase) → next ≡ ended by → (◌≡◌ {A = SessionAnswer} (Ok end) by → ⊥) → Steps plain next h xs q h'
      → Stops plain q h' stop (Ok end) h'' → ⊥
  failed by h h' h'' q xs stop end next is other run stops = other
      (over by h h' h'' q xs stop (Ok end) (subst (λ (p : Phase). Steps plain p h xs q h') is run) stops).2

module _ {H : Type 0} (answers : H → Id → List ℕ → Data → Result Data ErrorObject → H → Type 0) (notes : H → List ℕ
    → Data → H → Type 0) (capabilities : Data) where
  abbrev plain : Behavior H
  plain = of_handler answers notes capabilities

  -- after `shutdown`
  record Gone (i : Id) (h h'' : H) (xs : List Exchange) (stop : Stop) (end : SessionEnd) : Type 0 where
    gone : Data
    came : messages_of xs ≡ notification (codes "exit") gone ∷ []
    sent : sends_of xs ≡ []
    shut : end ≡ ShutDown
    decides : stop ≡ decided
    same : h'' ≡ h

  goes : (i : Id) (h h' h'' : H) (q : Phase) (xs : List Exchange) (stop : Stop) (end : SessionEnd) → AllTaken xs
      → Steps plain (asked i) h xs q h' → Stops plain q h' stop (Ok end) h'' → Gone i h h'' xs stop end
  goes i h h' h'' q [] stop end all run stops = absurd (at stop (subst (λ (p : Phase × H). Stops plain p.0 p.1 stop
      (Ok end) h'') (sym run) stops))
    where
      at : (stop : Stop) → Stops plain (asked i) h stop (Ok end) h'' → ⊥
      at decided stops = stops
      at no_more stops = cc (stops.0)
      at timed_out stops = cc (stops.0)
      at (refused fault) stops = stops
      at exhausted stops = cc (stops.0)
  goes i h h' h'' q (x ∷ xs) stop end all run stops = at x.came refl (whole_step plain (asked i) run.0.0 h run.0.1 x
      all.0
      run.1)
    where
      exits : (m : Message) → x.came ≡ Some m → (b : Bool) → is_exit m ≡ b
          → MatchBool b ((x.sent ≡ []) × (run.0.0 ≡ ended (Ok ShutDown)))
          (Fails unexpected_in_shutdown x.sent run.0.0) → run.0.1 ≡ h → Gone i h h'' (x ∷ xs) stop end
      exits (notification method params) came true is step same =
          let last = over plain (Ok ShutDown) run.0.1 h' h'' q xs stop (Ok end) (subst (λ (p : Phase). Steps plain p
          run.0.1
          xs q h') step.1 run.2) stops in
          let none : messages_of xs ≡ [] = ap messages_of last.0 in
          let named = is_method method (codes "exit") is in
          record {
            gone = params;
            came = more_messages x xs (Some (notification method params)) came ∙ rw (named, none) refl;
            sent = more_sends x xs [] all.0 step.0 ∙ ap sends_of last.0;
            shut = cc (last.2);
            decides = last.1;
            same = last.3 ∙ same;
          }
      exits (request j method params) came true is step same = absurd (cc (is))
      exits (response j outcome) came true is step same = absurd (cc (is))
      exits m came false is step same = absurd (failed plain (Err (unexpected_in_shutdown step.0)) run.0.1 h' h'' q xs
          stop
          end run.0.0 step.2 (λ e. cc (e)) run.2 stops)

      at : (c : Option Message) → x.came ≡ c → Step plain (asked i) h c x.sent run.0.0 run.0.1 → Gone i h h'' (x ∷ xs)
          stop end
      at None came step = absurd step
      at (Some m) came step = exits m came (is_exit m) refl step.0 step.1

  -- from `initialized` on
  record Served (h h'' : H) (xs : List Exchange) (stop : Stop) (end : SessionEnd) : Type 0 where
    served : List Message
    last : List Message
    handled : List Message
    parting : List Message
    came : messages_of xs ≡ served ++ last
    sent : sends_of xs ≡ handled ++ parting
    all_served : list_all is_served served ≡ true
    handles : Handled answers notes h served handled h''
    leaves : LeavesSo end stop last parting

  serves : (h h' h'' : H) (q : Phase) (xs : List Exchange) (stop : Stop) (end : SessionEnd) → AllTaken xs
      → Steps plain serving h xs q h' → Stops plain q h' stop (Ok end) h'' → Served h h'' xs stop end
  serves h h' h'' q [] stop end all run stops = at stop (subst (λ (p : Phase × H). Stops plain p.0 p.1 stop (Ok end)
      h'') (sym run) stops)
    where
      at : (stop : Stop) → Stops plain serving h stop (Ok end) h'' → Served h h'' [] stop end
      at no_more stops =
          let is : end ≡ Closed = cc (stops.0) in
          record {
            served = [];
            last = [];
            handled = [];
            parting = [];
            came = refl;
            sent = refl;
            all_served = refl;
            handles = (refl, stops.1);
            leaves = subst (λ (e : SessionEnd). LeavesSo e no_more [] []) (sym is) (refl, inr (refl, refl));
          }
      at decided stops = absurd stops
      at timed_out stops = absurd stops
      at (refused fault) stops = absurd stops
      at exhausted stops = absurd (cc (stops))
  serves h h' h'' q (x ∷ xs) stop end all run stops = at (λ is. serves run.0.1 h' h'' q xs stop end all.1
      (subst (λ (p : Phase). Steps plain p run.0.1 xs q h') is run.2) stops) x.came refl (whole_step plain serving
      run.0.0 h
      run.0.1 x all.0 run.1)
    where
      one : (m : Message) → x.came ≡ Some m → is_served m ≡ true → Handles answers notes h m x.sent run.0.1
          → Served run.0.1 h'' xs stop end → Served h h'' (x ∷ xs) stop end
      one m came served handles rest = record {
        served = m ∷ rest.served;
        last = rest.last;
        handled = x.sent ++ rest.handled;
        parting = rest.parting;
        came = more_messages x xs (Some m) came ∙ ap (λ ms. m ∷ ms) rest.came;
        sent = more_sends x xs x.sent all.0 refl ∙ ap (λ ms. x.sent ++ ms) rest.sent ∙ sym (append_assoc x.sent
            rest.handled rest.parting);
        all_served = rw served rest.all_served;
        handles = (x.sent, run.0.1, rest.handled, handles, refl, rest.handles);
        leaves = rest.leaves;
      }

      left : (m : Message) → x.came ≡ Some m → is_served m ≡ false → Leaves plain h m x.sent run.0.0 run.0.1
          → Served h h'' (x ∷ xs) stop end
      left (request i method params) came other step =
          let gone = goes i run.0.1 h' h'' q xs stop end all.1 (subst (λ (p : Phase). Steps plain p run.0.1 xs q h')
          step.3 run.2) stops in
          let named = is_method method (codes "shutdown") (not_true (is_shutdown (request i method params)) other) in
          record {
            served = [];
            last = request i (codes "shutdown") params ∷ notification (codes "exit") gone.gone ∷ [];
            handled = [];
            parting = null_reply i ∷ [];
            came = more_messages x xs (Some (request i method params)) came ∙ rw (named, gone.came) refl;
            sent = more_sends x xs (null_reply i ∷ []) all.0 (step.2 ∙ ap (λ (ms : List Message). ms ++ null_reply i
                ∷ []) step.1.0) ∙ ap (λ ms. null_reply i ∷ ms) gone.sent;
            all_served = refl;
            handles = (refl, gone.same ∙ step.1.1);
            leaves = subst (λ (e : SessionEnd). LeavesSo e stop (request i (codes "shutdown") params
                ∷ notification (codes "exit") gone.gone ∷ []) (null_reply i ∷ [])) (sym gone.shut) (
                  i,
                  params,
                  gone.gone,
                  refl,
                  refl,
                  gone.decides,
                );
          }
      left (notification method params) came other step =
          let last = over plain (Ok Closed) run.0.1 h' h'' q xs stop (Ok end) (subst (λ (p : Phase). Steps plain p
          run.0.1 xs
          q h') step.1 run.2) stops in
          let none : messages_of xs ≡ [] = ap messages_of last.0 in
          let named = is_method method (codes "exit") (not_false (is_exit (notification method params)) other) in
          let shut : end ≡ Closed = cc (last.2) in
          record {
            served = [];
            last = notification (codes "exit") params ∷ [];
            handled = [];
            parting = [];
            came = more_messages x xs (Some (notification method params)) came ∙ rw (named, none) refl;
            sent = more_sends x xs [] all.0 step.0 ∙ ap sends_of last.0;
            all_served = refl;
            handles = (refl, last.3 ∙ step.2);
            leaves = subst (λ (e : SessionEnd). LeavesSo e stop (notification (codes "exit") params ∷ []) []) (sym shut)
                (refl, inl (params, refl, last.1));
          }
      left (response i outcome) came other step = absurd (cc (other))

      served_or : (run.0.0 ≡ serving → Served run.0.1 h'' xs stop end) → (m : Message) → x.came ≡ Some m → (b : Bool)
          → is_served m ≡ b
          → MatchBool b (Handles answers notes h m x.sent run.0.1 × (run.0.0 ≡ serving))
          (Leaves plain h m x.sent run.0.0 run.0.1) → Served h h'' (x ∷ xs) stop end
      served_or onward m came true is step = one m came is step.0 (onward step.1)
      served_or onward m came false is step = left m came is step

      at : (run.0.0 ≡ serving → Served run.0.1 h'' xs stop end) → (c : Option Message) → x.came ≡ c → Step plain
          serving h c x.sent run.0.0 run.0.1 → Served h h'' (x ∷ xs)
          stop end
      at onward (Some m) came step = served_or onward m came (is_served m) refl step
      at onward None came step =
          let rest = onward step.1 in
          record {
            served = rest.served;
            last = rest.last;
            handled = rest.handled;
            parting = rest.parting;
            came = more_messages x xs None came ∙ rest.came;
            sent = more_sends x xs [] all.0 step.0.0 ∙ rest.sent;
            all_served = rest.all_served;
            handles = subst (λ (s : H). Handled answers notes s rest.served rest.handled h'') step.0.1 rest.handles;
            leaves = rest.leaves;
          }

  -- after the result of `initialize`
  record Opened (h h'' : H) (xs : List Exchange) (stop : Stop) (end : SessionEnd) : Type 0 where
    opened : Data
    after : List Exchange
    came : messages_of xs ≡ notification (codes "initialized") opened ∷ messages_of after
    sent : sends_of xs ≡ sends_of after
    later : Served h h'' after stop end

  opens : (h h' h'' : H) (q : Phase) (xs : List Exchange) (stop : Stop) (end : SessionEnd) → AllTaken xs
      → Steps plain replied h xs q h' → Stops plain q h' stop (Ok end) h'' → Opened h h'' xs stop end
  opens h h' h'' q [] stop end all run stops = absurd (at stop (subst (λ (p : Phase × H). Stops plain p.0 p.1 stop
      (Ok end) h'') (sym run) stops))
    where
      at : (stop : Stop) → Stops plain replied h stop (Ok end) h'' → ⊥
      at decided stops = stops
      at no_more stops = cc (stops.0)
      at timed_out stops = stops
      at (refused fault) stops = stops
      at exhausted stops = cc (stops.0)
  opens h h' h'' q (x ∷ xs) stop end all run stops = at x.came refl (whole_step plain replied run.0.0 h run.0.1 x all.0
      run.1)
    where
      by : (m : Message) → x.came ≡ Some m → (b : Bool) → is_initialized m ≡ b
          → MatchBool b (((x.sent ≡ []) × (run.0.1 ≡ h)) × (run.0.0 ≡ serving))
          (Fails expected_initialized x.sent run.0.0 × (run.0.1 ≡ h)) → Opened h h'' (x ∷ xs) stop end
      by (notification method params) came true is step =
          let named = is_method method (codes "initialized") is in
          let later = serves run.0.1 h' h'' q xs stop end all.1 (subst (λ (p : Phase). Steps plain p run.0.1 xs q h')
          step.1 run.2) stops in
          record {
            opened = params;
            after = xs;
            came = more_messages x xs (Some (notification method params)) came ∙ rw named refl;
            sent = more_sends x xs [] all.0 step.0.0;
            later = subst (λ (s : H). Served s h'' xs stop end) step.0.1 later;
          }
      by (request j method params) came true is step = absurd (cc (is))
      by (response j outcome) came true is step = absurd (cc (is))
      by m came false is step = absurd (failed plain (Err (expected_initialized step.0.0)) run.0.1 h' h'' q xs stop end
          run.0.0 step.0.2 (λ e. cc (e)) run.2 stops)

      at : (c : Option Message) → x.came ≡ c → Step plain replied h c x.sent run.0.0 run.0.1 → Opened h h'' (x ∷ xs)
          stop end
      at None came step = absurd step
      at (Some m) came step = by m came (is_initialized m) refl step

  -- a whole session
  pub record Whole (h h'' : H) (xs : List Exchange) (stop : Stop) (end : SessionEnd) : Type 0 where
    pub early : List Message
    pub id : Id
    pub params : Data
    pub opened : Data
    pub served : List Message
    pub last : List Message
    pub came : messages_of xs ≡ early ++ request id (codes "initialize") params
        ∷ notification (codes "initialized") opened ∷ (served ++ last)
    pub refusals : List Message
    pub handled : List Message
    pub parting : List Message
    pub sent : sends_of xs ≡ refusals ++ response id (Ok (initialize_result capabilities)) ∷ (handled ++ parting)
    pub all_early : list_all is_early early ≡ true
    pub refused : AllZip IsEarlyReply (requests_of early) refusals
    pub all_served : list_all is_served served ≡ true
    pub handles : Handled answers notes h served handled h''
    pub leaves : LeavesSo end stop last parting

  begins : (h h' h'' : H) (q : Phase) (xs : List Exchange) (stop : Stop) (end : SessionEnd) → AllTaken xs
      → Steps plain starting h xs q h' → Stops plain q h' stop (Ok end) h'' → Whole h h'' xs stop end
  begins h h' h'' q [] stop end all run stops = absurd (at stop (subst (λ (p : Phase × H). Stops plain p.0 p.1 stop
      (Ok end) h'') (sym run) stops))
    where
      at : (stop : Stop) → Stops plain starting h stop (Ok end) h'' → ⊥
      at decided stops = stops
      at no_more stops = cc (stops.0)
      at timed_out stops = stops
      at (refused fault) stops = stops
      at exhausted stops = cc (stops.0)
  begins h h' h'' q (x ∷ xs) stop end all run stops = at (λ is same. subst (λ (s : H). Whole s h'' xs stop end) same
      (begins run.0.1 h' h'' q xs stop end all.1 (subst (λ (p : Phase). Steps plain p run.0.1 xs q h') is run.2) stops))
      x.came refl (whole_step plain starting run.0.0 h run.0.1 x all.0 run.1)
    where
      early_one : (m : Message) (replies : List Message) → x.came ≡ Some m → x.sent ≡ replies → is_early m ≡ true
          → ((early refusals : List Message) → AllZip IsEarlyReply (requests_of early) refusals → AllZip IsEarlyReply
          (requests_of (m ∷ early)) (replies ++ refusals)) → Whole h h'' xs stop end → Whole h h'' (x ∷ xs) stop end
      early_one m replies came sent early refuse rest = record {
        early = m ∷ rest.early;
        id = rest.id;
        params = rest.params;
        opened = rest.opened;
        served = rest.served;
        last = rest.last;
        came = more_messages x xs (Some m) came ∙ ap (λ ms. m ∷ ms) rest.came;
        refusals = replies ++ rest.refusals;
        handled = rest.handled;
        parting = rest.parting;
        sent = more_sends x xs replies all.0 sent ∙ ap (λ ms. replies ++ ms) rest.sent ∙ sym (append_assoc replies
            rest.refusals (response rest.id (Ok (initialize_result capabilities)) ∷ (rest.handled ++ rest.parting)));
        all_early = rw early rest.all_early;
        refused = refuse rest.early rest.refusals rest.refused;
        all_served = rest.all_served;
        handles = rest.handles;
        leaves = rest.leaves;
      }

      asks : (run.0.0 ≡ starting → run.0.1 ≡ h → Whole h h'' xs stop end) → (i : Id) (method : List ℕ) (params : Data)
          → x.came ≡ Some (request i method params) → (b : Bool)
          → is_initialize (request i method params) ≡ b
          → MatchBool b
          ((outcome : Result Data ErrorObject) × ((outcome ≡ Ok (initialize_result capabilities)) × (run.0.1 ≡ h))
          × (x.sent ≡ response i outcome ∷ []) × (run.0.0 ≡ phase_after outcome))
          ((reply : Message) × IsEarlyReply i reply × (x.sent ≡ reply ∷ []) × (run.0.0 ≡ starting) × (run.0.1 ≡ h))
          → Whole h h'' (x ∷ xs) stop end
      asks onward i method params came true is step =
          let named = is_method method (codes "initialize") is in
          let next : run.0.0 ≡ replied = step.3 ∙ ap phase_after step.1.0 in
          let opened = opens run.0.1 h' h'' q xs stop end all.1 (subst (λ (p : Phase). Steps plain p run.0.1 xs q h')
          next run.2) stops in
          let later = opened.later in
          record {
            early = [];
            id = i;
            params = params;
            opened = opened.opened;
            served = later.served;
            last = later.last;
            came = more_messages x xs (Some (request i method params)) came ∙ rw (named, opened.came, later.came) refl;
            refusals = [];
            handled = later.handled;
            parting = later.parting;
            sent = more_sends x xs (response i (Ok (initialize_result capabilities)) ∷ []) all.0 (step.2
                ∙ ap (λ (o : Result Data ErrorObject). response i o ∷ []) step.1.0)
                ∙ ap (λ ms. response i (Ok (initialize_result capabilities)) ∷ ms) (opened.sent ∙ later.sent);
            all_early = refl;
            refused = tt;
            all_served = later.all_served;
            handles = subst (λ (s : H). Handled answers notes s later.served later.handled h'') step.1.1 later.handles;
            leaves = later.leaves;
          }
      asks onward i method params came false is step = early_one (request i method params) (step.0 ∷ []) came step.2
          (ap not is) (λ early refusals rest. (step.1, rest)) (onward step.3 step.4)

      notes_early : (run.0.0 ≡ starting → run.0.1 ≡ h → Whole h h'' xs stop end) → (method : List ℕ) (params : Data) →
          x.came ≡ Some (notification method params) → (b : Bool)
          → is_early (notification method params) ≡ b
          → MatchBool b ((x.sent ≡ []) × (run.0.0 ≡ starting)) (Fails expected_initialize x.sent run.0.0)
          → run.0.1 ≡ h → Whole h h'' (x ∷ xs) stop end
      notes_early onward method params came true is step same = early_one (notification method params) [] came step.0 is
          (λ early refusals rest. rest) (onward step.1 same)
      notes_early onward method params came false is step same = absurd (failed plain (Err (expected_initialize step.0))
          run.0.1 h'
          h'' q xs stop end run.0.0 step.2 (λ e. cc (e)) run.2 stops)

      at : (run.0.0 ≡ starting → run.0.1 ≡ h → Whole h h'' xs stop end) → (c : Option Message) → x.came ≡ c → Step
          plain starting h c x.sent run.0.0 run.0.1 → Whole h h'' (x ∷ xs)
          stop end
      at onward None came step = absurd step
      at onward (Some (request i method params)) came step = asks onward i method params came (is_initialize (request
          i method
          params)) refl step
      at onward (Some (notification method params)) came step = notes_early onward method params came (is_early
          (notification method
          params)) refl step.0 step.1
      at onward (Some (response i outcome)) came step = absurd (failed plain (Err (expected_initialize step.0.0))
          run.0.1 h'
          h'' q xs
          stop end run.0.0 step.0.2 (λ e. cc (e)) run.2 stops)

  pub whole : (h h'' : H) (xs : List Exchange) (stop : Stop) (end : SessionEnd) → AllTaken xs
      → SessionOut plain h h'' xs stop (Ok end) → Whole h h'' xs stop end
  whole h h'' xs stop end all out = begins h out.after h'' out.last xs stop end all out.reached out.stopped
