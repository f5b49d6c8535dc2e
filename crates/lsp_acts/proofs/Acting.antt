-- What the server does at a message or a wake is all that is sent.
use Rattle.lsp_message.specs.Id.{Id, id_cmp, same_id}
use Rattle.lsp_message.specs.IdKeys.{id_antisymmetric}
use Rattle.lsp_message.specs.IdLaws.{id_total, id_decides}
use Rattle.lsp_message.specs.Message.{Message, request, notification, response, ErrorObject}
use Rattle.lsp_queue.specs.Queue.{pending_of, count_of, Asked}
use Rattle.lsp_acts.specs.Acts.{Act, tells, replies, cancels, answers_cancelled, cancelled_by, ended_by_shutdown}
use Rattle.lsp_acts.specs.Acts.{ends_all, Queues, does, does_all, unsent, given, released, cleared, TakesBack, Acts}
use Rattle.lsp_acts.specs.Acts.{ids_after, unsent_by, with_message, cancel_all, cancel_method, cancel_params}
use Rattle.lsp_acts.specs.Law.{Handed}
use Rattle.lsp_acts.specs.ServerApplication.{WorksSending, Works, PartsSending}
use Rattle.lsp_acts.specs.SentByActs.{brought_by, sends_by, all_sends, queues_at, cancelled_answer, acts_done_at}
use Rattle.lsp_acts.specs.SentByActs.{ActsAt, ActsAtShutdown}
use Rattle.lsp_acts.specs.declared.server.Server.{Ghosts as Stated}
use Rattle.serde_json.specs.Data.{Data}
use Rattle.std.proofs.Common.{◌≡◌, refl, sym, ◌∙◌, ap, List, [], ◌∷◌, ◌++◌, length, append_assoc, append-nil, arith}
use Rattle.std.proofs.Common.{Option, Some, None, Bool, true, false, cond}
use Rattle.std.proofs.lemmas.List.{map-append}
use Rattle.std.specs.FinMap as map
use Rattle.std.specs.FinMap.{FinMap, get-empty, get-remove, same_map}
use Rattle.std.specs.List.{list_any}
use Rattle.std.specs.Ordering.{eq_by_cmp}
use Rattle.std.specs.Prelude.{MatchOption, Result, Err, is_some, ◌||◌}

module _ {P : Type 0} where
  sent_one : (d : Queues P) (act : Act P) → (does d act).sent ≡ d.sent ++ sends_by d act
  sent_one d (tells method params) = refl
  sent_one d (cancels such) = refl
  sent_one d act = grind (arith, append-nil)

  pub sent_all : (d : Queues P) (acts : List (Act P)) → (does_all d acts).sent ≡ d.sent ++ all_sends d acts
  sent_all d [] = sym (append-nil d.sent)
  sent_all d (act ∷ acts) =
      sent_all (does d act) acts ∙ ap (λ (l : List Message). l ++ all_sends (does d act) acts) (sent_one d act)
      ∙ append_assoc d.sent (sends_by d act) (all_sends (does d act) acts)

  does-append : (d : Queues P) (xs ys : List (Act P)) → does_all d (xs ++ ys) ≡ does_all (does_all d xs) ys
  does-append d [] ys = refl
  does-append d (x ∷ xs) ys = does-append (does d x) xs ys

  pub at_count : (d : Queues P) (m : Option Message) (payload : Option P) → count_of (queues_at d m payload).asked
      ≡ count_of d.asked
  at_count d (Some (response id outcome)) (Some payload) = refl
  at_count d m payload = refl

  answered_so : (d : Queues P) (cancelled : Option Id) → answers_cancelled d cancelled
      ≡ does_all d (cancelled_answer cancelled)
  answered_so d None = refl
  answered_so d (Some id) = refl

  pub at_sent : (d : Queues P) (m : Option Message) (payload : Option P) → (queues_at d m payload).sent ≡ d.sent
  at_sent d (Some (response id outcome)) (Some payload) = refl
  at_sent d m payload = refl

module _ {S P : Type 0} (may : Stated S P) where
  acts_so : (old : S × Queues P) (m : Option Message) (sent : List Message) (new : S × Queues P) (payload : Option P)
      (acts : List (Act P)) (did : S)
      (after : S × Queues P) → payload ≡ brought_by old.1 m → Handed may old.0 m payload acts did
      → TakesBack may.ids_exhausted_post did (unsent (count_of old.1.asked) acts) after.0
      → after.1 ≡ does_all (queues_at old.1 m payload) (acts_done_at m acts) → sent ≡ after.1.sent → new
      ≡ (after.0, cleared after.1)
      → ActsAt may old m sent new
  acts_so old m sent new payload acts did after brought handed back same is left = record {
    payload = payload;
    brought = brought;
    acts = acts;
    did = did;
    handed = handed;
    back = rw (ap (λ (x : S × Queues P). x.0) left) back;
    sent = is ∙ ap (λ (d : Queues P). d.sent) same ∙ sent_all (queues_at old.1 m payload) (acts_done_at m acts)
        ∙ ap (λ (l : List Message). l ++ all_sends (queues_at old.1 m payload) (acts_done_at m acts)) (at_sent old.1 m
        payload);
    queues = ap (λ (x : S × Queues P). x.1) left ∙ ap (λ (d : Queues P). cleared d) same;
  }

  -- all that was sent, as it stood beside the queues
  pub sent_so : (old : S × Queues P) (m : Option Message) (sent : List Message) (new : S × Queues P) (a : ActsAt may old
      m sent new)
      → sent ≡ (does_all (queues_at old.1 m a.payload) (acts_done_at m a.acts)).sent
  sent_so old m sent new a =
      a.sent ∙ ap (λ (l : List Message). l ++ all_sends (queues_at old.1 m a.payload) (acts_done_at m a.acts))
      (sym (at_sent old.1 m a.payload))
      ∙ sym (sent_all (queues_at old.1 m a.payload) (acts_done_at m a.acts))

  pub acts_at : (old : S × Queues P) (m : Option Message) (sent : List Message) (new : S × Queues P) → WorksSending may
      old m sent new
      → ActsAt may old m sent new
  acts_at old (Some (request id method params)) sent new gives =
      let w = gives.1 in
      acts_so old (Some (request id method params)) sent new None w.0 w.1 gives.0 refl (w.2, refl) w.3 w.4
      gives.2 gives.3
  acts_at old (Some (notification method params)) sent new gives =
      let w = gives.1 in
      let queues : gives.0.1 ≡ does_all old.1 (w.1.0 ++ cancelled_answer (cancelled_by method params)) =
      ap (λ (x : S × Queues P). x.1) w.2 ∙ answered_so w.0.1 (cancelled_by method params)
      ∙ ap (λ (d : Queues P). does_all d (cancelled_answer (cancelled_by method params))) w.1.4
      ∙ sym (does-append old.1 w.1.0 (cancelled_answer (cancelled_by method params))) in
      acts_so old (Some (notification method params)) sent new None w.1.0 w.1.1 gives.0 refl (w.1.2, refl)
      (rw (ap (λ (x : S × Queues P). x.0) w.2) w.1.3) queues
      gives.2 gives.3
  acts_at old (Some (response id outcome)) sent new gives = at (map.get (pending_of old.1.asked) id) refl gives.1
    where
      at : (o : Option P) → map.get (pending_of old.1.asked) id ≡ o
          → MatchOption o (gives.0 ≡ old) (λ payload. Acts may.ids_exhausted_post
          (may.response_post old.0 payload outcome)
          (given old.1 id) gives.0)
          → ActsAt may old (Some (response id outcome)) sent new
      at None kept same =
          acts_so old (Some (response id outcome)) sent new None [] old.0 gives.0 (sym kept) (refl, refl)
          (ap (λ (x : S × Queues P). x.0) same)
          (ap (λ (x : S × Queues P). x.1) same) gives.2 gives.3
      at (Some payload) kept w =
          acts_so old (Some (response id outcome)) sent new (Some payload) w.0 w.1 gives.0 (sym kept) w.2 w.3 w.4
          gives.2 gives.3
  acts_at old None sent new gives =
      let w = gives.1 in
      acts_so old None sent new None w.0 w.1 gives.0 refl (w.2, refl) w.3 w.4 gives.2 gives.3

  -- the same at `shutdown`
  pub acts_at_shutdown : (old : S × Queues P) (id : Id) (sent : List Message) (new : S × Queues P) → PartsSending may
      old id sent new → ActsAtShutdown may old id sent new
  acts_at_shutdown old id sent new gives =
      let after = gives.0 in
      let parts = gives.1 in
      let did = parts.1 in
      let held = parts.2 in
      let d : Queues P = released old.1 id in
      let queues : after.1 ≡ does_all d (did.0 ++ ends_all held.ids) =
      held.answered ∙ ap (λ (x : Queues P). does_all x (ends_all held.ids)) did.4
      ∙ sym (does-append d did.0 (ends_all held.ids)) in
      record {
        acts = did.0;
        did = did.1;
        stated = did.2;
        back = rw (ap (λ (x : S × Queues P). x.0) gives.3 ∙ parts.3) did.3;
        ids = held.ids;
        sent = gives.2 ∙ ap (λ (x : Queues P). x.sent) queues ∙ sent_all d (did.0 ++ ends_all held.ids);
        queues = ap (λ (x : S × Queues P). x.1) gives.3 ∙ ap (λ (x : Queues P). cleared x) queues;
        none = ap (λ (x : S × Queues P). x.1.held) gives.3 ∙ held.none;
      }

  -- all that was sent, as it stood beside the queues
  pub sent_at_shutdown : (old : S × Queues P) (id : Id) (sent : List Message) (new : S × Queues P) (a : ActsAtShutdown
      may old id sent new)
      → sent ≡ (does_all (released old.1 id) (a.acts ++ ends_all a.ids)).sent
  sent_at_shutdown old id sent new a = a.sent ∙ sym (sent_all (released old.1 id) (a.acts ++ ends_all a.ids))

-- What the queues are after a message.
-- one act more
pub does_push : {P : Type 0} (d : Queues P) (acts : List (Act P)) (act : Act P) → does_all d (acts ++ act ∷ [])
    ≡ does (does_all d acts) act
does_push d [] act = refl
does_push d (x ∷ acts) act = does_push (does d x) acts act

-- how many ids were given out
pub ids_counted : {P : Type 0} (d : Queues P) (act : Act P) → count_of (does d act).asked
    ≡ ids_after (count_of d.asked) act
ids_counted d (tells method params) = refl
ids_counted d act = grind arith

pub unsent_push : {P : Type 0} (d : Queues P) (acts : List (Act P)) (act : Act P)
    → unsent (count_of d.asked) (acts ++ act ∷ []) ≡ unsent (count_of d.asked) acts
    ++ unsent_by (count_of (does_all d acts).asked) act
unsent_push d [] act = append-nil (unsent_by (count_of d.asked) act)
unsent_push d (x ∷ acts) act =
    let more = unsent_push (does d x) acts act in
    ap (λ l. unsent_by (count_of d.asked) x ++ l) (rw (ids_counted d x) at more)
    ∙ sym (append_assoc (unsent_by (count_of d.asked) x) (unsent (ids_after (count_of d.asked) x) acts)
    (unsent_by (count_of (does_all (does d x) acts).asked) act))

-- more is taken back
pub takes_more : {S P : Type 0} (ids_exhausted_post : S → P → S → Type 0) (old mid new : S) (xs ys : List P)
    → TakesBack ids_exhausted_post old xs mid → TakesBack ids_exhausted_post mid ys new → TakesBack ids_exhausted_post
    old (xs ++ ys) new
takes_more ids_exhausted_post old mid new [] ys first second = rw first at second
takes_more ids_exhausted_post old mid new (x ∷ xs) ys first second = (
  first.0,
  first.1,
  takes_more ids_exhausted_post first.0 mid new xs
      ys first.2 second,
)

-- removing what is not there changes nothing
remove_absent : {X : Type 0} (m : FinMap id_cmp X) (k : Id) → map.get m k ≡ None → map.remove m k ≡ m
remove_absent {X} m k absent = same_map id_total id_antisymmetric _ _ (λ q. get-remove id_total m k q
    ∙ same_at q (eq_by_cmp id_cmp q k) refl)
  where
    same_at : (q : Id) (b : Bool) → eq_by_cmp id_cmp q k ≡ b → cond b None (map.get m q) ≡ map.get m q
    same_at q true e = let same : q ≡ k = (id_decides q k).0 e in rw same (sym absent)
    same_at q false e = refl

-- all of a list were gone over
pub all_done : (done rest all : List Id) → done ++ rest ≡ all → length rest ≡ 0 → done ≡ all
all_done done [] all whole none = sym (append-nil done) ∙ whole
all_done done (id ∷ rest) all whole none = absurd (omega (arith, none))

module _ {P : Type 0} where
  -- a request is held no more once it was answered
  held_after : (d : Queues P) (id : Id) (outcome : Result Data ErrorObject) → (does d (replies id outcome)).held
      ≡ map.remove d.held id
  held_after d id outcome = at (map.contains_key d.held id) refl
    where
      none_there : (o : Option (Unit {0})) → is_some o ≡ false → o ≡ None
      none_there None e = refl
      none_there (Some u) e = absurd (cc (e))

      at : (b : Bool) → map.contains_key d.held id ≡ b → (does d (replies id outcome)).held ≡ map.remove d.held id
      at true e = rw e refl
      at false e = rw e (sym (remove_absent d.held id (none_there (map.get d.held id) e)))

  -- nor are others than these
  got_after : (d : Queues P) (ids : List Id) (q : Id) → map.get (does_all d (ends_all ids)).held q
      ≡ cond (list_any (same_id q) ids) None (map.get d.held q)
  got_after d [] q = refl
  got_after d (id ∷ ids) q =
      got_after (does d (replies id (Err ended_by_shutdown))) ids q
      ∙ ap (λ (o : Option (Unit {0})). cond (list_any (same_id q) ids) None o)
      (ap (λ (m : FinMap id_cmp (Unit {0})). map.get m q) (held_after d id (Err ended_by_shutdown))
      ∙ get-remove id_total d.held id q)
      ∙ both (same_id q id) (list_any (same_id q) ids)
    where
      both : (a b : Bool) → cond b None (cond a None (map.get d.held q)) ≡ cond (a || b) None (map.get d.held q)
      both true true = refl
      both true false = refl
      both false b = refl

  -- once all that are held were answered none is held
  pub none_left : (d : Queues P) (ids : List Id) → ((id : Id) → list_any (same_id id) ids ≡ map.contains_key d.held id)
      → (does_all d (ends_all ids)).held ≡ map.empty
  none_left d ids all = same_map id_total id_antisymmetric _ _ (λ q. got_after d ids q ∙ at q (map.get d.held q) refl
      (all q) ∙ sym (get-empty id_cmp q))
    where
      at : (q : Id) (o : Option (Unit {0})) → map.get d.held q ≡ o → list_any (same_id q) ids
          ≡ is_some (map.get d.held q) → cond (list_any (same_id q) ids) None (map.get d.held q) ≡ None
      at q None e is = rw (is, e) refl
      at q (Some u) e is = rw (is, e) refl

  -- one answer more
  pub ends_push : (ids : List Id) (id : Id) → ◌≡◌ {A = List (Act P)} (ends_all (ids ++ id ∷ [])) (ends_all ids
      ++ replies id (Err ended_by_shutdown) ∷ [])
  ends_push [] id = refl
  ends_push (i ∷ ids) id = ap (λ (l : List (Act P)). replies i (Err ended_by_shutdown) ∷ l) (ends_push ids id)

module _ {P : Type 0} where
  -- these requests of the server's own are cancelled
  abbrev pub cancelling : Queues P → List Id → Queues P
  cancelling d ids = record { held = d.held; asked = d.asked; sent = d.sent ++ cancel_all ids }

  -- one more
  pub cancelling_push : (d : Queues P) (ids : List Id) (id : Id) (mid : Queues P) → mid ≡ cancelling d ids
      → with_message mid (notification cancel_method (cancel_params id)) ≡ cancelling d (ids ++ id ∷ [])
  cancelling_push d ids id mid is =
      ap (λ (x : Queues P). with_message x (notification cancel_method (cancel_params id))) is
      ∙ ap (λ (l : List Message). with_sent l) (append_assoc d.sent (cancel_all ids) (cancel_all (id ∷ []))
      ∙ ap (λ (l : List Message). d.sent ++ l) (sym (map-append (λ (i : Id). notification cancel_method
      (cancel_params i)) ids (id ∷ []))))
    where
      with_sent : List Message → Queues P
      with_sent l = record { held = d.held; asked = d.asked; sent = l }

module _ {S P : Type 0} (may : Stated S P) where
  -- a reply under an id that no request of the server's has
  pub drops_reply : (s : S) (d d' : Queues P) (id : Id) (outcome : Result Data ErrorObject) (asked : Asked P)
      → map.get (pending_of d.asked) id ≡ None → asked ≡ (map.remove (pending_of d.asked) id, count_of d.asked)
      → d' ≡ record { held = d.held; asked = asked; sent = d.sent }
      → Works may (s, d) (Some (response id outcome)) (s, d')
  drops_reply s d d' id outcome asked none removed is =
      rw none (ap (λ (x : Queues P). (s, x)) (is ∙ same))
    where
      gone : asked ≡ d.asked
      gone = removed ∙ ap (λ m. (m, count_of d.asked)) (remove_absent (pending_of d.asked) id none)

      same : ◌≡◌ {A = Queues P} (record { held = d.held; asked = asked; sent = d.sent }) d
      same = rw gone refl
