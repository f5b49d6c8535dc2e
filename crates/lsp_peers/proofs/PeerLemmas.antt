-- What each kind of entry does to the two sides.
use Rattle.std.proofs.Common.{◌≡◌, ℕ, ◌+◌, ◌≤◌, ◌<◌, List, [], ◌∷◌, ◌++◌, length, take, drop, min, refl, sym, ap, ◌∙◌}
use Rattle.std.proofs.Common.{subst, ◌-◌, String, Vec, Global, arith, append_assoc, length-append, take-append-drop}
use Rattle.std.proofs.lemmas.Bool.{ne_eqb, eq-eqb, cond-false, cond-true}
use Rattle.std.proofs.lemmas.Grind.{flat_map-append}
use Rattle.std.proofs.lemmas.List.{map-append}
use Rattle.std.specs.FinMap as map
use Rattle.std.specs.FinMap.{get-empty}
use Rattle.std.specs.Prelude.{Option, None, Some, Result, Bool, true, false, option_map, is_some, ◌==◌, if◌then◌else◌}
use Rattle.std.specs.Prelude.{map as each, string_bytes, IfSome}
use Rattle.serde_json.specs.Data.{Data}
use Rattle.serde_json.specs.View.{view}
use Rattle.serde_json.specs.declared.value.Value.{Value}
use Rattle.lsp_message.specs.Id.{Id, id_cmp}
use Rattle.lsp_message.specs.Message.{Message, ErrorObject, request, notification, response}
use Rattle.lsp_message.specs.View.{message_view}
use Rattle.lsp_message.specs.declared.msg.Message as code
use Rattle.lsp_queue.specs.Queue.{Asked, Pending, pending_of, count_of, all_ids, cancelled}
use Rattle.lsp_queue.specs.declared.error.RegisterFault.TheVariants as fault
use Rattle.lsp_queue.specs.declared.req_queue.ReqQueue.{ReqQueue}
use Rattle.lsp_peers.specs.declared.peer.Peer.{Peer}
use Rattle.lsp_peers.specs.declared.step.Outcome.{Outcome}
use Rattle.lsp_peers.specs.declared.step.Outcome.TheVariants.{Registered, Spent, Told, Passed, Arrived, Returned}
use Rattle.lsp_peers.specs.declared.step.Outcome.TheVariants.{Notified, Waiting, Answered, Absent}
use Rattle.lsp_peers.specs.declared.step.Side.{Side}
use Rattle.lsp_peers.specs.declared.step.Step.{Step}
use Rattle.lsp_peers.specs.declared.step.Step.TheVariants.{Register, Tell, Pass, Take, Answer, Refuse}
use Rattle.lsp_peers.specs.Delivery.{Delivers, PeersAfter}
use Rattle.lsp_peers.specs.Exchange.{Seen, SideAfter, seen}
use Rattle.lsp_peers.specs.History.{Entry, written_in, payload_in, arrival_in, closed_in, returned_in, count_in}
use Rattle.lsp_peers.specs.History.{bytes_in, payloads, labels, closed, returned, held, pending, where_held}
use Rattle.lsp_peers.specs.History.{taken_count, passed_count, frames_written, frames_taken, frames_left, next_sent}
use Rattle.lsp_peers.specs.History.{outcome_of_taking, outcome_of, Follows, entries_of}
use Rattle.lsp_peers.specs.Ids.{nth_id, item_at, has}
use Rattle.lsp_peers.specs.Post.{Post, Line, Carries, posted, passed_on, unpassed, next, one_taken, message_of}
use Rattle.lsp_peers.specs.Post.{after_take, empty_post, IfNext, ReadsBack}
use Rattle.lsp_peers.specs.SentFrame.{SentFrame, messages, frames}
use Rattle.lsp_peers.specs.Shallow.{IsShallow}
use Rattle.lsp_peers.specs.Sides.{side_of, other}
use Rattle.lsp_peers.proofs.Entries.{entry, payload_of, label_of_arrival, closed_id, returned_id, taking, post_of}
use Rattle.lsp_peers.proofs.Entries.{flat_push, flat_push_none, length-push, passed_push, left_same, taken_same}
use Rattle.lsp_peers.proofs.Entries.{left_took, taken_took, left_wrote, taken_wrote, next_first, of_own, of_other}
use Rattle.lsp_peers.proofs.Entries.{history_more}
use Rattle.lsp_peers.proofs.KeptItems.{get-nothing, Sets, sets_both, insert_sets, remove_sets, kept_more, kept_less}
use Rattle.lsp_peers.proofs.KeptItems.{kept}
use Rattle.lsp_peers.proofs.Orderly.{Orderly, AllReadBack, orderly_of, orderly_other, reply_first, request_first}
use Rattle.lsp_peers.proofs.Orderly.{new_open}

-- ---- the far side

-- the line of a side
abbrev pub line_at : Seen → Line
line_at side = record { arrived = side.arrived; on_way = side.on_way }

pub carried : {own others : List Entry} {handed : List Message} (side : Seen) → SideAfter side handed own others
    → Carries (line_at side) (post_of own others)
carried side after = record { bytes = after.in_link; count = after.here }

module _ (own others : List Entry) (e : Entry) (handed : List Message) where
  -- the other side writes nothing
  far_kept : (side : Seen) → e.wrote ≡ [] → SideAfter side handed own others → SideAfter side handed own (others ++ e
      ∷ [])
  far_kept side none after =
      let same : frames_written (others ++ e ∷ []) ≡ frames_written others = flat_push_none (λ (x : Entry). x.wrote)
      others e none in
      record {
        took = after.took ∙ ap (λ (l : List SentFrame). messages (take (taken_count own) l)) (sym same);
        in_link = after.in_link ∙ ap (λ (l : List SentFrame). frames (drop (taken_count own) l)) (sym same);
        here = ap (λ (l : List SentFrame). length (frames (take (taken_count own) l)) + length side.arrived) same
            ∙ after.here;
        asks = after.asks;
        holds = after.holds;
        count = after.count;
      }

  -- it writes a frame
  far_wrote : (side new : Seen) (f : SentFrame) → taken_count own ≤ length (frames_written others) → e.wrote ≡ f ∷ []
      → new.queue ≡ side.queue → new.taken ≡ side.taken → Carries (line_at new) (posted (post_of own others) f)
      → SideAfter side handed own others → SideAfter new handed own (others ++ e ∷ [])
  far_wrote side new f within one queue taken carries after = record {
    took = ap (λ (l : List code.Message). handed ++ each message_view l) taken ∙ after.took ∙ ap messages
        (sym (taken_wrote own others e within));
    in_link = carries.bytes ∙ ap frames (ap (λ (l : List SentFrame). frames_left own others ++ l) (sym one)
        ∙ sym (left_wrote own others e within));
    here = ap (λ (l : List SentFrame). length (frames l) + length new.arrived) (taken_wrote own others e within)
        ∙ carries.count;
    asks = λ id. ap (λ (q : ReqQueue ℕ ℕ). map.get (pending_of q.outgoing) id) queue ∙ after.asks id;
    holds = λ id. ap (λ (q : ReqQueue ℕ ℕ). map.get q.incoming id) queue ∙ after.holds id;
    count = ap (λ (q : ReqQueue ℕ ℕ). count_of q.outgoing) queue ∙ after.count;
  }

-- ---- the near side, part by part

module _ (own others : List Entry) (e : Entry) where
  asks_same : payload_of e ≡ [] → returned_id e ≡ [] → (id : Id) → pending (own ++ e ∷ []) id ≡ pending own id
  asks_same unpaid unreturned id = λ i. kept (flat_push_none payload_of own e unpaid i)
      (flat_push_none returned_id own e unreturned i) id

  holds_same : label_of_arrival e ≡ [] → closed_id e ≡ [] → (id : Id) → held (own ++ e ∷ []) id ≡ held own id
  holds_same unarrived unclosed id = λ i. kept (flat_push_none label_of_arrival own e unarrived i)
      (flat_push_none closed_id own e unclosed i) id

  count_same : payload_of e ≡ [] → length (payloads (own ++ e ∷ [])) ≡ length (payloads own)
  count_same unpaid = ap (λ (l : List ℕ). length l) (flat_push_none payload_of own e unpaid)

  -- the side after an entry at which it takes nothing
  near_untaken : (handed : List Message) (side new : Seen) → count_in e.step e.outcome ≡ 0 → new.taken ≡ side.taken
      → Carries (line_at new) (record {
        taken = frames_taken own others;
        waiting = frames_left own others;
        passed = passed_count own + bytes_in e.step e.outcome;
      }) → SideAfter side handed own others
      → ((id : Id) → map.get (pending_of new.queue.outgoing) id ≡ pending (own ++ e ∷ []) id)
      → ((id : Id) → map.get new.queue.incoming id ≡ held (own ++ e ∷ []) id)
      → count_of new.queue.outgoing ≡ length (payloads (own ++ e ∷ []))
      → SideAfter new handed (own ++ e ∷ []) others
  near_untaken handed side new untaken taken carries after asks holds count = record {
    took = ap (λ (l : List code.Message). handed ++ each message_view l) taken ∙ after.took ∙ ap messages
        (sym (taken_same own others e untaken));
    in_link = carries.bytes ∙ ap frames (sym (left_same own others e untaken));
    here = ap (λ (l : List SentFrame). length (frames l) + length new.arrived) (taken_same own others e untaken)
        ∙ carries.count ∙ sym (passed_push own e);
    asks = asks;
    holds = holds;
    count = count;
  }

  -- the side after an entry at which it takes the first frame
  near_took : (handed : List Message) (side new : Seen) (f : SentFrame) (rest : List SentFrame) (m : code.Message)
      → count_in e.step e.outcome ≡ 1 → bytes_in e.step e.outcome ≡ 0 → frames_left own others ≡ f ∷ rest
      → new.taken ≡ side.taken ++ m ∷ [] → message_view m ≡ f.message → Carries (line_at new) (one_taken (post_of own
      others)) → SideAfter side handed own others
      → ((id : Id) → map.get (pending_of new.queue.outgoing) id ≡ pending (own ++ e ∷ []) id)
      → ((id : Id) → map.get new.queue.incoming id ≡ held (own ++ e ∷ []) id)
      → count_of new.queue.outgoing ≡ length (payloads (own ++ e ∷ []))
      → SideAfter new handed (own ++ e ∷ []) others
  near_took handed side new f rest m one unpassed first taken means carries after asks holds count =
      let all : frames_taken (own ++ e ∷ []) others ≡ frames_taken own others ++ take 1 (frames_left own others) =
      taken_took own others e one f rest first ∙ ap (λ (l : List SentFrame). frames_taken own others ++ take 1 l)
      (sym first) in
      record {
        took = ap (λ (l : List code.Message). handed ++ each message_view l) taken
            ∙ ap (λ (l : List Message). handed ++ l) (map-append message_view side.taken (m ∷ []))
            ∙ sym (append_assoc handed (each message_view side.taken) (message_view m ∷ []))
            ∙ ap (λ (l : List Message). l ++ message_view m ∷ []) after.took
            ∙ ap (λ (x : Message). messages (frames_taken own others) ++ x ∷ []) means
            ∙ sym (map-append (λ (l : SentFrame). l.message) (frames_taken own others) (f ∷ []))
            ∙ ap messages (sym (taken_took own others e one f rest first));
        in_link = carries.bytes ∙ ap frames (ap (λ (l : List SentFrame). drop 1 l) first
            ∙ sym (left_took own others e one f rest first));
        here = ap (λ (l : List SentFrame). length (frames l) + length new.arrived) all ∙ carries.count
            ∙ omega (arith, passed_push own e, unpassed);
        asks = asks;
        holds = holds;
        count = count;
      }

-- ---- both sides, by the kind of entry

-- an entry of this step and outcome to which nothing happens
abbrev pub Idle : Step → Outcome → Type 0
Idle step outcome =
    (written_in step outcome ≡ []) × (payload_in step outcome ≡ []) × (returned_in step outcome ≡ [])
    × (arrival_in step outcome ≡ []) × (closed_in step outcome ≡ []) × (count_in step outcome ≡ 0)
    × (bytes_in step outcome ≡ 0)

module _ (near far : Peer) (side : Side) (handed : Side → List Message) (history : List Entry)
    (after : PeersAfter near far side handed history) where
  abbrev pub own : List Entry
  own = entries_of side history

  abbrev pub others : List Entry
  others = entries_of (other side) history

  mine : Orderly own others
  mine = orderly_of history after.lawful side

  theirs : Orderly others own
  theirs = orderly_other history after.lawful side

  -- the far line, before and after a frame is written
  pub far_line : Carries (line_at (seen far)) (post_of others own)
  far_line = carried (seen far) after.far_side

  pub near_line : Carries (line_at (seen near)) (post_of own others)
  near_line = carried (seen near) after.near_side

  module _ (step : Step) (outcome : Outcome) (by : side_of step ≡ side) (shallow : IsShallow step)
      (comes : outcome ≡ outcome_of own others step) where
    continued : (new_near new_far : Peer) (wrote : List SentFrame) → messages wrote ≡ written_in step outcome
        → SideAfter (seen new_near) (handed side) (own ++ entry step outcome wrote ∷ []) others
        → SideAfter (seen new_far) (handed (other side)) others (own ++ entry step outcome wrote ∷ [])
        → PeersAfter new_near new_far side handed (history ++ entry step outcome wrote ∷ [])
    continued new_near new_far wrote says near_after far_after =
        let e : Entry = entry step outcome wrote in
        let a = of_own side history e by in
        let b = of_other side history e by in
        record {
          lawful = history_more history e after.lawful (subst (λ (s : Side). Follows (entries_of s history)
              (entries_of (other s) history) e) (sym by) (record {
                shallow = shallow;
                outcome_is = comes;
                wrote_is = says;
              }));
          near_side = subst (λ (l : List Entry). SideAfter (seen new_near) (handed side) l (entries_of (other side)
              (history ++ e ∷ []))) (sym a) (subst (λ (l : List Entry). SideAfter (seen new_near) (handed side) (own
              ++ e ∷ []) l) (sym b) near_after);
          far_side = subst (λ (l : List Entry). SideAfter (seen new_far) (handed (other side)) l (entries_of side
              (history ++ e ∷ []))) (sym b) (subst (λ (l : List Entry). SideAfter (seen new_far) (handed (other side))
              others l) (sym a) far_after);
        }

    -- it writes nothing
    unwritten_keeps : (new : Peer) → written_in step outcome ≡ [] → SideAfter (seen new) (handed side) (own
        ++ entry step outcome [] ∷ []) others → PeersAfter new far side handed (history ++ entry step outcome [] ∷ [])
    unwritten_keeps new none near_after = continued new far [] (sym none) near_after (far_kept others own
        (entry step outcome []) (handed (other side)) (seen far) refl after.far_side)

    -- it writes this message
    written_keeps : (new : Peer) (line : Line) (m : Message) → written_in step outcome ≡ m ∷ []
        → (wrote : (f : SentFrame) × (f.message ≡ m) × Carries line (posted (post_of others own) f))
        → ((ws : List SentFrame) → SideAfter (seen new) (handed side) (own ++ entry step outcome ws ∷ []) others)
        → (ws : List SentFrame) × PeersAfter new (record { queue = far.queue; link = line; taken = far.taken }) side
        handed (history ++ entry step outcome ws ∷ [])
    written_keeps new line m says wrote near_after = (
      wrote.0 ∷ [],
      continued new (record { queue = far.queue; link = line; taken = far.taken }) (wrote.0 ∷ [])
          (ap (λ (x : Message). x ∷ []) wrote.1 ∙ sym says) (near_after (wrote.0 ∷ []))
          (far_wrote others own (entry step outcome (wrote.0 ∷ [])) (handed (other side)) (seen far)
          (seen (record { queue = far.queue; link = line; taken = far.taken })) wrote.0 theirs.within refl refl refl
          wrote.2 after.far_side),
    )

    -- it is idle
    pub idle_keeps : (incoming : Pending ℕ) (line : Line) → Idle step outcome → incoming ≡ near.queue.incoming
        → Carries line (post_of own others) → PeersAfter (record {
          queue = record { incoming = incoming; outgoing = near.queue.outgoing };
          link = line;
          taken = near.taken;
        }) far side handed (history ++ entry step outcome [] ∷ [])
    idle_keeps incoming line idle same carries =
        let e : Entry = entry step outcome [] in
        let new : Peer = record {
          queue = record { incoming = incoming; outgoing = near.queue.outgoing };
          link = line;
          taken = near.taken;
        } in
        unwritten_keeps new idle.0 (near_untaken own others e (handed side) (seen near) (seen new) idle.5
        refl (record {
          bytes = carries.bytes;
          count = carries.count ∙ omega (arith, idle.6);
        }) after.near_side (λ id. after.near_side.asks id ∙ sym (asks_same own others e idle.1 idle.2 id))
        (λ id. ap (λ (p : Pending ℕ). map.get p id) same ∙ after.near_side.holds id ∙ sym (holds_same own others e
        idle.3 idle.4 id)) (after.near_side.count ∙ sym (count_same own others e idle.1)))

    -- it closes a request
    module _ (key : Id) (incoming : Pending ℕ) (removed : incoming ≡ map.remove near.queue.incoming key)
        (closes : closed_in step outcome ≡ key ∷ []) (unpaid : payload_in step outcome ≡ [])
        (unreturned : returned_in step outcome ≡ []) (unarrived : arrival_in step outcome ≡ [])
        (untaken : count_in step outcome ≡ 0) (unpassed : bytes_in step outcome ≡ 0) where
      abbrev pub without : Peer
      without = record {
        queue = record { incoming = incoming; outgoing = near.queue.outgoing };
        link = near.link;
        taken = near.taken;
      }

      near_closed : (ws : List SentFrame) → SideAfter (seen without) (handed side) (own ++ entry step outcome ws ∷ [])
          others
      near_closed ws =
          let e : Entry = entry step outcome ws in
          near_untaken own others e (handed side) (seen near) (seen without) untaken refl (record {
            bytes = after.near_side.in_link;
            count = after.near_side.here ∙ omega (arith, unpassed);
          }) after.near_side (λ id. after.near_side.asks id ∙ sym (asks_same own others e unpaid unreturned id))
          (sets_both after.near_side.holds (subst (λ (p : Pending ℕ). Sets (map.get near.queue.incoming) (map.get p) key
          None) (sym removed) (remove_sets near.queue.incoming key)) (kept_less (labels own) (labels (own ++ e ∷ []))
          (closed own) (closed (own ++ e ∷ [])) key (flat_push_none label_of_arrival own e unarrived)
          (flat_push closed_id own e
          ∙ ap (λ (l : List Id). closed own ++ l) closes))) (after.near_side.count ∙ sym (count_same own others e
          unpaid))

      pub replies_keep : (line : Line) (m : Message) → written_in step outcome ≡ m ∷ []
          → ((f : SentFrame) × (f.message ≡ m) × Carries line (posted (post_of others own) f)) → (ws : List SentFrame)
          × PeersAfter without (record { queue = far.queue; link = line; taken = far.taken }) side handed (history
          ++ entry step outcome ws ∷ [])
      replies_keep line m says wrote = written_keeps without line m says wrote near_closed

      pub gives_up_keeps : written_in step outcome ≡ [] → PeersAfter without far side handed (history ++ entry step
          outcome [] ∷ [])
      gives_up_keeps none = unwritten_keeps without none (near_closed [])

  -- what comes of a step that needs a request to be held
  pub held_as : (id : Id) (o : Option ℕ) (outcome : ℕ → Outcome) → map.get near.queue.incoming id ≡ o
      → where_held o outcome ≡ where_held (held own id) outcome
  held_as id o outcome is = ap (λ (x : Option ℕ). where_held x outcome) (sym is ∙ after.near_side.holds id)

  pub tell_keeps : (line : Line) (method : String Global) (params : Value) (m : Message) → m
      ≡ notification (string_bytes method) (view params) → IsShallow (Tell side method params)
      → ((f : SentFrame) × (f.message ≡ m) × Carries line (posted (post_of others own) f)) → (ws : List SentFrame)
      × PeersAfter near (record { queue = far.queue; link = line; taken = far.taken }) side handed (history
      ++ entry (Tell side method params) Told ws ∷ [])
  tell_keeps line method params m is shallow wrote =
      written_keeps (Tell side method params) Told refl shallow refl near line m (ap (λ (x : Message). x ∷ []) (sym is))
      wrote (λ ws.
      let e : Entry = entry (Tell side method params) Told ws in
      near_untaken own others e (handed side) (seen near) (seen near) refl refl (record {
        bytes = after.near_side.in_link;
        count = after.near_side.here ∙ omega arith;
      }) after.near_side (λ id. after.near_side.asks id ∙ sym (asks_same own others e refl refl id))
      (λ id. after.near_side.holds id ∙ sym (holds_same own others e refl refl id))
      (after.near_side.count ∙ sym (count_same own others e refl)))

  pub pass_keeps : (line : Line) (bytes count : ℕ) → (count ≡ min bytes (unpassed (post_of own others)))
      × Carries line (passed_on (post_of own others) bytes) → PeersAfter (record {
        queue = near.queue;
        link = line;
        taken = near.taken;
      }) far side handed (history ++ entry (Pass side bytes) (Passed count) [] ∷ [])
  pass_keeps line bytes count moved =
      let e : Entry = entry (Pass side bytes) (Passed count) [] in
      let new : Peer = record { queue = near.queue; link = line; taken = near.taken } in
      let all : frames (frames_written others) ≡ frames (frames_taken own others) ++ frames (frames_left own others) =
      ap frames (sym (take-append-drop (taken_count own) (frames_written others)))
      ∙ flat_map-append (λ (l : SentFrame). l.frame) (frames_taken own others) (frames_left own others) in
      let left : length (frames (frames_written others)) ≡ length (frames (frames_taken own others)) + length
      (frames (frames_left own others)) = ap (λ (l : List ℕ). length l) all
      ∙ length-append (frames (frames_taken own others)) (frames (frames_left own others)) in
      unwritten_keeps (Pass side bytes) (Passed count) refl tt (ap (λ (n : ℕ). Passed n) (moved.0
      ∙ ap (λ (n : ℕ). min bytes (n - passed_count own)) (sym left))) new refl (near_untaken own others e (handed side)
      (seen near) (seen new) refl refl (record {
        bytes = moved.1.bytes;
        count = moved.1.count ∙ ap (λ (n : ℕ). passed_count own + n) (sym moved.0);
      }) after.near_side (λ id. after.near_side.asks id ∙ sym (asks_same own others e refl refl id))
      (λ id. after.near_side.holds id ∙ sym (holds_same own others e refl refl id))
      (after.near_side.count ∙ sym (count_same own others e refl)))

  module _ (method : String Global) (params : Value) (payload : ℕ) where
    abbrev pub asking : Step
    asking = Register side method params payload

    pub spent_comes : count_of near.queue.outgoing ≡ all_ids → Spent ≡ outcome_of own others asking
    spent_comes full = sym (cond-true (length (payloads own) == all_ids) _ _ (eq-eqb _ _ (sym after.near_side.count
        ∙ full)))

    pub register_keeps : (asked : Asked ℕ) (line : Line) (id : Id) (m : Message) → IsShallow asking → m
        ≡ request (nth_id (count_of near.queue.outgoing)) (string_bytes method) (view params)
        → count_of near.queue.outgoing < all_ids → asked ≡ (
          map.insert (pending_of near.queue.outgoing) (nth_id (count_of near.queue.outgoing)) payload,
          count_of near.queue.outgoing + 1,
        ) → ((f : SentFrame) × (f.message ≡ m) × Carries line (posted (post_of others own) f)) → id
        ≡ nth_id (count_of near.queue.outgoing) → (ws : List SentFrame) × PeersAfter (record {
          queue = record { incoming = near.queue.incoming; outgoing = asked };
          link = near.link;
          taken = near.taken;
        }) (record { queue = far.queue; link = line; taken = far.taken }) side handed (history ++ entry asking
        (Registered id) ws ∷ [])
    register_keeps asked line id m shallow is few outgoing wrote id_is =
        let n : count_of near.queue.outgoing ≡ length (payloads own) = after.near_side.count in
        let named : id ≡ nth_id (length (payloads own)) = id_is ∙ ap (λ (k : ℕ). nth_id k) n in
        let comes : Registered id ≡ outcome_of own others asking = ap (λ (i : Id). Registered i) named
        ∙ sym (cond-false (length (payloads own) == all_ids) _ _ (ne_eqb _ _ (λ same. absurd (omega (
          arith,
          few,
          n,
          same,
        ))))) in
        let new : Peer = record {
          queue = record { incoming = near.queue.incoming; outgoing = asked };
          link = near.link;
          taken = near.taken;
        } in
        written_keeps asking (Registered id) refl shallow comes new line m (ap (λ (x : Message). x ∷ [])
        (ap (λ (i : Id). request i (string_bytes method) (view params)) id_is ∙ sym is)) wrote (λ ws.
        let e : Entry = entry asking (Registered id) ws in
        let more : payloads (own ++ e ∷ []) ≡ payloads own ++ payload ∷ [] = flat_push payload_of own e in
        near_untaken own others e (handed side) (seen near) (seen new) refl refl (record {
          bytes = after.near_side.in_link;
          count = after.near_side.here ∙ omega arith;
        }) after.near_side (sets_both after.near_side.asks (subst (λ (a : Asked ℕ). Sets
        (map.get (pending_of near.queue.outgoing)) (map.get (pending_of a)) (nth_id (length (payloads own)))
        (Some payload)) (sym outgoing) (subst (λ (k : ℕ). Sets (map.get (pending_of near.queue.outgoing)) (map.get
        (map.insert (pending_of near.queue.outgoing) (nth_id (count_of near.queue.outgoing)) payload)) (nth_id k)
        (Some payload)) n (insert_sets (pending_of near.queue.outgoing) (nth_id (count_of near.queue.outgoing))
        payload))) (kept_more (payloads own) (payloads (own ++ e ∷ [])) (returned own) (returned (own ++ e ∷ []))
        payload
        more (flat_push_none returned_id own e refl) (new_open own others mine)))
        (λ key. after.near_side.holds key ∙ sym (holds_same own others e refl refl key))
        (ap (λ (a : Asked ℕ). count_of a) outgoing ∙ ap (λ (k : ℕ). k + 1) n ∙ sym (ap (λ (l : List ℕ). length l) more
        ∙ length-push (payloads own) payload)))

  -- ---- a take

  -- the next frame is read back
  pub next_reads : IfNext ReadsBack (post_of own others)
  next_reads = at (next_sent own others) (λ f is. next_first _ _ (frames_left own others) f is)
    where
      at : (o : Option SentFrame) → ((f : SentFrame) → o ≡ Some f → (rest : List SentFrame)
          × (frames_left own others ≡ f ∷ rest)) → IfSome o (λ (f : SentFrame). ReadsBack f.message)
      at None first = tt
      at (Some f) first =
          let left = first f refl in
          let all : AllReadBack (f ∷ left.0) = subst AllReadBack left.1 mine.reads in
          all.0

  module _ (label : ℕ) where
    abbrev pub takes : Step
    takes = Take side label

    taken_as : (f : SentFrame) (m : Message) → next_sent own others ≡ Some f → m ≡ f.message → outcome_of_taking own
        others m ≡ outcome_of own others takes
    taken_as f m is same = sym (ap (λ (o : Option SentFrame). taking own others o) is ∙ ap (λ (x : Message).
        outcome_of_taking own others x) (sym same))

    pub waiting_comes : next_sent own others ≡ None → Waiting ≡ outcome_of own others takes
    waiting_comes none = sym (ap (λ (o : Option SentFrame). taking own others o) none)

    pub takes_keep : (queue : ReqQueue ℕ ℕ) (line : Line) (taken : Vec code.Message Global) (f : SentFrame)
        (m : code.Message) (message : Message) (outcome : Outcome) → message_view m ≡ message → next_sent own others
        ≡ Some f → message ≡ f.message → Carries line (one_taken (post_of own others))
        → Delivers message label near.queue outcome queue → taken.items ≡ near.taken.items ++ m ∷ []
        → PeersAfter (record { queue = queue; link = line; taken = taken }) far side handed (history ++ entry takes
        outcome [] ∷ [])
    takes_keep queue line taken f m (request key method params) outcome means is same carries gives pushed =
        let first = next_first _ _ (frames_left own others) f is in
        let law = request_first own others f first.0 first.1 theirs key method params (sym same) in
        let e : Entry = entry takes (Arrived key) [] in
        let new : Peer = record { queue = queue; link = line; taken = taken } in
        subst (λ (o : Outcome). PeersAfter new far side handed (history ++ entry takes o [] ∷ [])) (sym gives.0)
        (unwritten_keeps takes (Arrived key) refl tt (taken_as f (request key method params) is same) new refl
        (near_took own others e (handed side) (seen near) (seen new) f first.0 m refl refl first.1 pushed (means ∙ same)
        carries after.near_side
        (λ id. ap (λ (a : Asked ℕ). map.get (pending_of a) id) gives.2 ∙ after.near_side.asks id ∙ sym (asks_same own
        others e refl refl id))
        (sets_both after.near_side.holds (subst (λ (p : Pending ℕ). Sets (map.get near.queue.incoming) (map.get p)
        (nth_id (length (labels own))) (Some label)) (sym gives.1) (subst (λ (k : Id). Sets
        (map.get near.queue.incoming) (map.get (map.insert near.queue.incoming key label)) k (Some label)) law.0
        (insert_sets near.queue.incoming key label))) (kept_more (labels own) (labels (own ++ e ∷ [])) (closed own)
        (closed (own ++ e ∷ [])) label (flat_push label_of_arrival own e) (flat_push_none closed_id own e refl)
        (subst (λ (k : Id). has k (closed own) ≡ false) law.0 law.2)))
        (ap (λ (a : Asked ℕ). count_of a) gives.2 ∙ after.near_side.count ∙ sym (count_same own others e refl))))
    takes_keep queue line taken f m (response key answer) outcome means is same carries gives pushed =
        let first = next_first _ _ (frames_left own others) f is in
        let law = reply_first own others f first.0 first.1 mine key answer (sym same) in
        let paid : map.get (pending_of near.queue.outgoing) key ≡ item_at (payloads own) key = after.near_side.asks key
        ∙ cond-false (has key (returned own)) None (item_at (payloads own) key) law.0 in
        let back : Outcome = Returned key (map.get (pending_of near.queue.outgoing) key) in
        let e : Entry = entry takes back [] in
        let new : Peer = record { queue = queue; link = line; taken = taken } in
        subst (λ (o : Outcome). PeersAfter new far side handed (history ++ entry takes o [] ∷ [])) (sym gives.0)
        (unwritten_keeps takes back refl tt (ap (λ (o : Option ℕ). Returned key o) paid ∙ taken_as f
        (response key answer) is same) new refl
        (near_took own others e (handed side) (seen near) (seen new) f first.0 m refl refl first.1 pushed (means ∙ same)
        carries after.near_side
        (sets_both after.near_side.asks (subst (λ (a : Asked ℕ). Sets (map.get (pending_of near.queue.outgoing))
        (map.get (pending_of a)) key None) (sym gives.1) (remove_sets (pending_of near.queue.outgoing) key))
        (kept_less (payloads own) (payloads (own ++ e ∷ [])) (returned own) (returned (own ++ e ∷ [])) key
        (flat_push_none payload_of own e refl) (flat_push returned_id own e)))
        (λ id. ap (λ (p : Pending ℕ). map.get p id) gives.2 ∙ after.near_side.holds id ∙ sym (holds_same own others e
        refl refl id))
        (ap (λ (a : Asked ℕ). count_of a) gives.1 ∙ after.near_side.count ∙ sym (count_same own others e refl))))
    takes_keep queue line taken f m (notification method params) outcome means is same carries gives pushed =
        let first = next_first _ _ (frames_left own others) f is in
        let e : Entry = entry takes Notified [] in
        let new : Peer = record { queue = queue; link = line; taken = taken } in
        subst (λ (o : Outcome). PeersAfter new far side handed (history ++ entry takes o [] ∷ [])) (sym gives.0)
        (unwritten_keeps takes Notified refl tt (taken_as f (notification method params) is same) new refl
        (near_took own others e (handed side) (seen near) (seen new) f first.0 m refl refl first.1 pushed (means ∙ same)
        carries after.near_side
        (λ id. ap (λ (a : Asked ℕ). map.get (pending_of a) id) gives.2 ∙ after.near_side.asks id ∙ sym (asks_same own
        others e refl refl id))
        (λ id. ap (λ (p : Pending ℕ). map.get p id) gives.1 ∙ after.near_side.holds id ∙ sym (holds_same own others e
        refl refl id))
        (ap (λ (a : Asked ℕ). count_of a) gives.2 ∙ after.near_side.count ∙ sym (count_same own others e refl))))

-- ---- sides at which nothing happened

pub new_after : (queue : ReqQueue ℕ ℕ) (line : Line) (taken : Vec code.Message Global) → queue.incoming ≡ map.empty
    → queue.outgoing ≡ (map.empty, 0) → Carries line empty_post → taken.items ≡ []
    → SideAfter (seen (record { queue = queue; link = line; taken = taken })) [] [] []
new_after queue line taken incoming outgoing carries none = record {
  took = ap (each message_view) none;
  in_link = carries.bytes;
  here = carries.count;
  asks = λ id. ap (λ (a : Asked ℕ). map.get (pending_of a) id) outgoing ∙ get-empty id_cmp id ∙ sym (get-nothing id);
  holds = λ id. ap (λ (p : Pending ℕ). map.get p id) incoming ∙ get-empty id_cmp id ∙ sym (get-nothing id);
  count = ap (λ (a : Asked ℕ). count_of a) outgoing;
}

-- ---- what calls found

-- a request, by its parts
pub request_is : (i j : Id) (method name : List ℕ) (params value : Data) → i ≡ j → method ≡ name → params ≡ value
    → request i method params ≡ request j name value
request_is i j method name params value a b c = λ k. request (a k) (b k) (c k)

-- which frame it was
pub sent_frame_is : (o : Option SentFrame) (message : Message) → Some message ≡ message_of o → (sent_frame : SentFrame)
    × (o ≡ Some sent_frame) × (message ≡ sent_frame.message)
sent_frame_is None message is = cc
sent_frame_is (Some sent_frame) message is = (sent_frame, refl, cc)

pub after_taken : (post : Post) (sent_frame : SentFrame) → next post ≡ Some sent_frame → after_take post
    ≡ one_taken post
after_taken post sent_frame is = ap (λ (o : Option SentFrame). if is_some o then one_taken post else post) is

pub after_none : (post : Post) → next post ≡ None → after_take post ≡ post
after_none post is = ap (λ (o : Option SentFrame). if is_some o then one_taken post else post) is

-- what a cancellation found
pub held_under : (o : Option ℕ) (reply : Message) (id : Id) → Some reply ≡ option_map (λ (label : ℕ). cancelled id) o
    → (label : ℕ) × (o ≡ Some label) × (reply ≡ cancelled id)
held_under None reply id is = cc
held_under (Some label) reply id is = (label, refl, cc)

pub held_nowhere : (o : Option ℕ) (id : Id) → ◌≡◌ {A = Option Message} None (option_map (λ (label : ℕ). cancelled id) o)
    → o ≡ None
held_nowhere None id is = refl
held_nowhere (Some label) id is = cc

pub none_of : {X : Type 0} (o : Option X) → ((x : X) → o ≡ Some x → ⊥) → o ≡ None
none_of None never = refl
none_of (Some x) never = absurd (never x refl)

-- a step that answers or refuses the request of this id by this message
pub record Replying (step : Step) (reply : Message) (key : Id) : Type 0 where
  pub closes : (label : ℕ) → closed_in step (Answered label) ≡ key ∷ []
  pub says : (label : ℕ) → written_in step (Answered label) ≡ reply ∷ []
  pub empty : (label : ℕ) → (payload_in step (Answered label) ≡ []) × (returned_in step (Answered label) ≡ [])
      × (arrival_in step (Answered label) ≡ []) × (count_in step (Answered label) ≡ 0)
      × (bytes_in step (Answered label) ≡ 0)
  pub comes : (own others : List Entry) → where_held (held own key) (λ label. Answered label) ≡ outcome_of own others
      step
  pub absent : Idle step Absent

pub replying : (step : Step) (key : Id) (answer : Result Data ErrorObject) → written_in step (Answered 0)
    ≡ response key answer ∷ [] → Replying step (response key answer) key
replying (Answer side id value) key answer is =
    let same : key ≡ id = cc in
    record {
      closes = λ label. ap (λ (i : Id). i ∷ []) (sym same);
      says = λ label. is;
      empty = λ label. (refl, refl, refl, refl, refl);
      comes = λ own others. ap (λ (i : Id). where_held (held own i) (λ label. Answered label)) same;
      absent = (refl, refl, refl, refl, refl, refl, refl);
    }
replying (Refuse side id code text) key answer is =
    let same : key ≡ id = cc in
    record {
      closes = λ label. ap (λ (i : Id). i ∷ []) (sym same);
      says = λ label. is;
      empty = λ label. (refl, refl, refl, refl, refl);
      comes = λ own others. ap (λ (i : Id). where_held (held own i) (λ label. Answered label)) same;
      absent = (refl, refl, refl, refl, refl, refl, refl);
    }
replying step key answer is = cc

-- this fault comes only if no id is left
pub spent_only : {D : Type 0} (b : Bool) (x y z : D) → fault.Spent x ≡ (if b then fault.Spent y else fault.Memory z)
    → b ≡ true
spent_only true x y z is = refl
spent_only false x y z is = cc
