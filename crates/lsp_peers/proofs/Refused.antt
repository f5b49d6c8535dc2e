-- Outcomes that no history and no run has: these lists of steps and outcomes are refused, whatever the messages' frames
-- are.
use Rattle.std.proofs.Common.{◌≡◌, ◌≢◌, ℕ, ℤ, ◌+◌, ◌-◌, ◌<◌, ◌≤◌, List, [], ◌∷◌, ◌++◌, String, Global, length, codes}
use Rattle.std.proofs.Common.{min, refl, sym, ap, ◌∙◌, subst, arith, length-append}
use Rattle.std.proofs.lemmas.Bool.{le-leb, cond-true}
use Rattle.std.proofs.lemmas.List.{append_cancel_left, length-map}
use Rattle.std.specs.Fmt.{decimal}
use Rattle.std.specs.List.{AllByRecursion}
use Rattle.std.specs.Prelude.{pos, Option, None, Some, Result, Ok, Err, Bool, true, false, if◌then◌else◌, nat_le}
use Rattle.std.specs.Prelude.{string_bytes, map as each}
use Rattle.serde_json.specs.Data.{Data, depth}
use Rattle.serde_json.specs.View.{view}
use Rattle.serde_json.specs.declared.value.Value.{Value}
use Rattle.lsp_message.specs.Id.{Id}
use Rattle.lsp_message.specs.Message.{Message, ErrorObject, request, response}
use Rattle.lsp_message.specs.View.{message_view}
use Rattle.lsp_message.specs.Written.{frame_text}
use Rattle.lsp_peers.specs.declared.world.World.{World}
use Rattle.lsp_peers.specs.Exchange.{WorldAfter, IsWholeRun, seen_at}
use Rattle.lsp_peers.specs.Shallow.{AllShallow}
use Rattle.lsp_peers.specs.Sides.{side_of, other}
use Rattle.lsp_peers.specs.History.{Entry, written_in, IsHistory, outcome_of_taking, outcome_of, next_sent, entries_of}
use Rattle.lsp_peers.specs.Ids.{nth_id}
use Rattle.lsp_peers.specs.SentFrame.{SentFrame, frames, messages}
use Rattle.lsp_peers.specs.declared.step.Outcome.{Outcome}
use Rattle.lsp_peers.specs.declared.step.Outcome.TheVariants.{Registered, Passed, Arrived, Returned, Waiting, Answered}
use Rattle.lsp_peers.specs.declared.step.Side.{Side}
use Rattle.lsp_peers.specs.declared.step.Side.TheVariants.{A, B}
use Rattle.lsp_peers.specs.declared.step.Step.{Step}
use Rattle.lsp_peers.specs.declared.step.Step.TheVariants.{Register, Pass, Take, Answer, Refuse}
use Rattle.lsp_peers.proofs.AnswerLemmas.{answered_law}
use Rattle.lsp_peers.proofs.Entries.{entry, taking, all_at}
use Rattle.lsp_peers.proofs.ShallowLemmas.{shallow_of}

-- a frame is not empty
frame_some : (l : SentFrame) → 16 ≤ length l.frame
frame_some l =
    let body = l.framed.0 in
    let frame : l.frame ≡ frame_text body = l.framed.2 in
    omega (
      arith,
      ap (λ (x : List ℕ). length x) frame,
      length-append (codes "Content-Length: ") (decimal (length body)
          ++ 13 ∷ 10 ∷ 13 ∷ 10 ∷ body),
    )

-- the one frame that was written
one_sent_frame : (wrote : List SentFrame) (m : Message) → messages wrote ≡ m ∷ [] → (sent_frame : SentFrame)
    × (wrote ≡ sent_frame ∷ [])
one_sent_frame [] m is = cc
one_sent_frame (l ∷ []) m is = (l, refl)
one_sent_frame (l ∷ k ∷ ls) m is = cc

-- what comes of taking a request, if it may have arrived
not_returned : (own others : List Entry) (l : SentFrame) (b : Bool) (key id : Id) (method : List ℕ) (params : _)
    (x : Option ℕ) → l.message ≡ request key method params → Returned id x ≡ taking own others (if b then Some l else
    None) → ⊥
not_returned own others l true key id method params x is came = let e : Returned id x ≡ Arrived key = came
    ∙ ap (λ (m : Message). outcome_of_taking own others m) is in cc
not_returned own others l false key id method params x is came = cc

module _ (method : String Global) (params : Value) (result : Value) (rest : List Entry) (w1 w2 w3 w4 w5 w6 w7 : List
    SentFrame) where
  -- a reply is taken before its request has arrived at the other side
  pub early : IsHistory (entry (Register A method params 7) (Registered (nth_id 0)) w1 ∷ entry (Take A 0)
      (Returned (nth_id 0) (Some 7)) w2 ∷ rest) → ⊥
  early history = let came = history.1.0.outcome_is in cc

  -- nothing arrives of a request
  pub unpassed_request : IsHistory (entry (Register A method params 7) (Registered (nth_id 0)) w1 ∷ entry (Pass B 1000)
      (Passed 0) w2 ∷ rest) → ⊥
  unpassed_request history =
      let one = one_sent_frame w1 _ history.0.wrote_is in
      let came : Passed 0 ≡ Passed (min 1000 (length (frames (w1 ++ [])) - 0)) = history.1.0.outcome_is in
      let none : 0 ≡ min 1000 (length (frames (w1 ++ [])) - 0) = cc in
      absurd (omega (
        arith,
        none,
        ap (λ (l : List SentFrame). length (frames (l ++ []))) one.1,
        length-append one.0.frame [],
        frame_some one.0,
      ))

  -- a request of which every byte has arrived is not taken
  pub lazy : length (frames w1) ≤ 1000 → IsHistory (entry (Register A method params 7) (Registered (nth_id 0)) w1
      ∷ entry (Pass B 1000) (Passed (length (frames w1))) w2 ∷ entry (Take B 0) Waiting w3 ∷ rest) → ⊥
  lazy short history = at w1 history.0.wrote_is history.1.1.0.outcome_is
    where
      own : List SentFrame → List Entry
      own w = entry (Pass B 1000) (Passed (length (frames w))) w2 ∷ []

      theirs : List SentFrame → List Entry
      theirs w = entry (Register A method params 7) (Registered (nth_id 0)) w ∷ []

      at : (w : List SentFrame) → messages w ≡ request (nth_id 0) (string_bytes method) (view params) ∷ [] → Waiting
          ≡ taking (own w) (theirs w) (next_sent (own w) (theirs w)) → ⊥
      at [] is came = cc
      at (l ∷ ls) is came =
          let first : l.message ≡ request (nth_id 0) (string_bytes method) (view params) = cc in
          let whole : nat_le (0 + length l.frame) (length (l.frame ++ frames ls) + 0)
          ≡ true = le-leb (0 + length l.frame) (length (l.frame ++ frames ls) + 0) (omega (
            arith,
            length-append l.frame (frames ls),
          )) in
          let arrives : Waiting ≡ Arrived (nth_id 0) = came ∙ ap (λ (o : Option SentFrame). taking (own (l ∷ ls))
          (theirs (l ∷ ls)) o) (cond-true (nat_le (0 + length l.frame) (length (l.frame ++ frames ls) + 0)) (Some l)
          None whole) ∙ ap (λ (m : Message). outcome_of_taking (own (l ∷ ls)) (theirs (l ∷ ls)) m) first in
          cc

  -- a reply is taken before a request that was written first
  pub swapped : (n m : ℕ) (key id : Id) (x : Option ℕ) → IsHistory (entry (Register A method params 7)
      (Registered (nth_id 0)) w1 ∷ entry (Register B method params 8) (Registered (nth_id 0)) w2 ∷ entry (Pass B 1000)
      (Passed n) w3 ∷ entry (Take B 5) (Arrived (nth_id 0)) w4 ∷ entry (Answer B (nth_id 0) result) (Answered 5) w5
      ∷ entry (Pass A 1000) (Passed m) w6 ∷ entry (Take A 6) (Returned id x) w7 ∷ rest) → ⊥
  swapped n m key id x history = at w2 history.1.0.wrote_is history.1.1.1.1.1.1.0.outcome_is
    where
      own : List Entry
      own = entry (Register A method params 7) (Registered (nth_id 0)) w1 ∷ entry (Pass A 1000) (Passed m) w6 ∷ []

      theirs : List SentFrame → List Entry
      theirs w = entry (Register B method params 8) (Registered (nth_id 0)) w ∷ entry (Pass B 1000) (Passed n) w3
          ∷ entry (Take B 5) (Arrived (nth_id 0)) w4 ∷ entry (Answer B (nth_id 0) result) (Answered 5) w5 ∷ []

      at : (w : List SentFrame) → messages w ≡ request (nth_id 0) (string_bytes method) (view params) ∷ []
          → Returned id x ≡ taking own (theirs w) (next_sent own (theirs w)) → ⊥
      at [] is came = cc
      at (l ∷ ls) is came = let first : l.message ≡ request (nth_id 0) (string_bytes method) (view params) = cc in
          not_returned own (theirs (l ∷ ls)) l (nat_le (0 + length l.frame) (0 + (m + 0))) (nth_id 0) id
          (string_bytes method) (view params) x first came

-- an answer to a request that nobody holds, however deep its result is
pub answered_nothing : (value : Value) (wrote : List SentFrame) (rest : List Entry)
    → IsHistory (entry (Answer A (nth_id 0) value) (Answered 0) wrote ∷ rest) → ⊥
answered_nothing value wrote rest history = let came = history.0.outcome_is in cc

-- a refusal of a request that nobody holds
pub refused_nothing : (code : ℤ) (text : String Global) (wrote : List SentFrame) (rest : List Entry)
    → IsHistory (entry (Refuse A (nth_id 0) code text) (Answered 0) wrote ∷ rest) → ⊥
refused_nothing code text wrote rest history = let came = history.0.outcome_is in cc

-- the code of an answer that is an error
abbrev code_of : Result Data ErrorObject → ℤ
code_of (Ok result) = pos 0
code_of (Err error) = error.code

-- A asks and B replies, by any step that writes this answer. Then A takes this answer, and no other.
module _ (world new : World) (handed : Side → List Message) (method : String Global) (params : Value) (n m : ℕ)
    (w1 w2 w3 w4 w5 w6 : List SentFrame) where
  abbrev asked : Step → List Entry
  asked reply = entry (Register A method params 7) (Registered (nth_id 0)) w1 ∷ entry (Pass B 1000) (Passed n) w2
      ∷ entry (Take B 5) (Arrived (nth_id 0)) w3 ∷ entry reply (Answered 5) w4 ∷ entry (Pass A 1000) (Passed m) w5 ∷ []

  abbrev Took : Step → Result Data ErrorObject → Type 0
  Took reply answer =
      (payload : Option ℕ) × WorldAfter world handed (asked reply) × WorldAfter new handed (asked reply
      ++ entry (Take A 6) (Returned (nth_id 0) payload) w6 ∷ [])
      × (each message_view (seen_at A new).taken ≡ each message_view (seen_at A world).taken ++ response (nth_id 0)
      answer ∷ [])

  -- an entry of these that is of B, and writes an answer to the request, writes this one
  abbrev Says : Result Data ErrorObject → Result Data ErrorObject → Entry → Type 0
  Says said answer e =
      side_of e.step ≡ B → written_in e.step e.outcome ≡ response (nth_id 0) answer ∷ [] → answer ≡ said

  only_this : (reply : Step) (said answer : Result Data ErrorObject) → written_in reply (Answered 5)
      ≡ response (nth_id 0) said ∷ [] → AllByRecursion (Says said answer) (asked reply)
  only_this reply said answer says =
      let this : Says said answer (entry reply (Answered 5) w4) = λ by wrote.
      let both : response (nth_id 0) said ∷ [] ≡ response (nth_id 0) answer ∷ [] = sym says ∙ wrote in
      cc in
      (λ by wrote. cc, (λ by wrote. cc, (λ by wrote. cc, (this, (λ by wrote. cc, tt)))))

  took_this : (reply : Step) (said answer : Result Data ErrorObject) → written_in reply (Answered 5)
      ≡ response (nth_id 0) said ∷ [] → Took reply answer → answer ≡ said
  took_this reply said answer says took =
      let law = answered_law world new handed (asked reply) (entry (Take A 6) (Returned (nth_id 0) took.0) w6) took.1
      took.2 A 6 (nth_id 0) took.0 refl refl in
      let both : response (nth_id 0) answer ∷ [] ≡ response (nth_id 0) law.0 ∷ [] = append_cancel_left
      (each message_view (seen_at A world).taken) _ _ (sym took.3 ∙ law.1) in
      let same : answer ≡ law.0 = cc in
      same ∙ all_at (Says said law.0) law.2.earlier law.2.later (asked reply) law.2.entry law.2.history_is (only_this
      reply said law.0 says) law.2.by law.2.wrote

  -- an answer that comes with another result
  pub another_result : (result : Value) (other : Data) → other ≢ view result → Took (Answer B (nth_id 0) result)
      (Ok other) → ⊥
  another_result result other apart took =
      let same : Ok other ≡ Ok (view result) = took_this (Answer B (nth_id 0) result) (Ok (view result)) (Ok other) refl
      took in
      apart cc

  -- a refusal that comes as a result
  pub refused_with_a_result : (code : ℤ) (text : String Global) (other : Data) → Took (Refuse B (nth_id 0) code text)
      (Ok other) → ⊥
  refused_with_a_result code text other took =
      let same = took_this (Refuse B (nth_id 0) code text) _ (Ok other) refl took in
      cc

  -- a refusal that comes with another code
  pub another_code : (code wrong : ℤ) (text : String Global) → wrong ≢ code → Took (Refuse B (nth_id 0) code text)
      (Err (record { code = wrong; message = string_bytes text; details = None })) → ⊥
  another_code code wrong text apart took =
      let same = took_this (Refuse B (nth_id 0) code text) _ (Err (record {
        code = wrong;
        message = string_bytes text;
        details = None;
      })) refl took in
      apart (ap code_of same)

module _ (world : World) where
  -- no run has it either, whatever world it gives
  pub answered_nothing_run : (value : Value) → IsWholeRun (Answer A (nth_id 0) value ∷ []) (Answered 0 ∷ []) world → ⊥
  answered_nothing_run value run = at run.0 run.1 run.2 run.3.lawful
    where
      at : (history : List Entry) → each (λ e. e.step) history ≡ Answer A (nth_id 0) value ∷ [] → each (λ e. e.outcome)
          history ≡ Answered 0 ∷ [] → IsHistory history → ⊥
      at [] steps outcomes lawful = cc
      at (e ∷ history) steps outcomes lawful =
          let step : e.step ≡ Answer A (nth_id 0) value = cc in
          let outcome : e.outcome ≡ Answered 0 = cc in
          let came : e.outcome ≡ outcome_of [] [] (Answer A (nth_id 0) value) = lawful.0.outcome_is
          ∙ ap (λ (x : Step). outcome_of (entries_of (side_of x) []) (entries_of (other (side_of x)) []) x) step in
          cc

  -- a run that stops before the last step, and gives any world: each step has its outcome
  pub no_outcome_missing : (steps : List Step) (outcomes : List Outcome) → IsWholeRun steps outcomes world
      → length outcomes ≡ length steps
  no_outcome_missing steps outcomes run = omega (
    arith,
    ap (λ (l : List Step). length l) run.1,
    ap (λ (l : List Outcome). length l) run.2,
    length-map run.0 (λ (e : Entry). e.step),
    length-map run.0 (λ (e : Entry). e.outcome),
  )

  -- a run that begins with a request that nests too deeply
  pub registers_too_deep : (method : String Global) (params : Value) (payload : ℕ) (rest : List Step)
      (outcomes : List Outcome) → 126 < depth (view params)
      → IsWholeRun (Register A method params payload ∷ rest) outcomes world → ⊥
  registers_too_deep method params payload rest outcomes deep run =
      let shallow : AllShallow (Register A method params payload ∷ rest) = subst AllShallow run.1 (shallow_of run.0
      run.3.lawful) in
      absurd (omega (arith, deep, shallow.0))
