-- Endings that are none: runs that `EndsWell` refuses, told by the bytes that were taken or by the replies.
use Rattle.lsp_message.specs.Frame.{Begins, reading_within}
use Rattle.lsp_message.specs.Id.{Id}
use Rattle.lsp_message.specs.Message.{Message, ErrorObject, request, notification, response}
use Rattle.lsp_message.specs.declared.frame.limits.Limits.{Limits}
use Rattle.lsp_message.specs.Written.{frame_text}
use Rattle.lsp_session.proofs.WellEnded.{nothing_left}
use Rattle.lsp_session.specs.Answered.{requests_of, RepliesToEach}
use Rattle.lsp_session.specs.EndsWell.{EndsWell, EndsBy, AreWritten, Handled, all_taken}
use Rattle.lsp_session.specs.ActBytes.{bytes_taken}
use Rattle.lsp_session.specs.Transcripts.{notes_of}
use Rattle.lsp_session.specs.declared.loops.transcript.Transcript.{Transcript}
use Rattle.lsp_session.proofs.WellRead.{same_taken}
use Rattle.lsp_session.specs.HandlerSession.{initialize_result}
use Rattle.lsp_session.specs.Replies.{null_reply}
use Rattle.lsp_session.specs.declared.loops.handler.SessionEnd.{SessionEnd}
use Rattle.lsp_session.specs.declared.loops.handler.SessionEnd.TheVariants.{ShutDown, Closed}
use Rattle.serde_json.specs.Data.{Data}
use Rattle.std.proofs.Common.{◌≡◌, refl, sym, ◌∙◌, ap, subst, inl, inr, ℕ, List, [], ◌∷◌, ◌++◌, Option}
use Rattle.std.proofs.Common.{Some, None, append_assoc}
use Rattle.std.proofs.Common.{Bool, true, false, not, ◌&&◌}
use Rattle.std.proofs.lemmas.List.Folds.{list_all-append}
use Rattle.lsp_message.specs.Methods.{is_early, is_exit, is_shutdown}
use Rattle.lsp_session.specs.Session.{is_served}
use Rattle.lsp_session.proofs.Waiting.{and-true}
use Rattle.std.specs.List.{FoldsTo, list_all}
use Rattle.std.specs.Prelude.{Result, Ok}
use Rattle.lsp_message.specs.declared.frame.ReadFault.{ReadFault}
use Rattle.lsp_message.specs.Reading.{Reading}

-- The bytes tell the messages: two readings of one text, each up to where no message is left, are one.
pub one_reading : (limit : Limits) (ms ns : List Message) (text r s : List ℕ) → FoldsTo (Begins limit) text ms r
    → FoldsTo (Begins limit) text ns s → reading_within limit r ≡ record { outcome = Ok None; rest = [] }
    → reading_within limit s ≡ record { outcome = Ok None; rest = [] } → ms ≡ ns
one_reading limit [] [] text r s first second end end' = refl
one_reading limit [] (n ∷ ns) text r s first second end end' =
    let none : ◌≡◌ {A = Result (Option Message) ReadFault} (Ok None) (Ok (Some n)) = ap (λ (a : Reading Message).
    a.outcome) (sym end ∙ ap (reading_within limit) (sym first) ∙ second.1) in
    absurd (cc (none))
one_reading limit (m ∷ ms) [] text r s first second end end' =
    let none : ◌≡◌ {A = Result (Option Message) ReadFault} (Ok None) (Ok (Some m)) = ap (λ (a : Reading Message).
    a.outcome) (sym end' ∙ ap (reading_within limit) (sym second) ∙ first.1) in
    absurd (cc (none))
one_reading limit (m ∷ ms) (n ∷ ns) text r s first second end end' =
    let both = sym first.1 ∙ second.1 in
    let some : ◌≡◌ {A = Result (Option Message) ReadFault} (Ok (Some m)) (Ok (Some n)) = ap (λ (a : Reading Message).
    a.outcome) both in
    let one : m ≡ n = cc (some) in
    let rest : first.0 ≡ second.0 = ap (λ (a : Reading Message). a.rest) both in
    let later = one_reading limit ms ns first.0 r s first.2 (subst (λ t. FoldsTo (Begins limit) t ns s) (sym rest)
    second.2) end end' in
    ap (λ (l : List Message). l) (λ i. one i ∷ later i)

abbrev no_shutdown : Message → Bool
no_shutdown m = not (is_shutdown m)

served_none : (ms : List Message) → list_all is_served ms ≡ true → list_all no_shutdown ms ≡ true
served_none [] all = refl
served_none (m ∷ ms) all =
    let both = and-true (is_served m) (list_all is_served ms) all in
    rw ((and-true (no_shutdown m) (not (is_exit m)) both.0).0, served_none ms both.1) refl

never_and : (b : Bool) → (b && false) ≡ false
never_and true = refl
never_and false = refl

-- what comes behind the early messages
split_early : (a b r s : List Message) (x y : Message) → list_all is_early a ≡ true → list_all is_early b ≡ true
    → is_early x ≡ false → is_early y ≡ false → a ++ x ∷ r ≡ b ++ y ∷ s → r ≡ s
split_early [] [] r s x y all all' late late' e = cc (e)
split_early [] (n ∷ b) r s x y all all' late late' e =
    let same : x ≡ n = cc (e) in
    let f : false ≡ true = sym late ∙ ap is_early same ∙ (and-true (is_early n) (list_all is_early b) all').0 in
    absurd (cc (f))
split_early (m ∷ a) [] r s x y all all' late late' e =
    let same : y ≡ m = sym (cc (e)) in
    let f : false ≡ true = sym late' ∙ ap is_early same ∙ (and-true (is_early m) (list_all is_early a) all).0 in
    absurd (cc (f))
split_early (m ∷ a) (n ∷ b) r s x y all all' late late' e =
    let tail : a ++ x ∷ r ≡ b ++ y ∷ s = cc (e) in
    split_early a b r s x y (and-true (is_early m) (list_all is_early a) all).1 (and-true (is_early n)
    (list_all is_early b) all').1 late late' tail

module _ {H : Type 0} (answers : H → Id → List ℕ → Data → Result Data ErrorObject → H → Type 0) (notes : H → List ℕ
    → Data → H → Type 0) (limit : Limits) (capabilities : Data) (old new : H) (taken given : List ℕ) where
  abbrev Ends : SessionEnd → Type 0
  Ends end = EndsWell answers notes limit capabilities old taken [] given end new

  -- where the messages end, no message is left
  none_left : (end : SessionEnd) (last parting : List Message) (rest : List ℕ) → EndsBy limit end last parting rest []
      → reading_within limit rest ≡ record { outcome = Ok None; rest = [] }
  none_left ShutDown last parting rest ends = ap (reading_within limit) ends.5 ∙ nothing_left limit
  none_left Closed last parting rest (none, inl gone) = ap (reading_within limit) gone.2 ∙ nothing_left limit
  none_left Closed last parting rest (none, inr gone) = gone.1

  -- So the messages are those of the bytes, if these are frames of messages and nothing else.
  pub are_of_bytes : (end : SessionEnd) (e : Ends end) (ms : List Message) → FoldsTo (Begins limit) taken ms []
      → e.messages ≡ ms
  are_of_bytes end e ms reads = one_reading limit e.messages ms taken e.rest [] e.came reads
      (none_left end e.last e.parting e.rest e.ends) (nothing_left limit)

  -- a first message is there
  some_first : (early rest : List Message) (m : Message) → ◌≡◌ {A = List Message} [] (early ++ m ∷ rest) → ⊥
  some_first [] rest m e = cc (e)
  some_first (n ∷ early) rest m e = cc (e)

  -- Nothing was read: `serve` returns at once.
  pub reads_nothing : (end : SessionEnd) → taken ≡ [] → Ends end → ⊥
  reads_nothing end none e =
      let no_messages : e.messages ≡ [] = are_of_bytes end e [] none in
      some_first e.early _ _ (sym no_messages ∙ e.in_order)

  -- The same of a transcript without an act: a `serve` that does nothing returns no `Ok`.
  pub does_nothing : (end : SessionEnd) (t : Transcript) → notes_of t ≡ [] → all_taken t ≡ taken → Ends end → ⊥
  does_nothing end t none same = reads_nothing end (sym same ∙ same_taken t.acts ∙ ap bytes_taken none)

  -- something is written for each of these
  written_some : (m : Message) (early rest : List Message) (text : List ℕ) → text ≡ [] → AreWritten (early ++ m ∷ rest)
      text → ⊥
  written_some m [] rest text none (body, more, is, later, cut) = let e : [] ≡ frame_text body ++ more = sym none
      ∙ cut in absurd (cc (e))
  written_some m (n ∷ early) rest text none (body, more, is, later, cut) = let e : [] ≡ frame_text body ++ more = sym
      none ∙ cut in absurd (cc (e))

  -- Nothing was written: all is swallowed.
  pub writes_nothing : (end : SessionEnd) → given ≡ [] → Ends end → ⊥
  writes_nothing end none e = written_some _ e.refusals _ given none (subst (λ ms. AreWritten ms given) e.replied
      e.went)

  -- A request gets no reply: three came, and two replies were written.
  pub passes_over : (end : SessionEnd) (e : Ends end) (i j k : Id) (ids : List Id) (a b : Message)
      → requests_of e.messages ≡ i ∷ j ∷ k ∷ ids → e.replies ≡ a ∷ b ∷ [] → ⊥
  passes_over end e i j k ids a b asked sent =
      let each : RepliesToEach (i ∷ j ∷ k ∷ ids) (a ∷ b ∷ []) = subst (λ ms. RepliesToEach (i ∷ j ∷ k ∷ ids) ms) sent
      (subst (λ is. RepliesToEach is e.replies) asked e.answered) in
      each.1.1

  -- A request gets two replies, or something is sent that nobody asked for, or follows the reply to `shutdown`.
  pub sends_more : (end : SessionEnd) (e : Ends end) (i j : Id) (a b c : Message) (more : List Message)
      → requests_of e.messages ≡ i ∷ j ∷ [] → e.replies ≡ a ∷ b ∷ c ∷ more → ⊥
  sends_more end e i j a b c more asked sent =
      let each : RepliesToEach (i ∷ j ∷ []) (a ∷ b ∷ c ∷ more) = subst (λ ms. RepliesToEach (i ∷ j ∷ []) ms) sent
      (subst (λ is. RepliesToEach is e.replies) asked e.answered) in
      each.1.1

  -- A request gets the reply of another.
  pub replies_to_another : (end : SessionEnd) (e : Ends end) (i j : Id) (ids : List Id) (outcome : Result Data
      ErrorObject) (more : List Message) → (j ≡ i → ⊥) → requests_of e.messages ≡ i ∷ ids → e.replies ≡ response j
      outcome ∷ more → ⊥
  replies_to_another end e i j ids outcome more other asked sent =
      let each : RepliesToEach (i ∷ ids) (response j outcome ∷ more) = subst (λ ms. RepliesToEach (i ∷ ids) ms) sent
      (subst (λ is. RepliesToEach is e.replies) asked e.answered) in
      let same : response j outcome ≡ response i each.0.0 = each.0.1 in
      other (cc (same))

  -- The last of a list is one.
  last_is : (first sent : List Message) (a b : Message) → first ++ a ∷ [] ≡ sent ++ b ∷ [] → a ≡ b
  last_is [] [] a b e = cc (e)
  last_is [] (s ∷ sent) a b e = let tail : [] ≡ sent ++ b ∷ [] = cc (e) in absurd (some_first sent [] b tail)
  last_is (f ∷ first) [] a b e = let tail : first ++ a ∷ [] ≡ [] = cc (e) in absurd (some_first first [] a (sym tail))
  last_is (f ∷ first) (s ∷ sent) a b e = let tail : first ++ a ∷ [] ≡ sent ++ b ∷ [] = cc (e) in last_is first sent a b
      tail

  -- The reply to `shutdown` is not null, or something is sent behind it.
  pub ends_otherwise : (e : Ends ShutDown) (sent : List Message) (m : Message) → e.replies ≡ sent ++ m ∷ []
      → (m ≡ null_reply e.ends.0 → ⊥) → ⊥
  ends_otherwise e sent m is other =
      let result = response e.id (Ok (initialize_result capabilities)) in
      let all : (e.refusals ++ result ∷ e.handled) ++ null_reply e.ends.0 ∷ [] ≡ sent ++ m ∷ [] =
      append_assoc e.refusals (result ∷ e.handled) (null_reply e.ends.0 ∷ [])
      ∙ ap (λ ms. e.refusals ++ result ∷ (e.handled ++ ms)) (sym e.ends.4) ∙ sym e.replied ∙ is in
      other (sym (last_is (e.refusals ++ result ∷ e.handled) sent (null_reply e.ends.0) m all))

  -- A notification is sent: every message is a reply.
  pub speaks_unasked : (end : SessionEnd) (e : Ends end) (method : List ℕ) (params : Data) (more : List Message)
      → e.replies ≡ notification method params ∷ more → ⊥
  speaks_unasked end e method params more sent = at (requests_of e.messages) (subst (λ ms. RepliesToEach
      (requests_of e.messages) ms) sent e.answered)
    where
      at : (ids : List Id) → RepliesToEach ids (notification method params ∷ more) → ⊥
      at [] each = each
      at (i ∷ ids) each = cc (each.0.1)

  -- It says that the client shut down, but `exit` alone was the last message that came for it, or nothing.
  pub says_shut_down : (e : Ends ShutDown) → e.last ≡ [] → ⊥
  says_shut_down e none = let some = sym none ∙ e.ends.3 in cc (some)

  -- bytes were taken behind `exit`
  pub takes_behind_exit : (e : Ends ShutDown) (byte : ℕ) (more : List ℕ) → e.rest ≡ byte ∷ more → ⊥
  takes_behind_exit e byte more some = let never = sym some ∙ e.ends.5 in cc (never)

  -- The handler is passed over: what it may answer is not what the first request it serves gets.
  pub answers_for_handler : (end : SessionEnd) (e : Ends end) (i : Id) (method : List ℕ) (params : Data)
      (later : List Message) → e.served ≡ request i method params ∷ later
      → ((outcome : Result Data ErrorObject) (mid : H) (more : List Message) → answers old i method params outcome mid
      → e.handled ≡ response i outcome ∷ more → ⊥) → ⊥
  answers_for_handler end e i method params later first never =
      let handled : Handled answers notes old (request i method params ∷ later) e.handled new = subst
      (λ ms. Handled answers notes old ms e.handled new) first e.handles in
      never handled.3.0 handled.1 handled.2 handled.3.1 (handled.4 ∙ ap (λ (l : List Message). l ++ handled.2)
      handled.3.2)

  -- The result is told by the bytes: no session that the client left without `shutdown` is one that it shut down. So a
  -- `serve` that always says `ShutDown` is refused.
  pub one_end : Ends Closed → Ends ShutDown → ⊥
  one_end e f =
      let same : e.messages ≡ f.messages = one_reading limit e.messages f.messages taken e.rest f.rest e.came f.came
      (none_left Closed e.last e.parting e.rest e.ends) (none_left ShutDown f.last f.parting f.rest f.ends) in
      let behind = split_early e.early f.early _ _ _ _ e.all_early f.all_early refl refl (sym e.in_order ∙ same
      ∙ f.in_order) in
      let tails : e.served ++ e.last ≡ f.served ++ f.last = cc (behind) in
      let none : list_all no_shutdown e.last ≡ true = last_none e.last e.ends in
      let left : list_all no_shutdown (e.served ++ e.last) ≡ true = list_all-append no_shutdown e.served e.last
      ∙ rw (served_none e.served e.all_served, none) refl in
      let right : list_all no_shutdown (f.served ++ f.last) ≡ false = list_all-append no_shutdown f.served f.last
      ∙ ap (λ ms. list_all no_shutdown f.served && list_all no_shutdown ms) f.ends.3
      ∙ never_and (list_all no_shutdown f.served) in
      let never : true ≡ false = sym left ∙ ap (list_all no_shutdown) tails ∙ right in
      cc (never)
    where
      last_none : (last : List Message) → EndsBy limit Closed last e.parting e.rest [] → list_all no_shutdown last ≡
          true
      last_none last (quiet, inl gone) = ap (list_all no_shutdown) gone.1
      last_none last (quiet, inr gone) = ap (list_all no_shutdown) gone.0
