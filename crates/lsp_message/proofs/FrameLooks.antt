-- What one look at a reader gives of a frame, and what all of them give.
use Rattle.std.proofs.Common.{◌≡◌, ◌≢◌, ◌⊎◌, inl, inr, refl, sym, ap, subst, ◌∙◌, ℕ, List, [], ◌∷◌, ◌++◌}
use Rattle.std.proofs.Common.{append_assoc, append-nil, Option, Some, None, IfSome, OnSome, Result, Ok, Err, Vec}
use Rattle.std.proofs.Common.{Global, true}
use Rattle.std.specs.List.{concat}
use Rattle.std.specs.Result.{result_err}
use Rattle.std.specs.Io.KnownBytes.{Keeps, Consumes}
use Rattle.std.specs.declared.io.ErrorKind.{ErrorKind}
use Rattle.std.proofs.lemmas.List.Folds.{concat-append}
use Rattle.lsp_message.specs.Frame.{content_within, header_under, RunsOutBefore}
use Rattle.lsp_message.specs.FrameInput.{AwaitsMore, BeginsWithFault, IsEndOf, IsFrameRead, RanOut, ReadsContent}
use Rattle.lsp_message.specs.FramePlace.{IsHeader}
use Rattle.lsp_message.specs.FrameLooks.{Answer, items, answered_as, failed_as, failure_in, IsAtEndOf, Looks}
use Rattle.lsp_message.specs.Reading.{Reading, Answers, StopsBefore}
use Rattle.lsp_message.specs.Told.{Parts, shows_end, MayFollow, IsOfParts}
use Rattle.lsp_message.specs.Failures.{ReaderFails}
use Rattle.lsp_message.specs.declared.frame.ReadFault.{ReadFault}
use Rattle.lsp_message.specs.declared.frame.ReadFault.TheVariants.{Input, Memory}
use Rattle.lsp_message.specs.declared.frame.byte_trace.ByteTrace.{ByteTrace}
use Rattle.lsp_message.specs.declared.frame.input.Frame.{Frame}
use Rattle.lsp_message.specs.declared.frame.limits.Limits.{Limits}
use Rattle.lsp_message.proofs.Failures.{fails_otherwise}
use Rattle.lsp_message.proofs.FrameFaults.{content_fault}
use Rattle.lsp_message.proofs.FrameInputs.{header_leaves}
use Rattle.lsp_message.proofs.Told.{end_of_last, joined}

-- an answer of these bytes, whatever follows them
abbrev pub IsAnswer : Limits → List ℕ → Answer → Type 0
IsAnswer limits text answer = (rest : List ℕ) → Answers items answer (Some rest) (content_within limits (text ++ rest))

module _ (limits : Limits) (text : List ℕ) where
  whole_answer : (content : Vec ℕ Global) → IsFrameRead limits content.items text
      → IsAnswer limits text (Ok (Some content))
  whole_answer content is rest = (
    ap (λ (r : Reading (List ℕ)). r.outcome) (is rest),
    ap (λ (r : Reading (List ℕ)). Some r.rest) (sym (is rest)),
  )

  fault_answer : (fault : ReadFault) → BeginsWithFault limits text fault → IsAnswer limits text (Err fault)
  fault_answer (Input kind) begins rest = ([], ap (λ (r : Reading (List ℕ)). Some r.rest) (sym (begins rest)))
  fault_answer Memory begins rest = ((begins rest).0, ap Some (begins rest).1)
  fault_answer fault begins rest = (
    ap (λ (r : Reading (List ℕ)). r.outcome) (begins rest),
    ap (λ (r : Reading (List ℕ)). Some r.rest) (sym (begins rest)),
  )

  -- the answer where the input ends
  end_fault : (fault : ReadFault) → IsEndOf limits text (Some fault)
      → Answers {X = Vec ℕ Global} items (Err fault) (Some []) (content_within limits text)
  end_fault (Input kind) is = ([], ap (λ (r : Reading (List ℕ)). Some r.rest) (sym is))
  end_fault Memory is =
      let leaves = header_leaves limits text is.0 is.1 [] in
      (leaves.0, ap Some (leaves.1 ∙ ap (λ l. leaves.0 ++ (content_within limits l).rest) (append-nil text)))
  end_fault fault is = (
    ap (λ (r : Reading (List ℕ)). r.outcome) is,
    ap (λ (r : Reading (List ℕ)). Some r.rest) (sym is),
  )

  end_answer : (answer : Answer) → IsAtEndOf limits text answer
      → Answers items answer (Some []) (content_within limits text)
  end_answer (Ok None) is = (
    ap (λ (r : Reading (List ℕ)). r.outcome) is,
    ap (λ (r : Reading (List ℕ)). Some r.rest) (sym is),
  )
  end_answer (Ok (Some content)) is = absurd is
  end_answer (Err fault) is = end_fault fault is

-- parts that were taken
pub looks_part : (limits : Limits) (old new part : List ℕ) (parts : Parts) (read : Result (Option Frame) ReadFault)
    (result : Option Answer)
    → result ≡ answered_as read → concat parts ≡ part → ReadsContent limits (old ++ part) read new
    → Looks limits old result new parts
looks_part limits old new part parts (Ok None) result is all reads = rw is (reads ∙ ap (λ l. old ++ l) (sym all))
looks_part limits old new part parts (Ok (Some frame)) result is all reads = rw is (λ rest may.
    subst (λ l. Answers items (Ok (Some frame.content)) (Some rest) (content_within limits l)) (append_assoc old part
    rest ∙ ap (λ l. old ++ (l ++ rest)) (sym all)) (whole_answer limits (old ++ part) frame.content reads.0 rest))
looks_part limits old new part parts (Err fault) result is all reads = rw is (λ rest may.
    subst (λ l. Answers {X = Vec ℕ Global} items (Err fault) (Some rest) (content_within limits l))
    (append_assoc old part rest ∙ ap (λ l. old ++ (l ++ rest)) (sym all))
    (fault_answer limits (old ++ part) fault reads.1 rest))

-- what was read, from the answer
pub answered_memory : (read : Result (Option Frame) ReadFault) (result : Option Answer) → result ≡ answered_as read
    → result ≡ Some (Err Memory) → read ≡ Err Memory
answered_memory (Ok None) result is out = absurd (cc (is, out))
answered_memory (Ok (Some frame)) result is out = absurd (cc (is, out))
answered_memory (Err fault) result is out = cc (is, out)

pub failed_in : (r : Result Unit ReadFault) (result : Option Answer) → result ≡ failed_as r
    → failure_in result ≡ result_err r
failed_in (Ok done) result is = ap failure_in is
failed_in (Err fault) result is = ap failure_in is

-- the end of the input
pub looks_end : (limits : Limits) (old new : List ℕ) (answer : Answer) (parts : Parts) → concat parts ≡ []
    → shows_end parts ≡ true → IsAtEndOf limits old answer → Looks limits old (Some answer) new parts
looks_end limits old new answer parts none shown is = λ rest may.
    let end = follows answer is rest may in
    subst (λ l. Answers items answer (Some l) (content_within limits (old ++ (concat parts ++ l)))) (sym end)
    (subst (λ l. Answers items answer (Some []) (content_within limits l)) (sym (ap (λ l. old ++ (l ++ [])) none
    ∙ append-nil old)) (end_answer limits old answer is))
  where
    follows : (answer : Answer) → IsAtEndOf limits old answer → (rest : List ℕ) → MayFollow answer parts rest
        → rest ≡ []
    follows (Ok None) is rest may = may shown
    follows (Ok (Some content)) is rest may = absurd is
    follows (Err fault) is rest may = may shown

-- a reader that failed, or was interrupted
pub looks_failed : {P Q : Type 0} (limits : Limits) (old : List ℕ) (kind : ErrorKind) (r : Result Unit ReadFault)
    (result : Option Answer) → AwaitsMore limits old → result ≡ failed_as r
    → (P × (r ≡ Ok tt)) ⊎ (Q × (r ≡ Err (Input kind))) → Looks limits old result old []
looks_failed limits old kind r result awaits is (inl again) = rw (is, again.1) (sym (append-nil old))
looks_failed limits old kind r result awaits is (inr fault) = rw (is, fault.1) (λ rest may.
    ((awaits.within rest).0, ap Some (awaits.within rest).1))

-- ---- what all looks give

-- the answer of the last look is that of all parts
pub told_look : (limits : Limits) (answer : Answer) (old new : List ℕ) (ps qs : Parts) → concat ps ≡ old
    → Looks limits old (Some answer) new qs → IsOfParts items (content_within limits) answer (ps ++ qs)
told_look limits answer old new ps qs taken look = λ rest may.
    subst (λ l. Answers items answer (Some rest) (content_within limits l)) (ap (λ l. l ++ (concat qs ++ rest))
    (sym taken) ∙ sym (joined ps qs rest)) (look rest (last answer rest may))
  where
    last : (r : Answer) (rest : List ℕ) → MayFollow r (ps ++ qs) rest → MayFollow r qs rest
    last (Ok None) rest may = λ is. may (end_of_last ps qs is)
    last (Ok (Some content)) rest may = tt
    last (Err fault) rest may = λ is. may (end_of_last ps qs is)

-- a look that goes on
pub told_on : (limits : Limits) (old new : List ℕ) (ps qs : Parts) → concat ps ≡ old → Looks limits old None new qs
    → concat (ps ++ qs) ≡ new
told_on limits old new ps qs taken look = concat-append ps qs ∙ ap (λ l. l ++ concat qs) taken ∙ sym look

-- the reader was looked at too often
pub told_broken : (limits : Limits) (text : List ℕ) (kind : ErrorKind) (ps : Parts) → concat ps ≡ text
    → AwaitsMore limits text → IsOfParts {X = Vec ℕ Global} items (content_within limits) (Err (Input kind)) ps
told_broken limits text kind ps taken awaits = λ rest may.
    subst (λ l. Answers {X = Vec ℕ Global} items (Err (Input kind)) (Some rest) (content_within limits (l ++ rest)))
    (sym taken) ((awaits.within rest).0, ap Some (awaits.within rest).1)

-- ---- want of memory

-- memory ran out for the bytes that follow those that were taken
pub memory_later : (limits : Limits) (old : List ℕ) (a b c : Option (List ℕ)) (bytes : List ℕ) → bytes ≡ old
    → Consumes a b bytes → IfSome b (λ text. RunsOutBefore limits (old ++ text) c)
    → IfSome a (λ text. RunsOutBefore limits text c)
memory_later limits old None b c bytes same taken out = tt
memory_later limits old (Some x) None c bytes same taken out = absurd taken
memory_later limits old (Some x) (Some y) c bytes same taken out = subst (λ l. RunsOutBefore limits l c)
    (sym (taken ∙ ap (λ l. l ++ y) same)) out

-- it ran out where the text ends, and these bytes follow
header_ran_out : (limits : Limits) (text rest : List ℕ) (size : ℕ) → IsHeader limits size text
    → RunsOutBefore limits (text ++ rest) (Some rest)
header_ran_out limits text rest size is = inr (
  size,
  ap (λ (r : Reading ℕ). r.outcome) (is.header rest),
  is.allowed,
  ap (λ (r : Reading ℕ). Some r.rest) (sym (is.header rest)),
)

pub memory_taken : (limits : Limits) (old new part : List ℕ) (count : ℕ) (a b : Option (List ℕ)) → new ≡ old ++ part
    → RanOut limits new count → Consumes a b part → (count ≡ 0 → OnSome a (IfSome b (λ l. l ≢ [])))
    → IfSome a (λ text. RunsOutBefore limits (old ++ text) b)
memory_taken limits old new part count None b is out taken left = tt
memory_taken limits old new part count (Some x) None is out taken left = absurd taken
memory_taken limits old new part count (Some x) (Some y) is out taken left =
    subst (λ l. RunsOutBefore limits l (Some y)) (ap (λ l. l ++ y) is ∙ append_assoc old part y
    ∙ ap (λ l. old ++ l) (sym taken)) (at out)
  where
    unread : (y : List ℕ) → y ≢ [] → ((byte : ℕ) (more : List ℕ)
        → StopsBefore (Some (byte ∷ more)) (header_under limits.header (new ++ byte ∷ more)))
        → RunsOutBefore limits (new ++ y) (Some y)
    unread [] some stops = absurd (some refl)
    unread (byte ∷ more) some stops = inl (stops byte more)

    at : RanOut limits new count → RunsOutBefore limits (new ++ y) (Some y)
    at (inl header) = header_ran_out limits new y header.0 header.1
    at (inr line) = unread y (left line.0) line.1

pub memory_at_end : (limits : Limits) (old : List ℕ) (a b : Option (List ℕ)) → Keeps a b
    → IsEndOf limits old (Some Memory) → IfSome a (λ text. RunsOutBefore limits (old ++ text) b)
memory_at_end limits old None b kept is = tt
memory_at_end limits old (Some x) None kept is = absurd kept
memory_at_end limits old (Some x) (Some y) kept is = subst (λ l. RunsOutBefore limits (old ++ l) (Some y)) kept
    (header_ran_out limits old y is.0 is.1)

-- ---- failures

begins_no_input : (limits : Limits) (text : List ℕ) (kind : ErrorKind) → BeginsWithFault limits text (Input kind) → ⊥
begins_no_input limits text kind begins = content_fault limits (text ++ []) (Input kind) (ap (λ (r : Reading (List ℕ)).
    r.outcome) (begins []))

ends_no_input : (limits : Limits) (text : List ℕ) (kind : ErrorKind) → IsEndOf limits text (Some (Input kind)) → ⊥
ends_no_input limits text kind is = content_fault limits text (Input kind) (ap (λ (r : Reading (List ℕ)). r.outcome) is)

module _ (limits : Limits) (text : List ℕ) (a b : ByteTrace) (fails : ReaderFails None a b) where
  pub answered_fails : (left : List ℕ) (read : Result (Option Frame) ReadFault) (result : Option Answer)
      → result ≡ answered_as read
      → ReadsContent limits text read left → ReaderFails (failure_in result) a b
  answered_fails left (Ok None) result is reads = rw is fails
  answered_fails left (Ok (Some frame)) result is reads = rw is fails
  answered_fails left (Err fault) result is reads = rw is (fails_otherwise fault a b (λ kind same.
      begins_no_input limits text kind (subst (BeginsWithFault limits text) same reads.1)) fails)

  pub end_fails : (answer : Answer) → IsAtEndOf limits text answer → ReaderFails (result_err answer) a b
  end_fails (Ok None) is = fails
  end_fails (Ok (Some content)) is = absurd is
  end_fails (Err fault) is = fails_otherwise fault a b (λ kind same. ends_no_input limits text kind
      (subst (λ f. IsEndOf limits text (Some f)) same is)) fails
