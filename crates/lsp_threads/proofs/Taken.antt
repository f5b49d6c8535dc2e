-- What was taken from a reader and given to a writer, of whatever reader and writer, and what follows where their bytes
-- are known.
use Rattle.std.proofs.Common.{◌≡◌, ℕ, ◌<◌, Bool, true, List, [], ◌∷◌, ◌++◌, length, Option, Some, None, IfSome, Result}
use Rattle.std.proofs.Common.{Ok, Err, IfErr, refl, sym, ap, subst, ◌∙◌, append-nil, append_assoc, inl, inr, arith}
use Rattle.std.proofs.Common.{false, ◌==◌}
use Rattle.std.proofs.KnownBytes.{Appends-nil, Appends-trans}
use Rattle.std.proofs.lemmas.List.Folds.{concat-append}
use Rattle.std.specs.Io.KnownBytes.{Appends, Keeps}
use Rattle.std.specs.List.{concat}
use Rattle.std.specs.Result.{result_err}
use Rattle.lsp_message.proofs.Told.{end_of_last, joined, may_follow, of_known as known_of_parts, Takes-none}
use Rattle.lsp_message.proofs.Told.{Takes-trans}
use Rattle.lsp_message.specs.Message.{Message}
use Rattle.lsp_message.specs.Reading.{Reading, Answers}
use Rattle.lsp_message.specs.Told.{Parts, shows_end, Takes, Told, IsOfParts, MayFollow, Given, WritesText}
use Rattle.lsp_message.specs.Written.{GetsFrames, GetsFramesAndPart, IsOutput}
use Rattle.lsp_message.specs.declared.frame.ReadFault.{ReadFault}
use Rattle.lsp_message.specs.declared.frame.ReadFault.TheVariants.{Input, Memory as NoMemoryToRead}
use Rattle.lsp_message.specs.declared.frame.WriteFault.{WriteFault}
use Rattle.lsp_message.specs.declared.frame.WriteFault.TheVariants.{Output, Memory as NoMemory}
use Rattle.lsp_message.specs.declared.frame.byte_trace.ByteTrace.{ByteTrace}
use Rattle.lsp_message.specs.declared.frame.limits.Limits.{Limits}
use Rattle.lsp_session.specs.ReadLoop.{Extent, ReadsOver}
use Rattle.lsp_session.specs.Session.{Exchange, sends_of, SessionPart, Stop}
use Rattle.lsp_session.specs.declared.loops.handler.SessionEnd.{SessionEnd}
use Rattle.lsp_session.specs.declared.loops.stream_session.SessionFault.{SessionFault}
use Rattle.lsp_session.specs.declared.loops.stream_session.SessionFault.TheVariants.{Write as WriteFailed}
use Rattle.lsp_session.specs.declared.loops.stream_session.SessionFault.TheVariants.{Memory as Full}
use Rattle.lsp_threads.specs.Framing.{WritesBytes}
use Rattle.lsp_threads.specs.Passing.{OfTaken, TakenFrom, GivenTo, GivesMore, IsFlushedUnless, noted}
use Rattle.lsp_threads.specs.Pump.{Pumps}
use Rattle.lsp_threads.specs.Threads.{ThreadsTellOver, WroteInThreads}
use Rattle.lsp_threads.specs.declared.pumping.PumpFault.{PumpFault}
use Rattle.lsp_threads.specs.declared.pumping.PumpFault.TheVariants.{Read, Write, Start}

-- ---- what was taken
pub nothing_taken : (known : Option (List ℕ)) → Takes [] [] [] known known
nothing_taken known = Takes-none [] known known (keeps known)
  where
    keeps : (a : Option (List ℕ)) → Keeps a a
    keeps None = tt
    keeps (Some x) = refl

-- more was taken
module _ (t u : Parts) (a b c : Option (List ℕ)) where
  pub takes_more : {P : Parts → Type 0} → Takes t [] t a b → Told P t u b c → Takes u [] u a c
  takes_more so_far told = subst (λ parts. Takes parts [] u a c) (sym told.1.added) (Takes-trans t told.0 [] t u a b c
      so_far told.1)

  pub taken_more : {P : Parts → Type 0} → Takes t [] t a b → Told P t u b c → TakenFrom a u
  taken_more so_far told = (c, takes_more so_far told)

-- a look at the reader takes nothing
pub takes_kept : (t : Parts) (a b c : Option (List ℕ)) → Takes t [] t a b → Keeps b c → Takes t [] t a c
takes_kept t a b c so_far kept = subst (λ parts. Takes parts [] t a c) (append-nil t) (Takes-trans t [] [] t t a b c
    so_far (Takes-none t b c kept))

-- what a read tells of a text that begins with all that was taken
module _ {X A : Type 0} (view : X → A) (reading : List ℕ → Reading A) (t u : Parts) (a b : Option (List ℕ)) where
  -- that text is what was taken before, and then this, of which the rest is left
  abbrev pub At : Result (Option X) ReadFault → List ℕ → Type 0
  At r rest = (at : List ℕ) × (concat u ++ rest ≡ concat t ++ at) × Answers view r (Some rest) (reading at)

  at_parts : (r : Result (Option X) ReadFault) (told : Told (IsOfParts view reading r) t u a b) (rest : List ℕ)
      → MayFollow r told.0 rest → At r rest
  at_parts r told rest follows = (
    concat told.0 ++ rest,
    ap (λ l. concat l ++ rest) told.1.added ∙ joined t told.0 rest,
    told.2 rest follows,
  )

  pub told_next : (x : X) → Told (IsOfParts view reading (Ok (Some x))) t u a b → (rest : List ℕ)
      → At (Ok (Some x)) rest
  told_next x told rest = at_parts (Ok (Some x)) told rest tt

  pub told_last : (r : Result (Option X) ReadFault) → Told (IsOfParts view reading r) t u a b → (rest : List ℕ)
      → (shows_end u ≡ true → rest ≡ []) → At r rest
  told_last r told rest ends = at_parts r told rest (may_follow r told.0 rest (λ is. ends
      (ap shows_end told.1.added ∙ end_of_last t told.0 is)))

-- If the bytes are known, what holds of each text that begins with what was taken holds of them.
pub of_known : (known : Option (List ℕ)) (taken : Parts) (F : List ℕ → Type 0) → OfTaken taken F → TakenFrom known taken
    → IfSome known F
of_known known taken F of from = known_of_parts (λ text left. F text) taken [] taken known from.0 from.1 of

-- ---- what was given
pub gives_nothing : (t : Parts) (a : Option (List ℕ)) → GivesMore t t a a
gives_nothing t a = ([], record { added = sym (append-nil t); appended = Appends-nil a })

pub gives_then : (t u v : Parts) (a b c : Option (List ℕ)) → GivesMore t u a b → GivesMore u v b c → GivesMore t v a c
gives_then t u v a b c (ps, first) (qs, second) = (
  ps ++ qs,
  record {
    added = second.added ∙ ap (λ l. l ++ qs) first.added ∙ append_assoc t ps qs;
    appended = subst (Appends a c) (sym (concat-append ps qs)) (Appends-trans a b c _ _ first.appended second.appended);
  },
)

-- an account that began empty
pub given_whole : (t u : Parts) (a b : Option (List ℕ)) → t ≡ [] → GivesMore t u a b → GivenTo a u b
given_whole t u a b none (parts, gives) = record {
  added = refl;
  appended = subst (λ l. Appends a b (concat l))
      (sym (gives.added ∙ ap (λ l. l ++ parts) none)) gives.appended;
}

pub some_bytes : (text : List ℕ) → (length text == 0) ≡ false → 0 < length text
some_bytes [] none = absurd (cc (none))
some_bytes (x ∷ text) none = omega arith

-- a text that was written, as the account has it
module _ (text : List ℕ) (old new : ByteTrace) (a b : Option (List ℕ)) (some : 0 < length text) where
  grown : (parts : Parts) → new.parts ≡ old.parts ++ parts → concat new.parts ≡ concat old.parts ++ concat parts
  grown parts added = ap concat added ∙ concat-append old.parts parts

  pub text_noted : (r : Result (Unit {0}) WriteFault) → IfErr r IsOutput → Given (WritesText text r) old.parts
      new.parts a b
      → WritesBytes text (result_err r) (noted old) (noted new)
  text_noted (Ok done) output given = grown given.0 given.1.added ∙ ap (λ l. concat old.parts ++ l) (sym given.2.0)
  text_noted (Err (Output kind)) output given = (
    tt,
    some,
    (
      concat given.0,
      given.2.0,
      given.2.1,
      grown given.0 given.1.added,
    ),
  )
  text_noted (Err NoMemory) output given = absurd output

-- a text that was written was flushed
pub text_flushed : (text : List ℕ) (t u : Parts) (a b : Option (List ℕ)) (r : Result (Unit {0}) WriteFault)
    → IfErr r IsOutput → Given (WritesText text r) t u a b → IsFlushedUnless (result_err r) u
text_flushed text t u a b (Ok done) output given =
    inr (ap shows_end given.1.added ∙ end_of_last t given.0 given.2.1)
text_flushed text t u a b (Err (Output kind)) output given = tt
text_flushed text t u a b (Err NoMemory) output given = absurd output

-- What was given to a writer that began empty, given to another one.
module _ (all : List ℕ) (old new : Option (List ℕ)) (given : Appends old new all) where
  gets_known : (ms : List Message) → GetsFrames ms (Some []) (Some all) → GetsFrames ms old new
  gets_known ms (text, are, got) = (text, are, subst (Appends old new) got given)

  part_known : (ms : List Message) (next : Message) → GetsFramesAndPart ms next (Some []) (Some all) → GetsFramesAndPart
      ms next old new
  part_known ms next gets = record {
    frames = gets.frames;
    frames_of_whole = gets.frames_of_whole;
    frame = gets.frame;
    frame_of_next = gets.frame_of_next;
    part = gets.part;
    missing = gets.missing;
    split = gets.split;
    got = subst (Appends old new) gets.got given;
  }

  wrote_known : (result : Result SessionEnd SessionFault) (stop : Stop) (xs : List Exchange)
      → WroteInThreads (Some []) (Some all) result stop xs → WroteInThreads old new result stop xs
  wrote_known (Err (WriteFailed fault)) stop xs (output, begun) = (
    output,
    (
      begun.0,
      begun.1,
      begun.2,
      begun.3,
      part_known begun.0 begun.1 begun.4,
    ),
  )
  wrote_known (Err Full) stop xs first = (first.0, first.1, first.2, gets_known first.0 first.3)
  wrote_known result stop xs gets = gets_known (sends_of xs) gets

  pub session_known : (wakeable : Bool) {L : Type 0} (passes : L → ReadFault → L → Type 0) (limit : Limits)
      (P : SessionPart) (first last : L) (result : Result SessionEnd SessionFault) (text : List ℕ)
      → ThreadsTellOver wakeable passes limit P text first last (Some []) (Some all) result → ThreadsTellOver wakeable
      passes limit P text first last old new result
  session_known wakeable passes limit P first last result text tells = record {
    exchanges = tells.exchanges;
    at = tells.at;
    read = tells.read;
    stop = tells.stop;
    answer = tells.answer;
    part = tells.part;
    ends = tells.ends;
    wrote = wrote_known result tells.stop tells.exchanges tells.wrote;
  }

  module _ (limit : Limits) (text : List ℕ) where
    over_known : (extent : Extent) {G H : List Message → Type 0} → ((ms : List Message) → G ms → H ms)
        → ReadsOver limit extent text G (λ rest. Unit {0}) → ReadsOver limit extent text H (λ rest. Unit {0})
    over_known extent to reads = record {
      messages = reads.messages;
      rest = reads.rest;
      read = reads.read;
      got = to
          reads.messages reads.got;
      left = tt;
    }

    kept_known : Keeps (Some []) (Some all) → Keeps old new
    kept_known none = keeps old new (subst (Appends old new) none given)
      where
        keeps : (old new : Option (List ℕ)) → Appends old new [] → Keeps old new
        keeps None new given = tt
        keeps (Some x) None given = absurd given
        keeps (Some x) (Some y) given = given ∙ append-nil x

    pub pump_known : (result : Result (Unit {0}) PumpFault) → Pumps limit text (Some []) (Some all) result
        → Pumps limit text old new result
    pump_known (Ok done) (inl passes) = inl (over_known _ gets_known passes)
    pump_known (Ok done) (inr passes) = inr (over_known _ gets_known passes)
    pump_known (Err (Read (Input kind))) passes = over_known _ gets_known passes
    pump_known (Err (Read NoMemoryToRead)) passes = over_known _ gets_known passes
    pump_known (Err (Read fault)) passes = over_known _ gets_known passes
    pump_known (Err (Write (Output kind))) (next, breaks) = (
      next,
      over_known _ (λ ms gets. part_known ms next
          gets) breaks,
    )
    pump_known (Err (Write NoMemory)) passes = over_known _ gets_known passes
    pump_known (Err (Start fault)) kept = kept_known kept

-- What a pump says of all bytes, at those that are known.
pub pumped_known : (limit : Limits) (known : Option (List ℕ)) (taken : Parts) (given : ByteTrace) (old new : Option
    (List ℕ)) (answer : Result (Unit {0}) PumpFault)
    → OfTaken taken (λ text. Pumps limit text (Some []) (noted given) answer) → TakenFrom known taken
    → GivenTo old given.parts new → IfSome known (λ text. Pumps limit text old new answer)
pumped_known limit known taken given old new answer told from to =
    of_known known taken (λ text. Pumps limit text old new answer) (λ rest ends. pump_known (concat given.parts) old new
    to.appended limit (concat taken ++ rest) answer (told rest ends)) from

-- What a session says of all bytes, at those that are known.
pub told_known : (wakeable : Bool) {L : Type 0} (passes : L → ReadFault → L → Type 0) (limit : Limits) (P : SessionPart)
    (first last : L) (answer : Result SessionEnd SessionFault)
    (known : Option (List ℕ)) (taken : Parts) (given : ByteTrace) (old new : Option (List ℕ))
    → OfTaken taken (λ text. ThreadsTellOver wakeable passes limit P text first last (Some []) (noted given) answer)
    → TakenFrom known taken → GivenTo old given.parts new
    → IfSome known (λ text. ThreadsTellOver wakeable passes limit P text first last old new answer)
told_known wakeable passes limit P first last answer known taken given old new told from to =
    of_known known taken (λ text. ThreadsTellOver wakeable passes limit P text first last old new answer)
    (λ rest ends. session_known (concat given.parts) old new to.appended wakeable passes limit P first last answer
    (concat taken ++ rest) (told rest ends)) from
