-- What a thread that reads hands on, and how the text goes on from message to message.
use Rattle.std.proofs.Common.{◌≡◌, ℕ, Bool, true, false, List, [], ◌∷◌, ◌++◌, ap, sym, refl, length, length-append}
use Rattle.std.proofs.Common.{append-nil, arith, Option, None, Ok, Err, subst}
use Rattle.std.specs.Bool.{MatchBool}
use Rattle.std.specs.List.{FoldsTo}
use Rattle.lsp_message.specs.Frame.{reading_within}
use Rattle.lsp_message.specs.Messages.{Begins, PassesAll, is_exit, exited, ended, failed}
use Rattle.lsp_message.specs.Message.{Message}
use Rattle.lsp_message.specs.declared.frame.ReadFault.TheVariants.{Input, Memory as NoMemory}
use Rattle.lsp_message.specs.declared.msg.Message as msg
use Rattle.lsp_message.specs.declared.frame.limits.Limits.{Limits}
use Rattle.lsp_session.specs.Boxes.{Sends, Takes}
use Rattle.lsp_session.specs.ReadLoop.{Extent, to_end, in_part, HasRead, Hands}
use Rattle.lsp_session.specs.declared.lifecycle.SendFault.TheVariants.{Closed as IsClosed, Memory as IsFull}
use Rattle.lsp_session.specs.declared.loops.ReadEnd.{ReadEnd}
use Rattle.lsp_session.specs.declared.loops.ReadEnd.TheVariants.{Exit, End, Fault, Closed, Memory}

-- how far reading came that ended so, unless the outbox was closed
abbrev pub extent_of : ReadEnd → Extent
extent_of Exit = to_end exited
extent_of End = to_end ended
extent_of (Fault (Input kind)) = in_part
extent_of (Fault NoMemory) = in_part
extent_of (Fault fault) = to_end (failed fault)
extent_of end = in_part

abbrev pub IsNotClosed : ReadEnd → Type 0
IsNotClosed Closed = ⊥
IsNotClosed end = Unit {0}

module _ (limit : Limits) where
  -- reading may end so at this text; if an outbox was full, nothing is said
  abbrev pub EndsAt : List ℕ → ReadEnd → Type 0
  EndsAt text Exit = ⊥
  EndsAt text End = (rest : List ℕ) × (reading_within limit text ≡ record { outcome = Ok None; rest = rest })
  EndsAt text (Fault (Input kind)) = Unit {0}
  EndsAt text (Fault NoMemory) = Unit {0}
  EndsAt text (Fault fault) = (rest : List ℕ) × (reading_within limit text
      ≡ record { outcome = Err fault; rest = rest })
  EndsAt text Closed = ⊥
  EndsAt text Memory = Unit {0}

  -- the text begins with these messages, up to the first `exit`, and reading ended so after them
  abbrev pub ReadsTo : List ℕ → ReadEnd → List Message → Type 0
  ReadsTo text end [] = EndsAt text end
  ReadsTo text end (m ∷ ms) = (rest : List ℕ) × Begins limit text m rest × MatchBool (is_exit m) ((ms ≡ [])
      × (end ≡ Exit)) (ReadsTo rest end ms)

  passed_then : (ms more : List Message) (text at : List ℕ) (end : ReadEnd) → PassesAll limit text ms at
      → ReadsTo at end more → ReadsTo text end (ms ++ more)
  passed_then [] more text at end run reads = subst (λ t. ReadsTo t end more) (sym run) reads
  passed_then (m ∷ ms) more text at end run reads = (
    run.0,
    run.1.0,
    rw run.1.1 (passed_then ms more run.0 at end
        run.2 reads),
  )

  passed_to : (ms : List Message) (text at : List ℕ) (end : ReadEnd) → PassesAll limit text ms at → EndsAt at end
      → ReadsTo text end ms
  passed_to ms text at end passed ends = subst (ReadsTo text end) (append-nil ms) (passed_then ms [] text at end
      passed ends)

  -- one of the messages, and those before it
  pub reads_split : (whole : List Message) (last : Message) (more : List Message) (text : List ℕ) (end : ReadEnd)
      → ReadsTo text end (whole ++ last ∷ more)
      → (mid : List ℕ) × (rest : List ℕ) × PassesAll limit text whole mid × Begins limit mid last rest
  reads_split [] last more text end reads = (text, reads.0, refl, reads.1)
  reads_split (m ∷ ms) last more text end reads = at (is_exit m) refl reads.2 (reads_split ms last more reads.0 end)
    where
      at : (b : Bool) → is_exit m ≡ b → MatchBool b ((ms ++ last ∷ more ≡ []) × (end ≡ Exit)) (ReadsTo reads.0 end (ms
          ++ last ∷ more))
          → (ReadsTo reads.0 end (ms ++ last ∷ more) → (mid : List ℕ) × (rest : List ℕ) × PassesAll limit reads.0 ms mid
          × Begins limit mid last rest)
          → (mid : List ℕ) × (rest : List ℕ) × PassesAll limit text (m ∷ ms) mid × Begins limit mid last rest
      at true exits none again = absurd (omega (arith, length-append ms (last ∷ more), ap length none.0))
      at false goes later again = let split = again later in (
        split.0,
        split.1,
        (reads.0, (reads.1, goes), split.2),
        split.3,
      )

  module _ {O : Type 0} (sends : Sends O) where
    -- the outbox after the last message that it took: it refused one more, if an allocation failed
    abbrev pub After : O → ReadEnd → O → Type 0
    After mid Memory new = (m : Message) × (back : msg.Message) × sends mid m (Err (IsFull back)) new
    After mid end new = new ≡ mid

    -- what was handed on
    pub record HandedOn (text : List ℕ) (old : O) (end : ReadEnd) (new : O) : Type 0 where
      pub messages : List Message
      pub mid : O
      pub taken : FoldsTo (Takes sends) old messages mid
      pub after : After mid end new
      pub rest : List ℕ
      pub read : HasRead limit (extent_of end) text messages rest
      pub never_closed : IsNotClosed end
      pub reads : ReadsTo text end messages

    module _ (never : (old : O) (m : Message) (back : msg.Message) (new : O) → sends old m (Err (IsClosed back)) new
        → ⊥) (text : List ℕ) (old new : O) (left : Option (List ℕ)) where
      pub handed_on : (end : ReadEnd) → Hands limit sends text old new left end → HandedOn text old end new
      handed_on Exit h =
          let l = h.read in
          let reads : ReadsTo text Exit h.messages = rw l.3 (passed_then l.0 (l.1 ∷ []) text l.2 Exit l.4 (
            h.rest,
            l.5,
            rw l.6 (refl, refl),
          )) in
          record {
            messages = h.messages;
            mid = new;
            taken = h.got;
            after = refl;
            rest = h.rest;
            read = l;
            never_closed = tt;
            reads = reads;
          }
      handed_on End h =
          let reads = passed_to h.messages text h.read.0 End h.read.1 (h.rest, h.read.2) in
          record {
            messages = h.messages;
            mid = new;
            taken = h.got;
            after = refl;
            rest = h.rest;
            read = h.read;
            never_closed = tt;
            reads = reads;
          }
      handed_on (Fault (Input kind)) h =
          let reads = passed_to h.messages text h.rest (Fault (Input kind)) h.read tt in
          record {
            messages = h.messages;
            mid = new;
            taken = h.got;
            after = refl;
            rest = h.rest;
            read = h.read;
            never_closed = tt;
            reads = reads;
          }
      handed_on (Fault NoMemory) h =
          let reads = passed_to h.messages text h.rest (Fault NoMemory) h.read tt in
          record {
            messages = h.messages;
            mid = new;
            taken = h.got;
            after = refl;
            rest = h.rest;
            read = h.read;
            never_closed = tt;
            reads = reads;
          }
      handed_on (Fault fault) h =
          let reads = passed_to h.messages text h.read.0 (Fault fault) h.read.1 (h.rest, h.read.2) in
          record {
            messages = h.messages;
            mid = new;
            taken = h.got;
            after = refl;
            rest = h.rest;
            read = h.read;
            never_closed = tt;
            reads = reads;
          }
      handed_on Closed h = absurd (never h.1.got.0 h.0 h.1.got.2 new h.1.got.3)
      handed_on Memory h =
          let at = h.1.read.0 in
          let reads = passed_to h.1.messages text at Memory h.1.read.1 tt in
          record {
            messages = h.1.messages;
            mid = h.1.got.0;
            taken = h.1.got.1;
            after = (h.0, h.1.got.2, h.1.got.3);
            rest = at;
            read = h.1.read.1;
            never_closed = tt;
            reads = reads;
          }
