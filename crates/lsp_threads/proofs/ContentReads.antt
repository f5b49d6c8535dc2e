-- What a thread that reads handed on: the content parts of the text, one after another.
use Rattle.std.proofs.Common.{◌≡◌, ℕ, true, false, List, [], ◌∷◌, ◌++◌, ap, sym, refl, subst, ◌∙◌, append-nil}
use Rattle.std.proofs.Common.{append_assoc, Option, Some, None, IfSome, IsSomeAnd, Result, Ok, Err, map, Vec, Global}
use Rattle.std.proofs.lemmas.Fn.{FoldsTo-push}
use Rattle.std.proofs.lemmas.List.{map-append}
use Rattle.std.specs.Io.KnownBytes.{Keeps}
use Rattle.std.specs.List.{concat, FoldsTo}
use Rattle.lsp_message.proofs.ContentParts.{end_outcome, fault_outcome}
use Rattle.lsp_message.proofs.FrameFaults.{content_fault, IsOfFrame}
use Rattle.lsp_message.specs.Frame.{body_means, content_within, reading_within}
use Rattle.lsp_message.specs.Reading.{Answers}
use Rattle.lsp_message.specs.declared.frame.ReadFault.{ReadFault}
use Rattle.lsp_message.specs.declared.frame.ReadFault.TheVariants.{Batch, BodyNotText, Input, Memory as NoMemory}
use Rattle.lsp_message.specs.declared.frame.ReadFault.TheVariants.{NoJson, NoMessage}
use Rattle.lsp_message.specs.Message.{Message}
use Rattle.lsp_relay.specs.Relay.{ended, Follows, has_end, IsOpen, Sending, Source}
use Rattle.lsp_relay.proofs.Parcels.{open_push}
use Rattle.std.specs.Prelude.{OnOk, IfErr, is_ok}
use Rattle.std.specs.declared.io.ErrorKind.TheVariants.{Other}
use Rattle.lsp_relay.specs.declared.ends.Parcel.{Parcel}
use Rattle.lsp_relay.specs.declared.ends.Parcel.TheVariants as parcel
use Rattle.lsp_session.specs.Passing.{is_bad_content}
use Rattle.lsp_session.specs.declared.loops.ReadEnd.{ReadEnd}
use Rattle.lsp_session.specs.declared.loops.ReadEnd.TheVariants.{End, Fault}
use Rattle.lsp_message.specs.Told.{Parts, Told, IsOfParts}
use Rattle.lsp_message.specs.declared.frame.limits.Limits.{Limits}
use Rattle.lsp_threads.proofs.Taken.{nothing_taken, told_last, told_next}
use Rattle.lsp_threads.specs.Contents.{AreContents, BeginsAny, BeginsSource, BeginsWithContent, bytes_of, Contents}
use Rattle.lsp_threads.specs.Contents.{contents_of, Gathering, MaySend, parts_after, ReadsContents, StopsAt}
use Rattle.lsp_threads.specs.Contents.{TellsContents, source_of}
use Rattle.lsp_threads.specs.Passing.{OfTaken, TakenFrom}

-- a fault of a frame is none of a content part that was read to its end
of_no_body : (fault : ReadFault) → IsOfFrame fault → is_bad_content fault ≡ false
of_no_body BodyNotText known = absurd known
of_no_body NoJson known = absurd known
of_no_body NoMessage known = absurd known
of_no_body Batch known = absurd known
of_no_body fault known = refl

-- ---- content parts in parcels
pub contents_of-append : (a b : List (Parcel Contents)) → contents_of (a ++ b) ≡ contents_of a ++ contents_of b
contents_of-append [] b = refl
contents_of-append (parcel.Message contents ∷ rest) b =
    ap (λ l. bytes_of contents.parts.items ++ l) (contents_of-append rest b)
    ∙ sym (append_assoc (bytes_of contents.parts.items) (contents_of rest) (contents_of b))
contents_of-append (parcel.End ∷ rest) b = contents_of-append rest b

-- one parcel more
pub contents_of-push : (sent : List (Parcel Contents)) (contents : Contents) → contents_of (sent
    ++ parcel.Message contents ∷ []) ≡ contents_of sent ++ bytes_of contents.parts.items
contents_of-push sent contents =
    contents_of-append sent (parcel.Message contents ∷ []) ∙ ap (λ l. contents_of sent ++ l)
    (append-nil (bytes_of contents.parts.items))

pub contents_of-end : (sent : List (Parcel Contents)) → contents_of (sent ++ parcel.End ∷ []) ≡ contents_of sent
contents_of-end sent = contents_of-append sent (parcel.End ∷ []) ∙ append-nil (contents_of sent)

-- if no End was sent, messages were
open_parcels : {M : Type 0} (sent : List (Parcel M)) → IsOpen sent → (parcels : List M)
    × (sent ≡ map parcel.Message parcels)
open_parcels [] still_open = ([], refl)
open_parcels (parcel.Message x ∷ rest) still_open = let more = open_parcels rest still_open in (
  x ∷ more.0,
  ap (λ l. parcel.Message x ∷ l) more.1,
)
open_parcels (parcel.End ∷ rest) still_open = absurd still_open

pub ended_parcels : {M : Type 0} (sent : List (Parcel M)) → IsOpen sent → (parcels : List M) × (sent ++ parcel.End ∷ []
    ≡ ended parcels)
ended_parcels sent still_open = let all = open_parcels sent still_open in (all.0, ap (λ l. l ++ parcel.End ∷ []) all.1)

pub no_end : (sent : List (Parcel Contents)) → IsOpen sent → has_end sent ≡ true → ⊥
no_end [] still is = absurd (cc (is))
no_end (parcel.Message x ∷ rest) still is = no_end rest still is
no_end (parcel.End ∷ rest) still is = absurd still

-- ---- what was read
module _ (limit : Limits) where
  -- what was read follows what was read before
  reads_then : (contents more : List (List ℕ)) (text at : List ℕ) (end : ReadEnd) → FoldsTo (BeginsWithContent limit)
      text contents at → ReadsContents limit at end more
      → ReadsContents limit text end (contents ++ more)
  reads_then [] more text at end run reads = subst (λ t. ReadsContents limit t end more) (sym run) reads
  reads_then (content ∷ contents) more text at end run reads = (
    run.0,
    run.1,
    reads_then contents more run.0 at end
        run.2 reads,
  )

  reads_stop : (contents : List (List ℕ)) (text at : List ℕ) (end : ReadEnd) → FoldsTo (BeginsWithContent limit) text
      contents at → StopsAt limit at end
      → ReadsContents limit text end contents
  reads_stop contents text at end run stops = subst (ReadsContents limit text end) (append-nil contents)
      (reads_then contents [] text at end run stops)

  -- the reading of a text, by its outcome
  reading_is : (at : List ℕ) (outcome : Result (Option Message) ReadFault) → (reading_within limit at).outcome ≡ outcome
      → reading_within limit at ≡ record { outcome = outcome; rest = (reading_within limit at).rest }
  reading_is at outcome is = ap (λ o. record { outcome = o; rest = (reading_within limit at).rest }) is

  pub content_is : (at content : List ℕ) → (content_within limit at).outcome ≡ Ok (Some content) → BeginsWithContent
      limit at content (content_within limit at).rest
  content_is at content is = ap (λ o. record { outcome = o; rest = (content_within limit at).rest }) is

  stops_end : (at : List ℕ) → (content_within limit at).outcome ≡ Ok None → StopsAt limit at End
  stops_end at is = ((reading_within limit at).rest, reading_is at (Ok None) (end_outcome body_means limit at is))

  stops_fault : (fault : ReadFault) (at : List ℕ) (left : Option (List ℕ))
      → Answers (λ (content : Vec ℕ Global). content.items) (Err fault) left (content_within limit at)
      → StopsAt limit at (Fault fault)
  stops_fault (Input kind) at left answers = tt
  stops_fault NoMemory at left answers = tt
  stops_fault fault at left answers = (
    of_no_body fault (content_fault limit at fault answers.0),
    (reading_within limit at).rest,
    reading_is at (Err fault) (fault_outcome
        body_means limit at fault answers.0),
  )

  -- the first bytes begin with these content parts, and the second follow them
  abbrev pub Passed : Option (List ℕ) → Option (List ℕ) → List (List ℕ) → Type 0
  Passed a b contents = IfSome a (λ text. IsSomeAnd b (λ at. FoldsTo (BeginsWithContent limit) text contents at))

  -- what follows if both are known
  known : {R A : List ℕ → Type 0} (a b : Option (List ℕ)) (contents : List (List ℕ)) → Passed a b contents → IfSome b A
      → ((text at : List ℕ) → FoldsTo (BeginsWithContent limit) text contents at → A at → R text) → IfSome a R
  known None b contents passed read then = tt
  known (Some text) None contents passed read then = absurd passed
  known (Some text) (Some at) contents passed read then = then text at passed read

  pub passed_none : (a : Option (List ℕ)) → Passed a a []
  passed_none None = tt
  passed_none (Some text) = refl

  -- a look at the reader takes nothing
  pub passed_kept : (a b c : Option (List ℕ)) (contents : List (List ℕ)) → Passed a b contents → Keeps b c
      → Passed a c contents
  passed_kept None b c contents passed kept = tt
  passed_kept (Some text) None c contents passed kept = absurd passed
  passed_kept (Some text) (Some at) None contents passed kept = absurd kept
  passed_kept (Some text) (Some at) (Some left) contents passed kept = rw kept passed

  module _ (a b : Option (List ℕ)) (contents : List (List ℕ)) (passed : Passed a b contents) where
    pub reads_to : (end : ReadEnd) → ((at : List ℕ) → StopsAt limit at end) → IfSome a (λ text. ReadsContents limit text
        end contents)
    reads_to end stops = go a b passed
      where
        go : (a b : Option (List ℕ)) → Passed a b contents → IfSome a (λ text. ReadsContents limit text end contents)
        go None b passed = tt
        go (Some text) None passed = absurd passed
        go (Some text) (Some at) passed = reads_stop contents text at end passed (stops at)

    module _ (c : Option (List ℕ)) where
      pub reads_end : IfSome b (λ at. Answers (λ (content : Vec ℕ Global). content.items) (Ok None) c (content_within
          limit at)) → IfSome a (λ text. ReadsContents limit text End contents)
      reads_end read = known a b contents passed read (λ text at run answers. reads_stop contents text at End run
          (stops_end at answers.0))

      pub reads_fault : (fault : ReadFault) → IfSome b (λ at. Answers (λ (content : Vec ℕ Global). content.items)
          (Err fault) c (content_within limit at))
          → IfSome a (λ text. ReadsContents limit text (Fault fault) contents)
      reads_fault fault read = known a b contents passed read (λ text at run answers. reads_stop contents text at
          (Fault fault) run (stops_fault fault at c answers))

      module _ (x : Vec ℕ Global) (read : IfSome b (λ at. Answers (λ (content : Vec ℕ Global). content.items)
          (Ok (Some x)) c (content_within limit at))) where
        pub passed_more : Passed a c (contents ++ x.items ∷ [])
        passed_more = known a b contents passed read (λ text at run answers.
            rw answers.1 (FoldsTo-push (BeginsWithContent limit) text contents at x.items (content_within limit at).rest
            run (content_is at x.items answers.0)))

  -- what was read so far may be sent
  pub begins_any : (source : Option Source) (a : Option (List ℕ)) (contents : List (List ℕ)) (taken : Parts) → source
      ≡ Some (source_of a limit) → AreContents limit taken contents → TakenFrom a taken
      → BeginsAny source contents taken
  begins_any source a contents taken is are from known e =
      let same : source_of a limit ≡ known = cc in subst (λ (k : Source). BeginsSource k contents taken) same
      (are, from)

  -- if it may have been sent, reading may have stopped there
  pub reads_begin : (contents : List (List ℕ)) (taken : Parts) → AreContents limit taken contents → (rest : List ℕ)
      → ReadsContents limit (concat taken ++ rest) (Fault (Input Other)) contents
  reads_begin contents taken are rest = reads_stop contents (concat taken ++ rest) rest (Fault (Input Other))
      (are rest) tt

  -- ---- what was read, of the bytes that were taken
  module _ (contents : List (List ℕ)) (t u : Parts) (a b : Option (List ℕ)) (are : AreContents limit t contents) where
    abbrev items : Vec ℕ Global → List ℕ
    items content = content.items

    abbrev Reads : Result (Option (Vec ℕ Global)) ReadFault → Type 0
    Reads r = Told (IsOfParts items (content_within limit) r) t u a b

    abbrev Now : ReadEnd → List (List ℕ) → Type 0
    Now end more = OfTaken u (λ text. ReadsContents limit text end more)

    pub told_end : Reads (Ok None) → Now End contents
    told_end told rest ends =
        let at = told_last items (content_within limit) t u a b (Ok None) told rest ends in
        subst (λ text. ReadsContents limit text End contents) (sym at.1) (reads_end (Some (concat t ++ at.0))
        (Some at.0) contents (are at.0) (Some rest) at.2)

    pub told_fault : (fault : ReadFault) → Reads (Err fault) → Now (Fault fault) contents
    told_fault fault told rest ends =
        let at = told_last items (content_within limit) t u a b (Err fault) told rest ends in
        subst (λ text. ReadsContents limit text (Fault fault) contents) (sym at.1) (reads_fault (Some (concat t
        ++ at.0)) (Some at.0) contents (are at.0) (Some rest) fault at.2)

    module _ (x : Vec ℕ Global) (told : Reads (Ok (Some x))) where
      pub told_more : AreContents limit u (contents ++ x.items ∷ [])
      told_more rest =
          let at = told_next items (content_within limit) t u a b x told rest in
          subst (λ text. FoldsTo (BeginsWithContent limit) text (contents ++ x.items ∷ []) rest) (sym at.1)
          (passed_more (Some (concat t ++ at.0)) (Some at.0) contents (are at.0) (Some rest) x at.2)

      -- and reading may stop there in any case
      pub told_stop : (end : ReadEnd) → ((at : List ℕ) → StopsAt limit at end) → Now end contents
      told_stop end stops rest ends =
          let at = told_next items (content_within limit) t u a b x told rest in
          subst (λ text. ReadsContents limit text end contents) (sym at.1) (reads_to (Some (concat t ++ at.0))
          (Some at.0) contents (are at.0) end stops)

  pub reads_stopped : (contents : List (List ℕ)) (taken : Parts) → AreContents limit taken contents → (end : ReadEnd)
      → ((at : List ℕ) → StopsAt limit at end)
      → OfTaken taken (λ text. ReadsContents limit text end contents)
  reads_stopped contents taken are end stops rest ends = reads_stop contents (concat taken ++ rest) rest end (are rest)
      (stops rest)

  -- what a thread that reads tells, of an outbox that it finished
  pub tells_contents : (known : Option (List ℕ)) (tx : Sending Contents) (end : ReadEnd) (taken : Parts) (back : Sending
      Contents) (outbox : Gathering) → back.wakeable ≡ tx.wakeable → TakenFrom known taken
      → (has_end back.sent ≡ true → (outbox.closed ≡ false) × (contents_of back.sent ≡ outbox.contents)
      × ((parcels : List Contents) × (back.sent ≡ ended parcels)))
      → (outbox.closed ≡ false → OfTaken taken (λ text. ReadsContents limit text end outbox.contents))
      → TellsContents limit known tx end taken back
  tells_contents known tx end taken back outbox woken from finished read = (
    woken,
    from,
    λ is. let all = finished is in (
      all.2,
      subst (λ contents. OfTaken taken (λ text. ReadsContents limit
          text end contents)) (sym all.1) (read all.0),
    ),
  )

-- content parts that may be sent in any plan
pub begins_same : (source : Option Source) (a b : List (List ℕ)) (taken : Parts) → a ≡ b → BeginsAny source a taken
    → BeginsAny source b taken
begins_same source a b taken same begins = subst (λ contents. BeginsAny source contents taken) same begins

pub begins_none : (source : Option Source) (contents : List (List ℕ)) (taken : Parts) → contents ≡ [] → taken ≡ []
    → BeginsAny source contents taken
begins_none source contents taken none untaken known is =
    subst (λ parts. BeginsSource known contents parts) (sym untaken) (subst (λ l. BeginsSource known l []) (sym none)
    (λ rest. refl, (known.0, nothing_taken known.0)))

-- what was taken up to the end of the last parcel
pub parts_after-push : (before : Parts) (sent : List (Parcel Contents)) (contents : Contents) → parts_after before (sent
    ++ parcel.Message contents ∷ []) ≡ contents.taken.parts
parts_after-push before [] contents = refl
parts_after-push before (parcel.Message x ∷ sent) contents = parts_after-push x.taken.parts sent contents
parts_after-push before (parcel.End ∷ sent) contents = parts_after-push before sent contents

pub parts_after-end : (before : Parts) (sent : List (Parcel Contents)) → parts_after before (sent ++ parcel.End ∷ [])
    ≡ parts_after before sent
parts_after-end before [] = refl
parts_after-end before (parcel.Message x ∷ sent) = parts_after-end x.taken.parts sent
parts_after-end before (parcel.End ∷ sent) = parts_after-end before sent

-- content parts may be sent in a parcel, and then End
pub may_send_more : (source : Option Source) (sent : List (Parcel Contents)) (contents : Contents) → BeginsAny source
    (contents_of sent ++ bytes_of contents.parts.items) contents.taken.parts
    → Follows MaySend source (sent ++ parcel.Message contents ∷ [])
may_send_more source sent contents begins known is still =
    subst (λ parts. BeginsSource known (contents_of (sent ++ parcel.Message contents ∷ [])) parts)
    (sym (parts_after-push [] sent contents))
    (subst (λ l. BeginsSource known l contents.taken.parts) (sym (contents_of-push sent contents)) (begins known is))

pub may_send_nothing : (source : Source) → MaySend source []
may_send_nothing source still = (λ rest. refl, (source.0, nothing_taken source.0))

pub may_send_end : (source : Option Source) (sent : List (Parcel Contents)) → Follows MaySend source (sent
    ++ parcel.End ∷ [])
may_send_end source sent known is still = absurd (not_open sent still)
  where
    not_open : (sent : List (Parcel Contents)) → IsOpen (sent ++ parcel.End ∷ []) → ⊥
    not_open [] still = still
    not_open (parcel.Message x ∷ sent) still = not_open sent still
    not_open (parcel.End ∷ sent) still = still

pub bytes_push : (sent : List (List ℕ)) (pending now : List (Vec ℕ Global)) (x : Vec ℕ Global) → now ≡ pending ++ x ∷ []
    → (sent ++ bytes_of pending) ++ x.items ∷ [] ≡ sent ++ bytes_of now
bytes_push sent pending now x e =
    append_assoc sent (bytes_of pending) (x.items ∷ []) ∙ ap (λ l. sent ++ l) (sym (ap bytes_of e
    ∙ map-append (λ (content : Vec ℕ Global). content.items) pending (x ∷ [])))

-- ---- an end of a relay after a send, which came off or not
module _ (r : Result (Unit {0}) (Parcel Contents)) (sent now : List (Parcel Contents)) where
  pub sent_contents : (contents : Contents) → OnOk r (now ≡ sent ++ parcel.Message contents ∷ []) → is_ok r ≡ true
      → contents_of now ≡ contents_of sent ++ bytes_of contents.parts.items
  sent_contents contents came is = go r came is
    where
      go : (r : Result (Unit {0}) (Parcel Contents)) → OnOk r (now ≡ sent ++ parcel.Message contents ∷ []) → is_ok r
          ≡ true → contents_of now ≡ contents_of sent ++ bytes_of contents.parts.items
      go (Ok done) came is = ap contents_of came ∙ contents_of-push sent contents
      go (Err back) came is = absurd (cc (is))

  pub sent_open : (contents : Contents) → OnOk r (now ≡ sent ++ parcel.Message contents ∷ [])
      → IfErr r (λ back. (back ≡ parcel.Message contents) × (now ≡ sent)) → IsOpen sent → IsOpen now
  sent_open contents came refused still = go r came refused
    where
      go : (r : Result (Unit {0}) (Parcel Contents)) → OnOk r (now ≡ sent ++ parcel.Message contents ∷ [])
          → IfErr r (λ back. (back ≡ parcel.Message contents) × (now ≡ sent)) → IsOpen now
      go (Ok done) came refused = subst IsOpen (sym came) (open_push sent contents still)
      go (Err back) came refused = subst IsOpen (sym refused.1) still

  pub sent_end : OnOk r (now ≡ sent ++ parcel.End ∷ []) → IfErr r (λ back. (back ≡ parcel.End) × (now ≡ sent))
      → IsOpen sent → has_end now ≡ true
      → (contents_of now ≡ contents_of sent) × ((parcels : List Contents) × (now ≡ ended parcels))
  sent_end came refused still is = go r came refused
    where
      go : (r : Result (Unit {0}) (Parcel Contents)) → OnOk r (now ≡ sent ++ parcel.End ∷ [])
          → IfErr r (λ back. (back ≡ parcel.End) × (now ≡ sent))
          → (contents_of now ≡ contents_of sent) × ((parcels : List Contents) × (now ≡ ended parcels))
      go (Ok done) came refused = let all = ended_parcels sent still in (
        ap contents_of came ∙ contents_of-end sent,
        (all.0, came ∙ all.1),
      )
      go (Err back) came refused = absurd (no_end sent still (ap has_end (sym refused.1) ∙ is))
