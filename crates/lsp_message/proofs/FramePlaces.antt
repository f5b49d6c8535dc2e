-- What the place of a frame says of its bytes.
use Rattle.std.proofs.Common.{◌≡◌, ◌≢◌, refl, sym, ap, subst, ◌∙◌, ℕ, ◌+◌, ◌-◌, ◌<◌, ◌≤◌, Bool, true, false, nat_lt}
use Rattle.std.proofs.Common.{cond}
use Rattle.std.proofs.Common.{eqb, get_or, List, [], ◌∷◌, ◌++◌, length, append_assoc, append-nil}
use Rattle.std.proofs.Common.{length-append, length-drop}
use Rattle.std.proofs.Common.{take, drop, take_all, drop_of_length-le, le_refl, Option, Some, None, Result, Ok, Err}
use Rattle.std.proofs.Common.{arith, inl, inr, ◌⊎◌, take-append-drop, true≢false, if◌then◌else◌}
use Rattle.std.proofs.Math.Seq.{get_or-append_seam, take-append_seam, drop-append_seam, drop-append-add}
use Rattle.std.proofs.lemmas.Bool.{lt-ltb, le-ltb}
use Rattle.std.proofs.lemmas.Bool.Decides.{Decides-eqb}
use Rattle.std.proofs.lemmas.List.{take-append-le}
use Rattle.std.proofs.lemmas.Slice.Eq.{ends_is}
use Rattle.std.specs.List.{ends_with}
use Rattle.std.specs.Result.{result_err, is_err, is_ok}
use Rattle.lsp_message.specs.Frame.{body_of, content_of, content_within, header_under}
use Rattle.lsp_message.specs.FrameInput.{AwaitsMore, BeginsWithFault, IsEndOf, IsFrameRead}
use Rattle.lsp_message.specs.FramePlace.{HasNoFeed, IsLine, AreFields, InHeader, IsHeader, InContent, IsFaultOf}
use Rattle.lsp_message.specs.Front.{front_of, at_header_end}
use Rattle.lsp_message.specs.HeaderPart.{header_line, header_of, is_field, length_in, or_else, at_last_line}
use Rattle.lsp_message.specs.Reading.{Reading, found}
use Rattle.lsp_message.specs.declared.frame.ReadFault.{ReadFault}
use Rattle.lsp_message.specs.declared.frame.ReadFault.TheVariants.{Memory, HeaderTooLong, TooLong, NoLength}
use Rattle.lsp_message.specs.declared.frame.ReadFault.TheVariants.{LineNotText, LineEnd, ShortBody}
use Rattle.lsp_message.specs.declared.frame.header.HeaderLine.{HeaderLine}
use Rattle.lsp_message.specs.declared.frame.header.HeaderLine.TheVariants.{Blank}
use Rattle.lsp_message.specs.declared.frame.limits.Limits.{Limits}
use Rattle.lsp_message.proofs.HeaderSteps.{header_after, header_after-rest}
use Rattle.lsp_message.proofs.HeaderLines.{IsOpen, open_header, open_line, open_front, unended, header_at, front_at}
use Rattle.lsp_message.proofs.HeaderLines.{fields_more, last_header, Leaves, leaves_then, open_leaves}
use Rattle.lsp_message.proofs.HeaderLines.{last_front, no_feed_joined}

-- a bound that the header part keeps
abbrev pub Fits : Limits → List ℕ → Type 0
Fits limits text = (most : ℕ) → limits.header ≡ Some most → length text ≤ most

-- bytes that were added
pub added : {E : Type 0} (r : Result Unit E) (failed : Bool) (old x new : List ℕ) → failed ≡ is_err r → failed ≡ false
    → new ≡ (if is_ok r then old ++ x else old) → new ≡ old ++ x
added (Ok done) failed old x new fails is items = items
added (Err fault) failed old x new fails is items = absurd (true≢false (sym fails ∙ is))

-- ---- the end of the line

-- bytes of a line, after bytes without a line feed
pub line_joined : (a b : List ℕ) → HasNoFeed a → HasNoFeed b ⊎ IsLine b → HasNoFeed (a ++ b) ⊎ IsLine (a ++ b)
line_joined a b plain (inl more) = inl (no_feed_joined a b plain more)
line_joined a b plain (inr line) = inr (record {
  stem = a ++ line.stem;
  plain = no_feed_joined a line.stem plain line.plain;
  whole = ap (λ l. a ++ l) line.whole ∙ sym (append_assoc a line.stem (10 ∷ []));
})

pub ends : (tail : List ℕ) → ends_with eqb tail (10 ∷ []) ≡ true → HasNoFeed tail → ⊥
ends tail is plain =
    let front = take (length tail - 1) tail in
    let same : tail ≡ front ++ 10 ∷ [] = (ends_is Decides-eqb tail (10 ∷ []) _ refl).0 is in
    let size : length tail ≡ length front + 1 = ap length same ∙ length-append front (10 ∷ []) in
    plain (length front) (omega (arith, size)) (ap (λ l. get_or l (length front) 0) same
    ∙ get_or-append_seam front 10 [] 0)

-- ---- faults

module _ (limits : Limits) (text : List ℕ) (fault : ReadFault) where
  -- whatever follows, a reader finds the fault and leaves what follows
  abbrev Exact : Type 0
  Exact = (more : List ℕ) → content_within limits (text ++ more) ≡ record { outcome = Err fault; rest = more }

  fault_of : fault ≢ Memory → Exact → IsFaultOf limits text fault
  fault_of bytes exact = record {
    of_bytes = bytes;
    answer = λ more. ap (λ (r : Reading (List ℕ)). result_err r.outcome) (exact more);
    left = λ more. ap (λ (r : Reading (List ℕ)). r.rest) (exact more);
  }

  exact_fault : IsFaultOf limits text fault → Exact
  exact_fault is more =
      let r = content_within limits (text ++ more) in
      ap (λ o. record { outcome = o; rest = r.rest }) (known r.outcome (is.answer more))
      ∙ ap (λ l. record { outcome = Err fault; rest = l }) (is.left more)
    where
      known : (a : Result (Option (List ℕ)) ReadFault) → result_err a ≡ Some fault → a ≡ Err fault
      known (Ok found) e = cc (e)
      known (Err other) e = cc (e)

pub begins_with : (limits : Limits) (text : List ℕ) (fault : ReadFault) → IsFaultOf limits text fault
    → BeginsWithFault limits text fault
begins_with limits text Memory is = absurd (is.of_bytes refl)
begins_with limits text fault is = exact_fault limits text _ is

-- the input ends behind a fault
pub end_at : (limits : Limits) (text : List ℕ) (fault : ReadFault) → IsFaultOf limits text fault
    → IsEndOf limits text (Some fault)
end_at limits text Memory is = absurd (is.of_bytes refl)
end_at limits text fault is = ap (content_within limits) (sym (append-nil text)) ∙ exact_fault limits text _ is []

-- an answer is no fault
none_fault : (a : Result (Option (List ℕ)) ReadFault) (fault : ReadFault) → a ≡ Ok None → a ≡ Err fault → ⊥
none_fault (Ok found) fault is other = cc (other)
none_fault (Err kind) fault is other = cc (is)

-- an answer has one fault
same_fault : (a : Result (Option (List ℕ)) ReadFault) (one other : ReadFault) → a ≡ Err one → a ≡ Err other
    → one ≡ other
same_fault (Ok found) one other is again = absurd (cc (is))
same_fault (Err kind) one other is again = cc (is, again)

-- ---- header parts

module _ (limits : Limits) where
  under : (bound : Option ℕ) (text : List ℕ) (r : Reading ℕ) → header_of text ≡ r
      → ((most : ℕ) → bound ≡ Some most → length text - length r.rest ≤ most) → header_under bound text ≡ r
  under None text r is fits = is
  under (Some most) text r is fits =
      let below = le-ltb most (length text - length (header_of text).rest) (subst (λ (h : Reading ℕ). length text
      - length h.rest ≤ most) (sym is) (fits most refl)) in
      rw below is

  -- a header part with one byte above the bound
  over : (bound : Option ℕ) (text more : List ℕ) (most : ℕ) → bound ≡ Some most
      → Leaves more (header_of (text ++ more)).rest → most < length text → length text ≤ most + 1
      → header_under bound (text ++ more) ≡ record { outcome = Err HeaderTooLong; rest = more }
  over None text more most is left above least = absurd (cc (is))
  over (Some n) text more most is left above least =
      let same : n ≡ most = some is in
      let all = length-append text more in
      let end = ap (λ (l : List ℕ). length l) left.1 ∙ length-append left.0 (header_of (text ++ more)).rest in
      let long = lt-ltb n (length (text ++ more) - length (header_of (text ++ more)).rest) (omega (
        arith,
        same,
        all,
        end,
        above,
      )) in
      let one : n + 1 ≡ length text = omega (arith, same, above, least) in
      let behind : drop (n + 1) (text ++ more) ≡ more = ap (λ k. drop k (text ++ more)) one
      ∙ drop-append_seam text more in
      rw (long, behind) refl
    where
      some : {A : Type 0} {a b : A} → Some a ≡ Some b → a ≡ b
      some e = cc (e)

  pub reads : (text : List ℕ) (r : Reading ℕ) → header_under limits.header text ≡ r
      → content_within limits text ≡ content_of Ok limits.content r.outcome r.rest
  reads text r is = ap (λ (h : Reading ℕ). content_of Ok limits.content h.outcome h.rest) is

  answers : (text : List ℕ) (r : Reading ℕ) → header_under limits.header text ≡ r
      → (content_within limits text).outcome ≡ (content_of Ok limits.content r.outcome r.rest).outcome
  answers text r is = ap (λ (a : Reading (List ℕ)). a.outcome) (reads text r is)

  -- ---- what is left

  pub under_leaves : (bound : Option ℕ) (text more : List ℕ) → ((most : ℕ) → bound ≡ Some most → length text ≤ most + 1)
      → Leaves more (header_of (text ++ more)).rest → Leaves more (header_under bound (text ++ more)).rest
  under_leaves None text more fits left = left
  under_leaves (Some most) text more fits left =
      at (nat_lt most (length (text ++ more) - length (header_of (text ++ more)).rest))
    where
      room : ℕ
      room = most + 1 - length text

      behind : drop (most + 1) (text ++ more) ≡ drop room more
      behind = let sum : most + 1 ≡ length text + room = omega (arith, fits most refl) in
          ap (λ k. drop k (text ++ more)) sum ∙ drop-append-add text more room

      at : (t : Bool) → Leaves more (cond {A = Reading ℕ} t (record {
        outcome = Err HeaderTooLong;
        rest = drop (most + 1) (text ++ more);
      }) (header_of (text ++ more))).rest
      at true = (take room more, sym (take-append-drop room more) ∙ ap (λ l. take room more ++ l) (sym behind))
      at false = left

  pub content_leaves : (count : Result (Option ℕ) ReadFault) (text : List ℕ)
      → Leaves text (content_of Ok limits.content count text).rest
  content_leaves (Err fault) text = ([], refl)
  content_leaves (Ok None) text = ([], refl)
  content_leaves (Ok (Some n)) text = at (nat_lt limits.content n) (nat_lt (length text) n)
    where
      at : (t s : Bool) → Leaves text (cond {A = Reading (List ℕ)} t (record { outcome = Err TooLong; rest = text })
          (cond {A = Reading (List ℕ)} s (record { outcome = Err ShortBody; rest = [] })
          (record { outcome = found (Ok (take n text)); rest = drop n text }))).rest
      at true s = ([], refl)
      at false true = (text, sym (append-nil text))
      at false false = (take n text, sym (take-append-drop n text))

  open_rest : (r : Reading ℕ) → IsOpen r → r.rest ≡ []
  open_rest r (inl is) = ap (λ (h : Reading ℕ). h.rest) is
  open_rest r (inr (inl is)) = ap (λ (h : Reading ℕ). h.rest) is
  open_rest r (inr (inr is)) = ap (λ (h : Reading ℕ). h.rest) is

  -- the reading of bytes whose header part is open is no limit's fault
  open_fits : (text : List ℕ) (fault : ReadFault) → IsOpen (header_under limits.header text)
      → fault ≢ LineNotText → fault ≢ LineEnd → (content_within limits text).outcome ≢ Err fault
  open_fits text fault (inl is) not_text not_end = λ e. none_fault _ fault (answers text _ is) e
  open_fits text fault (inr (inl is)) not_text not_end = λ e. not_text (same_fault _ fault LineNotText e
      (answers text _ is))
  open_fits text fault (inr (inr is)) not_text not_end = λ e. not_end (same_fault _ fault LineEnd e
      (answers text _ is))

  module _ (text : List ℕ) (line : ℕ) (given : Option ℕ) (are : AreFields given (take line text)) where
    parts : take line text ++ drop line text ≡ text
    parts = take-append-drop line text

    header_here : header_of text ≡ header_after given (drop line text)
    header_here = ap header_of (sym parts) ∙ header_at given (take line text) are (drop line text)

    open_here : HasNoFeed (drop line text) → IsOpen (header_of text)
    open_here plain = subst IsOpen (sym header_here) (open_header given (drop line text) plain)

    open_under : HasNoFeed (drop line text) → Fits limits text → IsOpen (header_under limits.header text)
    open_under plain fits =
        let left : length (header_of text).rest ≡ 0 = ap length (open_rest _ (open_here plain)) in
        subst IsOpen (sym (under limits.header text (header_of text) refl (λ most is.
        let below = fits most is in omega (arith, left, below)))) (open_here plain)

    -- what is left is behind the text
    open_left : HasNoFeed (drop line text) → (more : List ℕ) → Leaves more (header_of (text ++ more)).rest
    open_left plain more =
        let here : header_of (text ++ more) ≡ header_after given (drop line text ++ more) =
        ap (λ l. header_of (l ++ more)) (sym parts) ∙ ap header_of (append_assoc (take line text) (drop line text) more)
        ∙ header_at given (take line text) are (drop line text ++ more) in
        subst (λ (r : Reading ℕ). Leaves more r.rest) (sym here) (open_leaves given (drop line text) more plain)

    line_within : HasNoFeed (drop line text) → Fits limits text → (more : List ℕ)
        → Leaves more (content_within limits (text ++ more)).rest
    line_within plain fits more =
        let header = header_under limits.header (text ++ more) in
        leaves_then more header.rest _ (under_leaves limits.header text more (λ most is. omega (
          arith,
          fits most is,
        )) (open_left plain more))
        (content_leaves header.outcome header.rest)

    -- a line without its end: more has to come
    pub awaits_line : HasNoFeed (drop line text) → Fits limits text → AwaitsMore limits text
    awaits_line plain fits = record {
      more = ap front_of (sym parts) ∙ front_at given (take line text) are (drop line text)
          ∙ open_front _ given (drop line text) plain;
      header_fits = open_fits text HeaderTooLong (open_under plain fits) (λ e. cc (e)) (λ e. cc (e));
      content_fits = open_fits text TooLong (open_under plain fits) (λ e. cc (e)) (λ e. cc (e));
      within = line_within plain fits;
    }

    module _ (whole : IsLine (drop line text)) (answer : Result HeaderLine ReadFault)
        (is : header_line (drop line text) ≡ answer) where
      here : take line text ++ (whole.stem ++ 10 ∷ []) ≡ text
      here = ap (λ l. take line text ++ l) (sym whole.whole) ∙ parts

      known : header_line (whole.stem ++ 10 ∷ []) ≡ answer
      known = ap header_line (sym whole.whole) ∙ is

      -- the line is one more field
      pub more_fields : is_field answer ≡ true → AreFields (or_else (length_in answer) given) text
      more_fields goes = subst (AreFields (or_else (length_in answer) given)) here
          (fields_more given (take line text) are whole.stem whole.plain answer known goes)

      -- the header part ends with the line
      ended : is_field answer ≡ false → (more : List ℕ) → header_of (text ++ more)
          ≡ record { outcome = at_last_line given answer; rest = more }
      ended stops more = ap (λ l. header_of (l ++ more)) (sym here)
          ∙ last_header given (take line text) are whole.stem whole.plain answer known stops more

      ended_within : is_field answer ≡ false → Fits limits text → (more : List ℕ)
          → header_under limits.header (text ++ more) ≡ record { outcome = at_last_line given answer; rest = more }
      ended_within stops fits more = under limits.header (text ++ more) _ (ended stops more) (λ most bound.
          let below = fits most bound in omega (arith, below, length-append text more))

      ended_front : is_field answer ≡ false → (more : List ℕ) → front_of (text ++ more)
          ≡ at_header_end (length (text ++ more)) (at_last_line given answer) (length more)
      ended_front stops more = ap (λ l. front_of (l ++ more)) (sym here)
          ∙ last_front given (take line text) are whole.stem whole.plain answer known stops more
          ∙ ap (λ l. at_header_end (length (l ++ more)) (at_last_line given answer) (length more)) here

      -- the header part gives no length
      pub ended_fault : (fault : ReadFault) → fault ≢ Memory → is_field answer ≡ false → Fits limits text
          → at_last_line given answer ≡ Err fault → IsFaultOf limits text fault
      ended_fault fault bytes stops fits last = fault_of limits text fault bytes (λ more. reads (text ++ more) _
          (ended_within stops fits more) ∙ ap (λ o. content_of Ok limits.content o more) last)

      line_left : (t : Bool) → is_field answer ≡ t → (more : List ℕ) → Leaves more (header_of (text ++ more)).rest
      line_left true goes more = subst (λ (r : Reading ℕ). Leaves more r.rest)
          (sym (header_at (or_else (length_in answer) given) text (more_fields goes) more))
          (header_after-rest (or_else (length_in answer) given) more)
      line_left false stops more = subst (λ (r : Reading ℕ). Leaves more r.rest) (sym (ended stops more)) ([], refl)

    pub above_left : HasNoFeed (drop line text) ⊎ IsLine (drop line text) → (more : List ℕ)
        → Leaves more (header_of (text ++ more)).rest
    above_left (inl plain) more = open_left plain more
    above_left (inr whole) more = line_left whole (header_line (drop line text)) refl
        (is_field (header_line (drop line text))) refl more

    -- a header part with one byte above its bound
    pub above_bound : HasNoFeed (drop line text) ⊎ IsLine (drop line text) → (most : ℕ) → limits.header ≡ Some most
        → most < length text → length text ≤ most + 1 → IsFaultOf limits text HeaderTooLong
    above_bound ends most is above least = fault_of limits text HeaderTooLong (λ e. cc (e)) (λ more.
        reads (text ++ more) _ (over limits.header text more most is (above_left ends more) above least))

    -- the line is the blank one
    module _ (whole : IsLine (drop line text)) (is : header_line (drop line text) ≡ Ok Blank)
        (fits : Fits limits text) where
      blank_within : (size : ℕ) → given ≡ Some size → (more : List ℕ) → header_under limits.header (text ++ more)
          ≡ record { outcome = Ok (Some size); rest = more }
      blank_within size counts more = ended_within whole (Ok Blank) is refl fits more
          ∙ ap (λ g. record { outcome = at_last_line g (Ok Blank); rest = more }) counts

      blank_reads : (size : ℕ) → given ≡ Some size → (more : List ℕ) → content_within limits (text ++ more)
          ≡ content_of Ok limits.content (Ok (Some size)) more
      blank_reads size counts more = reads (text ++ more) (record { outcome = Ok (Some size); rest = more })
          (blank_within size counts more)

      pub blank_unsized : given ≡ None → IsFaultOf limits text NoLength
      blank_unsized none = ended_fault whole (Ok Blank) is NoLength (λ e. cc (e)) refl fits
          (ap (λ g. at_last_line g (Ok Blank)) none)

      pub blank_long : (size : ℕ) → given ≡ Some size → limits.content < size → IsFaultOf limits text TooLong
      blank_long size counts long = let above = lt-ltb limits.content size long in
          fault_of limits text TooLong (λ e. cc (e)) (λ more. blank_reads size counts more ∙ (rw above refl))

      pub blank_header : (size : ℕ) → given ≡ Some size → size ≤ limits.content → IsHeader limits size text
      blank_header size counts allowed = record {
        allowed = allowed;
        header = blank_within size counts;
        front = λ more. ended_front whole (Ok Blank) is refl more ∙ ap (λ g. at_header_end (length (text ++ more))
            (at_last_line g (Ok Blank)) (length more)) counts;
      }

  nothing_left : (text : List ℕ) → HasNoFeed (drop (length text) text)
  nothing_left text = subst HasNoFeed (sym (drop_of_length-le text (le_refl _))) (λ k below. absurd (omega (
    arith,
    below,
  )))

  -- the next line begins at the end
  pub next_line : (text : List ℕ) (given : Option ℕ) → AreFields given text → Fits limits text
      → InHeader limits text (length text) given
  next_line text given are fits = record {
    begun = le_refl _;
    fields = subst (AreFields given) (sym (take_all _ text (le_refl _))) are;
    unended = nothing_left text;
    fits = fits;
  }

  -- ---- content parts

  module _ (size : ℕ) (head content : List ℕ) (is : IsHeader limits size head) where
    not_above : nat_lt limits.content size ≡ false
    not_above = le-ltb limits.content size is.allowed

    -- the input ends where some of it is missing
    pub short_part : length content < size → content_within limits (head ++ content)
        ≡ record { outcome = Err ShortBody; rest = [] }
    short_part short =
        let some = lt-ltb (length content) size short in
        reads (head ++ content) _ (is.header content) ∙ (rw (not_above, some) refl)

    part_within : length content < size → (more : List ℕ)
        → Leaves more (content_within limits ((head ++ content) ++ more)).rest
    part_within short more = subst (λ (r : Reading (List ℕ)). Leaves more r.rest) (sym same)
        (at (nat_lt (length (content ++ more)) size))
      where
        left : ℕ
        left = size - length content

        same : content_within limits ((head ++ content) ++ more) ≡ body_of Ok size (content ++ more)
        same = ap (content_within limits) (append_assoc head content more)
            ∙ reads (head ++ (content ++ more)) _ (is.header (content ++ more)) ∙ (rw not_above refl)

        behind : drop size (content ++ more) ≡ drop left more
        behind = let sum : size ≡ length content + left = omega (arith, short) in
            ap (λ k. drop k (content ++ more)) sum ∙ drop-append-add content more left

        at : (t : Bool) → Leaves more (cond {A = Reading (List ℕ)} t (record { outcome = Err ShortBody; rest = [] })
            (record {
              outcome = found (Ok (take size (content ++ more)));
              rest = drop size (content ++ more);
            })).rest
        at true = (more, sym (append-nil more))
        at false = (take left more, sym (take-append-drop left more) ∙ ap (λ l. take left more ++ l) (sym behind))

    -- more of it has to come
    pub awaits_part : length content < size → AwaitsMore limits (head ++ content)
    awaits_part short =
        let some = lt-ltb (length content) size short in
        let read : (content_within limits (head ++ content)).outcome ≡ Err ShortBody =
        ap (λ (r : Reading (List ℕ)). r.outcome) (short_part short) in
        record {
          more = is.front content ∙ (rw some refl);
          header_fits = λ e. no_header (same_fault _ ShortBody HeaderTooLong read e);
          content_fits = λ e. no_content (same_fault _ ShortBody TooLong read e);
          within = part_within short;
        }
      where
        no_header : ShortBody ≡ HeaderTooLong → ⊥
        no_header e = cc (e)

        no_content : ShortBody ≡ TooLong → ⊥
        no_content e = cc (e)

    module _ (all : length content ≡ size) where
      whole_content : (rest : List ℕ) → content_within limits (head ++ (content ++ rest))
          ≡ record { outcome = found (Ok content); rest = rest }
      whole_content rest =
          let enough = le-ltb (length (content ++ rest)) size (omega (arith, length-append content rest, all)) in
          let front : take size (content ++ rest) ≡ content = ap (λ n. take n (content ++ rest)) (sym all)
          ∙ take-append_seam content rest in
          let left : drop size (content ++ rest) ≡ rest = ap (λ n. drop n (content ++ rest)) (sym all)
          ∙ drop-append_seam content rest in
          ap (λ (h : Reading ℕ). content_of Ok limits.content h.outcome h.rest) (is.header (content ++ rest))
          ∙ (rw (not_above, enough, front, left) refl)

      -- the content part is whole
      pub whole_read : IsFrameRead limits content (head ++ content)
      whole_read = λ rest. ap (content_within limits) (append_assoc head content rest) ∙ whole_content rest

  -- ---- content parts that go on

  module _ (old x new : List ℕ) (start size : ℕ) (here : InContent limits old start size) (added : new ≡ old ++ x) where
    head : IsHeader limits size (take start new)
    head = subst (IsHeader limits size) (sym (take-append-le start old x here.begun) ∙ ap (take start) (sym added))
        here.header

    pub longer : length new < start + size → InContent limits new start size
    longer short = record {
      begun = omega (arith, here.begun, ap length added, length-append old x);
      short = short;
      header = head;
    }

    module _ (all : length new ≡ start + size) where
      size_of : length (drop start new) ≡ size
      size_of = omega (arith, length-drop start new, all)

      pub read_whole : IsFrameRead limits (drop start new) new
      read_whole = subst (λ (l : List ℕ). IsFrameRead limits (drop start new) l) (take-append-drop start new)
          (whole_read size (take start new) (drop start new) head size_of)

  -- ---- places

  missing_part : (text : List ℕ) (start size : ℕ) → InContent limits text start size
      → length (drop start text) < size
  missing_part text start size here = omega (arith, length-drop start text, here.begun, here.short)

  pub awaits_header : (text : List ℕ) (line : ℕ) (given : Option ℕ) → InHeader limits text line given
      → AwaitsMore limits text
  awaits_header text line given here = awaits_line text line given here.fields here.unended here.fits

  pub awaits_content : (text : List ℕ) (start size : ℕ) → InContent limits text start size → AwaitsMore limits text
  awaits_content text start size here = subst (AwaitsMore limits) (take-append-drop start text)
      (awaits_part size (take start text) (drop start text) here.header (missing_part text start size here))

  -- ---- the end of the input

  module _ (text : List ℕ) (line : ℕ) (given : Option ℕ) (here : InHeader limits text line given) where
    end_under : (r : Reading ℕ) → header_after given (drop line text) ≡ r → r.rest ≡ []
        → content_within limits text ≡ content_of Ok limits.content r.outcome r.rest
    end_under r is none =
        let left : length r.rest ≡ 0 = ap length none in
        reads text r (under limits.header text r (header_here text line given here.fields ∙ is) (λ most bound.
        let below = here.fits most bound in omega (arith, left, below)))

    pub end_of_line : line ≡ length text → IsEndOf limits text None
    end_of_line is = end_under (record { outcome = Ok None; rest = [] }) (ap (header_after given)
        (drop_of_length-le text (omega (arith, is)))) refl

    end_at_fault : (tail : List ℕ) → drop line text ≡ tail → 0 < length tail → (fault : ReadFault)
        → header_line tail ≡ Err fault → content_within limits text ≡ record { outcome = Err fault; rest = [] }
    end_at_fault [] same some fault is = absurd (omega (arith, some))
    end_at_fault (b ∷ bs) same some fault is = end_under (record { outcome = Err fault; rest = [] })
        (ap (header_after given) same ∙ open_line given b bs (subst HasNoFeed same here.unended) fault is) refl

    pub end_in_line : line ≢ length text → IsEndOf limits text (result_err (header_line (drop line text)))
    end_in_line other = at (unended (drop line text) here.unended)
      where
        some : 0 < length (drop line text)
        some = omega (arith, length-drop line text, here.begun, other)

        at : (header_line (drop line text) ≡ Err LineNotText) ⊎ (header_line (drop line text) ≡ Err LineEnd)
            → IsEndOf limits text (result_err (header_line (drop line text)))
        at (inl is) = rw is (end_at_fault (drop line text) refl some LineNotText is)
        at (inr is) = rw is (end_at_fault (drop line text) refl some LineEnd is)
