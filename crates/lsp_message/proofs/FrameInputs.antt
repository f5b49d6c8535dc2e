-- What a frame that is gathered from pieces comes to.
use Rattle.std.proofs.Common.{◌≡◌, ◌≢◌, refl, sym, ap, subst, ◌∙◌, ℕ, zero, suc, ◌+◌, ◌-◌, ◌<◌, ◌≤◌, Bool, true, false}
use Rattle.std.proofs.Common.{nat_lt, cond, eqb, eqb-true, eq-eqb, List, [], ◌∷◌, ◌++◌, length, append_assoc}
use Rattle.std.proofs.Common.{append-nil, length-append, length-take-le, length-drop, take, drop, take_all}
use Rattle.std.proofs.Common.{drop_of_length-le, le_refl, Option, Some, None, Result, Ok, Err, arith, inl, inr, ◌⊎◌}
use Rattle.std.proofs.Common.{get_or, true≢false, IfOk}
use Rattle.std.proofs.Math.Seq.{get_or-append_seam}
use Rattle.std.proofs.lemmas.Bool.{ltb-true, ltb-false}
use Rattle.std.proofs.lemmas.List.{take-append-le, drop-append-le}
use Rattle.std.specs.Result.{result_err}
use Rattle.lsp_message.specs.Frame.{content_within, header_under}
use Rattle.lsp_message.specs.FrameInput.{AwaitsMore, IsEndOf, IsFrameRead}
use Rattle.lsp_message.specs.FramePlace.{HasNoFeed, IsLine, AreFields, InHeader, IsHeader, InContent, IsFaultOf}
use Rattle.lsp_message.specs.FramePlace.{AtHeader, AtContent, less_of, next_of}
use Rattle.lsp_message.specs.HeaderPart.{header_line}
use Rattle.lsp_message.specs.Reading.{Reading, StopsBefore}
use Rattle.lsp_message.specs.declared.frame.ReadFault.{ReadFault}
use Rattle.lsp_message.specs.declared.frame.ReadFault.TheVariants.{HeaderTooLong, TooLong}
use Rattle.lsp_message.specs.declared.frame.header.HeaderLine.{HeaderLine}
use Rattle.lsp_message.specs.declared.frame.header.HeaderLine.TheVariants.{Blank, Length, Other}
use Rattle.lsp_message.specs.declared.frame.input.Place.{Place}
use Rattle.lsp_message.specs.declared.frame.input.Next.{Next}
use Rattle.lsp_message.specs.declared.frame.input.Next.TheVariants.{Header as More, Content as Begun}
use Rattle.lsp_message.specs.declared.frame.input.Place.TheVariants.{Header, Content, Refused, Fault}
use Rattle.lsp_message.specs.Told.{Parts}
use Rattle.std.specs.List.{concat}
use Rattle.std.proofs.lemmas.List.Folds.{concat-append}
use Rattle.lsp_message.specs.declared.frame.byte_trace.ByteTrace.{ByteTrace}
use Rattle.lsp_message.specs.declared.frame.limits.Limits.{Limits}
use Rattle.lsp_message.proofs.FramePlaces.{Fits, above_bound, above_left, awaits_content, awaits_header, blank_header}
use Rattle.lsp_message.proofs.FramePlaces.{blank_long, blank_unsized, end_in_line, end_of_line}
use Rattle.lsp_message.proofs.FramePlaces.{ended_fault, line_joined, longer, more_fields, next_line, read_whole}
use Rattle.lsp_message.proofs.FramePlaces.{content_leaves, reads, under_leaves}
use Rattle.lsp_message.proofs.HeaderLines.{Leaves, fields_none, no_feed_joined}
use Rattle.lsp_message.proofs.KnownLines.{line_tested}

-- no byte was seen
pub none_seen : (seen fresh : ByteTrace) → seen ≡ fresh → fresh.parts ≡ [] → concat seen.parts ≡ []
none_seen seen fresh is none = ap (λ (t : ByteTrace). concat t.parts) is ∙ ap concat none

less_none : (o : Option ℕ) → o ≡ less_of o 0
less_none None = refl
less_none (Some n) = ap Some (omega arith)

less_twice : (o : Option ℕ) (a b n : ℕ) → n ≡ a + b → less_of (less_of o a) b ≡ less_of o n
less_twice None a b n is = refl
less_twice (Some m) a b n is = ap Some (omega (arith, is))

-- the bound that a room was left of
bound_of : (bound : Option ℕ) (n most : ℕ) → Some most ≡ less_of bound n → (all : ℕ) × (bound ≡ Some all)
    × (most ≡ all - n)
bound_of None n most is = absurd (cc (is))
bound_of (Some all) n most is = (all, refl, some is)
  where
    some : {a b : ℕ} → Some a ≡ Some b → a ≡ b
    some e = cc (e)

feed_at : (text stem : List ℕ) → text ≡ stem ++ 10 ∷ [] → get_or text (length stem) 0 ≡ 10
feed_at text stem is = ap (λ l. get_or l (length stem) 0) is ∙ get_or-append_seam stem 10 [] 0

-- one byte is a line, or goes on
byte_ends : (byte : ℕ) → HasNoFeed (byte ∷ []) ⊎ IsLine (byte ∷ [])
byte_ends byte = at (eqb byte 10) refl
  where
    only : byte ≢ 10 → HasNoFeed (byte ∷ [])
    only other zero below = other
    only other (suc k) below = absurd (omega (arith, below))

    at : (t : Bool) → eqb byte 10 ≡ t → HasNoFeed (byte ∷ []) ⊎ IsLine (byte ∷ [])
    at true is = inr (record {
      stem = [];
      plain = λ k below. absurd (omega (arith, below));
      whole = ap (λ b. b ∷ []) (eqb-true _ _ is);
    })
    at false is = inl (only (λ e. true≢false (sym (eq-eqb _ _ e) ∙ is)))

-- what follows a line says of the text, which ends with it, and of the bytes of a line that are kept
abbrev pub Shown : Limits → List ℕ → Option ℕ → Result Next ReadFault → List ℕ → Type 0
Shown limits text left (Err fault) tail = IsFaultOf limits text fault
Shown limits text left (Ok (More given)) tail = AtHeader limits text left given tail
Shown limits text left (Ok (Begun size)) tail = IsHeader limits size text × (tail ≡ [])

-- what a place says of the text
abbrev pub Holds : Limits → List ℕ → Place → List ℕ → List ℕ → Type 0
Holds limits text (Header room given) tail part = AtHeader limits text room given tail
Holds limits text (Content size) tail part = AtContent limits text size tail part
Holds limits text (Refused size) tail part = IsHeader limits size text
Holds limits text (Fault kind) tail part = IsFaultOf limits text kind

pub ok_same : (A : Type 0) {X E : Type 0} (r : Result X E) → IfOk r (λ _. A → A)
ok_same A (Ok x) = λ a. a
ok_same A (Err e) = tt

-- the bytes of a trace, and one more part
pub seen_more : (old new : Parts) (part : List ℕ) → new ≡ old ++ part ∷ [] → concat new ≡ concat old ++ part
seen_more old new part is = ap concat is ∙ concat-append old (part ∷ []) ∙ ap (λ l. concat old ++ l) (append-nil part)

module _ (limits : Limits) where
  -- a line begins where the text ends
  next_header : (text : List ℕ) (room given : Option ℕ) → AreFields given text → Fits limits text
      → room ≡ less_of limits.header (length text) → AtHeader limits text room given []
  next_header text room given are fits left =
      let end : length text ≡ length text - 0 = omega arith in record {
        here = subst (λ n. InHeader limits text n given) end (next_line limits text given are fits);
        line = drop_of_length-le text (omega arith);
        left = left;
      }

  -- no byte has come
  pub start_header : (text tail : List ℕ) → text ≡ [] → tail ≡ [] → AtHeader limits text limits.header None tail
  start_header text tail none empty = subst (λ (l : List ℕ). AtHeader limits l limits.header None tail) (sym none)
      (subst (λ (l : List ℕ). AtHeader limits [] limits.header None l) (sym empty) (next_header [] limits.header None
      fields_none (λ most is. omega arith) (less_none limits.header)))

  module _ (text tail : List ℕ) (room given : Option ℕ) (at : AtHeader limits text room given tail) where
    abbrev start : ℕ
    start = length text - length tail

    within : length tail ≤ length text
    within = omega (arith, ap length at.line, length-drop start text)

    pub awaits_line : AwaitsMore limits text
    awaits_line = awaits_header limits text start given at.here

    -- the input ends at the start of the line
    pub end_at_start : length tail ≡ 0 → IsEndOf limits text None
    end_at_start none = end_of_line limits text start given at.here (omega (arith, none))

    -- or in it
    pub end_in_tail : length tail ≢ 0 → IsEndOf limits text (result_err (header_line tail))
    end_in_tail some = subst (λ (l : List ℕ). IsEndOf limits text (result_err (header_line l))) at.line
        (end_in_line limits text start given at.here (λ e. some (omega (arith, e, within))))

    module _ (shown : List ℕ) where
      abbrev pub all : List ℕ
      all = text ++ shown

      size_of : length all ≡ length text + length shown
      size_of = length-append text shown

      fields : AreFields given (take start all)
      fields = subst (AreFields given) (sym (take-append-le start text shown (omega arith))) at.here.fields

      back : drop start all ≡ tail ++ shown
      back = drop-append-le start text shown (omega arith) ∙ ap (λ l. l ++ shown) at.line

      plain : HasNoFeed tail
      plain = subst HasNoFeed at.line at.here.unended

      ends : HasNoFeed shown ⊎ IsLine shown → HasNoFeed (drop start all) ⊎ IsLine (drop start all)
      ends how = subst (λ (l : List ℕ). HasNoFeed l ⊎ IsLine l) (sym back) (line_joined tail shown plain how)

      -- one byte more than there is room for
      pub line_above : (most : ℕ) → room ≡ Some most → length shown ≡ most + 1 → HasNoFeed shown ⊎ IsLine shown
          → IsFaultOf limits all HeaderTooLong
      line_above most is size how =
          let bound = bound_of limits.header (length text) most (sym is ∙ at.left) in
          let fits = at.here.fits bound.0 bound.1 in
          above_bound limits all start given fields (ends how) bound.0 bound.1
          (omega (arith, size_of, size, bound.2, fits)) (omega (arith, size_of, size, bound.2, fits))

      module _ (fits : (most : ℕ) → room ≡ Some most → length shown ≤ most) where
        left : less_of room (length shown) ≡ less_of limits.header (length all)
        left = ap (λ r. less_of r (length shown)) at.left ∙ less_twice limits.header (length text) (length shown)
            (length all) size_of

        fits_all : Fits limits all
        fits_all most is =
            let before = at.here.fits most is in
            let more = fits (most - length text) (at.left ∙ ap (λ b. less_of b (length text)) is) in
            omega (arith, before, more, size_of)

        -- the line goes on
        pub line_part : HasNoFeed shown → AtHeader limits all (less_of room (length shown)) given (tail ++ shown)
        line_part more =
            let same : start ≡ length all - length (tail ++ shown) = omega (
              arith,
              size_of,
              length-append tail shown,
              within,
            ) in record {
              here = subst (λ n. InHeader limits all n given) same (record {
                begun = omega (arith, size_of);
                fields = fields;
                unended = subst HasNoFeed (sym back) (no_feed_joined tail shown plain more);
                fits = fits_all;
              });
              line = ap (λ n. drop n all) (sym same) ∙ back;
              left = left;
            }

        -- the line is whole
        module _ (line : IsLine shown) where
          whole : IsLine (drop start all)
          whole = at_end (ends (inr line))
            where
              at_end : HasNoFeed (drop start all) ⊎ IsLine (drop start all) → IsLine (drop start all)
              at_end (inr is) = is
              at_end (inl none) = absurd (none (length (tail ++ line.stem)) (omega (
                arith,
                ap length back,
                length-append tail shown,
                ap length line.whole,
                length-append line.stem (10 ∷ []),
                length-append tail line.stem,
              )) (feed_at (drop start all) (tail ++ line.stem) (back ∙ ap (λ l. tail ++ l) line.whole
                  ∙ sym (append_assoc tail line.stem (10 ∷ [])))))

          after : (h : Result HeaderLine ReadFault) → header_line (drop start all) ≡ h
              → Shown limits all (less_of room (length shown)) (next_of limits given h) []
          after (Err fault) is = ended_fault limits all start given fields whole (Err fault) is fault (λ e.
              line_tested (drop start all) (is ∙ ap Err e)) refl fits_all refl
          after (Ok (Length size)) is = next_header all _ (Some size) (more_fields limits all start given fields whole
              (Ok (Length size)) is refl) fits_all left
          after (Ok Other) is = next_header all _ given (more_fields limits all start given fields whole (Ok Other) is
              refl) fits_all left
          after (Ok Blank) is = blank given refl
            where
              blank : (g : Option ℕ) → given ≡ g
                  → Shown limits all (less_of room (length shown)) (next_of limits g (Ok Blank)) []
              blank None counts = blank_unsized limits all start given fields whole is fits_all counts
              blank (Some size) counts = long (nat_lt limits.content size) refl
                where
                  long : (t : Bool) → nat_lt limits.content size ≡ t
                      → Shown limits all (less_of room (length shown)) (cond t (Err TooLong) (Ok (Begun size))) []
                  long true above = blank_long limits all start given fields whole is fits_all size counts
                      (ltb-true _ _ above)
                  long false below = (
                    blank_header limits all start given fields whole is fits_all size counts
                        (ltb-false _ _ below),
                    refl,
                  )

        -- bytes of the line
        pub line_shown : (room_left : Option ℕ) → room_left ≡ less_of room (length shown)
            → HasNoFeed shown ⊎ IsLine shown → (r : Result Next ReadFault) (kept : List ℕ)
            → (HasNoFeed shown → (r ≡ Ok (More given)) × (kept ≡ tail ++ shown))
            → (IsLine shown → (r ≡ next_of limits given (header_line (tail ++ shown))) × (kept ≡ []))
            → Shown limits all room_left r kept
        line_shown room_left counts (inl none) r kept goes ends_it = rw (counts, (goes none).0, (goes none).1)
            (line_part none)
        line_shown room_left counts (inr line) r kept goes ends_it = rw (counts, (ends_it line).1) (subst
            (λ n. Shown limits all (less_of room (length shown)) n []) (ap (λ l. next_of limits given (header_line l))
            back ∙ sym (ends_it line).0) (after line (header_line (drop start all)) refl))

    -- a byte of the header part at least was not taken
    pub header_unread : (byte : ℕ) (more : List ℕ)
        → StopsBefore (Some (byte ∷ more)) (header_under limits.header (text ++ byte ∷ more))
    header_unread byte more =
        let one = text ++ byte ∷ [] in
        let same : one ++ more ≡ text ++ byte ∷ more = append_assoc text (byte ∷ []) more in
        let left = under_leaves limits limits.header one more (λ most is. omega (
          arith,
          at.here.fits most is,
          length-append text (byte ∷ []),
        )) (above_left limits one start given (fields (byte ∷ [])) (ends (byte ∷ []) (byte_ends byte)) more) in
        let rest = ap (λ l. (header_under limits.header l).rest) same in
        (byte, left.0, ap (λ l. Some (byte ∷ l)) (left.1 ∙ ap (λ l. left.0 ++ l) rest))

  -- ---- places

  module _ (text : List ℕ) (place : Place) (tail part : List ℕ) (holds : Holds limits text place tail part) where
    pub in_header : (room given : Option ℕ) → place ≡ Header room given → AtHeader limits text room given tail
    in_header room given is = subst (λ p. Holds limits text p tail part) is holds

    pub in_part : (size : ℕ) → place ≡ Content size → AtContent limits text size tail part
    in_part size is = subst (λ p. Holds limits text p tail part) is holds

    pub in_refused : (size : ℕ) → place ≡ Refused size → IsHeader limits size text
    in_refused size is = subst (λ p. Holds limits text p tail part) is holds

    pub in_fault : (kind : ReadFault) → place ≡ Fault kind → IsFaultOf limits text kind
    in_fault kind is = subst (λ p. Holds limits text p tail part) is holds

  -- ---- content parts

  -- a reader takes the whole header part
  pub header_leaves : (text : List ℕ) (size : ℕ) → IsHeader limits size text → (rest : List ℕ)
      → (read : List ℕ) × (rest ≡ read ++ (content_within limits (text ++ rest)).rest)
  header_leaves text size is rest = subst (λ (r : Reading (List ℕ)). Leaves rest r.rest)
      (sym (reads limits (text ++ rest) _ (is.header rest))) (content_leaves limits (Ok (Some size)) rest)

  pub content_begins : (text tail part : List ℕ) (size : ℕ) → IsHeader limits size text → tail ≡ [] → part ≡ []
      → size ≢ 0 → AtContent limits text size tail part
  content_begins text tail part size is none empty some =
      let start : length text - length part ≡ length text = omega (arith, ap length empty) in record {
        here = subst (λ n. InContent limits text n size) (sym start) (record {
          begun = le_refl _;
          short = omega (arith, some);
          header = subst (IsHeader limits size) (sym (take_all _ text (le_refl _))) is;
        });
        content = ap (λ n. drop n text) start ∙ drop_of_length-le text (le_refl _) ∙ sym empty;
        no_line = none;
      }

  module _ (text tail part : List ℕ) (size : ℕ) (at : AtContent limits text size tail part) where
    abbrev begin : ℕ
    begin = length text - length part

    inside : length part ≤ length text
    inside = omega (arith, ap length at.content, length-drop begin text)

    pub content_missing : length part < size
    content_missing = omega (arith, at.here.short, inside)

    pub awaits_part : AwaitsMore limits text
    awaits_part = awaits_content limits text begin size at.here

    module _ (x : List ℕ) where
      abbrev pub more : List ℕ
      more = text ++ x

      rest : drop begin more ≡ part ++ x
      rest = drop-append-le begin text x (omega arith) ∙ ap (λ l. l ++ x) at.content

      pub content_grows : length (part ++ x) < size → AtContent limits more size tail (part ++ x)
      content_grows short =
          let same : begin ≡ length more - length (part ++ x) = omega (
            arith,
            length-append text x,
            length-append part x,
            inside,
          ) in record {
            here = subst (λ n. InContent limits more n size) same (longer limits text x more begin size at.here refl
                (omega (arith, length-append text x, length-append part x, inside, short)));
            content = ap (λ n. drop n more) (sym same) ∙ rest;
            no_line = at.no_line;
          }

      pub content_whole : length (part ++ x) ≡ size → IsFrameRead limits (part ++ x) more
      content_whole all = subst (λ (l : List ℕ). IsFrameRead limits l more) rest (read_whole limits text x more begin
          size at.here refl (omega (arith, length-append text x, length-append part x, inside, all)))

  -- bytes of a content part that is not whole with them
  pub part_grows : (text tail old new piece : List ℕ) (size count : ℕ) → AtContent limits text size tail old
      → new ≡ old ++ take count piece → count ≤ length piece → count < size - length old
      → AtContent limits (text ++ take count piece) size tail new
  part_grows text tail old new piece size count at is within few =
      let x = take count piece in
      let short : length (old ++ x) < size = omega (
        arith,
        length-append old x,
        length-take-le count piece within,
        few,
        content_missing text tail old size at,
      ) in
      subst (λ (l : List ℕ). AtContent limits (text ++ x) size tail l) (sym is)
      (content_grows text tail old size at x short)
