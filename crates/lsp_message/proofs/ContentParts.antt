-- A message, from the content part of its frame.
use Rattle.std.proofs.Common.{◌≡◌, ℕ, ◌≤◌, Bool, true, false, cond, List, [], Option, Some, None, IfSome, inr}
use Rattle.std.proofs.Common.{Result, Ok, Err, refl, sym, ap, ◌∙◌, nat_lt, length, take, drop}
use Rattle.std.specs.Result.{result_map_both}
use Rattle.std.proofs.lemmas.Bool.{ltb-false}
use Rattle.lsp_message.specs.Frame.{body_means, RunsOut, body_of, content_of, frame_of, content_within}
use Rattle.lsp_message.specs.Frame.{header_under}
use Rattle.lsp_message.specs.Reading.{Reading, Answers}
use Rattle.lsp_message.specs.ReadingSteps.{Decodes}
use Rattle.lsp_message.specs.declared.frame.ReadFault.{ReadFault}
use Rattle.lsp_message.specs.declared.frame.ReadFault.TheVariants.{Input, ShortBody, TooLong, Memory}
use Rattle.lsp_message.specs.declared.frame.limits.Limits.{Limits}
use Rattle.lsp_message.proofs.Contents.{body_of-bytes, body_of-fault, body_of-rest, content_is_no_short}

module _ {M : Type 0} (means : List ℕ → Result M ReadFault) (limit : Limits) where
  abbrev found : Result M ReadFault → Result (Option M) ReadFault
  found r = result_map_both Some (λ fault. fault) r

  rest_of : (o : Result (Option ℕ) ReadFault) (rest : List ℕ) → (content_of means limit.content o rest).rest
      ≡ (content_of Ok limit.content o rest).rest
  rest_of (Err fault) rest = refl
  rest_of (Ok None) rest = refl
  rest_of (Ok (Some n)) rest = at (nat_lt limit.content n)
    where
      at : (t : Bool) → (cond {A = Reading M} t (record { outcome = Err TooLong; rest = rest }) (body_of means n
          rest)).rest
          ≡ (cond {A = Reading (List ℕ)} t (record { outcome = Err TooLong; rest = rest }) (body_of Ok n rest)).rest
      at true = refl
      at false = body_of-rest means limit n rest

  some_of : (o : Result (Option ℕ) ReadFault) (rest items : List ℕ) → (content_of Ok limit.content o rest).outcome
      ≡ Ok (Some items)
      → (content_of means limit.content o rest).outcome ≡ found (means items)
  some_of (Err fault) rest items is = absurd (cc (is))
  some_of (Ok None) rest items is = absurd (cc (is))
  some_of (Ok (Some n)) rest items is = at (nat_lt limit.content n) is
    where
      at : (t : Bool) → (cond {A = Reading (List ℕ)} t (record { outcome = Err TooLong; rest = rest })
          (body_of Ok n rest)).outcome ≡ Ok (Some items)
          → (cond {A = Reading M} t (record { outcome = Err TooLong; rest = rest }) (body_of means n rest)).outcome
          ≡ found (means items)
      at true is = absurd (cc (is))
      at false is = (body_of-bytes means limit n rest items is).0

  none_of : (o : Result (Option ℕ) ReadFault) (rest : List ℕ) → (content_of Ok limit.content o rest).outcome ≡ Ok None
      → (content_of means limit.content o rest).outcome ≡ Ok None
  none_of (Err fault) rest is = absurd (cc (is))
  none_of (Ok None) rest is = refl
  none_of (Ok (Some n)) rest is = at (nat_lt limit.content n) is
    where
      part : (s : Bool) → (cond {A = Reading (List ℕ)} s (record { outcome = Err ShortBody; rest = [] })
          (record { outcome = Ok (Some (take n rest)); rest = drop n rest })).outcome ≡ Ok None → ⊥
      part true is = cc (is)
      part false is = cc (is)

      at : (t : Bool) → (cond {A = Reading (List ℕ)} t (record { outcome = Err TooLong; rest = rest })
          (body_of Ok n rest)).outcome ≡ Ok None
          → (cond {A = Reading M} t (record { outcome = Err TooLong; rest = rest }) (body_of means n rest)).outcome
          ≡ Ok None
      at true is = absurd (cc (is))
      at false is = absurd (part (nat_lt (length rest) n) is)

  fault_of : (o : Result (Option ℕ) ReadFault) (rest : List ℕ) (fault : ReadFault) → (content_of Ok limit.content o
      rest).outcome ≡ Err fault → (content_of means limit.content o rest).outcome ≡ Err fault
  fault_of (Err fault') rest fault is = cc (is)
  fault_of (Ok None) rest fault is = absurd (cc (is))
  fault_of (Ok (Some n)) rest fault is = at (nat_lt limit.content n) is
    where
      at : (t : Bool) → (cond {A = Reading (List ℕ)} t (record { outcome = Err TooLong; rest = rest })
          (body_of Ok n rest)).outcome ≡ Err fault
          → (cond {A = Reading M} t (record { outcome = Err TooLong; rest = rest }) (body_of means n rest)).outcome
          ≡ Err fault
      at true is = cc (is)
      at false is = body_of-fault means limit n rest fault is

  -- the same bytes are left, whatever the content part means
  pub same_rest : (text : List ℕ) → (frame_of means limit text).rest ≡ (content_within limit text).rest
  same_rest text = rest_of (header_under limit.header text).outcome (header_under limit.header text).rest

  -- a frame with this content part comes to what that means
  pub content_outcome : (text items : List ℕ) → (content_within limit text).outcome ≡ Ok (Some items)
      → (frame_of means limit text).outcome ≡ found (means items)
  content_outcome text items is = some_of (header_under limit.header text).outcome (header_under limit.header text).rest
      items is

  -- if there is none, the text is at its end
  pub end_outcome : (text : List ℕ) → (content_within limit text).outcome ≡ Ok None
      → (frame_of means limit text).outcome ≡ Ok None
  end_outcome text is = none_of (header_under limit.header text).outcome (header_under limit.header text).rest is

  pub fault_outcome : (text : List ℕ) (fault : ReadFault) → (content_within limit text).outcome ≡ Err fault
      → (frame_of means limit text).outcome ≡ Err fault
  fault_outcome text fault is = fault_of (header_under limit.header text).outcome (header_under limit.header text).rest
      fault is

  module _ {X Y : Type 0} (view : X → M) (shown : Y → List ℕ) where
    -- what was made of a content part is the answer
    pub decoded : (a b : Option (List ℕ)) (content : Y) (r : Result X ReadFault) → IfSome a (λ text. Answers shown
        (Ok (Some content)) b (content_within limit text))
        → Decodes view r (means (shown content)) → IfSome a (λ text. Answers view (result_map_both Some (λ fault. fault)
        r) b (frame_of means limit text))
    decoded None b content r read decodes = tt
    decoded (Some text) b content r read decodes = at r decodes (content_outcome text (shown content) read.0) (read.1
        ∙ ap Some (sym (same_rest text)))
      where
        at : (r : Result X ReadFault) → Decodes view r (means (shown content)) → (frame_of means limit text).outcome
            ≡ found (means (shown content))
            → b ≡ Some (frame_of means limit text).rest → Answers view (result_map_both Some (λ fault. fault) r) b
            (frame_of means limit text)
        at (Ok x) decodes outcome left = (outcome ∙ ap found decodes, left)
        at (Err (Input kind)) decodes outcome left = ([], left)
        at (Err Memory) decodes outcome left = ([], left)
        at (Err fault) decodes outcome left = (outcome ∙ ap found decodes, left)

    -- no content part came
    pub not_there : (a b : Option (List ℕ)) → IfSome a (λ text. Answers shown (Ok None) b (content_within limit text))
        → IfSome a (λ text. Answers view (Ok None) b (frame_of means limit text))
    not_there None b read = tt
    not_there (Some text) b read = (end_outcome text read.0, read.1 ∙ ap Some (sym (same_rest text)))

    pub not_read : (a b : Option (List ℕ)) (fault : ReadFault) → IfSome a (λ text. Answers shown (Err fault) b
        (content_within limit text)) → IfSome a (λ text. Answers view (Err fault) b (frame_of means limit text))
    not_read None b fault read = tt
    not_read (Some text) b (Input kind) read = rw (same_rest text) read
    not_read (Some text) b Memory read = rw (same_rest text) read
    not_read (Some text) b fault read = (fault_outcome text fault read.0, read.1 ∙ ap Some (sym (same_rest text)))

module _ (limit : Limits) where
  header_came : (o : Result (Option ℕ) ReadFault) (rest items : List ℕ) → (content_of Ok limit.content o rest).outcome
      ≡ Ok (Some items) → (n : ℕ) × (o ≡ Ok (Some n)) × (n ≤ limit.content)
  header_came (Err fault) rest items is = absurd (cc (is))
  header_came (Ok None) rest items is = absurd (cc (is))
  header_came (Ok (Some n)) rest items is = at (nat_lt limit.content n) refl is
    where
      at : (t : Bool) → nat_lt limit.content n ≡ t → (cond {A = Reading (List ℕ)} t (record {
        outcome = Err TooLong;
        rest = rest;
      }) (body_of Ok n rest)).outcome ≡ Ok (Some items)
          → (m : ℕ) × (◌≡◌ {A = Result (Option ℕ) ReadFault} (Ok (Some n)) (Ok (Some m))) × (m ≤ limit.content)
      at true above is = absurd (cc (is))
      at false within is = (n, refl, ltb-false limit.content n within)

  -- or after it
  pub ran_out_after : {Y : Type 0} (shown : Y → List ℕ) (a b : Option (List ℕ)) (content : Y)
      → IfSome a (λ text. Answers shown (Ok (Some content)) b (content_within limit text))
      → IfSome a (λ text. RunsOut limit text b)
  ran_out_after shown None b content read = tt
  ran_out_after shown (Some text) b content read =
      let came = header_came (header_under limit.header text).outcome (header_under limit.header text).rest
      (shown content) read.0 in
      inr (
        came.0,
        came.1,
        came.2,
        inr (
          read.1 ∙ ap Some (sym (same_rest body_means limit text)),
          content_is_no_short (shown content) _ (content_outcome body_means limit text (shown content) read.0),
        ),
      )
