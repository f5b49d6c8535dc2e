-- What a client gets that reads the bytes which a session wrote.
use Rattle.std.proofs.Common.{◌≡◌, refl, sym, ◌∙◌, ap, subst, inl, inr, ℕ, ◌<◌, ◌^◌, List, [], ◌∷◌, ◌++◌, length}
use Rattle.std.proofs.Common.{length-append, append-nil, arith, Option, Some, Result, Ok, Err}
use Rattle.std.proofs.lemmas.List.{append_cancel_left}
use Rattle.serde_json.specs.Read.{max_depth}
use Rattle.std.specs.Prelude.{◌≤◌}
use Rattle.lsp_message.proofs.FramesBack.{read_back, reads_nothing}
use Rattle.lsp_message.specs.Message.{Message}
use Rattle.lsp_message.specs.Ranges.{nesting}
use Rattle.lsp_message.specs.Readable.{AreReadBack}
use Rattle.lsp_message.specs.Written.{AreFramesOf, GetsFrames}
use Rattle.lsp_session.specs.ClientReads.{ClientReads}
use Rattle.lsp_session.specs.Session.{Exchange, sends_of, SessionAnswer, SessionPart, Stop}
use Rattle.lsp_session.specs.SessionBytes.{SessionOver, Wrote}
use Rattle.lsp_session.specs.SessionLaws.{Both}
use Rattle.lsp_session.specs.declared.loops.handler.SessionEnd.{SessionEnd}
use Rattle.lsp_session.specs.declared.loops.stream_session.SessionFault.{SessionFault}
use Rattle.lsp_session.specs.declared.loops.stream_session.SessionFault.TheVariants.{Protocol, Read, Write, Memory}

module _ (before written : List ℕ) (small : length written < 2 ^ 64) where
  -- the writer got frames, and perhaps more
  framed : (sent : List Message) (frames part : List ℕ) → AreFramesOf sent frames → before ++ written ≡ before
      ++ (frames ++ part) → AreReadBack sent written
  framed sent frames part are got =
      let is : written ≡ frames ++ part = append_cancel_left before written (frames ++ part) got in
      let all = ap (λ (l : List ℕ). length l) is in
      let both = length-append frames part in
      subst (AreReadBack sent) (sym is) (read_back sent frames part are (omega (arith, small, all, both)))

  all_framed : (sent : List Message) → GetsFrames sent (Some before) (Some (before ++ written))
      → AreReadBack sent written
  all_framed sent got = framed sent got.0 [] got.1 (got.2 ∙ ap (λ l. before ++ l) (sym (append-nil got.0)))

  module _ (exchanges : List Exchange) (stop : Stop) (answer : SessionAnswer) where
    all_read : (result : Result SessionEnd SessionFault) → GetsFrames (sends_of exchanges) (Some before) (Some (before
        ++ written))
        → ClientReads written result exchanges stop answer
    all_read result got = (
      sends_of exchanges,
      [],
      sym (append-nil (sends_of exchanges)),
      all_framed (sends_of exchanges) got,
      inl refl,
    )

    read_of : (result : Result SessionEnd SessionFault) → Wrote (Some before) (Some (before ++ written)) result stop
        exchanges
        → ClientReads written result exchanges stop answer
    read_of (Err (Write fault)) wrote =
        let parts = wrote.5 in (
          wrote.1,
          wrote.2 ∷ [],
          wrote.4,
          framed wrote.1 parts.frames parts.part parts.frames_of_whole parts.got,
          inr (wrote.2, refl, tt),
        )
    read_of (Err Memory) (inl got) = all_read (Err Memory) got
    read_of (Err Memory) (inr most) = (
      most.0,
      most.1 ∷ [],
      most.3,
      all_framed most.0 most.4,
      inr (most.1, refl, tt),
    )
    read_of (Ok end) wrote = all_read (Ok end) wrote
    read_of (Err (Protocol fault)) wrote = all_read (Err (Protocol fault)) wrote
    read_of (Err (Read fault)) wrote = all_read (Err (Read fault)) wrote

  pub client_reads : {At : Type 0} (reads : At → Option Message → At → Type 0) (P : SessionPart) (at : At)
      (Ends : SessionAnswer → Stop → At → Type 0) (result : Result SessionEnd SessionFault)
      → SessionOver reads P at Ends (Wrote (Some before) (Some (before ++ written)) result)
      → SessionOver reads (Both P (ClientReads written result)) at Ends (Wrote (Some before) (Some (before
      ++ written)) result)
  client_reads reads P at Ends result over = record {
    exchanges = over.exchanges;
    at = over.at;
    read = over.read;
    stop = over.stop;
    answer = over.answer;
    part = (over.part, read_of over.exchanges over.stop over.answer result over.wrote);
    ends = over.ends;
    wrote = over.wrote;
  }

-- A session that ended well wrote nothing, though it sent a message.
pub writes_nothing : (x : Exchange) (xs : List Exchange) (m : Message) (more : List Message) (end : SessionEnd)
    (stop : Stop) (answer : SessionAnswer) → sends_of (x ∷ xs) ≡ m ∷ more → nesting m ≤ max_depth
    → ClientReads [] (Ok end) (x ∷ xs) stop answer → ⊥
writes_nothing x xs m more end stop answer sent shallow (whole, missing, cut, back, inr rest) = rest.2
writes_nothing x xs m more end stop answer sent shallow (whole, missing, cut, back, inl none) =
    let all : whole ≡ m ∷ more = sym (append-nil whole) ∙ ap (λ l. whole ++ l) (sym none) ∙ sym cut ∙ sent in
    reads_nothing m more shallow (subst (λ ms. AreReadBack ms []) all back)
