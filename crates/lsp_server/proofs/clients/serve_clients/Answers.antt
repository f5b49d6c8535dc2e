use Rattle.std.proofs.Common.{◌≡◌, ◌∙◌, Some, IfOk, map, string_bytes, ap, subst, sym, rules}
use Rattle.std.specs.Io.Buffered.{reader_inner}
use Rattle.lsp_server.specs.Clients.{Medium, medium_of, reader_medium, writer_medium, streams, socket, file}
use Rattle.lsp_server.specs.Words.{channel_of}
use Rattle.lsp_server.proofs.clients.serve_clients.Goals.{in-Standard, in-Port, in-Pipe, in-Refused}
use Rattle.lsp_server.proofs.clients.serve_clients.Goals as goal

pub returns-clause-outcome : goal.returns-clause-outcome
returns-clause-outcome g c =
    let ends = c.in_ok-ends.field-0 in
    let over : (m : Medium)
    × (medium_of (channel_of (map string_bytes c.args.words.now)) ≡ Some m)
    × (reader_medium (reader_inner ends.0) ≡ m)
    × (writer_medium ends.1 ≡ m)
    = elim c.match-channel_in.branch [
      | in-Standard w ↦
          let made = sym w.ends-is ∙ c.in_ok-ends.was in
          let both = subst (λ r. IfOk r (λ e. (reader_medium (reader_inner e.0) ≡ streams)
          × (writer_medium e.1 ≡ streams))) made w.standard_ends-ends.ensures.medium in
          (streams, search rules, both.0, both.1)
      | in-Port w ↦
          let made = sym w.ends-is ∙ c.in_ok-ends.was in
          let both = subst (λ r. IfOk r (λ e. (reader_medium (reader_inner e.0) ≡ socket)
          × (writer_medium e.1 ≡ socket))) made w.port_ends-ends.ensures in
          (socket, search rules, both.0, both.1)
      | in-Pipe w ↦
          let made = sym w.ends-is ∙ c.in_ok-ends.was in
          let both = subst (λ r. IfOk r (λ e. (reader_medium (reader_inner e.0) ≡ file)
          × (writer_medium e.1 ≡ file))) made w.pipe_ends-ends.ensures in
          (file, search rules, both.0, both.1)
      | in-Refused w ↦ (let differ = sym w.ends-is ∙ c.in_ok-ends.was in absurd (cc))
    ] in (
      c.streams_of.result,
      c.call.ensures,
      over.1 ∙ ap Some (sym (ap (λ r. reader_medium (reader_inner r)) c.streams_of.ensures.reader ∙ over.2)),
      over.1 ∙ ap Some (sym (ap writer_medium c.streams_of.ensures.writer ∙ over.3)),
      c.streams_of.ensures.limits,
    )
