use Rattle.std.proofs.Common.{[], ◌++◌, inl, Some, subst}
use Rattle.std.specs.List.{concat}
use Rattle.lsp_threads.specs.Framing.{TellsFrames}
use Rattle.lsp_threads.proofs.Failing.{none_failed, pump_reports_reader, pump_reports_writer}
use Rattle.lsp_threads.proofs.Flushing.{nothing_flushed, pump_flushed}
use Rattle.lsp_threads.proofs.Frames.{pumped_over}
use Rattle.lsp_threads.proofs.Taken.{given_whole, nothing_taken}
use Rattle.lsp_threads.proofs.pumping.pump_traced.Goals as goal

pub returns-clause-told : goal.returns-clause-told
returns-clause-told g c = λ rest ends.
    let started = c.in-Ok-start_reader.ensures in
    let promise = c.in-Ok-start_reader.reading.promise in
    let back = c.join-tx.result in
    let tells = subst (λ l. TellsFrames l (g.R.Read.remaining promise.reader.value) promise.tx.value back.1 back.2.parts
    back.0) started.1 c.join-tx.ensures.1 in
    rw c.answer_of.ensures
    (pumped_over c.args.limits (Some (concat back.2.parts ++ rest)) (Some []) _ promise.tx.value back.0
    c.write_texts-rx.result.0.taken back.1 c.write_texts-rx.result.1 (tells.0 rest ends)
    (rw c.new-given.ensures.parts at c.write_texts-rx.ensures.written) c.settle_all.ensures.settled)

pub returns-clause-taken : goal.returns-clause-taken
returns-clause-taken g c = rw c.in-Ok-start_reader.ensures.0 at c.join-tx.ensures.1.1

pub returns-clause-given : goal.returns-clause-given
returns-clause-given g c = given_whole _ _ _ _ c.new-given.ensures.parts c.write_texts-rx.ensures.given

pub returns-in_default-clause-taken : goal.returns-in_default-clause-taken
returns-in_default-clause-taken g c = (
  g.R.Read.remaining c.args.reader,
  rw c.not_started.ensures.nothing.0
      (nothing_taken (g.R.Read.remaining c.args.reader)),
)

pub returns-in-Err-clause-taken : goal.returns-in-Err-clause-taken
returns-in-Err-clause-taken g c = (
  g.R.Read.remaining c.args.reader,
  rw c.not_started-in-Err.ensures.nothing.0
      (nothing_taken (g.R.Read.remaining c.args.reader)),
)

pub returns-in_default-bounded_backlog-clause-taken : goal.returns-in_default-bounded_backlog-clause-taken
returns-in_default-bounded_backlog-clause-taken g c = (
  g.R.Read.remaining c.args.reader,
  rw c.not_started-in_default-bounded_backlog.ensures.nothing.0 (nothing_taken
      (g.R.Read.remaining c.args.reader)),
)

pub returns-clause-flushed : goal.returns-clause-flushed
returns-clause-flushed g c = rw c.answer_of.ensures (pump_flushed c.write_texts-rx.new.given.parts c.join-tx.result.1
    c.write_texts-rx.result.1 (c.write_texts-rx.ensures.flushed (inl c.new-given.ensures.parts)))

pub returns-in_default-clause-flushed : goal.returns-in_default-clause-flushed
returns-in_default-clause-flushed g c =
    let none = c.not_started.ensures in nothing_flushed _ _ _ none.answer none.nothing.1

pub returns-in-Err-clause-flushed : goal.returns-in-Err-clause-flushed
returns-in-Err-clause-flushed g c =
    let none = c.not_started-in-Err.ensures in nothing_flushed _ _ _ none.answer none.nothing.1

pub returns-in_default-bounded_backlog-clause-flushed : goal.returns-in_default-bounded_backlog-clause-flushed
returns-in_default-bounded_backlog-clause-flushed g c =
    let none = c.not_started-in_default-bounded_backlog.ensures in nothing_flushed _ _ _ none.answer none.nothing.1

pub returns-clause-reader : goal.returns-clause-reader
returns-clause-reader g c = rw c.answer_of.ensures (pump_reports_reader c.join-tx.result.2 c.join-tx.result.1
    c.write_texts-rx.result.1 c.join-tx.ensures.2)

pub returns-clause-writer : goal.returns-clause-writer
returns-clause-writer g c = rw c.answer_of.ensures (pump_reports_writer c.write_texts-rx.new.given c.join-tx.result.1
    c.write_texts-rx.result.1 (c.write_texts-rx.ensures.failed c.new-given.ensures.failed))

pub returns-in_default-clause-reader : goal.returns-in_default-clause-reader
returns-in_default-clause-reader g c =
    let none = c.not_started in
    (none_failed none.result.answer _ none.result.taken none.result.given none.ensures.answer none.ensures.no_failure).0

pub returns-in_default-clause-writer : goal.returns-in_default-clause-writer
returns-in_default-clause-writer g c =
    let none = c.not_started in
    (none_failed none.result.answer _ none.result.taken none.result.given none.ensures.answer none.ensures.no_failure).1

pub returns-in-Err-clause-reader : goal.returns-in-Err-clause-reader
returns-in-Err-clause-reader g c =
    let none = c.not_started-in-Err in
    (none_failed none.result.answer _ none.result.taken none.result.given none.ensures.answer none.ensures.no_failure).0

pub returns-in-Err-clause-writer : goal.returns-in-Err-clause-writer
returns-in-Err-clause-writer g c =
    let none = c.not_started-in-Err in
    (none_failed none.result.answer _ none.result.taken none.result.given none.ensures.answer none.ensures.no_failure).1

pub returns-in_default-bounded_backlog-clause-reader : goal.returns-in_default-bounded_backlog-clause-reader
returns-in_default-bounded_backlog-clause-reader g c =
    let none = c.not_started-in_default-bounded_backlog in
    (none_failed none.result.answer _ none.result.taken none.result.given none.ensures.answer none.ensures.no_failure).0

pub returns-in_default-bounded_backlog-clause-writer : goal.returns-in_default-bounded_backlog-clause-writer
returns-in_default-bounded_backlog-clause-writer g c =
    let none = c.not_started-in_default-bounded_backlog in
    (none_failed none.result.answer _ none.result.taken none.result.given none.ensures.answer none.ensures.no_failure).1
