use Rattle.std.proofs.Common.{ap}
use Rattle.test_laws.proofs.Turns.{has_turns}
use Rattle.test_laws.proofs.jobs.keys_report_their_last_jobs.Goals as goal

pub returns : goal.returns
returns g c = λ old last exchanges stop answer session.
    has_turns _ _ _ c.each_key_reports_its_last_job.ensures.turns c.each_key_reports_its_last_job.ensures.first
    session.session.old session.laws.after (ap (λ (seen : _ × _). seen.1) session.session.from_first) session.laws.all
    session.laws.payloads
