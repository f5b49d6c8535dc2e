use Rattle.std.proofs.Common.{sym, ◌∙◌, [], ◌++◌, Some}
use Rattle.std.specs.List.{concat}
use Rattle.lsp_threads.specs.Passing.{noted}
use Rattle.lsp_threads.proofs.Taken.{pumped_known}
use Rattle.lsp_demo.proofs.Passing.{pumps_to, known_pumps_to}
use Rattle.lsp_demo.proofs.pump.pump_words.Goals as goal

pub returns-clause-told : goal.returns-clause-told
returns-clause-told g c limit asked = λ rest ends.
    let pumped = c.pump_traced-pumped in
    pumps_to _ limit c.in-Some.limit pumped.result.answer _ asked (sym c.pump_limits.ensures ∙ c.in-Some.is)
    c.status_of.ensures
    (concat pumped.result.taken.parts ++ rest) (Some []) (noted pumped.result.given) (pumped.ensures.told rest ends)

pub returns-clause-pumped : goal.returns-clause-pumped
returns-clause-pumped g c limit asked =
    let pumped = c.pump_traced-pumped in
    let did = pumped.ensures in
    known_pumps_to _ _ limit c.in-Some.limit pumped.result.answer _ asked (sym c.pump_limits.ensures ∙ c.in-Some.is)
    c.status_of.ensures _ _
    (pumped_known c.in-Some.limit (g.R.Read.remaining c.args.reader) pumped.result.taken.parts pumped.result.given
    (g.W.Write.contents c.args.writer.now) _ pumped.result.answer did.told did.taken did.given)
