use Rattle.std.proofs.Common.{option_map, subst, sym}
use Rattle.lsp_capabilities.specs.Knows.{Knows}
use Rattle.lsp_watch.specs.Entries.{entry_view}
use Rattle.lsp_watch.specs.Verdicts.{entered}
use Rattle.lsp_judge.proofs.judgement.Judgement.announce.Goals as goal

pub returns-clause-knows : goal.returns-clause-knows
returns-clause-knows c = λ j judges announces.
    subst (λ e. Knows c.keep.new.self
    (entered c.args.passing.now.direction c.args.place (option_map entry_view e) j.log))
    (sym c.in-Some.is) (c.in_ok-keep.ensures j.log judges.watch (judges.knows announces))
