use Rattle.lsp_judge_c.proofs.lsp_judge_log.Goals as goal

pub returns-in-Ok-clause-clean : goal.returns-in-Ok-clause-clean
returns-in-Ok-clause-clean c = λ status format. record {
  choice = c.choice_of-choice.result;
  picks = c.choice_of-choice.ensures;
  clean = c.in-Ok.ensures.clean status format;
}

pub returns-in-Ok-clause-broken : goal.returns-in-Ok-clause-broken
returns-in-Ok-clause-broken c = λ status format read. record {
  choice = c.choice_of-choice.result;
  picks = c.choice_of-choice.ensures;
  broken = c.in-Ok.ensures.broken status format read;
}

pub returns-in-Ok-clause-nothing : goal.returns-in-Ok-clause-nothing
returns-in-Ok-clause-nothing c = λ status format read. record {
  choice = c.choice_of-choice.result;
  picks = c.choice_of-choice.ensures;
  empty = c.in-Ok.ensures.nothing status format read;
}
