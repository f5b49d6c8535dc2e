use Rattle.std.proofs.Common.{drop, ⊎_elim}
use Rattle.lsp_types.proofs.file_uri.names_in.Goals as goal

pub returns-in-Some-strip_prefix-2-clause-err : goal.returns-in-Some-strip_prefix-2-clause-err
returns-in-Some-strip_prefix-2-clause-err c =
    let behind = c.in-Some-strip_prefix-2.ensures.cases in (
      drop behind.0 c.args.uri.now,
      behind.1.1,
      λ names is_file. ⊎_elim (λ e. c.in_default.ensures.cases names e)
          (λ e. c.in_default-strip_prefix.ensures.cases names e) is_file,
    )

pub returns-in-Some-strip_prefix-2-clause-none : goal.returns-in-Some-strip_prefix-2-clause-none
returns-in-Some-strip_prefix-2-clause-none c = λ names is_file. ⊎_elim (λ e. c.in_default.ensures.cases names e)
    (λ e. c.in_default-strip_prefix.ensures.cases names e) is_file
