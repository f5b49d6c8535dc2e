use Rattle.std.proofs.Common.{sym, ap, subst, ◌∙◌}
use Rattle.lsp_types.specs.FileUris.{Lacks}
use Rattle.lsp_types.proofs.file_uri.path_of_names.Goals as goal

pub returns-in-Ok-clause-ok : goal.returns-in-Ok-clause-ok
returns-in-Ok-clause-ok c =
    let bytes = ap (λ v. v.items) c.in-Ok.ensures.ok in
    record {
      plain = (c.if-not-lacks.ensures, c.if-not-lacks-2.ensures);
      escaped = sym c.is_escaped.ensures ∙ c.if-not-is_escaped.false;
      decoded = bytes ∙ c.in_ok-path.ensures;
      has_no_nul = subst (Lacks 0) (c.as_slice.ensures.value ∙ sym bytes) c.if-not-lacks-3.ensures;
    }
