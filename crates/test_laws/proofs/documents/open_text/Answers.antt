use Rattle.std.proofs.Common.{◌≡◌, [], refl, subst, sym}
use Rattle.std.specs.Prelude.{option_and_then, option_map}
use Rattle.lsp_documents.specs.Held.{documents_of}
use Rattle.lsp_documents.specs.Notices.{kept_by, shown}
use Rattle.test_laws.proofs.Results.{if_ok}
use Rattle.test_laws.proofs.documents.open_text.Goals as goal

pub returns : goal.returns
returns c = if_ok c.open-opened.result (λ warning took.
    let shows = c.documents_are_the_clients.ensures.current _ c.args.uri.now c.args.language_id.now c.args.version
    c.args.text.now [] _ (_, took.makes, record { sync = refl; held = λ uri. refl }) refl in
    subst (λ item. option_and_then shown ((documents_of c.open-opened.new.self).held c.args.uri.now)
    ≡ option_map (kept_by c.args.documents.now.sync) item) (sym shows.1) shows.2) c.open-opened.ensures.ok
