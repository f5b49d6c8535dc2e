use Rattle.serde_json.specs.View.{view}
use Rattle.std.proofs.Common.{ap, refl, Global, Vec}
use Rattle.std.specs.Prelude.{Err, Ok}
use Rattle.lsp_acts.specs.Acts.{replies}
use Rattle.lsp_acts.specs.declared.server.Act.{Act}
use Rattle.lsp_documents.specs.Held.{texts_of}
use Rattle.lsp_message.specs.Message.{ErrorObject}
use Rattle.lsp_types.specs.contracts.symbols.WorkspaceSymbolToJson.TheImpl as symbol
use Rattle.example_toml.proofs.Replies.{finds_now, if_some, match_none, match_some, refuses_now, replied}
use Rattle.example_toml.specs.Searches.{AnswersOrRefuses, no_query}
use Rattle.example_toml.proofs.server.TomlServer.search.Goals as goal

pub returns-in-Some : goal.returns-in-Some
returns-in-Some c =
    let texts = texts_of c.args.self.now.texts.documents in
    let params = view c.args.request.params in
    replied (λ (acts : Vec (Act (Unit {0})) Global). acts.items) c.one.result _ c.args.request.id
    (Ok (view c.in_ok-found-in-Some.found)) (AnswersOrRefuses symbol.ghosts.stands texts params) refl
    (finds_now symbol.ghosts.stands _ texts _ _ params _
    (match_some _ _ _ _ c.in-Some.is c.in_ok-search.ensures.query)
    (if_some _ _ _ c.in-Some.is c.in_ok-search.ensures.texts) c.in_ok-found-in-Some.ensures) c.one.ensures

pub returns : goal.returns
returns c =
    let texts = texts_of c.args.self.now.texts.documents in
    let params = view c.args.request.params in
    replied (λ (acts : Vec (Act (Unit {0})) Global). acts.items) c.one-in-None.result _ c.args.request.id
    (Err no_query) (AnswersOrRefuses symbol.ghosts.stands texts params)
    (ap (λ (e : ErrorObject). replies c.args.request.id (Err e)) c.in_ok-error-in-None.ensures)
    (refuses_now symbol.ghosts.stands texts params
    (match_none _ _ _ c.in-None.is c.in_ok-search.ensures.query)) c.one-in-None.ensures
