use Rattle.serde_json.specs.View.{view}
use Rattle.std.proofs.Common.{◌≡◌, [], ◌∷◌, map, string_bytes, Global, Vec}
use Rattle.lsp_acts.specs.Acts.{replies}
use Rattle.lsp_acts.specs.declared.server.Act.{Act}
use Rattle.lsp_documents.specs.Held.{texts_of}
use Rattle.lsp_jobs.specs.Ends.{Outcome}
use Rattle.lsp_types.specs.contracts.symbols.WorkspaceSymbolToJson.TheImpl as symbol
use Rattle.example_toml.proofs.Replies.{if_ok_to}
use Rattle.example_toml.specs.Reactions.{act_seen}
use Rattle.example_toml.specs.Replies.{RepliesFound}
use Rattle.example_toml.specs.Searches.{AnswersOrRefuses}
use Rattle.example_toml.proofs.server.TomlServer.reply_to.Goals as goal

pub returns-in-text-clause-search : goal.returns-in-text-clause-search
returns-in-text-clause-search c =
    let documents = c.args.self.now.texts.documents in
    let id = c.args.request.id in
    let params = view c.args.request.params in
    if_ok_to (λ (acts : Vec (Act (Unit {0})) Global). (outcome : Outcome)
    × (map act_seen acts.items ≡ replies id outcome ∷ [])
    × AnswersOrRefuses symbol.ghosts.stands (texts_of documents) params outcome)
    (λ acts. RepliesFound symbol.ghosts.stands documents id (string_bytes c.args.request.method) params
    (map act_seen acts.items)) c.search.result (λ acts replied is. replied) c.search.ensures
