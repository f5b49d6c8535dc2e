use Rattle.std.proofs.Common.{◌∙◌, ap, sym, subst, cond, ◌&&◌, ◌||◌, ◌==◌}
use Rattle.std.specs.BTreeSet.{contains, contains_text}
use Rattle.std.specs.Ordering.{nat_cmp}
use Rattle.serde_json.specs.View.{view}
use Rattle.lsp_watch.specs.Documents.{params_in}
use Rattle.lsp_watch.specs.Entries.{entry_view}
use Rattle.lsp_watch.specs.Log.{passed, answers_initialize, is_success, is_initialize}
use Rattle.lsp_capabilities.specs.Announced.{capabilities_in, result_in, opens, asks_unannounced}
use Rattle.lsp_capabilities.specs.Knows.{Holds}
use Rattle.lsp_capabilities.proofs.announced.Announced.keep.Goals as goal

pub returns : goal.returns
returns c = λ log saw knows.
    let m = entry_view c.args.message.now in
    let p = passed c.args.direction c.args.place m in
    let server = c.in_ok-keep_server.ensures.same in
    let client = c.in_ok-keep_client.ensures.same in
    record {
      server_is = ap view client.0 ∙ c.in_ok-keep_server.ensures.server log c.args.place saw
          ∙ ap (cond (answers_initialize log p && is_success m) (capabilities_in (result_in m))) knows.server_is;
      client_is = c.in_ok-keep_client.ensures.client c.args.place
          ∙ ap (cond (is_initialize p) (capabilities_in (params_in m))) (ap view server.0 ∙ knows.client_is);
      registrations_are = c.in_ok-keep.ensures log saw
          (subst (λ rs. Holds rs log) (sym (client.1 ∙ server.1)) knows.registrations_are);
      unannounced_are = λ place. ap (λ s. contains nat_cmp s place) (client.2 ∙ server.2) ∙ c.in_ok-add_if.ensures place
          ∙ ap (λ b. (c.args.place == place && b) || contains nat_cmp c.args.self.now.unannounced place)
          (c.asks_unannounced-asks.ensures log knows)
          ∙ ap (λ b. (c.args.place == place && asks_unannounced log c.args.direction m) || b)
          (knows.unannounced_are place);
      known_is = c.in_ok-keep_client.ensures.known c.args.place
          ∙ ap (λ b. is_initialize p || b) (server.4 ∙ knows.known_is);
      opened_are = λ uri. c.in_ok-keep_opened.ensures uri
          ∙ ap (λ b. opens uri c.args.direction m || b)
          (ap (λ s. contains_text s uri) (client.3 ∙ server.3) ∙ knows.opened_are uri);
    }
