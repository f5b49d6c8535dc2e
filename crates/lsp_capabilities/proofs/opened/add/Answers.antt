use Rattle.std.proofs.Common.{◌∙◌, ap, cond, string_bytes, true}
use Rattle.std.proofs.lemmas.Map.Text.{btree_set_updates_text}
use Rattle.std.specs.BTreeSet.{contains_text}
use Rattle.std.specs.Str.{bytes_eq}
use Rattle.lsp_capabilities.proofs.Items.{or_is}
use Rattle.lsp_capabilities.proofs.opened.add.Goals as goal

pub returns : goal.returns
returns c = λ other.
    btree_set_updates_text (string_bytes c.in_ok-uri.uri) c.args.opened.now c.insert.new.self true
    c.in_ok-insert.ensures.updates other
    ∙ ap (λ bs. cond (bytes_eq bs other) true (contains_text c.args.opened.now other)) c.in_ok-uri.ensures.ok
    ∙ or_is (bytes_eq c.args.uri.now other) (contains_text c.args.opened.now other)
