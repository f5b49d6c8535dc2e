use Rattle.std.proofs.Common.{◌≡◌, ◌∙◌, true, false}
use Rattle.lsp_watch.proofs.Tokens.{ends, stays}
use Rattle.lsp_watch.specs.Held.{token_held}
use Rattle.lsp_watch.proofs.progress.Created.end_under.Goals as goal

pub returns-then-not-is_live-clause-ok : goal.returns-then-not-is_live-clause-ok
returns-then-not-is_live-clause-ok c = λ other.
    let no : c.is_live.result ≡ false = cc in
    stays (token_held c.args.self.now) c.args.name other c.args.place (c.is_live.ensures.other no c.args.place)

pub returns-clause-ok : goal.returns-clause-ok
returns-clause-ok c = λ other.
    let yes : c.is_live.result ≡ true = cc in
    c.in_ok-put.ensures.ok other
    ∙ ends (token_held c.args.self.now) c.args.name other c.args.place (c.is_live.ensures.live yes)
