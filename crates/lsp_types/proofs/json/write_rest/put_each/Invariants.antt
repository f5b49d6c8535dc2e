use Rattle.std.proofs.Common.{Some, string_bytes}
use Rattle.serde_json.specs.View.{members_view, view}
use Rattle.lsp_types.proofs.JsonLemmas.{WithUpTo}
use Rattle.lsp_types.proofs.json.write_rest.put_each.Given as goal

abbrev pub invariant-loop-key : goal.invariant-loop-key
invariant-loop-key l = WithUpTo (λ entry. (string_bytes entry.0, Some (view entry.1))) l.more.entries
    l.key-iterator (members_view l.initial.members.entries) (members_view l.members.entries)
