use Rattle.std.proofs.Common.{Some, string_bytes, ap, ◌∙◌, arith}
use Rattle.std.proofs.lemmas.Grind.{common_steps}
use Rattle.serde_json.specs.View.{members_view, view}
use Rattle.lsp_types.specs.Json.{with_member}
use Rattle.lsp_types.proofs.JsonLemmas.{WithUpTo-start, WithUpTo-more, WithUpTo-all}
use Rattle.lsp_types.proofs.json.write_rest.put_each.Goals as goal

pub loop-key-init : goal.loop-key-init
loop-key-init c = WithUpTo-start (λ entry. (string_bytes entry.0, Some (view entry.1))) _ _ _
    c.into_iter-key-iterator.ensures.into_iter_gives.0

pub loop-key-preserved : goal.loop-key-preserved
loop-key-preserved c = WithUpTo-more (λ entry. (string_bytes entry.0, Some (view entry.1))) _ _ _
    (c.in-Some.key.now, c.in-Some.value.now) _ _ _ c.loop-key.invariant c.in-Some.ensures.steps
    (c.in_ok-put_copy.ensures ∙ ap (λ key. with_member (members_view c.loop-key.members.entries) (
      key,
      Some (view c.in-Some.value.now),
    )) c.as_str.ensures.value)

pub returns : goal.returns
returns c = WithUpTo-all (λ entry. (string_bytes entry.0, Some (view entry.1))) _ _ _ _
    c.loop-key.invariant (grind (arith, common_steps, c.in-None.ensures.steps.0))
