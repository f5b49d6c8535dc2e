use Rattle.std.proofs.Common.{◌≡◌, ◌++◌, drop}
use Rattle.lsp_types.specs.Tokens.{are_behind, numbers_behind}
use Rattle.lsp_types.proofs.semantic_tokens.SemanticTokens.encode.Given as goal

abbrev pub invariant-loop-token : goal.invariant-loop-token
invariant-loop-token l = record {
  numbers : l.«data».items ++ numbers_behind l.line l.start (drop l.token-index l.tokens) ≡ numbers_behind 0 0 l.tokens;
  ordered : are_behind l.line l.start (drop l.token-index l.tokens) ≡ are_behind 0 0 l.tokens;
}
