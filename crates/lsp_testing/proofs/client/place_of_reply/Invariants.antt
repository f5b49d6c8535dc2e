use Rattle.std.proofs.Common.{◌≡◌, false}
use Rattle.std.specs.List.{AllWithin}
use Rattle.lsp_testing.specs.Client.{is_reply_to}
use Rattle.lsp_testing.proofs.client.place_of_reply.Given as goal

abbrev pub invariant-loop-place : goal.invariant-loop-place
invariant-loop-place l = AllWithin (λ m. is_reply_to l.fn.id m ≡ false) l.fn.messages 0 l.place
