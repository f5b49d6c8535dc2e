-- Breaches that are there in one order, and not in another.
use Rattle.std.proofs.Common.{◌≡◌, true, false, [], ◌∷◌, Ok, Err, codes, pos, refl}
use Rattle.std.specs.List.{list_any}
use Rattle.serde_json.specs.Data.{null}
use Rattle.lsp_message.specs.Id.{number}
use Rattle.lsp_message.specs.Message.{request, notification, response}
use Rattle.lsp_watch.specs.Entries.{no_error}
use Rattle.lsp_watch.specs.Log.{Log, Passed, passed}
use Rattle.lsp_watch.specs.Orders.{AreOrders, is_sure, is_late, is_unasked, any_finding, breaks}
use Rattle.lsp_watch.specs.Verdicts.{findings_of}
use Rattle.lsp_watch.specs.declared.direction.Direction.TheVariants.{ToServer, ToClient}

abbrev asks : Passed
asks = passed ToServer 1 (request (number (pos 1)) (codes "initialize") null)

abbrev replies : Passed
replies = passed ToClient 2 (response (number (pos 1)) (Ok null))

abbrev exits : Passed
exits = passed ToServer 3 (notification (codes "exit") null)

abbrev asked_first : Log
asked_first = replies ∷ (asks ∷ [])

abbrev replied_first : Log
replied_first = asks ∷ (replies ∷ [])

are_orders : AreOrders asked_first replied_first
are_orders = record { client = refl; server = refl }

-- a reply that nobody asked for is a breach of one order alone, so it is not sure
fine_in_one : breaks any_finding asked_first ≡ false
fine_in_one = refl

broken_in_other : breaks any_finding replied_first ≡ true
broken_in_other = refl

not_sure : breaks is_sure replied_first ≡ false
not_sure = refl

-- what is sent after `exit` is sure
exit_twice : breaks is_sure (exits ∷ (exits ∷ [])) ≡ true
exit_twice = refl

abbrev refuses : Passed
refuses = passed ToClient 2 (response (number (pos 1)) (Err no_error))

abbrev asks_again : Passed
asks_again = passed ToServer 3 (request (number (pos 1)) (codes "initialize") null)

-- After a reply that found no request, a late breach is not certain. Here the second `initialize` comes too early, and
-- in the other order it does not.
again_is_late : list_any is_late (findings_of (asks ∷ (refuses ∷ [])) ToServer asks_again.message) ≡ true
again_is_late = refl

refused_nobody : breaks is_unasked (asks ∷ (refuses ∷ [])) ≡ true
refused_nobody = refl

fine_after_refusal : breaks any_finding (asks_again ∷ (refuses ∷ (asks ∷ []))) ≡ false
fine_after_refusal = refl
