-- A response that comes after `shutdown` and is passed over.
use Rattle.lsp_message.specs.Id.{Id}
use Rattle.lsp_message.specs.Message.{Message, request, notification, response}
use Rattle.lsp_session.proofs.Waiting.{and-true}
use Rattle.lsp_session.specs.Session.{Behavior, asked, is_reply, Step}
use Rattle.std.proofs.Common.{◌≡◌, refl, Bool, true, false, ◌&&◌, [], Some}

-- a test that always fails
never_both : (b : Bool) → (b && false) ≡ true → ⊥
never_both b e = let wrong : false ≡ true = (and-true b false e).1 in cc (wrong)

pub late_step : {S : Type 0} (may : Behavior S) (i : Id) (s : S) (m : Message) → (may.passes_late && is_reply m) ≡ true
    → Step may (asked i) s (Some m) [] (asked i) s
late_step may i s (response j outcome) passes = (rw passes (refl, refl), refl)
late_step may i s (request j method params) passes = absurd (never_both may.passes_late passes)
late_step may i s (notification method params) passes = absurd (never_both may.passes_late passes)
