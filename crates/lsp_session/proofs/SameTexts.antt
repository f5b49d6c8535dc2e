-- Two protocol errors are equal if both parts of their texts are.
use Rattle.std.proofs.Common.{refl}
use Rattle.std.specs.Prelude.{◌≡◌, Bool, true, false, ◌&&◌}
use Rattle.std.specs.Str.{bytes_eq}
use Rattle.lsp_session.specs.ProtocolError.{ProtocolFault, disconnected, expected_initialize, aborted}
use Rattle.lsp_session.specs.ProtocolError.{expected_initialized, unexpected_in_shutdown, shutdown_timeout}
use Rattle.lsp_session.specs.ProtocolError.{shutdown_disconnected, out_of_memory, refused_closed, refused_memory}
use Rattle.lsp_session.specs.ProtocolError.{fixed_text, open_text, fault_eq}

and_true : (b : Bool) → (b && true) ≡ b
and_true true = refl
and_true false = refl

pub same_text : (a b : ProtocolFault) → fault_eq a b ≡ (bytes_eq (fixed_text a) (fixed_text b) && bytes_eq (open_text a)
    (open_text b))
same_text disconnected disconnected = refl
same_text disconnected b = refl
same_text (expected_initialize s) (expected_initialize t) = and_true (bytes_eq s t)
same_text (expected_initialize s) b = refl
same_text aborted aborted = refl
same_text aborted b = refl
same_text (expected_initialized s) (expected_initialized t) = and_true (bytes_eq s t)
same_text (expected_initialized s) b = refl
same_text (unexpected_in_shutdown s) (unexpected_in_shutdown t) = and_true (bytes_eq s t)
same_text (unexpected_in_shutdown s) b = refl
same_text shutdown_timeout shutdown_timeout = refl
same_text shutdown_timeout b = refl
same_text shutdown_disconnected shutdown_disconnected = refl
same_text shutdown_disconnected b = refl
same_text out_of_memory out_of_memory = refl
same_text out_of_memory b = refl
same_text refused_closed refused_closed = refl
same_text refused_closed b = refl
same_text refused_memory refused_memory = refl
same_text refused_memory b = refl
