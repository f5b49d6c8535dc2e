-- Why a handshake, or the end of a session, failed (LSP 3.17, "Server lifecycle"), and the text of each cause.
use Rattle.std.specs.Bool.{beq}
use Rattle.std.specs.Prelude.{◌≡◌, ◌⊎◌, ℕ, List, [], ◌++◌, Bool, true, false, ◌&&◌, codes, string_bytes}
use Rattle.std.specs.Str.{bytes_eq}
use Rattle.lsp_session.specs.declared.error.ProtocolRepr.{ProtocolRepr}
use Rattle.lsp_session.specs.declared.error.ProtocolRepr.TheVariants as variant
use Rattle.lsp_session.specs.declared.lifecycle.SendFault.{SendFault}
use Rattle.lsp_session.specs.declared.lifecycle.SendFault.TheVariants.{Closed, Memory}

-- the list of bytes, if there is one, is the end of the text, which shows the message that came
pub data ProtocolFault : Type 0 where
  disconnected : ProtocolFault
  expected_initialize : List ℕ → ProtocolFault
  aborted : ProtocolFault
  expected_initialized : List ℕ → ProtocolFault
  unexpected_in_shutdown : List ℕ → ProtocolFault
  shutdown_timeout : ProtocolFault
  shutdown_disconnected : ProtocolFault
  out_of_memory : ProtocolFault
  -- the outbox refused a message: it was closed, or an allocation failed in it
  refused_closed : ProtocolFault
  refused_memory : ProtocolFault

-- how the text begins
abbrev pub fixed_text : ProtocolFault → List ℕ
fixed_text disconnected = codes "disconnected channel"
fixed_text (expected_initialize shown) = codes "expected initialize request, got "
fixed_text aborted = codes "Initialization has been aborted during initialization"
fixed_text (expected_initialized shown) = codes "expected initialized notification, got: "
fixed_text (unexpected_in_shutdown shown) = codes "unexpected message during shutdown: "
fixed_text shutdown_timeout = codes "timed out waiting for exit notification"
fixed_text shutdown_disconnected = codes "channel disconnected waiting for exit notification"
fixed_text out_of_memory = codes "out of memory"
fixed_text refused_closed = codes "disconnected channel"
fixed_text refused_memory = codes "out of memory"

-- how it ends
abbrev pub open_text : ProtocolFault → List ℕ
open_text (expected_initialize shown) = shown
open_text (expected_initialized shown) = shown
open_text (unexpected_in_shutdown shown) = shown
open_text fault = []

abbrev pub fault_text : ProtocolFault → List ℕ
fault_text fault = fixed_text fault ++ open_text fault

-- the inbox was closed, or the outbox
abbrev pub is_disconnected : ProtocolFault → Bool
is_disconnected disconnected = true
is_disconnected shutdown_disconnected = true
is_disconnected refused_closed = true
is_disconnected fault = false

abbrev pub is_memory : ProtocolFault → Bool
is_memory out_of_memory = true
is_memory refused_memory = true
is_memory fault = false

-- the same text, and the same answer to whether the channel is disconnected
abbrev pub fault_eq : ProtocolFault → ProtocolFault → Bool
fault_eq a b = bytes_eq (fault_text a) (fault_text b) && beq (is_disconnected a) (is_disconnected b)

-- the fault that an error keeps
abbrev pub fault_kept : ProtocolRepr → ProtocolFault
fault_kept variant.Disconnected = disconnected
fault_kept (variant.ExpectedInitialize shown) = expected_initialize (string_bytes shown)
fault_kept variant.Aborted = aborted
fault_kept (variant.ExpectedInitialized shown) = expected_initialized (string_bytes shown)
fault_kept (variant.UnexpectedInShutdown shown) = unexpected_in_shutdown (string_bytes shown)
fault_kept variant.ShutdownTimeout = shutdown_timeout
fault_kept variant.ShutdownDisconnected = shutdown_disconnected
fault_kept variant.OutOfMemory = out_of_memory
fault_kept variant.RefusedClosed = refused_closed
fault_kept variant.RefusedMemory = refused_memory

-- the fault is of this kind, and shows a message
abbrev pub Shows : (List ℕ → ProtocolFault) → ProtocolFault → Type 0
Shows fault answer = (shown : List ℕ) × (answer ≡ fault shown)

-- The fault shows a message that the lifecycle does not allow where it came: in the place of `initialized`, or of
-- `exit` after `shutdown`.
abbrev pub ShowsUnallowed : ProtocolFault → Type 0
ShowsUnallowed fault = Shows expected_initialized fault ⊎ Shows unexpected_in_shutdown fault

-- the fault if the outbox refuses a message
abbrev pub fault_of_refusal : SendFault → ProtocolFault
fault_of_refusal (Closed back) = refused_closed
fault_of_refusal (Memory back) = refused_memory
