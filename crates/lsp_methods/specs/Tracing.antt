-- How much trace a client wants, and what a server sends it (LSP 3.17, "TraceValue" and "LogTrace").
use Rattle.std.specs.Prelude.{Bool, true, false, List, ℕ, [], ◌∷◌, Option, None, Some, codes, option_map, if◌then◌else◌}
use Rattle.std.specs.Str.{bytes_eq}
use Rattle.serde_json.specs.Data.{string}
use Rattle.lsp_acts.specs.Acts.{Act, tells}
use Rattle.lsp_types.specs.Json.{object_of}
use Rattle.lsp_methods.specs.declared.tracing.TraceValue.{TraceValue}
use Rattle.lsp_methods.specs.declared.tracing.TraceValue.TheVariants.{Off, Messages, Verbose}

-- the value of a name
abbrev pub trace_named : List ℕ → Option TraceValue
trace_named name =
    if bytes_eq name (codes "off") then Some Off
    else (if bytes_eq name (codes "messages") then Some Messages
    else (if bytes_eq name (codes "verbose") then Some Verbose else None))

abbrev pub or_off : Option TraceValue → TraceValue
or_off None = Off
or_off (Some value) = value

-- whether something is sent
abbrev pub wants_trace : TraceValue → Bool
wants_trace Off = false
wants_trace Messages = true
wants_trace Verbose = true

-- what is sent besides the message
abbrev pub verbose_of : TraceValue → Option (List ℕ) → Option (List ℕ)
verbose_of Off verbose = None
verbose_of Messages verbose = None
verbose_of Verbose verbose = verbose

-- what says what the server does
abbrev pub traces : {P : Type 0} → TraceValue → List ℕ → Option (List ℕ) → Act P
traces value message verbose = tells (codes "$/logTrace") (object_of (
    (codes "message", Some (string message))
    ∷ (codes "verbose", option_map string (verbose_of value verbose)) ∷ []))
