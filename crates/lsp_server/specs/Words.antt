-- What the words of a command line ask for (LSP 3.17, "Implementation Considerations").
use Rattle.std.specs.Prelude.{ℕ, List, [], ◌∷◌, Bool, true, false, not, ◌&&◌, ◌||◌, ◌==◌, Option, Some, None, length}
use Rattle.std.specs.Prelude.{if◌then◌else◌, codes}
use Rattle.std.specs.List.{position_or_len, before_first, after_first, starts_with}
use Rattle.std.specs.Str.{bytes_eq}
use Rattle.lsp_server.specs.declared.words.Channel.{Channel as Asked}
use Rattle.lsp_server.specs.declared.words.Channel.TheVariants.{Standard, Address as AskedAddress, Port as AskedPort}
use Rattle.lsp_server.specs.declared.words.Channel.TheVariants.{Pipe as AskedPipe, Refused}

-- the way between a program and its client: standard input and output; an address, to which clients connect; a port of
-- this machine or a socket file, at which the client listens and to which the program connects; or none, since what the
-- words ask for can't be had
pub data Channel : Type 0 where
  standard : Channel
  address : List ℕ → Channel
  port : List ℕ → Channel
  pipe : List ℕ → Channel
  refused : Channel

-- the channel that the function gives, without the reason of a refusal
abbrev pub channel_view : Asked → Channel
channel_view Standard = standard
channel_view (AskedAddress text) = address text.now
channel_view (AskedPort text) = port text.now
channel_view (AskedPipe name) = pipe name.now
channel_view (Refused reason) = refused

abbrev pub is_equals : ℕ → Bool
is_equals byte = byte == 61

-- an option is a word that begins with `-`
abbrev pub is_option : List ℕ → Bool
is_option word = starts_with (λ a b. a == b) word (codes "-")

-- what stands before the first `=`, or the whole word
abbrev pub option_name : List ℕ → List ℕ
option_name word = before_first is_equals word

-- what stands behind the first `=`
abbrev pub option_value : List ℕ → Option (List ℕ)
option_value word = if position_or_len is_equals word == length word then None else Some (after_first is_equals word)

abbrev pub is_port_name : List ℕ → Bool
is_port_name name = bytes_eq name (codes "--socket") || bytes_eq name (codes "--port")

-- an option whose name is none of those that LSP 3.17 has
abbrev pub is_unknown : List ℕ → Bool
is_unknown word = is_option word && not (bytes_eq (option_name word) (codes "--stdio")
    || (bytes_eq (option_name word) (codes "--pipe") || (is_port_name (option_name word)
    || (bytes_eq (option_name word) (codes "--node-ipc") || bytes_eq (option_name word) (codes "--clientProcessId")))))

-- at `--pipe`: the name behind `=`, else the next word
abbrev pub asks_pipe : Option (List ℕ) → Option (List ℕ) → Channel
asks_pipe (Some name) next = pipe name
asks_pipe None (Some name) = pipe name
asks_pipe None None = refused

-- a port has to be named
abbrev pub with_port : Channel → Channel
with_port standard = refused
with_port (address text) = address text
with_port (port text) = port text
with_port (pipe name) = pipe name
with_port refused = refused

-- at `--socket` and `--port`: the port behind `=`, else the next word, but for an option. Then those that follow name
-- it
abbrev pub asks_port : Option (List ℕ) → Option (List ℕ) → Channel → Channel
asks_port (Some text) next later = port text
asks_port None (Some text) later = if is_option text then with_port later else port text
asks_port None None later = refused

-- at `--clientProcessId` the number is behind `=`, or the next word
abbrev pub passes_number : Option (List ℕ) → Channel → Channel → Channel
passes_number (Some number) later later_still = later
passes_number None later later_still = later_still

-- what a word asks for, where the next word is `next`, all words behind it ask for `later`, and those behind the next
-- for `later_still`
abbrev pub asks : List ℕ → Option (List ℕ) → Channel → Channel → Channel
asks word next later later_still =
    if not (is_option word) then address word
    else if bytes_eq (option_name word) (codes "--node-ipc") then refused
    else if bytes_eq (option_name word) (codes "--pipe") then asks_pipe (option_value word) next
    else if is_port_name (option_name word) then asks_port (option_value word) next later
    else if bytes_eq (option_name word) (codes "--clientProcessId")
    then passes_number (option_value word) later later_still
    else later

abbrev pub first : List (List ℕ) → Option (List ℕ)
first [] = None
first (word ∷ rest) = Some word

-- what the words ask for, where `true` passes over the first of them
abbrev pub asked_from : Bool → List (List ℕ) → Channel
asked_from skips [] = standard
asked_from true (word ∷ rest) = asked_from false rest
asked_from false (word ∷ rest) = asks word (first rest) (asked_from false rest) (asked_from true rest)

-- the first word that asks for a channel decides. `--stdio`, the number of the client's process and unknown options are
-- passed over; without a word that decides it is standard input and output
abbrev pub channel_of : List (List ℕ) → Channel
channel_of words = asked_from false words
