-- What a watch says of a message and of the end of a session.
use Rattle.std.specs.Prelude.{ℕ, Bool, false, ◌||◌, List, [], ◌∷◌, ◌++◌, Option, Some, None, is_some, map, filter}
use Rattle.std.specs.Prelude.{option_to_list, ◌&&◌, not, if◌then◌else◌, codes}
use Rattle.lsp_message.specs.Message.{Message}
use Rattle.lsp_watch.specs.Documents.{document_finding}
use Rattle.lsp_watch.specs.Log.{Log, Finding, Open, asks, from_client, passed, open_of}
use Rattle.lsp_watch.specs.Progress.{progress_finding}
use Rattle.lsp_watch.specs.Rules.{session_finding, lifecycle_of}
use Rattle.lsp_watch.specs.declared.breach.Breach.{Breach}
use Rattle.lsp_watch.specs.declared.breach.Unanswered.{Unanswered}
use Rattle.lsp_watch.specs.declared.breach.Verdict.TheVariants as verdict
use Rattle.lsp_watch.specs.declared.rule.Rule.{Rule}
use Rattle.lsp_watch.specs.declared.rule.Rule.TheVariants.{Unreadable}
use Rattle.lsp_watch.specs.declared.breach.Verdict.{Verdict}
use Rattle.lsp_watch.specs.declared.direction.Direction.{Direction}

-- what is broken only because something did not pass cannot be told of a log that begins in the middle of a session
abbrev pub verdict_of : Bool → Bool → Verdict
verdict_of is_whole is_against = if is_whole || is_against then verdict.Breach else verdict.CannotTell

abbrev pub as_breach : Bool → Finding → Breach
as_breach is_whole found =
    record { rule = found.0; verdict = verdict_of is_whole (is_some found.1); against = found.1 }

-- the rules that a message breaks, by all that passed before it
abbrev pub findings_of : Log → Direction → Message → List Finding
findings_of before direction m = option_to_list (session_finding before direction m)
    ++ (option_to_list (document_finding before direction m) ++ option_to_list (progress_finding before direction m))

-- what cannot be read may be right
abbrev pub shape_verdict : Rule → Verdict
shape_verdict Unreadable = verdict.CannotTell
shape_verdict rule = verdict.Breach

abbrev pub shape_breach : Rule → Breach
shape_breach rule = record { rule = rule; verdict = shape_verdict rule; against = None }

abbrev pub entry_findings : Log → Direction → Option Message → List Finding
entry_findings before direction None = []
entry_findings before direction (Some m) = findings_of before direction m

-- What is said of a message, which may be one that cannot be placed in a session: the rules of its shape, and then
-- those of the session.
abbrev pub breaches_of : Bool → Log → Direction → List Rule → Option Message → List Breach
breaches_of is_whole before direction faults m =
    map shape_breach faults ++ map (as_breach is_whole) (entry_findings before direction m)

-- the log after the message
abbrev pub entered : Direction → ℕ → Option Message → Log → Log
entered direction place None log = log
entered direction place (Some m) log = passed direction place m ∷ log

-- A message begins a new session: `initialize` behind `exit`, or any in a log that began in the middle of a session.
abbrev pub begins_in : Bool → Log → Direction → Option Message → Bool
begins_in is_whole before direction None = false
begins_in is_whole before direction (Some m) =
    from_client direction && (asks (codes "initialize") m && (not is_whole || is_some ((lifecycle_of before).exit)))

-- ---- the end

-- of a client it cannot be told: it may end before its user has answered
abbrev pub as_unanswered : Open → Unanswered
as_unanswered o = record {
  direction = o.direction;
  place = o.place;
  verdict = if from_client o.direction then verdict.Breach else verdict.CannotTell;
}

-- whether the side has ended that was asked
abbrev pub is_over : Bool → Bool → Open → Bool
is_over server_ended client_ended o = if from_client o.direction then server_ended else client_ended

-- the requests that have no reply, where the sides have ended, each by itself or by `exit`
abbrev pub unanswered_of : Bool → Bool → Log → List Unanswered
unanswered_of server_ended client_ended log = let left : Bool = is_some ((lifecycle_of log).exit) in
    map as_unanswered (filter (is_over (server_ended || left) (client_ended || left)) (open_of log))
