-- What a judgement says of the messages that it saw.
use Rattle.std.specs.List.{list_any}
use Rattle.std.specs.Prelude.{◌≡◌, ℕ, Bool, true, false, ◌&&◌, ◌||◌, not, if◌then◌else◌, List, [], ◌++◌, Option, Some}
use Rattle.std.specs.Prelude.{None, codes, map, option_to_list}
use Rattle.serde_json.specs.Data.{Data}
use Rattle.lsp_capabilities.specs.Announced.{known_finding}
use Rattle.lsp_capabilities.specs.Knows.{Knows}
use Rattle.lsp_message.specs.Message.{Message}
use Rattle.lsp_model.specs.declared.model.Model.{Model}
use Rattle.lsp_watch.specs.Log.{Log, Finding, asks, from_client}
use Rattle.lsp_watch.specs.Saw.{Saw}
use Rattle.lsp_watch.specs.Orders.{says_unasked}
use Rattle.lsp_watch.specs.Verdicts.{breaches_of, as_breach, entered, begins_in, unanswered_of}
use Rattle.lsp_watch.specs.declared.breach.Breach.{Breach}
use Rattle.lsp_watch.specs.declared.breach.Verdict.{Verdict}
use Rattle.lsp_watch.specs.declared.rule.Rule.{Rule}
use Rattle.lsp_watch.specs.declared.direction.Direction.{Direction}
use Rattle.lsp_judge.specs.Choice.{fails, fails_shown, leaves, is_known, narrowed}
use Rattle.lsp_judge.specs.Types.{unfit}
use Rattle.lsp_judge.specs.declared.choice.Choice.{Choice}
use Rattle.lsp_judge.specs.declared.judgement.Judgement.{Judgement}
use Rattle.lsp_judge.specs.declared.passed.Order.{Order}

-- the messages of the session that goes on, whether it was seen from its first one on, whether there was a message,
-- whether the status is 1, whether each reply had its request wherever the order is not known, whether what both sides
-- announced is judged, and the methods and types of LSP, if messages are judged by them
pub record Judged : Type 0 where
  pub log : Log
  pub is_whole : Bool
  pub is_begun : Bool
  pub is_broken : Bool
  pub is_matched : Bool
  pub announces : Bool
  pub model : Option Model

abbrev pub nothing : Bool → Option Model → Judged
nothing announces model = record {
  log = [];
  is_whole = true;
  is_begun = false;
  is_broken = false;
  is_matched = true;
  announces = announces;
  model = model;
}

abbrev pub is_initialize : Direction → Option Message → Bool
is_initialize direction None = false
is_initialize direction (Some m) = from_client direction && asks (codes "initialize") m

-- what a message goes against, of what both sides announced; with the whole message
abbrev pub against_known : Log → Direction → Option Message → Option Data → List Finding
against_known log direction None d = []
against_known log direction (Some m) None = []
against_known log direction (Some m) (Some d) = option_to_list (known_finding log direction m d)

abbrev pub against : Bool → Log → Direction → Option Message → Option Data → List Breach
against announces log direction m d = map (as_breach true) (if announces then against_known log direction m d else [])

-- all that a message breaks
abbrev pub broken_of : Judged → Direction → List Rule → Option Message → Option Data → List Breach
broken_of j direction faults m d = breaches_of j.is_whole j.log direction faults m
    ++ against j.announces j.log direction m d

-- the session after the message
abbrev pub goes_in : Judged → ℕ → Direction → Option Message → Judged
goes_in j place direction m = record j { log = entered direction place m j.log }

abbrev pub is_unasked : Breach → Bool
is_unasked b = says_unasked b.rule

-- the judgement of a session of which nothing passed
abbrev pub begins : Bool → Bool → Bool → Judged → Judged
begins is_whole is_broken is_matched j = record {
  log = [];
  is_whole = is_whole;
  is_begun = true;
  is_broken = is_broken;
  is_matched = is_matched;
  announces = j.announces;
  model = j.model;
}

abbrev pub goes_on : Judged → Judged
goes_on j = record j { is_begun = true }

-- a message is the first one of a session that is seen from its middle on
abbrev pub begins_late : Bool → Judged → Direction → Option Message → Bool
begins_late may_begin_late j direction m = not j.is_begun && (may_begin_late && not (is_initialize direction m))

module _ (choice : Choice) where
  -- the requests that are left without a reply break a rule
  abbrev pub left : Bool → Bool → Judged → Bool
  left server_ended client_ended j = j.is_broken
      || (j.is_matched && list_any (leaves choice) (unanswered_of server_ended client_ended j.log))

  -- A message begins the judgement of a session that is seen from its middle on, or that of a new one, or it goes on.
  abbrev pub begun : Bool → Order → Judged → Direction → Option Message → Judged
  begun may_begin_late order j direction m =
      if begins_late may_begin_late j direction m then begins false j.is_broken j.is_matched j
      else if begins_in j.is_whole j.log direction m
      then begins true (left true true j) (j.is_matched && is_known order) j
      else goes_on j

  -- the session after a message, by how sure its breaches of the rules of types are
  abbrev pub passed_on : Order → Option Verdict → Judged → ℕ → Direction → List Rule → Option Message → Option Data
      → Judged
  passed_on order types j place direction faults m d = record {
    log = entered direction place m j.log;
    is_whole = j.is_whole;
    is_begun = true;
    is_broken =
        j.is_broken || (list_any (fails choice (narrowed order j.is_matched) direction)
        (broken_of j direction faults m d)
        || list_any (fails_shown choice (narrowed order j.is_matched) types direction)
        (unfit j.model choice types j.log direction m d));
    is_matched = j.is_matched && (is_known order || not (list_any is_unasked (broken_of j direction faults m d)));
    announces = j.announces;
    model = j.model;
  }

  -- one more message
  abbrev pub seen : Bool → Order → Option Verdict → Judged → ℕ → Direction → List Rule → Option Message → Option Data
      → Judged
  seen may_begin_late order types j place direction faults m d =
      passed_on order types (begun may_begin_late order j direction m) place direction faults m d

-- a judgement that saw this
pub record Judges (judgement : Judgement) (j : Judged) : Type 0 where
  pub watch : Saw judgement.watch j.log
  pub whole : judgement.watch.is_whole ≡ j.is_whole
  pub begun_is : judgement.is_begun ≡ j.is_begun
  pub broken : judgement.is_broken ≡ j.is_broken
  pub matched : judgement.is_matched ≡ j.is_matched
  pub announces_is : judgement.announces ≡ j.announces
  pub model_is : judgement.model ≡ j.model
  pub knows : j.announces ≡ true → Knows judgement.announced j.log
