-- What a watch keeps of a log.
use Rattle.std.specs.Prelude.{◌≡◌, ℕ, List}
use Rattle.lsp_message.specs.Id.{Id}
use Rattle.lsp_watch.specs.Held.{held, Opened, token_held, Accepted}
use Rattle.lsp_watch.specs.Indexed.{IsIndexed, asked_in}
use Rattle.lsp_watch.specs.Log.{Log, open_of}
use Rattle.lsp_watch.specs.Rules.{lifecycle_of}
use Rattle.lsp_watch.specs.declared.watch.Watch.{Watch}

-- a watch that saw this log
pub record Saw (w : Watch) (log : Log) : Type 0 where
  pub asked_are : asked_in w.asked ≡ open_of log
  pub indexed : IsIndexed w.asked
  pub tokens_are : Accepted w.created log
  pub stands_is : w.stands ≡ lifecycle_of log
  pub documents_are : Opened w.documents log

-- both keep the same
pub record KeepsSame (old new : Watch) : Type 0 where
  pub asked : asked_in new.asked ≡ asked_in old.asked
  pub indexed : IsIndexed old.asked → IsIndexed new.asked
  pub tokens : (name : Id) → token_held new.created name ≡ token_held old.created name
  pub stands : new.stands ≡ old.stands
  pub documents : (uri : List ℕ) → held new.documents uri ≡ held old.documents uri
