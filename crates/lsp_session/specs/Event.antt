-- What a receive gives, as plain data.
use Rattle.lsp_calls.specs.Calls.{call_content_view}
use Rattle.lsp_message.specs.Message.{Message}
use Rattle.lsp_message.specs.View.{message_view}
use Rattle.lsp_session.specs.declared.lifecycle.Arrival as arrival
use Rattle.lsp_session.specs.declared.lifecycle.Arrival.TheVariants as arrives
use Rattle.lsp_session.specs.declared.lifecycle.Event as event
use Rattle.lsp_session.specs.declared.lifecycle.Event.TheVariants as variant

pub data Event : Type 0 where
  message : Message → Event
  -- nothing came in time
  timeout : Event
  -- nothing will come any more
  closed : Event
  -- something that the service waits for is ready; only a session that serves its client asks for that
  woken : Event

abbrev pub event_view : event.Event → Event
event_view (variant.Message m) = message (message_view m)
event_view variant.Timeout = timeout
event_view variant.Closed = closed

abbrev pub arrival_view : arrival.Arrival → Event
arrival_view (arrives.Message m) = message (message_view m)
arrival_view (arrives.Call content) = message (call_content_view content)
arrival_view arrives.Woken = woken
arrival_view arrives.Closed = closed
