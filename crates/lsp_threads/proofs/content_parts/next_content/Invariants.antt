use Rattle.std.specs.Prelude.{◌≡◌, false}
use Rattle.lsp_relay.specs.Relay.{has_end}
use Rattle.lsp_threads.specs.Contents.{bytes_of, Collects, parts_of}
use Rattle.lsp_threads.proofs.content_parts.next_content.Given as goal

abbrev pub invariant-loop : goal.invariant-loop
invariant-loop g l = record {
  relay : l.rx.relay ≡ l.fn.rx.relay;
  known : (l.rx.source ≡ l.fn.rx.source) × (l.rx.wakeable ≡ l.fn.rx.wakeable);
  collects : Collects l.fn.rx.taken (bytes_of l.fn.waiting.items) l.rx.taken (bytes_of l.waiting.items);
  still_open : has_end l.rx.taken ≡ false;
  account : l.taken.parts ≡ parts_of l.rx.taken;
  wakes : l.rx.wakes ≡ l.fn.rx.wakes;
}
