use Rattle.std.proofs.Common.{◌∙◌, sym}
use Rattle.lsp_peers.specs.declared.step.Side.TheVariants.{A, B}
use Rattle.example_two_peers.proofs.Left.{both_taken, both_idle, no_bytes, some_bytes}
use Rattle.example_two_peers.proofs.run_through.Goals as goal
use Rattle.example_two_peers.proofs.run_through.Goals.{then-is_idle, else-is_idle}

pub returns-clause-took : goal.returns-clause-took
returns-clause-took c =
    let told = c.in_ok-world.ensures.exchanged in
    record {
      history = told.0;
      steps_are = told.1;
      outcomes_are = told.2;
      after = told.3;
      took = λ idle side. elim c.if-is_idle.branch [
        | then-is_idle w ↦ both_taken c.in_ok-world.world told.0 told.3
            (no_bytes _ _ c.is_idle.ensures w.if-is_idle.true)
            (no_bytes _ _ w.is_idle-all.ensures (sym w.all-is ∙ idle)) side
        | else-is_idle w ↦ cc
      ];
      left = λ all. (let none = both_idle c.in_ok-world.world told.0 told.3 all in
          elim c.if-is_idle.branch [
            | then-is_idle w ↦ w.all-is ∙ some_bytes _ _ w.is_idle-all.ensures (none B)
            | else-is_idle w ↦ let idle = some_bytes _ _ c.is_idle.ensures (none A) in cc
          ]);
      placed = λ side. c.each_request_is_in_one_place.ensures told.0 told.3.lawful side;
      watched = λ client log passes. c.peers_keep_ids.ensures client told.0 log told.3.lawful passes;
    }
