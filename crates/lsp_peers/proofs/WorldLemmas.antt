-- A world is what its two sides are.
use Rattle.std.proofs.Common.{◌≡◌, List, [], ◌∷◌, ◌++◌, refl, sym, ◌∙◌, subst}
use Rattle.std.proofs.lemmas.List.{map-append}
use Rattle.std.specs.Prelude.{Result, Ok, Err, IfOk, map as each}
use Rattle.lsp_message.specs.Message.{Message}
use Rattle.lsp_peers.specs.declared.fault.WorldFault.{WorldFault}
use Rattle.lsp_peers.specs.declared.step.Outcome.{Outcome}
use Rattle.lsp_peers.specs.declared.step.Side.{Side}
use Rattle.lsp_peers.specs.declared.step.Side.TheVariants.{A, B}
use Rattle.lsp_peers.specs.declared.step.Step.{Step}
use Rattle.lsp_peers.specs.declared.world.World.{World}
use Rattle.lsp_peers.specs.Delivery.{PeersAfter, Continues}
use Rattle.lsp_peers.specs.Exchange.{WorldAfter, IsWholeRun, SideAfter, peer_at, seen_at}
use Rattle.lsp_peers.specs.History.{Entry, entries_of}
use Rattle.lsp_peers.specs.HistoryLaw.{FactsOf}
use Rattle.lsp_peers.specs.Shallow.{IsShallow}
use Rattle.lsp_peers.specs.Sides.{side_of, other}
use Rattle.lsp_peers.proofs.Entries.{entry}
use Rattle.lsp_peers.proofs.FactLemmas.{facts_of}

-- the sides of a world, seen from one of them
pub peers_of : (side : Side) (world : World) (handed : Side → List Message) (history : List Entry) → WorldAfter world
    handed history → PeersAfter (peer_at side world) (peer_at (other side) world) side handed history
peers_of A world handed history after = record {
  lawful = after.lawful;
  near_side = after.sides A;
  far_side = after.sides B;
}
peers_of B world handed history after = record {
  lawful = after.lawful;
  near_side = after.sides B;
  far_side = after.sides A;
}

pub world_of : (side : Side) (world : World) (handed : Side → List Message) (history : List Entry)
    → PeersAfter (peer_at side world) (peer_at (other side) world) side handed history → WorldAfter world handed history
world_of A world handed history after = record { lawful = after.lawful; sides = at }
  where
    at : (s : Side) → SideAfter (seen_at s world) (handed s) (entries_of s history) (entries_of (other s) history)
    at A = after.near_side
    at B = after.far_side
world_of B world handed history after = record { lawful = after.lawful; sides = at }
  where
    at : (s : Side) → SideAfter (seen_at s world) (handed s) (entries_of s history) (entries_of (other s) history)
    at A = after.far_side
    at B = after.near_side

-- one step of a side, as a step of the world
module _ (old : World) (step : Step) (side : Side) (by : side_of step ≡ side) where
  pub from_side : (handed : Side → List Message) (history : List Entry) → WorldAfter old handed history
      → PeersAfter (peer_at side old) (peer_at (other side) old) (side_of step) handed history
  from_side handed history after = subst (λ (s : Side). PeersAfter (peer_at side old) (peer_at (other side) old) s
      handed history) (sym by) (peers_of side old handed history after)

  pub goes : (new : World) (result : Result Outcome WorldFault) → Continues (peer_at side old) (peer_at (other side)
      old)
      (peer_at side new) (peer_at (other side) new) step result → IsShallow step → (handed : Side → List Message)
      (history : List Entry) → WorldAfter old handed history → IfOk result (λ outcome. (e : Entry) × (e.step ≡ step)
      × (e.outcome ≡ outcome) × WorldAfter new handed (history ++ e ∷ []))
  goes new (Err fault) continues shallow handed history after = tt
  goes new (Ok outcome) continues shallow handed history after =
      let went = continues handed history (from_side handed history after) shallow in
      let e : Entry = entry step outcome went.0 in (
        e,
        refl,
        refl,
        world_of side new handed (history ++ e ∷ []) (subst (λ (s : Side). PeersAfter (peer_at side new)
            (peer_at (other side) new) s handed (history ++ e ∷ [])) by went.1),
      )

-- ---- a run

pub whole_nothing : (world : World) → WorldAfter world (λ side. []) [] → IsWholeRun [] [] world
whole_nothing world after = ([], refl, refl, after)

pub whole_more : (steps : List Step) (outcomes : List Outcome) (world new : World) (step : Step) (outcome : Outcome)
    (all : List Outcome) → IsWholeRun steps outcomes world → all ≡ outcomes ++ outcome ∷ []
    → ((handed : Side → List Message) (old : List Entry) → WorldAfter world handed old → (e : Entry) × (e.step ≡ step)
    × (e.outcome ≡ outcome) × WorldAfter new handed (old ++ e ∷ [])) → IsWholeRun (steps ++ step ∷ []) all new
whole_more steps outcomes world new step outcome all run pushed goes =
    let more = goes (λ side. []) run.0 run.3 in (
      run.0 ++ more.0 ∷ [],
      map-append (λ (e : Entry). e.step) run.0 (more.0 ∷ []) ∙ (λ i. run.1 i ++ more.1 i ∷ []),
      map-append (λ (e : Entry). e.outcome) run.0 (more.0 ∷ []) ∙ (λ i. run.2 i ++ more.2 i ∷ []) ∙ sym pushed,
      more.3,
    )

-- the facts of the history are those of its steps and outcomes
pub whole_facts : (steps : List Step) (outcomes : List Outcome) (world : World) → IsWholeRun steps outcomes world
    → FactsOf steps outcomes
whole_facts steps outcomes world run = subst (λ (l : List Outcome). FactsOf steps l) run.2
    (subst (λ (l : List Step). FactsOf l (each (λ (e : Entry). e.outcome) run.0)) run.1
    (facts_of run.0 run.3.lawful))
