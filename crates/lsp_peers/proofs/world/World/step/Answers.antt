use Rattle.std.proofs.Common.{sym, ◌∙◌}
use Rattle.lsp_peers.specs.declared.step.Side.TheVariants.{A, B}
use Rattle.lsp_peers.proofs.WorldLemmas.{goes, from_side}
use Rattle.lsp_peers.proofs.world.World.step.Goals as goal

pub returns-in-A-clause-exchanged : goal.returns-in-A-clause-exchanged
returns-in-A-clause-exchanged c = goes c.args.self.now c.args.step A (sym c.side-side.ensures ∙ c.in-A.is) (record {
  a = c.step.new.self;
  b = c.step.new.far;
}) c.step.result c.step.ensures.ok (c.is_shallow.ensures.shallow c.if-not-is_shallow.false)

pub returns-in-A-clause-err : goal.returns-in-A-clause-err
returns-in-A-clause-err c = λ handed history after shallow.
    c.step.ensures.err handed history (from_side c.args.self.now c.args.step A (sym c.side-side.ensures ∙ c.in-A.is)
    handed history after)

pub returns-in-B-clause-exchanged : goal.returns-in-B-clause-exchanged
returns-in-B-clause-exchanged c = goes c.args.self.now c.args.step B (sym c.side-side.ensures ∙ c.in-B.is) (record {
  a = c.step-in-B.new.far;
  b = c.step-in-B.new.self;
}) c.step-in-B.result c.step-in-B.ensures.ok (c.is_shallow.ensures.shallow c.if-not-is_shallow.false)

pub returns-in-B-clause-err : goal.returns-in-B-clause-err
returns-in-B-clause-err c = λ handed history after shallow.
    c.step-in-B.ensures.err handed history (from_side c.args.self.now c.args.step B (sym c.side-side.ensures
    ∙ c.in-B.is) handed history after)
