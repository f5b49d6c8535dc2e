use Rattle.std.proofs.Common.{rules, ◌≡◌, refl, subst, [], ◌∷◌, string_bytes}
use Rattle.lsp_documents.specs.Held.{documents_of}
use Rattle.lsp_diagnostics.proofs.Heard.{AreSoFar, adds_none, adds_then, all_so_far, none_so_far, one_so_far}
use Rattle.lsp_diagnostics.specs.Followed.{Clears, IsCommandFor}
use Rattle.lsp_diagnostics.proofs.analysed.AnalysedDocuments.look_at_all.Goals as goal

pub loop-uri-init : goal.loop-uri-init
loop-uri-init g c = record {
  same = refl;
  commands = none_so_far g.J.Analysis.source (documents_of c.args.self.now.documents) c.args.self.now.commands.items
      _ (search rules);
  acts = adds_none g.P.PartialEq.eq (Clears (documents_of c.args.self.now.documents)) c.args.acts.now.items;
}

pub loop-uri-preserved : goal.loop-uri-preserved
loop-uri-preserved g c =
    let documents = documents_of c.args.self.now.documents in
    let commands = c.loop-uri.self.1.1.1.0.items in
    let command = c.in_ok-command.command in
    let uri = string_bytes c.in-Some.uri.now in
    let e : c.loop-uri.uri-iterator ≡ (c.in-Some.uri.now, c.in-Some.field-0-1.now) ∷ c.next.new.self = search rules in
    let is : IsCommandFor g.J.Analysis.source documents uri command =
    rw c.as_str.ensures.value at c.in_ok-command.ensures.command in
    record {
      same = refl;
      commands = one_so_far g.J.Analysis.source documents c.args.self.now.commands.items commands _ command
          (c.in-Some.uri.now, c.in-Some.field-0-1.now) c.next.new.self is c.in_ok-push.ensures.items
          (subst (AreSoFar g.J.Analysis.source documents c.args.self.now.commands.items commands) e
          c.loop-uri.invariant.commands);
      acts = adds_then g.P.PartialEq.eq (Clears documents) c.args.acts.now.items _ _ c.loop-uri.invariant.acts
          c.in_ok-command.ensures.clear;
    }

pub returns-clause-commands : goal.returns-clause-commands
returns-clause-commands g c =
    let documents = documents_of c.args.self.now.documents in
    let old = c.args.self.now.commands.items in
    let e : c.loop-uri.uri-iterator ≡ [] = search rules in
    all_so_far g.J.Analysis.source documents old c.loop-uri.self.1.1.1.0.items
    (subst (AreSoFar g.J.Analysis.source documents old c.loop-uri.self.1.1.1.0.items) e c.loop-uri.invariant.commands)
