use Rattle.lsp_types.proofs.ReadLemmas.{ReadUpTo}
use Rattle.lsp_types.proofs.json.read_lists.each_member.Given as goal

abbrev pub invariant-loop-key : goal.invariant-loop-key
invariant-loop-key g l = ReadUpTo g.T.FromJson.reads l.members.entries l.key-iterator l.values.entries
