-- What an analysis finds may go to another thread.
use denote.Param.Send.{IsSend, sendable, struct_send}
use denote.Struct.Declared.{shape}
use Rattle.std.proofs.Crossing.{crosses}
use Rattle.lsp_jobs.proofs.MessageSend.{both, tree_parts, tree_send}
use Rattle.lsp_types.specs.contracts.diagnostics.Diagnostic as diagnostic
use Rattle.lsp_types.specs.contracts.diagnostics.DiagnosticRelatedInformation as information
use Rattle.lsp_diagnostics.specs.contracts.findings.Findings as findings

information_fields : IsSend (information.the_field).row
information_fields =
    struct_send (shape information.the_type) (
      search (crosses, both, sendable) depth 40,
      (search (crosses, both, sendable) depth 40, tt),
    )

information_send : IsSend information.the_row
information_send = search (information_fields, sendable) depth 40

mark_fields : IsSend (diagnostic.the_field).row
mark_fields =
    struct_send (shape diagnostic.the_type) (
      search (crosses, both, sendable) depth 40,
      (
        search (crosses, both, sendable) depth 40,
        (
          search (crosses, both, sendable) depth 40,
          (
            search (crosses, both, sendable) depth 40,
            (
              search (crosses, both, sendable) depth 40,
              (
                search (crosses, both, sendable) depth 40,
                (
                  search (crosses, both, sendable) depth 40,
                  (
                    search (crosses, information_send, both, sendable) depth 40,
                    (search (crosses, tree_send, tree_parts, both, sendable) depth 60, tt),
                  ),
                ),
              ),
            ),
          ),
        ),
      ),
    )

mark_send : IsSend diagnostic.the_row
mark_send = search (mark_fields, sendable) depth 40

finding_fields : IsSend (findings.the_field).row
finding_fields =
    struct_send (shape findings.the_type) (
      search (crosses, both, sendable) depth 40,
      (search (crosses, mark_send, mark_fields, both, sendable) depth 40, tt),
    )

pub findings_send : IsSend findings.the_row
findings_send = search (finding_fields, sendable) depth 40
