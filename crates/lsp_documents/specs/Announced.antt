-- What a server announces of documents (LSP 3.17, "ServerCapabilities", "TextDocumentSyncOptions" and "SaveOptions").
use Rattle.std.specs.Prelude.{◌≡◌, Bool, true, false, Some, None, option_map, unwrap_or, codes, string_bytes}
use Rattle.serde_json.specs.Data.{Data, Members, boolean, number, unsigned, string, object, member, no_members, put}
use Rattle.serde_json.specs.Find.{as_object}
use Rattle.lsp_text.specs.Characters.{encoding_name}
use Rattle.lsp_types.specs.declared.capabilities.ServerCapabilities.{ServerCapabilities}
use Rattle.lsp_types.specs.declared.capabilities.TextDocumentSyncOptions.{TextDocumentSyncOptions}
use Rattle.lsp_text.specs.declared.line_ends.LineEnds.TheVariants.{LineFeed}
use Rattle.lsp_documents.specs.declared.negotiation.SyncOptions.{SyncOptions}
use Rattle.lsp_documents.specs.declared.options.DocumentOptions.{DocumentOptions}

-- how a client is read of which the author says nothing: lines end as editors count them, and late changes are not made
abbrev pub usual : DocumentOptions
usual = record { line_ends = LineFeed; applies_late = false }

-- what the client is to tell of: opening and closing, the parts that changed (2), and saving, with the text or not
abbrev pub sync_of : Bool → Data
sync_of include_text = object
    (member (codes "change") (number (unsigned 2))
    (member (codes "openClose") (boolean true)
    (member (codes "save") (object (member (codes "includeText") (boolean include_text) no_members))
    no_members)))

-- the members of capabilities, with the encoding that was agreed on and what the client is to tell of
abbrev pub announced_members : SyncOptions → Members → Members
announced_members sync can =
    put (codes "textDocumentSync") (sync_of sync.include_text)
    (put (codes "positionEncoding") (string (encoding_name sync.encoding)) can)

-- the capabilities with these. What is no object has no members
abbrev pub announced : SyncOptions → Data → Data
announced sync can = object (announced_members sync (unwrap_or (as_object can) no_members))

-- the same by types
abbrev pub options_of : Bool → TextDocumentSyncOptions
options_of include_text = record {
  open_close = Some true;
  change = Some (record { 0 = 2 });
  will_save = None;
  will_save_wait_until = None;
  save = Some (record { include_text = Some include_text });
}

pub record IsAnnounced (options : SyncOptions) (can : ServerCapabilities) : Type 0 where
  pub encoding : option_map string_bytes can.position_encoding
      ≡ Some (encoding_name options.encoding)
  pub sync : can.text_document_sync ≡ Some (options_of options.include_text)
