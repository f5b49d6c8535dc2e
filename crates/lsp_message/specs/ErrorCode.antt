-- The numbers of the error codes (JSON-RPC 2.0, section 5.1; LSP 3.17, base protocol).
use Rattle.std.specs.Prelude.{ℤ, pos, neg_ℤ}
use Rattle.lsp_message.specs.declared.msg.code.ErrorCode.{ErrorCode}
use Rattle.lsp_message.specs.declared.msg.code.ErrorCode.TheVariants.{ParseError, InvalidRequest, MethodNotFound}
use Rattle.lsp_message.specs.declared.msg.code.ErrorCode.TheVariants.{InvalidParams, InternalError, ServerErrorStart}
use Rattle.lsp_message.specs.declared.msg.code.ErrorCode.TheVariants.{ServerErrorEnd, ServerNotInitialized}
use Rattle.lsp_message.specs.declared.msg.code.ErrorCode.TheVariants.{UnknownErrorCode, RequestCanceled}
use Rattle.lsp_message.specs.declared.msg.code.ErrorCode.TheVariants.{ContentModified, ServerCancelled, RequestFailed}

abbrev pub number_of : ErrorCode → ℤ
number_of ParseError = neg_ℤ (pos 32700)
number_of InvalidRequest = neg_ℤ (pos 32600)
number_of MethodNotFound = neg_ℤ (pos 32601)
number_of InvalidParams = neg_ℤ (pos 32602)
number_of InternalError = neg_ℤ (pos 32603)
number_of ServerErrorStart = neg_ℤ (pos 32099)
number_of ServerErrorEnd = neg_ℤ (pos 32000)
number_of ServerNotInitialized = neg_ℤ (pos 32002)
number_of UnknownErrorCode = neg_ℤ (pos 32001)
number_of RequestCanceled = neg_ℤ (pos 32800)
number_of ContentModified = neg_ℤ (pos 32801)
number_of ServerCancelled = neg_ℤ (pos 32802)
number_of RequestFailed = neg_ℤ (pos 32803)
