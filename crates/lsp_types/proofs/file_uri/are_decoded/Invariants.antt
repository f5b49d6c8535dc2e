use Rattle.std.proofs.Common.{◌≡◌}
use Rattle.percent_encoding.specs.Iter.{decoded_bytes}
use Rattle.percent_encoding.specs.Percent.{percent_decode}
use Rattle.lsp_types.proofs.file_uri.are_decoded.Given as goal

-- the bytes are decoded if those that are left are
abbrev pub invariant-loop-byte : goal.invariant-loop-byte
invariant-loop-byte l = record {
  all : l.bytes ≡ percent_decode l.names → l.rest ≡ decoded_bytes l.byte-iterator;
  back : l.rest ≡ decoded_bytes l.byte-iterator → l.bytes ≡ percent_decode l.names;
}
