-- How many content parts of each kind were skipped.
use Rattle.std.specs.Prelude.{ℕ, ◌+◌, ◌-◌, ◌^◌, min}
use Rattle.lsp_message.specs.declared.frame.ReadFault.{ReadFault}
use Rattle.lsp_message.specs.declared.frame.ReadFault.TheVariants.{BodyNotText, NoJson, NoMessage, Batch}
use Rattle.lsp_session.specs.declared.loops.bad_content_policy.SkipAndCount.{SkipAndCount}

abbrev pub no_faults : SkipAndCount
no_faults = record { not_text = 0; no_json = 0; no_message = 0; batches = 0 }

-- one more, up to 2^64 - 1
abbrev pub more : ℕ → ℕ
more n = min (n + 1) (2 ^ 64 - 1)

-- the counts after this fault
abbrev pub counted : SkipAndCount → ReadFault → SkipAndCount
counted c BodyNotText =
    record {
      not_text = more c.not_text;
      no_json = c.no_json;
      no_message = c.no_message;
      batches =
          c.batches;
    }
counted c NoJson =
    record {
      not_text = c.not_text;
      no_json = more c.no_json;
      no_message = c.no_message;
      batches =
          c.batches;
    }
counted c NoMessage =
    record {
      not_text = c.not_text;
      no_json = c.no_json;
      no_message = more c.no_message;
      batches =
          c.batches;
    }
counted c Batch =
    record {
      not_text = c.not_text;
      no_json = c.no_json;
      no_message = c.no_message;
      batches =
          more c.batches;
    }
counted c fault = c
