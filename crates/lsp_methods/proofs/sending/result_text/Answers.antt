use Rattle.std.proofs.Common.{◌∙◌, ℕ, List, sym}
use Rattle.std.proofs.lemmas.Option.{same_Some}
use Rattle.serde_json.specs.Data.{Data}
use Rattle.lsp_json_write.specs.Taken.{nothing}
use Rattle.lsp_json_write.specs.Text.{IsWrittenText}
use Rattle.lsp_message.specs.ResultText.{IsReadableText}
use Rattle.lsp_methods.proofs.sending.result_text.Goals as goal

-- a text that was written for data can be the text of a result
readable : (d : Data) (text : List ℕ) → IsWrittenText d text → IsReadableText text
readable d text is = (
  d,
  record { exact = is.exact; compact = is.compact; in_order = is.in_order; reads_back = λ shallow. is.reads_back },
  is.shallow,
)

pub from_text-requires : goal.from_text-requires
from_text-requires g c = readable (g.T.ToJson.stands c.args.found.now) _
    (c.in_ok-into_string-in-Ok.ensures _ (c.in-Ok.ensures nothing c.in_ok-out.ensures))

pub returns-in-Ok : goal.returns-in-Ok
returns-in-Ok g c = same_Some _ _ (sym c.from_text.ensures ∙ (c.in_ok-into_string-in-Ok.ensures
    (g.T.ToJson.stands c.args.found.now) (c.in-Ok.ensures nothing c.in_ok-out.ensures)).reads_back)
