-- The data that a `JsonText` stands for.
use Rattle.serde_json.specs.Data.{Data}
use Rattle.lsp_json.specs.Text.{text_data}
use Rattle.lsp_json.specs.declared.json_text.JsonText.{JsonText}

-- the data of the whole text
unfoldable pub json_text_data : JsonText → Data
json_text_data text = text_data text.tape
