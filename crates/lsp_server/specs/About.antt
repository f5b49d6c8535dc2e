-- What a program says about itself, and which arguments ask for it.
use Rattle.std.specs.List.{list_any}
use Rattle.std.specs.Prelude.{ℕ, List, ◌++◌, Bool, ◌||◌, Option, Some, None, String, string_bytes, codes, if◌then◌else◌}
use Rattle.std.specs.Str.{bytes_eq}
use Rattle.std.specs.declared.alloc.Global.{Global}
use Rattle.lsp_server.specs.declared.about.About.{About}
use Rattle.lsp_server.specs.declared.about.AboutText.{AboutText}
use Rattle.lsp_server.specs.declared.about.AboutText.TheVariants.{Help, Version}

-- one of the words is one of these two
abbrev pub has_word : List ℕ → List ℕ → List (String Global) → Bool
has_word long short words =
    list_any (λ word. bytes_eq (string_bytes word) long || bytes_eq (string_bytes word) short) words

-- the help comes before the version
abbrev pub asked_of : About → List (String Global) → Option AboutText
asked_of about words = if has_word (codes "--help") (codes "-h") words then Some (Help about)
    else if has_word (codes "--version") (codes "-V") words then Some (Version about) else None

abbrev pub about_text : AboutText → Option (List ℕ)
about_text (Help about) = Some (about.name.now ++ (codes " " ++ (about.version.now ++ (codes "\n"
    ++ (about.purpose.now ++ (codes "\n\n" ++ about.arguments.now))))))
about_text (Version about) = Some (about.name.now ++ (codes " " ++ (about.version.now ++ codes "\n")))
