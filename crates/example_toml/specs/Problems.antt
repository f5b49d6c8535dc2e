-- What a check of a text finds.
use Rattle.serde_json.specs.Data.{Data}
use Rattle.std.specs.Arc.{arc_value}
use Rattle.std.specs.List.{All}
use Rattle.std.specs.Prelude.{◌≡◌, ◌↔◌, ◌⊎◌, ℕ, List, [], ◌∷◌, ◌++◌, Some, IsSome, map, string_bytes, false, true}
use Rattle.lsp_diagnostics.specs.declared.findings.Findings.{Findings}
use Rattle.lsp_text.specs.Lines.{LinedText}
use Rattle.lsp_text.specs.Places.{position_of}
use Rattle.lsp_text.specs.declared.position.PositionEncoding.{PositionEncoding}
use Rattle.lsp_types.specs.declared.diagnostics.Diagnostic.{Diagnostic}
use Rattle.lsp_types.specs.declared.diagnostics.DiagnosticSeverity.{DiagnosticSeverity}
use Rattle.toml.specs.Parse.{parse_document}
use Rattle.toml_outline.specs.Reading.{IsOutlineOf}
use Rattle.toml_outline.specs.declared.outline.Outline.{Outline}
use Rattle.toml_outline.specs.declared.outline.Problem.{Problem}
use Rattle.example_toml.specs.declared.work.Check.{Check}
use Rattle.example_toml.specs.declared.work.CheckOptions.{CheckOptions}

-- the text is a document of TOML 1.1
abbrev pub IsDocument : List ℕ → Type 0
IsDocument text = IsSome (parse_document text)

-- the severities 1 and 2 (LSP 3.17, "DiagnosticSeverity")
abbrev pub error : DiagnosticSeverity
error = record { 0 = 1 }

abbrev pub warning : DiagnosticSeverity
warning = record { 0 = 2 }

abbrev pub IsWarning : Diagnostic → Type 0
IsWarning mark = mark.severity ≡ Some warning

-- A diagnostic shows a problem, with this severity: it has the problem's message, and stands at its place.
pub record IsMarkOf (severity : DiagnosticSeverity) (encoding : PositionEncoding) (text : LinedText)
    (problem : Problem) (mark : Diagnostic) : Type 0 where
  pub severe : mark.severity ≡ Some severity
  pub message : string_bytes mark.message ≡ string_bytes problem.message
  pub start : mark.range.start ≡ position_of encoding text problem.span.start
  pub end : mark.range.end ≡ position_of encoding text problem.span.end

-- These diagnostics show these problems, each once and in order.
abbrev pub AreMarks : DiagnosticSeverity → PositionEncoding → LinedText → List Problem → List Diagnostic → Type 0
AreMarks severity encoding text [] marks = marks ≡ []
AreMarks severity encoding text (problem ∷ problems) marks =
    (mark : Diagnostic) × (others : List Diagnostic) × (marks ≡ mark ∷ others)
    × IsMarkOf severity encoding text problem mark × AreMarks severity encoding text problems others

-- The diagnostics show all problems of the outline of a text, and then what TOML 1.0 does not allow, or none of that.
-- They are warnings alone exactly if the text is a document.
pub record AreMarksOf (encoding : PositionEncoding) (text : LinedText) (marks : List Diagnostic) : Type 0 where
  pub outline : Outline
  pub is : IsOutlineOf text.bytes outline
  pub errors : List Diagnostic
  pub warnings : List Diagnostic
  pub all : marks ≡ errors ++ warnings
  pub problems : AreMarks error encoding text outline.problems.items errors
  pub newer : AreMarks warning encoding text outline.newer.items warnings ⊎ (warnings ≡ [])
  pub document : All IsWarning marks ↔ IsDocument text.bytes

-- These are all the problems of a text, as they are written.
abbrev pub AreProblems : (Diagnostic → Data) → LinedText → List Data → Type 0
AreProblems written text shown = (encoding : PositionEncoding) × (marks : List Diagnostic)
    × (shown ≡ map written marks) × AreMarksOf encoding text marks

-- The same, in the client's units. What TOML 1.0 does not allow is shown unless what is new in TOML 1.1 is allowed. If
-- it is, a document has no problems.
pub record AreProblemsOf (options : CheckOptions) (text : LinedText) (marks : List Diagnostic) : Type 0 where
  pub are : AreMarksOf options.encoding text marks
  pub warned : options.allows_newer ≡ false
      → AreMarks warning options.encoding text are.outline.newer.items are.warnings
  pub newer : options.allows_newer ≡ true → IsDocument text.bytes → marks ≡ []

-- The problems are those of the text that is checked, which has this URI and this version.
abbrev pub AreOfItsText : Check → Findings → Type 0
AreOfItsText check found = (found.source ≡ check.source)
    × AreProblemsOf check.options (arc_value check.source.text) found.diagnostics.items
