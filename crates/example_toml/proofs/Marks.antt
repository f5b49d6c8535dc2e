-- The diagnostics of a text.
use Rattle.std.proofs.Common.{◌≡◌, ◌↔◌, refl, sym, ◌∙◌, ap, subst, ℕ, false, List, [], ◌∷◌, ◌++◌, inl, inr, ◌⊎◌}
use Rattle.std.proofs.Common.{Some, append-nil, append_assoc, arith, true}
use Rattle.std.proofs.lemmas.List.Elements.{All-append, All-head, All-nil, All-push}
use Rattle.std.specs.List.{All}
use Rattle.lsp_text.specs.Lines.{LinedText}
use Rattle.lsp_text.specs.declared.position.PositionEncoding.{PositionEncoding}
use Rattle.lsp_types.specs.declared.diagnostics.Diagnostic.{Diagnostic}
use Rattle.lsp_types.specs.declared.diagnostics.DiagnosticSeverity.{DiagnosticSeverity}
use Rattle.toml_outline.specs.Reading.{IsOutlineOf}
use Rattle.toml_outline.specs.declared.outline.Outline.{Outline}
use Rattle.toml_outline.specs.declared.outline.Problem.{Problem}
use Rattle.example_toml.specs.Problems.{AreMarks, AreMarksOf, AreProblemsOf, IsDocument, IsMarkOf, IsWarning, error}
use Rattle.example_toml.specs.Problems.{warning}
use Rattle.example_toml.specs.declared.work.CheckOptions.{CheckOptions}

module _ (severity : DiagnosticSeverity) (encoding : PositionEncoding) (text : LinedText) where
  -- each diagnostic of a problem has its severity
  severe : (problems : List Problem) (marks : List Diagnostic) → AreMarks severity encoding text problems marks
      → All (λ mark. mark.severity ≡ Some severity) marks
  severe [] marks none =
      subst (All (λ mark. mark.severity ≡ Some severity)) (sym none) (All-nil (λ mark. mark.severity ≡ Some severity))
  severe (problem ∷ problems) marks are =
      let P : Diagnostic → Type 0 = λ mark. mark.severity ≡ Some severity in
      subst (All P) (sym are.2) (All-append P (are.0 ∷ []) are.1 (All-push P [] are.0 (All-nil P) are.3.severe)
      (severe problems are.1 are.4))

  -- where there is no diagnostic there is no problem
  no_problem : (problems : List Problem) (marks : List Diagnostic) → AreMarks severity encoding text problems marks
      → marks ≡ [] → problems ≡ []
  no_problem [] marks are none = refl
  no_problem (problem ∷ problems) marks are none =
      let wrong : are.0 ∷ are.1 ≡ [] = sym are.2 ∙ none in
      absurd (cc (wrong))

  marks_push : (problems : List Problem) (marks : List Diagnostic) (problem : Problem) (mark : Diagnostic)
      → AreMarks severity encoding text problems marks → IsMarkOf severity encoding text problem mark
      → AreMarks severity encoding text (problems ++ problem ∷ []) (marks ++ mark ∷ [])
  marks_push [] marks problem mark none is = (mark, [], ap (λ (l : List Diagnostic). l ++ mark ∷ []) none, is, refl)
  marks_push (first ∷ problems) marks problem mark are is = (
    are.0,
    are.1 ++ mark ∷ [],
    ap (λ (l : List Diagnostic). l ++ mark ∷ []) are.2,
    are.3,
    marks_push problems are.1 problem mark are.4 is,
  )

  -- these diagnostics have more than those: the ones of these problems
  abbrev pub Adds : List Diagnostic → List Diagnostic → List Problem → Type 0
  Adds old new problems =
      (added : List Diagnostic) × (new ≡ old ++ added) × AreMarks severity encoding text problems added

  pub adds_none : (old : List Diagnostic) → Adds old old []
  adds_none old = ([], sym (append-nil old), refl)

  pub adds_one : (old so_far : List Diagnostic) (problems : List Problem) (problem : Problem) (mark : Diagnostic)
      → Adds old so_far problems → IsMarkOf severity encoding text problem mark
      → Adds old (so_far ++ mark ∷ []) (problems ++ problem ∷ [])
  adds_one old so_far problems problem mark before is = (
    before.0 ++ mark ∷ [],
    ap (λ (l : List Diagnostic). l ++ mark ∷ []) before.1 ∙ append_assoc old before.0 (mark ∷ []),
    marks_push problems before.0 problem mark before.2 is,
  )

no_error : (errors rest : List Diagnostic) → All (λ mark. mark.severity ≡ Some error) errors
    → All IsWarning (errors ++ rest) → errors ≡ []
no_error [] rest are all = refl
no_error (mark ∷ errors) rest are all =
    let both : Some error ≡ Some warning = sym (All-head (λ mark. mark.severity ≡ Some error) mark errors are)
    ∙ All-head IsWarning mark (errors ++ rest) all in
    let same : error ≡ warning = cc (both) in
    let wrong = ap (λ (s : DiagnosticSeverity). s.0) same in
    absurd (omega (arith, wrong))

module _ (options : CheckOptions) (text : LinedText) (outline : Outline) where
  -- errors, and then warnings
  errors_first : (errors warnings marks : List Diagnostic) → IsOutlineOf text.bytes outline
      → AreMarks error options.encoding text outline.problems.items errors
      → AreMarks warning options.encoding text outline.newer.items warnings ⊎ (warnings ≡ [])
      → All IsWarning warnings → marks ≡ errors ++ warnings → AreMarksOf options.encoding text marks
  errors_first errors warnings marks is are others mild all = record {
    outline = outline;
    is = is;
    errors = errors;
    warnings = warnings;
    all = all;
    problems = are;
    newer = others;
    document = (
      λ every. is.document.0 (no_problem error options.encoding text outline.problems.items errors are
          (no_error errors warnings (severe error options.encoding text outline.problems.items errors are)
          (subst (All IsWarning) all every))),
      λ document.
          let none : errors ≡ [] = subst (λ (l : List Problem). AreMarks error options.encoding text l errors)
          (is.document.1 document) are in
          subst (All IsWarning) (sym (all ∙ ap (λ (l : List Diagnostic). l ++ warnings) none)) mild,
    );
  }

  -- what is found in a text, if what is newer is a problem
  pub with_newer : (first marks : List Diagnostic) → IsOutlineOf text.bytes outline
      → Adds error options.encoding text [] first outline.problems.items
      → Adds warning options.encoding text first marks outline.newer.items → options.allows_newer ≡ false
      → AreProblemsOf options text marks
  unfolding errors_first
  with_newer first marks is some more disallowed = record {
    are = errors_first some.0 more.0 marks is some.2 (inl more.2)
        (severe warning options.encoding text outline.newer.items more.0 more.2)
        (more.1 ∙ ap (λ (l : List Diagnostic). l ++ more.0) some.1);
    warned = λ no. more.2;
    newer = λ yes. let wrong : false ≡ true = sym disallowed ∙ yes in absurd (cc (wrong));
  }

  -- the same, if it is allowed
  pub without_newer : (marks : List Diagnostic) → IsOutlineOf text.bytes outline
      → Adds error options.encoding text [] marks outline.problems.items → options.allows_newer ≡ true
      → AreProblemsOf options text marks
  without_newer marks is some allowed = record {
    are = errors_first some.0 [] marks is some.2 (inr refl) (All-nil IsWarning) (some.1 ∙ sym (append-nil some.0));
    warned = λ no. let wrong : false ≡ true = sym no ∙ allowed in absurd (cc (wrong));
    newer = λ yes document. some.1 ∙ subst (λ (l : List Problem). AreMarks error options.encoding text l some.0)
        (is.document.1 document) some.2;
  }
