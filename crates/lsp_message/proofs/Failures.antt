-- The failures of a reader, over calls that follow one another.
use Rattle.std.proofs.Common.{◌≡◌, ◌≢◌, ◌⊎◌, ⊎_elim, inl, inr, ℕ, ◌+◌, ◌-◌, ◌^◌, ◌≤◌, List, [], ◌∷◌, ◌++◌, length}
use Rattle.std.proofs.Common.{◌<◌, zero, suc, Bool, true, false, Option, Some, None}
use Rattle.std.proofs.Common.{length-append, append_assoc, append-nil, Result, Ok, Err, refl, sym, ap, subst, ◌∙◌}
use Rattle.std.proofs.Common.{arith}
use Rattle.std.specs.List.{concat}
use Rattle.std.proofs.lemmas.List.Elements.{All-nil, All-push, All-append}
use Rattle.std.proofs.lemmas.List.Folds.{concat-append}
use Rattle.std.specs.declared.io.ErrorKind.{ErrorKind}
use Rattle.std.specs.declared.io.ErrorKind.TheVariants.{Interrupted, Other}
use Rattle.lsp_message.specs.Failures.{Kinds, AreInterrupted, FailsFor, ReaderFails}
use Rattle.serde_json.specs.Data.{Data, array}
use Rattle.serde_json.specs.Read.{read}
use Rattle.std.specs.Option.{ok_or}
use Rattle.std.specs.Prelude.{if◌then◌else◌}
use Rattle.std.specs.Result.{result_err}
use Rattle.std.specs.Str.{is_utf8}
use Rattle.lsp_message.specs.Frame.{no_message, tree_means, body_means}
use Rattle.lsp_message.specs.Meaning.{meaning}
use Rattle.lsp_message.specs.Message.{Message}
use Rattle.lsp_message.specs.ReadingSteps.{Decodes}
use Rattle.lsp_message.specs.Told.{Parts}
use Rattle.lsp_message.proofs.Told.{concat-one}
use Rattle.lsp_message.specs.FrameLooks.{noted}
use Rattle.lsp_message.specs.declared.frame.ReadFault.{ReadFault}
use Rattle.lsp_message.specs.declared.frame.ReadFault.TheVariants.{Input, HeaderTooLong, BodyNotText}
use Rattle.lsp_message.specs.declared.frame.byte_trace.ByteTrace.{ByteTrace}

pub never : AreInterrupted []
never = All-nil (λ kind. kind ≡ Interrupted)

once : (kind : ErrorKind) → kind ≡ Interrupted → AreInterrupted (kind ∷ [])
once kind is = All-push (λ kind. kind ≡ Interrupted) [] kind never is

-- ---- one call

-- the reader did not fail
pub fails_never : (parts : Parts) (a b : ByteTrace) → b.parts ≡ a.parts ++ parts → b.failed ≡ a.failed
    → ReaderFails None a b
fails_never parts a b taken kept = (parts, [], taken, kept ∙ sym (append-nil a.failed), never)

-- it was not called
pub fails_own : (a : ByteTrace) → ReaderFails None a a
fails_own a = fails_never [] a a (sym (append-nil a.parts)) refl

-- the reader failed, and the call is tried again if it was interrupted
pub fails_once : {X : Type 0} (x : X) (kind : ErrorKind) (r : Result X ReadFault) (a b : ByteTrace)
    → b.parts ≡ a.parts → b.failed ≡ a.failed ++ kind ∷ []
    → ((kind ≡ Interrupted) × (r ≡ Ok x)) ⊎ ((kind ≢ Interrupted) × (r ≡ Err (Input kind)))
    → ReaderFails (result_err r) a b
fails_once x kind r a b kept failed came = ⊎_elim
    (λ again. subst (λ f. ReaderFails f a b) (ap result_err (sym again.1)) (
      [],
      kind ∷ [],
      same,
      failed,
      once kind
          again.0,
    ))
    (λ fault. subst (λ f. ReaderFails f a b) (ap result_err (sym fault.1)) (
      [],
      kind ∷ [],
      same,
      failed,
      inl (
        [],
        never,
        refl,
      ),
    ))
    came
  where
    same : b.parts ≡ a.parts ++ []
    same = kept ∙ sym (append-nil a.parts)

-- a fault that is none of the reader's
pub fails_otherwise : (fault : ReadFault) (a b : ByteTrace) → ((kind : ErrorKind) → fault ≢ Input kind)
    → ReaderFails None a b → ReaderFails (Some fault) a b
fails_otherwise fault a b none (parts, kinds, taken, failed, tried) = (parts, kinds, taken, failed, at fault none)
  where
    at : (fault : ReadFault) → ((kind : ErrorKind) → fault ≢ Input kind) → FailsFor (Some fault) (length (concat parts))
        kinds
    at (Input kind) none = absurd (none kind refl)
    at HeaderTooLong none = tt
    at fault none = tried

-- ---- calls that follow one another

pub both_for : (fault : Option ReadFault) (m n : ℕ) (ks ls : Kinds) → AreInterrupted ks → FailsFor fault n ls
    → FailsFor fault (m + n) (ks ++ ls)
both_for None m n ks ls first second = All-append (λ kind. kind ≡ Interrupted) ks ls first second
both_for (Some (Input kind)) m n ks ls first second = ⊎_elim
    (λ last. inl (
      ks ++ last.0,
      All-append (λ kind. kind ≡ Interrupted) ks last.0 first last.1,
      ap (λ l. ks ++ l)
          last.2 ∙ sym (append_assoc ks last.0 (kind ∷ [])),
    ))
    (λ many. inr (
      many.0,
      All-append (λ kind. kind ≡ Interrupted) ks ls first many.1,
      omega (
        arith,
        many.2,
        length-append ks ls,
      ),
    ))
    second
both_for (Some HeaderTooLong) m n ks ls first second = tt
both_for (Some fault) m n ks ls first second = All-append (λ kind. kind ≡ Interrupted) ks ls first second

pub fails_after : (fault : Option ReadFault) (a b c : ByteTrace) → ReaderFails None a b → ReaderFails fault b c
    → ReaderFails fault a c
fails_after fault a b c (ps, ks, taken, failed, first) (qs, ls, more, last, second) = (
  ps ++ qs,
  ks ++ ls,
  more ∙ ap (λ l. l ++ qs) taken ∙ append_assoc a.parts ps qs,
  last ∙ ap (λ l. l ++ ls) failed ∙ append_assoc a.failed ks ls,
  subst (λ n. FailsFor fault n (ks ++ ls)) (sym (ap length (concat-append ps qs) ∙ length-append (concat ps)
      (concat qs)))
      (both_for fault (length (concat ps)) (length (concat qs)) ks ls first second),
)

-- ---- a call that gives up

sizes : (fault : Option ReadFault) (a b : ByteTrace) (fails : ReaderFails fault a b)
    → noted b ≡ noted a + length (concat fails.0) + length fails.1
sizes fault a b (parts, kinds, taken, failed, fits) =
    let bytes = ap (λ ps. length (concat ps)) taken ∙ ap length (concat-append a.parts parts)
    ∙ length-append (concat a.parts) (concat parts) in
    let more = ap length failed ∙ length-append a.failed kinds in
    omega (arith, bytes, more)

pub gave_up : (a b : ByteTrace) → noted a + (2 ^ 64 - 1) ≤ noted b → ReaderFails None a b
    → ReaderFails (Some (Input Other)) a b
gave_up a b many fails =
    let size = sizes None a b fails in (
      fails.0,
      fails.1,
      fails.2,
      fails.3,
      inr (refl, fails.4, omega (arith, many, size)),
    )

-- ---- what a trace grows by

pub counts_parts : (parts : Parts) (a b : ByteTrace) → b.parts ≡ a.parts ++ parts → length a.failed ≤ length b.failed
    → 0 < length (concat parts) → noted a < noted b
counts_parts parts a b taken more some =
    let bytes = ap (λ ps. length (concat ps)) taken ∙ ap length (concat-append a.parts parts)
    ∙ length-append (concat a.parts) (concat parts) in
    omega (arith, bytes, more, some)

-- one part
pub some_in : (part : List ℕ) → (length part ≡ 0 → ⊥) → 0 < length (concat (part ∷ []))
some_in part some = at (length part) refl some
  where
    at : (n : ℕ) → length part ≡ n → (n ≡ 0 → ⊥) → 0 < length (concat (part ∷ []))
    at zero is some = absurd (some refl)
    at (suc n) is some = omega (arith, is, ap length (concat-one part))

-- ---- what the content part means is no failure of the reader

abbrev IsNoInput : Result Message ReadFault → Type 0
IsNoInput (Err (Input kind)) = ⊥
IsNoInput result = Unit {0}

body_no_input : (body : List ℕ) → IsNoInput (body_means body)
body_no_input body = at (is_utf8 body)
  where
    refused : (tree : Data) → IsNoInput (Err (no_message tree))
    refused (array items) = tt
    refused tree = tt

    in_tree : (tree : Data) (m : Option Message) → IsNoInput (ok_or m (no_message tree))
    in_tree tree (Some m) = tt
    in_tree tree None = refused tree

    text : (json : Option Data) → IsNoInput (tree_means json)
    text None = tt
    text (Some tree) = in_tree tree (meaning tree)

    at : (utf8 : Bool) → IsNoInput (if utf8 then tree_means (read body) else Err BodyNotText)
    at true = text (read body)
    at false = tt

pub decodes_no_input : {X : Type 0} (view : X → Message) (fault : ReadFault) (body : List ℕ)
    → Decodes view (Err fault) (body_means body) → (kind : ErrorKind) → fault ≢ Input kind
decodes_no_input view fault body decodes kind is =
    subst IsNoInput (subst (λ f. Decodes view (Err f) (body_means body)) is decodes) (body_no_input body)
