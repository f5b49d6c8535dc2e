-- Frames that are read back, one after another; and readings that no frames have.
use Rattle.std.proofs.Common.{◌≡◌, refl, sym, ◌∙◌, ap, subst, ℕ, ◌<◌, ◌≤◌, ◌^◌, List, [], ◌∷◌, ◌++◌, length}
use Rattle.std.proofs.Common.{append_assoc, length-append, map, arith, Some, None, Ok}
use Rattle.std.specs.Fmt.{decimal}
use Rattle.std.specs.List.{AllByRecursion, FoldsTo}
use Rattle.std.specs.Prelude.{codes}
use Rattle.serde_json.specs.Read.{max_depth}
use Rattle.lsp_message.specs.Frame.{Begins, most_content, no_limit}
use Rattle.lsp_message.specs.Message.{Message}
use Rattle.lsp_message.specs.Ranges.{nesting}
use Rattle.lsp_message.specs.Readable.{AreReadBack}
use Rattle.lsp_message.specs.Reading.{Reading}
use Rattle.lsp_message.specs.Tree.{without_null_details}
use Rattle.lsp_message.specs.Written.{frame_text, AreFramesOf}
use Rattle.lsp_message.proofs.ReadBack.{reading-frame}

-- a content part is shorter than its frame
body_fits : (body text more : List ℕ) → text ≡ frame_text body ++ more → length text < 2 ^ 64 → (length body < 2 ^ 64)
    × (length more < 2 ^ 64)
body_fits body text more is small =
    let all = ap (λ (l : List ℕ). length l) is in
    let both = length-append (frame_text body) more in
    let head = length-append (codes "Content-Length: ") (decimal (length body) ++ 13 ∷ 10 ∷ 13 ∷ 10 ∷ body) in
    let tail = length-append (decimal (length body)) (13 ∷ 10 ∷ 13 ∷ 10 ∷ body) in
    (omega (arith, small, all, both, head, tail), omega (arith, small, all, both))

read_each : (got more : List Message) (frames behind : List ℕ) → AreFramesOf (got ++ more) frames → length frames < 2 ^
    64
    → AllByRecursion (λ m. nesting m ≤ max_depth) got
    → (rest : List ℕ) × FoldsTo (Begins no_limit) (frames ++ behind) (map without_null_details got) rest
read_each [] more frames behind are small shallow = (frames ++ behind, refl)
read_each (m ∷ got) more frames behind (first, left, is, are, same) small (one, shallow) =
    let framed : frames ≡ frame_text is.0 ++ left = same ∙ ap (λ l. l ++ left) is.2 in
    let fits = body_fits is.0 frames left framed small in
    let joined : frames ++ behind ≡ frame_text is.0 ++ (left ++ behind) = ap (λ l. l ++ behind) framed
    ∙ append_assoc (frame_text is.0) left behind in
    let later = read_each got more left behind are fits.1 shallow in
    let read = reading-frame most_content is.0 (left ++ behind) (without_null_details m) fits.0 (omega (arith, fits.0))
    (is.3 one) in (
      later.0,
      (
        left ++ behind,
        subst (λ t. Begins no_limit t (without_null_details m) (left ++ behind)) (sym joined)
            read,
        later.1,
      ),
    )

pub read_back : (sent : List Message) (frames behind : List ℕ) → AreFramesOf sent frames → length frames < 2 ^ 64
    → AreReadBack sent (frames ++ behind)
read_back sent frames behind are small = λ got more cut shallow.
    read_each got more frames behind (subst (λ ms. AreFramesOf ms frames) cut are) small shallow

-- ---- readings that are refused

-- another message is read first
pub reads_another : (m other : Message) (sent : List Message) (text rest : List ℕ) → nesting m ≤ max_depth
    → (other ≡ without_null_details m → ⊥)
    → Begins no_limit text other rest → AreReadBack (m ∷ sent) text → ⊥
reads_another m other sent text rest shallow differs begins back =
    let read = back (m ∷ []) sent refl (shallow, tt) in
    let both : Ok (Some other) ≡ Ok (Some (without_null_details m)) =
    sym (ap (λ (r : Reading Message). r.outcome) begins) ∙ ap (λ (r : Reading Message). r.outcome) read.1.1 in
    let same : other ≡ without_null_details m = cc (both) in
    differs same

-- nothing was written
pub reads_nothing : (m : Message) (sent : List Message) → nesting m ≤ max_depth → AreReadBack (m ∷ sent) [] → ⊥
reads_nothing m sent shallow back =
    let read = back (m ∷ []) sent refl (shallow, tt) in
    let e : Ok None ≡ Ok (Some (without_null_details m)) = ap (λ (r : Reading Message). r.outcome) read.1.1 in
    cc (e)
