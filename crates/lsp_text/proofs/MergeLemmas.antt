-- Blocks that are joined and edited.
use Rattle.std.proofs.Common.{◌≡◌, ℕ, zero, suc, ◌+◌, ◌-◌, ◌<◌, ◌≤◌, ◌++◌, List, [], ◌∷◌}
use Rattle.std.proofs.Common.{length, get_or, take, drop, refl, sym, ap, ◌∙◌, arith, append_assoc}
use Rattle.std.proofs.Common.{length-drop, subst, take-add}
use Rattle.std.proofs.lemmas.List.{append-nil, drop_more, get_or-drop, take-append-drop}
use Rattle.std.proofs.lemmas.List.Folds.{drop_split}
use Rattle.std.specs.Prelude.{Some, OnOk, OnErr}
use Rattle.std.specs.declared.result.Result.{Result}
use Rattle.std.specs.declared.result.Result.TheVariants.{Ok, Err}
use Rattle.std.specs.List.{slice_range}
use Rattle.lsp_text.specs.declared.line_ends.LineEnds.{LineEnds}
use Rattle.lsp_text.specs.declared.position.PositionEncoding.{PositionEncoding}
use Rattle.lsp_text.specs.declared.position.Position.{Position}
use Rattle.lsp_text.specs.declared.position.Range.{Range}
use Rattle.lsp_text.specs.Lines.{LinedText, lined}
use Rattle.lsp_text.specs.Edits.{edited, past_in}
use Rattle.lsp_text.specs.Blocks.{joined, ends_in, last_or, merged, AreLines, AreBlocks}
use Rattle.lsp_text.proofs.BlockLemmas.{Counted, joined-append, ends_in-append, lines_before, blocks_behind, blocks_put}
use Rattle.lsp_text.proofs.BlockLemmas.{edited_between, past_between, lines_edited}

-- ---- the blocks before a place, those from there up to another place, and the rest

pub in_parts : (bs : List LinedText) (i j : ℕ) → i ≤ j → bs ≡ take i bs ++ (slice_range bs i j ++ drop j bs)
in_parts bs i j l = sym (take-append-drop i bs) ∙ ap (λ (us : List LinedText). take i bs ++ us) (drop_split bs i j l)

pub joined_parts : (bs : List LinedText) (i j : ℕ) → i ≤ j
    → joined bs ≡ joined (take i bs) ++ (joined (slice_range bs i j) ++ joined (drop j bs))
joined_parts bs i j l = ap joined (in_parts bs i j l) ∙ joined-append (take i bs) (slice_range bs i j ++ drop j bs)
    ∙ ap (λ (us : List ℕ). joined (take i bs) ++ us) (joined-append (slice_range bs i j) (drop j bs))

blocks_parts : (ends : LineEnds) (bs : List LinedText) (i j : ℕ) → i ≤ j → AreBlocks ends bs
    → AreBlocks ends (take i bs ++ (slice_range bs i j ++ drop j bs))
blocks_parts ends bs i j l a = subst (AreBlocks ends) (in_parts bs i j l) a

lines_up_to : (ends : LineEnds) (bs : List LinedText) (i : ℕ) → AreBlocks ends bs → i < length bs
    → AreLines (joined (take i bs))
lines_up_to ends bs i a l =
    let n : length (drop i bs) ≡ length bs - i = length-drop i bs in
    lines_before ends (take i bs) (drop i bs) (subst (AreBlocks ends) (sym (take-append-drop i bs)) a)
    (omega (arith, n, l))

lines_between : (ends : LineEnds) (bs : List LinedText) (i j : ℕ) → AreBlocks ends bs → i ≤ j → j < length bs
    → AreLines (joined (slice_range bs i j))
lines_between ends bs i j a l m =
    let n : length (drop j bs) ≡ length bs - j = length-drop j bs in
    lines_before ends (slice_range bs i j) (drop j bs) (blocks_behind ends (take i bs) (slice_range bs i j ++ drop j bs)
    (blocks_parts ends bs i j l a)) (omega (arith, n, m))

take_parts : (bs : List LinedText) (i j : ℕ) → i ≤ j → take j bs ≡ take i bs ++ slice_range bs i j
take_parts bs i j l =
    let z : j ≡ i + (j - i) = omega (arith, l) in
    ap (λ n. take n bs) z ∙ take-add i (j - i) bs

-- how many lines end up to a later place
pub ends_parts : (ends : LineEnds) (bs : List LinedText) (i j : ℕ) → AreBlocks ends bs → i ≤ j → i < length bs
    → ends_in ends (joined (take j bs)) ≡ ends_in ends (joined (take i bs))
    + ends_in ends (joined (slice_range bs i j))
ends_parts ends bs i j a l m =
    ap (λ (us : List LinedText). ends_in ends (joined us)) (take_parts bs i j l)
    ∙ ap (ends_in ends) (joined-append (take i bs) (slice_range bs i j))
    ∙ ends_in-append ends (joined (take i bs)) (joined (slice_range bs i j)) (lines_up_to ends bs i a m)

-- they are no fewer than up to an earlier one
pub ends_grow : (ends : LineEnds) (bs : List LinedText) (i j : ℕ) → AreBlocks ends bs → i ≤ j → i < length bs
    → ends_in ends (joined (take i bs)) ≤ ends_in ends (joined (take j bs))
ends_grow ends bs i j a l m = (let p = ends_parts ends bs i j a l m in omega (arith, p))

-- a block in the place of some
blocks_at : (ends : LineEnds) (bs : List LinedText) (i j : ℕ) (t : LinedText) → AreBlocks ends bs → i < j
    → j ≤ length bs → t.ends ≡ ends → (j < length bs → AreLines t.bytes) → AreBlocks ends (take i bs ++ (t ∷ drop j bs))
blocks_at ends bs i j t a l m e w =
    let o : i ≤ j = omega (arith, l) in
    let p = blocks_parts ends bs i j o a in
    let q = blocks_behind ends (take i bs) (slice_range bs i j ++ drop j bs) p in
    let n : length (drop j bs) ≡ length bs - j = length-drop j bs in
    let f : length (drop i bs) ≡ length bs - i = length-drop i bs in
    let g : length (drop i bs) ≡ length (slice_range bs i j ++ drop j bs) = ap length (drop_split bs i j o) in
    blocks_put ends (take i bs) (slice_range bs i j ++ drop j bs) (t ∷ drop j bs) p (omega (arith, f, g, l, m))
    (e, (λ h. w (omega (arith, n, h)), blocks_behind ends (slice_range bs i j) (drop j bs) q))

-- ---- joining

-- one block stays as it is
pub merged_one : (ends : LineEnds) (bs : List LinedText) (i j : ℕ) → AreBlocks ends bs → i < length bs → j ≡ i + 1
    → merged ends bs i j ≡ bs
merged_one ends bs i j a l n =
    let d : LinedText = lined ends [] in
    let b : LinedText = get_or bs i d in
    let m : drop i bs ≡ b ∷ drop (i + 1) bs = drop_more bs i d l in
    let t : take i bs ++ drop i bs ≡ bs = take-append-drop i bs in
    let k : length (drop i bs) ≡ length bs - i = length-drop i bs in
    let p : AreBlocks ends (take i bs ++ drop i bs) = subst (AreBlocks ends) (sym t) a in
    let q : AreBlocks ends (b ∷ drop (i + 1) bs) = subst (AreBlocks ends) m (blocks_behind ends (take i bs) (drop i bs)
    p) in
    let z : i + 1 - i ≡ 1 = omega arith in
    let s : slice_range bs i (i + 1) ≡ b ∷ [] = ap (λ k. take k (drop i bs)) z
    ∙ ap (λ (us : List LinedText). take 1 us) m in
    let u : lined ends (joined (slice_range bs i (i + 1))) ≡ b = ap (λ (us : List LinedText). lined ends (joined us)) s
    ∙ ap (lined ends) (append-nil b.bytes) ∙ ap (λ x. lined x b.bytes) (sym q.0) in
    ap (λ k. merged ends bs i k) n
    ∙ ap (λ (x : LinedText). take i bs ++ (x ∷ drop (i + 1) bs)) u
    ∙ ap (λ (us : List LinedText). take i bs ++ us) (sym m) ∙ t

-- joined blocks are blocks
pub merged_blocks : (ends : LineEnds) (bs : List LinedText) (i j : ℕ) → AreBlocks ends bs → i < j → j ≤ length bs
    → AreBlocks ends (merged ends bs i j)
merged_blocks ends bs i j a l m = blocks_at ends bs i j (lined ends (joined (slice_range bs i j))) a l m refl (λ h.
    lines_between ends bs i j a (omega (arith, l)) h)

-- and have the same text
pub merged_same : (ends : LineEnds) (bs : List LinedText) (i j : ℕ) → i ≤ j → joined (merged ends bs i j) ≡ joined bs
merged_same ends bs i j l = joined-append (take i bs) (lined ends (joined (slice_range bs i j)) ∷ drop j bs)
    ∙ sym (joined_parts bs i j l)

-- ---- a range of the text, and the same range counted in joined blocks

pub record Between (ends : LineEnds) (bs : List LinedText) (i j : ℕ) (r s : Range) : Type 0 where
  pub blocks : AreBlocks ends bs
  pub in_order : i < j
  pub within : j ≤ length bs
  pub start : Counted ends (joined (take i bs)) (joined (slice_range bs i j)) (joined (drop j bs)) r.start s.start
  pub end : Counted ends (joined (take i bs)) (joined (slice_range bs i j)) (joined (drop j bs)) r.end s.end
  pub start_in : j < length bs → s.start.line < ends_in ends (joined (slice_range bs i j))
  pub end_in : j < length bs → s.end.line < ends_in ends (joined (slice_range bs i j))

some_behind : (bs : List LinedText) → 0 < length (joined bs) → 0 < length bs
some_behind [] l = absurd (omega arith)
some_behind (b ∷ bs) l = omega arith

line_in : (ends : LineEnds) (bs : List LinedText) (i j before : ℕ) (p q : Position) → AreBlocks ends bs → i < j
    → j ≤ length bs → before ≡ ends_in ends (joined (take i bs)) → p.line ≡ before + q.line
    → (j < length bs → p.line < ends_in ends (joined (take j bs)))
    → j < length bs → q.line < ends_in ends (joined (slice_range bs i j))
line_in ends bs i j before p q a l m b n w h =
    let e = ends_parts ends bs i j a (omega (arith, l)) (omega (arith, l, m)) in
    let v = w h in
    omega (arith, b, n, e, v)

counted : (ends : LineEnds) (bs : List LinedText) (i j before : ℕ) (p q : Position) → AreBlocks ends bs → i < j
    → j ≤ length bs → before ≡ ends_in ends (joined (take i bs)) → p.line ≡ before + q.line
    → p.character ≡ q.character → (j < length bs → p.line < ends_in ends (joined (take j bs)))
    → Counted ends (joined (take i bs)) (joined (slice_range bs i j)) (joined (drop j bs)) p q
counted ends bs i j before p q a l m b n c w =
    let d : length (drop j bs) ≡ length bs - j = length-drop j bs in
    record {
      line = n ∙ ap (λ k. k + q.line) b;
      character = c;
      within = λ h. (
          let s = some_behind (drop j bs) h in
          let t : j < length bs = omega (arith, d, s) in
          (lines_between ends bs i j a (omega (arith, l)) t, line_in ends bs i j before p q a l m b n w t)
          );
    }

pub between : (ends : LineEnds) (bs : List LinedText) (i j before : ℕ) (r s : Range) → AreBlocks ends bs → i < j
    → j ≤ length bs → before ≡ ends_in ends (joined (take i bs)) → r.start.line ≡ before + s.start.line
    → r.start.character ≡ s.start.character → r.end.line ≡ before + s.end.line → r.end.character ≡ s.end.character
    → (j < length bs → r.start.line < ends_in ends (joined (take j bs)))
    → (j < length bs → r.end.line < ends_in ends (joined (take j bs))) → Between ends bs i j r s
between ends bs i j before r s a l m b sl sc el ec sw ew = record {
  blocks = a;
  in_order = l;
  within = m;
  start = counted ends bs i j before r.start s.start a l m b sl sc sw;
  end = counted ends bs i j before r.end s.end a l m b el ec ew;
  start_in = line_in ends bs i j before r.start s.start a l m b sl sw;
  end_in = line_in ends bs i j before r.end s.end a l m b el ew;
}

lines_first : (ends : LineEnds) (bs : List LinedText) (i j : ℕ) (r s : Range) → Between ends bs i j r s
    → AreLines (joined (take i bs))
lines_first ends bs i j r s t = (let l = t.in_order in let m = t.within in lines_up_to ends bs i t.blocks (omega (
  arith,
  l,
  m,
)))

pub past_same : (ends : LineEnds) (e : PositionEncoding) (bs : List LinedText) (i j : ℕ) (r s : Range)
    → Between ends bs i j r s → past_in e (lined ends (joined bs)) (Some r)
    ≡ past_in e (lined ends (joined (slice_range bs i j))) (Some s)
past_same ends e bs i j r s t =
    let l = t.in_order in
    ap (λ (us : List ℕ). past_in e (lined ends us) (Some r)) (joined_parts bs i j (omega (arith, l)))
    ∙ past_between ends e (joined (take i bs)) (joined (slice_range bs i j)) (joined (drop j bs)) r s (lines_first ends
    bs i j r s t) t.start t.end

-- the blocks after an edit of the joined ones
abbrev pub edited_at : LineEnds → PositionEncoding → List LinedText → ℕ → ℕ → Range → List ℕ → List LinedText
edited_at ends e bs i j s new =
    take i bs ++ (edited e (lined ends (joined (slice_range bs i j))) (Some s) new ∷ drop j bs)

pub edit_same : (ends : LineEnds) (e : PositionEncoding) (bs : List LinedText) (i j : ℕ) (r s : Range) (new : List ℕ)
    → Between ends bs i j r s → lined ends (joined (edited_at ends e bs i j s new))
    ≡ edited e (lined ends (joined bs)) (Some r) new
edit_same ends e bs i j r s new t =
    let l = t.in_order in
    let v : LinedText = edited e (lined ends (joined (slice_range bs i j))) (Some s) new in
    ap (lined ends) (
    joined-append (take i bs) (v ∷ drop j bs)
    ∙ sym (edited_between ends e (joined (take i bs)) (joined (slice_range bs i j)) (joined (drop j bs)) new r s
    (lines_first ends bs i j r s t) t.start t.end)
    )
    ∙ ap (λ (us : List ℕ). edited e (lined ends us) (Some r) new) (sym (joined_parts bs i j (omega (arith, l))))

pub edit_blocks : (ends : LineEnds) (e : PositionEncoding) (bs : List LinedText) (i j : ℕ) (r s : Range) (new : List ℕ)
    → Between ends bs i j r s → AreBlocks ends (edited_at ends e bs i j s new)
edit_blocks ends e bs i j r s new t =
    let l = t.in_order in
    blocks_at ends bs i j (edited e (lined ends (joined (slice_range bs i j))) (Some s) new) t.blocks l t.within refl
    (λ h. lines_edited ends e (joined (slice_range bs i j)) new s (lines_between ends bs i j t.blocks (omega (arith, l))
    h) (t.start_in h) (t.end_in h))

-- as above, where the blocks are read through a slice
pub between_in : (ends : LineEnds) (us bs : List LinedText) (i k before : ℕ) (r s : Range) → us ≡ bs
    → AreBlocks ends bs → i ≤ k → k < length us → before ≡ ends_in ends (joined (take i us))
    → r.start.line ≡ before + s.start.line → r.start.character ≡ s.start.character
    → r.end.line ≡ before + s.end.line → r.end.character ≡ s.end.character
    → (k + 1 < length us → r.start.line < ends_in ends (joined (take (k + 1) us)))
    → (k + 1 < length us → r.end.line < ends_in ends (joined (take (k + 1) us))) → Between ends bs i (k + 1) r s
between_in ends us bs i k before r s q a l m b sl sc el ec sw ew =
    subst (λ vs. AreBlocks ends vs → Between ends vs i (k + 1) r s) q (λ v. between ends us i (k + 1) before r s v
    (omega (arith, l)) (omega (arith, m)) b sl sc el ec sw ew) a

-- what holds in both cases
pub either_way : {T E P : Type 0} (r : Result T E) → OnOk r P → OnErr r P → P
either_way (Ok x) p q = p
either_way (Err e) p q = q

-- ---- a text that is split into blocks

last_take : (b n : ℕ) (xs : List ℕ) → n < length xs → last_or b (take (suc n) xs) ≡ get_or xs n 0
last_take b n [] l = absurd (omega arith)
last_take b zero (x ∷ xs) l = refl
last_take b (suc n) (x ∷ xs) l = last_take x n xs (omega (arith, l))

-- bytes up to a '\n' are whole lines
pub lines_cut : (bs : List ℕ) (at end : ℕ) → at < end → end ≤ length bs → get_or bs (end - 1) 0 ≡ 10
    → AreLines (slice_range bs at end)
lines_cut bs at end l m h =
    let n : ℕ = end - 1 - at in
    let z : end - at ≡ suc n = omega (arith, l) in
    let y : at + n ≡ end - 1 = omega (arith, l) in
    let d : length (drop at bs) ≡ length bs - at = length-drop at bs in
    ap (λ k. last_or 10 (take k (drop at bs))) z ∙ last_take 10 n (drop at bs) (omega (arith, d, l, m))
    ∙ get_or-drop at bs n 0 ∙ ap (λ k. get_or bs k 0) y ∙ h

-- one more block of whole lines, before any last block
pub whole_more : (ends : LineEnds) (bs us : List LinedText) (b : LinedText)
    → ((t : LinedText) → t.ends ≡ ends → AreBlocks ends (bs ++ (t ∷ []))) → b.ends ≡ ends → AreLines b.bytes
    → us ≡ bs ++ (b ∷ []) → (t : LinedText) → t.ends ≡ ends → AreBlocks ends (us ++ (t ∷ []))
whole_more ends bs us b w e l q t f =
    let z : us ++ (t ∷ []) ≡ bs ++ (b ∷ (t ∷ [])) = ap (λ (vs : List LinedText). vs ++ (t ∷ [])) q
    ∙ append_assoc bs (b ∷ []) (t ∷ []) in
    subst (AreBlocks ends) (sym z) (blocks_put ends bs (b ∷ []) (b ∷ (t ∷ [])) (w b e) (omega arith)
    (e, (λ h. l, (f, (λ h. absurd (omega (arith, h)), tt)))))

-- a block behind others
pub joined_more : (bs us : List LinedText) (b : LinedText) (xs ys : List ℕ) → joined bs ≡ xs → b.bytes ≡ ys
    → us ≡ bs ++ (b ∷ []) → joined us ≡ xs ++ ys
joined_more bs us b xs ys p q r = ap joined r ∙ joined-append bs (b ∷ [])
    ∙ ap (λ (vs : List ℕ). joined bs ++ vs) (append-nil b.bytes ∙ q) ∙ ap (λ (vs : List ℕ). vs ++ ys) p
