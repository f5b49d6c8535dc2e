-- The steps of the loop that drives a session over a reader and a writer.
use Rattle.std.proofs.Common.{◌≡◌, refl, sym, ap, subst, ◌∙◌, inl, inr, ℕ, ◌-◌, List, [], ◌∷◌, ◌++◌}
use Rattle.std.proofs.Common.{length, length-drop, append_assoc, arith, take, drop, take_all, take-append-drop}
use Rattle.std.proofs.Common.{Bool, true, false, Option, Some, None, Result, Ok, Err}
use Rattle.std.proofs.KnownBytes.{Appends-nil, Appends-trans}
use Rattle.std.specs.Io.KnownBytes.{Appends, Consumes, Keeps}
use Rattle.std.specs.Prelude.{IfSome, IsSomeAnd, IsTrue, OnErr, OnOk}
use Rattle.lsp_message.specs.Written.{AppendsBeginning}
use Rattle.lsp_session.proofs.ByteHistory.{goes_nowhere}
use Rattle.lsp_session.specs.ByteSession.{Comes, Goes, IsEndOf, Standing}
use Rattle.lsp_session.specs.ByteSessions.{standing, unread, EndsAtFrame, PausesAtFrame}
use Rattle.lsp_session.specs.Event.{closed}
use Rattle.lsp_session.specs.Session.{Behavior}
use Rattle.lsp_session.specs.SessionRounds.{ReadsSome}
use Rattle.lsp_session.specs.TransportTurn.{IsOver}
use Rattle.lsp_session.specs.declared.loops.byte_session.ByteSession.{ByteSession}

-- n more of the bytes were written
pub wrote_more : (bytes part rest : List ℕ) (n : ℕ) (a b c : Option (List ℕ)) → bytes ≡ part ++ rest → Appends a b part
    → Appends b c (take n rest)
    → (more : List ℕ) × (bytes ≡ more ++ take (length rest - n) (drop n rest)) × Appends a c more
wrote_more bytes part rest n a b c cut old new = (
  part ++ take n rest,
  cut ∙ ap (λ l. part ++ l) (sym (take-append-drop n rest)) ∙ sym (append_assoc part (take n rest) (drop n rest))
      ∙ ap (λ l. (part ++ take n rest) ++ l) (sym (take_all (length rest - n) (drop n rest) (omega (
        arith,
        length-drop n rest,
      )))),
  Appends-trans a b c part (take n rest) old new,
)

pub on_ok : {A E : Type 0} {P : Type 0} (r : Result A E) → P → OnOk r P
on_ok (Ok x) p = p
on_ok (Err e) p = tt

pub on_err : {A E : Type 0} {P : Type 0} (r : Result A E) → P → OnErr r P
on_err (Ok x) p = tt
on_err (Err e) p = p

pub not_done : (b : Bool) → b ≡ false → (IsTrue b → ⊥)
not_done true is = absurd (cc (is))
not_done false is = λ done. cc (done)

no_bytes : (l : List ℕ) → length l ≡ 0 → l ≡ []
no_bytes [] none = refl
no_bytes (x ∷ l) none = absurd (omega (arith, none))

-- nothing was to be written
pub none_written : (a : Option (List ℕ)) (l : List ℕ) → length l ≡ 0 → Appends a a l
none_written a l none = subst (λ b. Appends a a b) (sym (no_bytes l none)) (Appends-nil a)

pub none_begun : (a : Option (List ℕ)) (l : List ℕ) → AppendsBeginning a a l
none_begun a l = ([], l, refl, Appends-nil a)

-- all that was pending was sent
pub none_pending : {S : Type 0} (new mid : ByteSession S) → standing new ≡ record (standing mid) { pending = [] }
    → (standing new).pending ≡ []
none_pending new mid sent = ap (λ (b : Standing _). b.pending) sent

module _ {S : Type 0} (may : Behavior S) (old : ByteSession S) (waits : IsOver (standing old).stage → ⊥)
    (sent : (standing old).pending ≡ []) where
  pub room : PausesAtFrame old
  room = λ more. absurd (omega (arith, more, ap length sent))

  -- the read was interrupted
  pub reads_none : (a b : Option (List ℕ)) → Keeps a b
      → IfSome a (λ text. IsSomeAnd b (λ rest. ReadsSome may old text old rest))
  reads_none None b kept = tt
  reads_none (Some text) None kept = absurd kept
  reads_none (Some text) (Some rest) kept = inl (record {
    took = [];
    split = sym kept;
    goes = goes_nowhere old.input.limits old.most_pending may (standing old) (unread old) old.end;
    frame = λ over. absurd (waits over);
    paused = room;
  })

  -- the reader is at its end
  pub reads_end : (new : ByteSession S) (a b : Option (List ℕ)) (shown : List ℕ) → Keeps a b
      → IfSome a (λ xs. length shown ≡ 0 → xs ≡ []) → length shown ≡ 0 → Comes may (standing old) closed (standing new)
      → unread new ≡ unread old → IsSomeAnd new.end (IsEndOf old.input.limits (unread old))
      → IfSome a (λ text. IsSomeAnd b (λ rest. ReadsSome may old text new rest))
  reads_end new None b shown kept end none comes same is = tt
  reads_end new (Some text) None shown kept end none comes same is = absurd kept
  reads_end new (Some text) (Some rest) shown kept end none comes same is = inr (record {
    none = end none;
    left = kept ∙ end none;
    comes = comes;
    unread_stays = same;
    end = is;
  })

  -- bytes were taken
  pub reads_bytes : (new : ByteSession S) (a b : Option (List ℕ)) (took : List ℕ) → Consumes a b took
      → Goes old.input.limits old.most_pending may (standing old) (unread old) old.end took (standing new) (unread new)
      new.end → EndsAtFrame new → PausesAtFrame new
      → IfSome a (λ text. IsSomeAnd b (λ rest. ReadsSome may old text new rest))
  reads_bytes new None b took consumes goes frame paused = tt
  reads_bytes new (Some text) None took consumes goes frame paused = absurd consumes
  reads_bytes new (Some text) (Some rest) took consumes goes frame paused = inl (record {
    took = took;
    split = consumes;
    goes = goes;
    frame = frame;
    paused = paused;
  })
