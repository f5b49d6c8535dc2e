-- How a session leaves the thread that reads.
use Rattle.std.proofs.Common.{◌≡◌, ℕ, true, false, List, [], ◌∷◌, ◌++◌, sym, refl, subst, append-nil, Option}
use Rattle.std.specs.declared.io.ErrorKind.TheVariants.{Other}
use Rattle.std.specs.List.{concat}
use mathlib.Core.List.{IsPrefix}
use Rattle.lsp_message.specs.Told.{Parts}
use Rattle.lsp_message.specs.declared.frame.ReadFault.TheVariants.{Input}
use Rattle.lsp_message.specs.declared.frame.limits.Limits.{Limits}
use Rattle.lsp_relay.specs.Relay.{has_end, IsOpen, Sending}
use Rattle.lsp_relay.specs.declared.ends.Parcel.{Parcel}
use Rattle.lsp_relay.specs.declared.ends.Parcel.TheVariants as parcel
use Rattle.lsp_session.specs.declared.loops.ReadEnd.{ReadEnd}
use Rattle.lsp_session.specs.declared.loops.ReadEnd.TheVariants.{Fault}
use Rattle.lsp_threads.proofs.ContentReads.{contents_of-end, ended_parcels, reads_begin}
use Rattle.lsp_threads.specs.Contents.{Contents, contents_of, BeginsSource, HandsWhole, LeavesReading, parts_of}
use Rattle.lsp_threads.specs.Contents.{ReadsContents, Taking, TellsContents, source_of}
use Rattle.lsp_threads.specs.Passing.{OfTaken}

pub open_taken : (taken : List (Parcel Contents)) → has_end taken ≡ false → IsOpen taken
open_taken [] e = tt
open_taken (parcel.Message x ∷ rest) e = open_taken rest e
open_taken (parcel.End ∷ rest) e = absurd (cc (e))

end_in_more : (taken more : List (Parcel Contents)) → has_end taken ≡ true → has_end (taken ++ more) ≡ true
end_in_more [] more e = absurd (cc (e))
end_in_more (parcel.Message x ∷ rest) more e = end_in_more rest more e
end_in_more (parcel.End ∷ rest) more e = refl

module _ (limit : Limits) (tx : Sending Contents) (parts : Taking) where
  -- all was taken, and the thread was joined
  pub joined_reading : (known : Option (List ℕ)) (back : Sending Contents) (end : ReadEnd) (taken : Parts)
      → has_end parts.taken ≡ true → IsPrefix parts.taken back.sent
      → (back.wakeable ≡ false → parts.wakes ≡ 0) → TellsContents limit known tx end taken back → LeavesReading parts
      limit tx known taken end
  joined_reading known back end taken is settled silent tells =
      let all = tells.2 (subst (λ l. has_end l ≡ true) settled.1 (end_in_more parts.taken settled.0 is)) in
      (back, parts.taken, rw is refl, settled, silent, (λ rest ends. (all.0, all.1 rest ends, tells.0)), tells.1)

  -- not all was taken, and the thread was left to itself
  pub left_reading : (known : Option (List ℕ)) (taken : Parts) → has_end parts.taken ≡ false → parts.relay.2
      ≡ tx.wakeable → taken ≡ parts_of parts.taken
      → BeginsSource (source_of known limit) (contents_of parts.taken) (parts_of parts.taken) → (parts.relay.2 ≡ false
      → parts.wakes ≡ 0) → LeavesReading parts limit tx known taken (Fault (Input Other))
  left_reading known taken is woken same begins silent = (
    back,
    parts.taken ++ parcel.End ∷ [],
    rw is ([], refl),
    ([], append-nil (parts.taken ++ parcel.End ∷ [])),
    silent,
    rw same whole,
    rw same begins.1,
  )
    where
      back : Sending Contents
      back = record {
        relay = parts.relay.0;
        sent = parts.taken ++ parcel.End ∷ [];
        wakeable = parts.relay.2;
        source = parts.relay.1;
      }

      whole : OfTaken (parts_of parts.taken) (λ text. HandsWhole limit text tx (Fault (Input Other)) back)
      whole rest ends = (
        ended_parcels parts.taken (open_taken parts.taken is),
        subst (ReadsContents limit (concat (parts_of parts.taken) ++ rest) (Fault (Input Other)))
            (sym (contents_of-end parts.taken)) (reads_begin limit (contents_of parts.taken) (parts_of parts.taken)
            begins.0 rest),
        woken,
      )
