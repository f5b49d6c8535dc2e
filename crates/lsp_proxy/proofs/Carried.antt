-- Pieces that pass one after another.
use Rattle.std.proofs.Common.{◌≡◌, ℕ, List, [], ◌++◌, Option, append_assoc, append-nil, take-append-drop}
use Rattle.std.proofs.Common.{ap, take, drop, refl, length, ◌-◌}
use Rattle.std.proofs.lemmas.List.{take_rest}
use Rattle.std.proofs.KnownBytes.{Consumes-nil, Consumes-trans, Consumes-kept, Appends-nil, Appends-trans, Appends-kept}
use Rattle.std.specs.Io.KnownBytes.{Consumes, Appends, Keeps}
use Rattle.lsp_proxy.specs.Passing.{Carries, CarriesPart, CarriesSo, TakesPart}
use Rattle.lsp_proxy.specs.declared.passing.Ended.{Ended}
use Rattle.lsp_proxy.specs.declared.passing.Ended.TheVariants.{All, Unread, Unwritten}

pub nothing_yet : (r w : Option (List ℕ)) → Carries r r w w
nothing_yet r w = record { bytes = []; given = Consumes-nil r; taken = Appends-nil w }

pub carries_on : (a b c x y z : Option (List ℕ)) → Carries a b x y → Carries b c y z → Carries a c x z
carries_on a b c x y z p q = record {
  bytes = p.bytes ++ q.bytes;
  given = Consumes-trans a b c p.bytes q.bytes p.given q.given;
  taken = Appends-trans x y z p.bytes q.bytes p.taken q.taken;
}

-- a prefix is written behind what was written before
part_on : (a b c x y z : Option (List ℕ)) → Carries a b x y → CarriesPart b c y z → CarriesPart a c x z
part_on a b c x y z p q = record {
  bytes = p.bytes ++ q.bytes;
  given = Consumes-trans a b c p.bytes q.bytes p.given q.given;
  part = record {
    first = p.bytes ++ q.part.first;
    rest = q.part.rest;
    parts = rw append_assoc (ap (λ bs. p.bytes ++ bs) q.part.parts);
    taken = Appends-trans x y z p.bytes q.part.first p.taken q.part.taken;
  };
}

pub ends_on : (e : Ended) (a b c x y z : Option (List ℕ)) → Carries a b x y → CarriesSo e b c y z → CarriesSo e a c x z
ends_on All a b c x y z p q = (carries_on a b c x y z p q.0, q.1)
ends_on Unread a b c x y z p q = carries_on a b c x y z p q
ends_on Unwritten a b c x y z p q = part_on a b c x y z p q

-- a piece that was read, written and flushed
pub one_piece : (a b x y z : Option (List ℕ)) (bytes : List ℕ) → Consumes a b bytes → Appends x y bytes → Keeps y z
    → Carries a b x z
one_piece a b x y z bytes given taken kept = record {
  bytes = bytes;
  given = given;
  taken = Appends-kept x y z bytes taken kept;
}

-- an input that gave nothing this time
pub no_piece : (a b x : Option (List ℕ)) → Keeps a b → Carries a b x x
no_piece a b x kept = record { bytes = []; given = Consumes-kept a a b [] (Consumes-nil a) kept; taken = Appends-nil x }

-- the first bytes of a piece were written, and these are left
pub record Wrote (held holds : Option (List ℕ)) (piece rest : List ℕ) : Type 0 where
  pub first : List ℕ
  pub parts : piece ≡ first ++ rest
  pub taken : Appends held holds first

pub wrote_nothing : (w : Option (List ℕ)) (piece : List ℕ) → Wrote w w piece piece
wrote_nothing w piece = record { first = []; parts = refl; taken = Appends-nil w }

pub wrote_more : (held holds after : Option (List ℕ)) (piece rest : List ℕ) (n : ℕ) → Wrote held holds piece rest
    → Appends holds after (take n rest) → Wrote held after piece (drop n rest)
wrote_more held holds after piece rest n w more = record {
  first = w.first ++ take n rest;
  parts = rw append_assoc (rw (take-append-drop n rest) w.parts);
  taken = Appends-trans held holds after w.first (take n rest) w.taken more;
}

-- the same, with what is left as a slice from there on has it
pub wrote_from : (held holds after : Option (List ℕ)) (piece rest : List ℕ) (n : ℕ) → Wrote held holds piece rest
    → Appends holds after (take n rest) → Wrote held after piece (take (length rest - n) (drop n rest))
wrote_from held holds after piece rest n w more =
    rw (take_rest rest n) (wrote_more held holds after piece rest n w more)

pub wrote_kept : (held holds after : Option (List ℕ)) (piece rest : List ℕ) → Wrote held holds piece rest
    → Keeps holds after → Wrote held after piece rest
wrote_kept held holds after piece rest w kept = record {
  first = w.first;
  parts = w.parts;
  taken = Appends-kept held holds after w.first w.taken kept;
}

pub wrote_part : (held holds : Option (List ℕ)) (piece rest : List ℕ) → Wrote held holds piece rest
    → TakesPart held holds piece
wrote_part held holds piece rest w = record { first = w.first; rest = rest; parts = w.parts; taken = w.taken }

-- nothing is left
pub wrote_all : (held holds : Option (List ℕ)) (piece rest : List ℕ) → Wrote held holds piece rest → rest ≡ []
    → Appends held holds piece
wrote_all held holds piece rest w none = rw (w.parts, none, append-nil) w.taken
