-- What several steps of a sink make together.
use Rattle.std.proofs.Common.{◌≡◌, ℕ, List, Option, Some, IfSome, IsTrue, subst, sym}
use Rattle.serde_json.specs.Data.{Data, Members, put}
use Rattle.lsp_json_write.specs.Taken.{Taken, open_object, open_member, are_before, with_key, with_value, Steps}

-- a key that comes after those before it was taken
pub key_taken : {S : Type 0} (holds : S → Taken → Type 0) (k : List ℕ) (ms : Members) (outer : Taken) (old new : S)
    → IsTrue (are_before k ms) → Steps holds (with_key k) old new → holds old (open_object ms outer)
    → holds new (open_member k ms outer)
key_taken holds k ms outer old new after step h = rw after at (step (open_object ms outer) h)

-- a member was taken
pub member_taken : {S : Type 0} (holds : S → Taken → Type 0) (k : List ℕ) (d : Data) (ms : Members) (outer : Taken)
    (old mid new : S) → IsTrue (are_before k ms) → Steps holds (with_key k) old mid
    → Steps holds (with_value d) mid new → holds old (open_object ms outer) → holds new (open_object (put k d ms) outer)
member_taken holds k d ms outer old mid new after key value h =
    value (open_member k ms outer) (key_taken holds k ms outer old mid after key h)
