-- File URIs and the paths that they name (RFC 8089, RFC 3986).
use Rattle.std.specs.Prelude.{◌≡◌, ◌≢◌, ℕ, Bool, true, not, ◌||◌, ◌&&◌, ◌==◌, cond, List, [], ◌∷◌, ◌++◌, All, ◌⊎◌}
use Rattle.std.specs.Prelude.{codes, IsUtf8, false, ⊤}
use Rattle.std.specs.List.{flat_map}
use Rattle.std.specs.Char.{is_ascii_alphanumeric, is_ascii_hexdigit}
use Rattle.percent_encoding.specs.Percent.{percent_encode_byte, percent_decode}
use Rattle.lsp_types.specs.declared.file_uri.FileUriFault.{FileUriFault}
use Rattle.lsp_types.specs.declared.file_uri.FileUriFault.TheVariants.{Memory, NotFile, Host, Query, Escape, Relative}
use Rattle.lsp_types.specs.declared.file_uri.FileUriFault.TheVariants.{Nul, NotUtf8}

-- a byte of a path that stands in its URI as it is: unreserved (RFC 3986, section 2.3), or the '/' between names
abbrev pub stays : ℕ → Bool
stays b = is_ascii_alphanumeric b || b == 45 || b == 46 || b == 95 || b == 126 || b == 47

-- a byte of a path in its URI: as it is, or a '%' and two hexadecimal digits in upper case (RFC 3986, section 2.1)
abbrev pub written : ℕ → List ℕ
written b = cond (stays b) (b ∷ []) (percent_encode_byte b)

-- the URI of a path
abbrev pub uri_of : List ℕ → List ℕ
uri_of path = codes "file://" ++ flat_map written path

-- no byte of a text is this one
abbrev pub Lacks : ℕ → List ℕ → Type 0
Lacks b bs = All (λ x. x ≢ b) bs

-- a path that a URI names: it begins with '/' and has no NUL
pub record IsPath (path : List ℕ) : Type 0 where
  pub absolute : (names : List ℕ) × (path ≡ 47 ∷ names)
  pub has_no_nul : Lacks 0 path

-- two hexadecimal digits, and whatever follows
abbrev pub begins_digits : List ℕ → Bool
begins_digits [] = false
begins_digits (h ∷ []) = false
begins_digits (h ∷ l ∷ bs) = is_ascii_hexdigit h && is_ascii_hexdigit l

-- each '%' stands before two hexadecimal digits
abbrev pub is_escaped : List ℕ → Bool
is_escaped [] = true
is_escaped (b ∷ bs) = (not (b == 37) || begins_digits bs) && is_escaped bs

-- no byte begins a query or a fragment
abbrev pub IsPlain : List ℕ → Type 0
IsPlain bs = Lacks 63 bs × Lacks 35 bs

-- a file URI, and what stands behind the first '/' of its path: the host is empty or `localhost` (RFC 8089, section 2)
abbrev pub IsFileUri : List ℕ → List ℕ → Type 0
IsFileUri uri names = (uri ≡ codes "file:///" ++ names) ⊎ (uri ≡ codes "file://localhost/" ++ names)

-- what stands behind the first '/' of the path of a URI, and the path
pub record IsPathOf (names path : List ℕ) : Type 0 where
  pub plain : IsPlain names
  pub escaped : is_escaped names ≡ true
  pub decoded : path ≡ 47 ∷ percent_decode names
  pub has_no_nul : Lacks 0 path

-- the URI names the path
abbrev pub Names : List ℕ → List ℕ → Type 0
Names uri path = (names : List ℕ) × IsFileUri uri names × IsPathOf names path

-- why these names are of no path, by the fault
abbrev pub AreNoPath : FileUriFault → List ℕ → Type 0
AreNoPath Memory names = ⊤
AreNoPath Query names = IsPlain names → ⊥
AreNoPath Escape names = is_escaped names ≡ false
AreNoPath Nul names = Lacks 0 (47 ∷ percent_decode names) → ⊥
AreNoPath NotUtf8 names = IsUtf8 (47 ∷ percent_decode names) → ⊥
AreNoPath _ names = ⊥

-- why a text names no path, by the fault
abbrev pub Refuses : FileUriFault → List ℕ → Type 0
Refuses Memory uri = ⊤
Refuses NotFile uri = (rest : List ℕ) → uri ≢ codes "file://" ++ rest
Refuses Host uri =
    (rest : List ℕ) × (uri ≡ codes "file://" ++ rest)
    × ((names : List ℕ) → IsFileUri uri names → ⊥)
Refuses fault uri = (names : List ℕ) × IsFileUri uri names × AreNoPath fault names

-- when a path has no URI, by the fault
abbrev pub HasNoUri : FileUriFault → List ℕ → Type 0
HasNoUri Memory path = ⊤
HasNoUri Relative path = (names : List ℕ) → path ≢ 47 ∷ names
HasNoUri Nul path = Lacks 0 path → ⊥
HasNoUri _ path = ⊥
