-- Where a path is in a list of files.
use Rattle.std.specs.Prelude.{◌≡◌, ℕ, zero, suc, false, None, List, [], ◌∷◌, ⊤}
use Rattle.std.specs.Str.{bytes_eq}
use Rattle.glk_io.specs.Contents.{Contents, file_in}

-- the path is at index i, and nowhere before
abbrev pub FoundAt : Contents → List ℕ → ℕ → Type 0
FoundAt [] path i = ⊥
FoundAt (e ∷ es) path zero = e.0 ≡ path
FoundAt (e ∷ es) path (suc i) = (bytes_eq path e.0 ≡ false) × FoundAt es path i

-- no path is listed twice
abbrev pub IsOnce : Contents → Type 0
IsOnce [] = ⊤
IsOnce (e ∷ es) = (file_in es e.0 ≡ None) × IsOnce es
