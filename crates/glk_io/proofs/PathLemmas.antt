-- What an index in a list of files says of looking up and putting.
use Rattle.std.proofs.Common.{◌≡◌, ◌≢◌, ◌<◌, ℕ, zero, suc, true, false, cond, List, [], ◌∷◌, ◌++◌, length, get_or, Some, None, refl, sym, ap, ◌∙◌, arith}
use Rattle.std.proofs.Math.ListN.{set}
use Rattle.std.specs.Str.{bytes_eq}
use Rattle.std.proofs.lemmas.Slice.Eq.{bytes_eq-Decides}
use Rattle.glk_io.specs.Contents.{Contents, file_in, Replaces}
use Rattle.glk_io.specs.Paths.{FoundAt, IsOnce}

-- the path is itself
same : (p q : List ℕ) → q ≡ p → bytes_eq p q ≡ true
same p q e = (bytes_eq-Decides p q).1 (sym e)

-- another path is another
other_path : (p q : List ℕ) → q ≢ p → bytes_eq q p ≡ false
other_path p q ne = grind (arith, bytes_eq-Decides q p)

-- what is at index i and nowhere before is found there
pub found : (files : Contents) (path : List ℕ) (i : ℕ) → i < length files
    → ((k : ℕ) (d : List ℕ × List ℕ) → k < i → bytes_eq path (get_or files k d).0 ≡ false)
    → ((d : List ℕ × List ℕ) → (get_or files i d).0 ≡ path) → FoundAt files path i
found [] path i lt before here = absurd (omega arith)
found (e ∷ es) path zero lt before here = here e
found (e ∷ es) path (suc i) lt before here = (
  before 0 e (omega arith),
  found es path i (omega arith) (λ k d h. before (suc k) d (omega arith)) (λ d. here d),
)

-- what is nowhere is not found
pub not_found : (files : Contents) (path : List ℕ)
    → ((k : ℕ) (d : List ℕ × List ℕ) → k < length files → bytes_eq path (get_or files k d).0 ≡ false)
    → file_in files path ≡ None
not_found [] path none = refl
not_found (e ∷ es) path none =
    rw (none 0 e (omega arith)) (not_found es path (λ k d h. none (suc k) d (omega arith)))

-- the bytes at that index
pub found_bytes : (files : Contents) (path : List ℕ) (i : ℕ) (d : List ℕ × List ℕ) → FoundAt files path i
    → file_in files path ≡ Some (get_or files i d).1
found_bytes [] path i d at = absurd at
found_bytes (e ∷ es) path zero d at = rw (same path e.0 at) refl
found_bytes (e ∷ es) path (suc i) d at = rw at.0 (found_bytes es path i d at.1)

-- putting bytes at that index
pub set_there : (files : Contents) (path name bytes : List ℕ) (i : ℕ) → FoundAt files path i → name ≡ path
    → file_in (set files i (name, bytes)) path ≡ Some bytes
set_there [] path name bytes i at e = absurd at
set_there (f ∷ fs) path name bytes zero at e = rw (same path name e) refl
set_there (f ∷ fs) path name bytes (suc i) at e = rw at.0 (set_there fs path name bytes i at.1 e)

set_others : (files : Contents) (path name bytes : List ℕ) (i : ℕ) → FoundAt files path i → name ≡ path
    → (other : List ℕ) → other ≢ path → file_in (set files i (name, bytes)) other ≡ file_in files other
set_others [] path name bytes i at e other ne = absurd at
set_others (f ∷ fs) path name bytes zero at e other ne =
    let f_is : bytes_eq other f.0 ≡ false = rw at (other_path path other ne) in
    let n_is : bytes_eq other name ≡ false = rw e (other_path path other ne) in
    rw (f_is, n_is) refl
set_others (f ∷ fs) path name bytes (suc i) at e other ne =
    ap (λ r. cond (bytes_eq other f.0) (Some f.1) r) (set_others fs path name bytes i at.1 e other ne)

pub set_replaces : (files : Contents) (path name bytes : List ℕ) (i : ℕ) → FoundAt files path i → name ≡ path
    → Replaces files (set files i (name, bytes)) path bytes
set_replaces files path name bytes i at e = record {
  there = set_there files path name bytes i at e;
  others = set_others files path name bytes i at e;
}

-- putting bytes at the end
push_there : (files : Contents) (path bytes : List ℕ) → file_in files path ≡ None
    → file_in (files ++ (path, bytes) ∷ []) path ≡ Some bytes
push_there [] path bytes none = rw (same path path refl) refl
push_there (f ∷ fs) path bytes none =
    elim (bytes_eq path f.0) as (λ b. cond b (Some f.1) (file_in fs path) ≡ None → cond b (Some f.1) (file_in (fs ++ (path, bytes) ∷ []) path) ≡ Some bytes)
    [ true ↦ λ h. cc | false ↦ λ h. push_there fs path bytes h ] none

push_others : (files : Contents) (path bytes : List ℕ) (other : List ℕ) → other ≢ path
    → file_in (files ++ (path, bytes) ∷ []) other ≡ file_in files other
push_others [] path bytes other ne = rw (other_path path other ne) refl
push_others (f ∷ fs) path bytes other ne =
    ap (λ r. cond (bytes_eq other f.0) (Some f.1) r) (push_others fs path bytes other ne)

pub push_replaces : (files : Contents) (path bytes : List ℕ) → file_in files path ≡ None
    → Replaces files (files ++ (path, bytes) ∷ []) path bytes
push_replaces files path bytes none = record {
  there = push_there files path bytes none;
  others = push_others files path bytes;
}

-- the index is in the list
pub found_below : (files : Contents) (path : List ℕ) (i : ℕ) → FoundAt files path i → i < length files
found_below [] path i at = absurd at
found_below (e ∷ es) path zero at = omega arith
found_below (e ∷ es) path (suc i) at = omega (arith, found_below es path i at.1)

-- the path at that index
pub found_path : (files : Contents) (path : List ℕ) (i : ℕ) (d : List ℕ × List ℕ) → FoundAt files path i
    → (get_or files i d).0 ≡ path
found_path [] path i d at = absurd at
found_path (e ∷ es) path zero d at = at
found_path (e ∷ es) path (suc i) d at = found_path es path i d at.1

-- another path at the start of the list
front_other : (path name : List ℕ) → bytes_eq path name ≡ false → name ≢ path
front_other path name differs e = let is : bytes_eq path name ≡ true = same path name e in cc

-- putting bytes keeps each path once
pub set_once : (files : Contents) (path name bytes : List ℕ) (i : ℕ) → FoundAt files path i → name ≡ path
    → IsOnce files → IsOnce (set files i (name, bytes))
set_once [] path name bytes i at e once = absurd at
set_once (f ∷ fs) path name bytes zero at e once = (rw (e ∙ sym at) once.0, once.1)
set_once (f ∷ fs) path name bytes (suc i) at e once = (
  set_others fs path name bytes i at.1 e f.0 (front_other path f.0 at.0) ∙ once.0,
  set_once fs path name bytes i at.1 e once.1,
)

pub push_once : (files : Contents) (path bytes : List ℕ) → file_in files path ≡ None
    → IsOnce files → IsOnce (files ++ (path, bytes) ∷ [])
push_once [] path bytes none once = (refl, tt)
push_once (f ∷ fs) path bytes none once =
    elim (bytes_eq path f.0) as (λ b. bytes_eq path f.0 ≡ b → cond b (Some f.1) (file_in fs path) ≡ None → IsOnce ((f ∷ fs) ++ (path, bytes) ∷ [])) [
      | true ↦ λ is h. cc
      | false ↦ λ differs h. (
        push_others fs path bytes f.0 (front_other path f.0 differs) ∙ once.0,
        push_once fs path bytes h once.1,
      )
    ] refl none
