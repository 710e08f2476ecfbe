-- Looking a word up among those that are left.
use Rattle.std.proofs.Common.{◌≡◌, ℕ, ◌+◌, ◌<◌, List, ◌∷◌, length, drop, get_or, refl, sym, subst, add-one, drop-cons, true, false, Result, Ok}
use Rattle.std.specs.Str.{bytes_eq}
use Rattle.glk_objtext.specs.Words.{word_among, spelling}
use Rattle.glk_objtext.specs.declared.words.Word.{Word}

cut : (ws : List Word) (i : ℕ) (d : Word) → i < length ws → drop i ws ≡ get_or ws i d ∷ drop (i + 1) ws
cut ws i d h = rw (add-one, drop-cons ws i d) refl

pub word_passed : (ws : List Word) (i : ℕ) (d : Word) (field now : List ℕ) (all : Result Word ℕ) → i < length ws → word_among (drop i ws) field ≡ all
    → now ≡ spelling (get_or ws i d) → false ≡ bytes_eq field now → word_among (drop (i + 1) ws) field ≡ all
unfolding word_among
word_passed ws i d field now all h had is other =
    let P : List Word → Type 0 = λ l. word_among l field ≡ all in
    let here = subst P (cut ws i d h) had in
    let test : bytes_eq field (spelling (get_or ws i d)) ≡ false = rw (← is) (sym other) in
    rw test at here

pub word_found : (ws : List Word) (i : ℕ) (d : Word) (field now : List ℕ) (all : Result Word ℕ) → i < length ws → word_among (drop i ws) field ≡ all
    → now ≡ spelling (get_or ws i d) → true ≡ bytes_eq field now → all ≡ Ok (get_or ws i d)
unfolding word_among
word_found ws i d field now all h had is same =
    let P : List Word → Type 0 = λ l. word_among l field ≡ all in
    let here = subst P (cut ws i d h) had in
    let test : bytes_eq field (spelling (get_or ws i d)) ≡ true = rw (← is) (sym same) in
    sym (rw test at here)
