-- Imports: what is compared with a wave, what is missing, and what is listed next.
use Rattle.std.proofs.Common.{◌≡◌, ◌<◌, ◌≤◌, ◌+◌, ◌++◌, ◌∷◌, ◌||◌, ◌&&◌, not, [], ℕ, suc, Bool, true, false, List, length, get_or, drop, cond, refl, ap, sym, ◌∙◌, add-one, append_assoc, drop-cons, Option, Some, None}
use Rattle.std.specs.List.{position}
use Rattle.std.specs.Option.{unwrap_or, option_map, is_none}
use Rattle.std.specs.Str.{bytes_eq}
use Rattle.std.proofs.Math.ListN.{drop_of_length-le}
use Rattle.std.proofs.Common.{true≢false}
use Rattle.std.proofs.lemmas.List.{append-nil}
use Rattle.glk_arena.specs.World.{Package}
use Rattle.glk_arena.specs.Imports.{Import, is_among, package_fingerprint, fingerprint_in, no_fingerprint, unsafe_package}
use Rattle.glk_arena.specs.Waves.{first_uses, is_known, is_missing}
use Rattle.glk_arena.specs.ImportRefs.{no_package}
use Rattle.glk_arena.proofs.PathLemmas.{find_found, find_none}

-- the fingerprint of a path
pub print_found : (world : List Package) (path : List ℕ) (k : ℕ) → Some k ≡ position (λ p. bytes_eq path p.path) world → fingerprint_in world path ≡ package_fingerprint (get_or world k no_package)
unfolding fingerprint_in
print_found world path k is = ap (λ o. unwrap_or (option_map package_fingerprint o) no_fingerprint) (find_found (λ p. bytes_eq path p.path) world no_package k is).1

pub print_none : (world : List Package) (path : List ℕ) → None ≡ position (λ p. bytes_eq path p.path) world → fingerprint_in world path ≡ no_fingerprint
unfolding fingerprint_in
print_none world path is = ap (λ o. unwrap_or (option_map package_fingerprint o) no_fingerprint) (find_none (λ p. bytes_eq path p.path) world no_package is)

-- an import that is not known is missing where it is not listed
not_or : (a b c : Bool) → (not a && (not b && c)) ≡ (not (a || b) && c)
not_or true b c = refl
not_or false b c = refl

pub missing_is : (listed : List ℕ → Option (List ℕ)) (loaded : List (List ℕ)) (i : Import) (b : Bool) → is_known loaded i.imported ≡ b → is_missing listed loaded i ≡ (not b && is_none (listed i.imported))
unfolding is_missing
missing_is listed loaded i b h = not_or (bytes_eq i.imported unsafe_package) (is_among loaded i.imported) (is_none (listed i.imported)) ∙ ap (λ c. not c && is_none (listed i.imported)) h

-- the known names with those that a list adds
abbrev pub grown : List (List ℕ) → List (List ℕ) → List (List ℕ)
grown known names = known ++ first_uses known names

pub grown_passed : (known more : List (List ℕ)) (name : List ℕ) → is_known known name ≡ true → grown known (name ∷ more) ≡ grown known more
unfolding first_uses
grown_passed known more name h = ap (λ b. known ++ cond b (first_uses known more) (name ∷ first_uses (known ++ name ∷ []) more)) h

pub grown_new : (known more : List (List ℕ)) (name : List ℕ) → is_known known name ≡ false → grown known (name ∷ more) ≡ grown (known ++ name ∷ []) more
unfolding first_uses
grown_new known more name h = ap (λ b. known ++ cond b (first_uses known more) (name ∷ first_uses (known ++ name ∷ []) more)) h ∙ sym (append_assoc known (name ∷ []) (first_uses (known ++ name ∷ []) more))

pub grown_nil : (known : List (List ℕ)) → grown known [] ≡ known
unfolding first_uses
grown_nil known = append-nil known

-- a step of the loop over names
pub step_passed : (start known names : List (List ℕ)) (name : List ℕ) (k : ℕ) → k < length names → name ≡ get_or names k [] → is_known known name ≡ true → start ≡ grown known (drop k names) → start ≡ grown known (drop (k + 1) names)
step_passed start known names name k h is known_ e =
    e ∙ ap (grown known) (drop-cons names k [] h ∙ ap (λ n. n ∷ drop (suc k) names) (sym is)) ∙ grown_passed known (drop (suc k) names) name known_ ∙ ap (λ j. grown known (drop j names)) (sym (add-one k))

pub step_new : (start known now names : List (List ℕ)) (name : List ℕ) (k : ℕ) → k < length names → name ≡ get_or names k [] → is_known known name ≡ false → now ≡ known ++ name ∷ [] → start ≡ grown known (drop k names) → start ≡ grown now (drop (k + 1) names)
step_new start known now names name k h is new more e =
    e ∙ ap (grown known) (drop-cons names k [] h ∙ ap (λ n. n ∷ drop (suc k) names) (sym is)) ∙ grown_new known (drop (suc k) names) name new
    ∙ ap (λ j. grown (known ++ name ∷ []) (drop j names)) (sym (add-one k)) ∙ ap (λ n. grown n (drop (k + 1) names)) (sym more)

pub at_end : (start known names : List (List ℕ)) (k : ℕ) → length names ≤ k → start ≡ grown known (drop k names) → known ≡ start
at_end start known names k h e = sym (e ∙ ap (grown known) (drop_of_length-le names h) ∙ grown_nil known)

not_known : (a b : Bool) → (a || b) ≡ false → b ≡ false
not_known true b h = absurd (true≢false h)
not_known false b h = h

pub not_among : (known : List (List ℕ)) (name : List ℕ) → is_known known name ≡ false → is_among known name ≡ false
not_among known name h = not_known (bytes_eq name unsafe_package) (is_among known name) h

pub uses_known : (known : List (List ℕ)) (name : List ℕ) → is_known known name ≡ true → known ≡ known ++ first_uses known (name ∷ [])
uses_known known name h = sym (grown_nil known) ∙ sym (grown_passed known [] name h)

pub uses_new : (known : List (List ℕ)) (name : List ℕ) → is_known known name ≡ false → known ++ name ∷ [] ≡ known ++ first_uses known (name ∷ [])
uses_new known name h = sym (grown_nil (known ++ name ∷ [])) ∙ sym (grown_new known [] name h)

pub step_one : (start known now names : List (List ℕ)) (name : List ℕ) (k : ℕ) → k < length names → name ≡ get_or names k [] → now ≡ known ++ first_uses known (name ∷ [])
    → start ≡ grown known (drop k names) → start ≡ grown now (drop (k + 1) names)
step_one start known now names name k l is more e = by_test (is_known known name) refl where
  by_test : (b : Bool) → is_known known name ≡ b → start ≡ grown now (drop (k + 1) names)
  by_test true h = step_passed start known names name k l is h e ∙ ap (λ n. grown n (drop (k + 1) names)) (uses_known known name h ∙ sym more)
  by_test false h = step_new start known now names name k l is h (more ∙ sym (uses_new known name h)) e
