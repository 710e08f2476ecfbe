-- Tables of spellings.
use Rattle.std.proofs.Common.{◌≡◌, ◌+◌, ◌≤◌, ◌∙◌, ◌++◌, ℕ, Bool, true, false, List, [], ◌∷◌, length, refl, ap, sym, arith, cond, not, eqb, nat_lt, Option, Some, None, length-append}
use Rattle.std.specs.List.{position, position_or_len}
use Rattle.std.specs.Option.{option_or}
use Rattle.std.proofs.lemmas.List.Sums.{prefix_len-le-length}
use Rattle.std.specs.Str.{bytes_eq}
use Rattle.std.specs.Cmp.Lexicographic.{bytes_decides}
use Rattle.std.proofs.lemmas.List.Folds.{prefix_len-append}
use Rattle.std.proofs.lemmas.Bool.Decides.{nat_tests}
use Rattle.glk_base.specs.Paths.{escaped_spelling}
use Rattle.glk_arena.specs.Packages.{place_of_path, place_of_escaped}

or_none : (o : Option ℕ) → o ≡ option_or o None
or_none None = refl
or_none (Some n) = refl

pub put_first : (find : List ℕ → Option ℕ) (name spelling : List ℕ) (place : ℕ) → find spelling ≡ None → cond (bytes_eq name spelling) (Some place) (find name) ≡ option_or (find name) (cond (bytes_eq name spelling) (Some place) None)
put_first find name spelling place none = by_case (bytes_eq name spelling) refl where
  by_case : (b : Bool) → bytes_eq name spelling ≡ b → cond b (Some place) (find name) ≡ option_or (find name) (cond b (Some place) None)
  by_case true e = let missing : find name ≡ None = ap find ((bytes_decides name spelling).0 e) ∙ none in sym (ap (λ o. option_or o (Some place)) missing)
  by_case false e = or_none (find name)

by_place : (n l m k : ℕ) (b : Bool) → n ≤ l → k ≡ l + 1 → m ≡ cond (eqb n l) (l + cond (not b) 1 0) n
    → cond (nat_lt m k) (Some m) None ≡ option_or (cond (nat_lt n l) (Some n) None) (cond b (Some l) None)
by_place n l m k true low whole place = grind (arith, nat_tests)
by_place n l m k false low whole place = grind (arith, nat_tests)

-- the first place at which a test holds, in a list that is one longer
pub position_more : {X : Type 0} (p : X → Bool) (xs : List X) (x : X) → position p (xs ++ x ∷ []) ≡ option_or (position p xs) (cond (p x) (Some (length xs)) None)
position_more p xs x =
    let n : ℕ = position_or_len p xs in
    let low : n ≤ length xs = prefix_len-le-length (λ y. not (p y)) xs in
    let whole : length (xs ++ x ∷ []) ≡ length xs + 1 = length-append xs (x ∷ []) in
    let place : position_or_len p (xs ++ x ∷ []) ≡ cond (eqb n (length xs)) (length xs + position_or_len p (x ∷ [])) n = prefix_len-append (λ y. not (p y)) xs (x ∷ []) in
    by_place n (length xs) (position_or_len p (xs ++ x ∷ [])) (length (xs ++ x ∷ [])) (p x) low whole place

place_more : (test : List ℕ → Bool) (paths : List (List ℕ)) (path : List ℕ) (place : ℕ) (before now : Option ℕ) → length paths ≡ place → before ≡ position test paths
    → now ≡ option_or before (cond (test path) (Some place) None) → now ≡ position test (paths ++ path ∷ [])
place_more test paths path place before now long had is =
    is
    ∙ ap (λ o. option_or o (cond (test path) (Some place) None)) had
    ∙ ap (λ n. option_or (position test paths) (cond (test path) (Some n) None)) (sym long)
    ∙ sym (position_more test paths path)

-- one path more
pub path_more : (paths : List (List ℕ)) (path : List ℕ) (place : ℕ) (name : List ℕ) (before now : Option ℕ) → length paths ≡ place → before ≡ place_of_path paths name
    → now ≡ option_or before (cond (bytes_eq name path) (Some place) None) → now ≡ place_of_path (paths ++ path ∷ []) name
path_more paths path place name before now long had is = place_more (λ p. bytes_eq name p) paths path place before now long had is

pub escaped_more : (paths : List (List ℕ)) (path : List ℕ) (place : ℕ) (name : List ℕ) (before now : Option ℕ) → length paths ≡ place → before ≡ place_of_escaped paths name
    → now ≡ option_or before (cond (bytes_eq name (escaped_spelling path)) (Some place) None) → now ≡ place_of_escaped (paths ++ path ∷ []) name
escaped_more paths path place name before now long had is = place_more (λ p. bytes_eq name (escaped_spelling p)) paths path place before now long had is
