-- What one line of a world's configuration lists.
use Rattle.std.proofs.Common.{◌≡◌, ◌∙◌, ℕ, ◌+◌, ◌-◌, ◌^◌, ◌<◌, arith, List, [], ◌∷◌, ◌++◌, length, take, drop, false, refl, ap, sym, All, append_assoc, length-append}
use Rattle.std.specs.Prelude.{codes}
use Rattle.std.specs.List.{before_first, after_first, position_or_len, suffix_len, prefix_len}
use Rattle.std.proofs.lemmas.List.{reverse-append, get_or_append_left, take_all}
use Rattle.std.proofs.lemmas.List.Elements.{All-get_or}
use Rattle.std.proofs.lemmas.List.Sums.{position_or_len_is}
use Rattle.std.proofs.lemmas.Str.{is_utf8-from_IsUtf8, IsUtf8-from_ascii}
use Rattle.std.proofs.Math.Seq.{get_or-append_seam, take-append_seam, drop-append-add}
use Rattle.glk_base.specs.Lines.{is_blank, trimmed_line}
use Rattle.glk_arena.specs.Config.{Lists, is_equals_sign}
use Rattle.glk_gen.specs.Packages.{package_path, package_file}
use Rattle.glk_gen_laws.proofs.LineBytes.{line_of, path_without_sign, line_ascii}

-- where the first equals sign is
sign_at : (xs ys : List ℕ) → All (λ b. is_equals_sign b ≡ false) xs → position_or_len is_equals_sign (xs ++ 61 ∷ ys) ≡ length xs
sign_at xs ys none =
    position_or_len_is is_equals_sign (xs ++ 61 ∷ ys) (length xs) 0 (omega (arith, length-append xs (61 ∷ ys)))
    (λ k inside. ap is_equals_sign (get_or_append_left xs (61 ∷ ys) 0 k inside) ∙ All-get_or (λ b. is_equals_sign b ≡ false) xs k 0 inside none)
    (λ _. ap is_equals_sign (get_or-append_seam xs 61 ys 0))

before_sign : (xs ys : List ℕ) → All (λ b. is_equals_sign b ≡ false) xs → before_first is_equals_sign (xs ++ 61 ∷ ys) ≡ xs
before_sign xs ys none = ap (λ n. take n (xs ++ 61 ∷ ys)) (sign_at xs ys none) ∙ take-append_seam xs (61 ∷ ys)

after_sign : (xs ys : List ℕ) → All (λ b. is_equals_sign b ≡ false) xs → after_first is_equals_sign (xs ++ 61 ∷ ys) ≡ ys
after_sign xs ys none = ap (λ n. drop (n + 1) (xs ++ 61 ∷ ys)) (sign_at xs ys none) ∙ drop-append-add xs (61 ∷ ys) 1

-- a line without a blank at its end
no_blank_behind : (xs : List ℕ) (y : ℕ) → is_blank y ≡ false → suffix_len is_blank (xs ++ y ∷ []) ≡ 0
no_blank_behind xs y plain = ap (prefix_len is_blank) (reverse-append xs (y ∷ [])) ∙ rw plain refl

whole_line : (line xs : List ℕ) (y : ℕ) → line ≡ xs ++ y ∷ [] → is_blank y ≡ false → take (length line - suffix_len is_blank line) line ≡ line
whole_line line xs y e plain =
    let none : suffix_len is_blank line ≡ 0 = ap (suffix_len is_blank) e ∙ no_blank_behind xs y plain in
    take_all (length line - suffix_len is_blank line) line (omega arith)

-- the line, which begins with a `p` and ends with an `a`, is whole without blanks at its ends
pub line_trimmed : (k : ℕ) → trimmed_line (line_of k) ≡ line_of k
unfolding trimmed_line
line_trimmed k =
    let front : List ℕ = codes "packagefile " ++ package_path k ++ codes "=" in
    let e : line_of k ≡ (front ++ (package_path k ++ codes ".")) ++ codes "a" =
    ap (λ (file : List ℕ). front ++ file) (sym (append_assoc (package_path k) (codes ".") (codes "a"))) ∙ sym (append_assoc front (package_path k ++ codes ".") (codes "a")) in
    whole_line (line_of k) (front ++ (package_path k ++ codes ".")) 97 e refl

-- what the line lists
pub line_lists : (k : ℕ) → k < 2 ^ 64 → Lists (line_of k) (package_path k) (package_file k)
line_lists k small = record {
  text = is_utf8-from_IsUtf8 (line_of k) (IsUtf8-from_ascii (line_of k) (line_ascii k small));
  word = refl;
  path_is = sym (ap (before_first is_equals_sign) (append_assoc (package_path k) (codes "=") (package_file k)) ∙ before_sign (package_path k) (package_file k) (path_without_sign k small));
  file_is = sym (ap (after_first is_equals_sign) (append_assoc (package_path k) (codes "=") (package_file k)) ∙ after_sign (package_path k) (package_file k) (path_without_sign k small));
  some_path = omega arith;
  some_file = omega arith;
}
