-- The bytes of a line of a world's configuration.
use Rattle.std.proofs.Common.{◌≡◌, ℕ, ◌^◌, ◌<◌, arith, List, ◌++◌, length, get_or, false, All, rules}
use Rattle.std.specs.Prelude.{◌==◌, codes, decimal}
use Rattle.std.specs.Int.{IsInRange}
use Rattle.std.specs.Str.{IsAscii}
use Rattle.std.specs.Str.Parse.{AllDigits, digits_value}
use Rattle.std.proofs.lemmas.Fmt.{digits_decimal, IsAscii-decimal}
use Rattle.std.proofs.lemmas.Str.{IsAscii-append}
use Rattle.std.proofs.lemmas.Str.Parse.{IsNumeralModel, numerals_by_value, tells_digits, digit_at}
use Rattle.std.proofs.lemmas.List.Elements.{All-from_recursion, All-from_get_or, All-append}
use Rattle.glk_gen.specs.Packages.{package_path, package_file}

-- a line without its newline
abbrev pub line_of : ℕ → List ℕ
line_of k = codes "packagefile " ++ package_path k ++ codes "=" ++ package_file k

own : IsNumeralModel (AllDigits 10) (digits_value 10)
own = numerals_by_value (AllDigits 10) tells_digits

-- digits are neither below `0` nor above `9`
digits_are : (k i : ℕ) → k < 2 ^ 64 → i < length (decimal k) → IsInRange 48 57 (get_or (decimal k) i 0)
digits_are k i small inside = digit_at (decimal k) i (digits_decimal own k small) inside

is_other : (b n : ℕ) → (b ≡ n → ⊥) → (b == n) ≡ false
is_other b n differs = grind arith

no_newline : (k : ℕ) → k < 2 ^ 64 → All (λ b. (b == 10) ≡ false) (decimal k)
no_newline k small = All-from_get_or (λ b. (b == 10) ≡ false) (decimal k) 0 (λ i inside. is_other _ 10 (λ e. let r = digits_are k i small inside in omega (arith, r, e)))

no_sign : (k : ℕ) → k < 2 ^ 64 → All (λ b. (b == 61) ≡ false) (decimal k)
no_sign k small = All-from_get_or (λ b. (b == 61) ≡ false) (decimal k) 0 (λ i inside. is_other _ 61 (λ e. let r = digits_are k i small inside in omega (arith, r, e)))

-- a path has no equals sign
pub path_without_sign : (k : ℕ) → k < 2 ^ 64 → All (λ b. (b == 61) ≡ false) (package_path k)
path_without_sign k small =
    let P : ℕ → Type 0 = λ b. (b == 61) ≡ false in
    All-append P (codes "p") (decimal k) (All-from_recursion P (codes "p") (search rules)) (no_sign k small)

path_without_newline : (k : ℕ) → k < 2 ^ 64 → All (λ b. (b == 10) ≡ false) (package_path k)
path_without_newline k small =
    let P : ℕ → Type 0 = λ b. (b == 10) ≡ false in
    All-append P (codes "p") (decimal k) (All-from_recursion P (codes "p") (search rules)) (no_newline k small)

-- a line has no newline
pub line_without_newline : (k : ℕ) → k < 2 ^ 64 → All (λ b. (b == 10) ≡ false) (line_of k)
line_without_newline k small =
    let P : ℕ → Type 0 = λ b. (b == 10) ≡ false in
    let path = path_without_newline k small in
    All-append P (codes "packagefile " ++ package_path k ++ codes "=") (package_file k)
    (All-append P (codes "packagefile " ++ package_path k) (codes "=")
    (All-append P (codes "packagefile ") (package_path k) (All-from_recursion P (codes "packagefile ") (search rules)) path) (All-from_recursion P (codes "=") (search rules)))
    (All-append P (package_path k) (codes ".a") path (All-from_recursion P (codes ".a") (search rules)))

-- a line is ASCII
pub line_ascii : (k : ℕ) → k < 2 ^ 64 → IsAscii (line_of k)
line_ascii k small =
    let path : IsAscii (package_path k) = IsAscii-append (codes "p") (decimal k) (search rules) (IsAscii-decimal k small) in
    IsAscii-append (codes "packagefile " ++ package_path k ++ codes "=") (package_file k)
    (IsAscii-append (codes "packagefile " ++ package_path k) (codes "=") (IsAscii-append (codes "packagefile ") (package_path k) (search rules) path) (search rules))
    (IsAscii-append (package_path k) (codes ".a") path (search rules))
