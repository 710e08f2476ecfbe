-- Reading a reference's canonical spelling gives back the reference.
use Rattle.std.proofs.Common.{◌≡◌, ℕ, ◌^◌, ◌<◌, true, false, not, List, [], ◌∷◌, ◌++◌, length, get_or, refl, ap, arith, Ok, eqb, nat_lt, codes, length-append}
use Rattle.std.specs.Prelude.{decimal}
use Rattle.std.specs.List.{list_all, position_or_len}
use Rattle.std.specs.Str.{bytes_eq}
use Rattle.std.specs.Str.Parse.{AllDigits}
use Rattle.std.proofs.lemmas.Bool.{and_parts}
use Rattle.std.proofs.Math.Seq.{take-append_seam}
use Rattle.std.proofs.Math.Seq.{drop-append-add}
use Rattle.std.proofs.lemmas.Fmt.{decimal_is_IsNumeral}
use Rattle.std.proofs.lemmas.Str.Parse.{digit_from_value}
use Rattle.glk_obj.specs.declared.records.SymRef.{SymRef}
use Rattle.glk_objtext.specs.Targets.{package_of, package_text, target_of, target_text}
use Rattle.glk_objtext.proofs.NumberFacts.{number_read}
use Rattle.glk_objtext.proofs.Cases.{OfWords, by_package, number_spelling}
use Rattle.glk_objtext.proofs.SpellingLaws.{differs, first_digit}

-- a number is no word
not_word : (n : ℕ) (w : List ℕ) → n < 2 ^ 64 → 57 < get_or w 0 0 → bytes_eq (decimal n) w ≡ false
not_word n w h letter = differs (decimal n) w (λ e. let d = first_digit n h in let k : get_or (decimal n) 0 0 ≡ get_or w 0 0 = ap (λ (l : List ℕ). get_or l 0 0) e in omega (arith, d.1, k))

entry_read : (n : ℕ) → 0 < n → n < 2147483643 → package_of (decimal n) ≡ Ok n
unfolding package_of
entry_read n some low =
    let h : n < 2 ^ 64 = omega arith in
    let z : eqb n 0 ≡ false = grind arith in
    rw (not_word n (codes "nil") h (omega arith), not_word n (codes "none") h (omega arith), not_word n (codes "h64") h (omega arith), not_word n (codes "h") h (omega arith), not_word n (codes "builtin") h (omega arith), not_word n (codes "self") h (omega arith))
    (rw (number_read 2147483643 n (omega arith) low) (rw z refl))

word_read : OfWords (λ n. package_of (package_text n) ≡ Ok n)
unfolding package_of package_text
word_read = (refl, refl, refl, refl, refl, refl)

package_read : (n : ℕ) → n < 2 ^ 31 → package_of (package_text n) ≡ Ok n
package_read n h =
    by_package (λ k. package_of (package_text k) ≡ Ok k) word_read (λ k some low. rw (number_spelling k some low) (entry_read k some low)) n h

-- where the colon is
colon_at : (p q : List ℕ) → list_all (λ b. not (eqb b 58)) p ≡ true → position_or_len (λ b. eqb b 58) (p ++ 58 ∷ q) ≡ length p
colon_at [] q h = refl
colon_at (b ∷ p) q h =
    let both = and_parts (not (eqb b 58)) (list_all (λ x. not (eqb x 58)) p) h in
    let rest = colon_at p q both.1 in
    rw both.0 (rw rest (omega arith))

digits_plain : (ds : List ℕ) → AllDigits 10 ds → list_all (λ b. not (eqb b 58)) ds ≡ true
digits_plain [] h = refl
digits_plain (d ∷ ds) h =
    let r = digit_from_value d h.0 in
    let e : eqb d 58 ≡ false = grind (arith, r) in
    rw e (digits_plain ds h.1)

-- no byte of it is a colon
abbrev IsPlain : List ℕ → Type 0
IsPlain t = list_all (λ b. not (eqb b 58)) t ≡ true

word_plain : OfWords (λ n. IsPlain (package_text n))
unfolding package_text
word_plain = (refl, refl, refl, refl, refl, refl)

entry_plain : (n : ℕ) → 0 < n → n < 2147483643 → IsPlain (package_text n)
entry_plain n some low =
    let wide : n < 2 ^ 64 = omega arith in
    rw (number_spelling n some low) (digits_plain (decimal n) (decimal_is_IsNumeral n wide).0.1)

package_plain : (n : ℕ) → n < 2 ^ 31 → IsPlain (package_text n)
package_plain n h = by_package (λ k. IsPlain (package_text k)) word_plain entry_plain n h

pub target_read : (r : SymRef) → r.pkg < 2 ^ 31 → r.sym < 2 ^ 32 → target_of (target_text r) ≡ Ok r
unfolding target_of target_text
target_read r low small =
    let p = package_text r.pkg in
    let q = decimal r.sym in
    let index = colon_at p q (package_plain r.pkg low) in
    let len = length-append p (58 ∷ q) in
    let inside : nat_lt (length p) (length (p ++ 58 ∷ q)) ≡ true = grind (arith, len) in
    let front = take-append_seam p (58 ∷ q) in
    let back = drop-append-add p (58 ∷ q) 1 in
    rw (index, inside, front, back) (rw (package_read r.pkg low) (rw (number_read 4294967296 r.sym (omega arith) small) refl))
