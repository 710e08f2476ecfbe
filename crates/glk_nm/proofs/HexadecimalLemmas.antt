-- Hexadecimal digits, written from the last to the first.
use Rattle.std.proofs.Common.{◌≡◌, ◌<◌, ◌≤◌, ◌+◌, ◌*◌, ◌/◌, ◌%◌, ◌-◌, ◌^◌, ℕ, zero, suc, List, [], ◌∷◌, length, get_or, drop, false, cond, refl, sym, ap, subst, ◌∙◌, arith, add-one, drop-cons}
use Rattle.std.specs.Prelude.{◌==◌}
use Rattle.std.proofs.lemmas.Bool.Decides.{nat_tests}
use Rattle.std.proofs.Math.ListN.{set}
use Rattle.std.proofs.Math.Nat.{pow-suc}
use Rattle.std.proofs.lemmas.List.{drop-set-lt}
use Rattle.std.specs.Fmt.{digits, digits_onto, digit_glyph}
use Rattle.glk_nm.specs.Lines.{hexadecimal}

-- there is a place before the digits of a number that has more than one
pub more_room : (rest start : ℕ) → 16 ≤ rest → rest < 16 ^ (start + 1) → (1 ≤ start) × (rest / 16 < 16 ^ start)
more_room rest zero many below = absurd (omega (arith, below))
more_room rest (suc s) many below =
    let h : rest < 16 ^ suc s * 16 = subst (λ (n : ℕ). rest < n) (ap (λ k. 16 ^ k) (add-one (suc s)) ∙ pow-suc 16 (suc s)) below in
    (omega arith, omega (arith, h))

-- the digits of a number before those that are there, at most n of them
unfoldable pub digits_before : ℕ → ℕ → List ℕ → List ℕ
digits_before n rest there = digits_onto n 16 false rest there

pub digits_all : (number : ℕ) → digits_before 64 number [] ≡ hexadecimal number
unfolding digits digits_before
digits_all number = refl

pub digits_last : (n rest : ℕ) (there : List ℕ) → rest < 16 → digits_before (suc n) rest there ≡ digit_glyph false (rest % 16) ∷ there
unfolding digits_before
digits_last n rest there few =
    let none : rest / 16 ≡ 0 = omega arith in
    ap (λ q. cond (q == 0) (digit_glyph false (rest % 16) ∷ there) (digits_onto n 16 false q (digit_glyph false (rest % 16) ∷ there))) none

pub digits_more : (n rest : ℕ) (there : List ℕ) → 16 ≤ rest → digits_before (suc n) rest there ≡ digits_before n (rest / 16) (digit_glyph false (rest % 16) ∷ there)
unfolding digits_before
digits_more n rest there many =
    let some : (rest / 16 == 0) ≡ false = grind (arith, nat_tests) in
    ap (λ b. cond b (digit_glyph false (rest % 16) ∷ there) (digits_onto n 16 false (rest / 16) (digit_glyph false (rest % 16) ∷ there))) some

-- the digits from this place on, the first of which is there
from_place : (room : List ℕ) (start : ℕ) → start < length room → drop start room ≡ get_or room start 0 ∷ drop (start + 1) room
from_place room start inside = rw add-one (drop-cons room start 0 inside)

pub ends : (room : List ℕ) (start rest number : ℕ) → start < length room → rest < 16 → get_or room start 0 ≡ digit_glyph false (rest % 16)
    → digits_before (49 + start) rest (drop (start + 1) room) ≡ hexadecimal number → drop start room ≡ hexadecimal number
ends room start rest number inside few last behind =
    let n : 49 + start ≡ suc (48 + start) = omega arith in
    from_place room start inside ∙ ap (λ d. d ∷ drop (start + 1) room) last ∙ sym (digits_last (48 + start) rest (drop (start + 1) room) few)
    ∙ ap (λ k. digits_before k rest (drop (start + 1) room)) (sym n) ∙ behind

pub goes_on : (room : List ℕ) (start rest number digit : ℕ) → start < length room → 1 ≤ start → 16 ≤ rest → get_or room start 0 ≡ digit_glyph false (rest % 16)
    → digits_before (49 + start) rest (drop (start + 1) room) ≡ hexadecimal number
    → digits_before (49 + (start - 1)) (rest / 16) (drop (start - 1 + 1) (set room (start - 1) digit)) ≡ hexadecimal number
goes_on room start rest number digit inside some many last behind =
    let n : 49 + start ≡ suc (48 + start) = omega arith in
    let m : 49 + (start - 1) ≡ 48 + start = omega arith in
    let s : start - 1 + 1 ≡ start = omega arith in
    let before : drop start (set room (start - 1) digit) ≡ drop start room = drop-set-lt start room (start - 1) digit (omega arith) in
    ap (λ k. digits_before k (rest / 16) (drop (start - 1 + 1) (set room (start - 1) digit))) m
    ∙ ap (λ k. digits_before (48 + start) (rest / 16) (drop k (set room (start - 1) digit))) s
    ∙ ap (digits_before (48 + start) (rest / 16)) (before ∙ from_place room start inside ∙ ap (λ d. d ∷ drop (start + 1) room) last)
    ∙ sym (digits_more (48 + start) rest (drop (start + 1) room) many)
    ∙ ap (λ k. digits_before k rest (drop (start + 1) room)) (sym n) ∙ behind
