-- Case by case: packages, digits and strings by their spellings.
use Rattle.std.proofs.Common.{◌≡◌, ℕ, ◌^◌, ◌<◌, Bool, true, false, List, [], ◌∷◌, ◌++◌, get_or, refl, sym, subst, arith, zero, suc, inl, inr, eqb, cond}
use Rattle.std.specs.Prelude.{decimal}
use Rattle.std.specs.List.{flat_map}
use Rattle.std.proofs.lemmas.Bool.{cases_eq, cases_lt}
use Rattle.hex.specs.Hex.{lower_digits}
use Rattle.glk_objtext.specs.Strings.{is_bare, is_low_hex, hex_value, byte_escape, string_text}
use Rattle.glk_objtext.specs.Targets.{package_text}

-- of each package that has a word of its own
abbrev pub OfWords : (ℕ → Type 0) → Type 0
OfWords P = P 0 × P 2147483647 × P 2147483646 × P 2147483645 × P 2147483644 × P 2147483643

-- what holds of these, and of each entry of an object's list, holds of each package
pub by_package : (P : ℕ → Type 0) → OfWords P → ((n : ℕ) → 0 < n → n < 2147483643 → P n) → (n : ℕ) → n < 2 ^ 31 → P n
by_package P words entry n small =
    elim (cases_eq n 0) [
      | inl e ↦ subst P (sym e) words.0
      | inr some ↦ elim (cases_lt n 2147483643) [
        | inl low ↦ entry n (omega arith) low
        | inr high ↦ elim (cases_eq n 2147483647) [
          | inl e ↦ subst P (sym e) words.1
          | inr na ↦ elim (cases_eq n 2147483646) [
            | inl e ↦ subst P (sym e) words.2
            | inr nb ↦ elim (cases_eq n 2147483645) [
              | inl e ↦ subst P (sym e) words.3
              | inr nc ↦ elim (cases_eq n 2147483644) [
                | inl e ↦ subst P (sym e) words.4
                | inr nd ↦ let e : n ≡ 2147483643 = omega arith in subst P (sym e) words.5
              ]
            ]
          ]
        ]
      ]
    ]

-- an entry is spelled as a number
pub number_spelling : (n : ℕ) → 0 < n → n < 2147483643 → package_text n ≡ decimal n
unfolding package_text
number_spelling n some low =
    let a : eqb n 0 ≡ false = grind arith in
    let b : eqb n 2147483647 ≡ false = grind arith in
    let c : eqb n 2147483646 ≡ false = grind arith in
    let d : eqb n 2147483645 ≡ false = grind arith in
    let e : eqb n 2147483644 ≡ false = grind arith in
    let f : eqb n 2147483643 ≡ false = grind arith in
    rw (a, b, c, d, e, f) refl

-- the digits that bytes are spelled in are lower-case ones, and have their values
pub digit_back : (n : ℕ) → n < 16 → (is_low_hex (get_or lower_digits n 0) ≡ true) × (hex_value (get_or lower_digits n 0) ≡ n)
unfolding is_low_hex hex_value
digit_back zero h = (refl, refl)
digit_back (suc zero) h = (refl, refl)
digit_back (suc (suc zero)) h = (refl, refl)
digit_back (suc (suc (suc zero))) h = (refl, refl)
digit_back (suc (suc (suc (suc zero)))) h = (refl, refl)
digit_back (suc (suc (suc (suc (suc zero))))) h = (refl, refl)
digit_back (suc (suc (suc (suc (suc (suc zero)))))) h = (refl, refl)
digit_back (suc (suc (suc (suc (suc (suc (suc zero))))))) h = (refl, refl)
digit_back (suc (suc (suc (suc (suc (suc (suc (suc zero)))))))) h = (refl, refl)
digit_back (suc (suc (suc (suc (suc (suc (suc (suc (suc zero))))))))) h = (refl, refl)
digit_back (suc (suc (suc (suc (suc (suc (suc (suc (suc (suc zero)))))))))) h = (refl, refl)
digit_back (suc (suc (suc (suc (suc (suc (suc (suc (suc (suc (suc zero))))))))))) h = (refl, refl)
digit_back (suc (suc (suc (suc (suc (suc (suc (suc (suc (suc (suc (suc zero)))))))))))) h = (refl, refl)
digit_back (suc (suc (suc (suc (suc (suc (suc (suc (suc (suc (suc (suc (suc zero))))))))))))) h = (refl, refl)
digit_back (suc (suc (suc (suc (suc (suc (suc (suc (suc (suc (suc (suc (suc (suc zero)))))))))))))) h = (refl, refl)
digit_back (suc (suc (suc (suc (suc (suc (suc (suc (suc (suc (suc (suc (suc (suc (suc zero))))))))))))))) h = (refl, refl)
digit_back (suc (suc (suc (suc (suc (suc (suc (suc (suc (suc (suc (suc (suc (suc (suc (suc n)))))))))))))))) h = absurd (omega arith)

-- a string is spelled bare, or quoted
by_bare : (v : Bool) (P : List ℕ → Type 0) (s : List ℕ) → is_bare s ≡ v → (is_bare s ≡ true → P s) → P (34 ∷ (flat_map byte_escape s ++ 34 ∷ []))
    → P (cond v s (34 ∷ (flat_map byte_escape s ++ 34 ∷ [])))
by_bare true P s e bare quoted = bare e
by_bare false P s e bare quoted = quoted

pub by_spelling : (P : List ℕ → Type 0) (s : List ℕ) → (is_bare s ≡ true → P s) → P (34 ∷ (flat_map byte_escape s ++ 34 ∷ [])) → P (string_text s)
unfolding string_text
by_spelling P s bare quoted = by_bare (is_bare s) P s refl bare quoted
