-- Reading a string's canonical spelling gives back the string.
use Rattle.std.proofs.Common.{◌≡◌, ℕ, ◌+◌, ◌*◌, ◌/◌, ◌%◌, ◌<◌, ◌∙◌, Bool, true, false, List, [], ◌∷◌, ◌++◌, get_or, refl, ap, arith, suc, inl, inr, Ok, Some, eqb, append_assoc}
use Rattle.std.specs.List.{flat_map}
use Rattle.std.proofs.lemmas.Bool.{cases_eq}
use Rattle.hex.specs.Hex.{lower_digits}
use Rattle.glk_objtext.specs.Strings.{is_bare, is_bare_byte, is_printed, is_low_hex, hex_value, is_escaped_byte, step, inside, onto, string_of, byte_escape, string_text, NoZeros}
use Rattle.glk_objtext.specs.declared.strings.Inside.TheVariants.{Plain, Pair, HighDigit, LowDigit}
use Rattle.glk_objtext.specs.declared.strings.Step.TheVariants.{Into, Stands, End}
use Rattle.glk_objtext.proofs.StringSteps.{one_into, one_stands, one_end}
use Rattle.glk_objtext.proofs.Cases.{digit_back, by_spelling}

pub plain_pair : step Plain 92 ≡ Into Pair
unfolding step
plain_pair = refl

pub pair_digits : step Pair 120 ≡ Into HighDigit
unfolding step
pair_digits = refl

pub pair_quote : step Pair 34 ≡ Stands 34
unfolding step
pair_quote = refl

pub pair_backslash : step Pair 92 ≡ Stands 92
unfolding step
pair_backslash = refl

pub high_digit : (h : ℕ) → is_low_hex h ≡ true → step HighDigit h ≡ Into (LowDigit (hex_value h))
unfolding step
high_digit h low = rw low refl

pub low_digit_gives : (high l b : ℕ) → is_low_hex l ≡ true → high * 16 + hex_value l ≡ b → 0 < b → b < 256 → step (LowDigit high) l ≡ Stands b
unfolding step
low_digit_gives high l b low is some small =
    let escaped_byte : is_escaped_byte b ≡ true = grind arith in
    rw (low, is, escaped_byte) refl

pub plain_byte : (b : ℕ) → eqb b 34 ≡ false → eqb b 92 ≡ false → is_printed b ≡ true → step Plain b ≡ Stands b
unfolding step
plain_byte b q s p = rw (q, s, p) refl

pub escaped_plain : (b : ℕ) → eqb b 34 ≡ false → eqb b 92 ≡ false → is_printed b ≡ true → byte_escape b ≡ b ∷ []
unfolding byte_escape
escaped_plain b q s p = rw (q, s, p) refl

pub escaped_digits : (b : ℕ) → eqb b 34 ≡ false → eqb b 92 ≡ false → is_printed b ≡ false → byte_escape b ≡ 92 ∷ 120 ∷ get_or lower_digits (b / 16) 0 ∷ get_or lower_digits (b % 16) 0 ∷ []
unfolding byte_escape
escaped_digits b q s p = rw (q, s, p) refl

pub escaped_quote : byte_escape 34 ≡ 92 ∷ 34 ∷ []
unfolding byte_escape
escaped_quote = refl

pub escaped_backslash : byte_escape 92 ≡ 92 ∷ 92 ∷ []
unfolding byte_escape
escaped_backslash = refl

by_printed : (v : Bool) (b : ℕ) (rest : List ℕ) → is_printed b ≡ v → eqb b 34 ≡ false → eqb b 92 ≡ false → 0 < b → b < 256 → inside Plain (byte_escape b ++ rest) ≡ onto b (inside Plain rest)
by_printed true b rest p q s some small = rw (escaped_plain b q s p) (one_stands Plain b b rest (plain_byte b q s p))
by_printed false b rest p q s some small =
    let hi = get_or lower_digits (b / 16) 0 in
    let lo = get_or lower_digits (b % 16) 0 in
    let high : b / 16 < 16 = omega arith in
    let low : b % 16 < 16 = omega arith in
    let hv = (digit_back (b / 16) high).1 in
    let lv = (digit_back (b % 16) low).1 in
    let sum : b / 16 * 16 + hex_value lo ≡ b = omega (arith, lv) in
    rw (escaped_digits b q s p)
    (one_into Plain Pair 92 (120 ∷ hi ∷ lo ∷ rest) plain_pair
    ∙ one_into Pair HighDigit 120 (hi ∷ lo ∷ rest) pair_digits
    ∙ one_into HighDigit (LowDigit (hex_value hi)) hi (lo ∷ rest) (high_digit hi (digit_back (b / 16) high).0)
    ∙ (rw hv (one_stands (LowDigit (b / 16)) lo b rest (low_digit_gives (b / 16) lo b (digit_back (b % 16) low).0 sum some small))))

-- one byte, escaped where it has to be
pub inside_one : (b : ℕ) (rest : List ℕ) → 0 < b → b < 256 → inside Plain (byte_escape b ++ rest) ≡ onto b (inside Plain rest)
inside_one b rest some small =
    elim (cases_eq b 34) [
      | inl quote ↦ rw quote (rw escaped_quote (one_into Plain Pair 92 (34 ∷ rest) plain_pair ∙ one_stands Pair 34 34 rest pair_quote))
      | inr no_quote ↦ elim (cases_eq b 92) [
        | inl slash ↦ rw slash (rw escaped_backslash (one_into Plain Pair 92 (92 ∷ rest) plain_pair ∙ one_stands Pair 92 92 rest pair_backslash))
        | inr no_slash ↦
            let q : eqb b 34 ≡ false = grind arith in
            let s : eqb b 92 ≡ false = grind arith in
            by_printed (is_printed b) b rest refl q s some small
      ]
    ]

pub rest_of : (b : ℕ) (s : List ℕ) → NoZeros (b ∷ s) → NoZeros s
rest_of b s h = record { some = λ i k. h.some (suc i) (omega arith); small = λ i. h.small (suc i) }

pub end_step : step Plain 34 ≡ End
unfolding step
end_step = refl

pub inside_all : (s : List ℕ) → NoZeros s → inside Plain (flat_map byte_escape s ++ 34 ∷ []) ≡ Some s
inside_all [] h = one_end Plain 34 [] end_step
inside_all (b ∷ s) h =
    rw (append_assoc (byte_escape b) (flat_map byte_escape s) (34 ∷ []))
    (inside_one b (flat_map byte_escape s ++ 34 ∷ []) (h.some 0 (omega arith)) (h.small 0) ∙ ap (onto b) (inside_all s (rest_of b s h)))

pub quoted_not_bare : (s : List ℕ) → is_bare (34 ∷ s) ≡ false
unfolding is_bare is_bare_byte
quoted_not_bare s = refl

bare_read : (s : List ℕ) → is_bare s ≡ true → string_of s ≡ Ok s
unfolding string_of
bare_read s bare = rw bare refl

quoted_read : (s : List ℕ) → NoZeros s → string_of (34 ∷ (flat_map byte_escape s ++ 34 ∷ [])) ≡ Ok s
unfolding string_of
quoted_read s h = rw (quoted_not_bare (flat_map byte_escape s ++ 34 ∷ [])) (rw (inside_all s h) refl)

pub string_read : (s : List ℕ) → NoZeros s → string_of (string_text s) ≡ Ok s
string_read s h = by_spelling (λ t. string_of t ≡ Ok s) s (bare_read s) (quoted_read s h)
