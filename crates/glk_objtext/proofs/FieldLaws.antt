-- The fields of a spelled line: a space parts them, and none stands in a field.
use Rattle.std.proofs.Common.{◌≡◌, ℕ, ◌/◌, ◌%◌, ◌<◌, ◌∙◌, Bool, true, false, not, ◌&&◌, List, [], ◌∷◌, ◌++◌, get_or, refl, ap, sym, arith, inl, inr, eqb, append_assoc, append-nil}
use Rattle.std.specs.List.{flat_map, list_all}
use Rattle.std.proofs.lemmas.Bool.{cases_eq, and_parts, false≢true}
use Rattle.hex.specs.Hex.{lower_digits}
use Rattle.glk_objtext.specs.Fields.{next_mode, is_between, fields_from, fields}
use Rattle.glk_base.specs.Lines.{is_blank}
use Rattle.glk_objtext.specs.Strings.{is_bare_byte, is_printed, is_low_hex, byte_escape, NoZeros}
use Rattle.glk_objtext.specs.Text.{after_space}
use Rattle.glk_objtext.specs.declared.fields.Mode.{Mode}
use Rattle.glk_objtext.specs.declared.fields.Mode.TheVariants.{Between, Bare, Quoted, Escaped}
use Rattle.glk_objtext.proofs.FieldSteps.{byte_ends, byte_goes_on, at_end}
use Rattle.glk_objtext.proofs.Cases.{digit_back}
use Rattle.glk_objtext.proofs.StringLaws.{escaped_plain, escaped_digits, escaped_quote, escaped_backslash, rest_of}

-- a space ends a field that is open so
abbrev pub is_closed : Mode → Bool
is_closed Between = false
is_closed Bare = true
is_closed Quoted = false
is_closed Escaped = false

-- the bytes stay in one field, and a space behind them ends it
abbrev pub stays : Mode → List ℕ → Bool
stays m [] = is_closed m
stays m (b ∷ s) = not (is_between (next_mode m b)) && stays (next_mode m b) s

-- the last byte is there, and is no blank
abbrev pub ends_dark : List ℕ → Bool
ends_dark [] = false
ends_dark (b ∷ []) = not (is_blank b)
ends_dark (b ∷ c ∷ s) = ends_dark (c ∷ s)

-- bytes that are one field
pub record IsField (f : List ℕ) : Type 0 where
  pub one : stays Between f ≡ true
  pub printed : list_all is_printed f ≡ true
  pub dark : ends_dark f ≡ true

abbrev pub AreFields : List (List ℕ) → Type 0
AreFields [] = Unit {0}
AreFields (f ∷ fs) = IsField f × AreFields fs

pub not_so : (v : Bool) → not v ≡ true → v ≡ false
not_so true h = absurd (false≢true h)
not_so false h = refl

space_ends : is_between (next_mode Bare 32) ≡ true
unfolding next_mode
space_ends = refl

-- a field before a space
pub field_then : (m : Mode) (before f rest : List ℕ) → stays m f ≡ true → fields_from m before (f ++ 32 ∷ rest) ≡ (before ++ f) ∷ fields rest
field_then Between before [] rest h = absurd (false≢true h)
field_then Bare before [] rest h = byte_ends Bare before rest 32 space_ends ∙ ap (λ (g : List ℕ). g ∷ fields rest) (sym (append-nil before))
field_then Quoted before [] rest h = absurd (false≢true h)
field_then Escaped before [] rest h = absurd (false≢true h)
field_then m before (b ∷ f) rest h =
    let both = and_parts (not (is_between (next_mode m b))) (stays (next_mode m b) f) h in
    byte_goes_on m before (f ++ 32 ∷ rest) b (not_so (is_between (next_mode m b)) both.0)
    ∙ field_then (next_mode m b) (before ++ b ∷ []) f rest both.1
    ∙ ap (λ (g : List ℕ). g ∷ fields rest) (append_assoc before (b ∷ []) f)

-- a field at the line's end
pub field_last : (m : Mode) (before f : List ℕ) → stays m f ≡ true → fields_from m before f ≡ (before ++ f) ∷ []
field_last Between before [] h = absurd (false≢true h)
field_last Bare before [] h = at_end Bare before ∙ ap (λ (g : List ℕ). g ∷ []) (sym (append-nil before))
field_last Quoted before [] h = absurd (false≢true h)
field_last Escaped before [] h = absurd (false≢true h)
field_last m before (b ∷ f) h =
    let both = and_parts (not (is_between (next_mode m b))) (stays (next_mode m b) f) h in
    byte_goes_on m before f b (not_so (is_between (next_mode m b)) both.0)
    ∙ field_last (next_mode m b) (before ++ b ∷ []) f both.1
    ∙ ap (λ (g : List ℕ). g ∷ []) (append_assoc before (b ∷ []) f)

-- the fields of a line are those that it was made of
pub fields_back : (f : List ℕ) (fs : List (List ℕ)) → IsField f → AreFields fs → fields (f ++ flat_map after_space fs) ≡ f ∷ fs
fields_back f [] one all = ap fields (append-nil f) ∙ field_last Between [] f one.one
fields_back f (g ∷ fs) one all =
    field_then Between [] f (g ++ flat_map after_space fs) one.one
    ∙ ap (λ (gs : List (List ℕ)). f ∷ gs) (fields_back g fs all.0 all.1)

-- bytes of bare words
bare_next : (b : ℕ) → is_bare_byte b ≡ true → (next_mode Bare b ≡ Bare) × (next_mode Between b ≡ Bare)
unfolding next_mode is_bare_byte
bare_next b h =
    let s : eqb b 32 ≡ false = grind arith in
    let q : eqb b 34 ≡ false = grind arith in
    rw (s, q) (refl, refl)

bare_printed : (b : ℕ) → is_bare_byte b ≡ true → (is_printed b ≡ true) × (is_blank b ≡ false)
unfolding is_bare_byte
bare_printed b h = (grind arith, grind arith)

bare_stays : (f : List ℕ) → list_all is_bare_byte f ≡ true → stays Bare f ≡ true
bare_stays [] h = refl
bare_stays (b ∷ f) h =
    let both = and_parts (is_bare_byte b) (list_all is_bare_byte f) h in
    let next = bare_next b both.0 in
    rw next.0 (bare_stays f both.1)

bare_all_printed : (f : List ℕ) → list_all is_bare_byte f ≡ true → list_all is_printed f ≡ true
bare_all_printed [] h = refl
bare_all_printed (b ∷ f) h =
    let both = and_parts (is_bare_byte b) (list_all is_bare_byte f) h in
    let p = bare_printed b both.0 in
    rw (p.0, bare_all_printed f both.1) refl

bare_dark : (b : ℕ) (f : List ℕ) → list_all is_bare_byte (b ∷ f) ≡ true → ends_dark (b ∷ f) ≡ true
bare_dark b [] h =
    let both = and_parts (is_bare_byte b) true h in
    let p = bare_printed b both.0 in
    rw p.1 refl
bare_dark b (c ∷ f) h = bare_dark c f (and_parts (is_bare_byte b) (list_all is_bare_byte (c ∷ f)) h).1

-- bytes of bare words are one field
pub bare_field : (b : ℕ) (f : List ℕ) → list_all is_bare_byte (b ∷ f) ≡ true → IsField (b ∷ f)
bare_field b f h =
    let both = and_parts (is_bare_byte b) (list_all is_bare_byte f) h in
    let next = bare_next b both.0 in
    record { one = rw next.1 (bare_stays f both.1); printed = bare_all_printed (b ∷ f) h; dark = bare_dark b f h }

-- a last byte stays the last one
pub dark_more : (b : ℕ) (s : List ℕ) → ends_dark s ≡ true → ends_dark (b ∷ s) ≡ true
dark_more b [] h = absurd (false≢true h)
dark_more b (c ∷ s) h = h

pub dark_behind : (a s : List ℕ) → ends_dark s ≡ true → ends_dark (a ++ s) ≡ true
dark_behind [] s h = h
dark_behind (b ∷ a) s h = dark_more b (a ++ s) (dark_behind a s h)

pub printed_both : (a s : List ℕ) → list_all is_printed a ≡ true → list_all is_printed s ≡ true → list_all is_printed (a ++ s) ≡ true
printed_both [] s h k = k
printed_both (b ∷ a) s h k =
    let both = and_parts (is_printed b) (list_all is_printed a) h in
    rw (both.0, printed_both a s both.1 k) refl

-- bytes of quoted strings
digit_next : (b : ℕ) → is_low_hex b ≡ true → (next_mode Quoted b ≡ Quoted) × (is_printed b ≡ true)
unfolding next_mode is_low_hex
digit_next b h =
    let q : eqb b 34 ≡ false = grind arith in
    let s : eqb b 92 ≡ false = grind arith in
    (rw (q, s) refl, grind arith)

plain_next : (b : ℕ) → eqb b 34 ≡ false → eqb b 92 ≡ false → next_mode Quoted b ≡ Quoted
unfolding next_mode
plain_next b q s = rw (q, s) refl

pair_next : (next_mode Quoted 92 ≡ Escaped) × (next_mode Escaped 34 ≡ Quoted) × (next_mode Escaped 92 ≡ Quoted) × (next_mode Escaped 120 ≡ Quoted) × (next_mode Quoted 34 ≡ Bare) × (next_mode Between 34 ≡ Quoted)
unfolding next_mode
pair_next = (refl, refl, refl, refl, refl, refl)

-- one byte, escaped where it has to be, leaves the string open
pub record StaysOpen (b : ℕ) : Type 0 where
  pub open_still : (rest : List ℕ) → stays Quoted (byte_escape b ++ rest) ≡ stays Quoted rest
  pub printed : list_all is_printed (byte_escape b) ≡ true

by_printed : (v : Bool) (b : ℕ) → is_printed b ≡ v → eqb b 34 ≡ false → eqb b 92 ≡ false → b < 256 → StaysOpen b
by_printed true b p q s small =
    let is = escaped_plain b q s p in
    let next = plain_next b q s in
    record { open_still = λ rest. rw is (rw next refl); printed = rw is (rw p refl) }
by_printed false b p q s small =
    let is = escaped_digits b q s p in
    let high = digit_next (get_or lower_digits (b / 16) 0) ((digit_back (b / 16) (omega arith)).0) in
    let low = digit_next (get_or lower_digits (b % 16) 0) ((digit_back (b % 16) (omega arith)).0) in
    let e = pair_next.0 in
    let x = pair_next.3 in
    record { open_still = λ rest. rw is (rw (e, x, high.0, low.0) refl); printed = rw is (rw (high.1, low.1) refl) }

open_one : (b : ℕ) → b < 256 → StaysOpen b
open_one b small =
    elim (cases_eq b 34) [
      | inl quote ↦
          let e = pair_next.0 in
          let x = pair_next.1 in
          rw quote (record { open_still = λ rest. rw escaped_quote (rw (e, x) refl); printed = rw escaped_quote refl })
      | inr no_quote ↦ elim (cases_eq b 92) [
        | inl slash ↦
            let e = pair_next.0 in
            let x = pair_next.2 in
            rw slash (record { open_still = λ rest. rw escaped_backslash (rw (e, x) refl); printed = rw escaped_backslash refl })
        | inr no_slash ↦
            let q : eqb b 34 ≡ false = grind arith in
            let s : eqb b 92 ≡ false = grind arith in
            by_printed (is_printed b) b refl q s small
      ]
    ]

open_all : (s : List ℕ) → NoZeros s → stays Quoted (flat_map byte_escape s ++ 34 ∷ []) ≡ true
open_all [] h = let e = pair_next.4 in rw e refl
open_all (b ∷ s) h =
    rw (append_assoc (byte_escape b) (flat_map byte_escape s) (34 ∷ []))
    ((open_one b (h.small 0)).open_still (flat_map byte_escape s ++ 34 ∷ []) ∙ open_all s (rest_of b s h))

printed_all : (s : List ℕ) → NoZeros s → list_all is_printed (flat_map byte_escape s) ≡ true
printed_all [] h = refl
printed_all (b ∷ s) h = printed_both (byte_escape b) (flat_map byte_escape s) (open_one b (h.small 0)).printed (printed_all s (rest_of b s h))

-- a quoted string is one field
pub quoted_field : (s : List ℕ) → NoZeros s → IsField (34 ∷ (flat_map byte_escape s ++ 34 ∷ []))
quoted_field s h =
    let e = pair_next.5 in
    record {
      one = rw e (open_all s h);
      printed = printed_both (flat_map byte_escape s) (34 ∷ []) (printed_all s h) refl;
      dark = dark_more 34 (flat_map byte_escape s ++ 34 ∷ []) (dark_behind (flat_map byte_escape s) (34 ∷ []) refl);
    }

-- a line of fields has printed bytes alone, and ends with no blank
pub line_printed : (f : List ℕ) (fs : List (List ℕ)) → IsField f → AreFields fs → (list_all is_printed (f ++ flat_map after_space fs) ≡ true) × (ends_dark (f ++ flat_map after_space fs) ≡ true)
line_printed f [] one all = rw (append-nil f) (one.printed, one.dark)
line_printed f (g ∷ fs) one all =
    let more = line_printed g fs all.0 all.1 in
    (printed_both f (32 ∷ (g ++ flat_map after_space fs)) one.printed more.0, dark_behind f (32 ∷ (g ++ flat_map after_space fs)) (dark_more 32 (g ++ flat_map after_space fs) more.1))
