-- The strings that fields spell are those of the text form, and no others.
use Rattle.std.proofs.Common.{◌≡◌, ◌∙◌, ℕ, ◌+◌, ◌*◌, ◌/◌, ◌%◌, ◌<◌, Bool, true, false, List, [], ◌∷◌, ◌++◌, get_or, refl, ap, sym, subst, arith, cond, inl, inr, eqb, drop, append_assoc, Option, Some, None, Ok, Err}
use Rattle.std.specs.Prelude.{◌⊎◌, ◌&&◌, ◌||◌}
use Rattle.std.proofs.lemmas.Bool.{cases_eq, and_parts, eqb-true, eqb-false, false≢true, or_cases}
use Rattle.hex.specs.Hex.{lower_digits, encode_lower, encode_with}
use Rattle.glk_objtext.specs.Answers.{or_rule}
use Rattle.glk_objtext.specs.Forms.{SpellsByte, SpellsBytes, IsString}
use Rattle.glk_objtext.specs.Strings.{is_bare, is_printed, is_low_hex, hex_value, is_escaped_byte, step, inside, onto, closing, string_of}
use Rattle.glk_objtext.specs.declared.strings.Inside.{Inside}
use Rattle.glk_objtext.specs.declared.strings.Inside.TheVariants.{Plain, Pair, HighDigit, LowDigit}
use Rattle.glk_objtext.specs.declared.strings.Step.{Step}
use Rattle.glk_objtext.specs.declared.strings.Step.TheVariants.{Into, Stands, End, Broken}
use Rattle.glk_objtext.proofs.StringSteps.{one_into, one_stands, one_end, one_broken, open_end}
use Rattle.glk_objtext.proofs.Cases.{digit_back}
use Rattle.glk_objtext.proofs.StringLaws.{plain_byte, plain_pair, pair_digits, pair_quote, pair_backslash, high_digit, low_digit_gives, end_step, quoted_not_bare}
use Rattle.glk_objtext.proofs.DigitFacts.{pair_encoded}

-- which branch of a choice was taken
pub chosen : {A : Type 0} (v : Bool) (x y z : A) → cond v x y ≡ z → ((v ≡ true) × (x ≡ z)) ⊎ ((v ≡ false) × (y ≡ z))
chosen true x y z h = inl (refl, h)
chosen false x y z h = inr (refl, h)

-- What the bytes since the last whole one are.
abbrev IsPending : Inside → List ℕ → Type 0
IsPending Plain before = before ≡ []
IsPending Pair before = before ≡ 92 ∷ []
IsPending HighDigit before = before ≡ 92 ∷ 120 ∷ []
IsPending (LowDigit high) before = (c : ℕ) × (before ≡ 92 ∷ 120 ∷ c ∷ []) × (is_low_hex c ≡ true) × (hex_value c ≡ high)

-- bytes up to the closing quote, which is the last one
abbrev IsClosed : List ℕ → List ℕ → Type 0
IsClosed bytes s = (inner : List ℕ) × (bytes ≡ inner ++ 34 ∷ []) × SpellsBytes inner s

-- what a step means
abbrev StepMeans : Inside → ℕ → List ℕ → Step → Type 0
StepMeans m b before (Into next) = IsPending next (before ++ b ∷ [])
StepMeans m b before (Stands v) = SpellsByte (before ++ b ∷ []) v
StepMeans m b before End = (before ≡ []) × (b ≡ 34)
StepMeans m b before Broken = Unit {0}

plain_means : (b : ℕ) (st : Step) → step Plain b ≡ st → StepMeans Plain b [] st
unfolding step
plain_means b st h =
    elim (chosen (eqb b 34) End (cond (eqb b 92) (Into Pair) (cond (is_printed b) (Stands b) Broken)) st h) [
      | inl c ↦ subst (StepMeans Plain b []) c.1 (refl, eqb-true b 34 c.0)
      | inr c ↦ elim (chosen (eqb b 92) (Into Pair) (cond (is_printed b) (Stands b) Broken) st c.1) [
        | inl d ↦ let e : b ≡ 92 = eqb-true b 92 d.0 in subst (StepMeans Plain b []) d.1 (rw e refl)
        | inr d ↦ elim (chosen (is_printed b) (Stands b) Broken st d.1) [
          | inl f ↦ subst (StepMeans Plain b []) f.1 (inl (f.0, (eqb-false b 34 c.0, eqb-false b 92 d.0), refl))
          | inr f ↦ subst (StepMeans Plain b []) f.1 tt
        ]
      ]
    ]

either_byte : (b : ℕ) → (eqb b 34 || eqb b 92) ≡ true → (b ≡ 34) ⊎ (b ≡ 92)
either_byte b h = elim (or_cases (eqb b 34) (eqb b 92) h) [ inl q ↦ inl (eqb-true b 34 q) | inr s ↦ inr (eqb-true b 92 s) ]

pair_means : (b : ℕ) (before : List ℕ) (st : Step) → before ≡ 92 ∷ [] → step Pair b ≡ st → StepMeans Pair b before st
unfolding step
pair_means b before st is h =
    elim (chosen (eqb b 120) (Into HighDigit) (cond (eqb b 34 || eqb b 92) (Stands b) Broken) st h) [
      | inl c ↦ let e : b ≡ 120 = eqb-true b 120 c.0 in subst (StepMeans Pair b before) c.1 (rw (is, e) refl)
      | inr c ↦ elim (chosen (eqb b 34 || eqb b 92) (Stands b) Broken st c.1) [
        | inl d ↦ subst (StepMeans Pair b before) d.1 (inr (inl (either_byte b d.0, ap (λ (x : List ℕ). x ++ b ∷ []) is)))
        | inr d ↦ subst (StepMeans Pair b before) d.1 tt
      ]
    ]

high_means : (b : ℕ) (before : List ℕ) (st : Step) → before ≡ 92 ∷ 120 ∷ [] → step HighDigit b ≡ st → StepMeans HighDigit b before st
unfolding step
high_means b before st is h =
    elim (chosen (is_low_hex b) (Into (LowDigit (hex_value b))) Broken st h) [
      | inl c ↦ subst (StepMeans HighDigit b before) c.1 (b, ap (λ (x : List ℕ). x ++ b ∷ []) is, c.0, refl)
      | inr c ↦ subst (StepMeans HighDigit b before) c.1 tt
    ]

low_means : (high b : ℕ) (before : List ℕ) (st : Step) → IsPending (LowDigit high) before → step (LowDigit high) b ≡ st → StepMeans (LowDigit high) b before st
unfolding step encode_with
low_means high b before st is h =
    let v = high * 16 + hex_value b in
    elim (chosen (is_low_hex b && is_escaped_byte v) (Stands v) Broken st h) [
      | inl c ↦
          let both = and_parts (is_low_hex b) (is_escaped_byte v) c.0 in
          let range : (0 < v) × (v < 256) = let r = both.1 in grind (arith, r) in
          let value : hex_value is.0 * 16 + hex_value b ≡ v = ap (λ (n : ℕ). n * 16 + hex_value b) is.3 in
          let whole : before ++ b ∷ [] ≡ 92 ∷ 120 ∷ encode_lower (v ∷ []) =
          ap (λ (x : List ℕ). x ++ b ∷ []) is.1 ∙ ap (λ (x : List ℕ). 92 ∷ 120 ∷ x) (sym (pair_encoded is.0 b [] is.2 both.0)) ∙ ap (λ (n : ℕ). 92 ∷ 120 ∷ encode_lower (n ∷ [])) value in
          subst (StepMeans (LowDigit high) b before) c.1 (inr (inr (range.0, range.1, whole)))
      | inr c ↦ subst (StepMeans (LowDigit high) b before) c.1 tt
    ]

means : (m : Inside) (b : ℕ) (before : List ℕ) → IsPending m before → StepMeans m b before (step m b)
means Plain b before is = let e : before ≡ [] = is in rw e (plain_means b (step Plain b) refl)
means Pair b before is = pair_means b before (step Pair b) is refl
means HighDigit b before is = high_means b before (step HighDigit b) is refl
means (LowDigit high) b before is = low_means high b before (step (LowDigit high) b) is refl

none_some : {A : Type 0} (x : A) → None ≡ Some x → ⊥
none_some x h = cc

onto_some : (b : ℕ) (o : Option (List ℕ)) (s : List ℕ) → onto b o ≡ Some s → (t : List ℕ) × (o ≡ Some t) × (s ≡ b ∷ t)
onto_some b None s h = absurd (none_some s h)
onto_some b (Some t) s h = (t, refl, cc)

closing_some : (t s : List ℕ) → closing t ≡ Some s → (t ≡ []) × (s ≡ [])
closing_some [] s h = (refl, cc)
closing_some (b ∷ t) s h = absurd (none_some s h)

-- what is inside, from its bytes
back : (m : Inside) (before bytes s : List ℕ) → IsPending m before → inside m bytes ≡ Some s → IsClosed (before ++ bytes) s
back m before [] s is h = absurd (none_some s (sym (open_end m) ∙ h))
back m before (b ∷ t) s is h = go (step m b) refl (means m b before is) (λ n pre u k e. back n pre t u k e)
  where
    go : (st : Step) → step m b ≡ st → StepMeans m b before st → ((n : Inside) (pre u : List ℕ) → IsPending n pre → inside n t ≡ Some u → IsClosed (pre ++ t) u) → IsClosed (before ++ b ∷ t) s
    go (Into next) e k rec =
        let rest = rec next (before ++ b ∷ []) s k (sym (one_into m next b t e) ∙ h) in
        (rest.0, sym (append_assoc before (b ∷ []) t) ∙ rest.1, rest.2)
    go (Stands v) e k rec =
        let more = onto_some v (inside Plain t) s (sym (one_stands m b v t e) ∙ h) in
        let rest = rec Plain [] more.0 refl more.1 in
        let value = more.2 in
        let whole : before ++ b ∷ t ≡ ((before ++ b ∷ []) ++ rest.0) ++ 34 ∷ [] =
        sym (append_assoc before (b ∷ []) t) ∙ ap (λ (x : List ℕ). (before ++ b ∷ []) ++ x) rest.1 ∙ sym (append_assoc (before ++ b ∷ []) rest.0 (34 ∷ [])) in
        ((before ++ b ∷ []) ++ rest.0, whole, subst (SpellsBytes ((before ++ b ∷ []) ++ rest.0)) (sym value) (before ++ b ∷ [], rest.0, refl, k, rest.2))
    go End e k rec =
        let last = closing_some t s (sym (one_end m b t e) ∙ h) in
        let none = last.0 in
        let empty = k.0 in
        let is_quote = k.1 in
        let nothing = last.1 in
        ([], rw (empty, is_quote, none) refl, rw nothing refl)
    go Broken e k rec = absurd (none_some s (sym (one_broken m b t e) ∙ h))

-- what is inside, from what it spells
piece_inside : (piece : List ℕ) (b : ℕ) (rest : List ℕ) → SpellsByte piece b → inside Plain (piece ++ rest) ≡ onto b (inside Plain rest)
unfolding encode_with
piece_inside piece b rest (inl is) =
    let e = is.2 in
    rw e (one_stands Plain b b rest (plain_byte b (apart b 34 is.1.0) (apart b 92 is.1.1) is.0))
  where
    apart : (m n : ℕ) → ¬ (m ≡ n) → eqb m n ≡ false
    apart m n h = elim (cases_eq m n) [ inl e ↦ absurd (h e) | inr other ↦ grind arith ]
piece_inside piece b rest (inr (inl is)) =
    let e = is.1 in
    rw e (elim is.0 [
      | inl q ↦ rw q (one_into Plain Pair 92 (34 ∷ rest) plain_pair ∙ one_stands Pair 34 34 rest pair_quote)
      | inr s ↦ rw s (one_into Plain Pair 92 (92 ∷ rest) plain_pair ∙ one_stands Pair 92 92 rest pair_backslash)
    ])
piece_inside piece b rest (inr (inr is)) =
    let e = is.2 in
    let hi = get_or lower_digits (b / 16) 0 in
    let lo = get_or lower_digits (b % 16) 0 in
    let small : b < 256 = is.1 in
    let high : b / 16 < 16 = omega arith in
    let low : b % 16 < 16 = omega arith in
    let hv = (digit_back (b / 16) high).1 in
    let lv = (digit_back (b % 16) low).1 in
    let sum : b / 16 * 16 + hex_value lo ≡ b = omega (arith, lv) in
    rw e
    (one_into Plain Pair 92 (120 ∷ hi ∷ lo ∷ rest) plain_pair
    ∙ one_into Pair HighDigit 120 (hi ∷ lo ∷ rest) pair_digits
    ∙ one_into HighDigit (LowDigit (hex_value hi)) hi (lo ∷ rest) (high_digit hi (digit_back (b / 16) high).0)
    ∙ (rw hv (one_stands (LowDigit (b / 16)) lo b rest (low_digit_gives (b / 16) lo b (digit_back (b % 16) low).0 sum is.0 small))))

all_inside : (inner s : List ℕ) → SpellsBytes inner s → inside Plain (inner ++ 34 ∷ []) ≡ Some s
all_inside inner [] h = let e : inner ≡ [] = h in rw e (one_end Plain 34 [] end_step)
all_inside inner (b ∷ s) h =
    let e = h.2 in
    rw e (ap (inside Plain) (append_assoc h.0 h.1 (34 ∷ [])) ∙ piece_inside h.0 b (h.1 ++ 34 ∷ []) h.3 ∙ ap (onto b) (all_inside h.1 s h.4))

rule_ok : (o : Option (List ℕ)) (rule : ℕ) (s : List ℕ) → or_rule rule o ≡ Ok s → o ≡ Some s
rule_ok (Some t) rule s h = cc
rule_ok None rule s h = let bad : Err rule ≡ Ok s = h in cc

pub err_ok : {A : Type 0} (rule : ℕ) (x : A) → Err rule ≡ Ok x → ⊥
err_ok rule x h = cc

quoted_first : (field : List ℕ) → eqb (get_or field 0 0) 34 ≡ true → field ≡ 34 ∷ drop 1 field
quoted_first [] h = absurd (false≢true h)
quoted_first (b ∷ s) h = let e : b ≡ 34 = eqb-true b 34 h in rw e refl

-- a field that reads as a string spells it
pub string_back : (field s : List ℕ) → string_of field ≡ Ok s → IsString field s
unfolding string_of
string_back field s h =
    elim (chosen (is_bare field) (Ok field) (cond (eqb (get_or field 0 0) 34) (or_rule 6 (inside Plain (drop 1 field))) (Err 6)) (Ok s) h) [
      | inl c ↦ let e : field ≡ s = let k = c.1 in cc in inl (subst (λ (x : List ℕ). is_bare x ≡ true) e c.0, e)
      | inr c ↦ elim (chosen (eqb (get_or field 0 0) 34) (or_rule 6 (inside Plain (drop 1 field))) (Err 6) (Ok s) c.1) [
        | inl d ↦
            let rest = back Plain [] (drop 1 field) s refl (rule_ok (inside Plain (drop 1 field)) 6 s d.1) in
            inr (record { inner = rest.0; whole = quoted_first field d.0 ∙ ap (λ (x : List ℕ). 34 ∷ x) rest.1; bytes = rest.2 })
        | inr d ↦ absurd (err_ok 6 s d.1)
      ]
    ]

-- a field that spells a string reads as it
pub string_is : (field s : List ℕ) → IsString field s → string_of field ≡ Ok s
unfolding string_of
string_is field s (inl is) = let e = is.1 in let bare = is.0 in rw e (rw bare refl)
string_is field s (inr is) = let e = is.whole in let all = all_inside is.inner s is.bytes in rw e (rw (quoted_not_bare (is.inner ++ 34 ∷ [])) (rw all refl))

rule_none : (o : Option (List ℕ)) (rule : ℕ) → ((s : List ℕ) → ¬ (or_rule rule o ≡ Ok s)) → or_rule rule o ≡ Err rule
rule_none (Some s) rule h = absurd (h s refl)
rule_none None rule h = refl

-- what a field that is no string reads as
pub string_else : (field : List ℕ) → ((s : List ℕ) → ¬ (string_of field ≡ Ok s)) → string_of field ≡ Err 6
unfolding string_of
string_else field h =
    elim (is_bare field) as (λ v. ((s : List ℕ) → ¬ (cond v (Ok field) (cond (eqb (get_or field 0 0) 34) (or_rule 6 (inside Plain (drop 1 field))) (Err 6)) ≡ Ok s)) → cond v (Ok field) (cond (eqb (get_or field 0 0) 34) (or_rule 6 (inside Plain (drop 1 field))) (Err 6)) ≡ Err 6) [
      | true ↦ λ k. absurd (k field refl)
      | false ↦ λ k. elim (eqb (get_or field 0 0) 34) as (λ v. ((s : List ℕ) → ¬ (cond v (or_rule 6 (inside Plain (drop 1 field))) (Err 6) ≡ Ok s)) → cond v (or_rule 6 (inside Plain (drop 1 field))) (Err 6) ≡ Err 6) [
        | true ↦ λ j. rule_none (inside Plain (drop 1 field)) 6 j
        | false ↦ λ j. refl
      ] k
    ] h
