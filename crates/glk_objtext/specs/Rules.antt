-- The text form as a whole: the rules of its lines, and the first line that breaks one.
use Rattle.std.specs.Prelude.{◌≡◌, ◌<◌, ◌+◌, ◌-◌, ◌^◌, ◌⊎◌, min, ℕ, true, false, List, ◌∷◌, [], length}
use Rattle.glk_base.specs.Lines.{lines, trimmed_line, is_skipped}
use Rattle.glk_obj.specs.Rules.{shortest_hash, longest_hash}
use Rattle.glk_objtext.specs.Fields.{field_at}
use Rattle.glk_objtext.specs.Forms.{HasFields, IsOctets}
use Rattle.glk_objtext.specs.Kinds.{Kind, kind_word, kind_place, kind_sorts, may_follow, may_begin, HasMalformed}
use Rattle.glk_objtext.specs.Kinds.Kind.{object_line, hash_line}
use Rattle.glk_base.specs.declared.fault.Fault.{Fault}
use Rattle.glk_base.specs.declared.fault.Fault.TheVariants.{Bad, OutOfMemory}
use Rattle.glk_objtext.specs.declared.read.TextBad.{TextBad}

-- a line as its fields; the word is the field of number 0.
abbrev pub LineFields : Type 0
LineFields = List (List ℕ)

-- a line of the kind: it begins with the kind's word
abbrev pub IsOfKind : Kind → LineFields → Type 0
IsOfKind kind fields = field_at fields 0 ≡ kind_word kind

-- one of these lines is so
abbrev pub SomeLine : (LineFields → Type 0) → List LineFields → Type 0
SomeLine P [] = ⊥
SomeLine P (fields ∷ more) = P fields ⊎ SomeLine P more

-- a line of a kind that comes after this place
abbrev pub IsPast : ℕ → LineFields → Type 0
IsPast place fields = (kind : Kind) × IsOfKind kind fields × (place < kind_place kind)

-- a line of `hash` with a hash of n bytes
abbrev pub HasHashLength : ℕ → LineFields → Type 0
HasHashLength n fields = IsOfKind hash_line fields × (hash : List ℕ) × IsOctets (field_at fields 8) hash × (length hash ≡ n)

-- a line of `hash` with a hash of another number of bytes
abbrev pub HasOtherLength : ℕ → LineFields → Type 0
HasOtherLength n fields = (m : ℕ) × HasHashLength m fields × (¬ (m ≡ n))

-- the line right above, of these lines above of which the nearest comes first, may be followed so
abbrev pub MayStand : Kind → List LineFields → Type 0
MayStand kind [] = may_begin kind ≡ true
MayStand kind (fields ∷ above) = (other : Kind) × IsOfKind other fields × (may_follow kind other ≡ true)

-- the rules, by their names in messages
pub data Rule : Type 0 where
  X1 : Rule
  X2 : Rule
  X3 : Rule
  X4 : Rule
  X5 : Rule
  X6 : Rule
  X7 : Rule
  X8 : Rule

abbrev pub rule_number : Rule → ℕ
rule_number X1 = 1
rule_number X2 = 2
rule_number X3 = 3
rule_number X4 = 4
rule_number X5 = 5
rule_number X6 = 6
rule_number X7 = 7
rule_number X8 = 8

-- The line breaks the rule, under these lines, of which the nearest comes first.
abbrev pub Breaks : List LineFields → LineFields → Rule → Type 0
-- the word is of no kind
Breaks above fields X1 = (kind : Kind) → ¬ IsOfKind kind fields
-- the first line is no `object` line, or a later one is
Breaks above fields X2 = ((above ≡ []) × (¬ IsOfKind object_line fields)) ⊎ ((¬ (above ≡ [])) × IsOfKind object_line fields)
-- a line of a later kind is above
Breaks above fields X3 = (kind : Kind) × IsOfKind kind fields × (0 < kind_place kind) × SomeLine (IsPast (kind_place kind)) above
-- the number of fields is wrong
Breaks above fields X4 = (kind : Kind) × IsOfKind kind fields × (¬ (length fields ≡ length (kind_sorts kind) + 1))
-- a number or a reference is malformed, or outside its limit
Breaks above fields X5 = (kind : Kind) × IsOfKind kind fields × HasMalformed true 1 (kind_sorts kind) fields
-- a string or bytes are malformed
Breaks above fields X6 = (kind : Kind) × IsOfKind kind fields × HasMalformed false 1 (kind_sorts kind) fields
-- data, a relocation or an aux are under no definition, or in the wrong order
Breaks above fields X7 = (kind : Kind) × IsOfKind kind fields × (¬ MayStand kind above)
-- a long hash has a length out of range, or another than one above
Breaks above fields X8 =
    (n : ℕ) × HasHashLength n fields
    × ((n < shortest_hash) ⊎ ((longest_hash < n) ⊎ SomeLine (HasOtherLength n) above))

-- the line breaks this rule and none before it
pub record BreaksFirst (above : List LineFields) (fields : LineFields) (rule : Rule) : Type 0 where
  pub broken : Breaks above fields rule
  pub least : (other : Rule) → rule_number other < rule_number rule → ¬ Breaks above fields other

-- the line breaks no rule
abbrev pub IsGoodLine : List LineFields → LineFields → Type 0
IsGoodLine above fields = (rule : Rule) → ¬ Breaks above fields rule

-- the number of the next line; the last number that fits stands for all lines further on
abbrev pub next_number : ℕ → ℕ
next_number n = min (n + 1) (2 ^ 32 - 1)

-- a line that is empty or a comment says nothing
abbrev pub SaysNothing : List ℕ → Type 0
SaysNothing raw = is_skipped (trimmed_line raw) ≡ true

-- the line says what these fields hold
pub record Says (raw : List ℕ) (fields : LineFields) : Type 0 where
  pub something : is_skipped (trimmed_line raw) ≡ false
  pub split : HasFields (trimmed_line raw) fields

-- The lines say these, and each line breaks no rule under those above it. There is one line at least.
abbrev pub AreGoodLines : List LineFields → List (List ℕ) → List LineFields → Type 0
AreGoodLines above [] said = (¬ (above ≡ [])) × (said ≡ [])
AreGoodLines above (raw ∷ more) said =
    (SaysNothing raw × AreGoodLines above more said)
    ⊎ ((fields : LineFields) × Says raw fields × IsGoodLine above fields × (rest : List LineFields) × (said ≡ fields ∷ rest) × AreGoodLines (fields ∷ above) more rest)

-- The first of the lines, the first of which has number n, that breaks a rule under those above it;
-- where no line says anything, line 1 lacks the `object` line.
abbrev pub IsFirstBadLine : List LineFields → ℕ → List (List ℕ) → TextBad → Type 0
IsFirstBadLine above n [] bad = (above ≡ []) × (bad ≡ record { line = 1; rule = rule_number X2 })
IsFirstBadLine above n (raw ∷ more) bad =
    (SaysNothing raw × IsFirstBadLine above (next_number n) more bad)
    ⊎ ((fields : LineFields) × Says raw fields
    × (((rule : Rule) × BreaksFirst above fields rule × (bad ≡ record { line = n; rule = rule_number rule }))
    ⊎ (IsGoodLine above fields × IsFirstBadLine (fields ∷ above) (next_number n) more bad)))

-- the first bad line of a text, and the least rule that it breaks
abbrev pub IsFirstBadOf : List ℕ → TextBad → Type 0
IsFirstBadOf text bad = IsFirstBadLine [] 1 (lines text) bad

-- why a text may be refused: for its first bad line, or because memory ran out
abbrev pub IsRefusalOf : List ℕ → Fault TextBad → Type 0
IsRefusalOf text (Bad bad) = IsFirstBadOf text bad
IsRefusalOf text OutOfMemory = Unit {0}
